-- The locals of a body: its arguments, and the defaults of further ones.
use Rattle.std.proofs.Common.{◌≡◌, ℕ, ◌+◌, ◌<◌, List, [], ◌∷◌, ◌++◌, length, map, drop, get_or, sym, ap, subst, ◌∙◌}
use Rattle.std.proofs.lemmas.List.{append_assoc}
use Rattle.epl_values.specs.declared.shape.Shape.{Shape}
use Rattle.epl_values.specs.declared.shape.EventShape.{EventShape}
use Rattle.epl_values.specs.declared.value.Value.{Value}
use Rattle.value_rules.specs.Defaults.{default_of}
use Rattle.expr_walker.proofs.Orders.{default_orderly}
use Rattle.value_steps.specs.Orderly.{IsOrderly, AreOrderly}
use Rattle.value_steps.proofs.Kept.{all_joined}
use Rattle.walk_rules.proofs.Leading.{next_mapped}
use Rattle.path_bases.specs.declared.locals.Got.{Got}
use Rattle.path_bases.specs.declared.locals.Got.TheVariants as got
use Rattle.path_bases.specs.Locals.{values_in}
use Rattle.walk_laws.proofs.Lending.{values_push}

-- one more value
pub owned_push : (old new : List Got) (values : List Value) (v : Value) → values_in old ≡ values → new ≡ old ++ got.Own v ∷ [] → values_in new ≡ values ++ v ∷ []
owned_push old new values v so is = ap values_in is ∙ values_push old (got.Own v) ∙ ap (λ l. l ++ v ∷ []) so

-- the default of one more local
pub defaults_push : (types : List EventShape) (wanted : List Value) (old new : List Got) (v : Value) (shapes : List Shape) (i : ℕ) (s : Shape) → i < length shapes → s ≡ get_or shapes i s → v ≡ default_of types s → new ≡ old ++ got.Own v ∷ [] → values_in old ++ map (default_of types) (drop i shapes) ≡ wanted → values_in new ++ map (default_of types) (drop (i + 1) shapes) ≡ wanted
defaults_push types wanted old new v shapes i s within at made is so =
    let rest : List Value = map (default_of types) (drop (i + 1) shapes) in
    ap (λ l. l ++ rest) (owned_push old new (values_in old) v (λ j. values_in old) is)
    ∙ append_assoc (values_in old) (v ∷ []) rest
    ∙ ap (λ x. values_in old ++ x ∷ rest) made
    ∙ ap (λ l. values_in old ++ l) (sym (next_mapped (default_of types) shapes i s within at))
    ∙ so

-- a default is in order
pub defaults_orderly : (types : List EventShape) (old new : List Got) (v : Value) (s : Shape) → v ≡ default_of types s → new ≡ old ++ got.Own v ∷ [] → AreOrderly (values_in old) → AreOrderly (values_in new)
defaults_orderly types old new v s made is so = subst AreOrderly (sym (owned_push old new (values_in old) v (λ j. values_in old) is)) (all_joined IsOrderly (values_in old) (v ∷ []) so (subst IsOrderly (sym made) (default_orderly types s), tt))

-- a loop over shapes that were read as a slice
module _ (types : List EventShape) (wanted : List Value) (old new : List Got) (v : Value) (shapes seen : List Shape) (i : ℕ) (s : Shape) (same : seen ≡ shapes) (within : i < length seen) (at : s ≡ get_or seen i s) where
  pub defaults_next : v ≡ default_of types s → new ≡ old ++ got.Own v ∷ [] → values_in old ++ map (default_of types) (drop i shapes) ≡ wanted → values_in new ++ map (default_of types) (drop (i + 1) shapes) ≡ wanted
  defaults_next made is so =
      let within' : i < length shapes = subst (λ l. i < length l) same within in
      let at' : s ≡ get_or shapes i s = subst (λ l. s ≡ get_or l i s) same at in
      defaults_push types wanted old new v shapes i s within' at' made is so
