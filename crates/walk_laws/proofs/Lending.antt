-- Locals that are lent or owned, as the variables of a body.
use Rattle.std.proofs.Common.{◌≡◌, ℕ, ◌+◌, ◌<◌, List, [], ◌∷◌, ◌++◌, length, map, drop, get_or, Ok, refl, sym, ap}
use Rattle.std.specs.Prelude.{slice_set}
use Rattle.epl_values.specs.declared.value.Value.{Value}
use Rattle.action_host.specs.Told.{Told}
use Rattle.body_meaning.specs.declared.run.Frame.{Frame}
use Rattle.body_meaning.specs.Runs.{M, all_behind}
use Rattle.body_meaning.specs.Paths.{set_local}
use Rattle.body_meaning.specs.Acts.{set_global}
use Rattle.walk_rules.specs.Ran.{Leads}
use Rattle.walk_rules.proofs.Leading.{leads_same}
use Rattle.path_bases.specs.declared.locals.Got.{Got}
use Rattle.path_bases.specs.Locals.{got_value, values_in, frame_of}
use Rattle.path_bases.specs.Tells.{Tells}
use Rattle.walk_laws.proofs.Looping.{all_told}

-- the values of locals behind one another
pub values_append : (xs ys : List Got) → values_in (xs ++ ys) ≡ values_in xs ++ values_in ys
values_append [] ys = refl
values_append (x ∷ xs) ys = ap (λ l. got_value x ∷ l) (values_append xs ys)

-- one more local
pub values_push : (xs : List Got) (x : Got) → values_in (xs ++ x ∷ []) ≡ values_in xs ++ got_value x ∷ []
values_push xs x = values_append xs (x ∷ [])

-- a local with another value
pub frame_set : (globals : List Value) (old new : List Got) (n : ℕ) (v : Value) → values_in new ≡ slice_set (values_in old) n v → Ok (frame_of globals new) ≡ set_local n v (frame_of globals old)
frame_set globals old new n v is = ap (λ l. Ok (record { globals = globals; locals = l })) is

-- a global with another value
pub frame_set_global : (old new : List Value) (gots : List Got) (n : ℕ) (v : Value) → new ≡ slice_set old n v → Ok (frame_of new gots) ≡ set_global n v (frame_of old gots)
frame_set_global old new gots n v is = ap (λ l. Ok (record { globals = l; locals = values_in gots })) is

-- one more argument that is lent
module _ {X : Type 0} (F : X → M Value) (gots : List Got) (items : List X) (i : ℕ) (x : X) (within : i < length items) (is : x ≡ get_or items i x) {m : M (List Value)} {t t1 t2 : Told} {f f1 f2 : Frame} (leads : Leads m t f (all_behind (values_in gots) (map F (drop i items))) t1 f1) where
  -- the values so far, with one more
  pub all_lent : (got : Got) → Tells (F x) t1 f1 t2 f2 (Ok (got_value got)) → Leads m t f (all_behind (values_in (gots ++ got ∷ [])) (map F (drop (i + 1) items))) t2 f2
  all_lent got a = leads_same (ap (λ l. all_behind l (map F (drop (i + 1) items))) (sym (values_push gots got))) (all_told F (values_in gots) items i x within is leads a)
