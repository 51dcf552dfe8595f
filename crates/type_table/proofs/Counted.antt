-- Fields counted one by one.
use Rattle.std.proofs.Common.{◌≡◌, ℕ, ◌+◌, Bool, List, [], ◌∷◌, ◌++◌, ◌<◌, length, take, drop, get_or, add-one, drop-cons, refl, sym, ap, ap₂, ◌∙◌, arith}
use Rattle.std.specs.Prelude.{min, nat_lt}
use Rattle.std.proofs.lemmas.List.{take_more}
use Rattle.std.proofs.lemmas.List.Sums.{sum_by-append}
use Rattle.epl_tree.specs.declared.unit.EventDecl.{EventDecl}
use Rattle.epl_tree.specs.declared.unit.FieldDecl.{FieldDecl}
use Rattle.type_table.specs.Chains.{field_count, whole_width}
use Rattle.type_table.specs.Gathers.{count_of, field_faults, fields_faults}

sums : (count more a b whole : ℕ) → count ≡ min 257 a → more ≡ min 257 b → whole ≡ a + (0 + b) → min (count + more) 257 ≡ min 257 whole
sums count more a b whole p q e = omega arith

pub count_more : (kinds : List EventDecl) (before : List FieldDecl) (f : FieldDecl) (count more : ℕ) → count ≡ min 257 (count_of kinds before) → more ≡ min 257 (field_count (whole_width kinds) f.shape) → min (count + more) 257 ≡ min 257 (count_of kinds (before ++ f ∷ []))
count_more kinds before f count more h m =
    sums count more (count_of kinds before) (field_count (whole_width kinds) f.shape) (count_of kinds (before ++ f ∷ [])) h m
    (sum_by-append (λ (g : FieldDecl). field_count (whole_width kinds) g.shape) before (f ∷ []))

pub fields_more : (fs : List FieldDecl) (place : ℕ) (f : FieldDecl) → place < length fs → f ≡ get_or fs place f → take (place + 1) fs ≡ take place fs ++ f ∷ []
fields_more fs place f h is = take_more fs place f h ∙ ap (λ x. take place fs ++ x ∷ []) (sym is)

-- the faults from a field on are its own and those from the next on
pub fields_left : (kinds : List EventDecl) (fs : List FieldDecl) (place : ℕ) (f : FieldDecl) → place < length fs → f ≡ get_or fs place f → field_faults kinds (take place fs) f ++ fields_faults kinds (take (place + 1) fs) (drop (place + 1) fs) ≡ fields_faults kinds (take place fs) (drop place fs)
fields_left kinds fs place f h is =
    let here : drop place fs ≡ f ∷ drop (place + 1) fs = drop-cons fs place f h ∙ ap₂ (λ x n. x ∷ drop n fs) (sym is) (sym (add-one place)) in
    let more : take (place + 1) fs ≡ take place fs ++ f ∷ [] = take_more fs place f h ∙ ap (λ x. take place fs ++ x ∷ []) (sym is) in
    ap (λ before. field_faults kinds (take place fs) f ++ fields_faults kinds before (drop (place + 1) fs)) more
    ∙ sym (ap (fields_faults kinds (take place fs)) here)
