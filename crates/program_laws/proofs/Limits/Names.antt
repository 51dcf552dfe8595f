-- The event types of a program have different names, so each is the one of its name.
use Rattle.std.proofs.Common.{◌≡◌, ◌∷◌, ◌++◌, if◌then◌else◌}
use Rattle.program_laws.proofs.Common.{ℕ, zero, suc, length, List, [], Some, None, Bool, true, false, Option, refl, ap, sym, subst, ◌∙◌, slice_get, get_or, arith, is_some, inl, inr, list_any, bytes_eq, or_parts, position-Some, bytes_eq-Decides, Declaration, EventDecl, declarations_of, names_of, with_kind, kinds_after, kinds_of, has_name, number_in}
use Rattle.std.specs.Prelude.{◌⊎◌}
use Rattle.std.proofs.lemmas.Bool.{true≢false}
use Rattle.std.proofs.lemmas.Option.{slice_get-get_or}
use Rattle.epl_tree.specs.declared.unit.Declaration.TheVariants as declaration
use Rattle.epl_tree.specs.declared.unit.Unit.{Unit as File}
use Rattle.type_table.proofs.Chosen.{names_append}
use Rattle.type_table.proofs.Places.{position-some}
use Rattle.program_laws.proofs.Shapes.Lists.{none_isnt}

-- no two of these names are the same
abbrev pub Differ : List (List ℕ) → Type 0
Differ names = (i j : ℕ) (x y : List ℕ) → slice_get names i ≡ Some x → slice_get names j ≡ Some y → x ≡ y → i ≡ j

-- ---- a name more

no_test : {A : Type 0} (p : A → Bool) (xs : List A) (i : ℕ) (x : A) → list_any p xs ≡ false → slice_get xs i ≡ Some x → p x ≡ false
no_test p [] i x none at = none_isnt x at
no_test p (y ∷ xs) zero x none at = let same : y ≡ x = cc in ap p (sym same) ∙ (or_parts (p y) (list_any p xs) none).0
no_test p (y ∷ xs) (suc i) x none at = no_test p xs i x (or_parts (p y) (list_any p xs) none).1 at

new_name : (names : List (List ℕ)) (name : List ℕ) (i : ℕ) (x : List ℕ) → has_name names name ≡ false → slice_get names i ≡ Some x → x ≡ name → ⊥
new_name names name i x none at same =
    let no = no_test (bytes_eq name) names i x (sym (position-some (bytes_eq name) names) ∙ none) at in
    let yes : bytes_eq name x ≡ true = (bytes_eq-Decides name x).1 (sym same) in
    true≢false (sym yes ∙ no)

-- a place in a list with one more at the end
at_more : {A : Type 0} (xs : List A) (y : A) (i : ℕ) (x : A) → slice_get (xs ++ y ∷ []) i ≡ Some x → (slice_get xs i ≡ Some x) ⊎ ((i ≡ length xs) × (y ≡ x))
at_more [] y zero x at = inr (refl, cc)
at_more [] y (suc i) x at = none_isnt x at
at_more (z ∷ xs) y zero x at = inl at
at_more (z ∷ xs) y (suc i) x at = elim (at_more xs y i x at) [ inl h ↦ inl h | inr h ↦ (let e = h.0 in inr (omega (arith, e), h.1)) ]

differ_more : (names : List (List ℕ)) (name : List ℕ) → has_name names name ≡ false → Differ names → Differ (names ++ name ∷ [])
differ_more names name none differ i j x y at other same = by (at_more names name i x at) (at_more names name j y other)
  where
    by : ((slice_get names i ≡ Some x) ⊎ ((i ≡ length names) × (name ≡ x))) → ((slice_get names j ≡ Some y) ⊎ ((j ≡ length names) × (name ≡ y))) → i ≡ j
    by (inl h) (inl k) = differ i j x y h k same
    by (inl h) (inr k) = absurd (new_name names name i x none h (same ∙ sym k.1))
    by (inr h) (inl k) = absurd (new_name names name j y none k (sym same ∙ sym h.1))
    by (inr h) (inr k) = h.0 ∙ sym k.0

-- ---- event types in order

differ_kind : (acc : List EventDecl) (e : EventDecl) → Differ (names_of acc) → Differ (names_of (with_kind acc e))
differ_kind acc e differ = by (has_name (names_of acc) e.name.text) refl
  where
    by : (b : Bool) → has_name (names_of acc) e.name.text ≡ b → Differ (names_of (if b then acc else acc ++ e ∷ []))
    by true is = differ
    by false is = subst Differ (sym (names_append acc e)) (differ_more (names_of acc) e.name.text is differ)

differ_after : (acc : List EventDecl) (ds : List Declaration) → Differ (names_of acc) → Differ (names_of (kinds_after acc ds))
differ_after acc [] differ = differ
differ_after acc (declaration.Event e ∷ ds) differ = differ_after (with_kind acc e) ds (differ_kind acc e differ)
differ_after acc (declaration.Monitor m ∷ ds) differ = differ_after acc ds differ

-- no two event types have one name
pub kinds_differ : (units : List File) → Differ (names_of (kinds_of units))
kinds_differ units = differ_after [] (declarations_of units) (λ i j x y at other same. none_isnt x at)

-- ---- numbers and names

-- the number of a name is a place where it stands
pub name_at : (names : List (List ℕ)) (name : List ℕ) (n : ℕ) → number_in names name ≡ Some n → slice_get names n ≡ Some name
name_at names name n found =
    let p = position-Some (bytes_eq name) names n [] found in
    slice_get-get_or names n [] p.0 ∙ ap Some (sym ((bytes_eq-Decides name (get_or names n [])).0 p.1))

-- and where names differ, each has the number of its place
pub number_at : (names : List (List ℕ)) → Differ names → (name : List ℕ) (n : ℕ) → slice_get names n ≡ Some name → number_in names name ≡ Some n
number_at names differ name n at = by (number_in names name) refl
  where
    by : (o : Option ℕ) → number_in names name ≡ o → o ≡ Some n
    by (Some k) is = ap Some (differ k n name name (name_at names name k is) at refl)
    by None is = absurd (new_name names name n name (ap is_some is) at refl)
