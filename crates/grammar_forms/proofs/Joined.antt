-- One item of a class, and what is behind, between and separated by such items.
use Rattle.std.proofs.Common.{◌≡◌, ◌+◌, ◌∷◌, ◌++◌}
use Rattle.grammar_forms.proofs.Common.{ℕ, true, cond, List, [], Some, None, sym, ap, cond_some, Row, apart, LiesInside, Reader, Good}
use Rattle.grammar_forms.specs.Rule.{has, IsOf, Behind, Within, Separated}
use Rattle.grammar_forms.specs.Reader.{item_of, behind, within, separated}
use Rattle.grammar_forms.proofs.Good.{good_made, good_then}
use Rattle.grammar_forms.proofs.Many.{good_and_many}
use Rattle.grammar_forms.proofs.Items.{good_token}

-- past the end there is nothing of the set
pub good_item : (row : Row) (set : List ℕ) → LiesInside row set → Good row (IsOf row set) (item_of row set) set []
unfolding item_of
good_item row set inside = good_token row (item_of row set) set (λ _ at. has row set at ≡ true)
    (λ at x h. let t = cond_some (has row set at) (tt, at + 1) x h in (t.0, ap (λ y. y.1) (sym t.1)))
    (λ at a h. ap (λ t. cond t (Some (tt, at + 1)) None) h)
    (λ at a h. (inside at h, h))

module _ {A : Type 0} {row : Row} {P : A → ℕ → ℕ → Type 0} {r : Reader A} {s e : List ℕ} (inner : Good row P r s e) where
  pub good_behind : (set : List ℕ) → LiesInside row set → apart s [] ≡ true → Good row (Behind row set P) (behind row set r) set e
  unfolding behind
  good_behind set inside a = good_made (λ x. x.1) (good_then (good_item row set inside) inner a)

  pub good_within : (opening closing : List ℕ) → LiesInside row opening → LiesInside row closing → apart s [] ≡ true → apart closing e ≡ true → Good row (Within row opening closing P) (within row opening closing r) opening []
  unfolding within
  good_within opening closing in_open in_close a b =
      good_made (λ x. x.1.0) (good_then (good_item row opening in_open) (good_then inner (good_item row closing in_close) b) a)

  pub good_separated : (separator : List ℕ) → LiesInside row separator → apart s [] ≡ true → apart separator e ≡ true → Good row (Separated row separator P) (separated row separator r) s (e ++ (e ++ separator))
  unfolding separated
  good_separated separator inside a b =
      good_made (λ x. x.0 ∷ x.1) (good_and_many inner (good_behind separator inside a) b b)
