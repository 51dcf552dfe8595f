-- What a reader of a form owes.
use Rattle.std.specs.Prelude.{◌≡◌, ◌<◌, ◌≤◌}
use Rattle.grammar_forms.specs.Common.{ℕ, true, false, List, Some, None}
use Rattle.grammar_forms.specs.Rule.{Row, has}
use Rattle.grammar_forms.specs.Reader.{Reader}

-- Where a tree spans up to p, what is read goes as far, and no further unless what stands at p may extend a tree.
pub record Covers {A : Type 0} (row : Row) (read : Reader A) (ext : List ℕ) (at p : ℕ) (a : A) : Type 0 where
  pub tree : A
  pub end : ℕ
  pub found : read at ≡ Some (tree, end)
  pub far : p ≤ end
  pub stops : has row ext p ≡ false → end ≡ p
  pub same : end ≡ p → tree ≡ a

-- The reader reads the longest trees of the form. They begin with a class of starts, and only a class of ext may extend one.
pub record Good {A : Type 0} (row : Row) (Is : A → ℕ → ℕ → Type 0) (read : Reader A) (starts ext : List ℕ) : Type 0 where
  pub sound : (at : ℕ) (x : A × ℕ) → read at ≡ Some x → Is x.0 at x.1
  pub moves : (a : A) (at end : ℕ) → Is a at end → (at < end) × (end ≤ row.len)
  pub begins : (a : A) (at end : ℕ) → Is a at end → has row starts at ≡ true
  pub covers : (a : A) (at p : ℕ) → Is a at p → Covers row read ext at p a

-- What is read is a tree of the form, none from its place is longer, no other is as long; and where none is read there is none.
pub record ReadsLongest {A : Type 0} (Is : A → ℕ → ℕ → Type 0) (read : Reader A) : Type 0 where
  pub tree : (at : ℕ) (x : A × ℕ) → read at ≡ Some x → Is x.0 at x.1
  pub longest : (at : ℕ) (x : A × ℕ) → read at ≡ Some x → (a : A) (end : ℕ) → Is a at end → end ≤ x.1
  pub only : (at : ℕ) (x : A × ℕ) → read at ≡ Some x → (a : A) → Is a at x.1 → a ≡ x.0
  pub nowhere : (at : ℕ) → read at ≡ None → (a : A) (end : ℕ) → Is a at end → ⊥
