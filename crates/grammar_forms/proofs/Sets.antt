-- Sets of classes: what two have in common.
use Rattle.std.proofs.Common.{◌≡◌, ◌∷◌, ◌++◌}
use Rattle.grammar_forms.proofs.Common.{ℕ, Bool, true, false, List, [], refl, sym, ap, ◌∙◌, subst, Row, apart, all_in}
use Rattle.std.specs.Prelude.{◌||◌, ◌&&◌, not, ◌==◌}
use Rattle.std.proofs.lemmas.Bool.{eqb-true}
use Rattle.grammar_forms.specs.Rule.{contains, has}

or_false : (a b : Bool) → (a || b) ≡ false → (a ≡ false) × (b ≡ false)
or_false true b h = cc
or_false false b h = (refl, h)

or_left : (a b : Bool) → a ≡ true → (a || b) ≡ true
or_left true b h = refl
or_left false b h = cc

or_right : (a b : Bool) → b ≡ true → (a || b) ≡ true
or_right true b h = refl
or_right false b h = h

or_assoc : (a b c : Bool) → ((a || b) || c) ≡ (a || (b || c))
or_assoc true b c = refl
or_assoc false b c = refl

pub contains_append : (c : ℕ) (xs ys : List ℕ) → contains c (xs ++ ys) ≡ (contains c xs || contains c ys)
contains_append c [] ys = refl
contains_append c (x ∷ xs) ys =
    ap (λ b. (x == c) || b) (contains_append c xs ys) ∙ sym (or_assoc (x == c) (contains c xs) (contains c ys))

apart_head : (x : ℕ) (xs ys : List ℕ) → apart (x ∷ xs) ys ≡ true → (contains x ys ≡ false) × (apart xs ys ≡ true)
apart_head x xs ys h = halves (contains x ys) (apart xs ys) h where
  halves : (a b : Bool) → (not a && b) ≡ true → (a ≡ false) × (b ≡ true)
  halves true b h = cc
  halves false b h = (refl, h)

contains_apart : (c : ℕ) (xs ys : List ℕ) → apart xs ys ≡ true → contains c xs ≡ true → contains c ys ≡ false
contains_apart c [] ys a h = cc
contains_apart c (x ∷ xs) ys a h = by_test (contains_apart c xs ys parts.1) (x == c) refl h where
  parts : (contains x ys ≡ false) × (apart xs ys ≡ true)
  parts = apart_head x xs ys a

  by_test : (contains c xs ≡ true → contains c ys ≡ false) → (b : Bool) → (x == c) ≡ b → (b || contains c xs) ≡ true → contains c ys ≡ false
  by_test rest true e h = subst (λ n. contains n ys ≡ false) (eqb-true x c e) parts.0
  by_test rest false e h = rest h

and_true : (a b : Bool) → (a && b) ≡ true → (a ≡ true) × (b ≡ true)
and_true true b h = (refl, h)
and_true false b h = cc

contains_in : (c : ℕ) (xs ys : List ℕ) → all_in xs ys ≡ true → contains c xs ≡ true → contains c ys ≡ true
contains_in c [] ys a h = cc
contains_in c (x ∷ xs) ys a h = by_test (contains_in c xs ys parts.1) (x == c) refl h where
  parts : (contains x ys ≡ true) × (all_in xs ys ≡ true)
  parts = and_true (contains x ys) (all_in xs ys) a

  by_test : (contains c xs ≡ true → contains c ys ≡ true) → (b : Bool) → (x == c) ≡ b → (b || contains c xs) ≡ true → contains c ys ≡ true
  by_test rest true e h = subst (λ n. contains n ys ≡ true) (eqb-true x c e) parts.0
  by_test rest false e h = rest h

module _ (row : Row) where
  pub apart_here : (xs ys : List ℕ) (i : ℕ) → apart xs ys ≡ true → has row xs i ≡ true → has row ys i ≡ false
  unfolding has
  apart_here xs ys i a h = contains_apart (row.class i) xs ys a h

  pub has_left : (xs ys : List ℕ) (i : ℕ) → has row xs i ≡ true → has row (xs ++ ys) i ≡ true
  unfolding has
  has_left xs ys i h = let c = row.class i in contains_append c xs ys ∙ or_left (contains c xs) (contains c ys) h

  pub has_right : (xs ys : List ℕ) (i : ℕ) → has row ys i ≡ true → has row (xs ++ ys) i ≡ true
  unfolding has
  has_right xs ys i h = let c = row.class i in contains_append c xs ys ∙ or_right (contains c xs) (contains c ys) h

  pub has_neither : (xs ys : List ℕ) (i : ℕ) → has row (xs ++ ys) i ≡ false → (has row xs i ≡ false) × (has row ys i ≡ false)
  unfolding has
  has_neither xs ys i h = let c = row.class i in or_false (contains c xs) (contains c ys) (sym (contains_append c xs ys) ∙ h)

  pub has_in : (xs ys : List ℕ) (i : ℕ) → all_in xs ys ≡ true → has row xs i ≡ true → has row ys i ≡ true
  unfolding has
  has_in xs ys i a h = contains_in (row.class i) xs ys a h

  pub lacks_in : (xs ys : List ℕ) (i : ℕ) → all_in xs ys ≡ true → has row ys i ≡ false → has row xs i ≡ false
  lacks_in xs ys i a h = by_test (has row xs i) refl where
    by_test : (b : Bool) → has row xs i ≡ b → has row xs i ≡ false
    by_test true e = let yes = has_in xs ys i a e in cc
    by_test false e = e

pub lacks : (row : Row) (i : ℕ) → has row [] i ≡ false
unfolding has
lacks row i = refl
