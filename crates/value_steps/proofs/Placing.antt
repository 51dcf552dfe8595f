-- The first place at which a test passes, as a loop over the places finds it.
use Rattle.std.proofs.Common.{◌≡◌, ℕ, zero, suc, ◌+◌, ◌<◌, ◌≤◌, Bool, true, false, List, [], ◌∷◌, length, Option, Some, None, refl, sym, ap, subst, arith, ◌∙◌}
use Rattle.std.specs.Prelude.{cond, nat_lt, slice_index_or}
use Rattle.std.specs.List.{position, position_or_len}
use Rattle.std.proofs.lemmas.Bool.{lt-ltb, ltb-true}

chosen : (n k : ℕ) → n < k → cond (nat_lt n k) (Some n) None ≡ Some n
chosen n k l = ap (λ (b : Bool). cond b (Some n) None) (lt-ltb n k l)

unchosen : (n k : ℕ) (b : Bool) → nat_lt n k ≡ b → k ≤ n → cond b (Some n) None ≡ None
unchosen n k true e le = let less = ltb-true n k e in absurd (omega (arith, less, le))
unchosen n k false e le = refl

module _ {X : Type 0} (p : X → Bool) where
  passed : (y : X) (ys : List X) → p y ≡ true → position_or_len p (y ∷ ys) ≡ 0
  passed y ys is = rw is refl

  failed : (y : X) (ys : List X) → p y ≡ false → position_or_len p (y ∷ ys) ≡ 1 + position_or_len p ys
  failed y ys is = rw is refl

  no_later : (y : X) (ys : List X) (n : ℕ) (b : Bool) → p y ≡ b → position_or_len p ys ≤ n → position_or_len p (y ∷ ys) ≤ suc n
  no_later y ys n true e le = let none = passed y ys e in omega (arith, none)
  no_later y ys n false e le = let one = failed y ys e in omega (arith, one, le)

  passes_at : (xs : List X) (n : ℕ) (x : X) → n < length xs → x ≡ slice_index_or xs n x → p x ≡ true → position_or_len p xs ≤ n
  passes_at [] n x l read is = absurd (omega (arith, l))
  passes_at (y ∷ ys) zero x l read is = let none = passed y ys (ap p (sym read) ∙ is) in omega (arith, none)
  passes_at (y ∷ ys) (suc n) x l read is = no_later y ys n (p y) refl (passes_at ys n x (omega (arith, l)) read is)

  one_later : (y : X) (ys : List X) (n : ℕ) (b : Bool) → p y ≡ b → (n ≤ position_or_len p ys → n + 1 ≤ position_or_len p ys) → suc n ≤ position_or_len p (y ∷ ys) → suc n + 1 ≤ position_or_len p (y ∷ ys)
  one_later y ys n true e more le = let none = passed y ys e in absurd (omega (arith, none, le))
  one_later y ys n false e more le =
      let one = failed y ys e in
      let rest = more (omega (arith, one, le)) in
      omega (arith, one, rest)

  -- the test fails at this place too
  pub fails_at : (xs : List X) (n : ℕ) (x : X) → n < length xs → x ≡ slice_index_or xs n x → p x ≡ false → n ≤ position_or_len p xs → n + 1 ≤ position_or_len p xs
  fails_at [] n x l read is le = absurd (omega (arith, l))
  fails_at (y ∷ ys) zero x l read is le = let one = failed y ys (ap p (sym read) ∙ is) in omega (arith, one)
  fails_at (y ∷ ys) (suc n) x l read is le = one_later y ys n (p y) refl (fails_at ys n x (omega (arith, l)) read is) le

  pub place_found : (xs : List X) (n : ℕ) (x : X) → n < length xs → x ≡ slice_index_or xs n x → p x ≡ true → n ≤ position_or_len p xs → Some n ≡ position p xs
  place_found xs n x l read is le =
      let low = passes_at xs n x l read is in
      let e : n ≡ position_or_len p xs = omega (arith, low, le) in
      subst (λ m. Some n ≡ cond (nat_lt m (length xs)) (Some m) None) e (sym (chosen n (length xs) l))

  pub place_missing : (xs : List X) (n : ℕ) → length xs ≤ n → n ≤ position_or_len p xs → None ≡ position p xs
  place_missing xs n past le = sym (unchosen (position_or_len p xs) (length xs) (nat_lt (position_or_len p xs) (length xs)) refl (omega (arith, past, le)))
