-- Counts that are changed at their place.
use Rattle.std.proofs.Common.{◌≡◌, ℕ, zero, suc, ◌+◌, ◌-◌, ◌<◌, true, false, List, [], ◌∷◌, length, Some, Result, Ok, Err, refl, sym, ap, subst, ◌∙◌, arith}
use Rattle.std.proofs.lemmas.Bool.Decides.{nat_tests}
use Rattle.std.specs.Prelude.{nat_lt, slice_get, slice_set, OnOk, OnErr}
use Rattle.std.specs.List.{insert, remove}
use Rattle.action_host.specs.declared.tally.Tally.{Tally}
use Rattle.action_host.specs.Counts.{AreCounts, counted, once, uncounted}
use Rattle.action_host.proofs.Counting.{counted_order, uncounted_order}
use Rattle.plain_host.specs.Places.{amount_at, in_front, is_before}
use Rattle.plain_host.proofs.Placing.{changed_at, counted_new, gone_at, lessened_at, there, uncounted_none}

-- ---- a count that is put

set_again : {A : Type 0} (xs : List A) (n : ℕ) (a b : A) → slice_set (slice_set xs n a) n b ≡ slice_set xs n b
set_again [] n a b = refl
set_again (x ∷ xs) zero a b = refl
set_again (x ∷ xs) (suc n) a b = ap (λ ys. x ∷ ys) (set_again xs n a b)

same_one : {A : Type 0} (a b : A) → Some a ≡ Some b → a ≡ b
same_one a b e = cc

pub put_count : (old mid new : List Tally) (at count : ℕ) (was hole : Tally) → slice_get old at ≡ Some was → mid ≡ slice_set old at hole → new ≡ slice_set mid at (record was { count = count })
    → (t : Tally) → slice_get old at ≡ Some t → new ≡ slice_set old at (record t { count = count })
put_count old mid new at count was hole is first last t there =
    last ∙ ap (λ ts. slice_set ts at (record was { count = count })) first ∙ set_again old at hole (record was { count = count })
    ∙ ap (λ (u : Tally). slice_set old at (record u { count = count })) (same_one was t (sym is ∙ there))

get_within : {A : Type 0} (xs : List A) (n : ℕ) (x : A) → slice_get xs n ≡ Some x → n < length xs
get_within [] n x is = absurd (cc)
get_within (y ∷ ys) zero x is = omega arith
get_within (y ∷ ys) (suc n) x is = let h : n < length ys = get_within ys n x is in omega (arith, h)

many : (n m : ℕ) → m ≡ n → 1 < n → nat_lt 1 m ≡ true
many n m is h = grind (arith, nat_tests)

single : (n m : ℕ) → m ≡ n → n ≡ 1 → nat_lt 1 m ≡ false
single n m is h = grind (arith, nat_tests)

module _ (channel : List ℕ) (slot : ℕ) (ts : List Tally) where
  pub more_order : (new : List Tally) → AreCounts ts → new ≡ counted channel slot ts → AreCounts new
  more_order new a is = subst AreCounts (sym is) (counted_order channel slot ts a)

  pub fewer_order : (new : List Tally) → AreCounts ts → new ≡ uncounted channel slot ts → AreCounts new
  fewer_order new a is = subst AreCounts (sym is) (uncounted_order channel slot ts a)

  pub new_order : {A E : Type 0} (new : List Tally) (r : Result A E) → AreCounts ts → OnOk r (new ≡ counted channel slot ts) → OnErr r (new ≡ ts) → AreCounts new
  new_order new (Ok x) a ok err = more_order new a ok
  new_order new (Err e) a ok err = subst AreCounts (sym err) a

  pub within : (m n : ℕ) → n ≡ amount_at channel slot (slice_get ts m) → 0 < n → m < length ts
  within m n is h = let found = there channel slot (slice_get ts m) n is h in get_within ts m found.0 found.1

  -- ---- one more

  new_is : (m n : ℕ) → AreCounts ts → m ≡ in_front (is_before channel slot) ts → n ≡ amount_at channel slot (slice_get ts m) → n ≡ 0 → insert ts m (once channel slot) ≡ counted channel slot ts
  new_is m n a place is none = ap (λ k. insert ts k (once channel slot)) place ∙ counted_new channel slot ts a (sym (ap (λ k. amount_at channel slot (slice_get ts k)) place) ∙ sym is ∙ none)

  pub new_ok : {A E : Type 0} (r : Result A E) (new : List Tally) (named : List ℕ) (m n : ℕ) → AreCounts ts → m ≡ in_front (is_before channel slot) ts → n ≡ amount_at channel slot (slice_get ts m) → n ≡ 0 → named ≡ channel
      → OnOk r (new ≡ insert ts m (once named slot)) → OnOk r (new ≡ counted channel slot ts)
  new_ok (Ok x) new named m n a place is none same put = put ∙ ap (λ c. insert ts m (once c slot)) same ∙ new_is m n a place is none
  new_ok (Err e) new named m n a place is none same put = tt

  pub raised : (new : List Tally) (m n more : ℕ) → m ≡ in_front (is_before channel slot) ts → n ≡ amount_at channel slot (slice_get ts m) → 0 < n → more ≡ n + 1
      → ((t : Tally) → slice_get ts m ≡ Some t → new ≡ slice_set ts m (record t { count = more })) → new ≡ counted channel slot ts
  raised new m n more place is h more_is put =
      let found = there channel slot (slice_get ts m) n is h in
      let same : more ≡ found.0.count + 1 = more_is ∙ ap (λ k. k + 1) (sym found.3) in
      put found.0 found.1 ∙ ap (λ k. slice_set ts k (record found.0 { count = more })) place
      ∙ changed_at channel slot (record found.0 { count = more }) ts found.0 (ap (slice_get ts) (sym place) ∙ found.1) found.2 (ap (λ k. record found.0 { count = k }) same)

  -- ---- one less

  pub none_is : (m n : ℕ) → AreCounts ts → m ≡ in_front (is_before channel slot) ts → n ≡ amount_at channel slot (slice_get ts m) → n ≡ 0 → ts ≡ uncounted channel slot ts
  none_is m n a place is none = uncounted_none channel slot ts a (sym (ap (λ k. amount_at channel slot (slice_get ts k)) place) ∙ sym is ∙ none)

  pub lowered : (new : List Tally) (m n : ℕ) → m ≡ in_front (is_before channel slot) ts → n ≡ amount_at channel slot (slice_get ts m) → 1 < n
      → ((t : Tally) → slice_get ts m ≡ Some t → new ≡ slice_set ts m (record t { count = n - 1 })) → new ≡ uncounted channel slot ts
  lowered new m n place is h put =
      let found = there channel slot (slice_get ts m) n is (omega (arith, h)) in
      put found.0 found.1 ∙ ap (λ k. slice_set ts k (record found.0 { count = n - 1 })) place
      ∙ lessened_at channel slot (record found.0 { count = n - 1 }) ts found.0 (many n found.0.count found.3 h) (ap (slice_get ts) (sym place) ∙ found.1) found.2 (ap (λ k. record found.0 { count = k - 1 }) (sym found.3))

  pub gone : (new : List Tally) (m n : ℕ) → m ≡ in_front (is_before channel slot) ts → n ≡ amount_at channel slot (slice_get ts m) → n ≡ 1 → new ≡ remove ts m → new ≡ uncounted channel slot ts
  gone new m n place is h rest =
      let found = there channel slot (slice_get ts m) n is (omega (arith, h)) in
      rest ∙ ap (remove ts) place ∙ gone_at channel slot ts found.0 (single n found.0.count found.3 h) (ap (slice_get ts) (sym place) ∙ found.1) found.2
