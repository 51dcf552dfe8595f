-- Digits, one by one.
use Rattle.std.proofs.Common.{◌≡◌, ◌+◌, ◌-◌, ◌*◌, ◌<◌, ◌≤◌, ◌==◌, ◌∷◌}
use Rattle.evt_text.proofs.Common.{ℕ, pos, neg_ℤ, List, [], length, true, Some, None, refl, sym, ap, arith, inl, inr, le-leb, and_from, is_digit, behind_sign, digit_at, digits_from}
use Rattle.std.proofs.lemmas.Bool.{lt-leb, and_right}
use Rattle.evt_text.specs.Reading.{◌>>=◌, number_at, integer_at}
use Rattle.evt_text.proofs.Fronts.{behind_sign-is}
use Rattle.evt_text.proofs.Cases.{chosen, pair-some}

pub digit_at-is : (text : List ℕ) (digit : ℕ) (others : List ℕ) → digit_at text ≡ Some (digit, others)
    → (b : ℕ) × (text ≡ b ∷ others) × (is_digit b ≡ true) × (digit ≡ b - 48)
digit_at-is [] digit others e = absurd (cc)
digit_at-is (b ∷ bs) digit others e = elim (chosen (is_digit b) _ _ _ e) [ inl h ↦ (let k = pair-some _ _ _ _ h.1 in (b, ap (λ x. b ∷ x) k.1, h.0, sym k.0)) | inr h ↦ absurd (let k = h.1 in cc) ]

pub digit_at-shorter : (text : List ℕ) (digit : ℕ) (others : List ℕ) → digit_at text ≡ Some (digit, others) → length others < length text
digit_at-shorter text digit others e = let p = digit_at-is text digit others e in rw p.1 (omega arith)

more-at : (limit number b : ℕ) (text : List ℕ) (digit : ℕ) (others : List ℕ) → text ≡ b ∷ others → is_digit b ≡ true → digit ≡ b - 48 → number * 10 + digit ≤ limit
    → digits_from limit number text ≡ digits_from limit (number * 10 + digit) others
more-at limit number b text digit others t is d le =
    let small : number * 10 + (b - 48) ≤ limit = rw d at le in rw (t, d, and_from _ _ is (le-leb _ _ small)) refl

over-at : (limit number b : ℕ) (text : List ℕ) (digit : ℕ) (others : List ℕ) → text ≡ b ∷ others → digit ≡ b - 48 → limit < number * 10 + digit
    → digits_from limit number text ≡ (number, text)
over-at limit number b text digit others t d lt =
    let large : limit < number * 10 + (b - 48) = rw d at lt in rw (t, and_right (is_digit b) _ (lt-leb _ _ large)) refl

pub digits_from-more : (limit number : ℕ) (text : List ℕ) (digit : ℕ) (others : List ℕ) → digit_at text ≡ Some (digit, others) → number * 10 + digit ≤ limit
    → digits_from limit number text ≡ digits_from limit (number * 10 + digit) others
digits_from-more limit number text digit others e le =
    let p = digit_at-is text digit others e in more-at limit number p.0 text digit others p.1 p.2 p.3 le

pub digits_from-over : (limit number : ℕ) (text : List ℕ) (digit : ℕ) (others : List ℕ) → digit_at text ≡ Some (digit, others) → limit < number * 10 + digit
    → digits_from limit number text ≡ (number, text)
digits_from-over limit number text digit others e lt =
    let p = digit_at-is text digit others e in over-at limit number p.0 text digit others p.1 p.3 lt

pub digits_from-end : (limit number : ℕ) (text : List ℕ) → digit_at text ≡ None → digits_from limit number text ≡ (number, text)
digits_from-end limit number [] e = refl
digits_from-end limit number (b ∷ bs) e = elim (chosen (is_digit b) _ _ _ e) [ inl h ↦ absurd (let k = h.1 in cc) | inr h ↦ rw h.0 refl ]

pub integer_at-minus : (text digits : List ℕ) → behind_sign 45 text ≡ Some digits
    → integer_at text ≡ (number_at 9223372036854775808 digits >>= λ n. Some (neg_ℤ (pos n.0), n.1))
unfolding integer_at
integer_at-minus text digits e = rw (behind_sign-is 45 text digits e) refl

pub integer_at-plain : (text : List ℕ) → behind_sign 45 text ≡ None → integer_at text ≡ (number_at 9223372036854775807 text >>= λ n. Some (pos n.0, n.1))
unfolding integer_at number_at
integer_at-plain [] e = refl
integer_at-plain (b ∷ bs) e = elim (chosen (b == 45) _ _ _ e) [ inl h ↦ absurd (let k = h.1 in cc) | inr h ↦ rw h.0 refl ]
