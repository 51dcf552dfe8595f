-- What is read is spelled so.
use Rattle.std.proofs.Common.{◌≡◌, ◌+◌, ◌-◌, ◌*◌, ◌<◌, ◌≤◌, ◌∷◌, ◌++◌, ◌&&◌, ◌==◌}
use Rattle.evt_text.proofs.Common.{ℕ, ℤ, pos, neg_ℤ, List, [], length, Bool, true, false, cond, nat_le, Some, refl, sym, ◌∙◌, ap, arith, append_assoc, inl, inr, AllDigits, IsNumeral, digits_value, digits_value_after, digit_value, eqb-true, leb-true, and_parts, none-some, same_Some, is_digit, AreBlanks, is_blank, is_plain, escaped, SpellsInteger, SpellsBytes, SpellsString, with_front, behind_sign, behind_blanks, digit_at, digits_from, inside_from}
use Rattle.std.proofs.lemmas.Str.{digit_value_digit}
use Rattle.evt_text.specs.Reading.{◌>>=◌, number_at, integer_at, within_limit, string_at}
use Rattle.evt_text.proofs.Cases.{chosen, bind-some, map-some, pair-some}
use Rattle.evt_text.proofs.Fronts.{behind_sign-is}
use Rattle.evt_text.proofs.Digits.{digit_at-is}

pub digit-is : (b : ℕ) → is_digit b ≡ true → (digit_value b ≡ b - 48) × (digit_value b < 10)
digit-is b e =
    let p = and_parts _ _ e in
    let low : 48 ≤ b = leb-true _ _ p.0 in
    let high : b ≤ 57 = leb-true _ _ p.1 in
    let v = digit_value_digit b (low, high) in
    (omega arith, omega arith)

digit-front : (number b : ℕ) (bs digits rest : List ℕ) (n : ℕ) → is_digit b ≡ true → bs ≡ digits ++ rest → AllDigits 10 digits → n ≡ digits_value_after 10 (number * 10 + (b - 48)) digits
    → (all : List ℕ) × (b ∷ bs ≡ all ++ rest) × AllDigits 10 all × (n ≡ digits_value_after 10 number all)
digit-front number b bs digits rest n d t a e =
    let v = digit-is b d in
    (b ∷ digits, ap (λ x. b ∷ x) t, (v.1, a), rw v.0 e)

pub digits-read : (limit number : ℕ) (text : List ℕ) (n : ℕ) (rest : List ℕ) → digits_from limit number text ≡ (n, rest)
    → (digits : List ℕ) × (text ≡ digits ++ rest) × AllDigits 10 digits × (n ≡ digits_value_after 10 number digits)
digits-read limit number [] n rest e = ([], ap (λ x. x.1) e, tt, sym (ap (λ x. x.0) e))
digits-read limit number (b ∷ bs) n rest e = elim (chosen (is_digit b && nat_le (number * 10 + (b - 48)) limit) _ _ _ e) [
  | inl h ↦
      let r = digits-read limit (number * 10 + (b - 48)) bs n rest h.1 in
      digit-front number b bs r.0 rest n (and_parts _ _ h.0).0 r.1 r.2 r.3
  | inr h ↦ ([], ap (λ x. x.1) h.1, tt, sym (ap (λ x. x.0) h.1))
]

pub digits-within : (limit number : ℕ) (text : List ℕ) (n : ℕ) (rest : List ℕ) → number ≤ limit → digits_from limit number text ≡ (n, rest) → n ≤ limit
digits-within limit number [] n rest le e = rw (ap (λ x. x.0) e) at le
digits-within limit number (b ∷ bs) n rest le e = elim (chosen (is_digit b && nat_le (number * 10 + (b - 48)) limit) _ _ _ e) [
  | inl h ↦ digits-within limit (number * 10 + (b - 48)) bs n rest (leb-true _ _ (and_parts _ _ h.0).1) h.1
  | inr h ↦ rw (ap (λ x. x.0) h.1) at le
]

number-front : (digit : ℕ) (text others : List ℕ) (n : ℕ) (rest : List ℕ) (b : ℕ) (digits : List ℕ) → text ≡ b ∷ others → is_digit b ≡ true → digit ≡ b - 48
    → others ≡ digits ++ rest → AllDigits 10 digits → n ≡ digits_value_after 10 digit digits → (all : List ℕ) × (text ≡ all ++ rest) × IsNumeral 10 all × (n ≡ digits_value 10 all)
number-front digit text others n rest b digits t d k o a e =
    let v = digit-is b d in
    (b ∷ digits, t ∙ ap (λ x. b ∷ x) o, (omega arith, (v.1, a)), e ∙ ap (λ x. digits_value_after 10 x digits) (let same : digit ≡ 0 * 10 + digit_value b = omega arith in same))

pub number-read : (limit : ℕ) (text : List ℕ) (n : ℕ) (rest : List ℕ) → 9 ≤ limit → number_at limit text ≡ Some (n, rest)
    → (digits : List ℕ) × (text ≡ digits ++ rest) × IsNumeral 10 digits × (n ≡ digits_value 10 digits) × (n ≤ limit)
unfolding number_at
number-read limit text n rest le e =
    let r = bind-some (digit_at text) (λ d. Some (digits_from limit d.0 d.1)) (n, rest) e in
    let f : digits_from limit r.0.0 r.0.1 ≡ (n, rest) = same_Some _ _ r.2 in
    let d = digit_at-is text r.0.0 r.0.1 r.1 in
    let a = digits-read limit r.0.0 r.0.1 n rest f in
    let v = digit-is d.0 d.2 in
    let small : r.0.0 ≤ limit = omega (arith, d.3) in
    let w = number-front r.0.0 text r.0.1 n rest d.0 a.0 d.1 d.2 d.3 a.1 a.2 a.3 in
    (w.0, w.1, w.2, w.3, digits-within limit r.0.0 r.0.1 n rest small f)

minus-front : (b : ℕ) (bs rest : List ℕ) (z : ℤ) (n : ℕ) (digits : List ℕ) → b ≡ 45 → bs ≡ digits ++ rest → IsNumeral 10 digits → n ≡ digits_value 10 digits → n ≤ 9223372036854775808 → neg_ℤ (pos n) ≡ z
    → (spelling : List ℕ) × (b ∷ bs ≡ spelling ++ rest) × SpellsInteger z spelling
minus-front b bs rest z n digits k t a e le v = rw k (45 ∷ digits, ap (λ x. 45 ∷ x) t, inr (digits, refl, a, rw e at le, sym v ∙ ap (λ x. neg_ℤ (pos x)) e))

plain-front : (text rest : List ℕ) (z : ℤ) (n : ℕ) (digits : List ℕ) → text ≡ digits ++ rest → IsNumeral 10 digits → n ≡ digits_value 10 digits → n ≤ 9223372036854775807 → pos n ≡ z
    → (spelling : List ℕ) × (text ≡ spelling ++ rest) × SpellsInteger z spelling
plain-front text rest z n digits t a e le v = (digits, t, inl (a, omega arith, sym v ∙ ap pos e))

pub integer-read : (text : List ℕ) (z : ℤ) (rest : List ℕ) → integer_at text ≡ Some (z, rest) → (spelling : List ℕ) × (text ≡ spelling ++ rest) × SpellsInteger z spelling
unfolding integer_at
integer-read [] z rest e = absurd (none-some _ e)
integer-read (b ∷ bs) z rest e = elim (chosen (b == 45) _ _ _ e) [
  | inl h ↦
      let r = bind-some (number_at 9223372036854775808 bs) (λ n. Some (neg_ℤ (pos n.0), n.1)) (z, rest) h.1 in
      let p = pair-some _ _ _ _ r.2 in
      let a = number-read 9223372036854775808 bs r.0.0 r.0.1 (omega arith) r.1 in
      minus-front b bs rest z r.0.0 a.0 (eqb-true b 45 h.0) (a.1 ∙ ap (λ x. a.0 ++ x) p.1) a.2 a.3 a.4 p.0
  | inr h ↦
      let r = bind-some (number_at 9223372036854775807 (b ∷ bs)) (λ n. Some (pos n.0, n.1)) (z, rest) h.1 in
      let p = pair-some _ _ _ _ r.2 in
      let a = number-read 9223372036854775807 (b ∷ bs) r.0.0 r.0.1 (omega arith) r.1 in
      plain-front (b ∷ bs) rest z r.0.0 a.0 (a.1 ∙ ap (λ x. a.0 ++ x) p.1) a.2 a.3 a.4 p.0
]

byte-front : (b : ℕ) (bs inner v0 r0 value rest : List ℕ) → bs ≡ inner ++ 34 ∷ r0 → SpellsBytes v0 inner → is_plain b ≡ true → b ∷ v0 ≡ value → r0 ≡ rest
    → (x : List ℕ) × (b ∷ bs ≡ x ++ 34 ∷ rest) × SpellsBytes value x
byte-front b bs inner v0 r0 value rest n i plain v q = rw (← v, ← q, n) (b ∷ inner, refl, (b ∷ [], inner, refl, inl (plain, refl), i))

escape-front : (letter byte : ℕ) (bs inner v0 r0 value rest : List ℕ) → bs ≡ inner ++ 34 ∷ r0 → SpellsBytes v0 inner → escaped letter ≡ Some byte → byte ∷ v0 ≡ value → r0 ≡ rest
    → (x : List ℕ) × (letter ∷ bs ≡ x ++ 34 ∷ rest) × SpellsBytes value (92 ∷ x)
escape-front letter byte bs inner v0 r0 value rest n i is v q = rw (← v, ← q, n) (letter ∷ inner, refl, (92 ∷ letter ∷ [], inner, refl, inr (letter, refl, is), i))

quote-front : (b : ℕ) (bs value rest : List ℕ) → b ≡ 34 → [] ≡ value → bs ≡ rest → (x : List ℕ) × (b ∷ bs ≡ x ++ 34 ∷ rest) × SpellsBytes value x
quote-front b bs value rest k v q = rw (← v, ← q, k) ([], refl, refl)

plain-from : (b : ℕ) → (b == 34) ≡ false → (b == 92) ≡ false → (b == 10) ≡ false → is_plain b ≡ true
plain-from b p q r = rw (p, q, r) refl

-- the inside of a string
pub inside-read : (backslash : Bool) (bs value rest : List ℕ) → inside_from backslash bs ≡ Some (value, rest)
    → (inner : List ℕ) × (bs ≡ inner ++ 34 ∷ rest) × SpellsBytes value (cond backslash (92 ∷ inner) inner)
inside-read backslash [] value rest e = absurd (cc)
inside-read true (b ∷ bs) value rest e =
    let r = bind-some (escaped b) (λ x. with_front (x ∷ []) (inside_from false bs)) (value, rest) e in
    let m = map-some (λ x. (r.0 ∷ x.0, x.1)) (inside_from false bs) (value, rest) r.2 in
    let n = inside-read false bs m.0.0 m.0.1 m.1 in
    escape-front b r.0 bs n.0 m.0.0 m.0.1 value rest n.1 n.2 r.1 (ap (λ x. x.0) m.2) (ap (λ x. x.1) m.2)
inside-read false (b ∷ bs) value rest e = elim (chosen (b == 34) _ _ _ e) [
  | inl h ↦ quote-front b bs value rest (eqb-true b 34 h.0) (ap (λ x. x.0) (same_Some _ _ h.1)) (ap (λ x. x.1) (same_Some _ _ h.1))
  | inr h ↦ elim (chosen (b == 92) _ _ _ h.1) [
    | inl g ↦
        let n = inside-read true bs value rest g.1 in
        let k : b ≡ 92 = eqb-true b 92 g.0 in
        (92 ∷ n.0, rw (k, n.1) refl, n.2)
    | inr g ↦ elim (chosen (b == 10) _ _ _ g.1) [
      | inl f ↦ absurd (none-some _ f.1)
      | inr f ↦
          let m = map-some (λ x. (b ∷ x.0, x.1)) (inside_from false bs) (value, rest) f.1 in
          let n = inside-read false bs m.0.0 m.0.1 m.1 in
          byte-front b bs n.0 m.0.0 m.0.1 value rest n.1 n.2 (plain-from b h.0 g.0 f.0) (ap (λ x. x.0) m.2) (ap (λ x. x.1) m.2)
    ]
  ]
]

string-front : (text inside inner value rest : List ℕ) → text ≡ 34 ∷ inside → inside ≡ inner ++ 34 ∷ rest → SpellsBytes value inner → length value ≤ 1048576
    → (spelling : List ℕ) × (text ≡ spelling ++ rest) × SpellsString value spelling
string-front text inside inner value rest t n i le = rw (t, n) (34 ∷ inner ++ 34 ∷ [], ap (λ x. 34 ∷ x) (sym (append_assoc inner (34 ∷ []) rest)), (inner, refl, i, le))

limit-passed : (read : List ℕ × List ℕ) (value rest : List ℕ) → within_limit read ≡ Some (value, rest) → (read ≡ (value, rest)) × (length value ≤ 1048576)
limit-passed read value rest e = elim (chosen (nat_le (length read.0) 1048576) _ _ _ e) [
  | inl h ↦ (let p : read ≡ (value, rest) = same_Some _ _ h.1 in (p, rw (ap (λ x. x.0) p) at (leb-true _ _ h.0)))
  | inr h ↦ absurd (none-some _ h.1)
]

pub string-read : (text value rest : List ℕ) → string_at text ≡ Some (value, rest) → (spelling : List ℕ) × (text ≡ spelling ++ rest) × SpellsString value spelling
unfolding string_at
string-read text value rest e =
    let s = bind-some (behind_sign 34 text) (λ inner. inside_from false inner >>= within_limit) (value, rest) e in
    let r = bind-some (inside_from false s.0) within_limit (value, rest) s.2 in
    let p = limit-passed r.0 value rest r.2 in
    let n = inside-read false s.0 value rest (r.1 ∙ ap Some p.0) in
    string-front text s.0 n.0 value rest (behind_sign-is 34 text s.0 s.1) n.1 n.2 p.1

blanks-at : (b : ℕ) (bs : List ℕ) (t : Bool) → is_blank b ≡ t → ((blanks : List ℕ) × (bs ≡ blanks ++ behind_blanks bs) × AreBlanks blanks)
    → (blanks : List ℕ) × (b ∷ bs ≡ blanks ++ cond t (behind_blanks bs) (b ∷ bs)) × AreBlanks blanks
blanks-at b bs true e h = (b ∷ h.0, ap (λ x. b ∷ x) h.1, (e, h.2))
blanks-at b bs false e h = ([], refl, tt)

pub blanks-read : (text : List ℕ) → (blanks : List ℕ) × (text ≡ blanks ++ behind_blanks text) × AreBlanks blanks
blanks-read [] = ([], refl, tt)
blanks-read (b ∷ bs) = blanks-at b bs (is_blank b) refl (blanks-read bs)
