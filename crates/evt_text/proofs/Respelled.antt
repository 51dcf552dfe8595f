-- What is spelled as an integer or a string is read again.
use Rattle.std.proofs.Common.{◌≡◌, ◌+◌, ◌-◌, ◌*◌, ◌<◌, ◌≤◌, ◌∷◌, ◌++◌, ◌==◌}
use Rattle.evt_text.proofs.Common.{ℕ, ℤ, pos, neg_ℤ, List, [], length, true, false, Some, refl, sym, ◌∙◌, ap, arith, append_assoc, length-append, inl, inr, AllDigits, IsNumeral, digits_value, digits_value_after, digit_value, le-leb, and_from, ne_eqb, digit_from_value, is_digit, AreBlanks, is_plain, escaped, SpellsInteger, SpellsBytes, SpellsString, behind_blanks, digits_from, inside_from}
use Rattle.std.proofs.lemmas.Bool.{and_left}
use Rattle.evt_text.specs.Reading.{number_at, integer_at, string_at}
use Rattle.evt_text.proofs.Strings.{plain-tests}
use Rattle.evt_text.proofs.Spelled.{digit-is, digits-read}

pub digit-test : (b : ℕ) → digit_value b < 10 → is_digit b ≡ true
digit-test b lt = let r = digit_from_value b lt in and_from _ _ (le-leb _ _ r.0) (le-leb _ _ r.1)

grows : (number : ℕ) (digits : List ℕ) → number ≤ digits_value_after 10 number digits
grows number [] = omega arith
grows number (d ∷ ds) = let more = grows (number * 10 + digit_value d) ds in omega arith

digits-step : (limit number d : ℕ) (ds rest : List ℕ) (value : ℕ) → is_digit d ≡ true → digit_value d ≡ d - 48 → number * 10 + digit_value d ≤ limit
    → digits_from limit (number * 10 + digit_value d) (ds ++ rest) ≡ digits_from limit value rest → digits_from limit number (d ∷ (ds ++ rest)) ≡ digits_from limit value rest
digits-step limit number d ds rest value t v le e =
    let small : number * 10 + (d - 48) ≤ limit = rw v at le in
    let more : digits_from limit (number * 10 + (d - 48)) (ds ++ rest) ≡ digits_from limit value rest = rw v at e in
    rw (and_from _ _ t (le-leb _ _ small)) more

pub digits-again : (limit number : ℕ) (digits rest : List ℕ) → AllDigits 10 digits → digits_value_after 10 number digits ≤ limit
    → digits_from limit number (digits ++ rest) ≡ digits_from limit (digits_value_after 10 number digits) rest
digits-again limit number [] rest a le = refl
digits-again limit number (d ∷ ds) rest a le =
    let t = digit-test d a.0 in
    let small : number * 10 + digit_value d ≤ limit = omega (arith, grows (number * 10 + digit_value d) ds) in
    digits-step limit number d ds rest (digits_value_after 10 (number * 10 + digit_value d) ds) t (digit-is d t).0 small (digits-again limit (number * 10 + digit_value d) ds rest a.1 le)

-- no digit is in front
abbrev pub EndsNumber : List ℕ → Type 0
EndsNumber [] = Unit {0}
EndsNumber (b ∷ bs) = is_digit b ≡ false

pub digits-stop : (limit number : ℕ) (rest : List ℕ) → EndsNumber rest → digits_from limit number rest ≡ (number, rest)
digits-stop limit number [] h = refl
digits-stop limit number (b ∷ bs) h = rw (and_left (is_digit b) _ h) refl

number-step : (limit d : ℕ) (ds rest : List ℕ) (value : ℕ) → is_digit d ≡ true → digits_from limit (d - 48) (ds ++ rest) ≡ digits_from limit value rest
    → number_at limit (d ∷ (ds ++ rest)) ≡ Some (digits_from limit value rest)
unfolding number_at
number-step limit d ds rest value t e = rw t (ap Some e)

pub number-again : (limit : ℕ) (digits rest : List ℕ) → IsNumeral 10 digits → digits_value 10 digits ≤ limit
    → number_at limit (digits ++ rest) ≡ Some (digits_from limit (digits_value 10 digits) rest)
number-again limit [] rest a le = absurd (let some = a.0 in omega arith)
number-again limit (d ∷ ds) rest a le =
    let t = digit-test d a.1.0 in
    let same : 0 * 10 + digit_value d ≡ d - 48 = omega (arith, (digit-is d t).0) in
    let whole : digits_value_after 10 (d - 48) ds ≤ limit = rw same at le in
    number-step limit d ds rest (digits_value 10 (d ∷ ds)) t (digits-again limit (d - 48) ds rest a.1.1 whole ∙ ap (λ x. digits_from limit (digits_value_after 10 x ds) rest) (sym same))

-- an integer's number goes on with the digits that follow
pub record GoesOn (z : ℤ) (spelling rest : List ℕ) : Type 0 where
  pub limit : ℕ
  pub number : ℕ
  pub signed : ℕ → ℤ
  pub reads : integer_at (spelling ++ rest) ≡ Some (signed (digits_from limit number rest).0, (digits_from limit number rest).1)
  pub value : signed number ≡ z

minus-again : (z : ℤ) (spelling digits rest : List ℕ) → spelling ≡ 45 ∷ digits → IsNumeral 10 digits → digits_value 10 digits ≤ 9223372036854775808 → z ≡ neg_ℤ (pos (digits_value 10 digits))
    → GoesOn z spelling rest
unfolding integer_at
minus-again z spelling digits rest s a le v = record {
  limit = 9223372036854775808;
  number = digits_value 10 digits;
  signed = λ n. neg_ℤ (pos n);
  reads = rw (s, number-again 9223372036854775808 digits rest a le) refl;
  value = sym v;
}

plain-step : (d : ℕ) (ds rest : List ℕ) (number : ℕ) → (d == 45) ≡ false → number_at 9223372036854775807 (d ∷ (ds ++ rest)) ≡ Some (digits_from 9223372036854775807 number rest)
    → integer_at (d ∷ (ds ++ rest)) ≡ Some (pos (digits_from 9223372036854775807 number rest).0, (digits_from 9223372036854775807 number rest).1)
unfolding integer_at
plain-step d ds rest number ne e = rw (ne, e) refl

plain-again : (z : ℤ) (spelling rest : List ℕ) → IsNumeral 10 spelling → digits_value 10 spelling < 9223372036854775808 → z ≡ pos (digits_value 10 spelling) → GoesOn z spelling rest
plain-again z [] rest a lt v = absurd (let some = a.0 in omega arith)
plain-again z (d ∷ ds) rest a lt v =
    let r = digit_from_value d a.1.0 in
    let le : digits_value 10 (d ∷ ds) ≤ 9223372036854775807 = omega arith in
    record {
      limit = 9223372036854775807;
      number = digits_value 10 (d ∷ ds);
      signed = pos;
      reads = plain-step d ds rest (digits_value 10 (d ∷ ds)) (ne_eqb d 45 (λ e. omega arith)) (number-again 9223372036854775807 (d ∷ ds) rest a le);
      value = sym v;
    }

pub goes_on : (z : ℤ) (spelling rest : List ℕ) → SpellsInteger z spelling → GoesOn z spelling rest
goes_on z spelling rest (inl h) = plain-again z spelling rest h.0 h.1 h.2
goes_on z spelling rest (inr h) = minus-again z spelling h.0 rest h.1 h.2 h.3 h.4

pub integer-again : (z : ℤ) (spelling rest : List ℕ) → SpellsInteger z spelling → EndsNumber rest → integer_at (spelling ++ rest) ≡ Some (z, rest)
integer-again z spelling rest h ends =
    let g = goes_on z spelling rest h in
    g.reads ∙ rw (digits-stop g.limit g.number rest ends, g.value) refl

pub integer-covers : (z : ℤ) (spelling rest : List ℕ) → SpellsInteger z spelling → (y : ℤ) × (q : List ℕ) × (integer_at (spelling ++ rest) ≡ Some (y, q)) × (length q ≤ length rest)
integer-covers z spelling rest h =
    let g = goes_on z spelling rest h in
    let d = digits-read g.limit g.number rest (digits_from g.limit g.number rest).0 (digits_from g.limit g.number rest).1 refl in
    (g.signed (digits_from g.limit g.number rest).0, (digits_from g.limit g.number rest).1, g.reads, omega (arith, ap length d.1, length-append d.0 (digits_from g.limit g.number rest).1))

plain-byte : (b : ℕ) (bytes more rest : List ℕ) → is_plain b ≡ true → inside_from false (more ++ 34 ∷ rest) ≡ Some (bytes, rest) → inside_from false (b ∷ (more ++ 34 ∷ rest)) ≡ Some (b ∷ bytes, rest)
plain-byte b bytes more rest plain e = let p = plain-tests b plain in rw (p.0, p.1, p.2, e) refl

escaped-byte : (b letter : ℕ) (bytes more rest : List ℕ) → escaped letter ≡ Some b → inside_from false (more ++ 34 ∷ rest) ≡ Some (bytes, rest)
    → inside_from false (92 ∷ letter ∷ (more ++ 34 ∷ rest)) ≡ Some (b ∷ bytes, rest)
escaped-byte b letter bytes more rest is e = rw (is, e) refl

pub bytes-again : (bytes inner rest : List ℕ) → SpellsBytes bytes inner → inside_from false (inner ++ 34 ∷ rest) ≡ Some (bytes, rest)
bytes-again [] inner rest h = rw h refl
bytes-again (b ∷ bytes) inner rest (front, more, e, inl p, h) = rw (e, p.1) (plain-byte b bytes more rest p.0 (bytes-again bytes more rest h))
bytes-again (b ∷ bytes) inner rest (front, more, e, inr p, h) = rw (e, p.1) (escaped-byte b p.0 bytes more rest p.2 (bytes-again bytes more rest h))

pub string-again : (bytes spelling rest : List ℕ) → SpellsString bytes spelling → string_at (spelling ++ rest) ≡ Some (bytes, rest)
unfolding string_at
string-again bytes spelling rest h =
    rw (h.1, append_assoc h.0 (34 ∷ []) rest, bytes-again bytes h.0 rest h.2, le-leb _ _ h.3) refl

pub blanks-again : (blanks rest : List ℕ) → AreBlanks blanks → behind_blanks (blanks ++ rest) ≡ behind_blanks rest
blanks-again [] rest h = refl
blanks-again (b ∷ bs) rest h = rw h.0 (blanks-again bs rest h.1)
