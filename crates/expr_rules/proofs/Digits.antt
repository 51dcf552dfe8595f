-- More digits make no smaller number.
use Rattle.std.proofs.Common.{◌≡◌, None, refl, subst, ℕ, suc, ◌+◌, ◌-◌, ◌*◌, ◌<◌, ◌≤◌, List, [], ◌∷◌, length, drop, get_or, sym, ◌∙◌, ap, arith, drop-cons}
use Rattle.std.proofs.lemmas.Bool.{lt-leb}
use Rattle.expr_rules.specs.Literals.{number_from, within}

pub number_least : (n : ℕ) (digits : List ℕ) → n ≤ number_from n digits
number_least n [] = omega arith
number_least n (digit ∷ digits) = let k = number_least (n * 10 + (digit - 48)) digits in omega (arith, k)

pub number_next : (n : ℕ) (digits : List ℕ) (i : ℕ) (digit : ℕ) → i < length digits → digit ≡ get_or digits i digit → number_from n (drop i digits) ≡ number_from (n * 10 + (digit - 48)) (drop (i + 1) digits)
number_next n digits i digit lt is =
    let d = drop-cons digits i digit lt in let e : i + 1 ≡ suc i = omega arith in
    let whole : drop i digits ≡ digit ∷ drop (i + 1) digits = cc in
    ap (number_from n) whole

within_past : (limit n : ℕ) → limit < n → within limit n ≡ None
within_past limit n past = rw (lt-leb n limit past) refl

-- a number that is past the limit before its last digit
pub number_past : (limit n : ℕ) (digits : List ℕ) (i digit whole : ℕ) → i < length digits → digit ≡ get_or digits i digit → limit < n * 10 + (digit - 48) → number_from n (drop i digits) ≡ whole → within limit whole ≡ None
number_past limit n digits i digit whole lt is past from =
    let same : number_from (n * 10 + (digit - 48)) (drop (i + 1) digits) ≡ whole = sym (number_next n digits i digit lt is) ∙ from in
    let least = number_least (n * 10 + (digit - 48)) (drop (i + 1) digits) in
    let longer : limit < number_from (n * 10 + (digit - 48)) (drop (i + 1) digits) = omega (arith, least, past) in
    within_past limit whole (subst (λ (m : ℕ). limit < m) same longer)

pub ruleset digits = (number_least, number_next, number_past)
