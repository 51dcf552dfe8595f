-- Faults of parts in a row: what stands before has none, and what stands behind isn't looked at.
use Rattle.std.proofs.Common.{◌≡◌, List, [], ◌∷◌, ◌++◌, Some, Ok, Err, Result, ap, sym, subst, ◌∙◌}
use Rattle.type_table.specs.declared.fault.Fault.{Fault}
use Rattle.type_table.specs.declared.fault.Refusal.{Refusal}
use Rattle.type_table.specs.declared.fault.Refusal.TheVariants as refusal
use Rattle.std.specs.Result.{IsErrAnd}
use Rattle.type_table.specs.Found.{Found, Finds, Refuses, first_of}
use Rattle.expr_rules.specs.Then.{and_then}

first_before : {A : Type 0} (a b : List A) (x : A) → first_of a ≡ Some x → first_of (a ++ b) ≡ Some x
first_before [] b x h = cc
first_before (y ∷ a) b x h = h

-- a part that is refused
pub finds_stop : {A B : Type 0} (e : Refusal) (found : Found A) (made : A → Found B) → Finds {A = A} (Err e) found → Finds {A = B} (Err e) (and_then found made)
unfolding and_then
finds_stop (refusal.Fault fault) found made h = first_before found.faults _ fault h
finds_stop refusal.Memory found made h = tt

at_part : {A B : Type 0} (result : Result B Refusal) (found : Found A) (made : A → Found B) (x : A) → found.part ≡ x → Finds result (made x) → Finds result (made found.part)
at_part {A = A} result found made x is h = subst (λ (y : A). Finds result (made y)) (sym is) h

behind : {B : Type 0} (result : Result B Refusal) (before : List Fault) (made : Found B) → before ≡ [] → Finds result made → Finds result (record { faults = before ++ made.faults; part = made.part })
behind result before made none h = subst (λ (l : List Fault). Finds result (record { faults = l ++ made.faults; part = made.part })) (sym none) h

-- a part that stands, and what is made of it
pub finds_then : {A B : Type 0} (result : Result B Refusal) (x : A) (found : Found A) (made : A → Found B) → Finds result (made x) → Finds {A = A} (Ok x) found → Finds result (and_then found made)
unfolding and_then
finds_then result x found made h stands = behind result found.faults (made found.part) stands.0 (at_part result found made x stands.1 h)

-- a part that stands, and a part without faults that is made of it
pub ends_faults : {A B : Type 0} (x : A) (found : Found A) (made : A → Found B) → (made x).faults ≡ [] → found.part ≡ x → found.faults ≡ [] → (and_then found made).faults ≡ []
unfolding and_then
ends_faults {A = A} x found made h is none = rw none (ap (λ (a : A). (made a).faults) is ∙ h)

pub ends_part : {A B : Type 0} (x : A) (y : B) (found : Found A) (made : A → Found B) → (made x).part ≡ y → found.part ≡ x → (and_then found made).part ≡ y
unfolding and_then
ends_part {A = A} x y found made h is = ap (λ (a : A). (made a).part) is ∙ h

-- the same of what is and-then by an equation
pub arm_err : {A B : Type 0} (result : Result B Refusal) (e : Refusal) (whole : Found B) (found : Found A) (made : A → Found B) → whole ≡ and_then found made → IsErrAnd result (λ y. y ≡ e) → Refuses e found.faults → Finds result whole
arm_err {B = B} (Ok x) e whole found made is err h = absurd err
arm_err {B = B} (Err y) e whole found made is err h = subst (λ (v : Refusal). Refuses v whole.faults) (sym err) (subst (λ (w : Found B). Refuses e w.faults) (sym is) (finds_stop e found made h))

pub arm_ok : {A B : Type 0} (result : Result B Refusal) (x : A) (whole : Found B) (found : Found A) (made : A → Found B) → whole ≡ and_then found made → Finds result (made x) → Finds {A = A} (Ok x) found → Finds result whole
arm_ok {B = B} result x whole found made is h stands = subst (λ (w : Found B). Finds result w) (sym is) (finds_then result x found made h stands)

pub ruleset binds = (finds_stop, finds_then, ends_faults, ends_part)
