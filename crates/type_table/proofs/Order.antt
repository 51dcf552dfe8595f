-- The first fault of parts in a row: what stands before it has none, and what stands behind it isn't looked at.
use Rattle.std.proofs.Common.{◌≡◌, List, [], ◌∷◌, ◌++◌, Some, None, Ok, Err, Option, Result, refl, ap, sym, subst, ◌∙◌}
use Rattle.type_table.specs.declared.fault.Fault.{Fault}
use Rattle.type_table.specs.declared.fault.Refusal.{Refusal}
use Rattle.type_table.specs.declared.fault.Refusal.TheVariants as refusal
use Rattle.epl_values.specs.declared.shape.Shape.{Shape}
use Rattle.type_table.specs.Types.{known, known_shape}
use Rattle.type_table.specs.Found.{Found, Refuses, Finds, Clears, first_of}

pub first_before : {A : Type 0} (a b : List A) (x : A) → first_of a ≡ Some x → first_of (a ++ b) ≡ Some x
first_before [] b x h = cc
first_before (y ∷ a) b x h = h

pub first_behind : {A : Type 0} (a b : List A) → a ≡ [] → first_of (a ++ b) ≡ first_of b
first_behind a b none = ap (λ l. first_of (l ++ b)) none

pub first_between : {A : Type 0} (a b c : List A) (x : A) → a ≡ [] → first_of b ≡ Some x → first_of (a ++ b ++ c) ≡ Some x
first_between a b c x none h = first_before (a ++ b) c x (first_behind a b none ∙ h)

pub none_behind : {A : Type 0} (a b : List A) → a ≡ [] → b ≡ [] → a ++ b ≡ []
none_behind a b none h = ap (λ l. l ++ b) none ∙ h

pub unknown : (found : Found Shape) (fault : Fault) → first_of found.faults ≡ Some fault → known found ≡ None
unknown found fault h = by_cases found.faults h where
  by_cases : (faults : List Fault) → first_of faults ≡ Some fault → known_shape faults found.part ≡ None
  by_cases [] e = cc
  by_cases (f ∷ faults) e = refl

-- a refusal of a part stands for the row
pub refuses_before : (e : Refusal) (a b : List Fault) → Refuses e a → Refuses e (a ++ b)
refuses_before (refusal.Fault fault) a b h = first_before a b fault h
refuses_before refusal.Memory a b h = tt

pub refuses_behind : (e : Refusal) (a b : List Fault) → a ≡ [] → Refuses e b → Refuses e (a ++ b)
refuses_behind (refusal.Fault fault) a b none h = first_behind a b none ∙ h
refuses_behind refusal.Memory a b none h = tt

-- of the first of what is left
pub refuses_left : (e : Refusal) (here rest all : List Fault) → here ++ rest ≡ all → Refuses e here → Refuses e all
refuses_left e here rest all is h = subst (λ l. Refuses e l) is (refuses_before e here rest h)

pub clears_behind : {A : Type 0} (r : Result A Refusal) (a b : List Fault) → a ≡ [] → Clears r b → Clears r (a ++ b)
clears_behind r a b none h = subst (λ l. Clears r (l ++ b)) (sym none) h

-- what is left behind a part without faults
pub left_none : {A : Type 0} (here rest all : List A) → here ++ rest ≡ all → here ≡ [] → rest ≡ all
left_none here rest all is none = sym (ap (λ l. l ++ rest) none) ∙ is

pub ruleset faults = (first_before, first_behind, none_behind)

pub ruleset parts = (refuses_before, refuses_behind, refuses_left, none_behind, clears_behind, left_none)
