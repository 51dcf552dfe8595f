-- The order of faults. What is found of a part of a program is its faults, all of them in their order, and what the part
-- is with its names resolved. The first fault is the one that is told.
use Rattle.std.specs.Prelude.{ℕ, List, [], ◌∷◌, ◌++◌, ◌≡◌, Option, Some, None, Result, Ok, Err, nat_le, if◌then◌else◌}
use Rattle.span_text.specs.declared.spot.Spot.{Spot}
use Rattle.type_table.specs.declared.fault.Fault.{Fault}
use Rattle.type_table.specs.declared.fault.Refusal.{Refusal}
use Rattle.type_table.specs.declared.fault.Refusal.TheVariants as refusal

pub record Found (A : Type 0) : Type 0 where
  pub faults : List Fault
  pub part : A

-- the first of a list
abbrev pub first_of : {A : Type 0} → List A → Option A
first_of [] = None
first_of (x ∷ xs) = Some x

-- the least of the codes at one node
abbrev pub least : ℕ → List ℕ → ℕ
least code [] = code
least code (next ∷ codes) = least (if nat_le code next then code else next) codes

-- the fault of a node: the least of its codes, if it has one
abbrev pub told : Spot → List ℕ → List Fault
told spot [] = []
told spot (code ∷ codes) = record { code = least code codes; spot = spot } ∷ []

-- a refusal is the first of these faults; want of memory is free
abbrev pub Refuses : Refusal → List Fault → Type 0
Refuses (refusal.Fault fault) faults = first_of faults ≡ Some fault
Refuses refusal.Memory faults = Unit {0}

-- an answer is the part exactly where there is no fault, and else the first fault
abbrev pub Finds : {A : Type 0} → Result A Refusal → Found A → Type 0
Finds (Ok x) found = (found.faults ≡ []) × (found.part ≡ x)
Finds (Err e) found = Refuses e found.faults

-- an answer comes exactly where there is no fault, and else the first fault
abbrev pub Clears : {A : Type 0} → Result A Refusal → List Fault → Type 0
Clears (Ok x) faults = faults ≡ []
Clears (Err e) faults = Refuses e faults
