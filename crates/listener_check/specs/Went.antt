-- A part of an event expression behind what stands in front of it: its faults, all of them in their order, what it is, and
-- what then stands in front of the part behind it.
use Rattle.std.specs.Prelude.{List, [], ◌∷◌, ◌++◌, ◌≡◌, Result, Ok, Err}
use Rattle.type_table.specs.declared.fault.Fault.{Fault}
use Rattle.type_table.specs.declared.fault.Refusal.{Refusal}
use Rattle.type_table.specs.Found.{Found, Refuses}
use Rattle.listener_check.specs.declared.sofar.Sofar.{Sofar}

pub record Went (A : Type 0) : Type 0 where
  pub faults : List Fault
  pub part : A
  pub after : Sofar

-- a part without faults
abbrev pub went : {A : Type 0} → A → Sofar → Went A
went part after = record { faults = []; part = part; after = after }

-- a part, and what is made of it behind it
infixl 10 ◌>>=◌
unfoldable pub ◌>>=◌ : {A B : Type 0} → Went A → (A → Sofar → Went B) → Went B
w >>= made = record { faults = w.faults ++ (made w.part w.after).faults; part = (made w.part w.after).part; after = (made w.part w.after).after }

-- the items of a list in order, each with what was made of those before it
unfoldable pub through : {A C : Type 0} → (C → A → Sofar → Went C) → C → List A → Sofar → Went C
through step made [] s = went made s
through step made (item ∷ items) s = step made item s >>= λ next s. through step next items s

-- faults, and what stands behind them
unfoldable pub behind : {A : Type 0} → List Fault → Went A → Went A
behind faults w = record { faults = faults ++ w.faults; part = w.part; after = w.after }

-- what is found of a part that changes nothing of what stands in front
unfoldable pub given : {A : Type 0} → Found A → Sofar → Went A
given found after = record { faults = found.faults; part = found.part; after = after }

-- an answer is the part exactly where there is no fault, and else the first fault; want of memory is free
abbrev pub Goes : {A : Type 0} → Result A Refusal → Went A → Sofar → Type 0
Goes (Ok x) w after = w ≡ went x after
Goes (Err e) w after = Refuses e w.faults
