-- Parts in source order, each with what those before it left: the faults of a part come before those of what follows it.
use Rattle.std.specs.Prelude.{ℕ, List, [], ◌∷◌, ◌++◌, ◌≡◌, Option, Some, None, Result, Ok, Err}
use Rattle.span_text.specs.declared.spot.Spot.{Spot}
use Rattle.type_table.specs.declared.fault.Refusal.{Refusal}
use Rattle.type_table.specs.declared.fault.Refusal.TheVariants as refusal
use Rattle.type_table.specs.Found.{Found, first_of, told}

-- a part, and what it leaves to those behind it
pub record After (S : Type 0) (A : Type 0) : Type 0 where
  pub part : A
  pub state : S

abbrev pub Reads : Type 0 → Type 0 → Type 0
Reads S A = S → Found (After S A)

-- a part without faults
abbrev pub done : {S A : Type 0} → A → S → Found (After S A)
done x s = record { faults = []; part = record { part = x; state = s } }

-- what is found of a part, and then of what is made of it
abbrev pub then_read : {S A B : Type 0} → Found (After S A) → (A → Reads S B) → Found (After S B)
then_read found f = record { faults = found.faults ++ (f found.part.part found.part.state).faults; part = (f found.part.part found.part.state).part }

infixl 10 ◌>>=◌
unfoldable pub ◌>>=◌ : {S A B : Type 0} → Reads S A → (A → Reads S B) → Reads S B
(m >>= f) s = then_read (m s) f

unfoldable pub pure : {S A : Type 0} → A → Reads S A
pure x s = done x s

-- a part that depends on nothing before it
unfoldable pub given : {S A : Type 0} → Found A → Reads S A
given found s = record { faults = found.faults; part = record { part = found.part; state = s } }

-- a part that looks at what those before it left
unfoldable pub looks : {S A : Type 0} → (S → Found A) → Reads S A
looks f s = record { faults = (f s).faults; part = record { part = (f s).part; state = s } }

-- a part that is chosen by what those before it left
unfoldable pub reads_by : {S A : Type 0} → (S → Reads S A) → Reads S A
reads_by f s = f s s

-- a node's own codes
unfoldable pub tells : {S : Type 0} → Spot → (S → List ℕ) → Reads S (Unit {0})
tells spot codes s = record { faults = told spot (codes s); part = record { part = tt; state = s } }

-- a change, and what it gives
unfoldable pub changes : {S A : Type 0} → (S → After S A) → Reads S A
changes f s = record { faults = []; part = f s }

-- a part with a state of its own, which begins and ends so
unfoldable pub within : {S T A B : Type 0} → (S → T) → (S → After T A → After S B) → Reads T A → Reads S B
within begin end m s = record { faults = (m (begin s)).faults; part = end s (m (begin s)).part }

-- parts in order
abbrev pub put_first : {S A : Type 0} → A → Found (After S (List A)) → Found (After S (List A))
put_first x rest = record rest { part = record rest.part { part = x ∷ rest.part.part } }

unfoldable pub before_all : {S A : Type 0} → A → Reads S (List A) → Reads S (List A)
before_all x m s = put_first x (m s)

unfoldable pub each : {S A : Type 0} → List (Reads S A) → Reads S (List A)
each [] = pure []
each (m ∷ ms) = m >>= (λ x. before_all x (each ms))

unfoldable pub optional : {S A : Type 0} → Option (Reads S A) → Reads S (Option A)
optional None = pure None
optional (Some m) = m >>= (λ x. pure (Some x))

-- What a call answers: the part exactly where there is no fault, and else the first fault; want of memory is free.
abbrev pub Does : {S A : Type 0} → Reads S A → S → S → Result A Refusal → Type 0
Does m old new (Ok x) = m old ≡ done x new
Does m old new (Err (refusal.Fault fault)) = first_of (m old).faults ≡ Some fault
Does m old new (Err refusal.Memory) = Unit {0}

pub record Goes {S A : Type 0} (m : Reads S A) (old new : S) (result : Result A Refusal) : Type 0 where
  pub does : Does m old new result
