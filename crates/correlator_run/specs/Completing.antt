-- What follows from the promise.
use Rattle.std.specs.Prelude.{◌≡◌, ℕ, ◌^◌, ◌-◌, ◌<◌, ◌⊎◌, List, Option, Some, None, IfSome}
use Rattle.typed_program.specs.declared.program.Program.{Program}
use Rattle.record_book.specs.declared.item.Item.{Item}
use Rattle.run_face.specs.Words.{Named, named_files}
use Rattle.correlator_run.specs.Inputs.{Files, IsInput}

-- the words are refused only where they are no command, and where they are none there is no other answer but want of memory
pub record WordsStatus (words : List (List ℕ)) (status : ℕ) : Type 0 where
  pub refused : status ≡ 1 → named_files words ≡ None
  pub only : named_files words ≡ None → (status ≡ 1) ⊎ (status ≡ 4)

-- a run that is done, or want of memory
abbrev pub IsComplete : ℕ → Type 0
IsComplete status = (status ≡ 0) ⊎ ((status ≡ 7) ⊎ (status ≡ 4))

-- a count of faults that stayed, below the end of its type
abbrev pub Stayed : ℕ → ℕ → Type 0
Stayed before now = (before < 2 ^ 64 - 1) × (now ≡ before)

-- where the words and the files give a program and items, the run is done, or memory was wanting
abbrev pub Completes : List (List ℕ) → Option Files → ℕ → Type 0
Completes words files status = IfSome files (λ fs. (named : Named) (program : Program) (items : List Item) → named_files words ≡ Some named → IsInput (Some fs) named program items → IsComplete status)
