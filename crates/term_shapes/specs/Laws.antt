-- What typed programs' event expressions keep.
use Rattle.std.specs.Prelude.{◌≡◌, ℕ, ℤ, List, Some, slice_get}
use Rattle.epl_values.specs.declared.value.Value.{Value}
use Rattle.typed_program.specs.declared.program.Program.{Program}
use Rattle.typed_program.specs.declared.program.Site.{Site}
use Rattle.typed_program.specs.Typed.{Typed}
use Rattle.term_meaning.specs.declared.progress.Progress.{Progress}
use Rattle.term_meaning.specs.declared.stimulus.Stimulus.{Stimulus}
use Rattle.term_meaning.specs.UnderWay.{begun_in, setting_of, stepped_in}
use Rattle.term_shapes.specs.Kept.{CompletionsFit, ExpressionFits, HeardFits}

-- the event expression of a site begins with nothing bound that hasn't its shape
abbrev pub BeginsFit : Type 0
BeginsFit = (program : Program) → Typed program → (n : ℕ) (site : Site) → slice_get program.sites n ≡ Some site → (operands : List Value) (now : ℤ) →
    ExpressionFits program.types site (begun_in (setting_of program.types site operands now)).progress

-- a step keeps that, and gives completions of which all is of its shape
pub record StepFits (program : Program) (site : Site) (s : Stimulus) (operands : List Value) (now : ℤ) (progress : Progress) (leaves : ℕ) : Type 0 where
  pub left : ExpressionFits program.types site (stepped_in (setting_of program.types site operands now) s (record { operands = operands; progress = progress; next = leaves })).left
  pub completions : CompletionsFit program.types site.bound (stepped_in (setting_of program.types site operands now) s (record { operands = operands; progress = progress; next = leaves })).completions

abbrev pub StepsFit : Type 0
StepsFit = (program : Program) → Typed program → (n : ℕ) (site : Site) → slice_get program.sites n ≡ Some site → (s : Stimulus) → HeardFits program.types s →
    (operands : List Value) (now : ℤ) (progress : Progress) (leaves : ℕ) → ExpressionFits program.types site progress → StepFits program site s operands now progress leaves
