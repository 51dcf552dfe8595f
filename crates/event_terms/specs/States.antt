-- Event expressions of sites, under way, and what a step of one tells.
use Rattle.std.specs.Prelude.{◌≡◌, ◌-◌, ℕ, ℤ, [], Some, slice_get}
use Rattle.typed_program.specs.declared.program.Program.{Program}
use Rattle.typed_program.specs.declared.program.Site.{Site}
use Rattle.term_meaning.specs.declared.progress.Stepped.{Stepped}
use Rattle.term_meaning.specs.declared.stimulus.Stimulus.{Stimulus}
use Rattle.term_meaning.specs.Step.{is_gone}
use Rattle.term_meaning.specs.UnderWay.{UnderWay, left_of, setting_of, stepped_in}
use Rattle.event_terms.specs.declared.state.StepOut.{StepOut}

-- an event expression of a site, under way
pub record SiteExpression : Type 0 where
  pub site : ℕ
  pub expression : UnderWay

-- what is left and what is told, where a step gives this
pub record Moves (a : Stepped) (old : SiteExpression) (out : StepOut) (new : SiteExpression) : Type 0 where
  pub after : new ≡ record { site = old.site; expression = left_of old.expression a }
  pub completions : out.completions ≡ a.completions
  pub ended : out.ended ≡ is_gone a.left
  pub fitted : out.fitted ≡ a.fitted
  pub begun : out.begun ≡ a.next - old.expression.next

-- a stimulus moves it, at a time
pub record Steps (program : Program) (stimulus : Stimulus) (now : ℤ) (old : SiteExpression) (out : StepOut) (new : SiteExpression) : Type 0 where
  pub moves : (found : Site) → slice_get program.sites old.site ≡ Some found → Moves (stepped_in (setting_of program.types found old.expression.operands now) stimulus old.expression) old out new

-- nothing came of a step
pub record IsStill (old : SiteExpression) (out : StepOut) (new : SiteExpression) : Type 0 where
  pub same : new ≡ old
  pub completions : out.completions ≡ []
  pub begun : out.begun ≡ 0
