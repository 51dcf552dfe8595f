-- Steps of listeners, and what is told of them.
use Rattle.std.specs.Prelude.{ℕ, ℤ, List, Option, Some, None, length, map, slice_get, slice_set, ◌≡◌, ◌-◌, ◌<◌}
use Rattle.std.specs.List.{find}
use Rattle.typed_program.specs.declared.program.Program.{Program}
use Rattle.typed_program.specs.declared.program.Site.{Site}
use Rattle.term_meaning.specs.declared.progress.Stepped.{Stepped}
use Rattle.term_meaning.specs.declared.stimulus.Stimulus.{Stimulus}
use Rattle.term_meaning.specs.Step.{is_gone}
use Rattle.term_meaning.specs.UnderWay.{left_of, setting_of, stepped_in}
use Rattle.event_terms.specs.declared.state.StepOut.{StepOut}
use Rattle.context_meaning.specs.Contexts.{Context, is_born, listener_of, put_expression, with_expression}
use Rattle.context_meaning.specs.Listeners.{Listener}
use Rattle.context_meaning.specs.Turns.{step_at}
use Rattle.live_context.specs.Order.{birth_of, owner_of}

-- this is told of what a step gives, where so many leaves had begun before
pub record Tells (a : Stepped) (before : ℕ) (told : StepOut) : Type 0 where
  pub completions : told.completions ≡ a.completions
  pub ended : told.ended ≡ is_gone a.left
  pub fitted : told.fitted ≡ a.fitted
  pub begun : told.begun ≡ a.next - before

-- ---- in a context

-- the live listener of a birth is stepped, and this is told of it
pub record StepsLive (program : Program) (s : Stimulus) (birth : ℕ) (before : Context) (told : StepOut) (after : Context) : Type 0 where
  pub listener : Listener
  pub live : listener_of birth before ≡ Some listener
  pub site : Site
  pub there : slice_get program.sites listener.site ≡ Some site
  pub moves : after ≡ with_expression birth (left_of listener.expression (step_at program before s listener site)) before
  pub tells : Tells (step_at program before s listener site) listener.expression.next told

-- the listener of a birth is stepped, where it is live; else nothing is told, and nothing changes
abbrev pub StepsBorn : Program → Stimulus → ℕ → Context → Option StepOut → Context → Type 0
StepsBorn program s birth before None after = (listener_of birth before ≡ None) × (after ≡ before)
StepsBorn program s birth before (Some told) after = StepsLive program s birth before told after

-- ---- in a list of listeners

-- what a step of a listener of a site gives, at a time
abbrev pub given_at : Program → Stimulus → ℤ → Listener → Site → Stepped
given_at program s now l site = stepped_in (setting_of program.types site l.expression.operands now) s l.expression

-- a listener is stepped at a time
pub record StepsOne (program : Program) (s : Stimulus) (now : ℤ) (old : Listener) (told : StepOut) (new : Listener) : Type 0 where
  pub moves : (site : Site) → slice_get program.sites old.site ≡ Some site → new ≡ record old { expression = left_of old.expression (given_at program s now old site) }
  pub tells : (site : Site) → slice_get program.sites old.site ≡ Some site → Tells (given_at program s now old site) old.expression.next told

-- the listener at a place is stepped at a time
pub record StepsPlace (program : Program) (s : Stimulus) (now : ℤ) (at : ℕ) (old : List Listener) (listener : Listener) (told : StepOut) (new : List Listener) : Type 0 where
  pub moves : (site : Site) → slice_get program.sites listener.site ≡ Some site → new ≡ slice_set old at (record listener { expression = left_of listener.expression (given_at program s now listener site) })
  pub tells : (site : Site) → slice_get program.sites listener.site ≡ Some site → Tells (given_at program s now listener site) listener.expression.next told

-- the listener of a birth is stepped at a time
pub record StepsFound (program : Program) (s : Stimulus) (now : ℤ) (birth : ℕ) (old : List Listener) (told : StepOut) (new : List Listener) : Type 0 where
  pub listener : Listener
  pub live : find (is_born birth) old ≡ Some listener
  pub moves : (site : Site) → slice_get program.sites listener.site ≡ Some site → new ≡ put_expression birth (left_of listener.expression (given_at program s now listener site)) old
  pub tells : (site : Site) → slice_get program.sites listener.site ≡ Some site → Tells (given_at program s now listener site) listener.expression.next told

abbrev pub StepsAmong : Program → Stimulus → ℤ → ℕ → List Listener → Option StepOut → List Listener → Type 0
StepsAmong program s now birth old None new = (find (is_born birth) old ≡ None) × (new ≡ old)
StepsAmong program s now birth old (Some told) new = StepsFound program s now birth old told new

-- the site of a listener is there
abbrev pub HasSite : Program → Listener → Type 0
HasSite program l = l.site < length program.sites

-- the same birth and instance
pub record IsSame (old new : Listener) : Type 0 where
  pub birth : new.birth ≡ old.birth
  pub instance : new.instance ≡ old.instance

-- the same births and instances
pub record AreSame (old new : List Listener) : Type 0 where
  pub births : map birth_of new ≡ map birth_of old
  pub owners : map owner_of new ≡ map owner_of old
