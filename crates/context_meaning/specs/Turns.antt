-- Turns: how the live listeners are stepped, and how their callbacks run.
use Rattle.context_meaning.specs.Common.{ℕ, List, [], Bool, false, length, slice_get, Program, Site}
use Rattle.std.specs.Prelude.{◌+◌, ◌-◌, ◌∷◌, ◌||◌, Option, Some, None, if◌then◌else◌}
use Rattle.term_meaning.specs.declared.stimulus.Binding.{Binding}
use Rattle.term_meaning.specs.declared.stimulus.Stimulus.{Stimulus}
use Rattle.term_meaning.specs.declared.progress.Stepped.{Stepped}
use Rattle.term_meaning.specs.Step.{is_gone}
use Rattle.term_meaning.specs.UnderWay.{setting_of, stepped_in, left_of}
use Rattle.context_meaning.specs.Contexts.{Context, with_some, behind_charge, unless_spent, with_expression, without_birth, listener_of, births_in}
use Rattle.context_meaning.specs.Ends.{idle_in, ran}
use Rattle.context_meaning.specs.Listeners.{Listener, callback_locals}

-- a context in a turn, and whether an ordinary template of a listener that was stepped fitted
pub record Turned : Type 0 where
  pub context : Context
  pub fitted : Bool

module _ (program : Program) where
  -- the number of the body of a site, behind the actions
  abbrev pub body_number : ℕ → ℕ
  body_number site = length program.actions + site

  -- ---- a listener

  -- what a step of its event expression gives, at the time of the context's clock
  abbrev pub step_at : Context → Stimulus → Listener → Site → Stepped
  step_at c s l site = stepped_in (setting_of program.types site l.expression.operands c.clock) s l.expression

  -- its callback runs with a completion; that is charged as each run of a body is
  abbrev pub called : Listener → Site → List Binding → Context → Context
  called l site completion c = ran program l.instance (body_number l.site) (callback_locals program.types site l.captured completion) c

  -- the same, while it is live
  abbrev pub called_live : Listener → Site → List Binding → Context → Context
  called_live l site completion c = with_some (listener_of l.birth c) (λ live. called l site completion) c

  -- its callback runs once for each completion, in order
  abbrev pub called_all : Listener → Site → List (List Binding) → Context → Context
  called_all l site [] c = c
  called_all l site (x ∷ xs) c = called_all l site xs (unless_spent (called_live l site x) c)

  -- while it is live it goes, and an instance without a live listener ends
  abbrev pub gone : Listener → Context → Context
  gone l c = with_some (listener_of l.birth c) (λ live d. idle_in program l.instance (without_birth l.birth d)) c

  -- a listener with nothing left goes
  abbrev pub left_over : Listener → Stepped → Context → Context
  left_over l a c = if is_gone a.left then unless_spent (gone l) c else c

  -- what a step comes to: the leaves that begin are charged, the callback runs for each completion, and a listener with nothing left goes
  abbrev pub step_taken : Listener → Site → Stepped → Context → Context
  step_taken l site a c = behind_charge (a.next - l.expression.next) (λ d. left_over l a (called_all l site a.completions d)) (with_expression l.birth (left_of l.expression a) c)

  -- ---- a turn

  -- a listener of a site is stepped
  abbrev pub stepped_at : Stimulus → Listener → Site → Turned → Turned
  stepped_at s l site t = let a = step_at t.context s l site in record { context = step_taken l site a t.context; fitted = t.fitted || a.fitted }

  abbrev pub at_site : Stimulus → Listener → Option Site → Turned → Turned
  at_site s l None t = t
  at_site s l (Some site) t = stepped_at s l site t

  -- a listener that is live is stepped
  abbrev pub stepped : Stimulus → Option Listener → Turned → Turned
  stepped s None t = t
  stepped s (Some l) t = at_site s l (slice_get program.sites l.site) t

  -- the listener of this birth is stepped, where it is live and the context isn't spent
  abbrev pub stepped_born : Stimulus → ℕ → Turned → Turned
  stepped_born s birth t = if t.context.spent then t else stepped s (listener_of birth t.context) t

  -- a turn over these births, each while its listener is live
  abbrev pub turn : Stimulus → List ℕ → Turned → Turned
  turn s [] t = t
  turn s (b ∷ bs) t = turn s bs (stepped_born s b t)

  -- a turn over the listeners that live now, in order of birth
  abbrev pub turned : Stimulus → Context → Turned
  turned s c = turn s (births_in c) (record { context = c; fitted = false })
