-- Listeners whose callbacks run, and what a step of a listener comes to.
use Rattle.context_steps.specs.Common.{ℕ, List, [], Bool, true, false, Option, Some, None, slice_get, Program, Site, Context, Listener}
use Rattle.std.specs.Prelude.{◌≡◌, if◌then◌else◌}
use Rattle.term_meaning.specs.declared.progress.Progress.TheVariants as progress
use Rattle.term_meaning.specs.declared.stimulus.Binding.{Binding}
use Rattle.term_meaning.specs.UnderWay.{UnderWay}
use Rattle.context_meaning.specs.Contexts.{listener_of, unless_spent, with_some, without_birth}
use Rattle.context_meaning.specs.Ends.{idle_in}
use Rattle.context_meaning.specs.Turns.{Turned, called_all}
use Rattle.context_steps.specs.declared.callbacks.Called.{Called}

-- a listener of a context, as one whose callback is to run
abbrev pub called_in : Option Listener → Option Called
called_in None = None
called_in (Some l) = Some (record { birth = l.birth; instance = l.instance; site = l.site; captured = l.captured })

-- nothing is left of an event expression
abbrev pub nothing_left : UnderWay
nothing_left = record { operands = []; progress = progress.Gone; next = 0 }

-- a listener with all that its callback asks of it
abbrev pub listener_in : Called → Listener
listener_in c = record { birth = c.birth; instance = c.instance; site = c.site; captured = c.captured; expression = nothing_left }

abbrev pub is_live : Option Listener → Bool
is_live None = false
is_live (Some l) = true

-- what holds of the live listener of a birth and of its site, where both are there
abbrev pub AtListener : Program → ℕ → Context → (Listener → Site → Type 0) → Type 0
AtListener program birth c P = (l : Listener) (site : Site) → listener_of birth c ≡ Some l → slice_get program.sites l.site ≡ Some site → P l site

-- a context in a turn, and whether an ordinary template has fitted
abbrev pub turned_to : Context → Bool → Turned
turned_to c fitted = record { context = c; fitted = fitted }

module _ (program : Program) where
  -- while the listener of a birth is live it goes, and its instance ends where it has no live listener
  abbrev pub gone_from : ℕ → ℕ → Context → Context
  gone_from birth instance c = with_some (listener_of birth c) (λ live d. idle_in program instance (without_birth birth d)) c

  -- a listener with nothing left goes, unless the context is spent
  abbrev pub left : Listener → Bool → Context → Context
  left l ended c = if ended then unless_spent (gone_from l.birth l.instance) c else c

  -- its callback runs for each completion, and where nothing is left it goes
  abbrev pub taken : Listener → Site → List (List Binding) → Bool → Context → Context
  taken l site completions ended c = left l ended (called_all program l site completions c)
