-- How a context handles an entry, and what waits in front.
use Rattle.context_meaning.specs.Common.{ℕ, List, [], map, slice_get, Value, Program, Monitor, Waiting}
use Rattle.std.specs.Prelude.{ℤ, ◌+◌, ◌*◌, ◌∷◌, if◌then◌else◌, zero, suc, ◌^◌, nat_lt}
use Rattle.value_rules.specs.Defaults.{default_of}
use Rattle.record_book.specs.declared.cargo.Cargo.{Cargo}
use Rattle.record_book.specs.declared.cargo.Cargo.TheVariants as cargo
use Rattle.term_meaning.specs.declared.stimulus.Stimulus.{Stimulus}
use Rattle.term_meaning.specs.declared.stimulus.Stimulus.TheVariants as stimulus
use Rattle.context_meaning.specs.declared.context.Waiting.TheVariants as waiting
use Rattle.context_meaning.specs.Contexts.{Context, with_some, with_clock, behind_charge, spend, unless_spent, has_instances, with_instance, row_in_front, with_front}
use Rattle.context_meaning.specs.Ends.{ran}
use Rattle.context_meaning.specs.Turns.{Turned, turned}

-- ---- what waits in front

-- the mark that a thing leaves: an event leaves one, a mark leaves none
abbrev pub marks_of : Waiting → List Waiting
marks_of (waiting.Event e) = waiting.Completed e ∷ []
marks_of (waiting.Completed e) = []

-- what handling a thing can still bring about, beside the fuel that it takes: an event leaves its mark
abbrev pub weight_of : Waiting → ℕ
weight_of (waiting.Event e) = 2
weight_of (waiting.Completed e) = 1

abbrev pub front_weight : List Waiting → ℕ
front_weight [] = 0
front_weight (w ∷ ws) = weight_of w + front_weight ws

-- the greatest number of a handling
abbrev pub last_number : ℕ
last_number = 2 ^ 62

module _ (program : Program) where
  -- ---- turns of an event, of its mark, and of a time

  -- a turn with a stimulus
  abbrev pub one_turn : Stimulus → Context → Context
  one_turn s c = (turned program s c).context

  -- where no ordinary template fitted, unmatched ones are tried
  abbrev pub unmatched : Value → Turned → Context
  unmatched e t = if t.fitted then t.context else unless_spent (one_turn (stimulus.Unmatched e)) t.context

  -- an event
  abbrev pub event_turns : Value → Context → Context
  event_turns e c = unmatched e (turned program (stimulus.Event e) c)

  -- what finds an instance is charged; without one nothing is done
  abbrev pub where_instances : (Context → Context) → Context → Context
  where_instances go c = if has_instances c then behind_charge 5 go c else c

  -- the listeners meet a thing
  abbrev pub met : Waiting → Context → Context
  met (waiting.Event e) c = where_instances (event_turns e) c
  met (waiting.Completed e) c = where_instances (one_turn (stimulus.Completed e)) c

  -- a time sets the clock, and the listeners meet it, which is charged where there is an instance
  abbrev pub timed : ℤ → Context → Context
  timed now c = if has_instances c then behind_charge 5 (λ d. one_turn (stimulus.Time now) (with_clock now d)) c else with_clock now c

  -- ---- what is handled

  -- the globals of a monitor begin with the defaults of their shapes
  abbrev pub defaults_in : Monitor → List Value
  defaults_in m = map (λ g. default_of program.types g.shape) m.globals

  -- an instance begins, and its `onload` runs
  abbrev pub load_handled : ℕ → Context → Context
  load_handled monitor c = behind_charge 5 (with_some (slice_get program.monitors monitor) (λ m d. ran program (d.begun + 1) m.onload [] (with_instance monitor (defaults_in m) d))) c

  -- a thing is handled; what it put in a row and then its mark stand before what waits
  abbrev pub thing_handled : Waiting → Context → Context
  thing_handled w c = row_in_front (marks_of w) (met w c)

  -- what an entry carries
  abbrev pub cargo_handled : Cargo → Context → Context
  cargo_handled (cargo.Load monitor) c = row_in_front [] (load_handled monitor c)
  cargo_handled (cargo.Event e) c = thing_handled (waiting.Event e) c
  cargo_handled (cargo.Time now) c = row_in_front [] (timed now c)

  -- ---- the front

  -- the first of these is handled, before the others
  abbrev pub front_handled : List Waiting → Context → Context
  front_handled [] c = c
  front_handled (w ∷ ws) c = thing_handled w (with_front ws c)

  abbrev pub first_handled : Context → Context
  first_handled c = front_handled c.front c

  -- the first in front, again and again, so often while there is one
  abbrev pub drained : ℕ → Context → Context
  drained zero c = c
  drained (suc n) c = drained n (unless_spent first_handled c)

  -- the first in front until there is none; each thing that is handled takes fuel, or leaves less in front
  abbrev pub settled : Context → Context
  settled c = drained (2 * c.fuel + front_weight c.front) c

  -- a handling under a number; past the greatest number the context is spent, and the handling stops there
  abbrev pub handle : Context → ℕ → Cargo → Context
  handle c number load = if nat_lt last_number number then spend c else settled (cargo_handled load c)
