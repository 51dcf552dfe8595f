-- Handling, with what waits in front, keeps a context's fit.
use Rattle.std.proofs.Common.{◌∷◌, ◌++◌, ◌*◌, ◌+◌}
use Rattle.context_meaning.proofs.Common.{ℕ, ℤ, zero, suc, List, [], nat_lt, arith, cond_both, All, All-cons, All-nil, All-head, All-tail, Value, out-Value, Program, Typed, Cargo, Waiting, Context, behind_charge, has_instances, row_in_front, spend, unless_spent, with_clock, with_front, with_fuel, Turned, turned, cargo_handled, drained, event_turns, first_handled, front_handled, front_weight, handle, last_number, load_handled, marks_of, met, one_turn, settled, thing_handled, timed, unmatched, where_instances, CargoFits, ContextFits, InstanceFits, IsTime, ListenerFits, WaitingFits}
use Rattle.std.proofs.lemmas.List.Elements.{All-append}
use Rattle.value_shapes.specs.Fits.{IsEvent}
use Rattle.record_book.specs.declared.cargo.Cargo.TheVariants as cargo
use Rattle.term_meaning.specs.declared.stimulus.Stimulus.TheVariants as stimulus
use Rattle.context_meaning.specs.Contexts.{fresh}
use Rattle.context_meaning.specs.declared.context.Waiting.TheVariants as waiting
use Rattle.context_meaning.proofs.Choosing.{unless_both}
use Rattle.context_meaning.proofs.Running.{ShapesKept, clock_fits, fuel_fits, spend_fits}
use Rattle.context_meaning.proofs.Beginning.{charge_fits, load_fits}
use Rattle.context_meaning.proofs.Turning.{turned_fits}

module _ (program : Program) where
  -- before anything is handled
  pub fresh_fits : (slot slots fuel : ℕ) → ContextFits program (fresh slot slots fuel)
  fresh_fits slot slots fuel = record { clock = (omega arith, omega arith); instances = All-nil (InstanceFits program 0); listeners = All-nil (ListenerFits program 0 []); row = All-nil (WaitingFits program); front = All-nil (WaitingFits program) }

  -- the row and then marks that fit stand before what waits
  pub row_in_front_fits : (marks : List Waiting) (c : Context) → All (WaitingFits program) marks → ContextFits program c → ContextFits program (row_in_front marks c)
  row_in_front_fits marks c m f = record { clock = f.clock; instances = f.instances; listeners = f.listeners; row = All-nil (WaitingFits program); front = All-append (WaitingFits program) (c.row ++ marks) c.front (All-append (WaitingFits program) c.row marks f.row m) f.front }

  -- these wait in front, and no others
  pub with_front_fits : (ws : List Waiting) (c : Context) → All (WaitingFits program) ws → ContextFits program c → ContextFits program (with_front ws c)
  with_front_fits ws c all f = record { clock = f.clock; instances = f.instances; listeners = f.listeners; row = f.row; front = all }

  -- the mark that a thing leaves
  pub marks_fit : (w : Waiting) → WaitingFits program w → All (WaitingFits program) (marks_of w)
  marks_fit (waiting.Event e) h = All-cons (WaitingFits program) (waiting.Completed e) [] h (All-nil (WaitingFits program))
  marks_fit (waiting.Completed e) h = All-nil (WaitingFits program)

module _ (program : Program) (typed : Typed program) (law : ShapesKept) where
  -- ---- turns

  -- unmatched templates where no ordinary one fitted
  unmatched_fits : (e : Value) (t : Turned) → IsEvent program.types e (out-Value e) → ContextFits program t.context → ContextFits program (unmatched program e t)
  unmatched_fits e t h f = cond_both t.fitted t.context (unless_spent (one_turn program (stimulus.Unmatched e)) t.context) (ContextFits program) (λ _. f) (λ _. unless_both (ContextFits program) (one_turn program (stimulus.Unmatched e)) t.context f (turned_fits program typed law (stimulus.Unmatched e) t.context h f))

  -- an event
  pub event_fits : (e : Value) (c : Context) → IsEvent program.types e (out-Value e) → ContextFits program c → ContextFits program (event_turns program e c)
  event_fits e c h f = unmatched_fits e (turned program (stimulus.Event e) c) h (turned_fits program typed law (stimulus.Event e) c h f)

  -- where there is an instance
  where_fits : (go : Context → Context) (c : Context) → ContextFits program c → ((d : Context) → ContextFits program d → ContextFits program (go d)) → ContextFits program (where_instances program go c)
  where_fits go c f k = cond_both (has_instances c) (behind_charge 5 go c) c (ContextFits program) (λ _. charge_fits program 5 go c f (λ fuel. k (with_fuel fuel c) (fuel_fits program c fuel f))) (λ _. f)

  -- the listeners meet a thing
  pub met_fits : (w : Waiting) (c : Context) → WaitingFits program w → ContextFits program c → ContextFits program (met program w c)
  met_fits (waiting.Event e) c h f = where_fits (event_turns program e) c f (λ d g. event_fits e d h g)
  met_fits (waiting.Completed e) c h f = where_fits (one_turn program (stimulus.Completed e)) c f (λ d g. turned_fits program typed law (stimulus.Completed e) d h g)

  -- a turn with a time that sets the clock
  pub clock_turn_fits : (now : ℤ) (c : Context) → IsTime now → ContextFits program c → ContextFits program (one_turn program (stimulus.Time now) (with_clock now c))
  clock_turn_fits now c time f = turned_fits program typed law (stimulus.Time now) (with_clock now c) tt (clock_fits program now c time f)

  -- a time
  pub timed_fits : (now : ℤ) (c : Context) → IsTime now → ContextFits program c → ContextFits program (timed program now c)
  timed_fits now c time f =
      let go : Context → Context = λ d. one_turn program (stimulus.Time now) (with_clock now d) in
      cond_both (has_instances c) (behind_charge 5 go c) (with_clock now c) (ContextFits program) (λ _. charge_fits program 5 go c f (λ fuel. clock_turn_fits now (with_fuel fuel c) time (fuel_fits program c fuel f))) (λ _. clock_fits program now c time f)

  -- ---- what is handled

  -- a thing
  pub thing_fits : (w : Waiting) (c : Context) → WaitingFits program w → ContextFits program c → ContextFits program (thing_handled program w c)
  thing_fits w c h f = row_in_front_fits program (marks_of w) (met program w c) (marks_fit program w h) (met_fits w c h f)

  -- what an entry carries
  pub cargo_fits : (load : Cargo) (c : Context) → CargoFits program load → ContextFits program c → ContextFits program (cargo_handled program load c)
  cargo_fits (cargo.Load monitor) c is f = row_in_front_fits program [] (load_handled program monitor c) (All-nil (WaitingFits program)) (load_fits program typed law monitor c f)
  cargo_fits (cargo.Event e) c is f = thing_fits (waiting.Event e) c is f
  cargo_fits (cargo.Time now) c is f = row_in_front_fits program [] (timed program now c) (All-nil (WaitingFits program)) (timed_fits now c is f)

  -- ---- the front

  -- the first of these in front
  pub front_fits : (ws : List Waiting) (c : Context) → All (WaitingFits program) ws → ContextFits program c → ContextFits program (front_handled program ws c)
  front_fits [] c all f = f
  front_fits (w ∷ ws) c all f = thing_fits w (with_front ws c) (All-head (WaitingFits program) w ws all) (with_front_fits program ws c (All-tail (WaitingFits program) w ws all) f)

  -- the first in front
  pub first_fits : (c : Context) → ContextFits program c → ContextFits program (first_handled program c)
  first_fits c f = front_fits c.front c f.front f

  -- as often as this
  pub drained_fits : (n : ℕ) (c : Context) → ContextFits program c → ContextFits program (drained program n c)
  drained_fits zero c f = f
  drained_fits (suc n) c f = drained_fits n (unless_spent (first_handled program) c) (unless_both (ContextFits program) (first_handled program) c f (first_fits c f))

  -- what waits in front
  pub settled_fits : (c : Context) → ContextFits program c → ContextFits program (settled program c)
  settled_fits c f = drained_fits (2 * c.fuel + front_weight c.front) c f

  -- a handling under a number
  pub handle_fits : (c : Context) (number : ℕ) (load : Cargo) → CargoFits program load → ContextFits program c → ContextFits program (handle program c number load)
  handle_fits c number load is f = cond_both (nat_lt last_number number) (spend c) (settled program (cargo_handled program load c)) (ContextFits program) (λ _. spend_fits program c f) (λ _. settled_fits (cargo_handled program load c) (cargo_fits load c is f))
