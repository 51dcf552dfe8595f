-- Rounds of the parts.
use Rattle.world_serial.proofs.Common.{ℕ, suc, Bool, false, sym, ◌∙◌, ap, subst, arith, Cargo}
use Rattle.world_serial.specs.Common.{Program, Item, Settings, ReaderPart}
use Rattle.world_serial.specs.declared.world.World.{World}
use Rattle.world_serial.specs.Fitting.{IsFitting}
use Rattle.naive_meaning.specs.Actors.{slots_of, reader_of, actors_of}
use Rattle.std.proofs.Common.{◌≡◌, ◌+◌, ◌≤◌, ◌⊎◌, ◌||◌}
use Rattle.actor_theory.specs.World.{World as Moment, IsQuiet}
use Rattle.actor_theory.specs.Potential.{IsMeasure}
use Rattle.actor_theory.specs.Measure.{IsJoinedLog}
use Rattle.actor_theory.specs.Rounding.{Rounding, RoundsSoFar}
use Rattle.actor_theory.proofs.Rounding.{rounding-all, rounds-more, rounds-all}
use Rattle.actor_theory.proofs.Looping.{machine-rounding_more}
use Rattle.world_serial.specs.Serial.{weight, cost, cells_in, moment_of, IsStanding, TurnsOn, RoundsOn, FinishesOn}

-- one more turn, where what waits is a measure
pub turn-more : (p : Program) (settings : Settings) → IsMeasure (actors_of p settings) (IsJoinedLog settings.contexts) weight (cost settings.contexts) → (takes : Bool) (began : Moment (Cargo ⊎ Item)) (now then : World) (d : ℕ) (handled more both : Bool) → Rounding (actors_of p settings) weight (cost settings.contexts) takes began (moment_of settings.contexts now) d handled → d ≤ settings.contexts
    → TurnsOn p settings takes d now then more → both ≡ (handled || more) → Rounding (actors_of p settings) weight (cost settings.contexts) takes began (moment_of settings.contexts then) (d + 1) both
turn-more p settings measure takes began now then d handled more both h le turned is =
    let next = machine-rounding_more settings.contexts (slots_of p settings) (reader_of p settings.contexts) weight (cost settings.contexts) measure takes began (cells_in now.cells.items) now.reader.cell now.queued.items (cells_in then.cells.items) then.reader.cell then.queued.items d handled more h le turned in
    let P : Bool → Type 0 = λ b. Rounding (actors_of p settings) weight (cost settings.contexts) takes began (moment_of settings.contexts then) (d + 1) b in
    subst P (sym is) next

-- the reader's turn ends the round
pub round-over : (p : Program) (settings : Settings) → IsMeasure (actors_of p settings) (IsJoinedLog settings.contexts) weight (cost settings.contexts) → (takes : Bool) (old now then : World) (d : ℕ) (handled more both : Bool) → Rounding (actors_of p settings) weight (cost settings.contexts) takes (moment_of settings.contexts old) (moment_of settings.contexts now) d handled → d ≡ settings.contexts
    → now.reader ≡ old.reader → TurnsOn p settings takes settings.contexts now then more → (takes ≡ false → then.reader.cell.rest ≡ now.reader.cell.rest) → both ≡ (handled || more) → IsStanding p settings then → IsFitting p then → RoundsOn p settings takes old then both
round-over p settings measure takes old now then d handled more both h at same turned waits is stands fits =
    let P : ℕ → Type 0 = λ k. Rounding (actors_of p settings) weight (cost settings.contexts) takes (moment_of settings.contexts old) (moment_of settings.contexts now) k handled in
    let last = turn-more p settings measure takes (moment_of settings.contexts old) now then settings.contexts handled more both (subst P at h) (omega arith) turned is in
    let end : suc settings.contexts ≤ settings.contexts + 1 = omega arith in
    record {
      standing = stands;
      fitting = fits;
      rounded = rounding-all (actors_of p settings) weight (cost settings.contexts) takes (moment_of settings.contexts old) (moment_of settings.contexts then) (settings.contexts + 1) both last end;
      waits = λ no_items. waits no_items ∙ ap (λ (r : ReaderPart). r.cell.rest) same;
    }

-- one more round
pub round-more : (p : Program) (settings : Settings) (takes : Bool) (from now then : World) (handled : Bool) → RoundsSoFar (actors_of p settings) takes (moment_of settings.contexts from) (moment_of settings.contexts now) → RoundsOn p settings takes now then handled
    → RoundsSoFar (actors_of p settings) takes (moment_of settings.contexts from) (moment_of settings.contexts then)
round-more p settings takes from now then handled h on = rounds-more (actors_of p settings) takes (moment_of settings.contexts from) (moment_of settings.contexts now) (moment_of settings.contexts then) h on.rounded.is

-- the last round has handled nothing
pub rounds-over : (p : Program) (settings : Settings) (takes : Bool) (from now then : World) (handled : Bool) → RoundsSoFar (actors_of p settings) takes (moment_of settings.contexts from) (moment_of settings.contexts now)
    → (takes ≡ false → now.reader.cell.rest ≡ from.reader.cell.rest) → RoundsOn p settings takes now then handled → handled ≡ false → FinishesOn p settings takes from then
rounds-over p settings takes from now then handled h waits on none =
    let quiet = on.rounded.quiet none in
    let P : Moment (Cargo ⊎ Item) → Type 0 = IsQuiet (actors_of p settings) takes in
    record {
      standing = on.standing;
      fitting = on.fitting;
      finished = rounds-all (actors_of p settings) takes (moment_of settings.contexts from) (moment_of settings.contexts then) (round-more p settings takes from now then handled h on) (subst P (sym quiet.0) quiet.1);
      waits = λ no_items. on.waits no_items ∙ waits no_items;
    }
