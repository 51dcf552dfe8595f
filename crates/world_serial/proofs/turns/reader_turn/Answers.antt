use Rattle.std.proofs.Common.{refl, ◌∙◌, ap}
use Rattle.naive_meaning.specs.Actors.{reader_of, slots_of}
use Rattle.world_serial.specs.Common.{ReaderPart}
use Rattle.world_serial.specs.Serial.{cells_in}
use Rattle.world_serial.proofs.FittingLemmas.{entry-fits}
use Rattle.world_serial.proofs.ItemLemmas.{item-stands, item-turned, item-turn_fits, no_program, ok-then}
use Rattle.world_serial.proofs.StandLemmas.{idle-stands, reader-low}
use Rattle.world_serial.proofs.TurnLemmas.{turn-entry, turn-wait}
use Rattle.world_serial.proofs.turns.reader_turn.Goals as goal

pub returns-in-Some-clause-turn : goal.returns-in-Some-clause-turn
returns-in-Some-clause-turn c =
    turn-entry c.args.settings.contexts (slots_of c.args.program.now c.args.settings) (reader_of c.args.program.now c.args.settings.contexts) c.args.takes (cells_in c.args.world.now.cells.items) c.args.world.now.reader.cell c.handle.new.self.cell c.args.world.now.queued.items c.pop_at.new.queued.items c.in-Some.entry
    c.requires.standing.stand c.in-Some.ensures.first c.pop_at.ensures.rest (ap (λ (x : ReaderPart). x.cell) (c.in_ok-handle.ensures c.args.program.now))

pub returns-in-Some-clause-standing : goal.returns-in-Some-clause-standing
returns-in-Some-clause-standing c =
    let turned = returns-in-Some-clause-turn c in
    let after = c.in_ok-handle.ensures c.args.program.now in
    record {
      stand = turned.stand;
      each = c.requires.standing.each;
      contexts = ap (λ (x : ReaderPart). x.contexts) after ∙ c.requires.standing.contexts;
      handed = ap (λ (x : ReaderPart). x.outboxes) after ∙ c.requires.standing.handed;
    }

pub returns-in-Some-clause-fits : goal.returns-in-Some-clause-fits
returns-in-Some-clause-fits c =
    let low = reader-low c.args.program.now c.args.settings c.args.world.now.cells.items c.args.world.now.reader c.args.world.now.queued.items c.requires.standing in
    entry-fits c.args.program.now c.args.settings.contexts c.args.world.now.cells.items c.args.world.now.reader.cell.rest c.handle.new.self.cell.rest c.args.world.now.queued.items c.pop_at.new.queued.items c.requires.fitting low c.pop_at.ensures.rest
    (ap (λ (x : ReaderPart). x.cell.rest) (c.in_ok-handle.ensures no_program))

pub returns-in-Some-clause-waits : goal.returns-in-Some-clause-waits
returns-in-Some-clause-waits c no_items = ap (λ (x : ReaderPart). x.cell.rest) (c.in_ok-handle.ensures no_program)

pub returns-then-not-takes-clause-turn : goal.returns-then-not-takes-clause-turn
returns-then-not-takes-clause-turn c =
    turn-wait c.args.settings.contexts (slots_of c.args.program.now c.args.settings) (reader_of c.args.program.now c.args.settings.contexts) c.args.takes (cells_in c.args.world.now.cells.items) c.args.world.now.reader.cell c.args.world.now.queued.items c.pop_at.new.queued.items c.requires.standing.stand c.in_default.ensures.first
    c.pop_at.ensures.rest c.if-not-takes.true

pub returns-then-not-takes-clause-standing : goal.returns-then-not-takes-clause-standing
returns-then-not-takes-clause-standing c = idle-stands c.args.program.now c.args.settings c.args.world.now.cells.items c.args.world.now.reader c.args.world.now.queued.items c.requires.standing c.args.settings.contexts c.pop_at.new.queued.items c.in_default.ensures.first c.pop_at.ensures.rest

pub returns-clause-turn : goal.returns-clause-turn
returns-clause-turn c =
    ok-then c.item_turn.result c.item_turn.ensures.more c.item_turn.ensures.takes
    (λ found is did.
    item-turned c.args.program.now c.args.settings c.args.world.now.cells.items c.args.world.now.reader c.args.world.now.queued.items c.pop_at.new.queued.items c.requires.standing c.in_default.ensures.first c.pop_at.ensures.rest c.args.takes found c.args.world.now.reader.cell.rest c.item_turn.new.reader c.item_turn.new.queued.items c.if-not-takes.false refl is (did c.args.program.now))

pub returns-clause-standing : goal.returns-clause-standing
returns-clause-standing c =
    ok-then c.item_turn.result c.item_turn.ensures.more c.item_turn.ensures.takes
    (λ found is did.
    item-stands c.args.program.now c.args.settings c.args.world.now.cells.items c.args.world.now.reader c.args.world.now.queued.items c.pop_at.new.queued.items c.requires.standing c.in_default.ensures.first c.pop_at.ensures.rest c.args.takes found c.args.world.now.reader.cell.rest c.item_turn.new.reader c.item_turn.new.queued.items c.if-not-takes.false refl is (did c.args.program.now))

pub returns-clause-fits : goal.returns-clause-fits
returns-clause-fits c =
    ok-then c.item_turn.result c.item_turn.ensures.more c.item_turn.ensures.takes
    (λ found is did.
    item-turn_fits c.args.program.now c.args.settings c.args.world.now.cells.items c.args.world.now.reader c.args.world.now.queued.items c.pop_at.new.queued.items c.requires.standing c.in_default.ensures.first c.pop_at.ensures.rest c.args.world.now.reader.cell.rest c.item_turn.new.reader c.item_turn.new.queued.items c.requires.fitting (did c.args.program.now) refl)
