use Rattle.std.proofs.Common.{sym, true, ◌∙◌}
use Rattle.actor_theory.specs.Language.{number_after}
use Rattle.world_serial.proofs.FittingLemmas.{oldest-fits, turned-fits}
use Rattle.world_serial.proofs.Sending.{cell_sends, cell-sends_fit}
use Rattle.world_serial.proofs.StandLemmas.{alive-again, handed-cell, handled-stands, idle-stands, queue-low, slot-handled, slot-idle, slot-spent}
use Rattle.world_serial.proofs.turns.slot_turn.Goals as goal

pub returns-then-spent-clause-turn : goal.returns-then-spent-clause-turn
returns-then-spent-clause-turn c takes =
    slot-spent c.args.program.now c.args.settings c.args.world.now.cells.items c.args.world.now.reader c.args.world.now.queued.items c.requires.standing takes c.args.slot c.index.result.now c.requires.slot c.index.ensures (sym c.spent.ensures ∙ c.if-spent.true)

pub returns-in_default-clause-turn : goal.returns-in_default-clause-turn
returns-in_default-clause-turn c takes =
    slot-idle c.args.program.now c.args.settings c.args.world.now.cells.items c.args.world.now.reader c.args.world.now.queued.items c.requires.standing takes c.args.slot c.index.result.now c.pop_at.new.queued.items c.requires.slot c.index.ensures c.in_default.ensures.first
    c.pop_at.ensures.rest

pub returns-in_default-clause-standing : goal.returns-in_default-clause-standing
returns-in_default-clause-standing c =
    idle-stands c.args.program.now c.args.settings c.args.world.now.cells.items c.args.world.now.reader c.args.world.now.queued.items c.requires.standing c.args.slot c.pop_at.new.queued.items c.in_default.ensures.first c.pop_at.ensures.rest

pub cell_turn-requires-clause-cargo : goal.cell_turn-requires-clause-cargo
cell_turn-requires-clause-cargo c =
    let low = queue-low c.args.program.now c.args.settings c.args.world.now.cells.items c.args.world.now.reader c.args.world.now.queued.items c.requires.standing c.args.slot c.requires.slot in
    oldest-fits c.args.program.now c.args.world.now.queued.items c.args.slot c.in-Some.entry low c.in-Some.ensures.first c.requires.fitting.queued_fit

pub cell_turn-requires-clause-outboxes : goal.cell_turn-requires-clause-outboxes
cell_turn-requires-clause-outboxes c =
    handed-cell c.args.program.now c.args.settings c.args.world.now.cells.items c.args.world.now.reader c.args.world.now.queued.items c.requires.standing c.args.slot c.args.slot c.index_mut.result.now c.pop_at.new.queued.items c.requires.slot c.index_mut.ensures.value c.pop_at.ensures.rest

pub returns-clause-turn : goal.returns-clause-turn
returns-clause-turn c takes =
    let alive = alive-again c.args.program.now c.args.settings c.args.world.now.cells.items c.args.world.now.reader c.args.world.now.queued.items c.requires.standing c.args.slot c.index_mut.result.now c.index.result.now c.requires.slot c.index_mut.ensures.value c.index.ensures (sym c.spent.ensures ∙ c.if-spent.false) in
    slot-handled c.args.program.now c.args.settings c.args.world.now.cells.items c.args.world.now.reader c.args.world.now.queued.items c.requires.standing takes c.args.slot c.index_mut.result.now c.cell_turn.new.cell c.in-Some.entry c.pop_at.new.queued.items c.cell_turn.new.queued.items c.requires.slot c.index_mut.ensures.value alive
    c.in-Some.ensures.first c.pop_at.ensures.rest (c.in_ok-cell_turn.ensures.after c.args.settings) (c.in_ok-cell_turn.ensures.queued c.args.settings)

pub returns-clause-standing : goal.returns-clause-standing
returns-clause-standing c =
    handled-stands c.args.program.now c.args.settings c.args.world.now.cells.items c.args.world.now.reader c.args.world.now.queued.items c.requires.standing true c.args.slot c.args.slot c.index_mut.result.now c.cell_turn.new.cell c.pop_at.new.queued.items c.cell_turn.new.queued.items c.requires.slot c.index_mut.ensures.value (returns-clause-turn c true)
    c.pop_at.ensures.rest c.in_ok-cell_turn.ensures.slot c.in_ok-cell_turn.ensures.outboxes

pub returns-clause-fits : goal.returns-clause-fits
returns-clause-fits c =
    let low = queue-low c.args.program.now c.args.settings c.args.world.now.cells.items c.args.world.now.reader c.args.world.now.queued.items c.requires.standing c.args.slot c.requires.slot in
    turned-fits c.args.program.now c.index_mut.result.now.cell.state.slot (number_after c.index_mut.result.now.cell.number c.in-Some.entry) (cell_sends c.args.program.now c.args.settings c.index_mut.result.now c.in-Some.entry) c.args.slot c.args.slot c.args.world.now.cells.items c.cell_turn.new.cell c.args.world.now.reader.cell.rest c.args.world.now.queued.items c.pop_at.new.queued.items
    c.cell_turn.new.queued.items c.requires.fitting c.in_ok-cell_turn.ensures.rests low c.pop_at.ensures.rest (c.in_ok-cell_turn.ensures.queued c.args.settings)
    (cell-sends_fit c.args.program.now c.args.settings c.index_mut.result.now c.in-Some.entry)
