use Rattle.std.proofs.Common.{refl, ap, ◌∙◌, length}
use Rattle.actor_theory.specs.Language.{number_after}
use Rattle.actor_theory.specs.Machine.{Cell, delivered}
use Rattle.record_book.specs.declared.cargo.Cargo.{Cargo}
use Rattle.context_meaning.specs.Contexts.{Context}
use Rattle.world_serial.specs.Common.{CellPart}
use Rattle.world_serial.proofs.Delivery.{emptied-boxes, handed-over, no_settings, rests-same, sent-count}
use Rattle.world_serial.proofs.Sending.{cell_sends}
use Rattle.world_serial.proofs.turns.cell_turn.Goals as goal

pub hand_over-requires : goal.hand_over-requires
hand_over-requires c =
    sent-count c.args.cell.now.cell.state.slot (number_after c.args.cell.now.cell.number c.args.entry) (cell_sends c.args.program.now no_settings c.args.cell.now c.args.entry) c.args.cell.now.outboxes c.handle.new.self.outboxes c.args.queued.now.items (ap (λ (x : CellPart). x.outboxes) (c.in_ok-handle.ensures.after no_settings)) c.requires.outboxes

pub returns-clause-after : goal.returns-clause-after
returns-clause-after c settings = c.in_ok-hand_over.ensures.stays ∙ ap (λ (x : CellPart). x.cell) (c.in_ok-handle.ensures.after settings)

pub returns-clause-queued : goal.returns-clause-queued
returns-clause-queued c settings =
    handed-over c.args.cell.now.cell.state.slot (number_after c.args.cell.now.cell.number c.args.entry) (length c.args.queued.now.items) (cell_sends c.args.program.now settings c.args.cell.now c.args.entry) c.handle.new.self.outboxes c.args.queued.now.items c.hand_over.new.self.outboxes c.hand_over.new.queued.items c.in_ok-hand_over.ensures.gathers
    (ap (λ (x : CellPart). x.outboxes) (c.in_ok-handle.ensures.after settings) ∙ ap (delivered c.args.cell.now.cell.state.slot (number_after c.args.cell.now.cell.number c.args.entry) (cell_sends c.args.program.now settings c.args.cell.now c.args.entry)) c.requires.outboxes) refl

pub returns-clause-outboxes : goal.returns-clause-outboxes
returns-clause-outboxes c =
    emptied-boxes (length c.args.queued.now.items) c.handle.new.self.outboxes c.args.queued.now.items c.hand_over.new.self.outboxes c.hand_over.new.queued.items c.in_ok-hand_over.ensures.gathers
    (sent-count c.args.cell.now.cell.state.slot (number_after c.args.cell.now.cell.number c.args.entry) (cell_sends c.args.program.now no_settings c.args.cell.now c.args.entry) c.args.cell.now.outboxes c.handle.new.self.outboxes c.args.queued.now.items (ap (λ (x : CellPart). x.outboxes) (c.in_ok-handle.ensures.after no_settings)) c.requires.outboxes)

pub returns-clause-slot : goal.returns-clause-slot
returns-clause-slot c = ap (λ (x : Cell Context Cargo). x.state.slot) c.in_ok-hand_over.ensures.stays ∙ c.in_ok-handle.ensures.slot

pub returns-clause-rests : goal.returns-clause-rests
returns-clause-rests c = rests-same c.args.program.now c.handle.new.self c.hand_over.new.self c.in_ok-hand_over.ensures.stays c.in_ok-handle.ensures.rests
