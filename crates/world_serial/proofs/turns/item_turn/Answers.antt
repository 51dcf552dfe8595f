use Rattle.std.proofs.Common.{ap, ◌∙◌, length}
use Rattle.world_serial.proofs.Delivery.{length-empty}
use Rattle.world_serial.proofs.ItemLemmas.{first-count, item-takes, no_program}
use Rattle.world_serial.proofs.turns.item_turn.Goals as goal

pub next_item-requires-clause-count : goal.next_item-requires-clause-count
next_item-requires-clause-count c = ap length c.requires.outboxes ∙ length-empty (length c.args.queued.now.items) ∙ c.requires.count

pub hand_over-requires : goal.hand_over-requires
hand_over-requires c = first-count no_program c.args.reader.now c.next_item.new.self c.args.queued.now.items c.args.reader.now.cell.rest (c.in_ok-more.ensures.after no_program) c.requires.outboxes

pub returns-clause-takes : goal.returns-clause-takes
returns-clause-takes c p =
    item-takes p c.args.reader.now c.next_item.new.self c.hand_over.new.self c.args.queued.now.items c.hand_over.new.queued.items c.args.reader.now.cell.rest (c.in_ok-more.ensures.after p) c.requires.outboxes c.in_ok-hand_over.ensures.gathers c.in_ok-hand_over.ensures.stays.0
    c.in_ok-hand_over.ensures.stays.1
