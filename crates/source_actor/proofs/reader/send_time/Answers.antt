use Rattle.std.proofs.Common.{◌≡◌, ◌<◌, arith, length}
use Rattle.source_actor.proofs.Sends.{timed-all, timed-first, timed-length, timed-more}
use Rattle.source_actor.proofs.reader.send_time.Goals as goal

pub slots-init : goal.slots-init
slots-init c = timed-first c.args.contexts c.args.number c.args.time.now c.args.outboxes.now.items

pub send_to-requires : goal.send_to-requires
send_to-requires c =
    let lt = c.slots-test.true in
    let count = c.requires in
    let same = timed-length c.args.contexts c.args.number c.args.time.now c.slots.slot c.args.outboxes.now.items c.slots.outboxes.items c.slots.invariant in
    omega arith

pub slots-preserved : goal.slots-preserved
slots-preserved c =
    let lt = c.slots-test.true in
    let count = c.requires in
    let low : c.slots.slot < length c.args.outboxes.now.items = omega arith in
    timed-more c.args.contexts c.args.number c.args.time.now c.slots.slot c.args.outboxes.now.items c.slots.outboxes.items c.send_to.new.outboxes.items c.time_entry-entry.result low c.slots.invariant c.time_entry-entry.ensures
    c.in_ok-send_to.ensures

pub returns : goal.returns
returns c =
    let end : c.slots.slot ≡ c.args.contexts = omega arith in
    timed-all c.args.contexts c.args.number c.args.time.now c.slots.slot c.args.outboxes.now.items c.slots.outboxes.items end c.slots.invariant
