use Rattle.std.proofs.Common.{rules}
use Rattle.outside.proofs.Puts.{puts-more, room-less}
use Rattle.outside.proofs.whole.put_all.Goals as goal

pub pieces-preserved : goal.pieces-preserved
pieces-preserved g c = record {
  within = search rules;
  taken = puts-more _ _ _ c.args.bytes.now c.pieces.done c.in-Took.count c.pieces.invariant.taken c.in-Took.ensures.appends;
  faults = search rules;
  room = room-less _ _ _ c.pieces.done c.in-Took.count c.pieces.invariant.room c.in-Took.ensures.room;
}
