use Rattle.world_serial.proofs.FittingLemmas.{cells-more}
use Rattle.world_serial.proofs.StartLemmas.{parts-more}
use Rattle.world_serial.proofs.start.fresh_cells.Goals as goal

pub slots-preserved : goal.slots-preserved
slots-preserved c = record {
  fresh = parts-more c.args.settings c.slots.slot c.slots.cells.items c.push.new.self.items c.in_ok-new.field-0 c.in_ok-push.ensures.items c.slots.invariant.fresh c.in_ok-new.ensures.fresh;
  rests = λ p. cells-more p c.slots.cells.items c.push.new.self.items c.in_ok-new.field-0 c.in_ok-push.ensures.items (c.slots.invariant.rests p) (c.in_ok-new.ensures.rests p c.requires.fuel);
}
