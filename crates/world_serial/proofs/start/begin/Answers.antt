use Rattle.std.proofs.Common.{◌+◌, refl, ap}
use Rattle.world_serial.specs.Common.{ReaderPart}
use Rattle.world_serial.proofs.FittingLemmas.{begun-fits}
use Rattle.world_serial.proofs.StartLemmas.{begins, loaded-count}
use Rattle.world_serial.proofs.start.begin.Goals as goal

pub hand_over-requires : goal.hand_over-requires
hand_over-requires c =
    loaded-count c.args.program.now c.args.settings.contexts (c.args.settings.contexts + 1) c.in_ok-reader.reader c.new.result c.in_ok-queued.queued.items refl c.in_ok-queued.ensures c.in_ok-reader.ensures

pub returns : goal.returns
returns c =
    let begun = begins c.args.program.now c.args.settings.contexts (c.args.settings.contexts + 1) c.in_ok-reader.reader c.hand_over.new.self c.new.result c.in_ok-queued.queued.items c.hand_over.new.queued.items refl c.in_ok-queued.ensures c.new.ensures c.in_ok-reader.ensures
    c.in_ok-hand_over.ensures.gathers c.in_ok-hand_over.ensures.stays in
    record {
      cells_are = c.in_ok-cells.ensures.fresh;
      reader_is = begun.0;
      queued_are = begun.1;
      fitting = begun-fits c.args.program.now c.args.settings.contexts c.in_ok-cells.cells.items c.hand_over.new.self.cell.rest c.hand_over.new.queued.items (c.in_ok-cells.ensures.rests c.args.program.now) (ap (λ (r : ReaderPart). r.cell.rest) begun.0) begun.1;
    }
