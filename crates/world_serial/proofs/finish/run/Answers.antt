use Rattle.std.proofs.Common.{true}
use Rattle.world_serial.proofs.EndLemmas.{cells-counted, ends-scheduled, scheduled-faithful}
use Rattle.naive_meaning.proofs.Wording.{faithful-words}
use Rattle.world_serial.proofs.finish.run.Goals as goal

pub into_record-requires-clause-cells : goal.into_record-requires-clause-cells
into_record-requires-clause-cells c = cells-counted c.args.program.now c.args.settings true c.in_ok-world.world c.run_rounds.new.world c.in_ok-run_rounds.ensures

pub returns-clause-scheduled : goal.returns-clause-scheduled
returns-clause-scheduled c =
    ends-scheduled c.args.program.now c.args.items c.args.settings c.in_ok-world.world c.run_rounds.new.world c.in_ok-record.record c.in_ok-world.ensures c.in_ok-run_rounds.ensures c.in_ok-record.ensures

pub returns-clause-faithful : goal.returns-clause-faithful
returns-clause-faithful c =
    faithful-words c.args.program.now c.args.items c.args.settings c.in_ok-record.record
    (scheduled-faithful c.args.program.now c.args.items c.args.settings c.in_ok-record.record
    (ends-scheduled c.args.program.now c.args.items c.args.settings c.in_ok-world.world c.run_rounds.new.world c.in_ok-record.record c.in_ok-world.ensures c.in_ok-run_rounds.ensures c.in_ok-record.ensures))
