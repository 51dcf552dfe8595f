use Rattle.world_serial.proofs.EndLemmas.{records-more}
use Rattle.world_serial.proofs.finish.records.Goals as goal

pub cells-preserved : goal.cells-preserved
cells-preserved c =
    let more = records-more c.args.contexts c.cells.records c.push.new.self _ c.cells.cells c.pop_first.new.self c.cells.queued c.pop_first-in-Some.new.self _ c.in-Some.cell c.in-Some-pop_first.queue c.in_ok-left.left c.into_record.result
    c.in-Some.ensures c.in-Some-pop_first.ensures c.in_ok-left.ensures c.into_record.ensures c.in_ok-push.ensures.ok c.cells.invariant.made c.cells.invariant.rest c.cells.invariant.enough in
    record { made = more.0; rest = more.1; enough = more.2 }
