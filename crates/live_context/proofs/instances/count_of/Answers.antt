use Rattle.live_context.proofs.Places.{count_there}
use Rattle.live_context.proofs.instances.count_of.Goals as goal

pub returns-in-Some : goal.returns-in-Some
returns-in-Some c =
    let f = c.in-Some.ensures in
    count_there c.args.number c.args.instances.now c.in-Some.at f c.count_at.result (c.count_at.ensures f.found f.here)
