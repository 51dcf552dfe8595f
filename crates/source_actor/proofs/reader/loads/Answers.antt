use Rattle.std.proofs.Common.{◌≡◌, ◌+◌, refl, arith}
use Rattle.source_actor.proofs.Sends.{loaded-all}
use Rattle.source_actor.proofs.reader.loads.Goals as goal

pub returns : goal.returns
returns c =
    let end : c.monitors.monitor ≡ c.args.monitors = omega arith in
    loaded-all c.args.contexts (c.args.contexts + 1) c.monitors.monitor c.args.monitors c.monitors.outboxes.items c.requires.some.0 refl end c.monitors.invariant
