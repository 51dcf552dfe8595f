use Rattle.std.proofs.Common.{arith}
use Rattle.context_steps.proofs.Rows.{no_site}
use Rattle.context_steps.proofs.effects.listen.Goals as goal

pub returns : goal.returns
returns c = no_site c.args.program.now c.args.instance c.args.site c.args.operands c.args.captured c.args.context.now (omega (arith, c.if-site-len.false, c.len.ensures.count))
