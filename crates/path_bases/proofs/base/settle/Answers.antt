use Rattle.std.proofs.Common.{sym, ◌∙◌}
use Rattle.path_bases.proofs.Reached.{settled, own_value, lent_value, global_value, only_value}
use Rattle.path_bases.proofs.base.settle.Goals as goal

pub returns-in-Own-clause-means : goal.returns-in-Own-clause-means
returns-in-Own-clause-means c = λ v s told frame. settled v told frame _ (own_value c.args.globals.now c.args.base v c.in-Own.value c.in-Own.is s) tt

pub returns-in_ok-copy-in-Lent-clause-means : goal.returns-in_ok-copy-in-Lent-clause-means
returns-in_ok-copy-in-Lent-clause-means c = λ v s told frame. settled v told frame _ (lent_value c.args.globals.now c.args.base v c.in-Lent.value c.in-Lent.is s ∙ sym c.in_ok-copy-in-Lent.ensures) tt

pub returns-in-Global-clause-means : goal.returns-in-Global-clause-means
returns-in-Global-clause-means c = λ v s told frame. let e = global_value c.args.globals.now c.args.base v c.in-Global.number c.in-Global.moves c.in-Global.is s in settled v told frame c.reached_copy.result (only_value _ c.reached_copy.result v e c.reached_copy.ensures.value) (c.reached_copy.ensures.memory v e)
