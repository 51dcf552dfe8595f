use Rattle.path_bases.proofs.Reached.{own_value, lent_value, global_value, finds_from}
use Rattle.path_bases.proofs.base.stepped.Goals as goal

pub returns-in-Own-clause-means : goal.returns-in-Own-clause-means
returns-in-Own-clause-means c = λ v s told locals. finds_from c.args.to v c.in-Own.value told (record { globals = c.args.globals.now; locals = locals }) c.own_part.result (own_value c.args.globals.now c.args.base v c.in-Own.value c.in-Own.is s) (c.own_part.ensures.means told (record { globals = c.args.globals.now; locals = locals }))

pub returns-in-Lent-clause-means : goal.returns-in-Lent-clause-means
returns-in-Lent-clause-means c = λ v s told locals. finds_from c.args.to v c.in-Lent.value.now told (record { globals = c.args.globals.now; locals = locals }) c.lent_part.result (lent_value c.args.globals.now c.args.base v c.in-Lent.value c.in-Lent.is s) (c.lent_part.ensures.means told (record { globals = c.args.globals.now; locals = locals }))

pub returns-in-Global-clause-means : goal.returns-in-Global-clause-means
returns-in-Global-clause-means c = λ v s told locals. c.global_part.ensures.means v (global_value c.args.globals.now c.args.base v c.in-Global.number c.in-Global.moves c.in-Global.is s) told locals
