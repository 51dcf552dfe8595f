use Rattle.std.proofs.Common.{rules}
use Rattle.expr_rules.proofs.Then.{finds_then}
use Rattle.expr_rules.specs.Asked.{demand_of}
use Rattle.expr_rules.specs.Postfix.{near, element_stands, element_step}
use Rattle.expr_rules.proofs.steps.element_step.Goals as goal

-- src/steps.rt:303:1
pub returns : goal.returns
unfolding element_step
returns c = finds_then c.element_stands.result c.in_ok-root.root (near c.args.own c.args.need.changed c.args.walk.root) (element_stands c.args.spot (demand_of c.args.need) c.args.walk c.args.judged) c.element_stands.ensures (search rules)
