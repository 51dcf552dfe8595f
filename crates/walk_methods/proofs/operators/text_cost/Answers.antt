use Rattle.walk_methods.proofs.Costing.{text_cost}
use Rattle.walk_methods.proofs.operators.text_cost.Goals as goal

pub returns : goal.returns
returns c = text_cost c.args.text.now c.len.result c.len.ensures.count c.len.ensures.small
