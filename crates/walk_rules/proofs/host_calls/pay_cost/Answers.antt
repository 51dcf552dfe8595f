use Rattle.value_rules.specs.Costs.{cost_of}
use Rattle.walk_rules.proofs.host_calls.pay_cost.Goals as goal

pub returns : goal.returns
returns g c = λ frame. c.pay.ensures.cut (cost_of c.args.value.now) c.cost.ensures frame
