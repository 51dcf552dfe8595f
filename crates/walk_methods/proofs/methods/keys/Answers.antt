use Rattle.std.proofs.Common.{ap, sym, subst}
use Rattle.body_meaning.specs.Methods.{value_charged}
use Rattle.value_steps.specs.Orderly.{IsOrderly}
use Rattle.walk_rules.proofs.Running.{walks_as, walks_err}
use Rattle.walk_methods.proofs.Costing.{keys_orderly, walks_charged, walks_charged_err}
use Rattle.walk_methods.proofs.methods.keys.Goals as goal

pub returns-in_err-pay_cost-clause-means : goal.returns-in_err-pay_cost-clause-means
returns-in_err-pay_cost-clause-means g c = λ frame. walks_err _ c.from_residual-in_err-pay_cost.ensures.1 (walks_as (ap value_charged (sym c.in_ok-keys.ensures)) (walks_charged_err c.in_ok-keys.keys (c.in_err-pay_cost.ensures frame)))

pub returns-clause-means : goal.returns-clause-means
returns-clause-means g c = λ frame. walks_as (ap value_charged (sym c.in_ok-keys.ensures)) (walks_charged c.in_ok-keys.keys (c.in_ok-pay_cost.ensures frame))

pub returns-clause-order : goal.returns-clause-order
returns-clause-order g c = subst IsOrderly (sym c.in_ok-keys.ensures) (keys_orderly c.args.value.now c.requires)
