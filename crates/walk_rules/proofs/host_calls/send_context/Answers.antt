use Rattle.walk_rules.proofs.Running.{walks_err}
use Rattle.walk_rules.proofs.Binding.{walks_seq, walks_seq_err}
use Rattle.body_meaning.specs.Effects.{send_context}
use Rattle.walk_rules.proofs.host_calls.send_context.Goals as goal

pub returns-in_err-pay_cost : goal.returns-in_err-pay_cost
unfolding send_context
returns-in_err-pay_cost g c = λ frame. walks_err _ c.from_residual.ensures.1 (walks_seq_err _ (c.in_err-pay_cost.ensures frame))

pub returns : goal.returns
unfolding send_context
returns g c = λ frame. walks_seq (c.in_ok-pay_cost.ensures frame) (c.perform.ensures frame)
