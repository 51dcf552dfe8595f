use Rattle.walk_rules.proofs.Running.{walks_err, walks_by_scene}
use Rattle.walk_rules.proofs.Binding.{walks_seq, walks_seq_err}
use Rattle.body_meaning.specs.Effects.{listen}
use Rattle.walk_rules.proofs.host_calls.listen.Goals as goal

pub returns-in_err-pay : goal.returns-in_err-pay
unfolding listen
returns-in_err-pay g c = λ frame. walks_err _ c.from_residual.ensures.1 (walks_seq_err _ (walks_by_scene _ (c.in_err-pay.ensures.cut _ c.listen_cost-amount.ensures frame)))

pub returns : goal.returns
unfolding listen
returns g c = λ frame. walks_seq (walks_by_scene _ (c.in_ok-pay.ensures.cut _ c.listen_cost-amount.ensures frame)) (c.perform.ensures frame)
