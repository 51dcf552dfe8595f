use Rattle.walk_rules.proofs.Running.{walks_err}
use Rattle.walk_rules.proofs.Binding.{walks_seq, walks_seq_err}
use Rattle.body_meaning.specs.Effects.{spawn_here}
use Rattle.walk_rules.proofs.host_calls.spawn_here.Goals as goal

pub returns-in_err-pay : goal.returns-in_err-pay
unfolding spawn_here
returns-in_err-pay g c = λ frame. walks_err _ c.from_residual.ensures.1 (walks_seq_err _ (c.in_err-pay.ensures.cut _ c.spawn_cost.ensures frame))

pub returns : goal.returns
unfolding spawn_here
returns g c = λ frame. walks_seq (c.in_ok-pay.ensures.cut _ c.spawn_cost.ensures frame) (rw c.requires at (c.perform.ensures frame))
