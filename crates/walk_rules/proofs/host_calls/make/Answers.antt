use Rattle.walk_rules.proofs.Running.{walks_err, walks_by_scene}
use Rattle.walk_rules.proofs.Binding.{walks_seq, walks_seq_err}
use Rattle.walk_rules.proofs.host_calls.make.Goals as goal

pub returns-in_err-pay : goal.returns-in_err-pay
returns-in_err-pay g c = λ frame. walks_err _ c.from_residual.ensures.1 (walks_seq_err _ (walks_by_scene _ (rw c.context_cost-amount.ensures at (c.in_err-pay.ensures.means frame))))

pub returns : goal.returns
returns g c = λ frame. walks_seq (walks_by_scene _ (rw c.context_cost-amount.ensures at (c.in_ok-pay.ensures.means frame))) (rw c.letters.ensures at (c.perform.ensures frame))
