use Rattle.std.proofs.Common.{◌*◌, arith}
use Rattle.walk_rules.proofs.Running.{walks_err, walks_by_scene}
use Rattle.walk_rules.proofs.Binding.{walks_seq, walks_seq_err}
use Rattle.body_meaning.specs.Effects.{subscribe}
use Rattle.walk_rules.proofs.host_calls.subscribe.Goals as goal

pub returns-in_err-pay : goal.returns-in_err-pay
unfolding subscribe
returns-in_err-pay g c = λ frame. walks_err _ c.from_residual.ensures.1 (walks_seq_err _ (walks_by_scene _ (c.in_err-pay.ensures.cut (2 * (g.H.Host.told c.args.host.now).scene.slots) (omega arith) frame)))

pub returns : goal.returns
unfolding subscribe
returns g c = λ frame. walks_seq (walks_by_scene _ (c.in_ok-pay.ensures.cut (2 * (g.H.Host.told c.args.host.now).scene.slots) (omega arith) frame)) (rw c.letters.ensures at (c.perform.ensures frame))
