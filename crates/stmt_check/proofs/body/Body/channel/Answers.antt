use Rattle.stmt_check.proofs.Going.{goes_bind, goes_stop, goes_err, goes_pure}
use Rattle.stmt_check.proofs.body.Body.channel.Goals as goal

pub returns-in_ok-channel-in-Some : goal.returns-in_ok-channel-in-Some
returns-in_ok-channel-in-Some c = rw (c.in-Some.is, c.control.ensures) (goes_bind _ c.in_ok-channel-in-Some.ensures (goes_pure _ _))

pub returns-in_err-channel-in-Some : goal.returns-in_err-channel-in-Some
returns-in_err-channel-in-Some c = rw c.in-Some.is (goes_err _ c.from_residual.ensures.1 (goes_stop _ _ c.in_err-channel-in-Some.ensures))

pub returns-in-None : goal.returns-in-None
returns-in-None c = rw c.in-None.is (goes_pure _ _)
