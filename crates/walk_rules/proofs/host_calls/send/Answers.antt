use Rattle.std.proofs.Common.{refl}
use Rattle.walk_rules.proofs.Running.{walks_as, walks_given_err}
use Rattle.walk_rules.proofs.Sending.{send_to_context, send_to_channel, send_elsewhere}
use Rattle.walk_rules.proofs.host_calls.send.Goals as goal

pub returns-in-Context : goal.returns-in-Context
returns-in-Context g c = λ frame. walks_as (send_to_context _ _ _ c.in-Context.is) (c.send_context.ensures frame)

pub returns-in-Text : goal.returns-in-Text
returns-in-Text g c = λ frame. walks_as (send_to_channel _ _ _ c.in-Text.is) (c.send_channel.ensures frame)

pub returns-in_default : goal.returns-in_default
returns-in_default g c = λ frame. walks_as (send_elsewhere _ _ c.in_default.not-Context c.in_default.not-Text) (walks_given_err _ frame refl)
