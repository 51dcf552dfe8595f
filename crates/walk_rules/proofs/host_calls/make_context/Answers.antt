use Rattle.std.proofs.Common.{arith}
use Rattle.walk_rules.proofs.Running.{walks_as, walks_pure}
use Rattle.walk_rules.proofs.Sending.{make_nothing, make_named}
use Rattle.walk_rules.proofs.host_calls.make_context.Goals as goal

pub returns-then-len-eq0 : goal.returns-then-len-eq0
returns-then-len-eq0 g c = λ frame. walks_as (make_nothing _ (omega arith)) (walks_pure _ _ frame)

pub returns : goal.returns
returns g c = λ frame. walks_as (make_named _ _ c.remove-name.ensures.item) (rw c.is_public-public.ensures at (c.make.ensures frame))
