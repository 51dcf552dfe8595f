use Rattle.body_meaning.specs.Effects.{current}
use Rattle.walk_rules.proofs.Running.{walks_pure, walks_by_scene}
use Rattle.walk_rules.proofs.host_calls.current.Goals as goal

pub returns : goal.returns
unfolding current
returns g c = λ frame. walks_by_scene _ (rw c.slot.ensures (walks_pure _ _ _))
