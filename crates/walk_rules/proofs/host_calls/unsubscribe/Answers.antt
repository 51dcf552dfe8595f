use Rattle.body_meaning.specs.Effects.{unsubscribe}
use Rattle.walk_rules.proofs.host_calls.unsubscribe.Goals as goal

pub returns : goal.returns
unfolding unsubscribe
returns g c = λ frame. rw c.letters.ensures at (c.perform.ensures frame)
