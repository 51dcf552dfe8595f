use Rattle.body_meaning.specs.Methods.{quit}
use Rattle.walk_rules.proofs.host_calls.quit.Goals as goal

pub returns : goal.returns
unfolding quit
returns g c = λ frame. rw c.birth.ensures at (c.perform.ensures frame)
