use Rattle.actor_theory.proofs.Scheduled.{scheduled-faithful}
use Rattle.actor_theory.proofs.Unique.{scheduled-unique}
use Rattle.actor_theory.proofs.laws.schedule_is_a_run.Goals as goal

pub returns-clause-faithful : goal.returns-clause-faithful
returns-clause-faithful g c = λ L items picks w quiet h. scheduled-faithful L items picks w quiet h

pub returns-clause-one : goal.returns-clause-one
returns-clause-one g c = λ L items picks v w h k. scheduled-unique L items picks v w h k
