use Rattle.actor_theory.proofs.Keeping.{scheduled-kept}
use Rattle.actor_theory.proofs.laws.scheduled_is_faithful.Goals as goal

pub returns : goal.returns
returns g c = λ contexts A B shows items picks kept h. scheduled-kept contexts A B shows items picks kept h
