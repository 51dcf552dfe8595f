use Rattle.actor_theory.proofs.Recording.{scheduled-once}
use Rattle.actor_theory.proofs.laws.schedule_makes_one.Goals as goal

pub returns : goal.returns
returns g c = λ contexts A B shows items picks kept other h g. scheduled-once contexts A B shows items picks kept other h g
