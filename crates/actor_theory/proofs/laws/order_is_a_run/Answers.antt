use Rattle.actor_theory.proofs.Replaying.{kept-replayed}
use Rattle.actor_theory.proofs.laws.order_is_a_run.Goals as goal

pub returns : goal.returns
returns g c = λ contexts A B shows items kept h. kept-replayed contexts A B shows items kept h
