use Rattle.actor_theory.proofs.Keeping.{faithful-run}
use Rattle.actor_theory.proofs.laws.faithful_is_a_run.Goals as goal

pub returns : goal.returns
returns g c = λ contexts A B shows items kept h. faithful-run contexts A B shows items kept h
