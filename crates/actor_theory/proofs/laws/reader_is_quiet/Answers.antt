use Rattle.actor_theory.proofs.Joining.{joined-quiet}
use Rattle.actor_theory.proofs.laws.reader_is_quiet.Goals as goal

pub returns : goal.returns
returns g c = λ contexts A B. joined-quiet contexts A B
