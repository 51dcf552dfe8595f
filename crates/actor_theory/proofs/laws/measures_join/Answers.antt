use Rattle.actor_theory.proofs.Measuring.{joined-measure}
use Rattle.actor_theory.proofs.laws.measures_join.Goals as goal

pub returns : goal.returns
returns g c = λ contexts A B slot_weight reader_weight cost item_cost slots reader. joined-measure contexts A B slot_weight reader_weight cost item_cost slots reader
