use Rattle.worker_theory.proofs.Fresh.{fresh-holds}
use Rattle.worker_theory.proofs.laws.fresh_holds.Goals as goal

pub returns : goal.returns
returns g c = λ contexts A B items. fresh-holds contexts A B items
