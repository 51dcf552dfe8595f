use Rattle.worker_theory.proofs.Gathering.{gathered-holds}
use Rattle.worker_theory.proofs.laws.workers_keep.Goals as goal

pub returns : goal.returns
returns g c = λ contexts A B items senders senders' source source' queued queued' all held. gathered-holds contexts A B items senders senders' source source' queued queued' all held
