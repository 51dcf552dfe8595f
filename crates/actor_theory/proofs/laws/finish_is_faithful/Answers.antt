use Rattle.actor_theory.proofs.Recording.{finished-kept}
use Rattle.actor_theory.proofs.laws.finish_is_faithful.Goals as goal

pub returns : goal.returns
returns g c = λ contexts A B shows items v w outbox kept h empty boot finished is_kept. finished-kept contexts A B shows items v w outbox kept h empty boot finished is_kept
