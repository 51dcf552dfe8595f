use Rattle.actor_theory.proofs.Recording.{kept-causal}
use Rattle.actor_theory.proofs.laws.faithful_is_causal.Goals as goal

pub returns : goal.returns
returns g c = λ contexts A B shows items kept h. kept-causal contexts A B shows items kept h
