use Rattle.actor_theory.proofs.Merging.{order-is}
use Rattle.actor_theory.proofs.Ordering.{faithful-replayed}
use Rattle.actor_theory.proofs.laws.logs_are_replayed.Goals as goal

pub returns-clause-found : goal.returns-clause-found
returns-clause-found g c = λ L items w h. order-is L w h.others

pub returns-clause-replayed : goal.returns-clause-replayed
returns-clause-replayed g c = λ L items w hs h order. faithful-replayed L items w hs h order
