use Rattle.actor_theory.proofs.Beside.{boot-holds, posts-begins, handles-begins}
use Rattle.actor_theory.proofs.laws.parts_begin.Goals as goal

pub returns-clause-boot : goal.returns-clause-boot
returns-clause-boot g c = λ L items w quiet boot. boot-holds L items w quiet boot

pub returns-clause-posts : goal.returns-clause-posts
returns-clause-posts g c = λ L w v outbox outbox' s d e p h. posts-begins L w v outbox outbox' s d e p h

pub returns-clause-handles : goal.returns-clause-handles
returns-clause-handles g c = λ L w v outbox outbox' d e p h. handles-begins L w v outbox outbox' d e p h
