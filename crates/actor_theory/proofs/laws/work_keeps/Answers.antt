use Rattle.actor_theory.proofs.Working.{works-holds, works-begins}
use Rattle.actor_theory.proofs.laws.work_keeps.Goals as goal

pub returns-clause-holds : goal.returns-clause-holds
returns-clause-holds g c = λ L items w v outbox outbox' taken posted p h. works-holds L items w v outbox outbox' taken posted p h

pub returns-clause-begins : goal.returns-clause-begins
returns-clause-begins g c = λ L w v outbox outbox' taken posted p h. works-begins L w v outbox outbox' taken posted p h
