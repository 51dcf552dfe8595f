use Rattle.value_rules.proofs.Shaped.{have-at, have-length, have-push, have-set}
use Rattle.value_rules.proofs.laws.shapes_by_place.Goals as goal

pub returns-clause-count : goal.returns-clause-count
returns-clause-count c = have-length

pub returns-clause-read : goal.returns-clause-read
returns-clause-read c = have-at

pub returns-clause-set : goal.returns-clause-set
returns-clause-set c = have-set

pub returns-clause-push : goal.returns-clause-push
returns-clause-push c = have-push
