use Rattle.stmt_check.proofs.body.Body.for_place.Goals as goal

pub returns-in-Some : goal.returns-in-Some
returns-in-Some c = rw c.in-Some.is c.exactly.ensures

pub returns-in-None : goal.returns-in-None
returns-in-None c = rw c.in-None.is c.asked.ensures
