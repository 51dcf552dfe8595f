use Rattle.walk_rules.proofs.Running.{walks_charge, walks_spent, spends, capped_as}
use Rattle.walk_rules.proofs.host_calls.pay.Goals as goal

pub returns-then-charge-clause-spends : goal.returns-then-charge-clause-spends
returns-then-charge-clause-spends g c = spends c.if-charge.ensures

pub returns-then-charge-clause-means : goal.returns-then-charge-clause-means
returns-then-charge-clause-means g c = λ frame. walks_charge frame c.if-charge.ensures

pub returns-then-charge-clause-cut : goal.returns-then-charge-clause-cut
returns-then-charge-clause-cut g c = λ whole is frame. walks_charge frame (capped_as whole _ is c.if-charge.ensures)

pub returns-else-charge-clause-means : goal.returns-else-charge-clause-means
returns-else-charge-clause-means g c = λ frame. walks_spent frame c.if-charge.ensures

pub returns-else-charge-clause-cut : goal.returns-else-charge-clause-cut
returns-else-charge-clause-cut g c = λ whole is frame. walks_spent frame (capped_as whole _ is c.if-charge.ensures)
