use Rattle.std.proofs.Common.{ap, sym}
use Rattle.body_meaning.specs.Methods.{text_charged}
use Rattle.walk_rules.proofs.Running.{walks_as}
use Rattle.walk_methods.proofs.operators.join.Goals as goal

pub returns-clause-means : goal.returns-clause-means
returns-clause-means g c = λ frame. walks_as (ap text_charged (sym c.in_ok-text.ensures)) (c.charged_text.ensures.means frame)
