use Rattle.walk_laws.proofs.Telling.{tells_as, tells_err}
use Rattle.walk_laws.proofs.Stating.{tells_done, tells_done_err}
use Rattle.stmt_walker.proofs.statements.Body.run.Goals as goal

pub returns-in_err-_value-in-None-clause-means : goal.returns-in_err-_value-in-None-clause-means
returns-in_err-_value-in-None-clause-means g c = tells_err _ c.from_residual.ensures.1 (tells_done_err (tells_as (c.in-None.ensures _ _) c.in_err-_value-in-None.ensures.means))

pub returns-in_ok-_value-in-None-clause-means : goal.returns-in_ok-_value-in-None-clause-means
returns-in_ok-_value-in-None-clause-means g c = tells_done (tells_as (c.in-None.ensures _ _) c.in_ok-_value-in-None.ensures.means)
