use Rattle.walk_laws.proofs.Telling.{tells_err}
use Rattle.stmt_walker.proofs.Telling.{tells_parts, tells_parts_err}
use Rattle.stmt_walker.proofs.statements.Body.path_moves.Goals as goal

pub returns-in_err-moves-clause-means : goal.returns-in_err-moves-clause-means
returns-in_err-moves-clause-means g c = λ p is. tells_err _ c.from_residual.ensures.1 (tells_parts_err p.moves _ (c.in_err-moves.ensures.means p is))

pub returns-clause-means : goal.returns-clause-means
returns-clause-means g c = λ p is. tells_parts p.moves _ (c.in_ok-moves.ensures.means p is) c.steps_behind.ensures.means
