use Rattle.body_meaning.specs.Acts.{enter}
use Rattle.walk_laws.proofs.Telling.{tells_err}
use Rattle.stmt_walker.proofs.Telling.{tells_unplaced, tells_unargued, tells_changed, tells_unchanged}
use Rattle.stmt_walker.proofs.statements.Body.change.Goals as goal

pub returns-in_err-moves-clause-means : goal.returns-in_err-moves-clause-means
returns-in_err-moves-clause-means g c = λ e at. tells_err _ c.from_residual.ensures.1 (tells_unplaced c.args.self.now.program.now.types (enter c.args.self.now.program.now c.args.self.now.depth) e c.args.to at (c.in_err-moves.ensures.means at.place at.is))

pub returns-in_err-arguments-clause-means : goal.returns-in_err-arguments-clause-means
returns-in_err-arguments-clause-means g c = λ e at. tells_err _ c.from_residual-in_err-arguments.ensures.1 (tells_unargued c.args.self.now.program.now.types (enter c.args.self.now.program.now c.args.self.now.depth) e c.args.to at (c.in_ok-moves.ensures.means at.place at.is) c.in_err-arguments.ensures.means)

pub returns-in_err-change_variable-clause-means : goal.returns-in_err-change_variable-clause-means
returns-in_err-change_variable-clause-means g c = λ e at. tells_err _ c.from_residual-in_err-change_variable.ensures.1 (tells_unchanged c.args.self.now.program.now.types (enter c.args.self.now.program.now c.args.self.now.depth) e c.args.to at (c.in_ok-moves.ensures.means at.place at.is) c.in_ok-arguments.ensures.means (c.in_err-change_variable.ensures.means _))

pub returns-clause-means : goal.returns-clause-means
returns-clause-means g c = λ e at. tells_changed c.args.self.now.program.now.types (enter c.args.self.now.program.now c.args.self.now.depth) e c.args.to at (c.in_ok-moves.ensures.means at.place at.is) c.in_ok-arguments.ensures.means (c.in_ok-change_variable.ensures.means _)
