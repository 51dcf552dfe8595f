use Rattle.body_meaning.specs.Acts.{enter}
use Rattle.body_meaning.specs.Statements.{place_moves}
use Rattle.walk_laws.proofs.Telling.{tells_err}
use Rattle.walk_laws.proofs.Stating.{tells_assign, tells_assign_unstored, tells_assign_value_err, tells_assign_place_err}
use Rattle.stmt_walker.proofs.statements.Body.assign_on.Goals as goal

pub returns-in_err-moves-clause-means : goal.returns-in_err-moves-clause-means
returns-in_err-moves-clause-means g c = tells_err _ c.from_residual.ensures.1 (tells_assign_place_err c.args.place.now (place_moves c.args.self.now.program.now.types c.args.self.now.program.now.sites (enter c.args.self.now.program.now c.args.self.now.depth) c.args.place.now) _ c.in_err-moves.ensures.means)

pub returns-in_err-value-clause-means : goal.returns-in_err-value-clause-means
returns-in_err-value-clause-means g c = tells_err _ c.from_residual-in_err-value.ensures.1 (tells_assign_value_err c.args.place.now (place_moves c.args.self.now.program.now.types c.args.self.now.program.now.sites (enter c.args.self.now.program.now c.args.self.now.depth) c.args.place.now) c.in_ok-moves.ensures.means c.in_err-value.ensures.means)

pub returns-in_err-change_variable-clause-means : goal.returns-in_err-change_variable-clause-means
returns-in_err-change_variable-clause-means g c = tells_err _ c.from_residual-in_err-change_variable.ensures.1 (tells_assign_unstored c.args.place.now (place_moves c.args.self.now.program.now.types c.args.self.now.program.now.sites (enter c.args.self.now.program.now c.args.self.now.depth) c.args.place.now) c.in_ok-moves.ensures.means c.in_ok-value.ensures.means (c.in_err-change_variable.ensures.means _))

pub returns-clause-means : goal.returns-clause-means
returns-clause-means g c = tells_assign c.args.place.now (place_moves c.args.self.now.program.now.types c.args.self.now.program.now.sites (enter c.args.self.now.program.now c.args.self.now.depth) c.args.place.now) c.in_ok-moves.ensures.means c.in_ok-value.ensures.means (c.in_ok-change_variable.ensures.means _)
