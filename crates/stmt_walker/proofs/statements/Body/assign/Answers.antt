use Rattle.body_meaning.specs.Acts.{enter}
use Rattle.body_meaning.specs.Statements.{place_moves}
use Rattle.walk_laws.proofs.Telling.{tells_err}
use Rattle.walk_laws.proofs.Stating.{tells_assign, tells_assign_unstored, tells_assign_value_err, tells_assign_place_err}
use Rattle.stmt_walker.proofs.statements.Body.assign.Goals as goal

pub returns-in_err-to-clause-means : goal.returns-in_err-to-clause-means
returns-in_err-to-clause-means g c = tells_err _ c.from_residual.ensures.1 (tells_assign_place_err c.args.place.now (place_moves c.args.self.now.program.now.types c.args.self.now.program.now.sites (enter c.args.self.now.program.now c.args.self.now.depth) c.args.place.now) _ c.in_err-to.ensures.means)

pub returns-in_err-stored-clause-means : goal.returns-in_err-stored-clause-means
returns-in_err-stored-clause-means g c = tells_err _ c.from_residual-in_err-stored.ensures.1 (tells_assign_value_err c.args.place.now (place_moves c.args.self.now.program.now.types c.args.self.now.program.now.sites (enter c.args.self.now.program.now c.args.self.now.depth) c.args.place.now) c.in_ok-to.ensures.means c.in_err-stored.ensures.means)

pub returns-in_err-change_variable-clause-means : goal.returns-in_err-change_variable-clause-means
returns-in_err-change_variable-clause-means g c = tells_err _ c.from_residual-in_err-change_variable.ensures.1 (tells_assign_unstored c.args.place.now (place_moves c.args.self.now.program.now.types c.args.self.now.program.now.sites (enter c.args.self.now.program.now c.args.self.now.depth) c.args.place.now) c.in_ok-to.ensures.means c.in_ok-stored.ensures.means (c.in_err-change_variable.ensures.means _))

pub returns-clause-means : goal.returns-clause-means
returns-clause-means g c = tells_assign c.args.place.now (place_moves c.args.self.now.program.now.types c.args.self.now.program.now.sites (enter c.args.self.now.program.now c.args.self.now.depth) c.args.place.now) c.in_ok-to.ensures.means c.in_ok-stored.ensures.means (c.in_ok-change_variable.ensures.means _)
