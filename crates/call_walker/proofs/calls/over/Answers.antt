use Rattle.path_bases.specs.Locals.{values_in}
use Rattle.walk_laws.proofs.Telling.{tells_err, tells_memory}
use Rattle.std.proofs.Common.{refl}
use Rattle.call_walker.proofs.Statements.{over_told, over_stopped}
use Rattle.call_walker.proofs.calls.over.Goals as goal

pub returns-in_err-locals-clause-means : goal.returns-in_err-locals-clause-means
returns-in_err-locals-clause-means g c = λ outer. tells_err _ c.from_residual.ensures.1 (tells_memory _ _ _ refl)

pub returns-in_err-flow-clause-means : goal.returns-in_err-flow-clause-means
returns-in_err-flow-clause-means g c = λ outer. tells_err _ c.from_residual-in_err-flow.ensures.1 (over_stopped c.args.body.now.program.now c.args.body.now.depth c.args.shapes.now c.args.stmts.now c.as_slice.result.now (values_in c.args.arguments) c.in_ok-locals.locals c.row.new.locals c.args.globals.now c.row.new.globals outer c.as_slice.ensures c.in_ok-locals.ensures.values c.in_err-flow.ensures.means)

pub returns-clause-means : goal.returns-clause-means
returns-clause-means g c = λ outer. rw c.returned.ensures.is (over_told c.args.body.now.program.now c.args.body.now.depth c.args.shapes.now c.args.stmts.now c.as_slice.result.now (values_in c.args.arguments) c.in_ok-locals.locals c.row.new.locals c.args.globals.now c.row.new.globals outer c.as_slice.ensures c.in_ok-locals.ensures.values c.in_ok-flow.ensures.means)
