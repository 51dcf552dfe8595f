use Rattle.std.proofs.Common.{refl}
use Rattle.body_meaning.specs.Statements.{captured_in}
use Rattle.path_bases.specs.Locals.{frame_of}
use Rattle.walk_laws.proofs.Telling.{tells_err, tells_bind, tells_bind_err, tells_look, tells_memory, tells_walks}
use Rattle.stmt_walker.proofs.Orders.{listened_orderly}
use Rattle.stmt_walker.proofs.statements.Body.listen_at.Goals as goal

pub returns-in_err-operands-clause-means : goal.returns-in_err-operands-clause-means
returns-in_err-operands-clause-means g c = tells_err _ c.from_residual.ensures.1 (tells_bind_err _ c.in_err-operands.ensures.means)

pub returns-in_err-captured-clause-means : goal.returns-in_err-captured-clause-means
returns-in_err-captured-clause-means g c = tells_err _ c.from_residual-in_err-captured.ensures.1 (tells_bind _ c.in_ok-operands.ensures.means (tells_memory _ _ _ refl))

pub returns-clause-means : goal.returns-clause-means
returns-clause-means g c = tells_bind _ c.in_ok-operands.ensures.means (tells_bind _ (tells_look (captured_in c.args.site.now.captured) _ c.in_ok-captured.ensures) (tells_walks (c.listen.ensures _)))

pub returns-clause-order : goal.returns-clause-order
returns-clause-order g c = listened_orderly c.args.number c.args.site.now.term c.in_ok-operands.operands c.in_ok-captured.captured _ _ (frame_of c.args.globals.now c.args.locals.now) _ _ (c.listen.ensures _)
