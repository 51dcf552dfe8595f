use Rattle.std.proofs.Common.{refl}
use Rattle.body_meaning.specs.Effects.{spawn_there}
use Rattle.walk_laws.proofs.Telling.{tells_err, tells_memory, tells_walks}
use Rattle.walk_laws.proofs.Stating.{tells_globals}
use Rattle.stmt_walker.proofs.statements.spawn_at.Goals as goal

pub returns-in_err-along : goal.returns-in_err-along
returns-in_err-along g c = λ locals. tells_err _ c.from_residual.ensures.1 (tells_memory _ _ _ refl)

pub returns : goal.returns
returns g c = λ locals. tells_globals (spawn_there c.args.action c.args.arguments.now c.args.slot) (tells_walks (c.spawn_there.ensures _))
