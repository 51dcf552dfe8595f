use Rattle.std.proofs.Common.{refl}
use Rattle.walk_rules.proofs.Stating.{spawn_to_context, spawn_elsewhere}
use Rattle.walk_laws.proofs.Telling.{tells_as, tells_given_err}
use Rattle.stmt_walker.proofs.statements.spawn_to.Goals as goal

pub returns-in-Context : goal.returns-in-Context
returns-in-Context g c = λ locals. tells_as (spawn_to_context c.args.action c.args.arguments.now c.args.to.now c.in-Context.slot c.in-Context.is) (c.spawn_at.ensures locals)

pub returns-in_default : goal.returns-in_default
returns-in_default g c = λ locals. tells_as (spawn_elsewhere c.args.action c.args.arguments.now c.args.to.now c.in_default.not-Context) (tells_given_err _ _ refl)
