use Rattle.std.proofs.Common.{refl}
use Rattle.body_meaning.specs.Statements.{level_number}
use Rattle.epl_values.specs.declared.value.Value.TheVariants as value
use Rattle.walk_laws.proofs.Telling.{tells_as, tells_err, tells_bind, tells_bind_err, tells_pure, tells_walks}
use Rattle.stmt_walker.proofs.Singly.{print_effect, log_effect, route_effect, send_effect, spawn_effect, subscribe_effect, unsubscribe_effect, other_effect}
use Rattle.stmt_walker.proofs.statements.Body.effect.Goals as goal

pub returns-in_err-value-in-Print-clause-means : goal.returns-in_err-value-in-Print-clause-means
returns-in_err-value-in-Print-clause-means g c = tells_err _ c.from_residual.ensures.1 (tells_as (print_effect c.args.self.now.program.now c.args.self.now.depth c.args.stmt.now c.in-Print.text c.in-Print.is) (tells_bind_err _ c.in_err-value-in-Print.ensures.means))

pub returns-in_ok-value-in-Print-clause-means : goal.returns-in_ok-value-in-Print-clause-means
returns-in_ok-value-in-Print-clause-means g c = tells_as (print_effect c.args.self.now.program.now c.args.self.now.depth c.args.stmt.now c.in-Print.text c.in-Print.is) (tells_bind _ c.in_ok-value-in-Print.ensures.means (tells_walks (c.print.ensures _)))

pub returns-in_err-value-in-Log-clause-means : goal.returns-in_err-value-in-Log-clause-means
returns-in_err-value-in-Log-clause-means g c = tells_err _ c.from_residual-in_err-value-in-Log.ensures.1 (tells_as (log_effect c.args.self.now.program.now c.args.self.now.depth c.args.stmt.now c.in-Log.text c.in-Log.level (level_number c.in-Log.level) c.in-Log.is refl) (tells_bind_err _ c.in_err-value-in-Log.ensures.means))

pub returns-in_ok-value-in-Log-clause-means : goal.returns-in_ok-value-in-Log-clause-means
returns-in_ok-value-in-Log-clause-means g c = tells_as (log_effect c.args.self.now.program.now c.args.self.now.depth c.args.stmt.now c.in-Log.text c.in-Log.level _ c.in-Log.is c.level_number.ensures) (tells_bind _ c.in_ok-value-in-Log.ensures.means (tells_walks (c.log.ensures _)))

pub returns-in_err-value-in-Route-clause-means : goal.returns-in_err-value-in-Route-clause-means
returns-in_err-value-in-Route-clause-means g c = tells_err _ c.from_residual-in_err-value-in-Route.ensures.1 (tells_as (route_effect c.args.self.now.program.now c.args.self.now.depth c.args.stmt.now c.in-Route.e c.in-Route.is) (tells_bind_err _ c.in_err-value-in-Route.ensures.means))

pub returns-in_ok-value-in-Route-clause-means : goal.returns-in_ok-value-in-Route-clause-means
returns-in_ok-value-in-Route-clause-means g c = tells_as (route_effect c.args.self.now.program.now c.args.self.now.depth c.args.stmt.now c.in-Route.e c.in-Route.is) (tells_bind _ c.in_ok-value-in-Route.ensures.means (tells_walks (c.route.ensures _)))

pub returns-in_err-value-in-Subscribe-clause-means : goal.returns-in_err-value-in-Subscribe-clause-means
returns-in_err-value-in-Subscribe-clause-means g c = tells_err _ c.from_residual-in_err-value-in-Subscribe.ensures.1 (tells_as (subscribe_effect c.args.self.now.program.now c.args.self.now.depth c.args.stmt.now c.in-Subscribe.channel c.in-Subscribe.is) (tells_bind_err _ c.in_err-value-in-Subscribe.ensures.means))

pub returns-in_ok-value-in-Subscribe-clause-means : goal.returns-in_ok-value-in-Subscribe-clause-means
returns-in_ok-value-in-Subscribe-clause-means g c = tells_as (subscribe_effect c.args.self.now.program.now c.args.self.now.depth c.args.stmt.now c.in-Subscribe.channel c.in-Subscribe.is) (tells_bind _ c.in_ok-value-in-Subscribe.ensures.means (tells_walks (c.subscribe.ensures _)))

pub returns-in_err-value-in-Unsubscribe-clause-means : goal.returns-in_err-value-in-Unsubscribe-clause-means
returns-in_err-value-in-Unsubscribe-clause-means g c = tells_err _ c.from_residual-in_err-value-in-Unsubscribe.ensures.1 (tells_as (unsubscribe_effect c.args.self.now.program.now c.args.self.now.depth c.args.stmt.now c.in-Unsubscribe.channel c.in-Unsubscribe.is) (tells_bind_err _ c.in_err-value-in-Unsubscribe.ensures.means))

pub returns-in_ok-value-in-Unsubscribe-clause-means : goal.returns-in_ok-value-in-Unsubscribe-clause-means
returns-in_ok-value-in-Unsubscribe-clause-means g c = tells_as (unsubscribe_effect c.args.self.now.program.now c.args.self.now.depth c.args.stmt.now c.in-Unsubscribe.channel c.in-Unsubscribe.is) (tells_bind _ c.in_ok-value-in-Unsubscribe.ensures.means (tells_walks (c.unsubscribe.ensures _)))

pub returns-in_err-value-in-Send-clause-means : goal.returns-in_err-value-in-Send-clause-means
returns-in_err-value-in-Send-clause-means g c = tells_err _ c.from_residual-in_err-value-in-Send.ensures.1 (tells_as (send_effect c.args.self.now.program.now c.args.self.now.depth c.args.stmt.now c.in-Send.e c.in-Send.to c.in-Send.is) (tells_bind_err _ c.in_err-value-in-Send.ensures.means))

pub returns-in_err-to-in-Send-clause-means : goal.returns-in_err-to-in-Send-clause-means
returns-in_err-to-in-Send-clause-means g c = tells_err _ c.from_residual-in_err-to-in-Send.ensures.1 (tells_as (send_effect c.args.self.now.program.now c.args.self.now.depth c.args.stmt.now c.in-Send.e c.in-Send.to c.in-Send.is) (tells_bind _ c.in_ok-value-in-Send.ensures.means (tells_bind_err _ c.in_err-to-in-Send.ensures.means)))

pub returns-in_ok-to-in-Send-clause-means : goal.returns-in_ok-to-in-Send-clause-means
returns-in_ok-to-in-Send-clause-means g c = tells_as (send_effect c.args.self.now.program.now c.args.self.now.depth c.args.stmt.now c.in-Send.e c.in-Send.to c.in-Send.is) (tells_bind _ c.in_ok-value-in-Send.ensures.means (tells_bind _ c.in_ok-to-in-Send.ensures.means (tells_walks (c.send.ensures _))))

pub returns-in-Spawn-clause-means : goal.returns-in-Spawn-clause-means
returns-in-Spawn-clause-means g c = tells_as (spawn_effect c.args.self.now.program.now c.args.self.now.depth c.args.stmt.now c.in-Spawn.n c.in-Spawn.arguments c.in-Spawn.to c.in-Spawn.is) c.spawn.ensures.means

pub returns-in_default : goal.returns-in_default
returns-in_default g c = record { means = tells_as (other_effect c.args.self.now.program.now c.args.self.now.depth c.args.stmt.now c.in_default.not-Print c.in_default.not-Log c.in_default.not-Route c.in_default.not-Send c.in_default.not-Spawn c.in_default.not-Subscribe c.in_default.not-Unsubscribe) (tells_pure value.NoContext _ _); globals_kept = c.requires.globals }
