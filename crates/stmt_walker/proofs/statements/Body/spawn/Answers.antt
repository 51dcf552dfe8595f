use Rattle.std.proofs.Common.{refl}
use Rattle.body_meaning.specs.Acts.{enter}
use Rattle.body_meaning.specs.Effects.{spawn_here}
use Rattle.walk_laws.proofs.Telling.{tells_err, tells_bind, tells_bind_err, tells_memory, tells_walks}
use Rattle.walk_laws.proofs.Stating.{tells_globals}
use Rattle.stmt_walker.proofs.Telling.{tells_unspawned}
use Rattle.stmt_walker.proofs.statements.Body.spawn.Goals as goal

pub returns-in_err-values-clause-means : goal.returns-in_err-values-clause-means
returns-in_err-values-clause-means g c = tells_err _ c.from_residual.ensures.1 (tells_unspawned c.args.self.now.program.now.types c.args.self.now.program.now.sites (enter c.args.self.now.program.now c.args.self.now.depth) c.args.action c.args.arguments.now c.args.to.now c.in_err-values.ensures.means)

pub returns-in_err-to-in-Some-clause-means : goal.returns-in_err-to-in-Some-clause-means
returns-in_err-to-in-Some-clause-means g c = rw c.in-Some.is (tells_err _ c.from_residual-in_err-to-in-Some.ensures.1 (tells_bind _ c.in_ok-values.ensures.means (tells_bind_err _ c.in_err-to-in-Some.ensures.means)))

pub returns-in-Some-clause-means : goal.returns-in-Some-clause-means
returns-in-Some-clause-means g c = rw c.in-Some.is (tells_bind _ c.in_ok-values.ensures.means (tells_bind _ c.in_ok-to-in-Some.ensures.means (c.spawn_to.ensures _)))

pub returns-in_err-along-in-None-clause-means : goal.returns-in_err-along-in-None-clause-means
returns-in_err-along-in-None-clause-means g c = rw c.in-None.is (tells_err _ c.from_residual-in_err-along-in-None.ensures.1 (tells_bind _ c.in_ok-values.ensures.means (tells_memory _ _ _ refl)))

pub returns-clause-means : goal.returns-clause-means
returns-clause-means g c = rw c.in-None.is (tells_bind _ c.in_ok-values.ensures.means (tells_globals (spawn_here c.args.action c.in_ok-values.values) (tells_walks (c.spawn_here.ensures _))))
