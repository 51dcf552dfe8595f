use Rattle.std.proofs.Common.{Some, None}
use Rattle.body_meaning.specs.declared.run.Flow.TheVariants.{Returned}
use Rattle.body_meaning.specs.Runs.{pure}
use Rattle.walk_laws.proofs.Telling.{tells_err, tells_bind_err, tells_then_pure, tells_pure}
use Rattle.stmt_walker.proofs.statements.Body.returned.Goals as goal

pub returns-in_err-value-in-Some-clause-means : goal.returns-in_err-value-in-Some-clause-means
returns-in_err-value-in-Some-clause-means g c = rw c.in-Some.is (tells_err _ c.from_residual.ensures.1 (tells_bind_err (λ v. pure (Returned (Some v))) c.in_err-value-in-Some.ensures.means))

pub returns-in_ok-value-in-Some-clause-means : goal.returns-in_ok-value-in-Some-clause-means
returns-in_ok-value-in-Some-clause-means g c = rw c.in-Some.is (tells_then_pure (λ v. Returned (Some v)) c.in_ok-value-in-Some.ensures.means)

pub returns-in-None-clause-means : goal.returns-in-None-clause-means
returns-in-None-clause-means g c = rw c.in-None.is (tells_pure (Returned None) _ _)
