use Rattle.std.proofs.Common.{ap}
use Rattle.body_meaning.specs.Acts.{initials_from}
use Rattle.walk_laws.proofs.Telling.{tells_as, tells_pure}
use Rattle.call_walker.proofs.calls.begin.Goals as goal

pub returns-in-None-clause-means : goal.returns-in-None-clause-means
returns-in-None-clause-means g c = tells_as (ap (λ l. initials_from c.args.program.now 0 l) c.in-None.ensures) (tells_pure _ _ _)
