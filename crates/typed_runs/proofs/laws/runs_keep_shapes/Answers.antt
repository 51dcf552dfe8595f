-- Runs of typed programs keep the shapes of their variables.
use Rattle.typed_runs.proofs.Acting.{runs_keep}
use Rattle.typed_runs.proofs.laws.runs_keep_shapes.Goals as goal

-- src/laws.rt:13:1
pub returns : goal.returns
returns c = runs_keep
