use Rattle.run_face.proofs.Fuels.{too_few}
use Rattle.run_face.proofs.words.fuel_behind.Goals as goal

-- fewer than two words name nothing
pub returns-in_default-clause-files : goal.returns-in_default-clause-files
returns-in_default-clause-files c = too_few c.args.words.now c.in_default.len_below
