use Rattle.std.proofs.Common.{map}
use Rattle.std.specs.Prelude.{string_bytes}
use Rattle.correlator_run.proofs.Wording.{words_few}
use Rattle.correlator_run.proofs.load.words_of.Goals as goal

pub returns-in-Ok-clause-few : goal.returns-in-Ok-clause-few
returns-in-Ok-clause-few c = words_few (map string_bytes c.args.words.now) c.in-Ok.named c.in-Ok.ensures.told
