use Rattle.std.proofs.lemmas.Result.{on_ok_weaker}
use Rattle.context_steps.proofs.Fronts.{settles_load}
use Rattle.context_steps.proofs.handling.entry_load.Goals as goal

pub returns-clause-means : goal.returns-clause-means
returns-clause-means g c = on_ok_weaker c.put_in_front.result (settles_load c.args.around.now.program.now c.args.monitor c.args.context.now c.load.new.context c.put_in_front.new.self c.requires.keeps c.requires.fits c.requires.there c.in_ok-load.ensures.means) c.put_in_front.ensures
