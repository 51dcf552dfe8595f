use Rattle.world_serial.proofs.StartLemmas.{boots, fresh-stands}
use Rattle.world_serial.proofs.start.boot.Goals as goal

pub run_rounds-requires-clause-standing : goal.run_rounds-requires-clause-standing
run_rounds-requires-clause-standing c = fresh-stands c.args.program.now c.args.settings c.in_ok-world.world c.in_ok-world.ensures

pub returns : goal.returns
returns c = boots c.args.program.now c.args.settings c.in_ok-world.world c.run_rounds.new.world c.give.new.self c.args.items c.in_ok-world.ensures c.in_ok-run_rounds.ensures c.give.ensures c.requires.items
