use Rattle.tree_walker.proofs.Shapes.{shapes_stay}
use Rattle.tree_walker.proofs.run.run_action.Goals as goal

pub returns-in-Ok-clause-shapes : goal.returns-in-Ok-clause-shapes
returns-in-Ok-clause-shapes g c = shapes_stay c.runs_keep_shapes.ensures c.args.program.now c.requires.typed c.args.body c.args.globals.now c.args.locals c.in_ok-own.own c.in_ok-own.ensures c.requires.fits c.act.ensures.means

pub returns-in-Err-Halted-Died-clause-shapes : goal.returns-in-Err-Halted-Died-clause-shapes
returns-in-Err-Halted-Died-clause-shapes g c = shapes_stay c.runs_keep_shapes.ensures c.args.program.now c.requires.typed c.args.body c.args.globals.now c.args.locals c.in_ok-own.own c.in_ok-own.ensures c.requires.fits c.act.ensures.means

pub returns-in-Err-Halted-Failed-clause-shapes : goal.returns-in-Err-Halted-Failed-clause-shapes
returns-in-Err-Halted-Failed-clause-shapes g c = shapes_stay c.runs_keep_shapes.ensures c.args.program.now c.requires.typed c.args.body c.args.globals.now c.args.locals c.in_ok-own.own c.in_ok-own.ensures c.requires.fits c.act.ensures.means

pub returns-in-Err-Halted-Spent-clause-shapes : goal.returns-in-Err-Halted-Spent-clause-shapes
returns-in-Err-Halted-Spent-clause-shapes g c = shapes_stay c.runs_keep_shapes.ensures c.args.program.now c.requires.typed c.args.body c.args.globals.now c.args.locals c.in_ok-own.own c.in_ok-own.ensures c.requires.fits c.act.ensures.means

pub returns-in-Err-Memory-clause-shapes : goal.returns-in-Err-Memory-clause-shapes
returns-in-Err-Memory-clause-shapes g c = shapes_stay c.runs_keep_shapes.ensures c.args.program.now c.requires.typed c.args.body c.args.globals.now c.args.locals c.in_ok-own.own c.in_ok-own.ensures c.requires.fits c.act.ensures.means
