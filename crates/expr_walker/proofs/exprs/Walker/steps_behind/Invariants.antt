use Rattle.std.proofs.Common.{map, drop}
use Rattle.body_meaning.specs.Runs.{all_behind}
use Rattle.body_meaning.specs.Statements.{moves_in}
use Rattle.value_steps.specs.Orderly.{AreOrderly, AreOrderlyMoves}
use Rattle.walk_rules.specs.Ran.{Leads}
use Rattle.path_bases.specs.Locals.{frame_of}
use Rattle.expr_walker.specs.Means.{reach_by}
use Rattle.expr_walker.proofs.exprs.Walker.steps_behind.Given as goal

abbrev pub invariant-loop-step : goal.invariant-loop-step
invariant-loop-step g l = Leads (all_behind l.fn.before (moves_in (map (reach_by l.self.program.now l.self.depth) l.steps))) (g.H.Host.told l.fn.host) (frame_of l.fn.globals l.self.locals.now) (all_behind l.moves (moves_in (map (reach_by l.self.program.now l.self.depth) (drop l.step-index l.steps)))) (g.H.Host.told l.host) (frame_of l.globals l.self.locals.now) × AreOrderly l.globals × AreOrderlyMoves l.moves
