use Rattle.std.proofs.Common.{[], ◌∷◌, ◌++◌, refl}
use Rattle.walk_rules.proofs.Leading.{leads_start}
use Rattle.walk_laws.proofs.Placing.{moves_end}
use Rattle.walk_laws.proofs.Telling.{tells_err, tells_walks, tells_memory, leads_tells}
use Rattle.expr_walker.specs.Means.{reach_by}
use Rattle.expr_walker.proofs.Steps.{more_moves, no_more_moves}
use Rattle.expr_walker.proofs.Walking.{walked_err}
use Rattle.expr_walker.proofs.exprs.Walker.steps_behind.Goals as goal

pub loop-step-init : goal.loop-step-init
loop-step-init g c = (leads_start _ _ _, c.requires.globals, c.requires.order)

pub returns-in_err-to : goal.returns-in_err-to
returns-in_err-to g c = walked_err _ c.from_residual.ensures.1 c.in_err-to.ensures.kept (no_more_moves (reach_by c.args.self.now.program.now c.args.self.now.depth) c.loop-step.moves c.args.steps.now c.loop-step.step-index c.step-item.result c.loop-step-test.true c.step-item.is c.loop-step.invariant.0 c.in_err-to.ensures.means)

pub returns-in_err-push : goal.returns-in_err-push
returns-in_err-push g c = let more = more_moves (reach_by c.args.self.now.program.now c.args.self.now.depth) c.loop-step.moves c.args.steps.now c.loop-step.step-index c.step-item.result c.loop-step-test.true c.step-item.is c.loop-step.invariant.0 (c.loop-step.moves ++ c.in_ok-to.to ∷ []) c.in_ok-to.to refl c.loop-step.invariant.2 c.in_ok-to.ensures.order c.in_ok-to.ensures.means in walked_err _ c.from_residual-in_err-push.ensures.1 c.in_ok-to.ensures.kept (leads_tells more.0 (tells_memory _ _ (g.H.Host.told c.step.new.host) refl))

pub loop-step-preserved : goal.loop-step-preserved
loop-step-preserved g c = let more = more_moves (reach_by c.args.self.now.program.now c.args.self.now.depth) c.loop-step.moves c.args.steps.now c.loop-step.step-index c.step-item.result c.loop-step-test.true c.step-item.is c.loop-step.invariant.0 c.push.new.self c.in_ok-to.to c.in_ok-push.ensures.ok c.loop-step.invariant.2 c.in_ok-to.ensures.order c.in_ok-to.ensures.means in
    (more.0, c.in_ok-to.ensures.kept, more.1)

pub returns : goal.returns
returns g c = record { means = tells_walks (moves_end (reach_by c.args.self.now.program.now c.args.self.now.depth) c.loop-step.moves c.args.steps.now c.loop-step.step-index c.loop-step-test.false c.loop-step.invariant.0); kept = c.loop-step.invariant.1; order = c.loop-step.invariant.2 }
