use Rattle.std.proofs.Common.{arith, []}
use Rattle.path_bases.specs.Locals.{values_in}
use Rattle.walk_laws.proofs.Telling.{tells_err}
use Rattle.walk_laws.proofs.Beginning.{tells_act, tells_act_unpaid}
use Rattle.tree_walker.proofs.Acting.{acts_stop, acts_go, acts_site, acts_none}
use Rattle.tree_walker.proofs.run.act.Goals as goal

pub returns-in_err-pay : goal.returns-in_err-pay
returns-in_err-pay g c = record { means = tells_err _ c.from_residual.ensures.1 (tells_act_unpaid c.args.program.now c.args.number (values_in c.args.locals) (c.in_err-pay.ensures.means _)) }

pub returns-in_err-begin : goal.returns-in_err-begin
returns-in_err-begin g c = record { means = tells_err _ c.from_residual-in_err-begin.ensures.1 (tells_act c.args.program.now c.args.number (values_in c.args.locals) (c.in_ok-pay.ensures.means _) (acts_stop c.args.program.now c.args.number (values_in c.args.locals) c.as_slice-actions.result.now c.as_slice-actions.ensures c.index-actions-at.result c.if-at-actions.true c.index-actions-at.is c.in_err-begin.ensures.means)) }

pub returns-then-at-actions : goal.returns-then-at-actions
returns-then-at-actions g c = record { means = tells_act c.args.program.now c.args.number (values_in c.args.locals) (c.in_ok-pay.ensures.means _) (acts_go c.args.program.now c.args.number (values_in c.args.locals) c.as_slice-actions.result.now c.as_slice-actions.ensures c.index-actions-at.result c.if-at-actions.true c.index-actions-at.is c.in_ok-begin.ensures.means (c.run_statements.ensures [])) }

pub returns-in-Some : goal.returns-in-Some
returns-in-Some g c = record { means = tells_act c.args.program.now c.args.number (values_in c.args.locals) (c.in_ok-pay.ensures.means _) (acts_site c.args.program.now c.args.number (values_in c.args.locals) c.as_slice-actions.result.now c.as_slice-actions.ensures c.as_slice.result.now c.as_slice.ensures (omega arith) c.in-Some.site.now c.in-Some.ensures.lookup.3.0 c.in-Some.ensures.lookup.1 (c.run_statements-in-Some.ensures [])) }

pub returns-in-None : goal.returns-in-None
returns-in-None g c = record { means = tells_act c.args.program.now c.args.number (values_in c.args.locals) (c.in_ok-pay.ensures.means _) (acts_none c.args.program.now c.args.number (values_in c.args.locals) c.as_slice-actions.result.now c.as_slice-actions.ensures c.as_slice.result.now c.as_slice.ensures (omega arith) _ _ c.in-None.ensures.lookup.3) }
