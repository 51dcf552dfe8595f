use Rattle.std.proofs.Common.{map, refl, sym, arith}
use Rattle.epl_values.specs.declared.value.Value.TheVariants as value
use Rattle.body_meaning.specs.Paths.{set_local}
use Rattle.body_meaning.specs.Statements.{row}
use Rattle.value_steps.specs.Orderly.{IsOrderly}
use Rattle.value_steps.proofs.Called.{none_orderly}
use Rattle.value_steps.proofs.Kept.{all_get}
use Rattle.path_bases.proofs.Lent.{set_orderly}
use Rattle.walk_rules.proofs.Leading.{got, leads_start, row_end}
use Rattle.walk_rules.proofs.Looping.{each_unpaid, each_end, each_kept, turning_start, turning_unpaid}
use Rattle.walk_rules.proofs.Running.{walks_change}
use Rattle.walk_laws.proofs.Lending.{frame_set}
use Rattle.walk_laws.proofs.Looping.{row_told, row_told_out, row_told_stop, each_told, each_told_out, each_told_stop, turning_told, turning_told_out, turning_told_false, turning_told_untested, turning_told_stop}
use Rattle.walk_laws.proofs.Telling.{tells_as, tells_err, tells_walks, tells_seq, tells_seq_err}
use Rattle.expr_walker.specs.Means.{value_by}
use Rattle.stmt_walker.specs.Means.{stmt_by}
use Rattle.stmt_walker.proofs.Orders.{stopped_orderly}
use Rattle.stmt_walker.proofs.Singly.{charged_single}
use Rattle.stmt_walker.proofs.Turns.{inside, block_is, if_unpaid, if_untested, if_holds, if_other, if_none, while_unpaid, while_turns, for_unpaid, for_itemless, for_turns}
use Rattle.stmt_walker.proofs.statements.Body.+walk.Goals as goal

pub row-loop-stmt-init : goal.row-loop-stmt-init
row-loop-stmt-init g t c = record { leads = leads_start _ _ _; globals = c.requires.globals; locals = c.requires.locals }

pub row-returns-in_err-flow-clause-means : goal.row-returns-in_err-flow-clause-means
row-returns-in_err-flow-clause-means g t c = tells_err _ c.from_residual.ensures.1 (row_told_stop (stmt_by c.args.self.now.program.now c.args.self.now.depth) c.args.stmts.now c.loop-stmt.stmt-index c.stmt-item.result c.loop-stmt-test.true c.stmt-item.is c.loop-stmt.invariant.leads c.in_err-flow.ensures.means)

pub row-returns-then-not-is_next-clause-means : goal.row-returns-then-not-is_next-clause-means
row-returns-then-not-is_next-clause-means g t c = row_told_out (stmt_by c.args.self.now.program.now c.args.self.now.depth) c.args.stmts.now c.loop-stmt.stmt-index c.stmt-item.result c.loop-stmt-test.true c.stmt-item.is c.loop-stmt.invariant.leads c.in_ok-flow.ensures.means c.if-not-is_next.ensures

pub row-loop-stmt-preserved : goal.row-loop-stmt-preserved
row-loop-stmt-preserved g t c = record { leads = row_told (stmt_by c.args.self.now.program.now c.args.self.now.depth) c.args.stmts.now c.loop-stmt.stmt-index c.stmt-item.result c.loop-stmt-test.true c.stmt-item.is c.loop-stmt.invariant.leads c.in_ok-flow.ensures.means c.if-not-is_next.ensures; globals = c.in_ok-flow.ensures.globals_kept; locals = c.in_ok-flow.ensures.locals_kept }

pub row-returns-clause-means : goal.row-returns-clause-means
row-returns-clause-means g t c = tells_walks (row_end (stmt_by c.args.self.now.program.now c.args.self.now.depth) c.args.stmts.now c.loop-stmt.stmt-index (omega arith) c.loop-stmt.invariant.leads)

pub each-loop-index-init : goal.each-loop-index-init
each-loop-index-init g t c = record { long = sym c.len-count.ensures.count; leads = leads_start _ _ _; items = c.requires.order; globals = c.requires.globals; locals = c.requires.locals }

pub each-returns-in_err-pay-clause-means : goal.each-returns-in_err-pay-clause-means
each-returns-in_err-pay-clause-means g t c = tells_err _ c.from_residual.ensures.1 (tells_walks (each_unpaid c.args.n (row (map (stmt_by c.args.self.now.program.now c.args.self.now.depth) c.args.parts.now)) c.loop-index.items c.loop-index.index c.set-value.result (inside c.loop-index.items c.loop-index.index c.len-count.result c.loop-index-test.true c.loop-index.invariant.long) (got c.loop-index.items c.loop-index.index c.set-value.result (inside c.loop-index.items c.loop-index.index c.len-count.result c.loop-index-test.true c.loop-index.invariant.long) c.set-value.ensures.old) c.loop-index.invariant.leads (c.in_err-pay.ensures.means _)))

pub each-set_local-requires-clause-value : goal.each-set_local-requires-clause-value
each-set_local-requires-clause-value g t c = all_get IsOrderly c.loop-index.items c.loop-index.index c.set-value.result c.loop-index.invariant.items c.set-value.ensures.old

pub each-returns-in_err-flow-clause-means : goal.each-returns-in_err-flow-clause-means
each-returns-in_err-flow-clause-means g t c = tells_err _ c.from_residual-in_err-flow.ensures.1 (each_told_stop c.args.n (row (map (stmt_by c.args.self.now.program.now c.args.self.now.depth) c.args.parts.now)) c.loop-index.items c.loop-index.index c.set-value.result (inside c.loop-index.items c.loop-index.index c.len-count.result c.loop-index-test.true c.loop-index.invariant.long) (got c.loop-index.items c.loop-index.index c.set-value.result (inside c.loop-index.items c.loop-index.index c.len-count.result c.loop-index-test.true c.loop-index.invariant.long) c.set-value.ensures.old) c.loop-index.invariant.leads (c.in_ok-pay.ensures.means _) (walks_change (set_local c.args.n c.set-value.result) _ (frame_set _ c.loop-index.locals c.set_local.new.locals c.args.n c.set-value.result c.set_local.ensures.is)) c.in_err-flow.ensures.means)

pub each-returns-in-Some-clause-means : goal.each-returns-in-Some-clause-means
each-returns-in-Some-clause-means g t c = each_told_out c.args.n (row (map (stmt_by c.args.self.now.program.now c.args.self.now.depth) c.args.parts.now)) c.loop-index.items c.loop-index.index c.set-value.result (inside c.loop-index.items c.loop-index.index c.len-count.result c.loop-index-test.true c.loop-index.invariant.long) (got c.loop-index.items c.loop-index.index c.set-value.result (inside c.loop-index.items c.loop-index.index c.len-count.result c.loop-index-test.true c.loop-index.invariant.long) c.set-value.ensures.old) c.loop-index.invariant.leads (c.in_ok-pay.ensures.means _) (walks_change (set_local c.args.n c.set-value.result) _ (frame_set _ c.loop-index.locals c.set_local.new.locals c.args.n c.set-value.result c.set_local.ensures.is)) c.in_ok-flow.ensures.means c.in-Some.ensures

pub each-loop-index-preserved : goal.each-loop-index-preserved
each-loop-index-preserved g t c =
    let kept = each_kept c.args.n (row (map (stmt_by c.args.self.now.program.now c.args.self.now.depth) c.args.parts.now)) c.loop-index.items c.set-value.new.self c.loop-index.index c.len-count.result value.NoContext c.set-value.ensures.new c.loop-index.invariant.long (each_told c.args.n (row (map (stmt_by c.args.self.now.program.now c.args.self.now.depth) c.args.parts.now)) c.loop-index.items c.loop-index.index c.set-value.result (inside c.loop-index.items c.loop-index.index c.len-count.result c.loop-index-test.true c.loop-index.invariant.long) (got c.loop-index.items c.loop-index.index c.set-value.result (inside c.loop-index.items c.loop-index.index c.len-count.result c.loop-index-test.true c.loop-index.invariant.long) c.set-value.ensures.old) c.loop-index.invariant.leads (c.in_ok-pay.ensures.means _) (walks_change (set_local c.args.n c.set-value.result) _ (frame_set _ c.loop-index.locals c.set_local.new.locals c.args.n c.set-value.result c.set_local.ensures.is)) c.in_ok-flow.ensures.means c.in_default.ensures) in
    record { long = kept.0; leads = kept.1; items = set_orderly c.loop-index.items c.set-value.new.self c.loop-index.index value.NoContext c.set-value.ensures.new c.loop-index.invariant.items none_orderly; globals = c.in_ok-flow.ensures.globals_kept; locals = c.in_ok-flow.ensures.locals_kept }

pub each-returns-clause-means : goal.each-returns-clause-means
each-returns-clause-means g t c = tells_walks (each_end c.args.n (row (map (stmt_by c.args.self.now.program.now c.args.self.now.depth) c.args.parts.now)) c.loop-index.items c.loop-index.index (omega arith) c.loop-index.invariant.leads)

pub turns-turns-init : goal.turns-turns-init
turns-turns-init g t c = record { turning = turning_start (value_by c.args.self.now.program.now c.args.self.now.depth c.args.test.now) (row (map (stmt_by c.args.self.now.program.now c.args.self.now.depth) c.args.parts.now)) _ _; globals = c.requires.globals; locals = c.requires.locals }

pub turns-returns-in_err-pay-clause-means : goal.turns-returns-in_err-pay-clause-means
turns-returns-in_err-pay-clause-means g t c = tells_err _ c.from_residual.ensures.1 (tells_walks (turning_unpaid (value_by c.args.self.now.program.now c.args.self.now.depth c.args.test.now) (row (map (stmt_by c.args.self.now.program.now c.args.self.now.depth) c.args.parts.now)) c.turns.invariant.turning (c.in_err-pay.ensures.means _)))

pub turns-returns-in_err-tested-clause-means : goal.turns-returns-in_err-tested-clause-means
turns-returns-in_err-tested-clause-means g t c = tells_err _ c.from_residual-in_err-tested.ensures.1 (turning_told_untested (value_by c.args.self.now.program.now c.args.self.now.depth c.args.test.now) (row (map (stmt_by c.args.self.now.program.now c.args.self.now.depth) c.args.parts.now)) c.turns.invariant.turning (c.in_ok-pay.ensures.means _) c.in_err-tested.ensures.means)

pub turns-returns-then-not-truth-clause-means : goal.turns-returns-then-not-truth-clause-means
turns-returns-then-not-truth-clause-means g t c = turning_told_false (value_by c.args.self.now.program.now c.args.self.now.depth c.args.test.now) (row (map (stmt_by c.args.self.now.program.now c.args.self.now.depth) c.args.parts.now)) c.turns.invariant.turning (c.in_ok-pay.ensures.means _) c.in_ok-tested.ensures.means c.if-not-truth.ensures

pub turns-returns-in_err-flow-clause-means : goal.turns-returns-in_err-flow-clause-means
turns-returns-in_err-flow-clause-means g t c = tells_err _ c.from_residual-in_err-flow.ensures.1 (turning_told_stop (value_by c.args.self.now.program.now c.args.self.now.depth c.args.test.now) (row (map (stmt_by c.args.self.now.program.now c.args.self.now.depth) c.args.parts.now)) c.turns.invariant.turning (c.in_ok-pay.ensures.means _) c.in_ok-tested.ensures.means c.if-not-truth.ensures c.in_err-flow.ensures.means)

pub turns-returns-in-Some-clause-means : goal.turns-returns-in-Some-clause-means
turns-returns-in-Some-clause-means g t c = turning_told_out (value_by c.args.self.now.program.now c.args.self.now.depth c.args.test.now) (row (map (stmt_by c.args.self.now.program.now c.args.self.now.depth) c.args.parts.now)) c.turns.invariant.turning (c.in_ok-pay.ensures.means _) c.in_ok-tested.ensures.means c.if-not-truth.ensures c.in_ok-flow.ensures.means c.in-Some.ensures

pub turns-turns-preserved : goal.turns-turns-preserved
turns-turns-preserved g t c = record { turning = turning_told (value_by c.args.self.now.program.now c.args.self.now.depth c.args.test.now) (row (map (stmt_by c.args.self.now.program.now c.args.self.now.depth) c.args.parts.now)) c.turns.invariant.turning (c.in_ok-pay.ensures.means _) c.in_ok-pay.ensures.spends c.in_ok-tested.ensures.means c.if-not-truth.ensures c.in_ok-flow.ensures.means c.in_default.ensures; globals = c.in_ok-flow.ensures.globals_kept; locals = c.in_ok-flow.ensures.locals_kept }

pub stmt-returns-in-Block-clause-means : goal.stmt-returns-in-Block-clause-means
stmt-returns-in-Block-clause-means g t c = tells_as (block_is c.args.self.now.program.now c.args.self.now.depth c.args.stmt.now c.in-Block.parts _ c.in-Block.is c.as_slice.ensures) c.row.ensures.means

pub stmt-returns-in_err-pay-in-If-clause-means : goal.stmt-returns-in_err-pay-in-If-clause-means
stmt-returns-in_err-pay-in-If-clause-means g t c = tells_err _ c.from_residual.ensures.1 (if_unpaid c.args.self.now.program.now c.args.self.now.depth c.args.stmt.now c.in-If.test c.in-If.part c.in-If.other c.in-If.is (c.in_err-pay-in-If.ensures.means _))

pub stmt-returns-in_err-value-in-If-clause-means : goal.stmt-returns-in_err-value-in-If-clause-means
stmt-returns-in_err-value-in-If-clause-means g t c = tells_err _ c.from_residual-in_err-value-in-If.ensures.1 (if_untested c.args.self.now.program.now c.args.self.now.depth c.args.stmt.now c.in-If.test c.in-If.part c.in-If.other c.in-If.is (c.in_ok-pay-in-If.ensures.means _) c.in_err-value-in-If.ensures.means)

pub stmt-returns-then-truth-clause-means : goal.stmt-returns-then-truth-clause-means
stmt-returns-then-truth-clause-means g t c = if_holds c.args.self.now.program.now c.args.self.now.depth c.args.stmt.now c.in-If.test c.in-If.part c.in-If.other c.in-If.is (c.in_ok-pay-in-If.ensures.means _) c.in_ok-value-in-If.ensures.means _ c.get.ensures c.if-truth.ensures c.stmt.ensures.means

pub stmt-returns-in-Some-clause-means : goal.stmt-returns-in-Some-clause-means
stmt-returns-in-Some-clause-means g t c = if_other c.args.self.now.program.now c.args.self.now.depth c.args.stmt.now c.in-If.test c.in-If.part c.in-If.other c.in-If.is (c.in_ok-pay-in-If.ensures.means _) c.in_ok-value-in-If.ensures.means c.in-Some.other _ c.in-Some.is c.get-in-Some.ensures c.if-truth.ensures c.stmt-in-Some.ensures.means

pub stmt-returns-in-If-clause-means : goal.stmt-returns-in-If-clause-means
stmt-returns-in-If-clause-means g t c = if_none c.args.self.now.program.now c.args.self.now.depth c.args.stmt.now c.in-If.test c.in-If.part c.in-If.other c.in-If.is (c.in_ok-pay-in-If.ensures.means _) c.in_ok-value-in-If.ensures.means c.in-None.is c.if-truth.ensures

pub stmt-returns-in_err-pay-in-While-clause-means : goal.stmt-returns-in_err-pay-in-While-clause-means
stmt-returns-in_err-pay-in-While-clause-means g t c = tells_err _ c.from_residual-in_err-pay-in-While.ensures.1 (while_unpaid c.args.self.now.program.now c.args.self.now.depth c.args.stmt.now c.in-While.test c.in-While.parts c.in-While.parts c.in-While.is refl (c.in_err-pay-in-While.ensures.means _))

pub stmt-returns-in-While-clause-means : goal.stmt-returns-in-While-clause-means
stmt-returns-in-While-clause-means g t c = while_turns c.args.self.now.program.now c.args.self.now.depth c.args.stmt.now c.in-While.test c.in-While.parts _ c.in-While.is c.as_slice-in-While.ensures (c.in_ok-pay-in-While.ensures.means _) c.turns.ensures.means

pub stmt-returns-in_err-pay-in-For-clause-means : goal.stmt-returns-in_err-pay-in-For-clause-means
stmt-returns-in_err-pay-in-For-clause-means g t c = tells_err _ c.from_residual-in_err-pay-in-For.ensures.1 (for_unpaid c.args.self.now.program.now c.args.self.now.depth c.args.stmt.now c.in-For.n c.in-For.items c.in-For.parts c.in-For.is (c.in_err-pay-in-For.ensures.means _))

pub stmt-returns-in_err-items-in-For-clause-means : goal.stmt-returns-in_err-items-in-For-clause-means
stmt-returns-in_err-items-in-For-clause-means g t c = tells_err _ c.from_residual-in_err-items-in-For.ensures.1 (for_itemless c.args.self.now.program.now c.args.self.now.depth c.args.stmt.now c.in-For.n c.in-For.items c.in-For.parts c.in-For.is (c.in_ok-pay-in-For.ensures.means _) c.in_err-items-in-For.ensures.means)

pub stmt-returns-in-For-clause-means : goal.stmt-returns-in-For-clause-means
stmt-returns-in-For-clause-means g t c = for_turns c.args.self.now.program.now c.args.self.now.depth c.args.stmt.now c.in-For.n c.in-For.items c.in-For.parts _ c.in-For.is c.as_slice-in-For.ensures (c.in_ok-pay-in-For.ensures.means _) c.in_ok-items-in-For.ensures.means c.each.ensures.means

pub stmt-returns-in_err-pay-in_default : goal.stmt-returns-in_err-pay-in_default
stmt-returns-in_err-pay-in_default g t c = record { means = tells_err _ c.from_residual-in_err-pay-in_default.ensures.1 (tells_as (charged_single c.args.self.now.program.now c.args.self.now.depth c.args.stmt.now c.in_default.not-Block c.in_default.not-If c.in_default.not-While c.in_default.not-For) (tells_seq_err _ (tells_walks (c.in_err-pay-in_default.ensures.means _)))); globals_kept = c.requires.globals; locals_kept = c.requires.locals; order = stopped_orderly _ c.from_residual-in_err-pay-in_default.result c.from_residual-in_err-pay-in_default.ensures.1 }

pub stmt-returns : goal.stmt-returns
stmt-returns g t c = record { means = tells_as (charged_single c.args.self.now.program.now c.args.self.now.depth c.args.stmt.now c.in_default.not-Block c.in_default.not-If c.in_default.not-While c.in_default.not-For) (tells_seq (tells_walks (c.in_ok-pay-in_default.ensures.means _)) c.single.ensures.means); globals_kept = c.single.ensures.globals_kept; locals_kept = c.single.ensures.locals_kept; order = c.single.ensures.order }
