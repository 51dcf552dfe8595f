use Rattle.stmt_check.proofs.Going.{goes_bind, goes_stop, goes_err, goes_memory, goes_pure, goes_given, goes_looks, goes_tells, goes_as, goes_none, goes_some, goes_some_err, row_step, row_stop, row_end}
use Rattle.std.proofs.Common.{refl}
use Rattle.stmt_check.specs.Bodies.{around_of}
use Rattle.stmt_check.proofs.Arms.{stmt-block, stmt-on, stmt-declare, stmt-declare_as, stmt-declare_on, stmt-assign, stmt-assign_on, stmt-if, stmt-while, stmt-for, stmt-break, stmt-continue, stmt-return, stmt-die, stmt-print, stmt-log, stmt-route, stmt-send, stmt-spawn, stmt-monitor, stmt-call, on-listen, rows_of}
use Rattle.stmt_check.proofs.Calling.{goes_scoped, goes_scoped_err, callback_done, callback_stop}
use Rattle.stmt_check.proofs.body.Body.+statements.Goals as goal

pub statement-returns-in-Block : goal.statement-returns-in-Block
statement-returns-in-Block t c = goes_as (stmt-block _ _ _ c.in-Block.is) c.block.ensures

pub statement-returns-in-On : goal.statement-returns-in-On
statement-returns-in-On t c = goes_as (stmt-on _ _ _ c.in-On.is) c.on.ensures

pub statement-returns-in-Declare : goal.statement-returns-in-Declare
statement-returns-in-Declare t c = goes_as (stmt-declare _ _ _ _ c.in-Declare.is) c.declared.ensures

pub statement-returns-in-DeclareAs : goal.statement-returns-in-DeclareAs
statement-returns-in-DeclareAs t c = goes_as (stmt-declare_as _ _ _ _ _ c.in-DeclareAs.is) c.declared_as.ensures

pub statement-returns-in-DeclareOn : goal.statement-returns-in-DeclareOn
statement-returns-in-DeclareOn t c = goes_as (stmt-declare_on _ _ _ _ _ c.in-DeclareOn.is) c.declared_on.ensures

pub statement-returns-in-Assign : goal.statement-returns-in-Assign
statement-returns-in-Assign t c = goes_as (stmt-assign _ _ _ _ c.in-Assign.is) c.assigned.ensures

pub statement-returns-in-AssignOn : goal.statement-returns-in-AssignOn
statement-returns-in-AssignOn t c = goes_as (stmt-assign_on _ _ _ _ c.in-AssignOn.is) c.assigned_on.ensures

pub statement-returns-in_ok-choice-in-If : goal.statement-returns-in_ok-choice-in-If
statement-returns-in_ok-choice-in-If t c = rw c.in_ok-choice-in-If.ensures (goes_as (stmt-if _ _ _ _ _ c.in-If.is) (goes_bind _ c.in_ok-test-in-If.ensures (goes_bind _ (rw c.get.ensures at c.in_ok-part-in-If.ensures) (goes_bind _ c.in_ok-other-in-If.ensures (goes_pure _ _)))))

pub statement-returns-in_err-test-in-If : goal.statement-returns-in_err-test-in-If
statement-returns-in_err-test-in-If t c = goes_as (stmt-if _ _ _ _ _ c.in-If.is) (goes_err _ c.from_residual.ensures.1 (goes_stop _ _ c.in_err-test-in-If.ensures))

pub statement-returns-in_err-part-in-If : goal.statement-returns-in_err-part-in-If
statement-returns-in_err-part-in-If t c = goes_as (stmt-if _ _ _ _ _ c.in-If.is) (goes_err _ c.from_residual-in_err-part-in-If.ensures.1 (goes_bind _ c.in_ok-test-in-If.ensures (goes_stop _ _ (rw c.get.ensures at c.in_err-part-in-If.ensures))))

pub statement-returns-in_err-other-in-If : goal.statement-returns-in_err-other-in-If
statement-returns-in_err-other-in-If t c = goes_as (stmt-if _ _ _ _ _ c.in-If.is) (goes_err _ c.from_residual-in_err-other-in-If.ensures.1 (goes_bind _ c.in_ok-test-in-If.ensures (goes_bind _ (rw c.get.ensures at c.in_ok-part-in-If.ensures) (goes_stop _ _ c.in_err-other-in-If.ensures))))

pub statement-returns-in_err-choice-in-If : goal.statement-returns-in_err-choice-in-If
statement-returns-in_err-choice-in-If t c = goes_err _ c.from_residual-in_err-choice-in-If.ensures.1 (goes_memory _ _ _)

pub statement-returns-in-While : goal.statement-returns-in-While
statement-returns-in-While t c = goes_as (stmt-while _ _ _ _ c.in-While.is) c.repeat.ensures

pub statement-returns-in-For : goal.statement-returns-in-For
statement-returns-in-For t c = goes_as (stmt-for _ _ _ _ _ c.in-For.is) c.over.ensures

pub statement-returns-in-Break : goal.statement-returns-in-Break
statement-returns-in-Break t c = goes_as (stmt-break _ _ c.in-Break.is) c.broken.ensures

pub statement-returns-in-Continue : goal.statement-returns-in-Continue
statement-returns-in-Continue t c = goes_as (stmt-continue _ _ c.in-Continue.is) c.continued.ensures

pub statement-returns-in-Return : goal.statement-returns-in-Return
statement-returns-in-Return t c = goes_as (stmt-return _ _ _ c.in-Return.is) c.returned.ensures

pub statement-returns-in-Die : goal.statement-returns-in-Die
statement-returns-in-Die t c = goes_as (stmt-die _ _ c.in-Die.is) (goes_pure _ _)

pub statement-returns-in-Print : goal.statement-returns-in-Print
statement-returns-in-Print t c = goes_as (stmt-print _ _ _ c.in-Print.is) c.printed.ensures

pub statement-returns-in-Log : goal.statement-returns-in-Log
statement-returns-in-Log t c = goes_as (stmt-log _ _ _ _ c.in-Log.is) c.logged.ensures

pub statement-returns-in-Route : goal.statement-returns-in-Route
statement-returns-in-Route t c = goes_as (stmt-route _ _ _ c.in-Route.is) c.routed.ensures

pub statement-returns-in-Send : goal.statement-returns-in-Send
statement-returns-in-Send t c = goes_as (stmt-send _ _ _ _ c.in-Send.is) c.sent.ensures

pub statement-returns-in-Spawn : goal.statement-returns-in-Spawn
statement-returns-in-Spawn t c = goes_as (stmt-spawn _ _ _ _ _ c.in-Spawn.is) c.spawned.ensures

pub statement-returns-in-Monitor : goal.statement-returns-in-Monitor
statement-returns-in-Monitor t c = goes_as (stmt-monitor _ _ _ _ c.in-Monitor.is) c.controlled.ensures

pub statement-returns-in-Call : goal.statement-returns-in-Call
statement-returns-in-Call t c = goes_as (stmt-call _ _ _ c.in-Call.is) c.called.ensures

pub block-returns : goal.block-returns
block-returns t c = goes_bind _ c.in_ok-made.ensures (goes_pure _ _)

pub block-returns-in_err-made : goal.block-returns-in_err-made
block-returns-in_err-made t c = goes_err _ c.from_residual.ensures.1 (goes_stop _ _ c.in_err-made.ensures)

pub repeat-returns : goal.repeat-returns
repeat-returns t c = goes_bind _ c.in_ok-test.ensures (goes_bind _ (rw c.inside.ensures at c.in_ok-made.ensures) (goes_pure _ _))

pub repeat-returns-in_err-test : goal.repeat-returns-in_err-test
repeat-returns-in_err-test t c = goes_err _ c.from_residual.ensures.1 (goes_stop _ _ c.in_err-test.ensures)

pub repeat-returns-in_err-made : goal.repeat-returns-in_err-made
repeat-returns-in_err-made t c = goes_err _ c.from_residual-in_err-made.ensures.1 (goes_bind _ c.in_ok-test.ensures (goes_stop _ _ (rw c.inside.ensures at c.in_err-made.ensures)))

pub on-returns : goal.on-returns
on-returns t c = goes_bind _ c.in_ok-site.ensures (goes_pure _ _)

pub on-returns-in_err-site : goal.on-returns-in_err-site
on-returns-in_err-site t c = goes_err _ c.from_residual.ensures.1 (goes_stop _ _ c.in_err-site.ensures)

pub declared_on-returns : goal.declared_on-returns
declared_on-returns t c = goes_bind _ (goes_given _ _ c.in_ok-shape.ensures) (goes_bind _ c.in_ok-new_name.ensures (goes_bind _ (rw c.is_listener.ensures at c.in_ok-site.ensures) (goes_bind _ c.in_ok-number.ensures (goes_pure _ _))))

pub declared_on-returns-in_err-shape : goal.declared_on-returns-in_err-shape
declared_on-returns-in_err-shape t c = goes_err _ c.from_residual.ensures.1 (goes_stop _ _ (goes_given _ _ c.in_err-shape.ensures))

pub declared_on-returns-in_err-new_name : goal.declared_on-returns-in_err-new_name
declared_on-returns-in_err-new_name t c = goes_err _ c.from_residual-in_err-new_name.ensures.1 (goes_bind _ (goes_given _ _ c.in_ok-shape.ensures) (goes_stop _ _ c.in_err-new_name.ensures))

pub declared_on-returns-in_err-site : goal.declared_on-returns-in_err-site
declared_on-returns-in_err-site t c = goes_err _ c.from_residual-in_err-site.ensures.1 (goes_bind _ (goes_given _ _ c.in_ok-shape.ensures) (goes_bind _ c.in_ok-new_name.ensures (goes_stop _ _ (rw c.is_listener.ensures at c.in_err-site.ensures))))

pub declared_on-returns-in_err-number : goal.declared_on-returns-in_err-number
declared_on-returns-in_err-number t c = goes_err _ c.from_residual-in_err-number.ensures.1 (goes_bind _ (goes_given _ _ c.in_ok-shape.ensures) (goes_bind _ c.in_ok-new_name.ensures (goes_bind _ (rw c.is_listener.ensures at c.in_ok-site.ensures) (goes_stop _ _ c.in_err-number.ensures))))

pub assigned_on-returns : goal.assigned_on-returns
assigned_on-returns t c = goes_bind _ (goes_looks _ _ c.in_ok-to.ensures) (goes_bind _ (rw (c.takes_listener.ensures, c.target_shape.ensures) at c.in_ok-site.ensures) (goes_pure _ _))

pub assigned_on-returns-in_err-to : goal.assigned_on-returns-in_err-to
assigned_on-returns-in_err-to t c = goes_err _ c.from_residual.ensures.1 (goes_stop _ _ (goes_looks _ _ c.in_err-to.ensures))

pub assigned_on-returns-in_err-site : goal.assigned_on-returns-in_err-site
assigned_on-returns-in_err-site t c = goes_err _ c.from_residual-in_err-site.ensures.1 (goes_bind _ (goes_looks _ _ c.in_ok-to.ensures) (goes_stop _ _ (rw (c.takes_listener.ensures, c.target_shape.ensures) at c.in_err-site.ensures)))

pub scoped_row-returns : goal.scoped_row-returns
scoped_row-returns t c = goes_scoped c.in_ok-made.ensures c.len-len.ensures.count c.leave.ensures

pub scoped_row-returns-in_err-made : goal.scoped_row-returns-in_err-made
scoped_row-returns-in_err-made t c = goes_err _ c.from_residual.ensures.1 (goes_scoped_err _ c.in_err-made.ensures)

pub scoped_one-returns : goal.scoped_one-returns
scoped_one-returns t c = goes_scoped c.in_ok-made.ensures c.len-len.ensures.count c.leave.ensures

pub scoped_one-returns-in_err-made : goal.scoped_one-returns-in_err-made
scoped_one-returns-in_err-made t c = goes_err _ c.from_residual.ensures.1 (goes_scoped_err _ c.in_err-made.ensures)

pub other-returns-in_ok-boxed-in-Some : goal.other-returns-in_ok-boxed-in-Some
other-returns-in_ok-boxed-in-Some t c = rw (c.in-Some.is, c.in_ok-boxed-in-Some.ensures) (goes_some (rw c.get.ensures at c.in_ok-made-in-Some.ensures))

pub other-returns-in_err-made-in-Some : goal.other-returns-in_err-made-in-Some
other-returns-in_err-made-in-Some t c = rw c.in-Some.is (goes_err _ c.from_residual.ensures.1 (goes_some_err _ (rw c.get.ensures at c.in_err-made-in-Some.ensures)))

pub other-returns-in_err-boxed-in-Some : goal.other-returns-in_err-boxed-in-Some
other-returns-in_err-boxed-in-Some t c = goes_err _ c.from_residual-in_err-boxed-in-Some.ensures.1 (goes_memory _ _ _)

pub other-returns-in-None : goal.other-returns-in-None
other-returns-in-None t c = rw c.in-None.is (goes_none _)

pub over-returns : goal.over-returns
over-returns t c = goes_bind _ c.in_ok-new_name.ensures (goes_bind _ c.in_ok-items.ensures (goes_scoped (goes_bind _ (rw c.in_ok-element.ensures at c.in_ok-number.ensures) (goes_bind _ (rw c.inside.ensures at c.in_ok-made.ensures) (goes_pure _ _))) c.len-len.ensures.count c.leave.ensures))

pub over-returns-in_err-new_name : goal.over-returns-in_err-new_name
over-returns-in_err-new_name t c = goes_err _ c.from_residual.ensures.1 (goes_stop _ _ c.in_err-new_name.ensures)

pub over-returns-in_err-items : goal.over-returns-in_err-items
over-returns-in_err-items t c = goes_err _ c.from_residual-in_err-items.ensures.1 (goes_bind _ c.in_ok-new_name.ensures (goes_stop _ _ c.in_err-items.ensures))

pub over-returns-in_err-element : goal.over-returns-in_err-element
over-returns-in_err-element t c = goes_err _ c.from_residual-in_err-element.ensures.1 (goes_memory _ _ _)

pub over-returns-in_err-number : goal.over-returns-in_err-number
over-returns-in_err-number t c = goes_err _ c.from_residual-in_err-number.ensures.1 (goes_bind _ c.in_ok-new_name.ensures (goes_bind _ c.in_ok-items.ensures (goes_scoped_err _ (goes_stop _ c.args.state.now (rw c.in_ok-element.ensures at c.in_err-number.ensures)))))

pub over-returns-in_err-made : goal.over-returns-in_err-made
over-returns-in_err-made t c = goes_err _ c.from_residual-in_err-made.ensures.1 (goes_bind _ c.in_ok-new_name.ensures (goes_bind _ c.in_ok-items.ensures (goes_scoped_err _ (goes_bind _ (rw c.in_ok-element.ensures at c.in_ok-number.ensures) (goes_stop _ c.args.state.now (rw c.inside.ensures at c.in_err-made.ensures))))))

pub listener-returns : goal.listener-returns
listener-returns t c = goes_as (on-listen _ _ _) (goes_bind _ (goes_tells _ _ _ c.in_ok-may_listen.ensures) (goes_bind _ (goes_looks _ _ c.in_ok-term.ensures) (rw c.get.ensures at c.callback.ensures)))

pub listener-returns-in_err-may_listen : goal.listener-returns-in_err-may_listen
listener-returns-in_err-may_listen t c = goes_as (on-listen _ _ _) (goes_err _ c.from_residual.ensures.1 (goes_stop _ _ (goes_tells _ _ _ c.in_err-may_listen.ensures)))

pub listener-returns-in_err-term : goal.listener-returns-in_err-term
listener-returns-in_err-term t c = goes_as (on-listen _ _ _) (goes_err _ c.from_residual-in_err-term.ensures.1 (goes_bind _ (goes_tells _ _ _ c.in_ok-may_listen.ensures) (goes_stop _ _ (goes_looks _ _ c.in_err-term.ensures))))

pub callback-returns : goal.callback-returns
callback-returns t c = callback_done (around_of c.args.self.now) _ _ _ _ c.in_ok-opened.ensures.term c.in_ok-opened.ensures.captured c.in_ok-opened.ensures.at c.in_ok-opened.ensures.state c.in_ok-opened.ensures.rest (rw c.called_back.ensures at c.in_ok-body.ensures) c.site_number-number.ensures c.in_ok-close.ensures

pub callback-returns-in_err-opened : goal.callback-returns-in_err-opened
callback-returns-in_err-opened t c = goes_err _ c.from_residual.ensures.1 (goes_memory _ _ _)

pub callback-returns-in_err-body : goal.callback-returns-in_err-body
callback-returns-in_err-body t c = goes_err _ c.from_residual-in_err-body.ensures.1 (callback_stop (around_of c.args.self.now) _ _ _ _ _ c.in_ok-opened.ensures.state (rw c.called_back.ensures at c.in_err-body.ensures))

pub callback-returns-in_err-close : goal.callback-returns-in_err-close
callback-returns-in_err-close t c = goes_err _ c.from_residual-in_err-close.ensures.1 (goes_memory _ _ _)

pub row-loop-tree-init : goal.row-loop-tree-init
row-loop-tree-init t c = rw c.new-made.ensures refl

pub row-loop-tree-preserved : goal.row-loop-tree-preserved
row-loop-tree-preserved t c = rw c.in_ok-push.ensures.ok (row_step (rows_of (around_of c.args.self.now)) c.args.trees.now c.loop-tree.tree-index c.loop-tree.made (rw c.as_slice-tree-items.ensures at c.loop-tree-test.true) (rw c.as_slice-tree-items.ensures at c.tree-item.is) c.loop-tree.invariant c.in_ok-statement.ensures)

pub row-returns-in_err-statement : goal.row-returns-in_err-statement
row-returns-in_err-statement t c = goes_err _ c.from_residual.ensures.1 (row_stop (rows_of (around_of c.args.self.now)) c.args.trees.now c.loop-tree.tree-index c.loop-tree.made _ (rw c.as_slice-tree-items.ensures at c.loop-tree-test.true) (rw c.as_slice-tree-items.ensures at c.tree-item.is) c.loop-tree.invariant c.in_err-statement.ensures)

pub row-returns-in_err-push : goal.row-returns-in_err-push
row-returns-in_err-push t c = goes_err _ c.from_residual-in_err-push.ensures.1 (goes_memory _ _ _)

pub row-returns : goal.row-returns
row-returns t c = row_end (rows_of (around_of c.args.self.now)) c.args.trees.now c.loop-tree.tree-index (rw c.as_slice-tree-items.ensures at c.loop-tree-test.false) c.loop-tree.invariant
