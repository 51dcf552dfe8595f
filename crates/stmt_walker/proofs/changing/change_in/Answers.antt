use Rattle.std.proofs.Common.{Some, None, length, ap, refl, sym, ◌∙◌, subst}
use Rattle.stmt_walker.specs.Roots.{Roots}
use Rattle.stmt_walker.specs.Found.{Found}
use Rattle.stmt_walker.proofs.Placed.{value_alone, value_unplaced, value_stepless, value_reached, value_called, value_behind, change_found}
use Rattle.stmt_walker.proofs.changing.change_in.Goals.{else-changes-via-then-changes+else-all_moves, else-changes-via-else-changes}
use Rattle.stmt_walker.proofs.changing.change_in.Goals as goal

pub returns-in_default : goal.returns-in_default
returns-in_default c = λ types call. value_alone types call c.args.e.now c.in_default.not-Postfix

pub returns-in_err-variable : goal.returns-in_err-variable
returns-in_err-variable c = λ types call. subst (Found types call c.args.e.now) (sym c.from_residual.ensures) (value_unplaced types call c.args.e.now c.in-Postfix.first c.in-Postfix.steps c.in-Postfix.is (subst (λ x. Roots types call x None) c.get.ensures (c.in_err-variable.ensures types call)))

pub returns-in_err-last : goal.returns-in_err-last
returns-in_err-last c = λ types call. subst (Found types call c.args.e.now) (sym c.from_residual-in_err-last.ensures) (value_stepless types call c.args.e.now c.in-Postfix.first c.in-Postfix.steps c.in-Postfix.is (ap length (sym c.as_slice.ensures) ∙ c.in_err-last.ensures.cases))

pub returns-in_default-node : goal.returns-in_default-node
returns-in_default-node c = λ types call. value_reached types call c.args.e.now c.in-Postfix.first c.in-Postfix.steps c.in_ok-last.before.now c.in_ok-last.last.now c.in-Postfix.is (sym c.as_slice.ensures ∙ c.in_ok-last.ensures.cases.0) c.in_default-node.not-Method

pub returns-then-all_moves : goal.returns-then-all_moves
returns-then-all_moves c = λ types call. change_found types call c.args.e.now c.in-Postfix.first c.in-Postfix.steps c.in_ok-last.last.now c.in-Method.arguments _ c.in-Postfix.is (sym c.as_slice.ensures ∙ c.in_ok-last.ensures.cases.0) c.in-Method.is c.get-then-all_moves.ensures refl (subst (λ x. Roots types call x (Some c.in_ok-variable.variable)) c.get.ensures (c.in_ok-variable.ensures types call)) (cc) (cc)

pub returns-else-changes : goal.returns-else-changes
returns-else-changes c = λ types call. elim c.else-changes.branch [ else-changes-via-then-changes+else-all_moves w ↦ value_behind types call c.args.e.now c.in-Postfix.first c.in-Postfix.steps c.in_ok-last.before.now c.in_ok-last.last.now c.in-Postfix.is (sym c.as_slice.ensures ∙ c.in_ok-last.ensures.cases.0) c.in-Method.method c.in-Method.arguments c.in-Method.is (cc) | else-changes-via-else-changes w ↦ value_called types call c.args.e.now c.in-Postfix.first c.in-Postfix.steps c.in_ok-last.before.now c.in_ok-last.last.now c.in-Postfix.is (sym c.as_slice.ensures ∙ c.in_ok-last.ensures.cases.0) c.in-Method.method c.in-Method.arguments c.in-Method.is (cc) ]
