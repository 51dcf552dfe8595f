use Rattle.std.proofs.Common.{sym, ◌∙◌}
use Rattle.walk_rules.proofs.Running.{walks_err, walks_given, walks_given_err}
use Rattle.walk_methods.proofs.Costing.{operate_text, operate_number, calculated_orderly}
use Rattle.walk_methods.proofs.operators.operate.Goals as goal

pub returns-then-is_text-clause-means : goal.returns-then-is_text-clause-means
returns-then-is_text-clause-means g c = λ frame. operate_text c.args.operator c.args.left.now c.args.right.now (sym c.if-is_text.true ∙ c.is_text.ensures) (c.join.ensures.means frame)

pub returns-in_err-calculated-clause-means : goal.returns-in_err-calculated-clause-means
returns-in_err-calculated-clause-means g c = λ frame. operate_number c.args.operator c.args.left.now c.args.right.now (sym c.if-is_text.false ∙ c.is_text.ensures) (walks_err _ c.from_residual.ensures.1 (walks_given_err _ frame c.in_err-calculated.ensures))

pub returns-in_ok-calculated-clause-means : goal.returns-in_ok-calculated-clause-means
returns-in_ok-calculated-clause-means g c = λ frame. operate_number c.args.operator c.args.left.now c.args.right.now (sym c.if-is_text.false ∙ c.is_text.ensures) (walks_given _ frame c.in_ok-calculated.ensures)

pub returns-in_ok-calculated-clause-order : goal.returns-in_ok-calculated-clause-order
returns-in_ok-calculated-clause-order g c = calculated_orderly c.args.operator c.args.left.now c.args.right.now _ (sym c.in_ok-calculated.ensures)
