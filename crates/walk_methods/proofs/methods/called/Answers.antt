use Rattle.std.proofs.Common.{[], sym, subst}
use Rattle.typed_program.specs.declared.expression.Method.TheVariants as method
use Rattle.value_steps.specs.Orderly.{IsOrderly}
use Rattle.value_steps.proofs.Called.{integer_orderly, truth_orderly}
use Rattle.walk_rules.proofs.Running.{walks_as}
use Rattle.walk_methods.proofs.Costing.{called_as, called_lost, quit_orderly, walks_pure_as}
use Rattle.walk_methods.proofs.methods.called.Goals as goal

pub returns-in-ToString-clause-means : goal.returns-in-ToString-clause-means
returns-in-ToString-clause-means g c = λ frame. called_as c.args.types.now c.args.method method.ToString c.args.value.now c.args.arguments c.in-ToString.is (c.spelled.ensures.means frame)

pub returns-in-Length-clause-means : goal.returns-in-Length-clause-means
returns-in-Length-clause-means g c = λ frame. called_as c.args.types.now c.args.method method.Length c.args.value.now c.args.arguments c.in-Length.is (walks_pure_as _ c.length_of.result _ frame c.length_of.ensures)

pub returns-in-Length-clause-order : goal.returns-in-Length-clause-order
returns-in-Length-clause-order g c = subst IsOrderly (sym c.length_of.ensures) (integer_orderly _)

pub returns-in-Substring-clause-means : goal.returns-in-Substring-clause-means
returns-in-Substring-clause-means g c = λ frame. called_as c.args.types.now c.args.method method.Substring c.args.value.now c.args.arguments c.in-Substring.is (c.cut.ensures.means frame)

pub returns-in-Size-clause-means : goal.returns-in-Size-clause-means
returns-in-Size-clause-means g c = λ frame. called_as c.args.types.now c.args.method method.Size c.args.value.now c.args.arguments c.in-Size.is (walks_pure_as _ c.size_of.result _ frame c.size_of.ensures)

pub returns-in-Size-clause-order : goal.returns-in-Size-clause-order
returns-in-Size-clause-order g c = subst IsOrderly (sym c.size_of.ensures) (integer_orderly _)

pub returns-in-IndexOf-clause-means : goal.returns-in-IndexOf-clause-means
returns-in-IndexOf-clause-means g c = λ frame. called_as c.args.types.now c.args.method method.IndexOf c.args.value.now c.args.arguments c.in-IndexOf.is (c.placed.ensures.means frame)

pub returns-in-HasKey-clause-means : goal.returns-in-HasKey-clause-means
returns-in-HasKey-clause-means g c = λ frame. called_as c.args.types.now c.args.method method.HasKey c.args.value.now c.args.arguments c.in-HasKey.is (walks_pure_as _ c.has.result _ frame c.has.ensures)

pub returns-in-HasKey-clause-order : goal.returns-in-HasKey-clause-order
returns-in-HasKey-clause-order g c = subst IsOrderly (sym c.has.ensures) (truth_orderly _)

pub returns-in-Keys-clause-means : goal.returns-in-Keys-clause-means
returns-in-Keys-clause-means g c = λ frame. called_as c.args.types.now c.args.method method.Keys c.args.value.now c.args.arguments c.in-Keys.is (c.keys.ensures.means frame)

pub returns-in-Clone-clause-means : goal.returns-in-Clone-clause-means
returns-in-Clone-clause-means g c = λ frame. called_as c.args.types.now c.args.method method.Clone c.args.value.now c.args.arguments c.in-Clone.is (c.cloned.ensures.means frame)

pub returns-in-Quit-clause-means : goal.returns-in-Quit-clause-means
returns-in-Quit-clause-means g c = λ frame. called_as c.args.types.now c.args.method method.Quit c.args.value.now c.args.arguments c.in-Quit.is (c.quit.ensures frame)

pub returns-in-Quit-clause-order : goal.returns-in-Quit-clause-order
returns-in-Quit-clause-order g c = quit_orderly c.args.value.now _ _ (record { globals = []; locals = [] }) c.quit.result (c.quit.ensures (record { globals = []; locals = [] }))

pub returns-in_default-clause-means : goal.returns-in_default-clause-means
returns-in_default-clause-means g c = λ frame. walks_as (called_lost c.args.types.now c.args.method c.args.value.now c.args.arguments c.in_default.not-ToString c.in_default.not-Length c.in_default.not-Substring c.in_default.not-Size c.in_default.not-IndexOf c.in_default.not-HasKey c.in_default.not-Keys c.in_default.not-Clone c.in_default.not-Quit) (c.lost.ensures.means _ frame)
