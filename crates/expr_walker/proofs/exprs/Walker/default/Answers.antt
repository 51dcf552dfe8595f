use Rattle.std.proofs.Common.{sym, subst}
use Rattle.value_steps.specs.Orderly.{IsOrderly}
use Rattle.value_steps.proofs.Called.{none_orderly}
use Rattle.expr_walker.proofs.Orders.{default_orderly}
use Rattle.expr_walker.proofs.exprs.Walker.default.Goals as goal

pub returns-in_ok-default_of-in-Some-clause-order : goal.returns-in_ok-default_of-in-Some-clause-order
returns-in_ok-default_of-in-Some-clause-order g c = subst IsOrderly (sym c.in_ok-default_of-in-Some.ensures) (default_orderly c.args.self.now.program.now.types c.in-Some.shape)

pub returns-in-None-clause-order : goal.returns-in-None-clause-order
returns-in-None-clause-order g c = none_orderly
