use Rattle.std.proofs.Common.{subst}
use Rattle.stmt_walker.specs.Roots.{Roots}
use Rattle.stmt_walker.proofs.Placed.{root_global, root_local, root_further, root_methods, placeless_alone}
use Rattle.stmt_walker.proofs.changing.+path_root.Goals as goal

pub returns-in-Global : goal.returns-in-Global
returns-in-Global t c = λ types call. root_global types call c.args.e.now c.in-Global.n c.in-Global.is

pub returns-in-Local : goal.returns-in-Local
returns-in-Local t c = λ types call. root_local types call c.args.e.now c.in-Local.n c.in-Local.is

pub returns-then-all_moves : goal.returns-then-all_moves
returns-then-all_moves t c = λ types call. root_further types call c.args.e.now c.in-Postfix.first c.in-Postfix.steps c.path_root.result c.in-Postfix.is (cc) (subst (λ x. Roots types call x c.path_root.result) (c.get.ensures) (c.path_root.ensures types call))

pub returns-else-all_moves : goal.returns-else-all_moves
returns-else-all_moves t c = λ types call. root_methods types call c.args.e.now c.in-Postfix.first c.in-Postfix.steps c.in-Postfix.is (cc)

pub returns-in_default : goal.returns-in_default
returns-in_default t c = λ types call. placeless_alone types call c.args.e.now c.in_default.not-Postfix c.in_default.not-Global c.in_default.not-Local
