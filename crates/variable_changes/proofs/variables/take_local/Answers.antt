use Rattle.std.proofs.Common.{Some, refl, sym, ap, ◌∙◌}
use Rattle.epl_values.specs.declared.value.Value.TheVariants as value
use Rattle.path_bases.specs.declared.locals.Got.TheVariants as got
use Rattle.path_bases.specs.Locals.{got_value}
use Rattle.path_bases.proofs.Lent.{get_mapped, values_back, values_set}
use Rattle.variable_changes.proofs.variables.take_local.Goals as goal

pub returns-in-Own-clause-left : goal.returns-in-Own-clause-left
returns-in-Own-clause-left c = values_set c.args.locals.now c.set.new.self c.args.at value.NoContext c.set.ensures.new

pub returns-in-Ok-clause-value : goal.returns-in-Ok-clause-value
returns-in-Ok-clause-value c = get_mapped got_value c.args.locals.now c.args.at (got.Lent c.in-Lent.value) c.in-Lent.ensures.old ∙ ap Some (sym c.in-Ok.ensures)

pub returns-in-Ok-clause-left : goal.returns-in-Ok-clause-left
returns-in-Ok-clause-left c = values_set c.args.locals.now c.set.new.self c.args.at value.NoContext c.set.ensures.new

pub returns-in-Err-clause-err : goal.returns-in-Err-clause-err
returns-in-Err-clause-err c = values_back c.args.locals.now c.set.new.self c.set-hole.new.self c.args.at (got.Lent c.in-Lent.value) (got.Own value.NoContext) (got.Lent c.in-Lent.value) c.in-Lent.ensures.old c.set.ensures.new c.set-hole.ensures.new refl
