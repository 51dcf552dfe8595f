use Rattle.std.proofs.Common.{arith}
use Rattle.epl_values.specs.declared.value.Value.TheVariants as value
use Rattle.variable_changes.specs.Changes.{does_at}
use Rattle.path_bases.specs.Locals.{values_in}
use Rattle.path_bases.proofs.Lent.{order_left, values_set}
use Rattle.variable_changes.proofs.Replaced.{value_left, missing_left, values_beyond}
use Rattle.variable_changes.proofs.variables.change_local.Goals as goal

pub returns-in_ok-value-clause-done : goal.returns-in_ok-value-clause-done
returns-in_ok-value-clause-done c = value_left c.make-result.result (values_in c.args.locals.now) (values_in c.take_local.new.locals) (values_in c.set-hole.new.self) c.args.number c.in_ok-value.value value.NoContext c.make-result.new.value (does_at c.args.moves c.args.done) c.in_ok-value.ensures.value c.in_ok-value.ensures.left (values_set c.take_local.new.locals c.set-hole.new.self c.args.number c.make-result.new.value c.set-hole.ensures.new) c.make-result.ensures.done

pub returns-in_ok-value-clause-order : goal.returns-in_ok-value-clause-order
returns-in_ok-value-clause-order c = order_left (values_in c.args.locals.now) (values_in c.take_local.new.locals) (values_in c.set-hole.new.self) c.args.number value.NoContext c.make-result.new.value c.in_ok-value.ensures.left (values_set c.take_local.new.locals c.set-hole.new.self c.args.number c.make-result.new.value c.set-hole.ensures.new) c.requires.whole c.make-result.ensures.order

pub returns-else-at-len-clause-done : goal.returns-else-at-len-clause-done
returns-else-at-len-clause-done c = missing_left c.change_none.result (values_in c.args.locals.now) c.args.number c.change_none.ensures.0 (does_at c.args.moves c.args.done) (values_beyond c.args.locals.now c.args.number (omega arith)) c.change_none.ensures.1
