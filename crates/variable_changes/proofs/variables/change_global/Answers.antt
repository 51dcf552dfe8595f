use Rattle.std.proofs.Common.{arith}
use Rattle.epl_values.specs.declared.value.Value.TheVariants as value
use Rattle.variable_changes.specs.Changes.{does_at}
use Rattle.path_bases.proofs.Lent.{order_left}
use Rattle.variable_changes.proofs.Replaced.{value_left, missing_left}
use Rattle.variable_changes.proofs.variables.change_global.Goals as goal

pub returns-then-at-len-clause-done : goal.returns-then-at-len-clause-done
returns-then-at-len-clause-done c = value_left c.make-result.result c.args.globals.now c.set-value.new.self c.set-hole.new.self c.args.number c.set-value.result value.NoContext c.make-result.new.value (does_at c.args.moves c.args.done) c.set-value.ensures.old c.set-value.ensures.new c.set-hole.ensures.new c.make-result.ensures.done

pub returns-then-at-len-clause-order : goal.returns-then-at-len-clause-order
returns-then-at-len-clause-order c = order_left c.args.globals.now c.set-value.new.self c.set-hole.new.self c.args.number value.NoContext c.make-result.new.value c.set-value.ensures.new c.set-hole.ensures.new c.requires.whole c.make-result.ensures.order

pub returns-else-at-len-clause-done : goal.returns-else-at-len-clause-done
returns-else-at-len-clause-done c = missing_left c.change_none.result c.args.globals.now c.args.number c.change_none.ensures.0 (does_at c.args.moves c.args.done) (omega arith) c.change_none.ensures.1
