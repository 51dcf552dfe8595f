use Rattle.path_bases.proofs.Lent.{values_set, set_orderly}
use Rattle.path_bases.specs.Locals.{values_in}
use Rattle.variable_changes.proofs.variables.set_local.Goals as goal

pub returns-then-at-len-clause-is : goal.returns-then-at-len-clause-is
returns-then-at-len-clause-is c = values_set c.args.locals.now c.set-old.new.self c.args.number c.args.value c.set-old.ensures.new

pub returns-then-at-len-clause-kept : goal.returns-then-at-len-clause-kept
returns-then-at-len-clause-kept c = set_orderly (values_in c.args.locals.now) (values_in c.set-old.new.self) c.args.number c.args.value (returns-then-at-len-clause-is c) c.requires.order c.requires.value
