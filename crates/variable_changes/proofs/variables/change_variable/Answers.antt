use Rattle.variable_changes.specs.Changes.{does_at}
use Rattle.path_bases.specs.Locals.{values_in}
use Rattle.variable_changes.proofs.Replaced.{changed_global, changed_local}
use Rattle.variable_changes.proofs.variables.change_variable.Goals as goal

pub returns-in-Global-clause-means : goal.returns-in-Global-clause-means
returns-in-Global-clause-means c = λ told. changed_global c.args.variable c.in-Global.number (does_at c.args.moves c.args.done) told c.change_global.new.globals c.args.globals.now (values_in c.args.locals.now) c.change_global.result c.stopped.result c.in-Global.is c.stopped.ensures c.change_global.ensures.done

pub returns-in-Local-clause-means : goal.returns-in-Local-clause-means
returns-in-Local-clause-means c = λ told. changed_local c.args.variable c.in-Local.number (does_at c.args.moves c.args.done) told c.args.globals.now (values_in c.change_local.new.locals) (values_in c.args.locals.now) c.change_local.result c.stopped-in-Local.result c.in-Local.is c.stopped-in-Local.ensures c.change_local.ensures.done
