use Rattle.type_table.specs.Kinds.{trees}
use Rattle.type_table.proofs.Counted.{count_more}
use Rattle.type_table.proofs.checking.counted.Goals as goal

pub returns : goal.returns
returns c = rw c.min.ensures (count_more (trees c.args.facts.kinds.now.decls.items) c.args.before.now c.args.field.now _ _ c.requires.count c.fields_of.ensures)
