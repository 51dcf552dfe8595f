use Rattle.std.proofs.Common.{◌∙◌}
use Rattle.type_table.specs.Kinds.{trees}
use Rattle.type_table.proofs.Deep.{count_read}
use Rattle.type_table.proofs.facts.fields_of.Goals as goal

pub returns : goal.returns
returns c = c.count.ensures ∙ count_read (trees c.args.kinds.now.decls.items) c.args.kinds.now.names c.args.kinds.now.named c.args.depths.now _ c.args.written.now c.as_slice.ensures.value c.requires
