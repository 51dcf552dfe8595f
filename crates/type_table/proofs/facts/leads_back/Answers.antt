use Rattle.std.proofs.Common.{◌∙◌}
use Rattle.type_table.specs.Kinds.{trees}
use Rattle.type_table.proofs.Deep.{itself_read}
use Rattle.type_table.proofs.facts.leads_back.Goals as goal

pub returns : goal.returns
returns c = c.entry.ensures ∙ itself_read (trees c.args.kinds.now.decls.items) c.args.kinds.now.names c.args.kinds.now.named c.args.name.now _ _ _ c.as_slice.ensures.value c.number_of.ensures c.in_ok-table.ensures
