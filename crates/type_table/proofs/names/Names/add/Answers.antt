use Rattle.std.proofs.Common.{◌∙◌, ap, string_bytes, map}
use Rattle.type_table.proofs.Places.{names-put_in}
use Rattle.type_table.proofs.names.Names.add.Goals as goal

pub returns-clause-ok : goal.returns-clause-ok
returns-clause-ok c = rw (← c.self.view_is) (ap (map string_bytes) c.in_ok-insert_full.ensures.keys ∙ names-put_in string_bytes c.self.inside.set.keys c.args.name)
