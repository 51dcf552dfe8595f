use Rattle.std.proofs.Common.{refl}
use Rattle.value_steps.proofs.Left.{without_found, without_missing}
use Rattle.value_steps.proofs.entries.remove_entry.Goals as goal

pub returns-in-Ok : goal.returns-in-Ok
returns-in-Ok c = without_found c.args.key.now c.args.pairs.now c.remove-old.new.self c.in-Ok.at c.remove-old.result c.requires c.in-Ok.ensures.value c.remove-old.ensures.item c.remove-old.ensures.rest

pub returns-in-Err : goal.returns-in-Err
returns-in-Err c = (without_missing c.args.key.now c.args.pairs.now c.in-Err.field-0 c.requires c.in-Err.ensures.value, refl)
