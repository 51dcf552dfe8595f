use Rattle.std.proofs.Common.{arith}
use Rattle.epl_values.specs.Order.{KeysAscend}
use Rattle.value_steps.proofs.Parted.{dictionary_keys}
use Rattle.value_steps.proofs.changes.add.Goals as goal

pub put_entry-requires : goal.put_entry-requires
put_entry-requires c =
    let known : KeysAscend c.in-Dictionary.pairs = dictionary_keys c.args.value.now c.in-Dictionary.pairs c.in-Dictionary.is c.requires in
    rw c.in-Dictionary.pairs-is known
