use Rattle.value_steps.proofs.Parted.{dictionary_keys}
use Rattle.walk_methods.proofs.methods.has.Goals as goal

pub has_key-requires : goal.has_key-requires
has_key-requires c = dictionary_keys c.args.value.now c.in-Dictionary.pairs c.in-Dictionary.is c.requires
