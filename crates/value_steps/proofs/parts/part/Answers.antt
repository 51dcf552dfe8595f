use Rattle.value_steps.proofs.Parted.{dictionary_keys}
use Rattle.value_steps.proofs.parts.part.Goals as goal

pub at_entry-requires : goal.at_entry-requires
at_entry-requires c = dictionary_keys c.args.value.now c.in-Key-Dictionary.pairs c.in-Key-Dictionary.is-1 c.requires
