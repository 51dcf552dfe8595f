use Rattle.slot_arena.proofs.Over.{stays_over}
use Rattle.slot_arena.proofs.laws.keys_never_come_again.Goals as goal

pub returns : goal.returns
returns g c = λ key first later over leads. stays_over key first later over leads
