use Rattle.evt_reader.proofs.Meanings.{name_front-take}
use Rattle.evt_reader.proofs.events.type_in_front.Goals as goal

pub returns : goal.returns
returns c = rw (c.name_len.ensures.count, c.as_bytes.ensures.value, name_front-take) at c.type_of.ensures
