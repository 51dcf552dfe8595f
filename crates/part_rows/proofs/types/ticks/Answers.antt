use Rattle.evt_text.proofs.FewTypes.{one-type}
use Rattle.part_rows.proofs.types.ticks.Goals as goal

pub returns : goal.returns
returns c = rw (c.in_ok-push.ensures.ok, c.new-types.ensures) (one-type c.in_ok-tick.field-0 c.in_ok-tick.ensures.name c.in_ok-tick.ensures.fields)
