use Rattle.std.proofs.Common.{◌≡◌, ◌+◌, length, drop}
use Rattle.evt_reader.specs.Steps.{name_front}
use Rattle.evt_reader.proofs.events.name_len.Given as goal

abbrev pub invariant-loop-at : goal.invariant-loop-at
invariant-loop-at l = l.at + length (name_front (drop l.at l.text)) ≡ length (name_front l.text)
