use Rattle.std.proofs.Common.{◌≡◌, ◌+◌, length, drop}
use Rattle.evt_text.specs.Reading.{plain_front}
use Rattle.evt_text.proofs.scanner.plain_len.Given as goal

abbrev pub invariant-loop-at : goal.invariant-loop-at
invariant-loop-at l = l.at + length (plain_front (drop l.at l.text)) ≡ length (plain_front l.text)
