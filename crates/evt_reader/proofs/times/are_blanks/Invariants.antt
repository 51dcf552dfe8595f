use Rattle.std.proofs.Common.{◌≡◌, drop}
use Rattle.evt_reader.specs.Steps.{are_blanks}
use Rattle.evt_reader.proofs.times.are_blanks.Given as goal

abbrev pub invariant-loop-byte : goal.invariant-loop-byte
invariant-loop-byte l = are_blanks (drop l.byte-index l.bytes) ≡ are_blanks l.bytes
