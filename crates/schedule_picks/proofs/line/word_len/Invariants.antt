use Rattle.std.proofs.Common.{◌≡◌, ◌+◌, drop}
use Rattle.std.specs.List.{position_or_len}
use Rattle.schedule_picks.specs.Picks.{is_blank}
use Rattle.schedule_picks.proofs.line.word_len.Given as goal

abbrev pub invariant-loop-at : goal.invariant-loop-at
invariant-loop-at l = l.at + position_or_len is_blank (drop l.at l.text) ≡ position_or_len is_blank l.text
