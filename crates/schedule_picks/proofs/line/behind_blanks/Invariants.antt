use Rattle.std.proofs.Common.{◌≡◌, length}
use Rattle.schedule_picks.specs.Picks.{words_of}
use Rattle.schedule_picks.proofs.line.behind_blanks.Given as goal

abbrev pub invariant-blanks : goal.invariant-blanks
invariant-blanks l = words_of l.text ≡ words_of l.rest

abbrev pub decreases-blanks : goal.decreases-blanks
decreases-blanks l = length l.rest
