use Rattle.std.proofs.Common.{◌-◌, ◌≤◌, length}
use Rattle.epl_lexer.specs.Spelling.{IsGap}
use Rattle.epl_lexer.proofs.space.gap_end.Given as goal

abbrev pub invariant-spaces : goal.invariant-spaces
invariant-spaces l = IsGap l.text l.from l.at × (l.from ≤ l.at) × (l.at ≤ length l.text)

abbrev pub decreases-spaces : goal.decreases-spaces
decreases-spaces l = length l.text - l.at
