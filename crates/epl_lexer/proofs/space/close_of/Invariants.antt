use Rattle.std.proofs.Common.{◌≡◌, ◌-◌, ◌<◌, ◌≤◌, ℕ, false, length}
use Rattle.epl_lexer.specs.Spelling.{closes}
use Rattle.epl_lexer.proofs.space.close_of.Given as goal

abbrev pub invariant-bytes : goal.invariant-bytes
invariant-bytes l = (l.from ≤ l.at) × ((i : ℕ) → l.from ≤ i → i < l.at → closes l.text i ≡ false)

abbrev pub decreases-bytes : goal.decreases-bytes
decreases-bytes l = length l.text - l.at
