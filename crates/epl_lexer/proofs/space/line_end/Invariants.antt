use Rattle.std.proofs.Common.{◌≡◌, ◌-◌, ◌<◌, ◌≤◌, ℕ, false, length}
use Rattle.grammar_forms.specs.Rule.{has}
use Rattle.epl_lexer.specs.Bytes.{row_of, newline}
use Rattle.epl_lexer.proofs.space.line_end.Given as goal

abbrev pub invariant-bytes : goal.invariant-bytes
invariant-bytes l =
    (l.from ≤ l.at) × (l.at ≤ length l.text) × ((i : ℕ) → l.from ≤ i → i < l.at → has (row_of l.text) newline i ≡ false)

abbrev pub decreases-bytes : goal.decreases-bytes
decreases-bytes l = length l.text - l.at
