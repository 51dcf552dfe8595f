use Rattle.std.proofs.Common.{◌≡◌, ◌-◌, ◌≤◌, length}
use Rattle.grammar_forms.specs.Reader.{run_end}
use Rattle.epl_lexer.specs.Bytes.{row_of}
use Rattle.epl_lexer.specs.Classes.{set_of}
use Rattle.epl_lexer.proofs.bytes.past.Given as goal

abbrev pub invariant-bytes : goal.invariant-bytes
invariant-bytes l =
    (run_end (row_of l.text) (set_of l.class) (length l.text - l.from) l.from ≡ run_end (row_of l.text) (set_of l.class) (length l.text - l.at) l.at)
    × (l.from ≤ l.at) × (l.at ≤ length l.text)

abbrev pub decreases-bytes : goal.decreases-bytes
decreases-bytes l = length l.text - l.at
