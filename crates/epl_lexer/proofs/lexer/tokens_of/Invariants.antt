use Rattle.std.proofs.Common.{◌≡◌, ◌-◌, ◌≤◌, length}
use Rattle.epl_lexer.specs.Spelling.{NoSpace}
use Rattle.epl_lexer.specs.Tokens.{Lexes, start_of, spot_of}
use Rattle.epl_lexer.proofs.lexer.tokens_of.Given as goal

abbrev pub invariant-tokens : goal.invariant-tokens
invariant-tokens l =
    Lexes l.text l.tokens (start_of l.text) l.at × NoSpace l.text l.at × (l.spot ≡ spot_of l.text l.at) × (start_of l.text ≤ l.at) × (l.at ≤ length l.text)

abbrev pub decreases-tokens : goal.decreases-tokens
decreases-tokens l = length l.text - l.at
