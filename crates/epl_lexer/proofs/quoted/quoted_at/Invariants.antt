use Rattle.std.proofs.Common.{◌+◌, ◌-◌, ◌<◌, ◌≤◌, length}
use Rattle.std.specs.Str.{IsCharBoundary}
use Rattle.grammar_forms.specs.Rule.{Many}
use Rattle.epl_lexer.specs.Spelling.{IsCharacter}
use Rattle.epl_lexer.proofs.quoted.quoted_at.Given as goal

abbrev pub invariant-pieces : goal.invariant-pieces
invariant-pieces l =
    Many (IsCharacter l.text) l.value (l.at + 1) l.from × IsCharBoundary l.text l.from × (l.at < l.from) × (l.from ≤ length l.text)

abbrev pub decreases-pieces : goal.decreases-pieces
decreases-pieces l = length l.text - l.from
