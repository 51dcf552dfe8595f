-- Event expressions that stand alone, read from left to right.
use Rattle.std.specs.Prelude.{List}
use Rattle.grammar_forms.specs.Reader.{Reader}
use Rattle.epl_lexer.specs.declared.token.Token.{Token}
use Rattle.epl_tree.specs.declared.event.EventExpr.{EventExpr}
use Rattle.event_parser.specs.declared.part.EventPart.TheVariants as part
use Rattle.event_parser.specs.Reading.{event_at}

-- The longest event expression at a place.
unfoldable pub event : List Token → Reader EventExpr
event tokens at = event_at tokens 200 part.Whole at
