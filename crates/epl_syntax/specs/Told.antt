-- What the answer of a parser says of a file's tokens.
use Rattle.std.specs.Prelude.{◌≡◌, ⊤, List, Result, Ok, Err}
use Rattle.epl_lexer.specs.declared.token.Token.{Token}
use Rattle.epl_tree.specs.declared.unit.Unit.{Unit as ProgramFile}
use Rattle.decl_parser.specs.Units.{IsUnit}
use Rattle.decl_parser.specs.Pieces.{IsFault}
use Rattle.epl_syntax.specs.declared.fault.ParseFault.{ParseFault}
use Rattle.epl_syntax.specs.declared.fault.ParseFault.TheVariants.{Syntax, Memory}

module _ (tokens : List Token) where
  -- What the answer says of the tokens: their only tree, or where they have none and that they have none. Want of memory is free.
  abbrev pub TellsUnit : Result ProgramFile ParseFault → Type 0
  TellsUnit (Ok unit) = IsUnit tokens unit × ((other : ProgramFile) → IsUnit tokens other → other ≡ unit)
  TellsUnit (Err (Syntax spot)) = IsFault tokens spot × ((other : ProgramFile) → IsUnit tokens other → ⊥)
  TellsUnit (Err Memory) = ⊤
