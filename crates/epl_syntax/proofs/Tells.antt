-- What the answer says of the tokens.
use Rattle.std.proofs.Common.{◌≡◌, ℕ, List, length, Some, None, sym, ap, ◌∙◌, subst}
use Rattle.std.specs.Prelude.{Ok, Err}
use Rattle.epl_lexer.specs.declared.token.Token.{Token}
use Rattle.epl_tree.specs.declared.unit.Unit.{Unit as ProgramFile}
use Rattle.span_text.specs.declared.spot.Spot.{Spot}
use Rattle.epl_syntax.specs.declared.fault.ParseFault.TheVariants.{Syntax}
use Rattle.primary_parser.specs.Tokens.{spot_at}
use Rattle.decl_parser.specs.declared.region.Region.{Region}
use Rattle.decl_parser.specs.declared.region.Region.TheVariants as region
use Rattle.decl_parser.specs.Pieces.{IsFault}
use Rattle.epl_syntax.specs.Told.{TellsUnit}
use Rattle.decl_parser.specs.Declaring.{cut, unit_read}
use Rattle.decl_parser.proofs.Whole.{read_is, only, nowhere}
use Rattle.decl_parser.proofs.Cutting.{fault}

pub tells_unit : (tokens : List Token) (u : ProgramFile) → unit_read tokens ≡ Some u → TellsUnit tokens (Ok u)
tells_unit tokens u e = (read_is tokens u e, λ v h. only tokens u v e h)

pub tells_fault : (tokens : List Token) (x : Region × ℕ) (spot : Spot) → unit_read tokens ≡ None → x ≡ cut tokens (length tokens) region.Outside 0 → spot ≡ spot_at tokens x.1 → TellsUnit tokens (Err (Syntax spot))
tells_fault tokens x spot e c s =
    (subst (IsFault tokens) (ap (λ (y : Region × ℕ). spot_at tokens y.1) (sym c) ∙ sym s) (fault tokens e), λ v h. nowhere tokens v e h)
