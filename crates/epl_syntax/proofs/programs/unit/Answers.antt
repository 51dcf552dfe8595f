use Rattle.std.proofs.Common.{sym, ap, ◌∙◌}
use Rattle.decl_parser.specs.Declaring.{unit_read}
use Rattle.epl_syntax.proofs.Tells.{tells_unit}
use Rattle.epl_syntax.proofs.programs.unit.Goals as goal

pub returns-in-Ok-Some : goal.returns-in-Ok-Some
returns-in-Ok-Some c =
    tells_unit c.args.tokens.now c.in-Ok-Some.unit
    (ap unit_read (sym c.as_slice.ensures) ∙ (sym c.in-Ok-Some.ensures ∙ c.in-Ok-Some.field-0-is))
