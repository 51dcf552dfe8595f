use Rattle.std.proofs.Common.{sym, ap, ◌∙◌}
use Rattle.std.specs.Option.{option_copied}
use Rattle.term_operands.proofs.Reading.{along_stops}
use Rattle.term_operands.proofs.operands.along.Goals as goal

pub returns-in_default : goal.returns-in_default
returns-in_default c = sym (c.fields.invariant ∙ along_stops c.args.fields.now c.fields.field-index c.fields.at.now c.fields-test.true (sym c.field_of.ensures ∙ ap option_copied c.in_default.is))
