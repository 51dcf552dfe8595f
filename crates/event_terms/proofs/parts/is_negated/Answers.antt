use Rattle.std.proofs.Common.{sym, ◌∙◌}
use Rattle.event_terms.proofs.Chains.{never_negated}
use Rattle.event_terms.proofs.parts.is_negated.Goals as goal

pub returns-else-is_empty : goal.returns-else-is_empty
returns-else-is_empty c = c.if-is_empty.false ∙ sym (never_negated c.args.part.link c.args.part.first.now c.args.part.rest.now (sym c.is_empty.ensures ∙ c.if-is_empty.false))
