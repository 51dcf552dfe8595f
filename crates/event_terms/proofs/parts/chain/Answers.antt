use Rattle.std.proofs.Common.{map, sym, ap, ◌∙◌}
use Rattle.term_meaning.specs.Patterns.{chained, operand_of}
use Rattle.event_terms.proofs.Chains.{chain_last}
use Rattle.event_terms.proofs.parts.chain.Goals as goal

pub returns-in-Some : goal.returns-in-Some
returns-in-Some c =
    c.joined.ensures
    ∙ sym (chain_last c.args.part.link c.args.part.first.now c.in-Some.before.now c.in-Some.last.now)
    ∙ ap (λ ts. (chained c.args.part.link (operand_of c.args.part.first.now) (map operand_of ts)).pattern) (sym c.in-Some.ensures.cases.0)
