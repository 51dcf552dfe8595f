use Rattle.std.proofs.Common.{◌≡◌, drop}
use Rattle.term_meaning.specs.Spans.{narrowed_by, template_spans}
use Rattle.term_meaning.specs.UnderWay.{setting_of}
use Rattle.term_operands.proofs.operands.Origin.spans.Given as goal

abbrev pub invariant-constraints : goal.invariant-constraints
invariant-constraints l =
    narrowed_by (setting_of l.fn.self.types.now l.fn.self.site.now l.fn.self.operands.now l.fn.self.time) l.seen l.spans (drop l.constraint-index l.fn.template.constraints)
    ≡ template_spans (setting_of l.fn.self.types.now l.fn.self.site.now l.fn.self.operands.now l.fn.self.time) l.seen l.fn.template
