use Rattle.std.proofs.Common.{◌≡◌, map, take}
use Rattle.term_meaning.specs.declared.leaf.Span.TheVariants as span
use Rattle.term_operands.proofs.spans.all_free.Given as goal

abbrev pub invariant-fields : goal.invariant-fields
invariant-fields l = l.spans ≡ map (λ field. span.All) (take l._field-index l.fields)
