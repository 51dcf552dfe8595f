-- Spans: which values of a field fit, as an interval for each field of the event type.
use Rattle.term_meaning.specs.Common.{ℕ, ℤ, Bool, true, false, not, List, [], map, Option, Some, None, slice_get, slice_set, Value, Value-F, out-Value, Constraint, ConstraintNode, TemplateShape, Span, TextEnd, Computed, Binding}
use Rattle.std.specs.Prelude.{◌∷◌, ◌&&◌, ◌+ℤ◌, ◌-ℤ◌, pos, negsuc, int_le, if◌then◌else◌}
use Rattle.std.specs.List.{list_all, zip}
use Rattle.std.specs.Ordering.{nat_cmp}
use Rattle.std.specs.Cmp.Lexicographic.{slice_cmp}
use Rattle.std.specs.declared.cmp.Ordering.{Ordering}
use Rattle.std.specs.declared.cmp.Ordering.TheVariants.{Less, Equal, Greater}
use Rattle.epl_tree.specs.declared.expression.Comparison.{Comparison}
use Rattle.epl_tree.specs.declared.expression.Comparison.TheVariants as comparison
use Rattle.epl_values.specs.declared.value.Value.TheOpen as value
use Rattle.epl_values.specs.declared.value.Pair.{Pair}
use Rattle.event_types.specs.Types.{fields_of}
use Rattle.typed_program.specs.declared.term.ConstraintNode.TheVariants as constraint
use Rattle.typed_program.specs.TermRules.{asks}
use Rattle.term_meaning.specs.declared.leaf.Computed.TheVariants.{Number, Truth, Letters, Missing}
use Rattle.term_meaning.specs.declared.leaf.Span.TheVariants as span
use Rattle.term_meaning.specs.Operands.{Setting, operand_value}

-- ---- what fits a span

-- whether an end lets through what compares with it so
abbrev pub lets : Bool → Ordering → Bool
lets closed Less = true
lets closed Equal = closed
lets closed Greater = false

abbrev pub above : Option TextEnd → List ℕ → Bool
above None text = true
above (Some end) text = lets end.closed (slice_cmp nat_cmp end.text text)

abbrev pub below : Option TextEnd → List ℕ → Bool
below None text = true
below (Some end) text = lets end.closed (slice_cmp nat_cmp text end.text)

abbrev pub agrees : Bool → Bool → Bool
agrees true c = c
agrees false c = not c

abbrev pub within : ℤ → ℤ → ℤ → Bool
within low high n = int_le low n && int_le n high

-- a value of another kind than its span fits only `All`
abbrev pub span_holds : Span → Value-F Value Pair → Bool
span_holds span.All v = true
span_holds (span.Numbers low high) (value.Integer n) = within low high n
span_holds (span.Is b) (value.Boolean c) = agrees b c
span_holds (span.Texts range) (value.Text text) = above range.low text && below range.high text
span_holds s v = false

unfoldable pub span_fits : Span → Value → Bool
span_fits s v = span_holds s (out-Value v)

-- each value fits the span at its place
abbrev pub spans_fit : List Span → List Value → Bool
spans_fit spans values = list_all (λ p. span_fits p.0 p.1) (zip spans values)

-- ---- the span of a constraint

-- one end, or none
abbrev pub ends_at : Bool → List ℕ → Option TextEnd
ends_at closed text = Some (record { text = text; closed = closed })

abbrev pub exactly : Computed → Span
exactly (Number n) = span.Numbers n n
exactly (Truth b) = span.Is b
exactly (Letters text) = span.Texts (record { low = ends_at true text; high = ends_at true text })
exactly Missing = span.None

-- the first whole number past an end, and the last before one
abbrev pub low_number : Bool → ℤ → ℤ
low_number closed n = if closed then n else (n +ℤ pos 1)

abbrev pub high_number : Bool → ℤ → ℤ
high_number closed n = if closed then n else (n -ℤ pos 1)

-- a number has 64 bits, so a span without an upper end goes to the greatest of these
abbrev pub from_low : Bool → Computed → Span
from_low closed (Number n) = span.Numbers (low_number closed n) (pos 9223372036854775807)
from_low closed (Letters text) = span.Texts (record { low = ends_at closed text; high = None })
from_low closed c = span.None

abbrev pub to_high : Bool → Computed → Span
to_high closed (Number n) = span.Numbers (negsuc 9223372036854775807) (high_number closed n)
to_high closed (Letters text) = span.Texts (record { low = None; high = ends_at closed text })
to_high closed c = span.None

abbrev pub from_to : Bool → Computed → Bool → Computed → Span
from_to a (Number m) b (Number n) = span.Numbers (low_number a m) (high_number b n)
from_to a (Letters s) b (Letters t) = span.Texts (record { low = ends_at a s; high = ends_at b t })
from_to a c b d = span.None

-- no constraint is written with `!=`
abbrev pub compared : Comparison → Computed → Span
compared comparison.Equal c = exactly c
compared comparison.NotEqual c = span.None
compared comparison.Less c = to_high false c
compared comparison.LessEqual c = to_high true c
compared comparison.Greater c = from_low false c
compared comparison.GreaterEqual c = from_low true c

abbrev pub span_of : Setting → List Binding → ConstraintNode → Span
span_of s seen constraint.Any = span.All
span_of s seen (constraint.Compares c o) = compared c (operand_value s seen o)
span_of s seen (constraint.Lies range) = from_to range.low.closed (operand_value s seen range.low.bound) range.high.closed (operand_value s seen range.high.bound)

-- ---- the spans of a template

-- what a constraint asks stands at its field
abbrev pub narrowed : Setting → List Binding → List Span → Constraint → List Span
narrowed s seen spans c = if asks c.node then slice_set spans c.field (span_of s seen c.node) else spans

abbrev pub narrowed_by : Setting → List Binding → List Span → List Constraint → List Span
narrowed_by s seen spans [] = spans
narrowed_by s seen spans (c ∷ cs) = narrowed_by s seen (narrowed s seen spans c) cs

-- every field is free, but for those that a constraint asks of
abbrev pub template_spans : Setting → List Binding → TemplateShape → List Span
template_spans s seen t = narrowed_by s seen (map (λ field. span.All) (fields_of (slice_get s.types t.event))) t.constraints
