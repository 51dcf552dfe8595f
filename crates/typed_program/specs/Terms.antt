-- Event expressions: each template is of an event type that is there, and each of its constraints has operands of its field's
-- shape; durations are integers, and say whether they are tenths; bound names are events.
use Rattle.std.specs.Prelude.{◌&&◌, ◌==◌, ◌∷◌}
use Rattle.typed_program.specs.Common.{ℕ, Bool, true, false, not, List, [], Option, Some, None, slice_get, list_all, Shape, Shape-F, out-Shape, EventShape}
use Rattle.epl_values.specs.declared.shape.Shape.TheVariants as shape
use Rattle.epl_values.specs.declared.shape.Shape.TheOpen as layer
use Rattle.typed_program.specs.declared.term.Term.{Term, Term-F, fold-Term}
use Rattle.typed_program.specs.declared.term.Term.TheOpen as term
use Rattle.typed_program.specs.declared.expression.TypedEntry.{TypedEntry}
use Rattle.typed_program.specs.declared.expression.TypedExpr.{TypedExpr, out-TypedExpr}
use Rattle.typed_program.specs.declared.expression.TypedLink.{TypedLink}
use Rattle.typed_program.specs.declared.expression.TypedNode.{TypedNode, out-TypedNode}
use Rattle.typed_program.specs.declared.expression.TypedNode.TheOpen.{TypedNode-F}
use Rattle.typed_program.specs.declared.expression.TypedSuffix.{TypedSuffix}
use Rattle.typed_program.specs.declared.expression.TypedSuffixNode.{TypedSuffixNode}
use Rattle.typed_program.specs.declared.term.Duration.{Duration}
use Rattle.typed_program.specs.declared.term.TemplateShape.{TemplateShape}
use Rattle.typed_program.specs.declared.term.Constraint.{Constraint}
use Rattle.typed_program.specs.declared.term.ConstraintNode.{ConstraintNode}
use Rattle.typed_program.specs.declared.term.ConstraintNode.TheVariants as constraint
use Rattle.typed_program.specs.declared.term.Operand.{Operand}
use Rattle.typed_program.specs.declared.term.Operand.TheVariants as operand
use Rattle.typed_program.specs.Shapes.{same, is_scalar}
use Rattle.typed_program.specs.Expressions.{if_known, field_shape}

-- a literal of tenths of a second
abbrev pub is_tenths_layer : TypedNode-F TypedNode TypedSuffixNode TypedEntry TypedExpr TypedLink TypedSuffix → Bool
is_tenths_layer (TypedNode-F.Tenths n) = true
is_tenths_layer node = false

unfoldable pub is_tenths : TypedExpr → Bool
is_tenths e = is_tenths_layer (out-TypedNode (out-TypedExpr e).node)

-- what an event expression may name by number: the event types, its site's operands by shape, with whether each is a literal of
-- tenths, and the names that it binds
pub record Around : Type 0 where
  pub types : List EventShape
  pub operands : List (Option Shape)
  pub tenths : List Bool
  pub bound : List Shape

-- the operand of this place is of this shape
abbrev pub given_is : Around → Shape → ℕ → Bool
given_is around s at = if_known (if_known (same s)) (slice_get around.operands at)

abbrev pub field_from : List EventShape → ℕ → Shape-F Shape → Option Shape
field_from types field (layer.Event n) = field_shape types n field
field_from types field s = None

-- the shape that fields reach from an event
abbrev pub reached : List EventShape → Option Shape → List ℕ → Option Shape
reached types s [] = s
reached types None (field ∷ fields) = None
reached types (Some s) (field ∷ fields) = reached types (field_from types field (out-Shape s)) fields

abbrev pub path_is : Around → Shape → ℕ → List ℕ → Bool
path_is around s name fields = if_known (same s) (reached around.types (slice_get around.bound name) fields)

-- a path with an integer more or less is one of integers
abbrev pub shifts : Around → Shape → ℕ → List ℕ → ℕ → Bool
shifts around s name fields by = same s shape.Integer && path_is around s name fields && given_is around shape.Integer by

abbrev pub operand_so : Around → Shape → Operand → Bool
operand_so around s (operand.Given at) = given_is around s at
operand_so around s (operand.Bound name fields) = path_is around s name fields
operand_so around s (operand.BoundPlus name fields by) = shifts around s name fields by
operand_so around s (operand.BoundMinus name fields by) = shifts around s name fields by

abbrev pub node_fits : Around → Shape → ConstraintNode → Bool
node_fits around s constraint.Any = true
node_fits around s (constraint.Compares c o) = operand_so around s o
node_fits around s (constraint.Lies range) = operand_so around s range.low.bound && operand_so around s range.high.bound

abbrev pub constraint_so : Around → ℕ → Constraint → Bool
constraint_so around event c = if_known (λ s. node_fits around s c.node) (field_shape around.types event c.field)

-- a duration's operand is an integer, and is a literal of tenths exactly where the duration says so
abbrev pub as_said : Bool → Bool → Bool
as_said true tenths = tenths
as_said false tenths = not tenths

abbrev pub lasts : Around → Duration → Bool
lasts around d = given_is around shape.Integer d.operand && if_known (as_said d.tenths) (slice_get around.tenths d.operand)

abbrev pub duration_so : Around → Option Duration → Bool
duration_so around None = true
duration_so around (Some d) = lasts around d

abbrev pub binds_so : Around → ℕ → Option ℕ → Bool
binds_so around event None = true
binds_so around event (Some name) = if_known (same (shape.Event event)) (slice_get around.bound name)

abbrev pub is_there : List EventShape → ℕ → Bool
is_there types event = if_known (λ t. true) (slice_get types event)

abbrev pub template_so : Around → TemplateShape → Bool
template_so around t = is_there around.types t.event && list_all (constraint_so around t.event) t.constraints && binds_so around t.event t.binds && duration_so around t.within

abbrev pub all_hold : List Bool → Bool
all_hold holds = list_all (λ h. h) holds

abbrev pub term_so : Around → Term-F Bool → Bool
term_so around (term.Followed first rest) = first && all_hold rest
term_so around (term.Or first rest) = first && all_hold rest
term_so around (term.Xor first rest) = first && all_hold rest
term_so around (term.And first rest) = first && all_hold rest
term_so around (term.All t) = t
term_so around (term.Not t) = t
term_so around (term.Group t within) = t && duration_so around within
term_so around (term.Wait d) = lasts around d
term_so around (term.Template t) = template_so around t

abbrev pub fits_term : Around → Term → Bool
fits_term around = fold-Term Bool (term_so around)
