-- Expressions have their shapes: each number names something that is there, and each part has the shape that its place asks.
use Rattle.std.specs.Prelude.{◌&&◌, ◌||◌, ◌==◌, ◌∷◌}
use Rattle.typed_program.specs.Common.{ℕ, Bool, true, false, List, [], map, Option, Some, None, slice_get, list_all, Shape, Shape-F, out-Shape, EventShape, Comparison}
use Rattle.epl_values.specs.declared.shape.Shape.TheVariants as shape
use Rattle.epl_values.specs.declared.shape.Shape.TheOpen as layer
use Rattle.epl_values.specs.declared.shape.Field.{Field}
use Rattle.epl_tree.specs.declared.expression.Comparison.TheVariants as comparison
use Rattle.epl_tree.specs.declared.expression.Operator.{Operator}
use Rattle.epl_tree.specs.declared.expression.Operator.TheVariants as operator
use Rattle.typed_program.specs.declared.expression.TypedExpr.{TypedExpr, out-TypedExpr}
use Rattle.typed_program.specs.declared.expression.TypedSuffix.{TypedSuffix}
use Rattle.typed_program.specs.declared.expression.TypedNode.TheOpen.{TypedNode-F, TypedSuffixNode-F, TypedEntry-F, TypedExpr-F, TypedLink-F, TypedSuffix-F}
use Rattle.typed_program.specs.declared.expression.TypedNode.TheFolds.{fold-TypedExpr, fold-TypedSuffix}
use Rattle.typed_program.specs.declared.program.Action.{Action}
use Rattle.typed_program.specs.Shapes.{same, is_scalar, is_ordered, stands}
use Rattle.typed_program.specs.Methods.{Signature, signature}

-- what a body may name by number: the event types, the globals of its monitor, its own locals, its parameters first, and
-- the program's actions
pub record Names : Type 0 where
  pub types : List EventShape
  pub globals : List Shape
  pub locals : List Shape
  pub monitor : ℕ
  pub actions : List Action

-- an expression: the shape that stands at it, if it gives a value, and whether all in it is as it should be
pub record Checked : Type 0 where
  pub shape : Option Shape
  pub holds : Bool

abbrev pub if_known : {A : Type 0} → (A → Bool) → Option A → Bool
if_known test None = false
if_known test (Some x) = test x

-- an expression of this shape
abbrev pub is_of : Shape → Checked → Bool
is_of s e = e.holds && if_known (same s) e.shape

abbrev pub all_of : Shape → List Checked → Bool
all_of s es = list_all (is_of s) es

-- expressions one by one of these shapes
abbrev pub are_of : List Shape → List Checked → Bool
are_of [] [] = true
are_of (s ∷ ss) (e ∷ es) = is_of s e && are_of ss es
are_of ss es = false

-- ---- operators

-- `=` and `!=` take two of one scalar type, an order integers or texts
abbrev pub may_compare : Comparison → Shape → Bool
may_compare comparison.Equal s = is_scalar s
may_compare comparison.NotEqual s = is_scalar s
may_compare c s = is_ordered s

abbrev pub compares : Comparison → Checked → Checked → Bool
compares c left right = left.holds && if_known (λ s. may_compare c s && is_of s right) left.shape

pub record Linked : Type 0 where
  pub operator : Operator
  pub operand : Checked

abbrev pub is_add : Operator → Bool
is_add operator.Add = true
is_add o = false

-- integers and any operators, or texts and `+`
abbrev pub links : Shape → Checked → List Linked → Bool
links s first rest = (same s shape.Integer && all_of shape.Integer (first ∷ map (λ l. l.operand) rest)) || (same s shape.Text && all_of shape.Text (first ∷ map (λ l. l.operand) rest) && list_all (λ l. is_add l.operator) rest)

abbrev pub truths : Shape → Checked → List Checked → Bool
truths s first rest = same s shape.Boolean && all_of shape.Boolean (first ∷ rest)

-- ---- steps behind a value

pub record Stepping : Type 0 where
  pub shape : Option Shape
  pub leads : Shape → Bool

-- a shape, or none, as it is given
abbrev pub agrees : Option Shape → Option Shape → Bool
agrees None None = true
agrees (Some s) (Some t) = same s t
agrees s t = false

-- each step leads on from what is before it, and the last to what stands at the whole
abbrev pub walks : Option Shape → List Stepping → Option Shape → Bool
walks from [] whole = agrees from whole
walks None (step ∷ steps) whole = false
walks (Some s) (step ∷ steps) whole = step.leads s && walks step.shape steps whole

abbrev pub fields_at : Option EventShape → List Field
fields_at None = []
fields_at (Some t) = t.fields

abbrev pub shape_in : Option Field → Option Shape
shape_in None = None
shape_in (Some f) = Some f.shape

-- the shape of the field with this number of the event type with that number
abbrev pub field_shape : List EventShape → ℕ → ℕ → Option Shape
field_shape types event field = shape_in (slice_get (fields_at (slice_get types event)) field)

abbrev pub field_leads : List EventShape → ℕ → Option Shape → Shape-F Shape → Bool
field_leads types field after (layer.Event n) = if_known (λ s. if_known (same s) after) (field_shape types n field)
field_leads types field after s = false

abbrev pub item_leads : Checked → Option Shape → Shape-F Shape → Bool
item_leads index after (layer.Sequence item) = is_of shape.Integer index && if_known (same item) after
item_leads index after s = false

abbrev pub key_leads : Checked → Option Shape → Shape-F Shape → Bool
key_leads index after (layer.Dictionary key value) = is_of key index && if_known (same value) after
key_leads index after s = false

abbrev pub method_leads : List Checked → Option Shape → Signature → Bool
method_leads arguments after row = are_of row.takes arguments && agrees row.gives after

pub record Paired : Type 0 where
  pub key : Checked
  pub value : Checked

-- what is asked of a node whose value has this shape, or which has none; of a step that leads to this shape from that one
abbrev pub Node : Type 0
Node = Option Shape → Bool

abbrev pub Step : Type 0
Step = Option Shape → Shape → Bool

abbrev pub step_so : List EventShape → TypedSuffixNode-F Node Step Paired Checked Linked Stepping → Step
step_so types (TypedSuffixNode-F.Field field) after s = field_leads types field after (out-Shape s)
step_so types (TypedSuffixNode-F.Item index) after s = item_leads index after (out-Shape s)
step_so types (TypedSuffixNode-F.Key index) after s = key_leads index after (out-Shape s)
step_so types (TypedSuffixNode-F.Method m arguments) after s = if_known (method_leads arguments after) (signature s m)

-- ---- calls and literals

abbrev pub calls : ℕ → List Checked → Option Shape → Action → Bool
calls monitor arguments s action = action.monitor == monitor && are_of action.params arguments && agrees action.result s

abbrev pub makes : List Checked → EventShape → Bool
makes arguments event = are_of (map (λ f. f.shape) event.fields) arguments

abbrev pub sequence_so : List Checked → Shape-F Shape → Bool
sequence_so items (layer.Sequence item) = all_of item items
sequence_so items s = false

abbrev pub dictionary_so : List Paired → Shape-F Shape → Bool
dictionary_so pairs (layer.Dictionary key value) = list_all (λ p. is_of key p.key && is_of value p.value) pairs
dictionary_so pairs s = false

abbrev pub names_context : List Checked → Bool
names_context arguments = are_of (shape.Text ∷ []) arguments || are_of (shape.Text ∷ shape.Boolean ∷ []) arguments

-- ---- expressions

abbrev pub gives : Shape → Option Shape → Bool
gives s after = if_known (same s) after

abbrev pub node_so : Names → TypedNode-F Node Step Paired Checked Linked Stepping → Node
node_so names (TypedNode-F.Integer n) s = gives shape.Integer s
node_so names (TypedNode-F.Text t) s = gives shape.Text s
node_so names (TypedNode-F.Boolean b) s = gives shape.Boolean s
node_so names (TypedNode-F.Global n) s = if_known (λ t. gives t s) (slice_get names.globals n)
node_so names (TypedNode-F.Local n) s = if_known (λ t. gives t s) (slice_get names.locals n)
node_so names (TypedNode-F.Or first rest) s = if_known (λ t. truths t first rest) s
node_so names (TypedNode-F.Xor first rest) s = if_known (λ t. truths t first rest) s
node_so names (TypedNode-F.And first rest) s = if_known (λ t. truths t first rest) s
node_so names (TypedNode-F.Not e) s = gives shape.Boolean s && is_of shape.Boolean e
node_so names (TypedNode-F.Compare left c right) s = gives shape.Boolean s && compares c left right
node_so names (TypedNode-F.Sum first rest) s = if_known (λ t. links t first rest) s
node_so names (TypedNode-F.Product first rest) s = if_known (λ t. links t first rest) s
node_so names (TypedNode-F.Minus e) s = gives shape.Integer s && is_of shape.Integer e
node_so names (TypedNode-F.Postfix first steps) s = first.holds && walks first.shape steps s
node_so names (TypedNode-F.Action n arguments) s = if_known (calls names.monitor arguments s) (slice_get names.actions n)
node_so names (TypedNode-F.Event n arguments) s = gives (shape.Event n) s && if_known (makes arguments) (slice_get names.types n)
node_so names (TypedNode-F.Sequence items) s = if_known (λ t. sequence_so items (out-Shape t)) s
node_so names (TypedNode-F.Dictionary pairs) s = if_known (λ t. dictionary_so pairs (out-Shape t)) s
node_so names TypedNode-F.Default s = if_known (λ t. true) s
node_so names (TypedNode-F.Context arguments) s = gives shape.Context s && names_context arguments
node_so names TypedNode-F.ContextCurrent s = gives shape.Context s
node_so names (TypedNode-F.Tenths n) s = gives shape.Integer s

-- a shape that is given names what is there
abbrev pub may_stand : List EventShape → Option Shape → Bool
may_stand types None = true
may_stand types (Some s) = stands types s

abbrev pub expr_so : Names → TypedExpr-F Node Step Paired Checked Linked Stepping → Checked
expr_so names e = record { shape = e.shape; holds = may_stand names.types e.shape && e.node e.shape }

abbrev pub entry_so : TypedEntry-F Node Step Paired Checked Linked Stepping → Paired
entry_so e = record { key = e.key; value = e.value }

abbrev pub link_so : TypedLink-F Node Step Paired Checked Linked Stepping → Linked
link_so l = record { operator = l.operator; operand = l.operand }

abbrev pub suffix_so : TypedSuffix-F Node Step Paired Checked Linked Stepping → Stepping
suffix_so u = record { shape = u.shape; leads = u.node u.shape }

-- the shape that stands at an expression
abbrev pub shape_of : TypedExpr → Option Shape
shape_of e = (out-TypedExpr e).shape

module _ (names : Names) where
  abbrev pub checked : TypedExpr → Checked
  checked = fold-TypedExpr Node Step Paired Checked Linked Stepping (node_so names) (step_so names.types) entry_so (expr_so names) link_so suffix_so

  abbrev pub stepping : TypedSuffix → Stepping
  stepping = fold-TypedSuffix Node Step Paired Checked Linked Stepping (node_so names) (step_so names.types) entry_so (expr_so names) link_so suffix_so

  -- an expression of this shape; one that may give no value
  abbrev pub has : Shape → TypedExpr → Bool
  has s e = is_of s (checked e)

  abbrev pub holds : TypedExpr → Bool
  holds e = (checked e).holds

  abbrev pub have : List Shape → List TypedExpr → Bool
  have shapes es = are_of shapes (map checked es)
