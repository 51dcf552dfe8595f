-- Which term an event expression is: the same form over the same parts in the same order, durations and operands by their places
-- among what is evaluated at the `on`.
use Rattle.std.specs.Prelude.{ℕ, ◌+◌, ◌-◌, ◌*◌, ◌==◌, pos, List, [], ◌∷◌, Option, Some, None, slice_get, take, drop, ◌≡◌}
use Rattle.std.specs.List.{position}
use Rattle.epl_values.specs.declared.shape.EventShape.{EventShape}
use Rattle.epl_values.specs.declared.shape.Field.{Field}
use Rattle.epl_values.specs.declared.shape.Shape.{Shape, out-Shape}
use Rattle.epl_values.specs.declared.shape.Shape.TheOpen as shape
use Rattle.epl_tree.specs.declared.event.Constraint.{Constraint}
use Rattle.epl_tree.specs.declared.event.ConstraintNode.{ConstraintNode}
use Rattle.epl_tree.specs.declared.event.ConstraintNode.TheVariants as constraint
use Rattle.epl_tree.specs.declared.event.Duration.{Duration}
use Rattle.epl_tree.specs.declared.event.DurationNode.{DurationNode}
use Rattle.epl_tree.specs.declared.event.DurationNode.TheVariants as duration
use Rattle.epl_tree.specs.declared.event.EventExpr.{EventExpr, out-EventExpr}
use Rattle.epl_tree.specs.declared.event.EventNode.{EventNode, EventNode-F, out-EventNode}
use Rattle.epl_tree.specs.declared.event.EventNode.TheOpen as event
use Rattle.epl_tree.specs.declared.event.Range.{Range}
use Rattle.epl_tree.specs.declared.event.Template.{Template}
use Rattle.epl_tree.specs.declared.event.TemplateClause.{TemplateClause}
use Rattle.epl_tree.specs.declared.event.TemplateClause.TheVariants as clause
use Rattle.epl_tree.specs.declared.expression.Comparison.{Comparison}
use Rattle.epl_tree.specs.declared.expression.Comparison.TheVariants as comparison
use Rattle.epl_tree.specs.declared.expression.Expr.{Expr}
use Rattle.epl_tree.specs.declared.expression.ExprNode.TheOpen as tree
use Rattle.epl_tree.specs.declared.expression.Link.{Link, out-Link}
use Rattle.epl_tree.specs.declared.expression.Operator.TheVariants as operator
use Rattle.epl_tree.specs.declared.expression.Suffix.{Suffix}
use Rattle.epl_tree.specs.declared.name.Name.{Name}
use Rattle.typed_program.specs.declared.expression.TypedExpr.{TypedExpr}
use Rattle.typed_program.specs.declared.expression.TypedNode.TheOpen as typed
use Rattle.typed_program.specs.declared.statement.Variable.TheVariants as variable
use Rattle.typed_program.specs.declared.term.Constraint.{Constraint as TypedConstraint}
use Rattle.typed_program.specs.declared.term.ConstraintNode.{ConstraintNode as TypedNode}
use Rattle.typed_program.specs.declared.term.ConstraintNode.TheVariants as asked
use Rattle.typed_program.specs.declared.term.Operand.{Operand}
use Rattle.typed_program.specs.declared.term.Operand.TheVariants as operand
use Rattle.typed_program.specs.declared.term.Range.{Range as TypedRange}
use Rattle.typed_program.specs.declared.term.Duration.{Duration as Timed}
use Rattle.typed_program.specs.declared.term.TemplateShape.{TemplateShape}
use Rattle.typed_program.specs.declared.term.Term.{Term, Term-F, out-Term}
use Rattle.typed_program.specs.declared.term.Term.TheOpen as term
use Rattle.name_resolution.specs.Names.{Named, Meant, Around, held, meaning_of, type_named, field_named}
use Rattle.name_resolution.specs.Expressions.{form_of, step_of, typed_form, number, ExprIs}

-- what surrounds a part of an event expression: the names around the whole and behind them those that it binds; these alone, each by
-- its place; and what is evaluated at the `on`. That such a value names none of the bound ones (code 18) isn't said here
pub record Inside : Type 0 where
  pub around : Around
  pub names : List Named
  pub bound : List Named
  pub operands : List TypedExpr

-- an expression that is evaluated at the `on`, by its place
pub record Given (i : Inside) (e : Expr) (at : ℕ) : Type 0 where
  pub value : TypedExpr
  pub there : slice_get i.operands at ≡ Some value
  pub resolved : ExprIs i.around i.names e value

-- the whole seconds before the point, and the first digit behind it
abbrev pub first_digit : List ℕ → ℕ
first_digit [] = 0
first_digit (digit ∷ digits) = digit - 48

abbrev pub tenths_at : List ℕ → Option ℕ → ℕ
tenths_at text (Some at) = number (take at text) * 10 + first_digit (drop (at + 1) text)
tenths_at text None = number text * 10 + 0

abbrev pub tenths : List ℕ → ℕ
tenths text = tenths_at text (position (λ c. c == 46) text)

pub data DurationIs (i : Inside) : DurationNode → ℕ → Type 0 where
  decimal : {text : List ℕ} {at : ℕ} {x : TypedExpr} → slice_get i.operands at ≡ Some x → typed_form x ≡ typed.Tenths (pos (tenths text)) → DurationIs i (duration.Decimal text) at
  seconds : {e : Expr} {at : ℕ} → Given i e at → DurationIs i (duration.Seconds e) at

-- ---- operands

-- a name that the event expression binds, by its place
pub record BoundAs (i : Inside) (name : List ℕ) (place : ℕ) (s : Option Shape) : Type 0 where
  pub meant : Meant
  pub there : meaning_of i.bound name ≡ Some meant
  pub variable_is : meant.variable ≡ variable.Local place
  pub shape_is : meant.shape ≡ s

-- fields from a shape on, by their numbers; from none nothing is said
pub data FieldsAre (types : List EventShape) : Option Shape → List Suffix → List ℕ → Type 0 where
  no_fields : {s : Option Shape} → FieldsAre types s [] []
  a_field : {s : Shape} {t n : ℕ} {event : EventShape} {name : List ℕ} {f : Field} {u : Suffix} {us : List Suffix} {ns : List ℕ} → step_of u ≡ tree.Field name → out-Shape s ≡ shape.Event t → slice_get types t ≡ Some event → field_named event.fields name ≡ Some n → slice_get event.fields n ≡ Some f → FieldsAre types (Some f.shape) us ns → FieldsAre types (Some s) (u ∷ us) (held n ∷ ns)
  unshaped : {us : List Suffix} {ns : List ℕ} → FieldsAre types None us ns

-- a path of fields from a bound name
pub data PathIs (i : Inside) : Expr → ℕ → List ℕ → Type 0 where
  path : {e first : Expr} {us : List Suffix} {name ns : List ℕ} {place : ℕ} {s : Option Shape} → form_of e ≡ tree.Postfix first us → form_of first ≡ tree.Name name → BoundAs i name place s → FieldsAre i.around.types s us ns → PathIs i e place ns

-- an operand that is evaluated at the `on`, or a path from a bound name, plus or minus such an operand or alone
pub data OperandIs (i : Inside) : Expr → Operand → Type 0 where
  given : {e : Expr} {at : ℕ} → Given i e at → OperandIs i e (operand.Given at)
  bound : {e : Expr} {place : ℕ} {ns : List ℕ} → PathIs i e place ns → OperandIs i e (operand.Bound place ns)
  plus : {e first : Expr} {l : Link} {place at : ℕ} {ns : List ℕ} → form_of e ≡ tree.Sum first (l ∷ []) → (out-Link l).operator ≡ operator.Add → PathIs i first place ns → Given i (out-Link l).operand at → OperandIs i e (operand.BoundPlus place ns at)
  minus : {e first : Expr} {l : Link} {place at : ℕ} {ns : List ℕ} → form_of e ≡ tree.Sum first (l ∷ []) → (out-Link l).operator ≡ operator.Subtract → PathIs i first place ns → Given i (out-Link l).operand at → OperandIs i e (operand.BoundMinus place ns at)

-- ---- constraints

-- each end is closed or not as it is written
pub record RangeIs (i : Inside) (r : Range) (q : TypedRange) : Type 0 where
  pub low_closed : q.low.closed ≡ r.low.closed
  pub low : OperandIs i r.low.bound q.low.bound
  pub high_closed : q.high.closed ≡ r.high.closed
  pub high : OperandIs i r.high.bound q.high.bound

pub data AskIs (i : Inside) : ConstraintNode → TypedNode → Type 0 where
  any : AskIs i constraint.Any asked.Any
  equals : {e : Expr} {o : Operand} → OperandIs i e o → AskIs i (constraint.Equals e) (asked.Compares comparison.Equal o)
  compares : {c : Comparison} {e : Expr} {o : Operand} → OperandIs i e o → AskIs i (constraint.Compares c e) (asked.Compares c o)
  lies : {r : Range} {q : TypedRange} → RangeIs i r q → AskIs i (constraint.Lies r) (asked.Lies q)
  named_compares : {name : List ℕ} {c : Comparison} {e : Expr} {o : Operand} → OperandIs i e o → AskIs i (constraint.NamedCompares name c e) (asked.Compares c o)
  named_lies : {name : List ℕ} {r : Range} {q : TypedRange} → RangeIs i r q → AskIs i (constraint.NamedLies name r) (asked.Lies q)

-- the number of the field: that of its name, or the place of the constraint
abbrev pub field_of : List Field → ℕ → ConstraintNode → Option ℕ
field_of fields place (constraint.NamedCompares name c e) = field_named fields name
field_of fields place (constraint.NamedLies name r) = field_named fields name
field_of fields place n = Some place

-- constraints from a place on
pub data ConstraintsAre (i : Inside) (fields : List Field) : ℕ → List Constraint → List TypedConstraint → Type 0 where
  no_constraints : {place : ℕ} → ConstraintsAre i fields place [] []
  a_constraint : {place n : ℕ} {c : Constraint} {cs : List Constraint} {y : TypedConstraint} {ys : List TypedConstraint} → field_of fields place c.node ≡ Some n → y.field ≡ held n → AskIs i c.node y.node → ConstraintsAre i fields (place + 1) cs ys → ConstraintsAre i fields place (c ∷ cs) (y ∷ ys)

-- ---- templates

-- the clauses behind those that gave a name and a duration, and what they give together
pub data ClausesAre (i : Inside) : Option ℕ → Option Timed → List TemplateClause → Option ℕ → Option Timed → Type 0 where
  no_clauses : {binds : Option ℕ} {within : Option Timed} → ClausesAre i binds within [] binds within
  as_name : {binds binds' : Option ℕ} {within within' : Option Timed} {name : Name} {place : ℕ} {s : Option Shape} {cs : List TemplateClause} → BoundAs i name.text place s → ClausesAre i (Some place) within cs binds' within' → ClausesAre i binds within (clause.As name ∷ cs) binds' within'
  in_time : {binds binds' : Option ℕ} {within within' : Option Timed} {d : Duration} {at : Timed} {cs : List TemplateClause} → DurationIs i d.node at.operand → ClausesAre i binds (Some at) cs binds' within' → ClausesAre i binds within (clause.Within d ∷ cs) binds' within'

abbrev pub fields_at : Option EventShape → List Field
fields_at (Some t) = t.fields
fields_at None = []

pub record TemplateIs (i : Inside) (t : Template) (x : TemplateShape) : Type 0 where
  pub type : ℕ
  pub named : type_named i.around.types t.event ≡ Some type
  pub event : x.event ≡ held type
  pub mode : x.mode ≡ t.mode
  pub constraints : ConstraintsAre i (fields_at (slice_get i.around.types type)) 0 t.constraints x.constraints
  pub clauses : ClausesAre i None None t.clauses x.binds x.within

-- ---- event expressions

abbrev pub EventForm : Type 0
EventForm = EventNode-F EventNode EventExpr

abbrev pub event_form : EventExpr → EventForm
event_form e = out-EventNode (out-EventExpr e).node

mutual
  pub data TermIs (i : Inside) : EventExpr → Term → Type 0 where
    is : {e : EventExpr} {t : Term} → NodeIs i (event_form e) (out-Term t) → TermIs i e t

  pub data NodeIs (i : Inside) : EventForm → Term-F Term → Type 0 where
    followed : {e : EventExpr} {es : List EventExpr} {t : Term} {ts : List Term} → TermIs i e t → TermsAre i es ts → NodeIs i (event.Followed e es) (term.Followed t ts)
    or : {e : EventExpr} {es : List EventExpr} {t : Term} {ts : List Term} → TermIs i e t → TermsAre i es ts → NodeIs i (event.Or e es) (term.Or t ts)
    xor : {e : EventExpr} {es : List EventExpr} {t : Term} {ts : List Term} → TermIs i e t → TermsAre i es ts → NodeIs i (event.Xor e es) (term.Xor t ts)
    and : {e : EventExpr} {es : List EventExpr} {t : Term} {ts : List Term} → TermIs i e t → TermsAre i es ts → NodeIs i (event.And e es) (term.And t ts)
    all : {e : EventExpr} {t : Term} → TermIs i e t → NodeIs i (event.All e) (term.All t)
    negation : {e : EventExpr} {t : Term} → TermIs i e t → NodeIs i (event.Not e) (term.Not t)
    group : {e : EventExpr} {t : Term} → TermIs i e t → NodeIs i (event.Group e None) (term.Group t None)
    timed : {e : EventExpr} {t : Term} {d : Duration} {at : Timed} → TermIs i e t → DurationIs i d.node at.operand → NodeIs i (event.Group e (Some d)) (term.Group t (Some at))
    wait : {d : Duration} {at : Timed} → DurationIs i d.node at.operand → NodeIs i (event.Wait d) (term.Wait at)
    template : {t : Template} {x : TemplateShape} → TemplateIs i t x → NodeIs i (event.Template t) (term.Template x)

  pub data TermsAre (i : Inside) : List EventExpr → List Term → Type 0 where
    no_terms : TermsAre i [] []
    a_term : {e : EventExpr} {es : List EventExpr} {t : Term} {ts : List Term} → TermIs i e t → TermsAre i es ts → TermsAre i (e ∷ es) (t ∷ ts)
