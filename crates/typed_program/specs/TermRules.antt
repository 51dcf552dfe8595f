-- The rules of event expressions: what may be constrained, which co-assignments an operand may name, where `not` may stand, and
-- how many leaves and operands there are.
use Rattle.typed_program.specs.Common.{ℕ, Bool, true, false, not, nat_le, List, [], map, length, Option, Some, None, list_all, list_any, Shape, Shape-F, out-Shape, EventShape, Comparison}
use Rattle.std.specs.Prelude.{◌+◌, ◌&&◌, ◌||◌, ◌==◌, ◌∷◌, ◌++◌, if◌then◌else◌, sum}
use Rattle.std.specs.List.{flat_map}
use Rattle.epl_values.specs.declared.shape.Shape.TheOpen as layer
use Rattle.epl_tree.specs.declared.expression.Comparison.TheVariants as comparison
use Rattle.typed_program.specs.declared.term.Term.{Term, Term-F, fold-Term}
use Rattle.typed_program.specs.declared.term.Term.TheOpen as term
use Rattle.typed_program.specs.declared.term.Duration.{Duration}
use Rattle.typed_program.specs.declared.term.TemplateShape.{TemplateShape}
use Rattle.typed_program.specs.declared.term.Constraint.{Constraint}
use Rattle.typed_program.specs.declared.term.ConstraintNode.{ConstraintNode}
use Rattle.typed_program.specs.declared.term.ConstraintNode.TheVariants as constraint
use Rattle.typed_program.specs.declared.term.Operand.{Operand}
use Rattle.typed_program.specs.declared.term.Operand.TheVariants as operand
use Rattle.typed_program.specs.Shapes.{is_scalar, is_ordered}
use Rattle.typed_program.specs.Expressions.{if_known, field_shape}

-- ---- constraints

abbrev pub is_equality : Comparison → Bool
is_equality comparison.Equal = true
is_equality c = false

-- a boolean has no order, and `*` asks nothing
abbrev pub may_constrain : Shape → ConstraintNode → Bool
may_constrain s constraint.Any = true
may_constrain s (constraint.Compares c o) = is_scalar s && (is_equality c || is_ordered s)
may_constrain s (constraint.Lies range) = is_ordered s

abbrev pub asks : ConstraintNode → Bool
asks constraint.Any = false
asks node = true

abbrev pub asked_fields : List Constraint → List ℕ
asked_fields [] = []
asked_fields (c ∷ cs) = (if asks c.node then c.field ∷ [] else []) ++ asked_fields cs

abbrev pub differ : List ℕ → Bool
differ [] = true
differ (n ∷ ns) = not (list_any (λ m. m == n) ns) && differ ns

abbrev pub constraint_lawful : List EventShape → ℕ → Constraint → Bool
constraint_lawful types event c = if_known (λ s. may_constrain s c.node) (field_shape types event c.field)

-- ---- operands

abbrev pub named_in : Operand → List ℕ
named_in (operand.Given at) = []
named_in (operand.Bound name fields) = name ∷ []
named_in (operand.BoundPlus name fields by) = name ∷ []
named_in (operand.BoundMinus name fields by) = name ∷ []

abbrev pub operands_in : ConstraintNode → List Operand
operands_in constraint.Any = []
operands_in (constraint.Compares c o) = o ∷ []
operands_in (constraint.Lies range) = range.low.bound ∷ range.high.bound ∷ []

abbrev pub operands_of : TemplateShape → List Operand
operands_of t = flat_map (λ c. operands_in c.node) t.constraints

-- an operand names what a left side of an `->` around it binds
abbrev pub names_left : List ℕ → TemplateShape → Bool
names_left left t = list_all (λ o. list_all (λ n. list_any (λ m. m == n) left) (named_in o)) (operands_of t)

-- ---- event expressions

abbrev pub list_of : Option ℕ → List ℕ
list_of None = []
list_of (Some n) = n ∷ []

-- a part: what it binds, in order; whether it is a `not`; whether it keeps the rules behind left sides that bind these, a `not`
-- being allowed there or not; how many leaves and operands it has
pub record Part : Type 0 where
  pub binds : List ℕ
  pub is_not : Bool
  pub lawful : List ℕ → Bool
  pub leaves : ℕ
  pub operands : ℕ

abbrev pub plain : Part → List ℕ → Bool
plain p left = not p.is_not && p.lawful left

abbrev pub binds_all : List Part → List ℕ
binds_all parts = flat_map (λ p. p.binds) parts

-- each right side behind what those before it bind
abbrev pub follow : List ℕ → List Part → Bool
follow left [] = true
follow left (p ∷ ps) = plain p left && follow (left ++ p.binds) ps

abbrev pub all_plain : List Part → List ℕ → Bool
all_plain parts left = list_all (λ p. plain p left) parts

-- a chain of `and` groups to the left: of each two operands at most one is a `not`
abbrev pub joins : Part → List Part → Bool
joins first [] = not first.is_not
joins first (second ∷ rest) = not (first.is_not && second.is_not)

abbrev pub together : List Part → (List ℕ → Bool) → Part
together parts lawful = record { binds = binds_all parts; is_not = false; lawful = lawful; leaves = sum (map (λ p. p.leaves) parts); operands = sum (map (λ p. p.operands) parts) }

abbrev pub durations : Option Duration → ℕ
durations None = 0
durations (Some d) = 1

abbrev pub with_deadline : Option Duration → Part → Part
with_deadline within p = record p { is_not = false; lawful = plain p; leaves = durations within + p.leaves; operands = durations within + p.operands }

-- under a `not` nothing is bound
abbrev pub negated : Part → Part
negated p = record p { is_not = true; lawful = λ left. plain p left && (length p.binds == 0) }

module _ (types : List EventShape) where
  abbrev pub template_lawful : TemplateShape → List ℕ → Bool
  template_lawful t left = list_all (constraint_lawful types t.event) t.constraints && differ (asked_fields t.constraints) && names_left left t

  abbrev pub term_part : Term-F Part → Part
  term_part (term.Followed first rest) = together (first ∷ rest) (λ left. plain first left && follow (left ++ first.binds) rest)
  term_part (term.Or first rest) = together (first ∷ rest) (all_plain (first ∷ rest))
  term_part (term.Xor first rest) = together (first ∷ rest) (all_plain (first ∷ rest))
  term_part (term.And first rest) = together (first ∷ rest) (λ left. joins first rest && list_all (λ p. p.lawful left) (first ∷ rest))
  term_part (term.All t) = together (t ∷ []) (plain t)
  term_part (term.Not t) = negated t
  term_part (term.Group t within) = with_deadline within t
  term_part (term.Wait d) = record { binds = []; is_not = false; lawful = λ left. true; leaves = 1; operands = 1 }
  term_part (term.Template t) = record { binds = list_of t.binds; is_not = false; lawful = template_lawful t; leaves = 1; operands = length (operands_of t) + durations t.within }

  abbrev pub part_of : Term → Part
  part_of = fold-Term Part term_part

-- numbers from one on, in order
abbrev pub count_up : ℕ → List ℕ → Bool
count_up n [] = true
count_up n (m ∷ ms) = (m == n) && count_up (n + 1) ms

-- an event expression keeps the rules: so many names are bound, in order of the source; at most 64 leaves and 192 operands
abbrev pub term_lawful : List EventShape → ℕ → Term → Bool
term_lawful types bound t = let p = part_of types t in plain p [] && count_up 0 p.binds && (length p.binds == bound) && nat_le p.leaves 64 && nat_le p.operands 192
