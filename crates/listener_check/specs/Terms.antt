-- Event expressions: in order of the source, the own codes of a part before those of what it holds.
use Rattle.std.specs.Prelude.{ℕ, Bool, true, false, not, if◌then◌else◌, List, [], ◌∷◌, ◌++◌, length, drop, Option, Some, None}
use Rattle.span_text.specs.declared.spot.Spot.{Spot}
use Rattle.epl_tree.specs.declared.event.Duration.{Duration}
use Rattle.epl_tree.specs.declared.event.Template.{Template}
use Rattle.epl_tree.specs.declared.event.EventExpr.{EventExpr, EventExpr-F, fold-EventExpr}
use Rattle.epl_tree.specs.declared.event.EventNode.{EventNode-F}
use Rattle.epl_tree.specs.declared.event.EventNode.TheOpen as node
use Rattle.typed_program.specs.declared.program.Local.{Local}
use Rattle.typed_program.specs.declared.program.TypedTerm.{TypedTerm}
use Rattle.typed_program.specs.declared.term.Term.{Term}
use Rattle.typed_program.specs.declared.term.Term.TheVariants as term
use Rattle.listener_check.specs.declared.terms.Joint.{Joint}
use Rattle.listener_check.specs.declared.terms.Joint.TheVariants as joint
use Rattle.type_table.specs.declared.scope.Scope.{Scope}
use Rattle.type_table.specs.declared.table.Table.{Table}
use Rattle.type_table.specs.Found.{Found, told}
use Rattle.listener_check.specs.declared.sofar.Sofar.{Sofar}
use Rattle.listener_check.specs.Bound.{inner_of, bound_of}
use Rattle.listener_check.specs.Durations.{duration_read}
use Rattle.listener_check.specs.Limits.{leaf_read}
use Rattle.listener_check.specs.Templates.{template_read}
use Rattle.listener_check.specs.Went.{Went, went, behind, through, ◌>>=◌}

-- how a part is read where it stands: whether it is under a `not`, the names bound in left sides around it, and what
-- stands in front
abbrev pub Reading : Type 0
Reading = Bool → List (List ℕ) → Sofar → Went Term

-- a part: whether it is a `not`, and how it is read where it may be one or may not
pub record Part : Type 0 where
  pub is_not : Bool
  pub reading : Bool → Reading

-- 19 for a `not` that isn't one of the two operands of an `and`
abbrev pub not_codes : Bool → List ℕ
not_codes may = if may then [] else 19 ∷ []

abbrev pub each_step : Bool → Bool → List (List ℕ) → List Term → Part → Sofar → Went (List Term)
each_step may under left done p s = p.reading may under left s >>= λ t s. went (done ++ t ∷ []) s

-- the parts in order
abbrev pub each : Bool → Bool → List (List ℕ) → List Part → Sofar → Went (List Term)
each may under left ps s = through (each_step may under left) [] ps s

-- a right side of `->`: all names that were bound since the left side began are bound in its left sides
abbrev pub behind_step : ℕ → Bool → List (List ℕ) → List Term → Part → Sofar → Went (List Term)
behind_step start under left done p s = each_step false under (left ++ drop start s.names) done p s

abbrev pub each_behind : ℕ → Bool → List (List ℕ) → List Part → Sofar → Went (List Term)
each_behind start under left ps s = through (behind_step start under left) [] ps s

-- the right sides of `->` behind the first operand, where its left side began behind so many names
unfoldable pub followed_behind : ℕ → Term → List Part → Reading
followed_behind start head rest under left s = each_behind start under left rest s >>= λ tail s. went (term.Followed head tail) s

unfoldable pub followed_read : Part → List Part → Reading
followed_read first rest under left s = first.reading false under left s >>= λ head after. followed_behind (length s.names) head rest under left after

abbrev pub is_and : Joint → Bool
is_and joint.And = true
is_and j = false

abbrev pub joined : Joint → Term → List Term → Term
joined joint.Or head tail = term.Or head tail
joined joint.Xor head tail = term.Xor head tail
joined joint.And head tail = term.And head tail

-- the operands behind the first one; those of `and` may be a `not`
unfoldable pub joined_behind : Joint → Term → List Part → Reading
joined_behind j head rest under left s = each (is_and j) under left rest s >>= λ tail s. went (joined j head tail) s

unfoldable pub or_read : Part → List Part → Reading
or_read first rest under left s = first.reading false under left s >>= λ head s. joined_behind joint.Or head rest under left s

unfoldable pub xor_read : Part → List Part → Reading
xor_read first rest under left s = first.reading false under left s >>= λ head s. joined_behind joint.Xor head rest under left s

-- the chain groups to the left: the first operand may be a `not` where the second is none; where both are, the first is told
abbrev pub may_begin : List Part → Bool
may_begin [] = false
may_begin (p ∷ ps) = not p.is_not

unfoldable pub and_read : Part → List Part → Reading
and_read first rest under left s = first.reading (may_begin rest) under left s >>= λ head s. joined_behind joint.And head rest under left s

unfoldable pub not_read : Spot → Part → Bool → List (List ℕ) → Sofar → Went Term
not_read spot x may left s = behind (told spot (not_codes may)) (x.reading false true left s >>= λ t s. went (term.Not t) s)

unfoldable pub all_read : Part → Reading
all_read x under left s = x.reading false under left s >>= λ t s. went (term.All t) s

-- the deadline of a group is a leaf that is counted before those inside
unfoldable pub deadline_read : Spot → Option Duration → Sofar → Went (Unit {0})
deadline_read spot (Some d) s = leaf_read spot s
deadline_read spot None s = went tt s

-- a part that is no `not`
abbrev pub plain : Reading → Part
plain reading = record { is_not = false; reading = λ may. reading }

abbrev pub negated : Spot → Part → Part
negated spot x = record { is_not = true; reading = λ may under left s. not_read spot x may left s }

module _ (table : Table) (scope : Scope) (inner : Scope) where
  unfoldable pub wait_read : Spot → Duration → Sofar → Went Term
  wait_read spot d s = leaf_read spot s >>= λ _ s. duration_read table scope inner d s >>= λ timed s. went (term.Wait timed) s

  unfoldable pub ended_read : Term → Option Duration → Sofar → Went Term
  ended_read t None s = went (term.Group t None) s
  ended_read t (Some d) s = duration_read table scope inner d s >>= λ timed s. went (term.Group t (Some timed)) s

  unfoldable pub group_read : Spot → Part → Option Duration → Reading
  group_read spot x within under left s = deadline_read spot within s >>= λ _ s. x.reading false under left s >>= λ t s. ended_read t within s

  unfoldable pub leaf_template_read : Spot → Bool → List (List ℕ) → Template → Sofar → Went Term
  leaf_template_read spot under left t s = template_read table scope inner spot under left t s >>= λ x s. went (term.Template x) s

  abbrev pub node_step : EventNode-F (Spot → Part) Part → Spot → Part
  node_step (node.Followed first rest) spot = plain (followed_read first rest)
  node_step (node.Or first rest) spot = plain (or_read first rest)
  node_step (node.Xor first rest) spot = plain (xor_read first rest)
  node_step (node.And first rest) spot = plain (and_read first rest)
  node_step (node.All x) spot = plain (all_read x)
  node_step (node.Not x) spot = negated spot x
  node_step (node.Group x within) spot = plain (group_read spot x within)
  node_step (node.Wait d) spot = plain (λ under left s. wait_read spot d s)
  node_step (node.Template t) spot = plain (λ under left s. leaf_template_read spot under left t s)

  abbrev pub expr_step : EventExpr-F (Spot → Part) Part → Part
  expr_step e = e.node e.spot

  abbrev pub part_of : EventExpr → Part
  part_of = fold-EventExpr (Spot → Part) Part node_step expr_step

  abbrev pub term_read : EventExpr → Bool → Reading
  term_read e = (part_of e).reading

abbrev pub nothing_yet : Sofar
nothing_yet = record { leaves = 0; sums = 0; operands = []; names = [] }

abbrev pub whole : List Local → Went Term → Found TypedTerm
whole bound w = record { faults = w.faults; part = record { term = w.part; operands = w.after.operands; bound = bound } }

module _ (table : Table) (scope : Scope) where
  abbrev pub term_in : Scope → EventExpr → Found TypedTerm
  term_in inner tree = whole (bound_of scope inner) (term_read table scope inner tree false false [] nothing_yet)

  -- what is found of an event expression in the scope around it
  abbrev pub term_found : EventExpr → Found TypedTerm
  term_found tree = term_in (inner_of table scope tree) tree
