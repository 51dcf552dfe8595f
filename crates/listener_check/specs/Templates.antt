-- Templates: their own codes, their constraints, and then their clauses, in order of the source.
use Rattle.std.specs.Prelude.{ℕ, Bool, ◌||◌, nat_le, if◌then◌else◌, List, [], ◌∷◌, ◌++◌, length, Option, Some, None, is_some, slice_get}
use Rattle.epl_values.specs.declared.shape.Field.{Field}
use Rattle.epl_values.specs.declared.shape.EventShape.{EventShape}
use Rattle.epl_tree.specs.declared.name.Name.{Name}
use Rattle.epl_tree.specs.declared.event.Template.{Template}
use Rattle.epl_tree.specs.declared.event.TemplateClause.{TemplateClause}
use Rattle.epl_tree.specs.declared.event.TemplateClause.TheVariants as clause
use Rattle.typed_program.specs.declared.term.TemplateShape.{TemplateShape}
use Rattle.typed_program.specs.declared.term.Constraint.{Constraint as Typed}
use Rattle.type_table.specs.declared.scope.Scope.{Scope}
use Rattle.type_table.specs.declared.table.Table.{Table}
use Rattle.span_text.specs.declared.spot.Spot.{Spot}
use Rattle.type_table.specs.Found.{told}
use Rattle.type_table.specs.Table.{event_of, seen_of}
use Rattle.listener_check.specs.declared.sofar.Sofar.{Sofar}
use Rattle.listener_check.specs.declared.template.Clauses.{Clauses}
use Rattle.listener_check.specs.Bound.{is_among}
use Rattle.listener_check.specs.Constraints.{constraints_read}
use Rattle.listener_check.specs.Durations.{duration_read}
use Rattle.listener_check.specs.Limits.{short, leaf_read}
use Rattle.listener_check.specs.Went.{Went, went, behind, through, ◌>>=◌}

abbrev pub fields_of : Option EventShape → List Field
fields_of (Some t) = t.fields
fields_of None = []

-- no room for a name: a template binds one, and an event expression 64
abbrev pub is_full : Option ℕ → List (List ℕ) → Bool
is_full binds names = is_some binds || nat_le 64 (length names)

-- 1 for a name that is visible or bound before, 19 for one under a `not`, 4 where there is no room
abbrev pub is_taken : Scope → List (List ℕ) → List ℕ → Bool
is_taken scope names name = is_some (seen_of scope name) || is_among names name

abbrev pub name_codes : Scope → Bool → Option ℕ → List (List ℕ) → List ℕ → List ℕ
name_codes scope under_not binds names name = (if is_taken scope names name then 1 ∷ [] else []) ++ (if under_not then 19 ∷ [] else []) ++ (if is_full binds names then 4 ∷ [] else [])

abbrev pub with_name : List ℕ → Sofar → Sofar
with_name name s = record s { names = s.names ++ name ∷ [] }

-- a name behind what its template binds so far
unfoldable pub name_read : Scope → Bool → Option ℕ → Name → Sofar → Went ℕ
name_read scope under_not binds name s = behind (told name.spot (name_codes scope under_not binds s.names name.text)) (went (short (length s.names)) (with_name name.text s))

abbrev pub no_clauses : Clauses
no_clauses = record { binds = None; within = None }

module _ (table : Table) (scope : Scope) (inner : Scope) where
  unfoldable pub clause_read : Bool → Clauses → TemplateClause → Sofar → Went Clauses
  clause_read under_not made (clause.As name) s = name_read scope under_not made.binds name s >>= λ place s. went (record made { binds = Some place }) s
  clause_read under_not made (clause.Within duration) s = duration_read table scope inner duration s >>= λ timed s. went (record made { within = Some timed }) s

  abbrev pub clauses_read : Bool → List TemplateClause → Sofar → Went Clauses
  clauses_read under_not cs s = through (clause_read under_not) no_clauses cs s

  abbrev pub template_of : ℕ → Template → List Typed → Clauses → TemplateShape
  template_of event t constraints made = record { event = event; mode = t.mode; constraints = constraints; binds = made.binds; within = made.within }

  unfoldable pub parts_read : List Field → ℕ → Bool → List (List ℕ) → Template → Sofar → Went TemplateShape
  parts_read fields event under_not left t s = constraints_read table scope inner left fields t.constraints s >>= λ done s. clauses_read under_not t.clauses s >>= λ made s. went (template_of event t done.constraints made) s

  -- of an event type by its number; an event type that isn't declared is 2, also at a 65th leaf
  unfoldable pub typed_read : Option ℕ → Spot → Bool → List (List ℕ) → Template → Sofar → Went TemplateShape
  typed_read (Some n) spot under_not left t s = leaf_read spot s >>= λ _ s. parts_read (fields_of (slice_get table.types n)) (short n) under_not left t s
  typed_read None spot under_not left t s = behind (told spot (2 ∷ [])) (went (template_of 0 t [] no_clauses) s)

  abbrev pub template_read : Spot → Bool → List (List ℕ) → Template → Sofar → Went TemplateShape
  template_read spot under_not left t s = typed_read (event_of table t.event) spot under_not left t s
