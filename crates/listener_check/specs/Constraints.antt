-- Constraints of a template. A positional one, `*` too, stands for the field at its place; the others name theirs.
use Rattle.std.specs.Prelude.{ℕ, ◌==◌, Bool, true, false, ◌&&◌, ◌||◌, not, if◌then◌else◌, List, [], ◌∷◌, ◌++◌, length, Option, Some, None, slice_get}
use Rattle.std.specs.List.{list_any, position}
use Rattle.std.specs.Str.{bytes_eq}
use Rattle.epl_values.specs.declared.shape.Shape.{Shape, Shape-F, out-Shape}
use Rattle.epl_values.specs.declared.shape.Shape.TheOpen as layer
use Rattle.epl_values.specs.declared.shape.Field.{Field}
use Rattle.epl_tree.specs.declared.event.Constraint.{Constraint}
use Rattle.epl_tree.specs.declared.event.ConstraintNode.{ConstraintNode}
use Rattle.epl_tree.specs.declared.event.ConstraintNode.TheVariants as node
use Rattle.epl_tree.specs.declared.event.Range.{Range}
use Rattle.epl_tree.specs.declared.expression.Comparison.{Comparison}
use Rattle.epl_tree.specs.declared.expression.Comparison.TheVariants as comparison
use Rattle.epl_tree.specs.declared.expression.Expr.{Expr}
use Rattle.typed_program.specs.declared.term.Constraint.{Constraint as Typed}
use Rattle.typed_program.specs.declared.term.ConstraintNode.{ConstraintNode as TypedNode}
use Rattle.typed_program.specs.declared.term.ConstraintNode.TheVariants as made
use Rattle.typed_program.specs.declared.term.Operand.{Operand}
use Rattle.type_table.specs.declared.scope.Scope.{Scope}
use Rattle.type_table.specs.declared.table.Table.{Table}
use Rattle.type_table.specs.Found.{told}
use Rattle.typed_program.specs.Shapes.{is_scalar}
use Rattle.listener_check.specs.declared.constraint.Done.{Done}
use Rattle.listener_check.specs.declared.sofar.Sofar.{Sofar}
use Rattle.listener_check.specs.Limits.{short}
use Rattle.listener_check.specs.Operands.{operand_read}
use Rattle.listener_check.specs.Went.{Went, went, behind, through, ◌>>=◌}

abbrev pub is_named : ConstraintNode → Bool
is_named (node.NamedCompares name c e) = true
is_named (node.NamedLies name r) = true
is_named n = false

abbrev pub is_any : ConstraintNode → Bool
is_any node.Any = true
is_any n = false

-- all but `=`; the grammar has no `!=` here
abbrev pub orders : Comparison → Bool
orders comparison.Equal = false
orders c = true

-- an order or a range
abbrev pub is_ordered : ConstraintNode → Bool
is_ordered (node.Compares c e) = orders c
is_ordered (node.NamedCompares name c e) = orders c
is_ordered (node.Lies r) = true
is_ordered (node.NamedLies name r) = true
is_ordered n = false

abbrev pub place_named : List Field → List ℕ → Option ℕ
place_named fields name = position (λ f. bytes_eq f.name name) fields

-- the number of the field, behind so many constraints
abbrev pub number_of : List Field → ℕ → ConstraintNode → Option ℕ
number_of fields before (node.NamedCompares name c e) = place_named fields name
number_of fields before (node.NamedLies name r) = place_named fields name
number_of fields before n = Some before

-- 7 for a name that is no field, 17 for a place that is none
abbrev pub missing_code : ConstraintNode → ℕ
missing_code n = if is_named n then 7 else 17

abbrev pub is_boolean_layer : Shape-F Shape → Bool
is_boolean_layer layer.Boolean = true
is_boolean_layer l = false

unfoldable pub is_boolean : Shape → Bool
is_boolean s = is_boolean_layer (out-Shape s)

abbrev pub asks_nothing : TypedNode → Bool
asks_nothing made.Any = true
asks_nothing n = false

-- whether a constraint asks something of the field with this number
abbrev pub constrains : ℕ → Typed → Bool
constrains number c = c.field == number && not (asks_nothing c.node)

-- whether a field is constrained before
abbrev pub is_repeated : ℕ → List Typed → Bool
is_repeated number done = list_any (constrains (short number)) done

-- a boolean in an order or a range
abbrev pub is_misordered : Shape → ConstraintNode → Bool
is_misordered shape n = is_ordered n && is_boolean shape

abbrev pub is_misused : ℕ → Shape → List Typed → ConstraintNode → Bool
is_misused number shape done n = is_repeated number done || is_misordered shape n

-- whether a field may not be asked this: no scalar, constrained before, or a boolean in an order
abbrev pub is_unfit : ℕ → Shape → List Typed → ConstraintNode → Bool
is_unfit number shape done n = not (is_any n) && (not (is_scalar shape) || is_misused number shape done n)

-- whether a constraint may not stand: an unfit field, or a positional one behind a named one
abbrev pub is_refused : ℕ → Shape → List Typed → Bool → ConstraintNode → Bool
is_refused number shape done named n = (named && not (is_named n)) || is_unfit number shape done n

abbrev pub field_codes : ℕ → Shape → List Typed → Bool → ConstraintNode → List ℕ
field_codes number shape done named n = if is_refused number shape done named n then 17 ∷ [] else []

abbrev pub none_done : Done
none_done = record { constraints = []; named = false }

module _ (table : Table) (scope : Scope) (inner : Scope) (left : List (List ℕ)) where
  unfoldable pub compares_read : Shape → Comparison → Expr → Sofar → Went TypedNode
  compares_read shape c e s = operand_read table scope inner left shape e s >>= λ x s. went (made.Compares c x) s

  abbrev pub lies : Range → Operand → Operand → TypedNode
  lies r low high = made.Lies (record { low = record { closed = r.low.closed; bound = low }; high = record { closed = r.high.closed; bound = high } })

  unfoldable pub lies_read : Shape → Range → Sofar → Went TypedNode
  lies_read shape r s = operand_read table scope inner left shape r.low.bound s >>= λ low s. operand_read table scope inner left shape r.high.bound s >>= λ high s. went (lies r low high) s

  unfoldable pub asked_read : Shape → ConstraintNode → Sofar → Went TypedNode
  asked_read shape node.Any s = went made.Any s
  asked_read shape (node.Equals e) s = compares_read shape comparison.Equal e s
  asked_read shape (node.Compares c e) s = compares_read shape c e s
  asked_read shape (node.Lies r) s = lies_read shape r s
  asked_read shape (node.NamedCompares name c e) s = compares_read shape c e s
  asked_read shape (node.NamedLies name r) s = lies_read shape r s

  -- a constraint of a field that is there, behind others
  unfoldable pub placed_read : ℕ → Shape → List Typed → Bool → Constraint → Sofar → Went Typed
  placed_read number shape done named c s = behind (told c.spot (field_codes number shape done named c.node)) (asked_read shape c.node s >>= λ n s. went (record { field = short number; node = n }) s)

  -- 7 or 17: there is no such field
  abbrev pub missing_read : Constraint → Sofar → Went Typed
  missing_read c s = behind (told c.spot (missing_code c.node ∷ [])) (went (record { field = 0; node = made.Any }) s)

  abbrev pub found_read : ℕ → Option Field → List Typed → Bool → Constraint → Sofar → Went Typed
  found_read number (Some f) done named c s = placed_read number f.shape done named c s
  found_read number None done named c s = missing_read c s

  abbrev pub numbered_read : List Field → Option ℕ → List Typed → Bool → Constraint → Sofar → Went Typed
  numbered_read fields (Some number) done named c s = found_read number (slice_get fields number) done named c s
  numbered_read fields None done named c s = missing_read c s

  abbrev pub constraint_read : List Field → List Typed → Bool → Constraint → Sofar → Went Typed
  constraint_read fields done named c s = numbered_read fields (number_of fields (length done) c.node) done named c s

  -- a constraint behind those that are done
  abbrev pub constraint_step : List Field → Done → Constraint → Sofar → Went Done
  constraint_step fields done c s = constraint_read fields done.constraints done.named c s >>= λ x s. went (record { constraints = done.constraints ++ x ∷ []; named = done.named || is_named c.node }) s

  abbrev pub constraints_read : List Field → List Constraint → Sofar → Went Done
  constraints_read fields cs s = through (constraint_step fields) none_done cs s
