-- What is told of an expression, and what is assigned.
use Rattle.std.specs.Prelude.{ℕ, ◌≡◌, Bool, true, false, List, [], map, slice_get, Option, Some, None, Result, Ok, Err}
use Rattle.epl_values.specs.declared.shape.Shape.{Shape}
use Rattle.epl_values.specs.declared.shape.Shape.TheVariants as shape
use Rattle.epl_tree.specs.declared.statement.Place.{Place}
use Rattle.typed_program.specs.declared.expression.TypedExpr.{out-TypedExpr}
use Rattle.typed_program.specs.declared.expression.TypedNode.{TypedNode, TypedNode-F, out-TypedNode}
use Rattle.typed_program.specs.declared.expression.TypedNode.TheOpen as layer
use Rattle.typed_program.specs.declared.expression.TypedSuffix.{TypedSuffix}
use Rattle.typed_program.specs.declared.statement.Variable.{Variable}
use Rattle.typed_program.specs.declared.statement.Variable.TheVariants as variable
use Rattle.type_table.specs.declared.fault.CheckFault.{CheckFault}
use Rattle.type_table.specs.declared.fault.CheckFault.TheVariants as check
use Rattle.type_table.specs.declared.scope.Scope.{Scope}
use Rattle.type_table.specs.declared.table.Table.{Table}
use Rattle.type_table.specs.declared.table.MonitorHead.{MonitorHead}
use Rattle.type_table.specs.Found.{Found, first_of}
use Rattle.expr_rules.specs.declared.steps.Walk.{Walk}
use Rattle.expr_check.specs.declared.check.Target.{Target}
use Rattle.expr_rules.specs.Asked.{assigned}
use Rattle.expr_check.specs.Expressions.{step_of}
use Rattle.expr_rules.specs.Names.{seen, name_found}
use Rattle.expr_rules.specs.Postfix.{leads, walk_found}
use Rattle.expr_rules.specs.Then.{and_then, sound}

abbrev pub file_at : Option MonitorHead → ℕ
file_at (Some monitor) = monitor.file
file_at None = 0

-- the file of a monitor
abbrev pub file_of : Table → ℕ → ℕ
file_of table monitor = file_at (slice_get table.monitors monitor)

-- an answer of the check in a file: what is found, or exactly its first fault; want of memory is free
abbrev pub Checks : {A : Type 0} → ℕ → Result A CheckFault → Found A → Type 0
Checks file (Ok x) found = (found.faults ≡ []) × (found.part ≡ x)
Checks file (Err (check.Typing code at spot)) found = (at ≡ file) × (first_of found.faults ≡ Some (record { code = code; spot = spot }))
Checks file (Err check.Memory) found = Unit {0}

abbrev pub variable_layer : {A B C D E F : Type 0} → TypedNode-F A B C D E F → Variable
variable_layer (layer.Global n) = variable.Global n
variable_layer (layer.Local n) = variable.Local n
variable_layer n = variable.Local 0

abbrev pub variable_of : TypedNode → Variable
variable_of n = variable_layer (out-TypedNode n)

abbrev pub target_at : Variable → List TypedSuffix → Option Shape → Target
target_at v steps (Some s) = record { place = record { variable = v; shape = s; steps = steps }; known = true }
target_at v steps None = record { place = record { variable = v; shape = shape.Integer; steps = steps }; known = false }

-- what is assigned: its variable, its steps and its shape
abbrev pub target_of : Walk → Target
target_of walk = target_at (variable_of (out-TypedExpr walk.first).node) walk.suffixes walk.shape

abbrev pub target : Walk → Found Target
target walk = sound (target_of walk)

module _ (table : Table) (scope : Scope) where
  -- the variable of a place, and then each step
  abbrev pub place_walk : Place → Bool → Found Walk
  place_walk place changed = walk_found changed (λ demand. name_found place.spot demand (seen scope place.name)) (map (step_of table scope) place.steps) place.spot assigned

  -- a place that is assigned
  abbrev pub place_found : Place → Found Target
  place_found place = and_then (place_walk place (leads true (map (λ s. s.kind) (map (step_of table scope) place.steps)))) target
