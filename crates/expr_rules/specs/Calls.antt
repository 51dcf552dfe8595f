-- Calls: arguments, events made of their fields, actions and contexts.
use Rattle.std.specs.Prelude.{ℕ, min, ◌==◌, ◌||◌, Bool, true, false, if◌then◌else◌, List, [], ◌∷◌, ◌++◌, map, length, slice_get, codes, Option, Some, None}
use Rattle.std.specs.Str.{bytes_eq}
use Rattle.span_text.specs.declared.spot.Spot.{Spot}
use Rattle.epl_values.specs.declared.shape.Shape.{Shape}
use Rattle.epl_values.specs.declared.shape.Shape.TheVariants as shape
use Rattle.epl_values.specs.declared.shape.Field.{Field}
use Rattle.epl_values.specs.declared.shape.EventShape.{EventShape}
use Rattle.typed_program.specs.declared.expression.TypedExpr.{TypedExpr}
use Rattle.typed_program.specs.declared.expression.TypedNode.{TypedNode}
use Rattle.typed_program.specs.declared.expression.TypedNode.TheVariants as made
use Rattle.type_table.specs.declared.scope.Scope.{Scope}
use Rattle.type_table.specs.declared.table.Table.{Table}
use Rattle.type_table.specs.declared.table.MonitorHead.{MonitorHead}
use Rattle.type_table.specs.declared.table.ActionHead.{ActionHead}
use Rattle.type_table.specs.declared.table.ParamHead.{ParamHead}
use Rattle.type_table.specs.declared.table.ResultHead.{ResultHead}
use Rattle.type_table.specs.declared.table.ResultHead.TheVariants as result
use Rattle.type_table.specs.Found.{Found}
use Rattle.type_table.specs.Table.{event_of, action_of}
use Rattle.expr_rules.specs.declared.asked.Paths.{Paths}
use Rattle.expr_rules.specs.declared.asked.Paths.TheVariants as paths
use Rattle.expr_rules.specs.declared.placed.Gives.{Gives}
use Rattle.expr_rules.specs.declared.placed.Gives.TheVariants as gives
use Rattle.expr_rules.specs.declared.placed.Judged.{Judged}
use Rattle.expr_rules.specs.declared.calls.Arguments.{Arguments}
use Rattle.expr_rules.specs.declared.calls.Callee.{Callee}
use Rattle.expr_rules.specs.declared.calls.CalleeKind.{CalleeKind}
use Rattle.expr_rules.specs.declared.calls.CalleeKind.TheVariants as callee
use Rattle.expr_rules.specs.declared.calls.CallPlan.{CallPlan}
use Rattle.expr_rules.specs.Asked.{Demand, Wish, Value, asked_by, fixing}
use Rattle.expr_rules.specs.Names.{item_at}
use Rattle.expr_rules.specs.Operators.{Part}
use Rattle.expr_rules.specs.Places.{stands}
use Rattle.expr_rules.specs.Then.{and_then, sound, through, lower}

-- what the argument behind those that stand is asked for; one too many is any value, and its place fixes no type
abbrev pub wish_at : Option (Option Shape) → Wish
wish_at None = Value
wish_at (Some s) = fixing s

abbrev pub next_wish : Arguments → Wish
next_wish arguments = wish_at (slice_get arguments.wants (length arguments.items))

abbrev pub argument_of : Arguments → Judged → Found Arguments
argument_of arguments j = sound (record { wants = arguments.wants; paths = arguments.paths; items = arguments.items ++ j.typed ∷ [] })

abbrev pub argument_found : Arguments → Part → Found Arguments
argument_found arguments part = and_then (part (asked_by (next_wish arguments) arguments.paths)) (argument_of arguments)

abbrev pub arguments_found : Arguments → List Part → Found Arguments
arguments_found start parts = through argument_found start parts

-- no arguments yet, of those that are asked for
abbrev pub no_arguments : Paths → List (Option Shape) → Arguments
no_arguments permitted wants = record { wants = wants; paths = permitted; items = [] }

-- 8: another number of arguments
abbrev pub count_code : Arguments → Option ℕ
count_code arguments = if length arguments.items == length arguments.wants then None else Some 8

abbrev pub field_wants : List Field → List (Option Shape)
field_wants fields = map (λ f. Some f.shape) fields

abbrev pub param_wants : List ParamHead → List (Option Shape)
param_wants params = map (λ p. p.shape) params

abbrev pub fields_at : Option EventShape → List Field
fields_at (Some t) = t.fields
fields_at None = []

abbrev pub is_callback : List ℕ → Bool
is_callback name = bytes_eq name (codes "onload") || bytes_eq name (codes "ondie")

-- 20: a call of `onload` or `ondie`
abbrev pub callback_code : List ℕ → Option ℕ
callback_code name = if is_callback name then Some 20 else None

abbrev pub result_given : ResultHead → Gives
result_given result.Nothing = gives.Nothing
result_given (result.Value s) = gives.Value s
result_given result.Unknown = gives.Unknown

abbrev pub action_in : Option MonitorHead → List ℕ → Option ActionHead
action_in (Some monitor) name = item_at monitor.actions (action_of monitor name)
action_in None name = None

-- the visible action of that name
abbrev pub action_named : Table → Scope → List ℕ → Option ActionHead
action_named table scope name = if scope.actions then action_in (slice_get table.monitors scope.monitor) name else None

-- an event made of its fields, in order
abbrev pub event_plan : ℕ → List Field → CallPlan
event_plan n fields = record { callee = record { kind = callee.Event n; own = None; counted = true; given = gives.Value (shape.Event n) }; start = no_arguments paths.Refused (field_wants fields) }

-- a call of an action
abbrev pub action_plan : ActionHead → CallPlan
action_plan action = record { callee = record { kind = callee.Action action.number; own = callback_code action.name; counted = true; given = result_given action.result }; start = no_arguments paths.NotOfGlobals (param_wants action.params) }

-- 6: a call of what isn't visible
abbrev pub missing_plan : CallPlan
missing_plan = record { callee = record { kind = callee.Action 0; own = Some 6; counted = false; given = gives.Unknown }; start = no_arguments paths.NotOfGlobals [] }

abbrev pub plan_of_action : Option ActionHead → CallPlan
plan_of_action (Some action) = action_plan action
plan_of_action None = missing_plan

-- what a name stands for before arguments; no program that is accepted has an event type past 999
abbrev pub plan_of : Table → Option ℕ → Option ActionHead → CallPlan
plan_of table (Some n) action = event_plan (min 65535 n) (fields_at (slice_get table.types n))
plan_of table None action = plan_of_action action

abbrev pub callee_node : CalleeKind → List TypedExpr → TypedNode
callee_node (callee.Event n) items = made.Event n items
callee_node (callee.Action n) items = made.Action n items

abbrev pub callee_code : Callee → Arguments → Option ℕ
callee_code c arguments = if c.counted then lower (count_code arguments) c.own else c.own

unfoldable pub call_stands : Spot → Demand → Callee → Arguments → Found Judged
call_stands spot demand c arguments = stands spot demand (callee_code c arguments) None c.given (callee_node c.kind arguments.items)

-- a call of what has a name: first the arguments
abbrev pub plan_found : CallPlan → List Part → Spot → Demand → Found Judged
plan_found plan parts spot demand = and_then (arguments_found plan.start parts) (call_stands spot demand plan.callee)

abbrev pub call_found : Table → Scope → List ℕ → List Part → Spot → Demand → Found Judged
call_found table scope name parts spot demand = plan_found (plan_of table (event_of table name) (action_named table scope name)) parts spot demand

-- a context: its name, and whether it takes events without a channel
abbrev pub context_wants : List (Option Shape)
context_wants = Some shape.Text ∷ Some shape.Boolean ∷ []

abbrev pub context_code : List TypedExpr → Option ℕ
context_code arguments = if length arguments == 1 || length arguments == 2 then None else Some 8

unfoldable pub context_stands : Spot → Demand → Arguments → Found Judged
context_stands spot demand arguments = stands spot demand (context_code arguments.items) None (gives.Value shape.Context) (made.Context arguments.items)

abbrev pub context_start : Arguments
context_start = no_arguments paths.Refused context_wants

abbrev pub context_found : List Part → Spot → Demand → Found Judged
context_found parts spot demand = and_then (arguments_found context_start parts) (context_stands spot demand)

abbrev pub call_paths : Bool → Paths
call_paths is_call = if is_call then paths.NotOfGlobals else paths.Refused

abbrev pub items_of : Arguments → Found (List TypedExpr)
items_of arguments = sound arguments.items

-- the arguments of an action, in a call or elsewhere
abbrev pub typed_arguments : Bool → List ParamHead → List Part → Found (List TypedExpr)
typed_arguments is_call params parts = and_then (arguments_found (no_arguments (call_paths is_call) (param_wants params)) parts) items_of
