-- Fields, elements and methods behind a value, left to right.
use Rattle.std.specs.Prelude.{min, ℕ, zero, suc, ◌-◌, ◌+◌, Bool, true, false, ◌&&◌, ◌==◌, if◌then◌else◌, List, [], ◌∷◌, ◌++◌, length, slice_get, Option, Some, None}
use Rattle.std.specs.List.{position}
use Rattle.std.specs.Str.{bytes_eq}
use Rattle.span_text.specs.declared.spot.Spot.{Spot}
use Rattle.epl_values.specs.declared.shape.Shape.{Shape, Shape-F, out-Shape}
use Rattle.epl_values.specs.declared.shape.Shape.TheVariants as shape
use Rattle.epl_values.specs.declared.shape.Shape.TheOpen as layer
use Rattle.epl_values.specs.declared.shape.Field.{Field}
use Rattle.epl_tree.specs.declared.expression.Suffix.{Suffix, out-Suffix}
use Rattle.epl_tree.specs.declared.expression.SuffixNode.{SuffixNode-F, out-SuffixNode}
use Rattle.epl_tree.specs.declared.expression.ExprNode.TheOpen as layers
use Rattle.typed_program.specs.declared.expression.TypedExpr.{TypedExpr, roll-TypedExpr}
use Rattle.typed_program.specs.declared.expression.TypedNode.TheVariants as made
use Rattle.typed_program.specs.declared.expression.TypedSuffix.{roll-TypedSuffix}
use Rattle.typed_program.specs.declared.expression.TypedSuffixNode.{TypedSuffixNode}
use Rattle.typed_program.specs.declared.expression.TypedSuffixNode.TheVariants as suffix
use Rattle.type_table.specs.declared.table.Table.{Table}
use Rattle.type_table.specs.Found.{Found}
use Rattle.expr_rules.specs.declared.placed.Gives.TheVariants as gives
use Rattle.expr_rules.specs.declared.placed.Root.{Root}
use Rattle.expr_rules.specs.declared.placed.Judged.{Judged}
use Rattle.expr_rules.specs.declared.methods.Called.{Called}
use Rattle.expr_rules.specs.declared.methods.MethodCall.{MethodCall}
use Rattle.expr_rules.specs.declared.methods.Reach.{Reach}
use Rattle.expr_rules.specs.declared.calls.Arguments.{Arguments}
use Rattle.expr_rules.specs.declared.steps.Walk.{Walk}
use Rattle.expr_rules.specs.declared.steps.StepKind.{StepKind}
use Rattle.expr_rules.specs.declared.steps.StepKind.TheVariants as step
use Rattle.expr_rules.specs.Asked.{Demand, Wish, Value, Exactly, plain, receiver}
use Rattle.expr_rules.specs.Calls.{arguments_found, fields_at}
use Rattle.expr_rules.specs.Methods.{method_named, is_change, called_of, method_reach}
use Rattle.expr_rules.specs.Operators.{Part}
use Rattle.expr_rules.specs.Places.{placed, shape_of_expr}
use Rattle.expr_rules.specs.Then.{and_then, sound, through, node}

abbrev pub method_kind : Bool → StepKind
method_kind true = step.Change
method_kind false = step.Other

-- fields and elements, methods that change their object, and others
abbrev pub kind_layer : {A B C D E F : Type 0} → SuffixNode-F A B C D E F → StepKind
kind_layer (layers.Field name) = step.Inner
kind_layer (layers.Index e) = step.Inner
kind_layer (layers.Method name arguments) = method_kind (is_change (method_named name))

abbrev pub kind_of : Suffix → StepKind
kind_of s = kind_layer (out-SuffixNode (out-Suffix s).node)

-- whether the steps lead, by fields and elements alone, to what is changed
abbrev pub leads : Bool → List StepKind → Bool
leads changed [] = changed
leads changed (step.Inner ∷ kinds) = leads changed kinds
leads changed (step.Change ∷ kinds) = true
leads changed (step.Other ∷ kinds) = false

abbrev pub with_changed : Bool → Demand → Demand
with_changed changed demand = record { wish = demand.wish; paths = demand.paths; changed = changed; signed = false; assigned = demand.assigned; astray = demand.astray }

-- what is asked of a value with so many steps behind it: the last has what the place asks
abbrev pub demand_before : Bool → Demand → ℕ → Demand
demand_before changed demand zero = with_changed changed demand
demand_before changed demand (suc n) = receiver changed

abbrev pub walk_start : Judged → Walk
walk_start j = record { first = j.typed; suffixes = []; shape = shape_of_expr j.typed; root = j.root }

abbrev pub walked : Walk → Option Root → TypedSuffixNode → Option Shape → Found Walk
walked walk root node s = sound (record { first = walk.first; suffixes = walk.suffixes ++ roll-TypedSuffix record { shape = s; node = node } ∷ []; shape = s; root = root })

-- a step at its place
abbrev pub reached : Spot → Demand → Option Root → Walk → Reach → Found Walk
reached spot demand root walk reach = and_then (placed spot demand reach.own root reach.given) (walked walk root reach.node)

-- a field that isn't known, and its code
abbrev pub missing_field : Option ℕ → Reach
missing_field own = record { own = own; given = gives.Unknown; node = suffix.Field 0 }

-- the field of an event
abbrev pub field_reach : ℕ → Option Field → Reach
field_reach n None = missing_field (Some 7)
field_reach n (Some f) = record { own = None; given = gives.Value f.shape; node = suffix.Field (min 65535 n) }

abbrev pub field_at : List Field → Option ℕ → Reach
field_at fields None = missing_field (Some 7)
field_at fields (Some n) = field_reach n (slice_get fields n)

abbrev pub place_of : List Field → List ℕ → Option ℕ
place_of fields name = position (λ f. bytes_eq f.name name) fields

abbrev pub field_named : List Field → List ℕ → Reach
field_named fields name = field_at fields (place_of fields name)

abbrev pub field_in : Table → Shape-F Shape → List ℕ → Reach
field_in table (layer.Event n) name = field_named (fields_at (slice_get table.types n)) name
field_in table s name = missing_field (Some 7)

-- 7 where the type doesn't have the field
unfoldable pub field_of : Table → Option Shape → List ℕ → Reach
field_of table None name = missing_field None
field_of table (Some s) name = field_in table (out-Shape s) name

abbrev pub field_found : Table → List ℕ → Spot → Demand → Walk → Found Walk
field_found table name spot demand walk = reached spot demand walk.root walk (field_of table walk.shape name)

-- what is asked of an index
abbrev pub index_wish_layer : Shape-F Shape → Wish
index_wish_layer (layer.Sequence item) = Exactly shape.Integer
index_wish_layer (layer.Dictionary key value) = Exactly key
index_wish_layer s = Value

unfoldable pub index_wish : Option Shape → Wish
index_wish None = Value
index_wish (Some s) = index_wish_layer (out-Shape s)

abbrev pub unknown_element : Option ℕ → TypedExpr → Reach
unknown_element own e = record { own = own; given = gives.Unknown; node = suffix.Item e }

abbrev pub element_of_shape : Shape → TypedSuffixNode → Reach
element_of_shape s node = record { own = None; given = gives.Value s; node = node }

abbrev pub element_reach_layer : Shape-F Shape → TypedExpr → Reach
element_reach_layer (layer.Sequence item) e = element_of_shape item (suffix.Item e)
element_reach_layer (layer.Dictionary key value) e = element_of_shape value (suffix.Key e)
element_reach_layer s e = unknown_element (Some 10) e

-- the element of a sequence or a dictionary; 10 of another type
unfoldable pub element_reach : Option Shape → TypedExpr → Reach
element_reach None e = unknown_element None e
element_reach (Some s) e = element_reach_layer (out-Shape s) e

-- 4: the 65th index of a place that is changed
abbrev pub is_far : Bool → Option Root → Bool
is_far changed None = false
is_far changed (Some root) = changed && (root.left == 0)

abbrev pub nearer : Option Root → Option Root
nearer None = None
nearer (Some root) = Some (record { kind = root.kind; reference = root.reference; left = root.left - 1 })

abbrev pub near : Spot → Bool → Option Root → Found (Option Root)
near own changed root = node own (if is_far changed root then 4 ∷ [] else []) (nearer root)

abbrev pub element_stands : Spot → Demand → Walk → Judged → Option Root → Found Walk
element_stands spot demand walk j root = reached spot demand root walk (element_reach walk.shape j.typed)

unfoldable pub element_step : Spot → Spot → Demand → Walk → Judged → Found Walk
element_step own spot demand walk j = and_then (near own demand.changed walk.root) (element_stands spot demand walk j)

abbrev pub index_found : Part → Spot → Spot → Demand → Walk → Found Walk
index_found part own spot demand walk = and_then (part (plain (index_wish walk.shape))) (element_step own spot demand walk)

unfoldable pub method_stands : Spot → Demand → Walk → Called → Arguments → Found Walk
method_stands spot demand walk called arguments = reached spot demand None walk (method_reach called walk.root arguments)

abbrev pub called_found : MethodCall → List Part → Spot → Demand → Walk → Found Walk
called_found call parts spot demand walk = and_then (arguments_found call.start parts) (method_stands spot demand walk call.called)

abbrev pub method_found : List ℕ → List Part → Spot → Demand → Walk → Found Walk
method_found name parts spot demand walk = called_found (called_of walk.shape (method_named name)) parts spot demand walk

-- a step: what it is, and what it comes to at its own spot
pub record Step : Type 0 where
  pub kind : StepKind
  pub found : Spot → Demand → Walk → Found Walk

-- a step of so many
abbrev pub step_found : Spot → Bool → Demand → ℕ → Walk → Step → Found Walk
step_found spot changed demand count walk s = s.found spot (demand_before changed demand (count - (length walk.suffixes + 1))) walk

abbrev pub steps_found : Spot → Bool → Demand → Walk → List Step → Found Walk
steps_found spot changed demand walk steps = through (step_found spot changed demand (length steps)) walk steps

unfoldable pub postfix_of : Walk → Found Judged
postfix_of walk = sound (record { typed = roll-TypedExpr record { shape = walk.shape; node = made.Postfix walk.first walk.suffixes }; root = walk.root; signed = false })

-- the steps behind a value
unfoldable pub walked_from : Spot → Bool → Demand → List Step → Judged → Found Walk
walked_from spot changed demand steps j = steps_found spot changed demand (walk_start j) steps

abbrev pub walk_found : Bool → Part → List Step → Spot → Demand → Found Walk
walk_found changed part steps spot demand = and_then (part (demand_before changed demand (length steps))) (walked_from spot changed demand steps)

-- the steps behind a value, and what is made of them
unfoldable pub postfix_rest : Bool → List Step → Spot → Demand → Judged → Found Judged
postfix_rest changed steps spot demand j = and_then (walked_from spot changed demand steps j) postfix_of

abbrev pub postfix_found : Bool → Part → List Step → Spot → Demand → Found Judged
postfix_found changed part steps spot demand = and_then (part (demand_before changed demand (length steps))) (postfix_rest changed steps spot demand)
