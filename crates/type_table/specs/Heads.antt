-- The head of a monitor.
use Rattle.std.specs.Prelude.{ℕ, ◌+◌, min, Bool, false, ◌||◌, List, [], ◌∷◌, Option, Some, None, map, codes}
use Rattle.std.specs.Str.{bytes_eq}
use Rattle.epl_values.specs.declared.shape.Shape.{Shape}
use Rattle.epl_tree.specs.declared.unit.Member.{Member}
use Rattle.epl_tree.specs.declared.unit.Member.TheVariants as member
use Rattle.epl_tree.specs.declared.unit.GlobalDecl.{GlobalDecl}
use Rattle.epl_tree.specs.declared.unit.ActionDecl.{ActionDecl}
use Rattle.epl_tree.specs.declared.unit.MonitorDecl.{MonitorDecl}
use Rattle.epl_tree.specs.declared.unit.Param.{Param}
use Rattle.epl_tree.specs.declared.types.TypeExpr.{TypeExpr}
use Rattle.type_table.specs.declared.table.MonitorHead.{MonitorHead}
use Rattle.type_table.specs.declared.table.GlobalHead.{GlobalHead}
use Rattle.type_table.specs.declared.table.ActionHead.{ActionHead}
use Rattle.type_table.specs.declared.table.ParamHead.{ParamHead}
use Rattle.type_table.specs.declared.table.ResultHead.{ResultHead}
use Rattle.type_table.specs.declared.table.ResultHead.TheVariants as result
use Rattle.type_table.specs.Types.{type_by, known}

abbrev pub result_known : Option Shape → ResultHead
result_known None = result.Unknown
result_known (Some s) = result.Value s

module _ (number_of : List ℕ → Option ℕ) where
  abbrev pub global_head : GlobalDecl → GlobalHead
  global_head g = record { name = g.name.text; shape = known (type_by number_of g.shape) }

  abbrev pub param_head : Param → ParamHead
  param_head p = record { name = p.name.text; shape = known (type_by number_of p.shape) }

  abbrev pub result_head : Option TypeExpr → ResultHead
  result_head None = result.Nothing
  result_head (Some t) = result_known (known (type_by number_of t))

  abbrev pub action_head : ℕ → ActionDecl → ActionHead
  action_head number a = record { name = a.name.text; number = min 65535 number; params = map param_head a.params; result = result_head a.result }

  abbrev pub globals_in : List Member → List GlobalHead
  globals_in [] = []
  globals_in (member.Global g ∷ ms) = global_head g ∷ globals_in ms
  globals_in (member.Action a ∷ ms) = globals_in ms

  -- the actions, whose numbers begin with this one
  abbrev pub actions_from : ℕ → List Member → List ActionHead
  actions_from number [] = []
  actions_from number (member.Global g ∷ ms) = actions_from number ms
  actions_from number (member.Action a ∷ ms) = action_head number a ∷ actions_from (number + 1) ms

  -- the head of a monitor of a file, with the number of its first action
  abbrev pub monitor_head : ℕ → ℕ → MonitorDecl → MonitorHead
  monitor_head file first m = record { name = m.name.text; file = file; globals = globals_in m.members; actions = actions_from first m.members }

-- whether an action is named onload
abbrev pub is_onload : Member → Bool
is_onload (member.Global g) = false
is_onload (member.Action a) = bytes_eq a.name.text (codes "onload")

abbrev pub has_onload : List Member → Bool
has_onload [] = false
has_onload (m ∷ ms) = is_onload m || has_onload ms
