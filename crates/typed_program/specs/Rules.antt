-- Monitors and actions that keep the rules of names, paths, changes and ends.
use Rattle.std.specs.Prelude.{◌≡◌, ◌&&◌, ◌||◌, ◌∷◌}
use Rattle.typed_program.specs.Common.{ℕ, suc, Bool, true, not, List, [], Option, Some, None, is_some, slice_get, list_all, Shape}
use Rattle.typed_program.specs.declared.expression.TypedExpr.{TypedExpr}
use Rattle.typed_program.specs.declared.program.Program.{Program}
use Rattle.typed_program.specs.declared.program.Monitor.{Monitor}
use Rattle.typed_program.specs.declared.program.Action.{Action}
use Rattle.typed_program.specs.Programs.{action_names}
use Rattle.typed_program.specs.Paths.{Visible, Held, Sight, plain, path_of}
use Rattle.typed_program.specs.Courses.{runs, ends_with_return}

abbrev pub list_of : Option ℕ → List ℕ
list_of None = []
list_of (Some n) = n ∷ []

-- the actions that no other one calls or spawns
abbrev pub specials : Option Monitor → List ℕ
specials None = []
specials (Some m) = m.onload ∷ list_of m.ondie

abbrev pub special_in : Program → ℕ → List ℕ
special_in program monitor = specials (slice_get program.monitors monitor)

-- parameters, whose numbers begin with this one
abbrev pub params_from : ℕ → List Shape → List Visible
params_from n [] = []
params_from n (s ∷ ss) = record { number = n; kind = Held } ∷ params_from (suc n) ss

-- the body of an action where its parameters are visible
abbrev pub action_lawful : Program → Action → Bool
action_lawful program action = runs (action_names program action) program.sites (special_in program action.monitor) 0 action.body (params_from 0 action.params) && (not (is_some action.result) || ends_with_return action.body)

abbrev pub nothing_visible : Sight
nothing_visible = record { visible = []; special = [] }

abbrev pub initial_lawful : Option TypedExpr → Bool
initial_lawful None = true
initial_lawful (Some e) = plain (path_of nothing_visible e)

abbrev pub monitor_lawful : Monitor → Bool
monitor_lawful m = list_all (λ g. initial_lawful g.initial) m.globals

pub record KeepsRules (program : Program) : Type 0 where
  pub monitors : list_all monitor_lawful program.monitors ≡ true
  pub actions : list_all (action_lawful program) program.actions ≡ true
