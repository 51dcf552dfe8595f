-- What expressions may name, and the calls that they make.
use Rattle.std.proofs.Common.{◌≡◌}
use Rattle.typed_runs.proofs.Common.{ℕ, true, List, Some, slice_get, Shape, Value, Program, Action, stands, Names, default_of, Calls, Fit, AllFit, MayFit, globals_in, Keeps}

-- what may be named: these globals, locals and actions
abbrev pub named : Program → ℕ → List Shape → List Shape → List Action → Names
named program monitor globals locals actions = record { types = program.types; globals = globals; locals = locals; monitor = monitor; actions = actions }

-- calls of actions of one monitor keep the shapes of variables
abbrev pub CallsKeep : Program → Calls → Type 0
CallsKeep program call = (n : ℕ) (action : Action) → slice_get program.actions n ≡ Some action → (room : List Shape) (values : List Value) → AllFit program.types values action.params → Keeps program action.monitor room (λ v. MayFit program.types v action.result) (call n values)

-- what is named is there, and the calls keep the shapes of variables
pub record Seen (program : Program) (monitor : ℕ) (room globals locals : List Shape) (actions : List Action) (call : Calls) : Type 0 where
  pub globals_there : (n : ℕ) (s : Shape) → slice_get globals n ≡ Some s → slice_get (globals_in program monitor) n ≡ Some s
  pub locals_there : (n : ℕ) (s : Shape) → slice_get locals n ≡ Some s → slice_get room n ≡ Some s
  pub actions_there : (n : ℕ) (action : Action) → slice_get actions n ≡ Some action → slice_get program.actions n ≡ Some action
  pub calls_keep : CallsKeep program call
  pub begins : (s : Shape) → stands program.types s ≡ true → Fit program.types (default_of program.types s) s
