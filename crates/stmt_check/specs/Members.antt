-- Members of a monitor, in order of the source.
use Rattle.std.specs.Prelude.{ℕ, nat_le, List, [], ◌∷◌, ◌++◌, length, Option, Some, None, codes}
use Rattle.std.specs.Option.{option_map}
use Rattle.epl_values.specs.declared.shape.Shape.{Shape}
use Rattle.epl_tree.specs.declared.expression.Expr.{Expr}
use Rattle.epl_tree.specs.declared.unit.GlobalDecl.{GlobalDecl}
use Rattle.epl_tree.specs.declared.unit.Member.{Member}
use Rattle.epl_tree.specs.declared.unit.Member.TheVariants as member
use Rattle.epl_tree.specs.declared.unit.MonitorDecl.{MonitorDecl}
use Rattle.typed_program.specs.declared.expression.TypedExpr.{TypedExpr}
use Rattle.typed_program.specs.declared.program.Monitor.{Monitor}
use Rattle.type_table.specs.declared.table.Table.{Table}
use Rattle.type_table.specs.declared.table.ActionHead.{ActionHead}
use Rattle.type_table.specs.Scopes.{start_of}
use Rattle.type_table.specs.Types.{type_found}
use Rattle.expr_check.specs.Expressions.{expr_found}
use Rattle.stmt_check.specs.declared.made.Made.{Made}
use Rattle.stmt_check.specs.Actions.{action_read, globals_before, member_codes}
use Rattle.stmt_check.specs.Bodies.{when, short, action_named}
use Rattle.stmt_check.specs.Statements.{exactly}
use Rattle.stmt_check.specs.Steps.{Reads, ◌>>=◌, pure, given, looks, tells, changes, optional}

-- 1 for the name, 4 for the 257th global
abbrev pub global_codes : Table → List Member → List ℕ → List ℕ
global_codes table before name = member_codes table before name ++ when (nat_le 256 (globals_before before)) 4

-- where no name and no action is visible
abbrev pub initial_read : Table → Shape → Expr → Reads Made TypedExpr
initial_read table shape e = looks (λ made. expr_found table (start_of table (short (length made.monitors)) None) e (exactly shape))

abbrev pub with_global : List ℕ → Shape → Option TypedExpr → Made → Made
with_global name shape initial made = record made { globals = made.globals ++ record { name = name; shape = shape; initial = initial } ∷ [] }

abbrev pub global_read : Table → List Member → GlobalDecl → Reads Made (Unit {0})
global_read table before g = given (type_found table g.shape) >>= λ shape. tells g.name.spot (λ made. global_codes table before g.name.text) >>= λ _. optional (option_map (initial_read table shape) g.initial) >>= λ initial. changes (λ made. record { part = tt; state = with_global g.name.text shape initial made })

-- a member behind others
abbrev pub member_read : Table → List Member → List Member → Member → Reads Made (Unit {0})
member_read table members before (member.Global g) = global_read table before g
member_read table members before (member.Action a) = action_read table members before a

abbrev pub members_read : Table → List Member → List Member → List Member → Reads Made (Unit {0})
members_read table members before [] = pure tt
members_read table members before (m ∷ rest) = member_read table members before m >>= λ _. members_read table members (before ++ m ∷ []) rest

abbrev pub number_of : Option ActionHead → Option ℕ
number_of None = None
number_of (Some action) = Some action.number

abbrev pub or_zero : Option ℕ → ℕ
or_zero None = 0
or_zero (Some n) = n

abbrev pub action_number : Table → Made → List ℕ → Option ℕ
action_number table made name = number_of (action_named table (short (length made.monitors)) name)

abbrev pub monitor_of : Table → List ℕ → Made → Monitor
monitor_of table name made = record { name = name; globals = made.globals; onload = or_zero (action_number table made (codes "onload")); ondie = action_number table made (codes "ondie") }

-- the monitor, with its globals
abbrev pub with_monitor : Table → List ℕ → Made → Made
with_monitor table name made = record made { monitors = made.monitors ++ monitor_of table name made ∷ []; globals = [] }

abbrev pub monitor_read : Table → MonitorDecl → Reads Made (Unit {0})
monitor_read table m = members_read table m.members [] m.members >>= λ _. changes (λ made. record { part = tt; state = with_monitor table m.name.text made })
