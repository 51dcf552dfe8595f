-- Actions: the name with its own codes, the parameters, the type of the result, and the body.
use Rattle.std.specs.Prelude.{ℕ, ◌+◌, ◌==◌, Bool, true, false, ◌&&◌, ◌||◌, not, nat_le, count_by, List, [], ◌∷◌, ◌++◌, length, map, Option, Some, is_some}
use Rattle.std.specs.List.{list_any}
use Rattle.std.specs.Option.{option_map}
use Rattle.std.specs.Str.{bytes_eq}
use Rattle.epl_values.specs.declared.shape.Shape.{Shape}
use Rattle.epl_tree.specs.declared.statement.Stmt.{Stmt as Tree}
use Rattle.epl_tree.specs.declared.unit.ActionDecl.{ActionDecl}
use Rattle.epl_tree.specs.declared.unit.Member.{Member}
use Rattle.epl_tree.specs.declared.unit.Member.TheVariants as member
use Rattle.epl_tree.specs.declared.unit.Param.{Param}
use Rattle.typed_program.specs.declared.program.Action.{Action}
use Rattle.typed_program.specs.declared.statement.Stmt.{Stmt}
use Rattle.type_table.specs.declared.table.Table.{Table}
use Rattle.type_table.specs.Found.{Found}
use Rattle.type_table.specs.Scopes.{start_of}
use Rattle.type_table.specs.Table.{event_of}
use Rattle.type_table.specs.Types.{type_found}
use Rattle.stmt_check.specs.declared.made.Made.{Made}
use Rattle.stmt_check.specs.declared.state.State.{State}
use Rattle.stmt_check.specs.Bodies.{Around, when, short, is_special}
use Rattle.stmt_check.specs.Endings.{ends_with_return}
use Rattle.stmt_check.specs.Statements.{part_of, row_read}
use Rattle.stmt_check.specs.Steps.{After, Reads, ◌>>=◌, given, tells, changes, within, reads_by, each, optional}

abbrev pub name_of : Member → List ℕ
name_of (member.Global g) = g.name.text
name_of (member.Action a) = a.name.text

unfoldable pub is_global : Member → Bool
is_global (member.Global g) = true
is_global (member.Action a) = false

-- whether a member has this name; whether it is a global of this name
abbrev pub is_named : List ℕ → Member → Bool
is_named name m = bytes_eq (name_of m) name

abbrev pub is_global_named : List ℕ → Member → Bool
is_global_named name m = is_global m && is_named name m

abbrev pub globals_before : List Member → ℕ
globals_before before = count_by is_global before

abbrev pub actions_before : List Member → ℕ
actions_before before = count_by (λ m. not (is_global m)) before

-- 1: an earlier member or an event type has the name
abbrev pub member_codes : Table → List Member → List ℕ → List ℕ
member_codes table before name = when (list_any (is_named name) before || is_some (event_of table name)) 1

-- ---- parameters

abbrev pub is_param_named : List ℕ → Param → Bool
is_param_named name p = bytes_eq p.name.text name

-- 1 for the name of an earlier parameter or of any global of the monitor, 4 for the 65th parameter
abbrev pub param_codes : List Member → List Param → List ℕ → List ℕ
param_codes members before name = when (list_any (is_param_named name) before || list_any (is_global_named name) members) 1 ++ when (nat_le 64 (length before)) 4

-- a parameter behind others
abbrev pub param_read : Table → List Member → Param → Reads (List Param) Shape
param_read table members p = given (type_found table p.shape) >>= λ shape. tells p.name.spot (λ before. param_codes members before p.name.text) >>= λ _. changes (λ before. record { part = shape; state = before ++ p ∷ [] })

abbrev pub alone : {S A : Type 0} → Found (After S A) → Found A
alone found = record { faults = found.faults; part = found.part.part }

unfoldable pub params_found : Table → List Member → List Param → Found (List Shape)
params_found table members params = alone (each (map (param_read table members) params) [])

-- ---- actions

-- 1 and 4 for the name and the limits, 5 for the form of onload and ondie, 16 for a result without `return` at the end
unfoldable pub action_codes : Table → List Member → ActionDecl → Made → List ℕ
action_codes table before a made =
    member_codes table before a.name.text
    ++ when (nat_le 256 (actions_before before) || nat_le 65535 (length made.actions + length made.sites)) 4
    ++ when (is_special a.name.text && (not (length a.params == 0) || is_some a.result)) 5
    ++ when (is_some a.result && not (ends_with_return a.body)) 16

abbrev pub body_around : Table → Option Shape → Made → Around
body_around table result made = record { table = table; bodies = length made.actions + 1; callbacks = 0; result = result; looped = false }

abbrev pub body_start : Table → List Member → List Shape → Made → State
body_start table before params made = record { scope = start_of table (short (length made.monitors)) (Some (short (actions_before before))); locals = []; next = short (length params); whole = 0; sites = made.sites }

abbrev pub action_of : Made → List Shape → Option Shape → After State (List Stmt) → Action
action_of made params result after = record { monitor = short (length made.monitors); params = params; result = result; locals = after.state.locals; body = after.part }

abbrev pub body_end : List Shape → Option Shape → Made → After State (List Stmt) → After Made (Unit {0})
body_end params result made after = record { part = tt; state = record made { actions = made.actions ++ action_of made params result after ∷ []; sites = after.state.sites } }

abbrev pub body_read : Table → List Member → List Tree → List Shape → Option Shape → Reads Made (Unit {0})
body_read table before body params result = reads_by (λ made. within (body_start table before params) (body_end params result) (row_read (body_around table result made) (map part_of body)))

abbrev pub action_read : Table → List Member → List Member → ActionDecl → Reads Made (Unit {0})
action_read table members before a = tells a.name.spot (action_codes table before a) >>= λ _. given (params_found table members a.params) >>= λ params. optional (option_map (λ t. given (type_found table t)) a.result) >>= λ result. body_read table before a.body params result
