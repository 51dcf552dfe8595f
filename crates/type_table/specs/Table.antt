-- What a name stands for: the first of that name.
use Rattle.std.specs.Prelude.{ℕ, List, Option, map}
use Rattle.std.specs.List.{position}
use Rattle.std.specs.Str.{bytes_eq}
use Rattle.type_table.specs.Names.{number_in}
use Rattle.type_table.specs.declared.table.Table.{Table}
use Rattle.type_table.specs.declared.table.MonitorHead.{MonitorHead}
use Rattle.type_table.specs.declared.scope.Scope.{Scope}

-- the number of the event type of a name
abbrev pub event_of : Table → List ℕ → Option ℕ
event_of table name = number_in (map (λ t. t.name) table.types) name

-- the place of the action of a name among those of its monitor
abbrev pub action_of : MonitorHead → List ℕ → Option ℕ
action_of monitor name = position (λ a. bytes_eq a.name name) monitor.actions

-- the place of a visible name
abbrev pub seen_of : Scope → List ℕ → Option ℕ
seen_of scope name = position (λ s. bytes_eq s.name name) scope.names
