-- Statements that aren't built: `spawn`, `route`, `send` and `monitor.`. What stands inside of them isn't looked at.
use Rattle.std.specs.Prelude.{List, [], ◌∷◌, ◌++◌, map, Option, Some, None}
use Rattle.epl_tree.specs.declared.statement.Place.{Place}
use Rattle.epl_tree.specs.declared.statement.Stmt.{Stmt, Stmt-F, fold-Stmt}
use Rattle.epl_tree.specs.declared.statement.StmtNode.{StmtNode-F}
use Rattle.epl_tree.specs.declared.statement.StmtNode.TheOpen as stmt
use Rattle.epl_tree.specs.declared.statement.Listening.{Listening, Listening-F, fold-Listening}
use Rattle.built_forms.specs.Rows.{joined}
use Rattle.built_forms.specs.Expressions.{Spots, At, missing_in, missing_in_suffix, missing_in_optional}
use Rattle.built_forms.specs.Events.{missing_in_event}

-- what is assigned: its steps
abbrev pub missing_in_place : Place → Spots
missing_in_place place = joined (map missing_in_suffix place.steps)

-- of a part that may be left out
abbrev pub if_any : Option Spots → Spots
if_any None = []
if_any (Some spots) = spots

-- the parts of a statement in their order, or the statement itself
abbrev pub stmt_node : StmtNode-F At Spots Spots → At
stmt_node (stmt.Block parts) spot = joined parts
stmt_node (stmt.On on) spot = on
stmt_node (stmt.Declare type name) spot = []
stmt_node (stmt.DeclareAs type name value) spot = missing_in value
stmt_node (stmt.DeclareOn type name on) spot = on
stmt_node (stmt.Assign place value) spot = missing_in_place place ++ missing_in value
stmt_node (stmt.AssignOn place on) spot = missing_in_place place ++ on
stmt_node (stmt.If test part other) spot = missing_in test ++ (part ++ if_any other)
stmt_node (stmt.While test parts) spot = missing_in test ++ joined parts
stmt_node (stmt.For name items parts) spot = missing_in items ++ joined parts
stmt_node stmt.Break spot = []
stmt_node stmt.Continue spot = []
stmt_node (stmt.Return value) spot = missing_in_optional value
stmt_node stmt.Die spot = []
stmt_node (stmt.Print text) spot = missing_in text
stmt_node (stmt.Log text level) spot = missing_in text
stmt_node (stmt.Route value) spot = spot ∷ []
stmt_node (stmt.Send value to) spot = spot ∷ []
stmt_node (stmt.Spawn text args to) spot = spot ∷ []
stmt_node (stmt.Monitor text args) spot = spot ∷ []
stmt_node (stmt.Call e) spot = missing_in e

-- the event expression, and the callback behind it
abbrev pub listening_step : Listening-F At Spots Spots → Spots
listening_step on = missing_in_event on.event ++ on.callback

-- a statement by its node
abbrev pub stmt_step : Stmt-F At Spots Spots → Spots
stmt_step s = s.node s.spot

-- the forms in a statement that aren't built
abbrev pub missing_in_stmt : Stmt → Spots
missing_in_stmt = fold-Stmt At Spots Spots stmt_node listening_step stmt_step

-- in a listener
abbrev pub missing_in_listening : Listening → Spots
missing_in_listening = fold-Listening At Spots Spots stmt_node listening_step stmt_step

-- statements in a row
abbrev pub missing_in_body : List Stmt → Spots
missing_in_body stmts = joined (map missing_in_stmt stmts)
