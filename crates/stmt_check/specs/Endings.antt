-- Whether a row of statements ends with a `return`: its last statement is one, or an `if` with `else` whose both parts end
-- so. A part in braces ends as its row does; a block that isn't such a part doesn't.
use Rattle.std.specs.Prelude.{Bool, true, false, ◌&&◌, List, [], ◌∷◌, map, Option, Some, None}
use Rattle.epl_tree.specs.declared.statement.Stmt.{Stmt, Stmt-F, fold-Stmt}
use Rattle.epl_tree.specs.declared.statement.StmtNode.{StmtNode-F}
use Rattle.epl_tree.specs.declared.statement.StmtNode.TheOpen as stmt

-- as the last statement of a row, and as a part of an `if`
pub record Ending : Type 0 where
  pub last : Bool
  pub part : Bool

abbrev pub last_ends : List Ending → Bool
last_ends [] = false
last_ends (s ∷ []) = s.last
last_ends (s ∷ t ∷ rest) = last_ends (t ∷ rest)

abbrev pub alike : Bool → Ending
alike b = record { last = b; part = b }

abbrev pub both_end : Ending → Option Ending → Bool
both_end part None = false
both_end part (Some other) = part.part && other.part

abbrev pub ending_node : StmtNode-F Ending (Unit {0}) Ending → Ending
ending_node (stmt.Return value) = alike true
ending_node (stmt.If test part other) = alike (both_end part other)
ending_node (stmt.Block parts) = record { last = false; part = last_ends parts }
ending_node s = alike false

abbrev pub ending_step : Stmt-F Ending (Unit {0}) Ending → Ending
ending_step s = s.node

abbrev pub ending_of : Stmt → Ending
ending_of = fold-Stmt Ending (Unit {0}) Ending ending_node (λ on. tt) ending_step

abbrev pub ends_with_return : List Stmt → Bool
ends_with_return stmts = last_ends (map ending_of stmts)
