-- What is kept of the event types while a program is gathered.
use Rattle.std.specs.Prelude.{false, true, List, map, length, ◌≡◌}
use Rattle.epl_tree.specs.declared.unit.EventDecl.{EventDecl}
use Rattle.type_table.specs.declared.depths.Depths.{Depths}
use Rattle.type_table.specs.Chains.{leads_on, wider, turns}
use Rattle.type_table.specs.Pending.{ArePending}

-- tables of which event types hold a context or a listener, of how many fields they have, and of which may be in a cycle
pub record AreDepths (kinds : List EventDecl) (depths : Depths) : Type 0 where
  pub holding : depths.holding.items ≡ turns (length kinds) (leads_on kinds true (λ name. false)) (map (λ (e : EventDecl). false) kinds)
  pub widths : depths.widths.items ≡ turns (length kinds) (wider kinds) (map (λ (e : EventDecl). 257) kinds)
  pub pending : ArePending kinds depths.pending.items
