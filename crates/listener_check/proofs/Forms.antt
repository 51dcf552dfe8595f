-- Chains that are taken apart: how each of them is read.
use Rattle.std.proofs.Common.{◌≡◌, ℕ, List, Bool, Result, map, ap, sym, subst, ◌∙◌}
use Rattle.span_text.specs.declared.spot.Spot.{Spot}
use Rattle.epl_tree.specs.declared.event.EventExpr.{EventExpr}
use Rattle.epl_tree.specs.declared.event.EventNode.{EventNode}
use Rattle.epl_tree.specs.declared.event.EventNode.TheVariants as node
use Rattle.epl_tree.specs.declared.event.EventNode.TheOpen as layer
use Rattle.epl_tree.specs.declared.event.EventNode.TheFolds.{fold-EventNode, fold-roll-EventNode, fold-roll-EventExpr}
use Rattle.typed_program.specs.declared.term.Term.{Term}
use Rattle.type_table.specs.declared.fault.Refusal.{Refusal}
use Rattle.type_table.specs.declared.scope.Scope.{Scope}
use Rattle.type_table.specs.declared.table.Table.{Table}
use Rattle.listener_check.specs.declared.sofar.Sofar.{Sofar}
use Rattle.listener_check.specs.Went.{Goes}
use Rattle.listener_check.specs.Terms.{Part, plain, part_of, node_step, expr_step, followed_read, or_read, xor_read, and_read}

-- a part by what it is
pub goes-as : (p q : Part) (r : Result Term Refusal) (may under : Bool) (left : List (List ℕ)) (s after : Sofar) → p ≡ q → Goes r (q.reading may under left s) after → Goes r (p.reading may under left s) after
goes-as p q r may under left s after is h = subst (λ (x : Part). Goes r (x.reading may under left s) after) (sym is) h

module _ (table : Table) (scope : Scope) (inner : Scope) where
  node_at : EventNode → Spot → Part
  node_at = fold-EventNode (Spot → Part) Part (node_step table scope inner) (expr_step table scope inner)

  abbrev part : EventExpr → Part
  part = part_of table scope inner

  part-node : (tree : EventExpr) (n : EventNode) → tree.node ≡ n → part tree ≡ node_at n tree.spot
  unfolding node_at
  part-node tree n is = fold-roll-EventExpr (Spot → Part) Part (node_step table scope inner) (expr_step table scope inner) (record { spot = tree.spot; node = tree.node }) ∙ ap (λ m. node_at m tree.spot) is

  pub part-followed : (tree : EventExpr) (first : EventExpr) (rest : List EventExpr) → tree.node ≡ node.Followed first rest → part_of table scope inner tree ≡ plain (followed_read (part_of table scope inner first) (map (part_of table scope inner) rest))
  unfolding node_at
  part-followed tree first rest is = part-node tree (node.Followed first rest) is ∙ ap (λ n. node_at n tree.spot) (sym (node.rolls-Followed first rest)) ∙ ap (λ (f : Spot → Part). f tree.spot) (fold-roll-EventNode (Spot → Part) Part (node_step table scope inner) (expr_step table scope inner) (layer.Followed first rest))

  pub part-or : (tree : EventExpr) (first : EventExpr) (rest : List EventExpr) → tree.node ≡ node.Or first rest → part_of table scope inner tree ≡ plain (or_read (part_of table scope inner first) (map (part_of table scope inner) rest))
  unfolding node_at
  part-or tree first rest is = part-node tree (node.Or first rest) is ∙ ap (λ n. node_at n tree.spot) (sym (node.rolls-Or first rest)) ∙ ap (λ (f : Spot → Part). f tree.spot) (fold-roll-EventNode (Spot → Part) Part (node_step table scope inner) (expr_step table scope inner) (layer.Or first rest))

  pub part-xor : (tree : EventExpr) (first : EventExpr) (rest : List EventExpr) → tree.node ≡ node.Xor first rest → part_of table scope inner tree ≡ plain (xor_read (part_of table scope inner first) (map (part_of table scope inner) rest))
  unfolding node_at
  part-xor tree first rest is = part-node tree (node.Xor first rest) is ∙ ap (λ n. node_at n tree.spot) (sym (node.rolls-Xor first rest)) ∙ ap (λ (f : Spot → Part). f tree.spot) (fold-roll-EventNode (Spot → Part) Part (node_step table scope inner) (expr_step table scope inner) (layer.Xor first rest))

  pub part-and : (tree : EventExpr) (first : EventExpr) (rest : List EventExpr) → tree.node ≡ node.And first rest → part_of table scope inner tree ≡ plain (and_read (part_of table scope inner first) (map (part_of table scope inner) rest))
  unfolding node_at
  part-and tree first rest is = part-node tree (node.And first rest) is ∙ ap (λ n. node_at n tree.spot) (sym (node.rolls-And first rest)) ∙ ap (λ (f : Spot → Part). f tree.spot) (fold-roll-EventNode (Spot → Part) Part (node_step table scope inner) (expr_step table scope inner) (layer.And first rest))
