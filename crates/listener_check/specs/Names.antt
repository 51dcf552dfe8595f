-- Which names an expression names: those of variables, at any depth.
use Rattle.std.specs.Prelude.{ℕ, Bool, false, ◌||◌, List, [], ◌∷◌, map}
use Rattle.epl_tree.specs.declared.expression.Expr.{Expr, Expr-F, fold-Expr}
use Rattle.epl_tree.specs.declared.expression.ExprNode.{ExprNode-F}
use Rattle.epl_tree.specs.declared.expression.ExprNode.TheOpen as node
use Rattle.epl_tree.specs.declared.expression.SuffixNode.{SuffixNode-F}
use Rattle.epl_tree.specs.declared.expression.Entry.{Entry, Entry-F, fold-Entry}
use Rattle.epl_tree.specs.declared.expression.Link.{Link, Link-F, fold-Link}
use Rattle.epl_tree.specs.declared.expression.Suffix.{Suffix, Suffix-F, fold-Suffix}

abbrev pub some_of : List Bool → Bool
some_of [] = false
some_of (b ∷ bs) = b || some_of bs

module _ (wanted : List ℕ → Bool) where
  abbrev pub node_step : ExprNode-F Bool Bool Bool Bool Bool Bool → Bool
  node_step (node.Or first rest) = first || some_of rest
  node_step (node.Xor first rest) = first || some_of rest
  node_step (node.And first rest) = first || some_of rest
  node_step (node.Not e) = e
  node_step (node.Compare left c right) = left || right
  node_step (node.Sum first links) = first || some_of links
  node_step (node.Product first links) = first || some_of links
  node_step (node.Minus e) = e
  node_step (node.Postfix first suffixes) = first || some_of suffixes
  node_step (node.Integer digits) = false
  node_step (node.Quoted text) = false
  node_step (node.Boolean b) = false
  node_step (node.Name name) = wanted name
  node_step (node.Call name arguments) = some_of arguments
  node_step (node.Sequence items) = some_of items
  node_step (node.Dictionary entries) = some_of entries
  node_step (node.New shape) = false
  node_step (node.Context arguments) = some_of arguments
  node_step node.ContextCurrent = false
  node_step (node.Group e) = e

  abbrev pub suffix_node_step : SuffixNode-F Bool Bool Bool Bool Bool Bool → Bool
  suffix_node_step (node.Field name) = false
  suffix_node_step (node.Method name arguments) = some_of arguments
  suffix_node_step (node.Index e) = e

  abbrev pub entry_step : Entry-F Bool Bool Bool Bool Bool Bool → Bool
  entry_step e = e.key || e.value

  abbrev pub expr_step : Expr-F Bool Bool Bool Bool Bool Bool → Bool
  expr_step e = e.node

  abbrev pub link_step : Link-F Bool Bool Bool Bool Bool Bool → Bool
  link_step l = l.operand

  abbrev pub suffix_step : Suffix-F Bool Bool Bool Bool Bool Bool → Bool
  suffix_step s = s.node

  abbrev pub mentions : Expr → Bool
  mentions = fold-Expr Bool Bool Bool Bool Bool Bool node_step suffix_node_step entry_step expr_step link_step suffix_step

  abbrev pub link_mentions : Link → Bool
  link_mentions = fold-Link Bool Bool Bool Bool Bool Bool node_step suffix_node_step entry_step expr_step link_step suffix_step

  abbrev pub suffix_mentions : Suffix → Bool
  suffix_mentions = fold-Suffix Bool Bool Bool Bool Bool Bool node_step suffix_node_step entry_step expr_step link_step suffix_step

  abbrev pub entry_mentions : Entry → Bool
  entry_mentions = fold-Entry Bool Bool Bool Bool Bool Bool node_step suffix_node_step entry_step expr_step link_step suffix_step

  abbrev pub some_mention : List Expr → Bool
  some_mention es = some_of (map mentions es)

  abbrev pub some_link_mentions : List Link → Bool
  some_link_mentions links = some_of (map link_mentions links)

  abbrev pub some_suffix_mentions : List Suffix → Bool
  some_suffix_mentions suffixes = some_of (map suffix_mentions suffixes)

  abbrev pub some_entry_mentions : List Entry → Bool
  some_entry_mentions entries = some_of (map entry_mentions entries)
