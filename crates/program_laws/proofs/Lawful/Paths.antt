-- The path of a typed expression, by its node: its shape is the expression's.
use Rattle.std.proofs.Common.{◌≡◌}
use Rattle.program_laws.proofs.Common.{Option, Some, None, refl, sym, ap, ◌∙◌, Shape, Operator, TypedExpr, out-TypedExpr, roll-TypedExpr, out-roll-TypedExpr, fold-roll-TypedExpr, fold_out-TypedExpr, TypedNode, TypedNode-F, map-TypedNode, roll-TypedNode, out-TypedNode, fold-TypedNode, fold-roll-TypedNode, TypedEntry, roll-TypedEntry, fold-TypedEntry, fold-roll-TypedEntry, TypedLink, roll-TypedLink, fold-TypedLink, fold-roll-TypedLink, TypedSuffix, roll-TypedSuffix, fold-roll-TypedSuffix, TypedSuffixNode, TypedSuffixNode-F, map-TypedSuffixNode, roll-TypedSuffixNode, fold-TypedSuffixNode, fold-roll-TypedSuffixNode, shape_of, Sight, Visible, Path, Going, local, visible_at, node_path, step_path, expr_path, entry_path, link_path, suffix_path, path_of, going_of}
use Rattle.typed_program.specs.declared.expression.TypedNode.{fold_out-TypedNode}
use Rattle.typed_program.specs.declared.expression.TypedNode.TheOpen as typed
use Rattle.typed_program.specs.Paths.{Pair, Node}

module _ (sight : Sight) where
  -- the path of a node
  pub node_pathed : TypedNode → Node
  node_pathed = fold-TypedNode Node Going Pair Path Path Going (node_path sight) (step_path sight) (entry_path sight) (expr_path sight) (link_path sight) (suffix_path sight)

  -- where a step goes
  pub step_going : TypedSuffixNode → Going
  step_going = fold-TypedSuffixNode Node Going Pair Path Path Going (node_path sight) (step_path sight) (entry_path sight) (expr_path sight) (link_path sight) (suffix_path sight)

  abbrev pub entry_pathed : TypedEntry → Pair
  entry_pathed = fold-TypedEntry Node Going Pair Path Path Going (node_path sight) (step_path sight) (entry_path sight) (expr_path sight) (link_path sight) (suffix_path sight)

  abbrev pub link_pathed : TypedLink → Path
  link_pathed = fold-TypedLink Node Going Pair Path Path Going (node_path sight) (step_path sight) (entry_path sight) (expr_path sight) (link_path sight) (suffix_path sight)

  -- a node, and a step, by its layer
  abbrev pub node_layer : TypedNode-F TypedNode TypedSuffixNode TypedEntry TypedExpr TypedLink TypedSuffix → Option Shape → Path
  node_layer d s = node_path sight (map-TypedNode TypedNode TypedSuffixNode TypedEntry TypedExpr TypedLink TypedSuffix Node Going Pair Path Path Going node_pathed step_going entry_pathed (path_of sight) link_pathed (going_of sight) d) s

  abbrev pub step_layer : TypedSuffixNode-F TypedNode TypedSuffixNode TypedEntry TypedExpr TypedLink TypedSuffix → Going
  step_layer d = step_path sight (map-TypedSuffixNode TypedNode TypedSuffixNode TypedEntry TypedExpr TypedLink TypedSuffix Node Going Pair Path Path Going node_pathed step_going entry_pathed (path_of sight) link_pathed (going_of sight) d)

  -- a node's path is its layer's
  pub pathed : (d : TypedNode-F TypedNode TypedSuffixNode TypedEntry TypedExpr TypedLink TypedSuffix) (n : TypedNode) (s : Option Shape) → roll-TypedNode d ≡ n → node_pathed n s ≡ node_layer d s
  unfolding node_pathed step_going
  pathed d n s is =
      ap (λ (m : TypedNode). node_pathed m s) (sym is)
      ∙ ap (λ (f : Node). f s) (fold-roll-TypedNode Node Going Pair Path Path Going (node_path sight) (step_path sight) (entry_path sight) (expr_path sight) (link_path sight) (suffix_path sight) d)

  -- a step goes where its layer does
  pub stepped : (d : TypedSuffixNode-F TypedNode TypedSuffixNode TypedEntry TypedExpr TypedLink TypedSuffix) (n : TypedSuffixNode) → roll-TypedSuffixNode d ≡ n → step_going n ≡ step_layer d
  unfolding node_pathed step_going
  stepped d n is =
      ap step_going (sym is)
      ∙ fold-roll-TypedSuffixNode Node Going Pair Path Path Going (node_path sight) (step_path sight) (entry_path sight) (expr_path sight) (link_path sight) (suffix_path sight) d

  -- an expression that is made has the path of its node
  pub path_made : (s : Option Shape) (n : TypedNode) → path_of sight (roll-TypedExpr record { shape = s; node = n }) ≡ node_pathed n s
  unfolding node_pathed
  path_made s n = fold-roll-TypedExpr Node Going Pair Path Path Going (node_path sight) (step_path sight) (entry_path sight) (expr_path sight) (link_path sight) (suffix_path sight) (record { shape = s; node = n })

  -- and so has any expression
  pub path_out : (e : TypedExpr) → path_of sight e ≡ node_pathed (out-TypedExpr e).node (shape_of e)
  unfolding node_pathed
  path_out e = fold_out-TypedExpr Node Going Pair Path Path Going (node_path sight) (step_path sight) (entry_path sight) (expr_path sight) (link_path sight) (suffix_path sight) e

  -- the node of an expression that is made
  pub node_of_made : (s : Option Shape) (n : TypedNode) → (out-TypedExpr (roll-TypedExpr record { shape = s; node = n })).node ≡ n
  node_of_made s n = ap (λ d. d.node) (out-roll-TypedExpr (record { shape = s; node = n }))

  -- a link has its operand's path
  pub link_made : (o : Operator) (e : TypedExpr) → link_pathed (roll-TypedLink record { operator = o; operand = e }) ≡ path_of sight e
  link_made o e = fold-roll-TypedLink Node Going Pair Path Path Going (node_path sight) (step_path sight) (entry_path sight) (expr_path sight) (link_path sight) (suffix_path sight) (record { operator = o; operand = e })

  -- an entry has the paths of its key and its value
  pub entry_made : (key value : TypedExpr) → entry_pathed (roll-TypedEntry record { key = key; value = value }) ≡ record { key = path_of sight key; value = path_of sight value }
  entry_made key value = fold-roll-TypedEntry Node Going Pair Path Path Going (node_path sight) (step_path sight) (entry_path sight) (expr_path sight) (link_path sight) (suffix_path sight) (record { key = key; value = value })

  -- a suffix goes where its step does
  pub going_made : (s : Option Shape) (n : TypedSuffixNode) → going_of sight (roll-TypedSuffix record { shape = s; node = n }) ≡ step_going n
  unfolding step_going
  going_made s n = fold-roll-TypedSuffix Node Going Pair Path Path Going (node_path sight) (step_path sight) (entry_path sight) (expr_path sight) (link_path sight) (suffix_path sight) (record { shape = s; node = n })

  -- ---- the shape of a path

  local_shape : (o : Option Visible) (s : Option Shape) → (local o s).shape ≡ s
  local_shape None s = refl
  local_shape (Some v) s = refl

  layer_shape : (d : TypedNode-F Node Going Pair Path Path Going) (s : Option Shape) → (node_path sight d s).shape ≡ s
  layer_shape (typed.Local n) s = local_shape (visible_at sight.visible n) s
  layer_shape d s = refl

  -- a node's path has the shape that is given
  pub node_shape : (n : TypedNode) (s : Option Shape) → (node_pathed n s).shape ≡ s
  unfolding node_pathed step_going
  node_shape n s =
      ap (λ (f : Node). (f s).shape) (fold_out-TypedNode Node Going Pair Path Path Going (node_path sight) (step_path sight) (entry_path sight) (expr_path sight) (link_path sight) (suffix_path sight) n)
      ∙ layer_shape (map-TypedNode TypedNode TypedSuffixNode TypedEntry TypedExpr TypedLink TypedSuffix Node Going Pair Path Path Going node_pathed step_going entry_pathed (path_of sight) link_pathed (going_of sight) (out-TypedNode n)) s

  -- a path has its expression's shape
  pub path_shape : (e : TypedExpr) → (path_of sight e).shape ≡ shape_of e
  path_shape e = ap (λ (p : Path). p.shape) (path_out e) ∙ node_shape (out-TypedExpr e).node (shape_of e)
