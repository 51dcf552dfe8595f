-- What holds of a typed expression, by its node.
use Rattle.std.proofs.Common.{◌≡◌, ◌&&◌}
use Rattle.program_laws.proofs.Common.{Bool, true, Option, Some, sym, ap, ◌∙◌, and_parts, and_from, Shape, TypedExpr, out-TypedExpr, roll-TypedExpr, out-roll-TypedExpr, fold-roll-TypedExpr, fold_out-TypedExpr, TypedNode, TypedNode-F, map-TypedNode, roll-TypedNode, fold-TypedNode, fold-roll-TypedNode, TypedEntry, roll-TypedEntry, fold-TypedEntry, fold-roll-TypedEntry, TypedLink, roll-TypedLink, fold-TypedLink, fold-roll-TypedLink, TypedSuffix, roll-TypedSuffix, fold-roll-TypedSuffix, TypedSuffixNode, TypedSuffixNode-F, map-TypedSuffixNode, roll-TypedSuffixNode, fold-TypedSuffixNode, fold-roll-TypedSuffixNode, Operator, same, Names, Checked, Paired, Stepping, node_so, step_so, entry_so, expr_so, link_so, suffix_so, checked, stepping, holds, shape_of, may_stand, if_known, is_of}
use Rattle.typed_program.specs.Expressions.{Node, Step, Linked}
use Rattle.program_laws.proofs.Exprs.Alike.{same_self}

module _ (names : Names) where
  pub node_checked : TypedNode → Node
  node_checked = fold-TypedNode Node Step Paired Checked Linked Stepping (node_so names) (step_so names.types) entry_so (expr_so names) link_so suffix_so

  pub step_checked : TypedSuffixNode → Step
  step_checked = fold-TypedSuffixNode Node Step Paired Checked Linked Stepping (node_so names) (step_so names.types) entry_so (expr_so names) link_so suffix_so

  abbrev pub entry_checked : TypedEntry → Paired
  entry_checked = fold-TypedEntry Node Step Paired Checked Linked Stepping (node_so names) (step_so names.types) entry_so (expr_so names) link_so suffix_so

  abbrev pub link_checked : TypedLink → Linked
  link_checked = fold-TypedLink Node Step Paired Checked Linked Stepping (node_so names) (step_so names.types) entry_so (expr_so names) link_so suffix_so

  -- what is asked of a node, and of a step, by its layer
  abbrev pub node_layer : TypedNode-F TypedNode TypedSuffixNode TypedEntry TypedExpr TypedLink TypedSuffix → Option Shape → Bool
  node_layer d s = node_so names (map-TypedNode TypedNode TypedSuffixNode TypedEntry TypedExpr TypedLink TypedSuffix Node Step Paired Checked Linked Stepping node_checked step_checked entry_checked (checked names) link_checked (stepping names) d) s

  abbrev pub step_layer : TypedSuffixNode-F TypedNode TypedSuffixNode TypedEntry TypedExpr TypedLink TypedSuffix → Option Shape → Shape → Bool
  step_layer d after s = step_so names.types (map-TypedSuffixNode TypedNode TypedSuffixNode TypedEntry TypedExpr TypedLink TypedSuffix Node Step Paired Checked Linked Stepping node_checked step_checked entry_checked (checked names) link_checked (stepping names) d) after s

  pub rolled : (d : TypedNode-F TypedNode TypedSuffixNode TypedEntry TypedExpr TypedLink TypedSuffix) (n : TypedNode) (s : Option Shape) → roll-TypedNode d ≡ n → node_layer d s ≡ true → node_checked n s ≡ true
  unfolding node_checked step_checked
  rolled d n s is h =
      ap (λ (m : TypedNode). node_checked m s) (sym is)
      ∙ ap (λ (f : Node). f s) (fold-roll-TypedNode Node Step Paired Checked Linked Stepping (node_so names) (step_so names.types) entry_so (expr_so names) link_so suffix_so d)
      ∙ h

  pub step_rolled : (d : TypedSuffixNode-F TypedNode TypedSuffixNode TypedEntry TypedExpr TypedLink TypedSuffix) (n : TypedSuffixNode) (after : Option Shape) (s : Shape) → roll-TypedSuffixNode d ≡ n → step_layer d after s ≡ true → step_checked n after s ≡ true
  unfolding node_checked step_checked
  step_rolled d n after s is h =
      ap (λ (m : TypedSuffixNode). step_checked m after s) (sym is)
      ∙ ap (λ (f : Step). f after s) (fold-roll-TypedSuffixNode Node Step Paired Checked Linked Stepping (node_so names) (step_so names.types) entry_so (expr_so names) link_so suffix_so d)
      ∙ h

  checked_made : (s : Option Shape) (n : TypedNode) → checked names (roll-TypedExpr record { shape = s; node = n }) ≡ record { shape = s; holds = may_stand names.types s && node_checked n s }
  unfolding node_checked
  checked_made s n = fold-roll-TypedExpr Node Step Paired Checked Linked Stepping (node_so names) (step_so names.types) entry_so (expr_so names) link_so suffix_so (record { shape = s; node = n })

  checked_out : (e : TypedExpr) → checked names e ≡ record { shape = shape_of e; holds = may_stand names.types (shape_of e) && node_checked (out-TypedExpr e).node (shape_of e) }
  unfolding node_checked
  checked_out e = fold_out-TypedExpr Node Step Paired Checked Linked Stepping (node_so names) (step_so names.types) entry_so (expr_so names) link_so suffix_so e

  pub holds_made : (s : Option Shape) (n : TypedNode) → may_stand names.types s ≡ true → node_checked n s ≡ true → holds names (roll-TypedExpr record { shape = s; node = n }) ≡ true
  holds_made s n h k = ap (λ (c : Checked). c.holds) (checked_made s n) ∙ and_from (may_stand names.types s) (node_checked n s) h k

  pub shape_made : (s : Option Shape) (n : TypedNode) → shape_of (roll-TypedExpr record { shape = s; node = n }) ≡ s
  shape_made s n = ap (λ d. d.shape) (out-roll-TypedExpr (record { shape = s; node = n }))

  pub checked_shape : (e : TypedExpr) → (checked names e).shape ≡ shape_of e
  checked_shape e = ap (λ (c : Checked). c.shape) (checked_out e)

  pub holds_stands : (e : TypedExpr) → holds names e ≡ true → may_stand names.types (shape_of e) ≡ true
  holds_stands e h = (and_parts (may_stand names.types (shape_of e)) (node_checked (out-TypedExpr e).node (shape_of e)) (sym (ap (λ (c : Checked). c.holds) (checked_out e)) ∙ h)).0

  pub holds_node : (e : TypedExpr) → holds names e ≡ true → node_checked (out-TypedExpr e).node (shape_of e) ≡ true
  holds_node e h = (and_parts (may_stand names.types (shape_of e)) (node_checked (out-TypedExpr e).node (shape_of e)) (sym (ap (λ (c : Checked). c.holds) (checked_out e)) ∙ h)).1

  pub is_of_known : (s : Shape) (e : TypedExpr) → holds names e ≡ true → shape_of e ≡ Some s → is_of s (checked names e) ≡ true
  is_of_known s e h is = and_from (holds names e) (if_known (same s) (checked names e).shape) h (ap (λ (o : Option Shape). if_known (same s) o) (checked_shape e ∙ is) ∙ same_self s)

  pub link_made : (o : Operator) (e : TypedExpr) → link_checked (roll-TypedLink record { operator = o; operand = e }) ≡ record { operator = o; operand = checked names e }
  link_made o e = fold-roll-TypedLink Node Step Paired Checked Linked Stepping (node_so names) (step_so names.types) entry_so (expr_so names) link_so suffix_so (record { operator = o; operand = e })

  pub entry_made : (key value : TypedExpr) → entry_checked (roll-TypedEntry record { key = key; value = value }) ≡ record { key = checked names key; value = checked names value }
  entry_made key value = fold-roll-TypedEntry Node Step Paired Checked Linked Stepping (node_so names) (step_so names.types) entry_so (expr_so names) link_so suffix_so (record { key = key; value = value })

  pub step_made : (s : Option Shape) (n : TypedSuffixNode) → stepping names (roll-TypedSuffix record { shape = s; node = n }) ≡ record { shape = s; leads = step_checked n s }
  unfolding step_checked
  step_made s n = fold-roll-TypedSuffix Node Step Paired Checked Linked Stepping (node_so names) (step_so names.types) entry_so (expr_so names) link_so suffix_so (record { shape = s; node = n })
