-- Every expression in which no fault is found is its tree with names resolved, where the names that it names are known.
use Rattle.std.proofs.Common.{◌≡◌, List, map, sym, subst, refl}
use Rattle.std.specs.List.{AllByRecursion}
use Rattle.std.proofs.lemmas.Slice.Eq.{bytes_eq-Decides}
use Rattle.span_text.specs.declared.spot.Spot.{Spot}
use Rattle.epl_values.specs.declared.shape.EventShape.{EventShape}
use Rattle.epl_tree.specs.declared.expression.Expr.{Expr, Expr-F, map-Expr, roll-Expr, out-roll-Expr, fold-roll-Expr}
use Rattle.epl_tree.specs.declared.expression.ExprNode.{ExprNode, ExprNode-F, map-ExprNode, roll-ExprNode, out-ExprNode, out-roll-ExprNode, fold-ExprNode, fold-roll-ExprNode}
use Rattle.epl_tree.specs.declared.expression.ExprNode.TheOpen as node
use Rattle.epl_tree.specs.declared.expression.Link.{Link, Link-F, map-Link, roll-Link, out-roll-Link, fold-roll-Link}
use Rattle.epl_tree.specs.declared.expression.Entry.{Entry, Entry-F, map-Entry, roll-Entry, out-roll-Entry, fold-roll-Entry}
use Rattle.epl_tree.specs.declared.expression.Suffix.{Suffix, Suffix-F, map-Suffix, roll-Suffix, out-roll-Suffix, fold-roll-Suffix}
use Rattle.epl_tree.specs.declared.expression.SuffixNode.{SuffixNode, SuffixNode-F, map-SuffixNode, roll-SuffixNode, out-SuffixNode, out-roll-SuffixNode, fold-SuffixNode, fold-roll-SuffixNode}
use Rattle.epl_tree.specs.declared.expression.ExprNode.TheFolds.{ind-Expr, ind-Suffix}
use Rattle.epl_tree.specs.declared.types.TypeExpr.{TypeExpr}
use Rattle.type_table.specs.declared.scope.Scope.{Scope}
use Rattle.type_table.specs.declared.table.Table.{Table}
use Rattle.type_table.specs.Types.{type_found}
use Rattle.expr_rules.specs.declared.operators.Logic.TheVariants as logic
use Rattle.expr_rules.specs.declared.operators.Level.TheVariants as level
use Rattle.expr_rules.specs.declared.steps.StepKind.TheVariants as step
use Rattle.expr_rules.specs.Literals.{Pair}
use Rattle.expr_rules.specs.Methods.{is_change, method_named}
use Rattle.expr_rules.specs.Names.{seen}
use Rattle.expr_rules.specs.Operators.{Part, Linked}
use Rattle.expr_rules.specs.Postfix.{Step, leads, method_kind}
use Rattle.expr_check.specs.Expressions.{Node, StepNode, node_step, suffix_node_step, entry_step, expr_step, link_step, suffix_step, part_of, link_part, entry_part}
use Rattle.expr_check.specs.Expressions.{step_of as stepping}
use Rattle.stmt_check.specs.Captures.{Names, either, any_of, expr_node, suffix_node, expr_names, suffix_names, link_names, entry_names}
use Rattle.stmt_check.specs.Captures.{entry_step as entry_naming, expr_step as expr_naming, link_step as link_naming, suffix_step as suffix_naming}
use Rattle.name_resolution.specs.Names.{Named, Around}
use Rattle.name_resolution.specs.Types.{TypeIs}
use Rattle.name_resolution.specs.Expressions.{Form, form_of, step_of}
use Rattle.name_resolution.specs.Expressions.{Step as StepForm}
use Rattle.name_resolution.proofs.Sure.{Sure}
use Rattle.name_resolution.proofs.Through.{held_all}
use Rattle.name_resolution.proofs.Agreeing.{Agrees, ActionsAgree, agrees_left, agrees_right, agrees_all}
use Rattle.name_resolution.proofs.TypesRead.{type_sure}
use Rattle.name_resolution.proofs.Judging.{Reads}
use Rattle.name_resolution.proofs.Operands.{LinkReads, not_is, comparison_is, minus_is, logic_is, links_is, integer_is, quoted_is, boolean_is, current_is, group_is, new_is}
use Rattle.name_resolution.proofs.Values.{PairReads, call_is, context_is, sequence_is, dictionary_is, name_is}
use Rattle.name_resolution.proofs.Steps.{StepReads, field_is, index_is, method_step_is, postfix_is}

abbrev step_at : StepNode → Spot → Step
step_at n own = record { kind = n.kind; found = n.found own }

module _ (table : Table) (scope : Scope) (around : Around) (names : List Named) (types : table.types ≡ around.types) (acts : ActionsAgree table scope around.actions around.first) where
  abbrev node_of : ExprNode → Node
  node_of = fold-ExprNode Node StepNode Pair Part Linked Step (node_step table scope) (suffix_node_step table scope) (entry_step table scope) (expr_step table scope) (link_step table scope) (suffix_step table scope)

  abbrev step_node_of : SuffixNode → StepNode
  step_node_of = fold-SuffixNode Node StepNode Pair Part Linked Step (node_step table scope) (suffix_node_step table scope) (entry_step table scope) (expr_step table scope) (link_step table scope) (suffix_step table scope)

  abbrev node_names : ExprNode → Names
  node_names = fold-ExprNode Names Names Names Names Names Names expr_node suffix_node entry_naming expr_naming link_naming suffix_naming

  abbrev step_names : SuffixNode → Names
  step_names = fold-SuffixNode Names Names Names Names Names Names expr_node suffix_node entry_naming expr_naming link_naming suffix_naming

  abbrev Known : Names → Type 0
  Known named = Agrees names scope named

  -- what is claimed of each kind of tree
  abbrev ForNode : ExprNode → Type 0
  ForNode n = (spot : Spot) → Known (node_names n) → Reads around names (out-ExprNode n) (node_of n spot)

  abbrev ForStepNode : SuffixNode → Type 0
  ForStepNode n = (own : Spot) → Known (step_names n) → StepReads around names (out-SuffixNode n) (step_at (step_node_of n) own)

  abbrev ForEntry : Entry → Type 0
  ForEntry e = Known (entry_names e) → PairReads around names e (entry_part table scope e)

  abbrev ForExpr : Expr → Type 0
  ForExpr e = Known (expr_names e) → Reads around names (form_of e) (part_of table scope e)

  abbrev ForLink : Link → Type 0
  ForLink l = Known (link_names l) → LinkReads around names l (link_part table scope l)

  abbrev ForSuffix : Suffix → Type 0
  ForSuffix s = Known (suffix_names s) → StepReads around names (step_of s) (stepping table scope s)

  abbrev HeldNode : Type 0
  HeldNode = (n : ExprNode) × ForNode n

  abbrev HeldStep : Type 0
  HeldStep = (n : SuffixNode) × ForStepNode n

  abbrev HeldEntry : Type 0
  HeldEntry = (e : Entry) × ForEntry e

  abbrev HeldExpr : Type 0
  HeldExpr = (e : Expr) × ForExpr e

  abbrev HeldLink : Type 0
  HeldLink = (l : Link) × ForLink l

  abbrev HeldSuffix : Type 0
  HeldSuffix = (s : Suffix) × ForSuffix s

  abbrev exprs : List HeldExpr → List Expr
  exprs hs = map (λ h. h.0) hs

  exprs_known : (hs : List HeldExpr) → Known (any_of (map expr_names (exprs hs))) → AllByRecursion (λ e. Reads around names (form_of e) (part_of table scope e)) (exprs hs)
  exprs_known hs k = agrees_all names scope (λ e. Reads around names (form_of e) (part_of table scope e)) expr_names (exprs hs) (held_all ForExpr hs) k

  left : (one other : Names) → Known (either one other) → Known one
  left one other k = agrees_left names scope one other k

  right : (one other : Names) → Known (either one other) → Known other
  right one other k = agrees_right names scope one other k

  -- ---- nodes

  abbrev node_trees : ExprNode-F HeldNode HeldStep HeldEntry HeldExpr HeldLink HeldSuffix → Form
  node_trees y = map-ExprNode HeldNode HeldStep HeldEntry HeldExpr HeldLink HeldSuffix ExprNode SuffixNode Entry Expr Link Suffix (λ e. e.0) (λ e. e.0) (λ e. e.0) (λ e. e.0) (λ e. e.0) (λ e. e.0) y

  abbrev node_parts : Form → ExprNode-F Node StepNode Pair Part Linked Step
  node_parts x = map-ExprNode ExprNode SuffixNode Entry Expr Link Suffix Node StepNode Pair Part Linked Step node_of step_node_of (entry_part table scope) (part_of table scope) (link_part table scope) (stepping table scope) x

  abbrev node_named : Form → ExprNode-F Names Names Names Names Names Names
  node_named x = map-ExprNode ExprNode SuffixNode Entry Expr Link Suffix Names Names Names Names Names Names node_names step_names entry_names expr_names link_names suffix_names x

  abbrev links : List HeldLink → List Link
  links hs = map (λ h. h.0) hs

  links_known : (hs : List HeldLink) → Known (any_of (map link_names (links hs))) → AllByRecursion (λ l. LinkReads around names l (link_part table scope l)) (links hs)
  links_known hs k = agrees_all names scope (λ l. LinkReads around names l (link_part table scope l)) link_names (links hs) (held_all ForLink hs) k

  abbrev suffixes : List HeldSuffix → List Suffix
  suffixes hs = map (λ h. h.0) hs

  suffixes_known : (hs : List HeldSuffix) → Known (any_of (map suffix_names (suffixes hs))) → AllByRecursion (λ u. StepReads around names (step_of u) (stepping table scope u)) (suffixes hs)
  suffixes_known hs k = agrees_all names scope (λ u. StepReads around names (step_of u) (stepping table scope u)) suffix_names (suffixes hs) (held_all ForSuffix hs) k

  abbrev entries : List HeldEntry → List Entry
  entries hs = map (λ h. h.0) hs

  entries_known : (hs : List HeldEntry) → Known (any_of (map entry_names (entries hs))) → AllByRecursion (λ e. PairReads around names e (entry_part table scope e)) (entries hs)
  entries_known hs k = agrees_all names scope (λ e. PairReads around names e (entry_part table scope e)) entry_names (entries hs) (held_all ForEntry hs) k

  type_known : (w : TypeExpr) → Sure (TypeIs around.types w) (type_found table w)
  type_known w = subst (λ (ts : List EventShape). Sure (TypeIs ts w) (type_found table w)) types (type_sure table w)

  node_at : (y : ExprNode-F HeldNode HeldStep HeldEntry HeldExpr HeldLink HeldSuffix) (spot : Spot) → Known (expr_node (node_named (node_trees y))) → Reads around names (node_trees y) (node_step table scope (node_parts (node_trees y)) spot)
  node_at (node.Or first rest) spot k = logic_is around names logic.Or first.0 (exprs rest) (part_of table scope first.0) (part_of table scope) spot (first.1 (left _ _ k)) (exprs_known rest (right _ _ k))
  node_at (node.Xor first rest) spot k = logic_is around names logic.Xor first.0 (exprs rest) (part_of table scope first.0) (part_of table scope) spot (first.1 (left _ _ k)) (exprs_known rest (right _ _ k))
  node_at (node.And first rest) spot k = logic_is around names logic.And first.0 (exprs rest) (part_of table scope first.0) (part_of table scope) spot (first.1 (left _ _ k)) (exprs_known rest (right _ _ k))
  node_at (node.Not part) spot k = not_is around names part.0 (part_of table scope part.0) spot (part.1 k)
  node_at (node.Compare one c other) spot k = comparison_is around names one.0 other.0 c (part_of table scope one.0) (part_of table scope other.0) spot (one.1 (left _ _ k)) (other.1 (right _ _ k))
  node_at (node.Sum first ls) spot k = links_is around names level.Sum first.0 (links ls) (part_of table scope first.0) (link_part table scope) spot (first.1 (left _ _ k)) (links_known ls (right _ _ k))
  node_at (node.Product first ls) spot k = links_is around names level.Product first.0 (links ls) (part_of table scope first.0) (link_part table scope) spot (first.1 (left _ _ k)) (links_known ls (right _ _ k))
  node_at (node.Minus part) spot k = minus_is around names part.0 (part_of table scope part.0) spot (part.1 k)
  node_at (node.Postfix part us) spot k = postfix_is around names (λ d. leads d.changed (map (λ s. s.kind) (map (stepping table scope) (suffixes us)))) part.0 (suffixes us) (part_of table scope part.0) (stepping table scope) spot (part.1 (left _ _ k)) (suffixes_known us (right _ _ k))
  node_at (node.Integer digits) spot k = integer_is around names digits spot
  node_at (node.Quoted text) spot k = quoted_is around names text spot
  node_at (node.Boolean b) spot k = boolean_is around names b spot
  node_at (node.Name name) spot k = name_is around names name (seen scope name) spot (k.same name ((bytes_eq-Decides name name).1 refl))
  node_at (node.Call name parts) spot k = call_is around names name table scope (exprs parts) (part_of table scope) spot types acts (exprs_known parts k)
  node_at (node.Sequence parts) spot k = sequence_is around names (exprs parts) (part_of table scope) spot (exprs_known parts k)
  node_at (node.Dictionary pairs) spot k = dictionary_is around names (entries pairs) (entry_part table scope) spot (entries_known pairs k)
  node_at (node.New written) spot k = new_is around names table written spot (type_known written)
  node_at (node.Context parts) spot k = context_is around names (exprs parts) (part_of table scope) spot (exprs_known parts k)
  node_at node.ContextCurrent spot k = current_is around names spot
  node_at (node.Group part) spot k = group_is around names part.0 (part_of table scope part.0) spot (part.1 k)

  node_case : (x : Form) (y : ExprNode-F HeldNode HeldStep HeldEntry HeldExpr HeldLink HeldSuffix) → node_trees y ≡ x → ForNode (roll-ExprNode x)
  node_case x y is = subst (λ (z : Form). ForNode (roll-ExprNode z)) is (λ spot.
      subst (λ (n : Names). Known n → Reads around names (out-ExprNode (roll-ExprNode (node_trees y))) (node_of (roll-ExprNode (node_trees y)) spot)) (sym (fold-roll-ExprNode Names Names Names Names Names Names expr_node suffix_node entry_naming expr_naming link_naming suffix_naming (node_trees y)))
      (subst (λ (f : Form). Known (expr_node (node_named (node_trees y))) → Reads around names f (node_of (roll-ExprNode (node_trees y)) spot)) (sym (out-roll-ExprNode (node_trees y)))
      (subst (λ (n : Node). Known (expr_node (node_named (node_trees y))) → Reads around names (node_trees y) (n spot)) (sym (fold-roll-ExprNode Node StepNode Pair Part Linked Step (node_step table scope) (suffix_node_step table scope) (entry_step table scope) (expr_step table scope) (link_step table scope) (suffix_step table scope) (node_trees y)))
      (node_at y spot))))

  -- ---- steps

  abbrev step_trees : SuffixNode-F HeldNode HeldStep HeldEntry HeldExpr HeldLink HeldSuffix → StepForm
  step_trees y = map-SuffixNode HeldNode HeldStep HeldEntry HeldExpr HeldLink HeldSuffix ExprNode SuffixNode Entry Expr Link Suffix (λ e. e.0) (λ e. e.0) (λ e. e.0) (λ e. e.0) (λ e. e.0) (λ e. e.0) y

  abbrev step_parts : StepForm → SuffixNode-F Node StepNode Pair Part Linked Step
  step_parts x = map-SuffixNode ExprNode SuffixNode Entry Expr Link Suffix Node StepNode Pair Part Linked Step node_of step_node_of (entry_part table scope) (part_of table scope) (link_part table scope) (stepping table scope) x

  abbrev step_named : StepForm → SuffixNode-F Names Names Names Names Names Names
  step_named x = map-SuffixNode ExprNode SuffixNode Entry Expr Link Suffix Names Names Names Names Names Names node_names step_names entry_names expr_names link_names suffix_names x

  step_node_at : (y : SuffixNode-F HeldNode HeldStep HeldEntry HeldExpr HeldLink HeldSuffix) (own : Spot) → Known (suffix_node (step_named (step_trees y))) → StepReads around names (step_trees y) (step_at (suffix_node_step table scope (step_parts (step_trees y))) own)
  step_node_at (node.Field name) own k = field_is around names table name step.Inner types
  step_node_at (node.Index part) own k = index_is around names part.0 (part_of table scope part.0) own step.Inner (part.1 k)
  step_node_at (node.Method name parts) own k = method_step_is around names name (exprs parts) (part_of table scope) (method_kind (is_change (method_named name))) (exprs_known parts k)

  step_node_case : (x : StepForm) (y : SuffixNode-F HeldNode HeldStep HeldEntry HeldExpr HeldLink HeldSuffix) → step_trees y ≡ x → ForStepNode (roll-SuffixNode x)
  step_node_case x y is = subst (λ (z : StepForm). ForStepNode (roll-SuffixNode z)) is (λ own.
      subst (λ (n : Names). Known n → StepReads around names (out-SuffixNode (roll-SuffixNode (step_trees y))) (step_at (step_node_of (roll-SuffixNode (step_trees y))) own)) (sym (fold-roll-SuffixNode Names Names Names Names Names Names expr_node suffix_node entry_naming expr_naming link_naming suffix_naming (step_trees y)))
      (subst (λ (f : StepForm). Known (suffix_node (step_named (step_trees y))) → StepReads around names f (step_at (step_node_of (roll-SuffixNode (step_trees y))) own)) (sym (out-roll-SuffixNode (step_trees y)))
      (subst (λ (n : StepNode). Known (suffix_node (step_named (step_trees y))) → StepReads around names (step_trees y) (step_at n own)) (sym (fold-roll-SuffixNode Node StepNode Pair Part Linked Step (node_step table scope) (suffix_node_step table scope) (entry_step table scope) (expr_step table scope) (link_step table scope) (suffix_step table scope) (step_trees y)))
      (step_node_at y own))))

  -- ---- what holds nodes

  abbrev entry_trees : Entry-F HeldNode HeldStep HeldEntry HeldExpr HeldLink HeldSuffix → Entry-F ExprNode SuffixNode Entry Expr Link Suffix
  entry_trees y = map-Entry HeldNode HeldStep HeldEntry HeldExpr HeldLink HeldSuffix ExprNode SuffixNode Entry Expr Link Suffix (λ e. e.0) (λ e. e.0) (λ e. e.0) (λ e. e.0) (λ e. e.0) (λ e. e.0) y

  entry_case : (x : Entry-F ExprNode SuffixNode Entry Expr Link Suffix) (y : Entry-F HeldNode HeldStep HeldEntry HeldExpr HeldLink HeldSuffix) → entry_trees y ≡ x → ForEntry (roll-Entry x)
  entry_case x y is = subst (λ (z : Entry-F ExprNode SuffixNode Entry Expr Link Suffix). ForEntry (roll-Entry z)) is
      (subst (λ (n : Names). Known n → PairReads around names (roll-Entry (entry_trees y)) (entry_part table scope (roll-Entry (entry_trees y)))) (sym (fold-roll-Entry Names Names Names Names Names Names expr_node suffix_node entry_naming expr_naming link_naming suffix_naming (entry_trees y)))
      (subst (λ (p : Pair). Known (either (expr_names y.key.0) (expr_names y.value.0)) → PairReads around names (roll-Entry (entry_trees y)) p) (sym (fold-roll-Entry Node StepNode Pair Part Linked Step (node_step table scope) (suffix_node_step table scope) (entry_step table scope) (expr_step table scope) (link_step table scope) (suffix_step table scope) (entry_trees y)))
      (λ k. record {
        key = subst (λ (t : Entry-F ExprNode SuffixNode Entry Expr Link Suffix). Reads around names (form_of t.key) (part_of table scope y.key.0)) (sym (out-roll-Entry (entry_trees y))) (y.key.1 (left _ _ k));
        value = subst (λ (t : Entry-F ExprNode SuffixNode Entry Expr Link Suffix). Reads around names (form_of t.value) (part_of table scope y.value.0)) (sym (out-roll-Entry (entry_trees y))) (y.value.1 (right _ _ k));
      })))

  abbrev expr_trees : Expr-F HeldNode HeldStep HeldEntry HeldExpr HeldLink HeldSuffix → Expr-F ExprNode SuffixNode Entry Expr Link Suffix
  expr_trees y = map-Expr HeldNode HeldStep HeldEntry HeldExpr HeldLink HeldSuffix ExprNode SuffixNode Entry Expr Link Suffix (λ e. e.0) (λ e. e.0) (λ e. e.0) (λ e. e.0) (λ e. e.0) (λ e. e.0) y

  expr_case : (x : Expr-F ExprNode SuffixNode Entry Expr Link Suffix) (y : Expr-F HeldNode HeldStep HeldEntry HeldExpr HeldLink HeldSuffix) → expr_trees y ≡ x → ForExpr (roll-Expr x)
  expr_case x y is = subst (λ (z : Expr-F ExprNode SuffixNode Entry Expr Link Suffix). ForExpr (roll-Expr z)) is
      (subst (λ (n : Names). Known n → Reads around names (form_of (roll-Expr (expr_trees y))) (part_of table scope (roll-Expr (expr_trees y)))) (sym (fold-roll-Expr Names Names Names Names Names Names expr_node suffix_node entry_naming expr_naming link_naming suffix_naming (expr_trees y)))
      (subst (λ (p : Part). Known (node_names y.node.0) → Reads around names (form_of (roll-Expr (expr_trees y))) p) (sym (fold-roll-Expr Node StepNode Pair Part Linked Step (node_step table scope) (suffix_node_step table scope) (entry_step table scope) (expr_step table scope) (link_step table scope) (suffix_step table scope) (expr_trees y)))
      (subst (λ (e : Expr-F ExprNode SuffixNode Entry Expr Link Suffix). Known (node_names y.node.0) → Reads around names (out-ExprNode e.node) (node_of y.node.0 y.spot)) (sym (out-roll-Expr (expr_trees y)))
      (y.node.1 y.spot))))

  abbrev link_trees : Link-F HeldNode HeldStep HeldEntry HeldExpr HeldLink HeldSuffix → Link-F ExprNode SuffixNode Entry Expr Link Suffix
  link_trees y = map-Link HeldNode HeldStep HeldEntry HeldExpr HeldLink HeldSuffix ExprNode SuffixNode Entry Expr Link Suffix (λ e. e.0) (λ e. e.0) (λ e. e.0) (λ e. e.0) (λ e. e.0) (λ e. e.0) y

  link_case : (x : Link-F ExprNode SuffixNode Entry Expr Link Suffix) (y : Link-F HeldNode HeldStep HeldEntry HeldExpr HeldLink HeldSuffix) → link_trees y ≡ x → ForLink (roll-Link x)
  link_case x y is = subst (λ (z : Link-F ExprNode SuffixNode Entry Expr Link Suffix). ForLink (roll-Link z)) is
      (subst (λ (n : Names). Known n → LinkReads around names (roll-Link (link_trees y)) (link_part table scope (roll-Link (link_trees y)))) (sym (fold-roll-Link Names Names Names Names Names Names expr_node suffix_node entry_naming expr_naming link_naming suffix_naming (link_trees y)))
      (subst (λ (p : Linked). Known (expr_names y.operand.0) → LinkReads around names (roll-Link (link_trees y)) p) (sym (fold-roll-Link Node StepNode Pair Part Linked Step (node_step table scope) (suffix_node_step table scope) (entry_step table scope) (expr_step table scope) (link_step table scope) (suffix_step table scope) (link_trees y)))
      (λ k. record {
        operator = subst (λ (t : Link-F ExprNode SuffixNode Entry Expr Link Suffix). y.operator ≡ t.operator) (sym (out-roll-Link (link_trees y))) refl;
        operand = subst (λ (t : Link-F ExprNode SuffixNode Entry Expr Link Suffix). Reads around names (form_of t.operand) (part_of table scope y.operand.0)) (sym (out-roll-Link (link_trees y))) (y.operand.1 k);
      })))

  abbrev suffix_trees : Suffix-F HeldNode HeldStep HeldEntry HeldExpr HeldLink HeldSuffix → Suffix-F ExprNode SuffixNode Entry Expr Link Suffix
  suffix_trees y = map-Suffix HeldNode HeldStep HeldEntry HeldExpr HeldLink HeldSuffix ExprNode SuffixNode Entry Expr Link Suffix (λ e. e.0) (λ e. e.0) (λ e. e.0) (λ e. e.0) (λ e. e.0) (λ e. e.0) y

  suffix_case : (x : Suffix-F ExprNode SuffixNode Entry Expr Link Suffix) (y : Suffix-F HeldNode HeldStep HeldEntry HeldExpr HeldLink HeldSuffix) → suffix_trees y ≡ x → ForSuffix (roll-Suffix x)
  suffix_case x y is = subst (λ (z : Suffix-F ExprNode SuffixNode Entry Expr Link Suffix). ForSuffix (roll-Suffix z)) is
      (subst (λ (n : Names). Known n → StepReads around names (step_of (roll-Suffix (suffix_trees y))) (stepping table scope (roll-Suffix (suffix_trees y)))) (sym (fold-roll-Suffix Names Names Names Names Names Names expr_node suffix_node entry_naming expr_naming link_naming suffix_naming (suffix_trees y)))
      (subst (λ (p : Step). Known (step_names y.node.0) → StepReads around names (step_of (roll-Suffix (suffix_trees y))) p) (sym (fold-roll-Suffix Node StepNode Pair Part Linked Step (node_step table scope) (suffix_node_step table scope) (entry_step table scope) (expr_step table scope) (link_step table scope) (suffix_step table scope) (suffix_trees y)))
      (subst (λ (t : Suffix-F ExprNode SuffixNode Entry Expr Link Suffix). Known (step_names y.node.0) → StepReads around names (out-SuffixNode t.node) (step_at (step_node_of y.node.0) y.spot)) (sym (out-roll-Suffix (suffix_trees y)))
      (y.node.1 y.spot))))

  -- every expression, and every step
  pub expr_reads : (e : Expr) → ForExpr e
  expr_reads = ind-Expr ForNode ForStepNode ForEntry ForExpr ForLink ForSuffix node_case step_node_case entry_case expr_case link_case suffix_case

  pub step_reads : (s : Suffix) → ForSuffix s
  step_reads = ind-Suffix ForNode ForStepNode ForEntry ForExpr ForLink ForSuffix node_case step_node_case entry_case expr_case link_case suffix_case
