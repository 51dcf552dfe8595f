-- An expression that names none of the names by which two scopes differ is the same in both.
use Rattle.std.proofs.Common.{◌≡◌, ◌||◌, ◌∷◌}
use Rattle.program_laws.proofs.Common.{ℕ, Bool, false, List, [], map, Option, refl, sym, ap, ap₂, subst, ◌∙◌, or_parts, Spot, Expr, Expr-F, map-Expr, roll-Expr, fold-roll-Expr, ExprNode, ExprNode-F, map-ExprNode, roll-ExprNode, fold-ExprNode, fold-roll-ExprNode, Link, Link-F, map-Link, roll-Link, fold-roll-Link, Entry, Entry-F, map-Entry, roll-Entry, fold-roll-Entry, Suffix, Suffix-F, map-Suffix, roll-Suffix, fold-roll-Suffix, SuffixNode, SuffixNode-F, map-SuffixNode, roll-SuffixNode, fold-SuffixNode, fold-roll-SuffixNode, ind-Expr, Scope, Table, ActionHead, seen, name_found, event_of, action_named, plan_of, plan_found, Pair, Part, Linked, Step, Node, StepNode}
use Rattle.epl_tree.specs.declared.expression.ExprNode.TheOpen as node
use Rattle.expr_check.specs.Expressions as check
use Rattle.listener_check.specs.Names as names
use Rattle.listener_check.specs.Names.{some_of}

-- the names that are asked after are those by which the scopes may differ
pub record Alike (wanted : List ℕ → Bool) (table : Table) (a b : Scope) : Type 0 where
  pub same_names : (name : List ℕ) → wanted name ≡ false → seen a name ≡ seen b name
  pub same_actions : (name : List ℕ) → action_named table a name ≡ action_named table b name

module _ (wanted : List ℕ → Bool) (table : Table) (a b : Scope) (k : Alike wanted table a b) where
  module _ (scope : Scope) where
    abbrev node_of : ExprNode → Node
    node_of = fold-ExprNode Node StepNode Pair Part Linked Step (check.node_step table scope) (check.suffix_node_step table scope) (check.entry_step table scope) (check.expr_step table scope) (check.link_step table scope) (check.suffix_step table scope)

    abbrev step_node_of : SuffixNode → StepNode
    step_node_of = fold-SuffixNode Node StepNode Pair Part Linked Step (check.node_step table scope) (check.suffix_node_step table scope) (check.entry_step table scope) (check.expr_step table scope) (check.link_step table scope) (check.suffix_step table scope)

  abbrev node_mentions : ExprNode → Bool
  node_mentions = fold-ExprNode Bool Bool Bool Bool Bool Bool (names.node_step wanted) (names.suffix_node_step wanted) (names.entry_step wanted) (names.expr_step wanted) (names.link_step wanted) (names.suffix_step wanted)

  abbrev step_mentions : SuffixNode → Bool
  step_mentions = fold-SuffixNode Bool Bool Bool Bool Bool Bool (names.node_step wanted) (names.suffix_node_step wanted) (names.entry_step wanted) (names.expr_step wanted) (names.link_step wanted) (names.suffix_step wanted)

  -- what is claimed of each kind of tree
  abbrev ForNode : ExprNode → Type 0
  ForNode n = node_mentions n ≡ false → node_of a n ≡ node_of b n

  abbrev ForStepNode : SuffixNode → Type 0
  ForStepNode n = step_mentions n ≡ false → step_node_of a n ≡ step_node_of b n

  abbrev ForEntry : Entry → Type 0
  ForEntry e = names.entry_mentions wanted e ≡ false → check.entry_part table a e ≡ check.entry_part table b e

  abbrev ForExpr : Expr → Type 0
  ForExpr e = names.mentions wanted e ≡ false → check.part_of table a e ≡ check.part_of table b e

  abbrev ForLink : Link → Type 0
  ForLink l = names.link_mentions wanted l ≡ false → check.link_part table a l ≡ check.link_part table b l

  abbrev ForSuffix : Suffix → Type 0
  ForSuffix s = names.suffix_mentions wanted s ≡ false → check.step_of table a s ≡ check.step_of table b s

  abbrev N : Type 0
  N = (n : ExprNode) × ForNode n

  abbrev SN : Type 0
  SN = (n : SuffixNode) × ForStepNode n

  abbrev E : Type 0
  E = (e : Entry) × ForEntry e

  abbrev X : Type 0
  X = (e : Expr) × ForExpr e

  abbrev L : Type 0
  L = (l : Link) × ForLink l

  abbrev S : Type 0
  S = (s : Suffix) × ForSuffix s

  -- lists of parts
  exprs_same : (es : List X) → some_of (map (names.mentions wanted) (map (λ e. e.0) es)) ≡ false → map (check.part_of table a) (map (λ e. e.0) es) ≡ map (check.part_of table b) (map (λ e. e.0) es)
  exprs_same [] h = refl
  exprs_same (e ∷ es) h = let p = or_parts (names.mentions wanted e.0) (some_of (map (names.mentions wanted) (map (λ e. e.0) es))) h in ap₂ ◌∷◌ (e.1 p.0) (exprs_same es p.1)

  links_same : (ls : List L) → some_of (map (names.link_mentions wanted) (map (λ l. l.0) ls)) ≡ false → map (check.link_part table a) (map (λ l. l.0) ls) ≡ map (check.link_part table b) (map (λ l. l.0) ls)
  links_same [] h = refl
  links_same (l ∷ ls) h = let p = or_parts (names.link_mentions wanted l.0) (some_of (map (names.link_mentions wanted) (map (λ l. l.0) ls))) h in ap₂ ◌∷◌ (l.1 p.0) (links_same ls p.1)

  entries_same : (es : List E) → some_of (map (names.entry_mentions wanted) (map (λ e. e.0) es)) ≡ false → map (check.entry_part table a) (map (λ e. e.0) es) ≡ map (check.entry_part table b) (map (λ e. e.0) es)
  entries_same [] h = refl
  entries_same (e ∷ es) h = let p = or_parts (names.entry_mentions wanted e.0) (some_of (map (names.entry_mentions wanted) (map (λ e. e.0) es))) h in ap₂ ◌∷◌ (e.1 p.0) (entries_same es p.1)

  suffixes_same : (us : List S) → some_of (map (names.suffix_mentions wanted) (map (λ s. s.0) us)) ≡ false → map (check.step_of table a) (map (λ s. s.0) us) ≡ map (check.step_of table b) (map (λ s. s.0) us)
  suffixes_same [] h = refl
  suffixes_same (s ∷ us) h = let p = or_parts (names.suffix_mentions wanted s.0) (some_of (map (names.suffix_mentions wanted) (map (λ s. s.0) us))) h in ap₂ ◌∷◌ (s.1 p.0) (suffixes_same us p.1)

  -- ---- nodes

  abbrev node_trees : ExprNode-F N SN E X L S → ExprNode-F ExprNode SuffixNode Entry Expr Link Suffix
  node_trees y = map-ExprNode N SN E X L S ExprNode SuffixNode Entry Expr Link Suffix (λ e. e.0) (λ e. e.0) (λ e. e.0) (λ e. e.0) (λ e. e.0) (λ e. e.0) y

  abbrev node_parts : Scope → ExprNode-F ExprNode SuffixNode Entry Expr Link Suffix → ExprNode-F Node StepNode Pair Part Linked Step
  node_parts scope x = map-ExprNode ExprNode SuffixNode Entry Expr Link Suffix Node StepNode Pair Part Linked Step (node_of scope) (step_node_of scope) (check.entry_part table scope) (check.part_of table scope) (check.link_part table scope) (check.step_of table scope) x

  abbrev node_names : ExprNode-F ExprNode SuffixNode Entry Expr Link Suffix → ExprNode-F Bool Bool Bool Bool Bool Bool
  node_names x = map-ExprNode ExprNode SuffixNode Entry Expr Link Suffix Bool Bool Bool Bool Bool Bool node_mentions step_mentions (names.entry_mentions wanted) (names.mentions wanted) (names.link_mentions wanted) (names.suffix_mentions wanted) x

  abbrev Layers : ExprNode-F N SN E X L S → Type 0
  Layers y = names.node_step wanted (node_names (node_trees y)) ≡ false → check.node_step table a (node_parts a (node_trees y)) ≡ check.node_step table b (node_parts b (node_trees y))

  abbrev made_of : ExprNode-F Node StepNode Pair Part Linked Step → Node
  made_of d = check.node_step table b d

  first_rest : (first : X) (rest : List X) (make : Part → List Part → Node) → (names.mentions wanted first.0 || some_of (map (names.mentions wanted) (map (λ e. e.0) rest))) ≡ false → make (check.part_of table a first.0) (map (check.part_of table a) (map (λ e. e.0) rest)) ≡ make (check.part_of table b first.0) (map (check.part_of table b) (map (λ e. e.0) rest))
  first_rest first rest make h = let p = or_parts (names.mentions wanted first.0) (some_of (map (names.mentions wanted) (map (λ e. e.0) rest))) h in ap₂ make (first.1 p.0) (exprs_same rest p.1)

  first_links : (first : X) (links : List L) (make : Part → List Linked → Node) → (names.mentions wanted first.0 || some_of (map (names.link_mentions wanted) (map (λ l. l.0) links))) ≡ false → make (check.part_of table a first.0) (map (check.link_part table a) (map (λ l. l.0) links)) ≡ make (check.part_of table b first.0) (map (check.link_part table b) (map (λ l. l.0) links))
  first_links first links make h = let p = or_parts (names.mentions wanted first.0) (some_of (map (names.link_mentions wanted) (map (λ l. l.0) links))) h in ap₂ make (first.1 p.0) (links_same links p.1)

  abbrev call_node : List ℕ → Option ActionHead → List Part → Node
  call_node name head parts spot demand = plan_found (plan_of table (event_of table name) head) parts spot demand

  node_same : (y : ExprNode-F N SN E X L S) → Layers y
  node_same (node.Or first rest) h = first_rest first rest (λ p ps. made_of (node.Or p ps)) h
  node_same (node.Xor first rest) h = first_rest first rest (λ p ps. made_of (node.Xor p ps)) h
  node_same (node.And first rest) h = first_rest first rest (λ p ps. made_of (node.And p ps)) h
  node_same (node.Not part) h = ap (λ (p : Part). made_of (node.Not p)) (part.1 h)
  node_same (node.Compare left c right) h = let p = or_parts (names.mentions wanted left.0) (names.mentions wanted right.0) h in ap₂ (λ (p q : Part). made_of (node.Compare p c q)) (left.1 p.0) (right.1 p.1)
  node_same (node.Sum first links) h = first_links first links (λ p ps. made_of (node.Sum p ps)) h
  node_same (node.Product first links) h = first_links first links (λ p ps. made_of (node.Product p ps)) h
  node_same (node.Minus part) h = ap (λ (p : Part). made_of (node.Minus p)) (part.1 h)
  node_same (node.Postfix part steps) h = let p = or_parts (names.mentions wanted part.0) (some_of (map (names.suffix_mentions wanted) (map (λ s. s.0) steps))) h in ap₂ (λ (p : Part) (q : List Step). made_of (node.Postfix p q)) (part.1 p.0) (suffixes_same steps p.1)
  node_same (node.Integer digits) h = refl
  node_same (node.Quoted text) h = refl
  node_same (node.Boolean x) h = refl
  node_same (node.Name name) h = ap (λ (o : _) (spot : Spot) (demand : _). name_found spot demand o) (k.same_names name h)
  node_same (node.Call name parts) h = ap₂ (call_node name) (k.same_actions name) (exprs_same parts h)
  node_same (node.Sequence parts) h = ap (λ (ps : List Part). made_of (node.Sequence ps)) (exprs_same parts h)
  node_same (node.Dictionary pairs) h = ap (λ (ps : List Pair). made_of (node.Dictionary ps)) (entries_same pairs h)
  node_same (node.New written) h = refl
  node_same (node.Context parts) h = ap (λ (ps : List Part). made_of (node.Context ps)) (exprs_same parts h)
  node_same node.ContextCurrent h = refl
  node_same (node.Group part) h = ap (λ (p : Part). made_of (node.Group p)) (part.1 h)

  node_case : (x : ExprNode-F ExprNode SuffixNode Entry Expr Link Suffix) (y : ExprNode-F N SN E X L S) → node_trees y ≡ x → ForNode (roll-ExprNode x)
  node_case x y is = subst (λ (z : ExprNode-F ExprNode SuffixNode Entry Expr Link Suffix). ForNode (roll-ExprNode z)) is (λ h.
      fold-roll-ExprNode Node StepNode Pair Part Linked Step (check.node_step table a) (check.suffix_node_step table a) (check.entry_step table a) (check.expr_step table a) (check.link_step table a) (check.suffix_step table a) (node_trees y)
      ∙ node_same y (sym (fold-roll-ExprNode Bool Bool Bool Bool Bool Bool (names.node_step wanted) (names.suffix_node_step wanted) (names.entry_step wanted) (names.expr_step wanted) (names.link_step wanted) (names.suffix_step wanted) (node_trees y)) ∙ h)
      ∙ sym (fold-roll-ExprNode Node StepNode Pair Part Linked Step (check.node_step table b) (check.suffix_node_step table b) (check.entry_step table b) (check.expr_step table b) (check.link_step table b) (check.suffix_step table b) (node_trees y)))

  -- ---- steps

  abbrev step_trees : SuffixNode-F N SN E X L S → SuffixNode-F ExprNode SuffixNode Entry Expr Link Suffix
  step_trees y = map-SuffixNode N SN E X L S ExprNode SuffixNode Entry Expr Link Suffix (λ e. e.0) (λ e. e.0) (λ e. e.0) (λ e. e.0) (λ e. e.0) (λ e. e.0) y

  abbrev step_parts : Scope → SuffixNode-F ExprNode SuffixNode Entry Expr Link Suffix → SuffixNode-F Node StepNode Pair Part Linked Step
  step_parts scope x = map-SuffixNode ExprNode SuffixNode Entry Expr Link Suffix Node StepNode Pair Part Linked Step (node_of scope) (step_node_of scope) (check.entry_part table scope) (check.part_of table scope) (check.link_part table scope) (check.step_of table scope) x

  abbrev step_names : SuffixNode-F ExprNode SuffixNode Entry Expr Link Suffix → SuffixNode-F Bool Bool Bool Bool Bool Bool
  step_names x = map-SuffixNode ExprNode SuffixNode Entry Expr Link Suffix Bool Bool Bool Bool Bool Bool node_mentions step_mentions (names.entry_mentions wanted) (names.mentions wanted) (names.link_mentions wanted) (names.suffix_mentions wanted) x

  step_same : (y : SuffixNode-F N SN E X L S) → names.suffix_node_step wanted (step_names (step_trees y)) ≡ false → check.suffix_node_step table a (step_parts a (step_trees y)) ≡ check.suffix_node_step table b (step_parts b (step_trees y))
  step_same (node.Field name) h = refl
  step_same (node.Index part) h = ap (λ (p : Part). check.suffix_node_step table b (node.Index p)) (part.1 h)
  step_same (node.Method name parts) h = ap (λ (ps : List Part). check.suffix_node_step table b (node.Method name ps)) (exprs_same parts h)

  step_node_case : (x : SuffixNode-F ExprNode SuffixNode Entry Expr Link Suffix) (y : SuffixNode-F N SN E X L S) → step_trees y ≡ x → ForStepNode (roll-SuffixNode x)
  step_node_case x y is = subst (λ (z : SuffixNode-F ExprNode SuffixNode Entry Expr Link Suffix). ForStepNode (roll-SuffixNode z)) is (λ h.
      fold-roll-SuffixNode Node StepNode Pair Part Linked Step (check.node_step table a) (check.suffix_node_step table a) (check.entry_step table a) (check.expr_step table a) (check.link_step table a) (check.suffix_step table a) (step_trees y)
      ∙ step_same y (sym (fold-roll-SuffixNode Bool Bool Bool Bool Bool Bool (names.node_step wanted) (names.suffix_node_step wanted) (names.entry_step wanted) (names.expr_step wanted) (names.link_step wanted) (names.suffix_step wanted) (step_trees y)) ∙ h)
      ∙ sym (fold-roll-SuffixNode Node StepNode Pair Part Linked Step (check.node_step table b) (check.suffix_node_step table b) (check.entry_step table b) (check.expr_step table b) (check.link_step table b) (check.suffix_step table b) (step_trees y)))

  -- ---- what holds nodes

  abbrev entry_trees : Entry-F N SN E X L S → Entry-F ExprNode SuffixNode Entry Expr Link Suffix
  entry_trees y = map-Entry N SN E X L S ExprNode SuffixNode Entry Expr Link Suffix (λ e. e.0) (λ e. e.0) (λ e. e.0) (λ e. e.0) (λ e. e.0) (λ e. e.0) y

  entry_case : (x : Entry-F ExprNode SuffixNode Entry Expr Link Suffix) (y : Entry-F N SN E X L S) → entry_trees y ≡ x → ForEntry (roll-Entry x)
  entry_case x y is = subst (λ (z : Entry-F ExprNode SuffixNode Entry Expr Link Suffix). ForEntry (roll-Entry z)) is (λ h.
      let p = or_parts (names.mentions wanted y.key.0) (names.mentions wanted y.value.0) (sym (fold-roll-Entry Bool Bool Bool Bool Bool Bool (names.node_step wanted) (names.suffix_node_step wanted) (names.entry_step wanted) (names.expr_step wanted) (names.link_step wanted) (names.suffix_step wanted) (entry_trees y)) ∙ h) in
      fold-roll-Entry Node StepNode Pair Part Linked Step (check.node_step table a) (check.suffix_node_step table a) (check.entry_step table a) (check.expr_step table a) (check.link_step table a) (check.suffix_step table a) (entry_trees y)
      ∙ ap₂ (λ (p q : Part). let z : Pair = record { key = p; value = q } in z) (y.key.1 p.0) (y.value.1 p.1)
      ∙ sym (fold-roll-Entry Node StepNode Pair Part Linked Step (check.node_step table b) (check.suffix_node_step table b) (check.entry_step table b) (check.expr_step table b) (check.link_step table b) (check.suffix_step table b) (entry_trees y)))

  abbrev expr_trees : Expr-F N SN E X L S → Expr-F ExprNode SuffixNode Entry Expr Link Suffix
  expr_trees y = map-Expr N SN E X L S ExprNode SuffixNode Entry Expr Link Suffix (λ e. e.0) (λ e. e.0) (λ e. e.0) (λ e. e.0) (λ e. e.0) (λ e. e.0) y

  expr_case : (x : Expr-F ExprNode SuffixNode Entry Expr Link Suffix) (y : Expr-F N SN E X L S) → expr_trees y ≡ x → ForExpr (roll-Expr x)
  expr_case x y is = subst (λ (z : Expr-F ExprNode SuffixNode Entry Expr Link Suffix). ForExpr (roll-Expr z)) is (λ h.
      fold-roll-Expr Node StepNode Pair Part Linked Step (check.node_step table a) (check.suffix_node_step table a) (check.entry_step table a) (check.expr_step table a) (check.link_step table a) (check.suffix_step table a) (expr_trees y)
      ∙ ap (λ (n : Node). n y.spot) (y.node.1 (sym (fold-roll-Expr Bool Bool Bool Bool Bool Bool (names.node_step wanted) (names.suffix_node_step wanted) (names.entry_step wanted) (names.expr_step wanted) (names.link_step wanted) (names.suffix_step wanted) (expr_trees y)) ∙ h))
      ∙ sym (fold-roll-Expr Node StepNode Pair Part Linked Step (check.node_step table b) (check.suffix_node_step table b) (check.entry_step table b) (check.expr_step table b) (check.link_step table b) (check.suffix_step table b) (expr_trees y)))

  abbrev link_trees : Link-F N SN E X L S → Link-F ExprNode SuffixNode Entry Expr Link Suffix
  link_trees y = map-Link N SN E X L S ExprNode SuffixNode Entry Expr Link Suffix (λ e. e.0) (λ e. e.0) (λ e. e.0) (λ e. e.0) (λ e. e.0) (λ e. e.0) y

  link_case : (x : Link-F ExprNode SuffixNode Entry Expr Link Suffix) (y : Link-F N SN E X L S) → link_trees y ≡ x → ForLink (roll-Link x)
  link_case x y is = subst (λ (z : Link-F ExprNode SuffixNode Entry Expr Link Suffix). ForLink (roll-Link z)) is (λ h.
      fold-roll-Link Node StepNode Pair Part Linked Step (check.node_step table a) (check.suffix_node_step table a) (check.entry_step table a) (check.expr_step table a) (check.link_step table a) (check.suffix_step table a) (link_trees y)
      ∙ ap (λ (p : Part). let z : Linked = record { operator = y.operator; operand = p } in z) (y.operand.1 (sym (fold-roll-Link Bool Bool Bool Bool Bool Bool (names.node_step wanted) (names.suffix_node_step wanted) (names.entry_step wanted) (names.expr_step wanted) (names.link_step wanted) (names.suffix_step wanted) (link_trees y)) ∙ h))
      ∙ sym (fold-roll-Link Node StepNode Pair Part Linked Step (check.node_step table b) (check.suffix_node_step table b) (check.entry_step table b) (check.expr_step table b) (check.link_step table b) (check.suffix_step table b) (link_trees y)))

  abbrev suffix_trees : Suffix-F N SN E X L S → Suffix-F ExprNode SuffixNode Entry Expr Link Suffix
  suffix_trees y = map-Suffix N SN E X L S ExprNode SuffixNode Entry Expr Link Suffix (λ e. e.0) (λ e. e.0) (λ e. e.0) (λ e. e.0) (λ e. e.0) (λ e. e.0) y

  suffix_case : (x : Suffix-F ExprNode SuffixNode Entry Expr Link Suffix) (y : Suffix-F N SN E X L S) → suffix_trees y ≡ x → ForSuffix (roll-Suffix x)
  suffix_case x y is = subst (λ (z : Suffix-F ExprNode SuffixNode Entry Expr Link Suffix). ForSuffix (roll-Suffix z)) is (λ h.
      fold-roll-Suffix Node StepNode Pair Part Linked Step (check.node_step table a) (check.suffix_node_step table a) (check.entry_step table a) (check.expr_step table a) (check.link_step table a) (check.suffix_step table a) (suffix_trees y)
      ∙ ap (λ (n : StepNode). let z : Step = record { kind = n.kind; found = n.found y.spot } in z) (y.node.1 (sym (fold-roll-Suffix Bool Bool Bool Bool Bool Bool (names.node_step wanted) (names.suffix_node_step wanted) (names.entry_step wanted) (names.expr_step wanted) (names.link_step wanted) (names.suffix_step wanted) (suffix_trees y)) ∙ h))
      ∙ sym (fold-roll-Suffix Node StepNode Pair Part Linked Step (check.node_step table b) (check.suffix_node_step table b) (check.entry_step table b) (check.expr_step table b) (check.link_step table b) (check.suffix_step table b) (suffix_trees y)))

  -- for every expression
  pub apart : (e : Expr) → names.mentions wanted e ≡ false → check.part_of table a e ≡ check.part_of table b e
  apart = ind-Expr ForNode ForStepNode ForEntry ForExpr ForLink ForSuffix node_case step_node_case entry_case expr_case link_case suffix_case
