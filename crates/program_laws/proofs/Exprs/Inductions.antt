-- One induction over expressions: what holds of each form, where it holds of the parts, holds of every expression, together with
-- the names that it names.
use Rattle.std.proofs.Common.{◌≡◌, ◌∷◌}
use Rattle.program_laws.proofs.Common.{ℕ, Bool, List, [], map, sym, subst, bytes_eq, Spot, Comparison, Operator, Expr, Expr-F, map-Expr, roll-Expr, fold-roll-Expr, ExprNode, ExprNode-F, map-ExprNode, roll-ExprNode, fold-ExprNode, fold-roll-ExprNode, Link, Link-F, map-Link, roll-Link, fold-roll-Link, Entry, Entry-F, map-Entry, roll-Entry, fold-roll-Entry, Suffix, Suffix-F, map-Suffix, roll-Suffix, fold-roll-Suffix, SuffixNode, SuffixNode-F, map-SuffixNode, roll-SuffixNode, fold-SuffixNode, fold-roll-SuffixNode, ind-Expr, TypeExpr, Scope, Table, type_found, Logic, Level, inside, call_found, context_found, Pair, text_stands, boolean_stands, current_stands, integer_found, sequence_found, dictionary_found, is_change, seen, name_found, Part, Linked, not_found, minus_found, comparison_found, logic_found, links_found, Step, method_kind, field_found, index_found, method_found, postfix_found, Node, StepNode, node_step, suffix_node_step, entry_step, expr_step, link_step, suffix_step, link_part, entry_part, none, either, any_of, expr_node, expr_names, suffix_names, link_names, entry_names}
use Rattle.epl_tree.specs.declared.expression.ExprNode.TheOpen as node
use Rattle.epl_tree.specs.declared.expression.ExprNode.TheFolds.{ind-Suffix}
use Rattle.expr_rules.specs.declared.operators.Logic.TheVariants as logic
use Rattle.expr_rules.specs.declared.operators.Level.TheVariants as level
use Rattle.expr_rules.specs.declared.steps.StepKind.TheVariants as step
use Rattle.expr_rules.specs.Literals.{new_stands}
use Rattle.expr_rules.specs.Methods.{method_named}
use Rattle.expr_rules.specs.Places.{group_of}
use Rattle.expr_rules.specs.Postfix.{leads}
use Rattle.expr_rules.specs.Then.{and_then}
use Rattle.expr_check.specs.Expressions.{part_of, step_of}
use Rattle.stmt_check.specs.Captures.{suffix_node}
use Rattle.stmt_check.specs.Captures.{Names as Naming, entry_step as entry_naming, expr_step as expr_naming, link_step as link_naming, suffix_step as suffix_naming}

-- each of these names what it names
abbrev pub Each : {A : Type 0} → (Naming → A → Type 0) → List Naming → List A → Type 0
Each Is [] [] = Unit {0}
Each Is (n ∷ ns) (x ∷ xs) = Is n x × Each Is ns xs
Each Is ns xs = ⊥

abbrev pub step_at : StepNode → Spot → Step
step_at n own = record { kind = n.kind; found = n.found own }

module _ (table : Table) (scope : Scope) (PartIs : Naming → Part → Type 0) (StepIs : Naming → Step → Type 0) (PairIs : Naming → Pair → Type 0) (LinkIs : Naming → Linked → Type 0) where
  -- what is claimed of each form, where it holds of its parts
  pub record Forms : Type 0 where
    pub logic_is : (l : Logic) (first : Part) (parts : List Part) (n : Naming) (ns : List Naming) (spot : Spot) → PartIs n first → Each PartIs ns parts → PartIs (either n (any_of ns)) (logic_found l first parts spot)
    pub not_is : (part : Part) (n : Naming) (spot : Spot) → PartIs n part → PartIs n (not_found part spot)
    pub comparison_is : (left right : Part) (c : Comparison) (n m : Naming) (spot : Spot) → PartIs n left → PartIs m right → PartIs (either n m) (comparison_found left c right spot)
    pub links_is : (l : Level) (first : Part) (links : List Linked) (n : Naming) (ns : List Naming) (spot : Spot) → PartIs n first → Each LinkIs ns links → PartIs (either n (any_of ns)) (links_found l first links spot)
    pub minus_is : (part : Part) (n : Naming) (spot : Spot) → PartIs n part → PartIs n (minus_found part spot)
    pub postfix_is : (part : Part) (steps : List Step) (n : Naming) (ns : List Naming) (spot : Spot) → PartIs n part → Each StepIs ns steps → PartIs (either n (any_of ns)) (λ demand. postfix_found (leads demand.changed (map (λ s. s.kind) steps)) part steps spot demand)
    pub integer_is : (digits : List ℕ) (spot : Spot) → PartIs none (λ demand. integer_found spot demand digits)
    pub quoted_is : (text : List ℕ) (spot : Spot) → PartIs none (λ demand. text_stands spot demand text)
    pub boolean_is : (b : Bool) (spot : Spot) → PartIs none (λ demand. boolean_stands spot demand b)
    pub name_is : (name : List ℕ) (spot : Spot) → PartIs (bytes_eq name) (λ demand. name_found spot demand (seen scope name))
    pub call_is : (name : List ℕ) (parts : List Part) (ns : List Naming) (spot : Spot) → Each PartIs ns parts → PartIs (any_of ns) (call_found table scope name parts spot)
    pub sequence_is : (parts : List Part) (ns : List Naming) (spot : Spot) → Each PartIs ns parts → PartIs (any_of ns) (sequence_found parts spot)
    pub dictionary_is : (pairs : List Pair) (ns : List Naming) (spot : Spot) → Each PairIs ns pairs → PartIs (any_of ns) (dictionary_found pairs spot)
    pub new_is : (written : TypeExpr) (spot : Spot) → PartIs none (λ demand. and_then (type_found table written) (new_stands spot demand))
    pub context_is : (parts : List Part) (ns : List Naming) (spot : Spot) → Each PartIs ns parts → PartIs (any_of ns) (context_found parts spot)
    pub current_is : (spot : Spot) → PartIs none (λ demand. current_stands spot demand)
    pub group_is : (part : Part) (n : Naming) (spot : Spot) → PartIs n part → PartIs n (λ demand. and_then (part (inside demand)) (group_of spot demand))
    pub field_is : (name : List ℕ) → StepIs none (record { kind = step.Inner; found = field_found table name })
    pub index_is : (part : Part) (n : Naming) (own : Spot) → PartIs n part → StepIs n (record { kind = step.Inner; found = index_found part own })
    pub method_is : (name : List ℕ) (parts : List Part) (ns : List Naming) → Each PartIs ns parts → StepIs (any_of ns) (record { kind = method_kind (is_change (method_named name)); found = method_found name parts })
    pub pair_is : (key value : Part) (n m : Naming) → PartIs n key → PartIs m value → PairIs (either n m) (record { key = key; value = value })
    pub link_is : (o : Operator) (part : Part) (n : Naming) → PartIs n part → LinkIs n (record { operator = o; operand = part })

  module _ (forms : Forms) where
    abbrev node_of : ExprNode → Node
    node_of = fold-ExprNode Node StepNode Pair Part Linked Step (node_step table scope) (suffix_node_step table scope) (entry_step table scope) (expr_step table scope) (link_step table scope) (suffix_step table scope)

    abbrev step_node_of : SuffixNode → StepNode
    step_node_of = fold-SuffixNode Node StepNode Pair Part Linked Step (node_step table scope) (suffix_node_step table scope) (entry_step table scope) (expr_step table scope) (link_step table scope) (suffix_step table scope)

    abbrev node_names : ExprNode → Naming
    node_names = fold-ExprNode Naming Naming Naming Naming Naming Naming expr_node suffix_node entry_naming expr_naming link_naming suffix_naming

    abbrev step_names : SuffixNode → Naming
    step_names = fold-SuffixNode Naming Naming Naming Naming Naming Naming expr_node suffix_node entry_naming expr_naming link_naming suffix_naming

    -- what is claimed of each kind of tree
    abbrev ForNode : ExprNode → Type 0
    ForNode n = (spot : Spot) → PartIs (node_names n) (node_of n spot)

    abbrev ForStepNode : SuffixNode → Type 0
    ForStepNode n = (own : Spot) → StepIs (step_names n) (step_at (step_node_of n) own)

    abbrev ForEntry : Entry → Type 0
    ForEntry e = PairIs (entry_names e) (entry_part table scope e)

    abbrev ForExpr : Expr → Type 0
    ForExpr e = PartIs (expr_names e) (part_of table scope e)

    abbrev ForLink : Link → Type 0
    ForLink l = LinkIs (link_names l) (link_part table scope l)

    abbrev ForSuffix : Suffix → Type 0
    ForSuffix s = StepIs (suffix_names s) (step_of table scope s)

    abbrev HeldNode : Type 0
    HeldNode = (n : ExprNode) × ForNode n

    abbrev HeldStep : Type 0
    HeldStep = (n : SuffixNode) × ForStepNode n

    abbrev HeldEntry : Type 0
    HeldEntry = (e : Entry) × ForEntry e

    abbrev HeldExpr : Type 0
    HeldExpr = (e : Expr) × ForExpr e

    abbrev HeldLink : Type 0
    HeldLink = (l : Link) × ForLink l

    abbrev HeldSuffix : Type 0
    HeldSuffix = (s : Suffix) × ForSuffix s

    -- parts in a row
    each_held : {A B : Type 0} (Is : Naming → B → Type 0) (called : A → Naming) (made : A → B) (xs : List ((x : A) × Is (called x) (made x))) → Each Is (map called (map (λ e. e.0) xs)) (map made (map (λ e. e.0) xs))
    each_held Is called made [] = tt
    each_held Is called made (x ∷ xs) = (x.1, each_held Is called made xs)

    exprs_held : (es : List HeldExpr) → Each PartIs (map expr_names (map (λ e. e.0) es)) (map (part_of table scope) (map (λ e. e.0) es))
    exprs_held = each_held PartIs expr_names (part_of table scope)

    -- ---- nodes

    abbrev node_trees : ExprNode-F HeldNode HeldStep HeldEntry HeldExpr HeldLink HeldSuffix → ExprNode-F ExprNode SuffixNode Entry Expr Link Suffix
    node_trees y = map-ExprNode HeldNode HeldStep HeldEntry HeldExpr HeldLink HeldSuffix ExprNode SuffixNode Entry Expr Link Suffix (λ e. e.0) (λ e. e.0) (λ e. e.0) (λ e. e.0) (λ e. e.0) (λ e. e.0) y

    abbrev node_parts : ExprNode-F ExprNode SuffixNode Entry Expr Link Suffix → ExprNode-F Node StepNode Pair Part Linked Step
    node_parts x = map-ExprNode ExprNode SuffixNode Entry Expr Link Suffix Node StepNode Pair Part Linked Step node_of step_node_of (entry_part table scope) (part_of table scope) (link_part table scope) (step_of table scope) x

    abbrev node_named : ExprNode-F ExprNode SuffixNode Entry Expr Link Suffix → ExprNode-F Naming Naming Naming Naming Naming Naming
    node_named x = map-ExprNode ExprNode SuffixNode Entry Expr Link Suffix Naming Naming Naming Naming Naming Naming node_names step_names entry_names expr_names link_names suffix_names x

    node_at : (y : ExprNode-F HeldNode HeldStep HeldEntry HeldExpr HeldLink HeldSuffix) (spot : Spot) → PartIs (expr_node (node_named (node_trees y))) (node_step table scope (node_parts (node_trees y)) spot)
    node_at (node.Or first rest) spot = forms.logic_is logic.Or _ _ _ _ spot first.1 (exprs_held rest)
    node_at (node.Xor first rest) spot = forms.logic_is logic.Xor _ _ _ _ spot first.1 (exprs_held rest)
    node_at (node.And first rest) spot = forms.logic_is logic.And _ _ _ _ spot first.1 (exprs_held rest)
    node_at (node.Not part) spot = forms.not_is _ _ spot part.1
    node_at (node.Compare left c right) spot = forms.comparison_is _ _ c _ _ spot left.1 right.1
    node_at (node.Sum first links) spot = forms.links_is level.Sum _ _ _ _ spot first.1 (each_held LinkIs link_names (link_part table scope) links)
    node_at (node.Product first links) spot = forms.links_is level.Product _ _ _ _ spot first.1 (each_held LinkIs link_names (link_part table scope) links)
    node_at (node.Minus part) spot = forms.minus_is _ _ spot part.1
    node_at (node.Postfix part steps) spot = forms.postfix_is _ _ _ _ spot part.1 (each_held StepIs suffix_names (step_of table scope) steps)
    node_at (node.Integer digits) spot = forms.integer_is digits spot
    node_at (node.Quoted text) spot = forms.quoted_is text spot
    node_at (node.Boolean b) spot = forms.boolean_is b spot
    node_at (node.Name name) spot = forms.name_is name spot
    node_at (node.Call name parts) spot = forms.call_is name _ _ spot (exprs_held parts)
    node_at (node.Sequence parts) spot = forms.sequence_is _ _ spot (exprs_held parts)
    node_at (node.Dictionary pairs) spot = forms.dictionary_is _ _ spot (each_held PairIs entry_names (entry_part table scope) pairs)
    node_at (node.New written) spot = forms.new_is written spot
    node_at (node.Context parts) spot = forms.context_is _ _ spot (exprs_held parts)
    node_at node.ContextCurrent spot = forms.current_is spot
    node_at (node.Group part) spot = forms.group_is _ _ spot part.1

    node_case : (x : ExprNode-F ExprNode SuffixNode Entry Expr Link Suffix) (y : ExprNode-F HeldNode HeldStep HeldEntry HeldExpr HeldLink HeldSuffix) → node_trees y ≡ x → ForNode (roll-ExprNode x)
    node_case x y is = subst (λ (z : ExprNode-F ExprNode SuffixNode Entry Expr Link Suffix). ForNode (roll-ExprNode z)) is (λ spot.
        subst (λ (n : Naming). PartIs n (node_of (roll-ExprNode (node_trees y)) spot)) (sym (fold-roll-ExprNode Naming Naming Naming Naming Naming Naming expr_node suffix_node entry_naming expr_naming link_naming suffix_naming (node_trees y)))
        (subst (λ (n : Node). PartIs (expr_node (node_named (node_trees y))) (n spot)) (sym (fold-roll-ExprNode Node StepNode Pair Part Linked Step (node_step table scope) (suffix_node_step table scope) (entry_step table scope) (expr_step table scope) (link_step table scope) (suffix_step table scope) (node_trees y)))
        (node_at y spot)))

    -- ---- steps

    abbrev step_trees : SuffixNode-F HeldNode HeldStep HeldEntry HeldExpr HeldLink HeldSuffix → SuffixNode-F ExprNode SuffixNode Entry Expr Link Suffix
    step_trees y = map-SuffixNode HeldNode HeldStep HeldEntry HeldExpr HeldLink HeldSuffix ExprNode SuffixNode Entry Expr Link Suffix (λ e. e.0) (λ e. e.0) (λ e. e.0) (λ e. e.0) (λ e. e.0) (λ e. e.0) y

    abbrev step_parts : SuffixNode-F ExprNode SuffixNode Entry Expr Link Suffix → SuffixNode-F Node StepNode Pair Part Linked Step
    step_parts x = map-SuffixNode ExprNode SuffixNode Entry Expr Link Suffix Node StepNode Pair Part Linked Step node_of step_node_of (entry_part table scope) (part_of table scope) (link_part table scope) (step_of table scope) x

    abbrev step_named : SuffixNode-F ExprNode SuffixNode Entry Expr Link Suffix → SuffixNode-F Naming Naming Naming Naming Naming Naming
    step_named x = map-SuffixNode ExprNode SuffixNode Entry Expr Link Suffix Naming Naming Naming Naming Naming Naming node_names step_names entry_names expr_names link_names suffix_names x

    step_node_at : (y : SuffixNode-F HeldNode HeldStep HeldEntry HeldExpr HeldLink HeldSuffix) (own : Spot) → StepIs (suffix_node (step_named (step_trees y))) (step_at (suffix_node_step table scope (step_parts (step_trees y))) own)
    step_node_at (node.Field name) own = forms.field_is name
    step_node_at (node.Index part) own = forms.index_is _ _ own part.1
    step_node_at (node.Method name parts) own = forms.method_is name _ _ (exprs_held parts)

    step_node_case : (x : SuffixNode-F ExprNode SuffixNode Entry Expr Link Suffix) (y : SuffixNode-F HeldNode HeldStep HeldEntry HeldExpr HeldLink HeldSuffix) → step_trees y ≡ x → ForStepNode (roll-SuffixNode x)
    step_node_case x y is = subst (λ (z : SuffixNode-F ExprNode SuffixNode Entry Expr Link Suffix). ForStepNode (roll-SuffixNode z)) is (λ own.
        subst (λ (n : Naming). StepIs n (step_at (step_node_of (roll-SuffixNode (step_trees y))) own)) (sym (fold-roll-SuffixNode Naming Naming Naming Naming Naming Naming expr_node suffix_node entry_naming expr_naming link_naming suffix_naming (step_trees y)))
        (subst (λ (n : StepNode). StepIs (suffix_node (step_named (step_trees y))) (step_at n own)) (sym (fold-roll-SuffixNode Node StepNode Pair Part Linked Step (node_step table scope) (suffix_node_step table scope) (entry_step table scope) (expr_step table scope) (link_step table scope) (suffix_step table scope) (step_trees y)))
        (step_node_at y own)))

    -- ---- what holds nodes

    abbrev entry_trees : Entry-F HeldNode HeldStep HeldEntry HeldExpr HeldLink HeldSuffix → Entry-F ExprNode SuffixNode Entry Expr Link Suffix
    entry_trees y = map-Entry HeldNode HeldStep HeldEntry HeldExpr HeldLink HeldSuffix ExprNode SuffixNode Entry Expr Link Suffix (λ e. e.0) (λ e. e.0) (λ e. e.0) (λ e. e.0) (λ e. e.0) (λ e. e.0) y

    entry_case : (x : Entry-F ExprNode SuffixNode Entry Expr Link Suffix) (y : Entry-F HeldNode HeldStep HeldEntry HeldExpr HeldLink HeldSuffix) → entry_trees y ≡ x → ForEntry (roll-Entry x)
    entry_case x y is = subst (λ (z : Entry-F ExprNode SuffixNode Entry Expr Link Suffix). ForEntry (roll-Entry z)) is
        (subst (λ (n : Naming). PairIs n (entry_part table scope (roll-Entry (entry_trees y)))) (sym (fold-roll-Entry Naming Naming Naming Naming Naming Naming expr_node suffix_node entry_naming expr_naming link_naming suffix_naming (entry_trees y)))
        (subst (λ (p : Pair). PairIs (either (expr_names y.key.0) (expr_names y.value.0)) p) (sym (fold-roll-Entry Node StepNode Pair Part Linked Step (node_step table scope) (suffix_node_step table scope) (entry_step table scope) (expr_step table scope) (link_step table scope) (suffix_step table scope) (entry_trees y)))
        (forms.pair_is _ _ _ _ y.key.1 y.value.1)))

    abbrev expr_trees : Expr-F HeldNode HeldStep HeldEntry HeldExpr HeldLink HeldSuffix → Expr-F ExprNode SuffixNode Entry Expr Link Suffix
    expr_trees y = map-Expr HeldNode HeldStep HeldEntry HeldExpr HeldLink HeldSuffix ExprNode SuffixNode Entry Expr Link Suffix (λ e. e.0) (λ e. e.0) (λ e. e.0) (λ e. e.0) (λ e. e.0) (λ e. e.0) y

    expr_case : (x : Expr-F ExprNode SuffixNode Entry Expr Link Suffix) (y : Expr-F HeldNode HeldStep HeldEntry HeldExpr HeldLink HeldSuffix) → expr_trees y ≡ x → ForExpr (roll-Expr x)
    expr_case x y is = subst (λ (z : Expr-F ExprNode SuffixNode Entry Expr Link Suffix). ForExpr (roll-Expr z)) is
        (subst (λ (n : Naming). PartIs n (part_of table scope (roll-Expr (expr_trees y)))) (sym (fold-roll-Expr Naming Naming Naming Naming Naming Naming expr_node suffix_node entry_naming expr_naming link_naming suffix_naming (expr_trees y)))
        (subst (λ (p : Part). PartIs (node_names y.node.0) p) (sym (fold-roll-Expr Node StepNode Pair Part Linked Step (node_step table scope) (suffix_node_step table scope) (entry_step table scope) (expr_step table scope) (link_step table scope) (suffix_step table scope) (expr_trees y)))
        (y.node.1 y.spot)))

    abbrev link_trees : Link-F HeldNode HeldStep HeldEntry HeldExpr HeldLink HeldSuffix → Link-F ExprNode SuffixNode Entry Expr Link Suffix
    link_trees y = map-Link HeldNode HeldStep HeldEntry HeldExpr HeldLink HeldSuffix ExprNode SuffixNode Entry Expr Link Suffix (λ e. e.0) (λ e. e.0) (λ e. e.0) (λ e. e.0) (λ e. e.0) (λ e. e.0) y

    link_case : (x : Link-F ExprNode SuffixNode Entry Expr Link Suffix) (y : Link-F HeldNode HeldStep HeldEntry HeldExpr HeldLink HeldSuffix) → link_trees y ≡ x → ForLink (roll-Link x)
    link_case x y is = subst (λ (z : Link-F ExprNode SuffixNode Entry Expr Link Suffix). ForLink (roll-Link z)) is
        (subst (λ (n : Naming). LinkIs n (link_part table scope (roll-Link (link_trees y)))) (sym (fold-roll-Link Naming Naming Naming Naming Naming Naming expr_node suffix_node entry_naming expr_naming link_naming suffix_naming (link_trees y)))
        (subst (λ (p : Linked). LinkIs (expr_names y.operand.0) p) (sym (fold-roll-Link Node StepNode Pair Part Linked Step (node_step table scope) (suffix_node_step table scope) (entry_step table scope) (expr_step table scope) (link_step table scope) (suffix_step table scope) (link_trees y)))
        (forms.link_is y.operator _ _ y.operand.1)))

    abbrev suffix_trees : Suffix-F HeldNode HeldStep HeldEntry HeldExpr HeldLink HeldSuffix → Suffix-F ExprNode SuffixNode Entry Expr Link Suffix
    suffix_trees y = map-Suffix HeldNode HeldStep HeldEntry HeldExpr HeldLink HeldSuffix ExprNode SuffixNode Entry Expr Link Suffix (λ e. e.0) (λ e. e.0) (λ e. e.0) (λ e. e.0) (λ e. e.0) (λ e. e.0) y

    suffix_case : (x : Suffix-F ExprNode SuffixNode Entry Expr Link Suffix) (y : Suffix-F HeldNode HeldStep HeldEntry HeldExpr HeldLink HeldSuffix) → suffix_trees y ≡ x → ForSuffix (roll-Suffix x)
    suffix_case x y is = subst (λ (z : Suffix-F ExprNode SuffixNode Entry Expr Link Suffix). ForSuffix (roll-Suffix z)) is
        (subst (λ (n : Naming). StepIs n (step_of table scope (roll-Suffix (suffix_trees y)))) (sym (fold-roll-Suffix Naming Naming Naming Naming Naming Naming expr_node suffix_node entry_naming expr_naming link_naming suffix_naming (suffix_trees y)))
        (subst (λ (p : Step). StepIs (step_names y.node.0) p) (sym (fold-roll-Suffix Node StepNode Pair Part Linked Step (node_step table scope) (suffix_node_step table scope) (entry_step table scope) (expr_step table scope) (link_step table scope) (suffix_step table scope) (suffix_trees y)))
        (y.node.1 y.spot)))

    -- every expression, and every step
    pub part_is : (e : Expr) → PartIs (expr_names e) (part_of table scope e)
    part_is = ind-Expr ForNode ForStepNode ForEntry ForExpr ForLink ForSuffix node_case step_node_case entry_case expr_case link_case suffix_case

    -- every step
    pub step_is : (s : Suffix) → StepIs (suffix_names s) (step_of table scope s)
    step_is = ind-Suffix ForNode ForStepNode ForEntry ForExpr ForLink ForSuffix node_case step_node_case entry_case expr_case link_case suffix_case

    -- every row of them
    pub parts_are : (es : List Expr) → Each PartIs (map expr_names es) (map (part_of table scope) es)
    parts_are [] = tt
    parts_are (e ∷ es) = (part_is e, parts_are es)

    -- every row of steps
    pub steps_are : (us : List Suffix) → Each StepIs (map suffix_names us) (map (step_of table scope) us)
    steps_are [] = tt
    steps_are (u ∷ us) = (step_is u, steps_are us)
