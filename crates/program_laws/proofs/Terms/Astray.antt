-- Where an expression is told to be astray there is a fault in it.
use Rattle.std.proofs.Common.{◌≡◌, ◌+◌, ◌-◌, ◌∷◌, ◌++◌}
use Rattle.program_laws.proofs.Common.{ℕ, Bool, true, false, List, [], map, length, Option, Some, None, sym, subst, arith, AllByRecursion, length_push, Spot, Expr, Expr-F, map-Expr, roll-Expr, fold-roll-Expr, ExprNode, ExprNode-F, map-ExprNode, roll-ExprNode, fold-ExprNode, fold-roll-ExprNode, Link, Entry, Suffix, Suffix-F, map-Suffix, roll-Suffix, fold-roll-Suffix, SuffixNode, SuffixNode-F, map-SuffixNode, roll-SuffixNode, fold-SuffixNode, fold-roll-SuffixNode, ind-Expr, TypedNode, roll-TypedSuffix, Shape, Scope, Seen, Table, Found, type_found, event_of, Logic, Level, Sort, Gives, Judged, Root, Reach, Walk, Demand, operand, inside, seen, name_found, Pair, integer_stands, greatest, empty_stands, sequence_items, element_found, no_elements, dictionary_items, entry_found, no_entries, plan_of, plan_found, action_named, arguments_found, context_found, context_start, Part, Linked, operated, chain_start, join_found, links_start, link_found, judged, place_codes, given_codes, change_code, astray_code, called_of, Step, walked, reached, near, demand_before, walk_start, step_found, postfix_found, called_found, sound, codes_of, Node, StepNode, node_step, suffix_node_step, entry_step, expr_step, link_step, suffix_step, link_part, entry_part, typed_of, expr_found}
use Rattle.epl_tree.specs.declared.expression.ExprNode.TheOpen as node
use Rattle.expr_rules.specs.declared.operators.Logic.TheVariants as logic
use Rattle.expr_rules.specs.declared.operators.Level.TheVariants as level
use Rattle.expr_rules.specs.Asked.{negated, plain}
use Rattle.expr_rules.specs.Literals.{literal, within, number_of, sequence_of, dictionary_of, new_stands}
use Rattle.expr_rules.specs.Calls.{call_stands, context_stands}
use Rattle.expr_rules.specs.Operators.{not_of, minus_of, comparison_of, comparison_right, chain_of, logic_rest, links_of, links_rest}
use Rattle.expr_rules.specs.Places.{placed, stands, group_of}
use Rattle.expr_rules.specs.Methods.{method_named}
use Rattle.expr_rules.specs.Postfix.{index_wish, element_stands, element_step, method_stands, postfix_of, walked_from, postfix_rest, leads, field_of}
use Rattle.expr_rules.specs.Then.{and_then, through}
use Rattle.expr_check.specs.Expressions.{part_of, step_of}
use Rattle.program_laws.proofs.Exprs.Sure.{Sure, sure_then, sure_sound, sure_any}
use Rattle.program_laws.proofs.Shapes.Lists.{no_both, no_told}

pub record Strays {A : Type 0} (found : Found A) : Type 0 where
  pub never : found.faults ≡ [] → ⊥

strays_first : {A B : Type 0} (found : Found A) (made : A → Found B) → Strays found → Strays (and_then found made)
unfolding and_then
strays_first found made f = record { never = λ h. f.never (no_both found.faults (made found.part).faults h).0 }

strays_then : {A B : Type 0} (Q : A → Type 0) (found : Found A) (made : A → Found B) → Sure Q found → ((x : A) → Q x → Strays (made x)) → Strays (and_then found made)
unfolding and_then
strays_then Q found made first next = record { never = λ h. let none = no_both found.faults (made found.part).faults h in (next found.part (first.where_clear none.0)).never none.1 }

strays_second : {A B : Type 0} (found : Found A) (made : A → Found B) → ((x : A) → Strays (made x)) → Strays (and_then found made)
strays_second found made next = strays_then (λ x. Unit {0}) found made (record { where_clear = λ h. tt }) (λ x u. next x)

astray_some : (b : Bool) → b ≡ true → codes_of (astray_code b) ≡ [] → ⊥
astray_some true is h = cc
astray_some false is h = cc

placed_strays : (spot : Spot) (demand : Demand) (own : Option ℕ) (root : Option Root) (g : Gives) → demand.astray ≡ true → Strays (placed spot demand own root g)
unfolding placed
placed_strays spot demand own root g is = record {
  never = λ h.
      let none = no_told spot (codes_of own ++ place_codes demand root g) h in
      let a = no_both (codes_of own) (place_codes demand root g) none in
      let b = no_both (codes_of (change_code demand.assigned root)) (codes_of (astray_code demand.astray) ++ given_codes demand root g) a.1 in
      let c = no_both (codes_of (astray_code demand.astray)) (given_codes demand root g) b.1 in
      astray_some demand.astray is c.0;
}

stands_strays : (spot : Spot) (demand : Demand) (own : Option ℕ) (root : Option Root) (g : Gives) (n : TypedNode) → demand.astray ≡ true → Strays (stands spot demand own root g n)
stands_strays spot demand own root g n is = strays_first (placed spot demand own root g) (judged root n) (placed_strays spot demand own root g is)

operated_strays : (spot : Spot) (demand : Demand) (o : Option Sort) (n : TypedNode) → demand.astray ≡ true → Strays (operated spot demand o n)
operated_strays spot demand None n is = stands_strays spot demand _ _ _ n is
operated_strays spot demand (Some t) n is = stands_strays spot demand _ _ _ n is

name_strays : (spot : Spot) (demand : Demand) (o : Option Seen) → demand.astray ≡ true → Strays (name_found spot demand o)
name_strays spot demand None is = stands_strays spot demand _ _ _ _ is
name_strays spot demand (Some s) is = stands_strays spot demand _ _ _ _ is

-- a part that has a fault wherever it is astray
record PartStrays (part : Part) : Type 0 where
  at_demand : (demand : Demand) → demand.astray ≡ true → Strays (part demand)

-- ---- chains

chain_strays : (l : Logic) (first : Part) (parts : List Part) (spot : Spot) → PartStrays (λ demand. and_then (first operand) (logic_rest l parts spot demand))
unfolding logic_rest chain_of
chain_strays l first parts spot = record {
  at_demand = λ demand is.
      strays_second (first operand) (logic_rest l parts spot demand) (λ j.
      strays_second (through (join_found spot) (chain_start j) parts) (chain_of spot demand l) (λ c. operated_strays spot demand _ _ is));
}

links_stray : (l : Level) (first : Part) (links : List Linked) (spot : Spot) → PartStrays (λ demand. and_then (first operand) (links_rest l links spot demand))
unfolding links_rest links_of
links_stray l first links spot = record {
  at_demand = λ demand is.
      strays_second (first operand) (links_rest l links spot demand) (λ j.
      strays_second (through (link_found spot) (links_start j) links) (links_of spot demand l) (λ c. operated_strays spot demand _ _ is));
}

not_strays : (spot : Spot) (demand : Demand) (j : Judged) → demand.astray ≡ true → Strays (not_of spot demand j)
unfolding not_of
not_strays spot demand j is = operated_strays spot demand _ _ is

minus_strays : (spot : Spot) (demand : Demand) (j : Judged) → demand.astray ≡ true → Strays (minus_of spot demand j)
unfolding minus_of
minus_strays spot demand j is = operated_strays spot demand _ _ is

comparison_strays : (spot : Spot) (demand : Demand) (c : _) (right : Part) (left : Judged) → demand.astray ≡ true → Strays (comparison_right spot demand c right left)
unfolding comparison_right comparison_of
comparison_strays spot demand c right left is = strays_second (right operand) (comparison_of spot demand c left) (λ j. operated_strays spot demand _ _ is)

group_strays : (spot : Spot) (demand : Demand) (j : Judged) → demand.astray ≡ true → Strays (group_of spot demand j)
unfolding group_of
group_strays spot demand j is = record { never = λ h. astray_some demand.astray is (no_told spot (codes_of (astray_code demand.astray)) h) }

-- ---- literals and calls

integer_strays : (spot : Spot) (demand : Demand) (o : Option ℕ) → demand.astray ≡ true → Strays (integer_stands spot demand o)
integer_strays spot demand None is = strays_first _ (literal demand.signed _) (placed_strays spot demand _ _ _ is)
integer_strays spot demand (Some n) is = strays_first _ (literal demand.signed _) (placed_strays spot demand _ _ _ is)

empty_strays : (o : Option Shape) (n : TypedNode) (spot : Spot) (demand : Demand) → demand.astray ≡ true → Strays (empty_stands o n spot demand)
empty_strays None n spot demand is = stands_strays spot demand _ _ _ n is
empty_strays (Some s) n spot demand is = stands_strays spot demand _ _ _ n is

items_stray : (items : _) (s : Option Shape) (spot : Spot) (demand : Demand) → demand.astray ≡ true → Strays (sequence_items items s spot demand)
items_stray [] s spot demand is = empty_strays _ _ spot demand is
items_stray (item ∷ items) s spot demand is = stands_strays spot demand _ _ _ _ is

sequence_strays : (spot : Spot) (demand : Demand) (elements : _) → demand.astray ≡ true → Strays (sequence_of spot demand elements)
unfolding sequence_of
sequence_strays spot demand elements is = items_stray elements.items elements.shape spot demand is

entries_stray : (entries : _) (g : Gives) (spot : Spot) (demand : Demand) → demand.astray ≡ true → Strays (dictionary_items entries g spot demand)
entries_stray [] g spot demand is = empty_strays _ _ spot demand is
entries_stray (entry ∷ entries) g spot demand is = stands_strays spot demand _ _ _ _ is

dictionary_strays : (spot : Spot) (demand : Demand) (entries : _) → demand.astray ≡ true → Strays (dictionary_of spot demand entries)
unfolding dictionary_of
dictionary_strays spot demand entries is = entries_stray entries.entries _ spot demand is

new_strays : (spot : Spot) (demand : Demand) (s : Shape) → demand.astray ≡ true → Strays (new_stands spot demand s)
unfolding new_stands
new_strays spot demand s is = stands_strays spot demand _ _ _ _ is

called_strays : (spot : Spot) (demand : Demand) (c : _) (a : _) → demand.astray ≡ true → Strays (call_stands spot demand c a)
unfolding call_stands
called_strays spot demand c a is = stands_strays spot demand _ _ _ _ is

call_strays : (plan : _) (parts : List Part) (spot : Spot) → PartStrays (λ demand. plan_found plan parts spot demand)
call_strays plan parts spot = record { at_demand = λ demand is. strays_second (arguments_found plan.start parts) (call_stands spot demand plan.callee) (λ a. called_strays spot demand plan.callee a is) }

made_context_strays : (spot : Spot) (demand : Demand) (a : _) → demand.astray ≡ true → Strays (context_stands spot demand a)
unfolding context_stands
made_context_strays spot demand a is = stands_strays spot demand _ _ _ _ is

context_strays : (parts : List Part) (spot : Spot) → PartStrays (λ demand. context_found parts spot demand)
context_strays parts spot = record { at_demand = λ demand is. strays_second (arguments_found context_start parts) (context_stands spot demand) (λ a. made_context_strays spot demand a is) }

-- ---- steps

abbrev Longer : Walk → Walk → Type 0
Longer walk next = length next.suffixes ≡ length walk.suffixes + 1

record StepStrays (s : Step) : Type 0 where
  at_walk : (spot : Spot) (demand : Demand) (walk : Walk) → demand.astray ≡ true → Strays (s.found spot demand walk)
  longer : (spot : Spot) (demand : Demand) (walk : Walk) → Sure (Longer walk) (s.found spot demand walk)

reached_strays : (spot : Spot) (demand : Demand) (root : Option Root) (walk : Walk) (reach : Reach) → demand.astray ≡ true → Strays (reached spot demand root walk reach)
reached_strays spot demand root walk reach is = strays_first (placed spot demand reach.own root reach.given) (walked walk root reach.node) (placed_strays spot demand reach.own root reach.given is)

reached_longer : (spot : Spot) (demand : Demand) (root : Option Root) (walk : Walk) (reach : Reach) → Sure (Longer walk) (reached spot demand root walk reach)
reached_longer spot demand root walk reach = sure_then (λ s. Unit {0}) (Longer walk) (placed spot demand reach.own root reach.given) (walked walk root reach.node) (record { where_clear = λ h. tt })
    (λ s u. sure_sound (Longer walk) (record { first = walk.first; suffixes = walk.suffixes ++ roll-TypedSuffix record { shape = s; node = reach.node } ∷ []; shape = s; root = root }) (length_push walk.suffixes (roll-TypedSuffix record { shape = s; node = reach.node })))

element_strays : (own spot : Spot) (demand : Demand) (walk : Walk) (j : Judged) → demand.astray ≡ true → Strays (element_step own spot demand walk j)
unfolding element_step
element_strays own spot demand walk j is = strays_second (near own demand.changed walk.root) (element_stands spot demand walk j) (λ root. reached_strays spot demand root walk _ is)

element_longer : (own spot : Spot) (demand : Demand) (walk : Walk) (j : Judged) → Sure (Longer walk) (element_step own spot demand walk j)
unfolding element_step
element_longer own spot demand walk j = sure_then (λ x. Unit {0}) (Longer walk) (near own demand.changed walk.root) (element_stands spot demand walk j) (sure_any (near own demand.changed walk.root)) (λ root u. reached_longer spot demand root walk _)

method_strays : (spot : Spot) (demand : Demand) (walk : Walk) (called : _) (arguments : _) → demand.astray ≡ true → Strays (method_stands spot demand walk called arguments)
unfolding method_stands
method_strays spot demand walk called arguments is = reached_strays spot demand None walk _ is

method_longer : (spot : Spot) (demand : Demand) (walk : Walk) (called : _) (arguments : _) → Sure (Longer walk) (method_stands spot demand walk called arguments)
unfolding method_stands
method_longer spot demand walk called arguments = reached_longer spot demand None walk _

method_call_strays : (spot : Spot) (demand : Demand) (walk : Walk) (call : _) (parts : List Part) → demand.astray ≡ true → Strays (called_found call parts spot demand walk)
method_call_strays spot demand walk call parts is = strays_second (arguments_found call.start parts) (method_stands spot demand walk call.called) (λ a. method_strays spot demand walk call.called a is)

method_call_longer : (spot : Spot) (demand : Demand) (walk : Walk) (call : _) (parts : List Part) → Sure (Longer walk) (called_found call parts spot demand walk)
method_call_longer spot demand walk call parts = sure_then (λ a. Unit {0}) (Longer walk) (arguments_found call.start parts) (method_stands spot demand walk call.called) (sure_any (arguments_found call.start parts)) (λ a u. method_longer spot demand walk call.called a)

-- the last step has what the place asks
last_strays : (spot : Spot) (changed : Bool) (demand : Demand) (s : Step) (walk : Walk) (n : ℕ) → n ≡ 0 → StepStrays s → demand.astray ≡ true → Strays (s.found spot (demand_before changed demand n) walk)
last_strays spot changed demand s walk n zero a is = subst (λ (m : ℕ). Strays (s.found spot (demand_before changed demand m) walk)) (sym zero) (a.at_walk spot (demand_before changed demand 0) walk is)

steps_stray : (spot : Spot) (changed : Bool) (demand : Demand) (count : ℕ) (s : Step) (steps : List Step) (walk : Walk) → count ≡ length walk.suffixes + length (s ∷ steps) → StepStrays s → AllByRecursion StepStrays steps → demand.astray ≡ true → Strays (through (step_found spot changed demand count) walk (s ∷ steps))
unfolding through
steps_stray spot changed demand count s [] walk count_is a all is = strays_first (step_found spot changed demand count walk s) (λ next. sound next) (last_strays spot changed demand s walk (count - (length walk.suffixes + 1)) (omega arith) a is)
steps_stray spot changed demand count s (t ∷ steps) walk count_is a all is =
    strays_then (Longer walk) (step_found spot changed demand count walk s) (λ next. through (step_found spot changed demand count) next (t ∷ steps)) (a.longer spot (demand_before changed demand (count - (length walk.suffixes + 1))) walk)
    (λ next l. steps_stray spot changed demand count t steps next (omega arith) all.0 all.1 is)

postfix_strays : (changed : Demand → Bool) (part : Part) (steps : List Step) (spot : Spot) → PartStrays part → AllByRecursion StepStrays steps → PartStrays (λ demand. postfix_found (changed demand) part steps spot demand)
unfolding postfix_rest walked_from
postfix_strays changed part [] spot p all = record { at_demand = λ demand is. strays_first (part (demand_before (changed demand) demand 0)) (postfix_rest (changed demand) [] spot demand) (p.at_demand (demand_before (changed demand) demand 0) is) }
postfix_strays changed part (s ∷ steps) spot p all = record {
  at_demand = λ demand is.
      strays_second (part (demand_before (changed demand) demand (length (s ∷ steps)))) (postfix_rest (changed demand) (s ∷ steps) spot demand) (λ j.
      strays_first (walked_from spot (changed demand) demand (s ∷ steps) j) postfix_of
      (steps_stray spot (changed demand) demand (length (s ∷ steps)) s steps (walk_start j) (omega arith) all.0 all.1 is));
}

module _ (table : Table) (scope : Scope) where
  abbrev node_of : ExprNode → Node
  node_of = fold-ExprNode Node StepNode Pair Part Linked Step (node_step table scope) (suffix_node_step table scope) (entry_step table scope) (expr_step table scope) (link_step table scope) (suffix_step table scope)

  abbrev step_node_of : SuffixNode → StepNode
  step_node_of = fold-SuffixNode Node StepNode Pair Part Linked Step (node_step table scope) (suffix_node_step table scope) (entry_step table scope) (expr_step table scope) (link_step table scope) (suffix_step table scope)

  record NodeStrays (n : Node) : Type 0 where
    at_spot : (spot : Spot) → PartStrays (n spot)

  record StepNodeStrays (n : StepNode) : Type 0 where
    at_own : (own : Spot) → StepStrays (record { kind = n.kind; found = n.found own })

  abbrev ForNode : ExprNode → Type 0
  ForNode n = NodeStrays (node_of n)

  abbrev ForStepNode : SuffixNode → Type 0
  ForStepNode n = StepNodeStrays (step_node_of n)

  abbrev ForEntry : Entry → Type 0
  ForEntry e = Unit {0}

  abbrev ForExpr : Expr → Type 0
  ForExpr e = PartStrays (part_of table scope e)

  abbrev ForLink : Link → Type 0
  ForLink l = Unit {0}

  abbrev ForSuffix : Suffix → Type 0
  ForSuffix s = StepStrays (step_of table scope s)

  abbrev N : Type 0
  N = (n : ExprNode) × ForNode n

  abbrev SN : Type 0
  SN = (n : SuffixNode) × ForStepNode n

  abbrev E : Type 0
  E = (e : Entry) × ForEntry e

  abbrev X : Type 0
  X = (e : Expr) × ForExpr e

  abbrev L : Type 0
  L = (l : Link) × ForLink l

  abbrev S : Type 0
  S = (s : Suffix) × ForSuffix s

  suffixes_stray : (us : List S) → AllByRecursion StepStrays (map (step_of table scope) (map (λ s. s.0) us))
  suffixes_stray [] = tt
  suffixes_stray (s ∷ us) = (s.1, suffixes_stray us)

  abbrev node_trees : ExprNode-F N SN E X L S → ExprNode-F ExprNode SuffixNode Entry Expr Link Suffix
  node_trees y = map-ExprNode N SN E X L S ExprNode SuffixNode Entry Expr Link Suffix (λ e. e.0) (λ e. e.0) (λ e. e.0) (λ e. e.0) (λ e. e.0) (λ e. e.0) y

  abbrev node_parts : ExprNode-F ExprNode SuffixNode Entry Expr Link Suffix → ExprNode-F Node StepNode Pair Part Linked Step
  node_parts x = map-ExprNode ExprNode SuffixNode Entry Expr Link Suffix Node StepNode Pair Part Linked Step node_of step_node_of (entry_part table scope) (part_of table scope) (link_part table scope) (step_of table scope) x

  node_at : (y : ExprNode-F N SN E X L S) (spot : Spot) → PartStrays (node_step table scope (node_parts (node_trees y)) spot)
  node_at (node.Or first rest) spot = chain_strays logic.Or (part_of table scope first.0) (map (part_of table scope) (map (λ e. e.0) rest)) spot
  node_at (node.Xor first rest) spot = chain_strays logic.Xor (part_of table scope first.0) (map (part_of table scope) (map (λ e. e.0) rest)) spot
  node_at (node.And first rest) spot = chain_strays logic.And (part_of table scope first.0) (map (part_of table scope) (map (λ e. e.0) rest)) spot
  node_at (node.Not part) spot = record { at_demand = λ demand is. strays_second (part_of table scope part.0 operand) (not_of spot demand) (λ j. not_strays spot demand j is) }
  node_at (node.Compare left c right) spot = record { at_demand = λ demand is. strays_second (part_of table scope left.0 operand) (comparison_right spot demand c (part_of table scope right.0)) (λ j. comparison_strays spot demand c (part_of table scope right.0) j is) }
  node_at (node.Sum first links) spot = links_stray level.Sum (part_of table scope first.0) (map (link_part table scope) (map (λ l. l.0) links)) spot
  node_at (node.Product first links) spot = links_stray level.Product (part_of table scope first.0) (map (link_part table scope) (map (λ l. l.0) links)) spot
  node_at (node.Minus part) spot = record { at_demand = λ demand is. strays_second (part_of table scope part.0 negated) (minus_of spot demand) (λ j. minus_strays spot demand j is) }
  node_at (node.Postfix part steps) spot = postfix_strays (λ demand. leads demand.changed (map (λ s. s.kind) (map (step_of table scope) (map (λ s. s.0) steps)))) (part_of table scope part.0) (map (step_of table scope) (map (λ s. s.0) steps)) spot part.1 (suffixes_stray steps)
  node_at (node.Integer digits) spot = record { at_demand = λ demand is. integer_strays spot demand (within (greatest demand.signed) (number_of digits)) is }
  node_at (node.Quoted text) spot = record { at_demand = λ demand is. stands_strays spot demand _ _ _ _ is }
  node_at (node.Boolean x) spot = record { at_demand = λ demand is. stands_strays spot demand _ _ _ _ is }
  node_at (node.Name name) spot = record { at_demand = λ demand is. name_strays spot demand (seen scope name) is }
  node_at (node.Call name parts) spot = call_strays (plan_of table (event_of table name) (action_named table scope name)) (map (part_of table scope) (map (λ e. e.0) parts)) spot
  node_at (node.Sequence parts) spot = record { at_demand = λ demand is. strays_second (through element_found no_elements (map (part_of table scope) (map (λ e. e.0) parts))) (sequence_of spot demand) (λ elements. sequence_strays spot demand elements is) }
  node_at (node.Dictionary pairs) spot = record { at_demand = λ demand is. strays_second (through entry_found no_entries (map (entry_part table scope) (map (λ e. e.0) pairs))) (dictionary_of spot demand) (λ entries. dictionary_strays spot demand entries is) }
  node_at (node.New written) spot = record { at_demand = λ demand is. strays_second (type_found table written) (new_stands spot demand) (λ s. new_strays spot demand s is) }
  node_at (node.Context parts) spot = context_strays (map (part_of table scope) (map (λ e. e.0) parts)) spot
  node_at node.ContextCurrent spot = record { at_demand = λ demand is. stands_strays spot demand _ _ _ _ is }
  node_at (node.Group part) spot = record { at_demand = λ demand is. strays_second (part_of table scope part.0 (inside demand)) (group_of spot demand) (λ j. group_strays spot demand j is) }

  node_case : (x : ExprNode-F ExprNode SuffixNode Entry Expr Link Suffix) (y : ExprNode-F N SN E X L S) → node_trees y ≡ x → ForNode (roll-ExprNode x)
  node_case x y is = subst (λ (z : ExprNode-F ExprNode SuffixNode Entry Expr Link Suffix). ForNode (roll-ExprNode z)) is
      (subst (λ (n : Node). NodeStrays n) (sym (fold-roll-ExprNode Node StepNode Pair Part Linked Step (node_step table scope) (suffix_node_step table scope) (entry_step table scope) (expr_step table scope) (link_step table scope) (suffix_step table scope) (node_trees y)))
      (record { at_spot = node_at y }))

  abbrev step_trees : SuffixNode-F N SN E X L S → SuffixNode-F ExprNode SuffixNode Entry Expr Link Suffix
  step_trees y = map-SuffixNode N SN E X L S ExprNode SuffixNode Entry Expr Link Suffix (λ e. e.0) (λ e. e.0) (λ e. e.0) (λ e. e.0) (λ e. e.0) (λ e. e.0) y

  abbrev step_parts : SuffixNode-F ExprNode SuffixNode Entry Expr Link Suffix → SuffixNode-F Node StepNode Pair Part Linked Step
  step_parts x = map-SuffixNode ExprNode SuffixNode Entry Expr Link Suffix Node StepNode Pair Part Linked Step node_of step_node_of (entry_part table scope) (part_of table scope) (link_part table scope) (step_of table scope) x

  step_at : (y : SuffixNode-F N SN E X L S) → StepNodeStrays (suffix_node_step table scope (step_parts (step_trees y)))
  step_at (node.Field name) = record {
    at_own = λ own. record {
      at_walk = λ spot demand walk is. reached_strays spot demand walk.root walk (field_of table walk.shape name) is;
      longer = λ spot demand walk. reached_longer spot demand walk.root walk (field_of table walk.shape name);
    };
  }
  step_at (node.Index part) = record {
    at_own = λ own. record {
      at_walk = λ spot demand walk is. strays_second (part_of table scope part.0 (plain (index_wish walk.shape))) (element_step own spot demand walk) (λ j. element_strays own spot demand walk j is);
      longer = λ spot demand walk. sure_then (λ j. Unit {0}) (Longer walk) (part_of table scope part.0 (plain (index_wish walk.shape))) (element_step own spot demand walk) (sure_any (part_of table scope part.0 (plain (index_wish walk.shape)))) (λ j u. element_longer own spot demand walk j);
    };
  }
  step_at (node.Method name parts) = record {
    at_own = λ own. record {
      at_walk = λ spot demand walk is. method_call_strays spot demand walk (called_of walk.shape (method_named name)) (map (part_of table scope) (map (λ e. e.0) parts)) is;
      longer = λ spot demand walk. method_call_longer spot demand walk (called_of walk.shape (method_named name)) (map (part_of table scope) (map (λ e. e.0) parts));
    };
  }

  step_node_case : (x : SuffixNode-F ExprNode SuffixNode Entry Expr Link Suffix) (y : SuffixNode-F N SN E X L S) → step_trees y ≡ x → ForStepNode (roll-SuffixNode x)
  step_node_case x y is = subst (λ (z : SuffixNode-F ExprNode SuffixNode Entry Expr Link Suffix). ForStepNode (roll-SuffixNode z)) is
      (subst (λ (n : StepNode). StepNodeStrays n) (sym (fold-roll-SuffixNode Node StepNode Pair Part Linked Step (node_step table scope) (suffix_node_step table scope) (entry_step table scope) (expr_step table scope) (link_step table scope) (suffix_step table scope) (step_trees y))) (step_at y))

  abbrev expr_trees : Expr-F N SN E X L S → Expr-F ExprNode SuffixNode Entry Expr Link Suffix
  expr_trees y = map-Expr N SN E X L S ExprNode SuffixNode Entry Expr Link Suffix (λ e. e.0) (λ e. e.0) (λ e. e.0) (λ e. e.0) (λ e. e.0) (λ e. e.0) y

  expr_case : (x : Expr-F ExprNode SuffixNode Entry Expr Link Suffix) (y : Expr-F N SN E X L S) → expr_trees y ≡ x → ForExpr (roll-Expr x)
  expr_case x y is = subst (λ (z : Expr-F ExprNode SuffixNode Entry Expr Link Suffix). ForExpr (roll-Expr z)) is
      (subst (λ (p : Part). PartStrays p) (sym (fold-roll-Expr Node StepNode Pair Part Linked Step (node_step table scope) (suffix_node_step table scope) (entry_step table scope) (expr_step table scope) (link_step table scope) (suffix_step table scope) (expr_trees y)))
      (y.node.1.at_spot y.spot))

  abbrev suffix_trees : Suffix-F N SN E X L S → Suffix-F ExprNode SuffixNode Entry Expr Link Suffix
  suffix_trees y = map-Suffix N SN E X L S ExprNode SuffixNode Entry Expr Link Suffix (λ e. e.0) (λ e. e.0) (λ e. e.0) (λ e. e.0) (λ e. e.0) (λ e. e.0) y

  suffix_case : (x : Suffix-F ExprNode SuffixNode Entry Expr Link Suffix) (y : Suffix-F N SN E X L S) → suffix_trees y ≡ x → ForSuffix (roll-Suffix x)
  suffix_case x y is = subst (λ (z : Suffix-F ExprNode SuffixNode Entry Expr Link Suffix). ForSuffix (roll-Suffix z)) is
      (subst (λ (p : Step). StepStrays p) (sym (fold-roll-Suffix Node StepNode Pair Part Linked Step (node_step table scope) (suffix_node_step table scope) (entry_step table scope) (expr_step table scope) (link_step table scope) (suffix_step table scope) (suffix_trees y)))
      (y.node.1.at_own y.spot))

  part_strays : (e : Expr) → PartStrays (part_of table scope e)
  part_strays = ind-Expr ForNode ForStepNode ForEntry ForExpr ForLink ForSuffix node_case step_node_case (λ x y is. tt) expr_case (λ x y is. tt) suffix_case

  -- for every expression
  pub astray_is_told : (e : Expr) (demand : Demand) → demand.astray ≡ true → (expr_found table scope e demand).faults ≡ [] → ⊥
  astray_is_told e demand is none = let told = strays_first (part_of table scope e demand) typed_of ((part_strays e).at_demand demand is) in told.never none
