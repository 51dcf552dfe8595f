-- A path with an integer more or less: both are integers.
use Rattle.std.proofs.Common.{◌≡◌, ◌&&◌, ◌∷◌, ◌++◌, ◌<◌, ◌⊎◌}
use Rattle.program_laws.proofs.Common.{ℕ, true, false, List, [], length, Option, Some, None, is_some, refl, sym, ap, subst, ◌∙◌, true≢false, inl, inr, and_parts, and_from, Spot, Shape, Shape-F, out-Shape, Entry, Expr, out-Expr, fold_out-Expr, ExprNode, ExprNode-F, map-ExprNode, fold-ExprNode, fold_out-ExprNode, Link, out-Link, fold_out-Link, Operator, Suffix, SuffixNode, fold-SuffixNode, TypedExpr, roll-TypedExpr, out-roll-TypedExpr, out-TypedNode, TypedLink, out-TypedLink, roll-TypedLink, out-roll-TypedLink, same, Names, holds, shape_of, if_known, operand_so, path_is, given_is, Scope, Table, LinkChain, Sort, Judged, Demand, Exactly, Value, Pair, Step, Part, Linked, sort_of_expr, addable, given_by, linked, operated, links_start, links_found, link_found, with_link, judged, shape_given, key_codes, misfit_codes, path_codes, given_codes, Node, StepNode, node_step, suffix_node_step, entry_step, expr_step, link_step, suffix_step, link_part, typed_of, expr_found, KnowsTable, KnowsNamed, Sofar, Reached, is_own, sum_layer, Layer, layer_of, went, any_of, expr_node, expr_names, suffix_names, link_names, entry_names}
use Rattle.epl_values.specs.declared.shape.Shape.TheVariants as shape
use Rattle.epl_values.specs.declared.shape.Shape.TheOpen as layer
use Rattle.epl_tree.specs.declared.expression.ExprNode.TheOpen as node
use Rattle.typed_program.specs.declared.expression.TypedNode.TheVariants as made
use Rattle.typed_program.specs.declared.expression.TypedNode.TheOpen as typed
use Rattle.typed_program.specs.Terms.{Around}
use Rattle.expr_rules.specs.declared.operators.Level.TheVariants as level
use Rattle.expr_rules.specs.declared.operators.Sort.TheVariants as sort
use Rattle.expr_rules.specs.declared.asked.Paths.TheVariants as paths
use Rattle.expr_rules.specs.declared.placed.Gives.TheVariants as gives
use Rattle.expr_rules.specs.Asked.{operand as operand_demand}
use Rattle.expr_rules.specs.Operators.{paired, links_of, links_rest, link_of}
use Rattle.expr_rules.specs.Places.{placed as node_placed}
use Rattle.expr_rules.specs.Then.{through}
use Rattle.expr_check.specs.Expressions.{part_of}
use Rattle.listener_check.specs.declared.value.Naming.{Naming as Form}
use Rattle.listener_check.specs.declared.value.Naming.TheVariants as naming
use Rattle.listener_check.specs.Names.{mentions}
use Rattle.listener_check.specs.Operands.{path_in, placed, signed, added_operand, sum_operand, operand_of, named_operand, is_integer, is_integer_layer}
use Rattle.listener_check.specs.Operands as reading
use Rattle.listener_check.specs.Values.{is_path, exactly, named_value}
use Rattle.stmt_check.specs.Captures.{suffix_node, entry_step as entry_naming, expr_step as expr_naming, link_step as link_naming, suffix_step as suffix_naming}
use Rattle.stmt_check.specs.Captures.{Names as Naming}
use Rattle.program_laws.proofs.Exprs.Sure.{Sure, sure_then, sure_sound}
use Rattle.program_laws.proofs.Exprs.Alike.{same_is, same_self}
use Rattle.program_laws.proofs.Exprs.Standing.{layer_shape}
use Rattle.program_laws.proofs.Exprs.Answering.{Answering, placed_sure, wished_value}
use Rattle.program_laws.proofs.Exprs.Sorts.{sorted_shape, value_known, linked_is, addable_is, Links}
use Rattle.program_laws.proofs.Exprs.Knowing.{knows_right, knows_first}
use Rattle.program_laws.proofs.Exprs.Operands.{paired_sure}
use Rattle.program_laws.proofs.Exprs.Trees.{part_answers}
use Rattle.program_laws.proofs.Shapes.Lists.{no_both}
use Rattle.program_laws.proofs.Terms.Paths.{part_at, Reaching}
use Rattle.program_laws.proofs.Terms.Roots.{bounds, bound_names, path_part}
use Rattle.program_laws.proofs.Terms.States.{Settled, State, Made, Placed, around, placed_thus}
use Rattle.program_laws.proofs.Terms.Thus.{Thus, thus_went, thus_then}
use Rattle.program_laws.proofs.Terms.Valued.{So, Good, free_same, valued_thus}

-- ---- the names of an expression, by its node

abbrev node_names : ExprNode → Naming
node_names = fold-ExprNode Naming Naming Naming Naming Naming Naming expr_node suffix_node entry_naming expr_naming link_naming suffix_naming

abbrev step_names : SuffixNode → Naming
step_names = fold-SuffixNode Naming Naming Naming Naming Naming Naming expr_node suffix_node entry_naming expr_naming link_naming suffix_naming

abbrev named_in : Layer → ExprNode-F Naming Naming Naming Naming Naming Naming
named_in x = map-ExprNode ExprNode SuffixNode Entry Expr Link Suffix Naming Naming Naming Naming Naming Naming node_names step_names entry_names expr_names link_names suffix_names x

pub names_at : (e : Expr) (d : Layer) → layer_of e ≡ d → expr_names e ≡ expr_node (named_in d)
names_at e d is =
    fold_out-Expr Naming Naming Naming Naming Naming Naming expr_node suffix_node entry_naming expr_naming link_naming suffix_naming e
    ∙ fold_out-ExprNode Naming Naming Naming Naming Naming Naming expr_node suffix_node entry_naming expr_naming link_naming suffix_naming (out-Expr e).node
    ∙ ap (λ (x : Layer). expr_node (named_in x)) is

-- where the names of a sum are known, those of what it adds are
operand_known : (names : Names) (scope : Scope) (e first : Expr) (link : Link) → layer_of e ≡ node.Sum first (link ∷ []) → KnowsNamed names scope (expr_names e) → KnowsNamed names scope (expr_names (out-Link link).operand)
operand_known names scope e first link is named =
    let all = subst (λ (n : Naming). KnowsNamed names scope n) (names_at e (node.Sum first (link ∷ [])) is) named in
    subst (λ (n : Naming). KnowsNamed names scope n) (fold_out-Link Naming Naming Naming Naming Naming Naming expr_node suffix_node entry_naming expr_naming link_naming suffix_naming link)
    (knows_first names scope (link_names link) [] (knows_right names scope (expr_names first) (any_of (link_names link ∷ [])) all))

-- ---- sums

integer_from : (s : Shape) (d : Shape-F Shape) → out-Shape s ≡ d → is_integer_layer d ≡ true → s ≡ shape.Integer
integer_from s layer.Integer is h = layer_shape s layer.Integer is ∙ shape.rolls-Integer
integer_from s d is h = absurd (true≢false (sym h))

integer_of : (s : Shape) → is_integer s ≡ true → s ≡ shape.Integer
unfolding is_integer
integer_of s h = integer_from s (out-Shape s) refl h

integer_no_text : same shape.Integer shape.Text ≡ true → ⊥
integer_no_text h = let e : layer.Integer ≡ layer.Text = sym shape.outs-Integer ∙ ap out-Shape (same_is shape.Integer shape.Text h) ∙ shape.outs-Text in cc

-- what stands at its place is what is asked
given_fits : (names : Names) (spot : Spot) (demand : Demand) (own : Option ℕ) (t : Sort) → Sure (λ s. (s ≡ shape_given (given_by t)) × (given_codes demand None (given_by t) ≡ [])) (node_placed spot demand own None (given_by t))
given_fits names spot demand own t = placed_sure names (λ s. (s ≡ shape_given (given_by t)) × (given_codes demand None (given_by t) ≡ [])) spot demand own None (given_by t) (λ none clear. (refl, clear))

-- a sum of two, by its parts
record Parts (left right : TypedExpr) (o : Operator) (demand : Demand) (x : TypedExpr) : Type 0 where
  sum : Sort
  end : Sort
  layered : reading.layer_of x ≡ typed.Sum left (roll-TypedLink record { operator = o; operand = right } ∷ [])
  linked_so : linked o (sort_of_expr left) (sort_of_expr right) ≡ Some sum
  ended : addable (Some sum) ≡ Some end
  asked : given_codes demand None (given_by end) ≡ []

-- the chain behind its one link
record Chained (left right : TypedExpr) (o : Operator) (chain : LinkChain) : Type 0 where
  first_is : chain.first ≡ left
  links_are : chain.links ≡ roll-TypedLink record { operator = o; operand = right } ∷ []
  sorted : linked o (sort_of_expr left) (sort_of_expr right) ≡ Some chain.sort

operated_parts : (names : Names) (spot : Spot) (demand : Demand) (left right : TypedExpr) (o : Operator) (chain : LinkChain) (q : Option Sort) → addable (Some chain.sort) ≡ q → Chained left right o chain → Sure (λ j. Parts left right o demand j.typed) (operated spot demand q (made.Sum chain.first chain.links))
operated_parts names spot demand left right o chain None is c =
    sure_then (λ s. ⊥) (λ j. Parts left right o demand j.typed) (node_placed spot demand (Some 10) None gives.Unknown) (judged None (made.Sum chain.first chain.links))
    (placed_sure names (λ s. ⊥) spot demand (Some 10) None gives.Unknown (λ none clear. absurd (cc))) (λ s never. absurd never)
operated_parts names spot demand left right o chain (Some t) is c =
    sure_then (λ s. (s ≡ shape_given (given_by t)) × (given_codes demand None (given_by t) ≡ [])) (λ j. Parts left right o demand j.typed) (node_placed spot demand None None (given_by t)) (judged None (made.Sum chain.first chain.links))
    (given_fits names spot demand None t)
    (λ s q. sure_sound (λ j. Parts left right o demand j.typed) (record { typed = roll-TypedExpr record { shape = s; node = made.Sum chain.first chain.links }; root = None; signed = false })
    (record {
      sum = chain.sort;
      end = t;
      linked_so = c.sorted;
      ended = is;
      asked = q.1;
      layered = ap (λ d. out-TypedNode d.node) (out-roll-TypedExpr (record { shape = s; node = made.Sum chain.first chain.links })) ∙ made.outs-Sum chain.first chain.links ∙ ap (λ (f : TypedExpr). typed.Sum f chain.links) c.first_is ∙ ap (λ (l : List TypedLink). typed.Sum left l) c.links_are;
    }))

record ChainOf (P : Judged → Type 0) (left : TypedExpr) (o : Operator) (chain : LinkChain) : Type 0 where
  right : Judged
  right_so : P right
  chained : Chained left right.typed o chain

-- what is found of a sum of two
record SumFound (P Q : Judged → Type 0) (o : Operator) (demand : Demand) (x : TypedExpr) : Type 0 where
  left : Judged
  right : Judged
  left_so : P left
  right_so : Q right
  parts : Parts left.typed right.typed o demand x

chain_found : (Q : Judged → Type 0) (spot : Spot) (j : Judged) (l : Linked) → Sure Q (l.operand operand_demand) → Sure (ChainOf Q j.typed l.operator) (link_found spot (links_start j) l)
unfolding link_of
chain_found Q spot j l q =
    sure_then Q (ChainOf Q j.typed l.operator) (l.operand operand_demand) (link_of spot (links_start j) l.operator) q (λ r so.
    sure_then (λ t. linked l.operator (sort_of_expr j.typed) (sort_of_expr r.typed) ≡ Some t) (ChainOf Q j.typed l.operator) (paired spot (linked l.operator (sort_of_expr j.typed) (sort_of_expr r.typed))) (with_link (links_start j) l.operator r.typed)
    (paired_sure (λ t. linked l.operator (sort_of_expr j.typed) (sort_of_expr r.typed) ≡ Some t) spot (linked l.operator (sort_of_expr j.typed) (sort_of_expr r.typed)) (λ t is. is))
    (λ t is. sure_sound (ChainOf Q j.typed l.operator) (record { first = j.typed; sort = t; links = [] ++ roll-TypedLink record { operator = l.operator; operand = r.typed } ∷ [] })
    (record { right = r; right_so = so; chained = record { first_is = refl; links_are = refl; sorted = is } })))

sum_ended : (names : Names) (P Q : Judged → Type 0) (spot : Spot) (demand : Demand) (j : Judged) (o : Operator) → P j → (chain : LinkChain) → ChainOf Q j.typed o chain → Sure (λ x. SumFound P Q o demand x.typed) (links_of spot demand level.Sum chain)
unfolding links_of
sum_ended names P Q spot demand j o p chain c =
    let r = c.right in
    let inside = operated_parts names spot demand j.typed r.typed o chain (addable (Some chain.sort)) refl c.chained in
    record { where_clear = λ none. record { left = j; right = r; left_so = p; right_so = c.right_so; parts = inside.where_clear none } }

sum_found : (names : Names) (P Q : Judged → Type 0) (spot : Spot) (demand : Demand) (first : Part) (l : Linked) → Sure P (first operand_demand) → Sure Q (l.operand operand_demand) → Sure (λ j. SumFound P Q l.operator demand j.typed) (links_found level.Sum first (l ∷ []) spot demand)
unfolding links_rest through
sum_found names P Q spot demand first l p q =
    sure_then P (λ j. SumFound P Q l.operator demand j.typed) (first operand_demand) (links_rest level.Sum (l ∷ []) spot demand) p (λ j so.
    sure_then (ChainOf Q j.typed l.operator) (λ x. SumFound P Q l.operator demand x.typed) (through (link_found spot) (links_start j) (l ∷ [])) (links_of spot demand level.Sum)
    (sure_then (ChainOf Q j.typed l.operator) (ChainOf Q j.typed l.operator) (link_found spot (links_start j) l) (λ next. through (link_found spot) next []) (chain_found Q spot j l q) (λ next c. sure_sound (ChainOf Q j.typed l.operator) next c))
    (λ chain c. sum_ended names P Q spot demand j l.operator so chain c))

text_asked : (s : Shape) → s ≡ shape.Integer → given_codes (exactly s false) None (gives.Value shape.Text) ≡ [] → ⊥
text_asked s is h =
    let front = no_both (key_codes (Exactly s) shape.Text ++ misfit_codes (Exactly s) shape.Text) (path_codes paths.Refused None shape.Text) h in
    let both = no_both (key_codes (Exactly s) shape.Text) (misfit_codes (Exactly s) shape.Text) front.0 in
    let fits = and_parts (same s shape.Text) true (wished_value (Exactly s) shape.Text both.0 both.1) in
    integer_no_text (subst (λ (t : Shape). same t shape.Text ≡ true) is fits.0)

module _ (table : Table) (names : Names) (scope inner : Scope) (k : KnowsTable table names scope) where
  abbrev LeftSo : Judged → Type 0
  LeftSo j = (z : Settled names scope inner) → Answering (bound_names table names scope inner k z) Value j × Reaching table names scope k (bounds table names scope inner k z) j

  abbrev RightSo : Judged → Type 0
  RightSo j = Settled names scope inner → Answering names Value j

  -- both are integers
  record Integers (s : Shape) (left right : TypedExpr) : Type 0 where
    right_good : Good table names scope inner k shape.Integer right
    path_so : path_is (around names scope inner []) s (path_in left).place (path_in left).fields ≡ true

  integers_at : (s : Shape) (o : Operator) (left right : Judged) (t u : Sort) → s ≡ shape.Integer → (z : Settled names scope inner) → Reaching table names scope k (bounds table names scope inner k z) left → Answering names Value right → Links o (sort_of_expr left.typed) (sort_of_expr right.typed) t → t ≡ u → given_codes (exactly s false) None (given_by u) ≡ [] → (u ≡ sort.Integer) ⊎ (u ≡ sort.Text) → Integers s left.typed right.typed
  unfolding around
  integers_at s o left right t u is z reaching r links ends asked (inl e) =
      let left_shape = sorted_shape (shape_of left.typed) sort.Integer shape.Integer (links.left ∙ ends ∙ e) refl in
      let right_shape = sorted_shape (shape_of right.typed) sort.Integer shape.Integer (links.right ∙ ends ∙ e) refl in
      record {
        right_good = record {
          present_there = and_from (holds names right.typed) (is_some (shape_of right.typed)) r.whole (ap is_some right_shape);
          shaped = ap (λ (q : Option Shape). if_known (same shape.Integer) q) right_shape ∙ same_self shape.Integer;
        };
        path_so = ap (λ (q : Option Shape). if_known (same s) q) (reaching ∙ left_shape) ∙ ap (λ (v : Shape). same v shape.Integer) is ∙ same_self shape.Integer;
      }
  integers_at s o left right t u is z reaching r links ends asked (inr e) =
      absurd (text_asked s is (subst (λ (v : Sort). given_codes (exactly s false) None (given_by v) ≡ []) e asked))

  integers : (s : Shape) (o : Operator) (x : TypedExpr) (left right : Judged) → s ≡ shape.Integer → Parts left.typed right.typed o (exactly s false) x → (z : Settled names scope inner) → LeftSo left → RightSo right → Integers s left.typed right.typed
  integers s o x left right is p z left_so right_so =
      let a = left_so z in
      let r = right_so z in
      let left_known = (let answering = a.0 in value_known (shape_of left.typed) answering.fit) in
      let right_known = value_known (shape_of right.typed) r.fit in
      let links = linked_is o (sort_of_expr left.typed) (sort_of_expr right.typed) p.sum left_known right_known p.linked_so in
      let ends = addable_is p.sum p.end links.known p.ended in
      integers_at s o left right p.sum p.end is z a.1 r links ends.0 p.asked ends.1

  abbrev Found2 : Operator → Shape → TypedExpr → Type 0
  Found2 o s x = SumFound LeftSo RightSo o (exactly s false) x

  -- ---- what is read of it

  added_thus : (s : Shape) (n : Form) (o : Operator) (b : Scope) (at : Sofar) (x : TypedExpr) → s ≡ shape.Integer → State names scope inner b at → length at.operands < at.sums → ((r : Reached) (m : ℕ) (a : Around) → operand_so a s (signed n r m) ≡ (same s shape.Integer && path_is a s r.place r.fields && given_is a shape.Integer m)) → Found2 o s x → Thus (Made names scope inner (So table names scope inner k s) b at) (sum_operand n x at)
  unfolding sum_operand added_operand around
  added_thus s n o b at x is h space form f =
      let left = f.left in let right = f.right in let parts = f.parts in
      let link : TypedLink = roll-TypedLink record { operator = o; operand = right.typed } in
      let e : TypedExpr = (out-TypedLink link).operand in
      let e_is : right.typed ≡ e = sym (ap (λ d. d.operand) (out-roll-TypedLink (record { operator = o; operand = right.typed }))) in
      let good : (z : Settled names scope inner) → Good table names scope inner k shape.Integer e = λ z. (let both = integers s o x left right is parts z f.left_so f.right_so in subst (Good table names scope inner k shape.Integer) e_is both.right_good) in
      subst (λ (d : reading.Layer). Thus (Made names scope inner (So table names scope inner k s) b at) (sum_layer n d at)) (sym parts.layered)
      (thus_then (Placed names scope inner b at e) (Made names scope inner (So table names scope inner k s) b at) (placed e at) (λ m t. went (signed n (path_in left.typed) m) t)
      (placed_thus names scope inner b at e h space (λ z. let g = good z in g.present_there))
      (λ m t p. thus_went (Made names scope inner (So table names scope inner k s) b at) (signed n (path_in left.typed) m) t (record {
        state = p.state;
        grows = p.grows;
        fit = λ z more.
            let both = integers s o x left right is parts z f.left_so f.right_so in
            let g = good z in
            let a = around names scope inner (t.operands ++ more) in
            form (path_in left.typed) m a
            ∙ and_from (same s shape.Integer && path_is a s (path_in left.typed).place (path_in left.typed).fields) (given_is a shape.Integer m)
            (and_from (same s shape.Integer) (path_is a s (path_in left.typed).place (path_in left.typed).fields) (ap (λ (v : Shape). same v shape.Integer) is ∙ same_self shape.Integer) both.path_so)
            (ap (λ (q : Option (Option Shape)). if_known (if_known (same shape.Integer)) q) (p.there more) ∙ g.shaped);
      })))

  link_at : (link : Link) → link_part table inner link ≡ record { operator = (out-Link link).operator; operand = part_of table inner (out-Link link).operand }
  link_at link = fold_out-Link Node StepNode Pair Part Linked Step (node_step table inner) (suffix_node_step table inner) (entry_step table inner) (expr_step table inner) (link_step table inner) (suffix_step table inner) link

  abbrev sum_part : Expr → Spot → Linked → Part
  sum_part first spot l d = links_found level.Sum (part_of table inner first) (l ∷ []) spot d

  sum_sure : (s : Shape) (left : List (List ℕ)) (e first : Expr) (link : Link) → layer_of e ≡ node.Sum first (link ∷ []) → is_path scope inner left first ≡ true → mentions (is_own scope inner) (out-Link link).operand ≡ false → KnowsNamed names scope (expr_names (out-Link link).operand) → Sure (Found2 (out-Link link).operator s) (expr_found table inner e (exactly s false))
  sum_sure s left e first link is path apart_so named =
      let l : Linked = record { operator = (out-Link link).operator; operand = part_of table inner (out-Link link).operand } in
      let demand = exactly s false in
      let spot = (out-Expr e).spot in
      let p : Sure LeftSo (part_of table inner first operand_demand) = record {
        where_clear = λ none z.
            let pp = path_part table names scope inner k z left first path in
            let answers = pp.answers.at_demand operand_demand refl in
            let reaches = pp.reaches operand_demand in
            (answers.where_clear none, reaches.where_clear none);
      } in
      let q : Sure RightSo (l.operand operand_demand) = record {
        where_clear = λ none z.
            let answers = subst (λ (r : Part). Sure (Answering names Value) (r operand_demand)) (sym (free_same table names scope inner k z (out-Link link).operand apart_so)) ((part_answers table names scope k (out-Link link).operand named).at_demand operand_demand refl) in
            answers.where_clear none;
      } in
      let eq = part_at table inner e (node.Sum first (link ∷ [])) is ∙ ap (sum_part first spot) (link_at link) in
      sure_then (λ j. Found2 (out-Link link).operator s j.typed) (Found2 (out-Link link).operator s) (part_of table inner e demand) typed_of
      (subst (λ (r : Part). Sure (λ j. Found2 (out-Link link).operator s j.typed) (r demand)) (sym eq) (sum_found names LeftSo RightSo spot demand (part_of table inner first) l p q))
      (λ j f. sure_sound (Found2 (out-Link link).operator s) j.typed f)

  module _ (s : Shape) (left : List (List ℕ)) (e first : Expr) (link : Link) (named : KnowsNamed names scope (expr_names e)) (b : Scope) (at : Sofar) (h : State names scope inner b at) (space : length at.operands < at.sums) (is : layer_of e ≡ node.Sum first (link ∷ [])) (integer : is_integer s ≡ true) (path : is_path scope inner left first ≡ true) (apart_so : mentions (is_own scope inner) (out-Link link).operand ≡ false) where
    pub plus_thus : Thus (Made names scope inner (So table names scope inner k s) b at) (named_operand table scope inner naming.Plus s e at)
    unfolding operand_of named_value
    plus_thus = valued_thus table names scope inner k (Found2 (out-Link link).operator s) naming.Plus s e b at (sum_sure s left e first link is path apart_so (operand_known names scope e first link is named)) (λ x f. added_thus s naming.Plus (out-Link link).operator b at x (integer_of s integer) h space (λ r m a. refl) f)

    pub minus_thus : Thus (Made names scope inner (So table names scope inner k s) b at) (named_operand table scope inner naming.Minus s e at)
    unfolding operand_of named_value
    minus_thus = valued_thus table names scope inner k (Found2 (out-Link link).operator s) naming.Minus s e b at (sum_sure s left e first link is path apart_so (operand_known names scope e first link is named)) (λ x f. added_thus s naming.Minus (out-Link link).operator b at x (integer_of s integer) h space (λ r m a. refl) f)
