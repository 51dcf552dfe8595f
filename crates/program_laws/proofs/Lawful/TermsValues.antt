-- An expression that names bound names is a path from one of them, to which a value that names none may be added.
use Rattle.std.proofs.Common.{◌≡◌, ◌==◌, ◌∷◌, ◌++◌}
use Rattle.program_laws.proofs.Common.{ℕ, Bool, true, false, List, [], map, length, Option, Some, None, refl, sym, ap, subst, ◌∙◌, true≢false, AllByRecursion, list_all, list_any, and_parts, Spot, Expr, out-Expr, Link, out-Link, fold_out-Link, Operator, Suffix, Shape, TypedExpr, roll-TypedExpr, out-roll-TypedExpr, out-TypedNode, TypedLink, roll-TypedLink, Scope, Seen, SeenKind, Table, LinkChain, Sort, Judged, Walk, Demand, Pair, seen, name_found, variable, Part, Linked, sort_of_expr, addable, given_by, linked, operated, links_start, links_found, link_found, with_link, judged, shape_given, known, Step, walked, field_found, demand_before, walk_start, step_found, postfix_found, Node, StepNode, node_step, suffix_node_step, entry_step, expr_step, link_step, suffix_step, link_part, is_own, is_among, place_layer, path_layer, Layer, layer_of, is_root_layer, is_path_of, is_path_layer}
use Rattle.epl_tree.specs.declared.expression.ExprNode.TheOpen as node
use Rattle.typed_program.specs.declared.expression.TypedNode.TheVariants as made
use Rattle.typed_program.specs.declared.expression.TypedNode.TheOpen as typed
use Rattle.type_table.specs.declared.scope.SeenKind.TheVariants as kind
use Rattle.expr_rules.specs.declared.operators.Level.TheVariants as level
use Rattle.expr_rules.specs.declared.placed.Gives.TheVariants as gives
use Rattle.expr_rules.specs.Asked.{operand as operand_demand}
use Rattle.expr_rules.specs.Operators.{paired, links_of, links_rest, link_of}
use Rattle.expr_rules.specs.Places.{placed}
use Rattle.expr_rules.specs.Postfix.{field_of, postfix_of, walked_from, postfix_rest, leads}
use Rattle.expr_rules.specs.Then.{and_then, through}
use Rattle.expr_check.specs.Expressions.{part_of, step_of}
use Rattle.listener_check.specs.Operands.{place_of, path_in}
use Rattle.listener_check.specs.Operands as reading
use Rattle.listener_check.specs.Values.{is_field, is_root, is_path}
use Rattle.program_laws.proofs.Exprs.Sure.{Sure, sure_then, sure_sound, sure_any}
use Rattle.program_laws.proofs.Terms.Paths.{part_at, is_field_step, field_step}
use Rattle.program_laws.proofs.Lawful.TermsBound.{Widened, own_is}

-- whether a number is one of these
abbrev pub among : List ℕ → ℕ → Bool
among nums n = list_any (λ m. m == n) nums

-- ---- a sum of two: its operands stand in it

-- the chain behind its one link
record ChainOf (Q : Judged → Type 0) (left : Judged) (o : Operator) (chain : LinkChain) : Type 0 where
  right : Judged
  right_so : Q right
  first_is : chain.first ≡ left.typed
  links_are : chain.links ≡ roll-TypedLink record { operator = o; operand = right.typed } ∷ []

-- a sum of two, and what holds of its operands
pub record SumOf (P Q : Judged → Type 0) (o : Operator) (x : TypedExpr) : Type 0 where
  pub left : Judged
  pub right : Judged
  pub left_so : P left
  pub right_so : Q right
  pub layered : reading.layer_of x ≡ typed.Sum left.typed (roll-TypedLink record { operator = o; operand = right.typed } ∷ [])

chain_sure : (Q : Judged → Type 0) (spot : Spot) (j : Judged) (l : Linked) → Sure Q (l.operand operand_demand) → Sure (ChainOf Q j l.operator) (link_found spot (links_start j) l)
unfolding link_of
chain_sure Q spot j l q =
    sure_then Q (ChainOf Q j l.operator) (l.operand operand_demand) (link_of spot (links_start j) l.operator) q (λ r so.
    sure_then (λ t. Unit {0}) (ChainOf Q j l.operator) (paired spot (linked l.operator (sort_of_expr j.typed) (sort_of_expr r.typed))) (with_link (links_start j) l.operator r.typed)
    (sure_any (paired spot (linked l.operator (sort_of_expr j.typed) (sort_of_expr r.typed))))
    (λ t u. sure_sound (ChainOf Q j l.operator) (record { first = j.typed; sort = t; links = [] ++ roll-TypedLink record { operator = l.operator; operand = r.typed } ∷ [] })
    (record { right = r; right_so = so; first_is = refl; links_are = refl })))

sum_made : (s : Option Shape) (chain : LinkChain) (left : TypedExpr) (links : List TypedLink) → chain.first ≡ left → chain.links ≡ links → reading.layer_of (roll-TypedExpr record { shape = s; node = made.Sum chain.first chain.links }) ≡ typed.Sum left links
sum_made s chain left links f l =
    ap (λ d. out-TypedNode d.node) (out-roll-TypedExpr (record { shape = s; node = made.Sum chain.first chain.links })) ∙ made.outs-Sum chain.first chain.links
    ∙ ap (λ (g : TypedExpr). typed.Sum g chain.links) f ∙ ap (λ (m : List TypedLink). typed.Sum left m) l

ended_sure : (P Q : Judged → Type 0) (spot : Spot) (demand : Demand) (j : Judged) (o : Operator) → P j → (chain : LinkChain) → ChainOf Q j o chain → (q : Option Sort) → Sure (λ x. SumOf P Q o x.typed) (operated spot demand q (made.Sum chain.first chain.links))
ended_sure P Q spot demand j o p chain c None =
    sure_then (λ s. Unit {0}) (λ x. SumOf P Q o x.typed) (placed spot demand (Some 10) None gives.Unknown) (judged None (made.Sum chain.first chain.links)) (sure_any (placed spot demand (Some 10) None gives.Unknown))
    (λ s u. sure_sound (λ x. SumOf P Q o x.typed) (record { typed = roll-TypedExpr record { shape = s; node = made.Sum chain.first chain.links }; root = None; signed = false })
    (record { left = j; right = c.right; left_so = p; right_so = c.right_so; layered = sum_made s chain j.typed _ c.first_is c.links_are }))
ended_sure P Q spot demand j o p chain c (Some t) =
    sure_then (λ s. Unit {0}) (λ x. SumOf P Q o x.typed) (placed spot demand None None (given_by t)) (judged None (made.Sum chain.first chain.links)) (sure_any (placed spot demand None None (given_by t)))
    (λ s u. sure_sound (λ x. SumOf P Q o x.typed) (record { typed = roll-TypedExpr record { shape = s; node = made.Sum chain.first chain.links }; root = None; signed = false })
    (record { left = j; right = c.right; left_so = p; right_so = c.right_so; layered = sum_made s chain j.typed _ c.first_is c.links_are }))

sum_sure : (P Q : Judged → Type 0) (spot : Spot) (demand : Demand) (first : Part) (l : Linked) → Sure P (first operand_demand) → Sure Q (l.operand operand_demand) → Sure (λ j. SumOf P Q l.operator j.typed) (links_found level.Sum first (l ∷ []) spot demand)
unfolding links_rest through links_of
sum_sure P Q spot demand first l p q =
    sure_then P (λ j. SumOf P Q l.operator j.typed) (first operand_demand) (links_rest level.Sum (l ∷ []) spot demand) p (λ j so.
    sure_then (ChainOf Q j l.operator) (λ x. SumOf P Q l.operator x.typed) (through (link_found spot) (links_start j) (l ∷ [])) (links_of spot demand level.Sum)
    (sure_then (ChainOf Q j l.operator) (ChainOf Q j l.operator) (link_found spot (links_start j) l) (λ next. through (link_found spot) next []) (chain_sure Q spot j l q) (λ next c. sure_sound (ChainOf Q j l.operator) next c))
    (λ chain c. ended_sure P Q spot demand j l.operator so chain c (addable (Some chain.sort))))

-- ---- a path: it begins where its name stands

module _ (table : Table) (inner : Scope) (n : ℕ) where
  abbrev Begins : Walk → Type 0
  Begins walk = place_of walk.first ≡ n

  field_begins : (name : List ℕ) (spot : Spot) (demand : Demand) (walk : Walk) → Begins walk → Sure Begins (field_found table name spot demand walk)
  field_begins name spot demand walk h =
      let reach = field_of table walk.shape name in
      sure_then (λ s. Unit {0}) Begins (placed spot demand reach.own walk.root reach.given) (walked walk walk.root reach.node) (sure_any (placed spot demand reach.own walk.root reach.given))
      (λ s u. sure_sound Begins _ h)

  abbrev IsField : Step → Type 0
  IsField s = (name : List ℕ) × (s ≡ field_step table inner name)

  steps_begin : (spot : Spot) (changed : Bool) (demand : Demand) (count : ℕ) (steps : List Step) (walk : Walk) → AllByRecursion IsField steps → Begins walk → Sure Begins (through (step_found spot changed demand count) walk steps)
  unfolding through
  steps_begin spot changed demand count [] walk all h = sure_sound Begins walk h
  steps_begin spot changed demand count (s ∷ steps) walk all h =
      sure_then Begins Begins (step_found spot changed demand count walk s) (λ next. through (step_found spot changed demand count) next steps)
      (subst (λ (t : Step). Sure Begins (step_found spot changed demand count walk t)) (sym all.0.1) (field_begins all.0.0 spot _ walk h))
      (λ next k. steps_begin spot changed demand count steps next all.1 k)

  path_made : (walk : Walk) → (path_in (roll-TypedExpr record { shape = walk.shape; node = made.Postfix walk.first walk.suffixes })).place ≡ place_of walk.first
  unfolding path_in
  path_made walk =
      ap (λ d. (path_layer (out-TypedNode d.node)).place) (out-roll-TypedExpr (record { shape = walk.shape; node = made.Postfix walk.first walk.suffixes }))
      ∙ ap (λ d. (path_layer d).place) (made.outs-Postfix walk.first walk.suffixes)

  abbrev Leads : Judged → Type 0
  Leads j = (path_in j.typed).place ≡ n

  postfix_leads : (changed : Bool) (part : Part) (steps : List Step) (spot : Spot) (demand : Demand) → AllByRecursion IsField steps → ((d : Demand) → Sure (λ j. place_of j.typed ≡ n) (part d)) → Sure Leads (postfix_found changed part steps spot demand)
  unfolding postfix_rest walked_from postfix_of
  postfix_leads changed part steps spot demand all root =
      sure_then (λ j. place_of j.typed ≡ n) Leads (part (demand_before changed demand (length steps))) (postfix_rest changed steps spot demand) (root (demand_before changed demand (length steps)))
      (λ j h. sure_then Begins Leads (walked_from spot changed demand steps j) postfix_of (steps_begin spot changed demand (length steps) steps (walk_start j) all h)
      (λ walk k. sure_sound Leads (record { typed = roll-TypedExpr record { shape = walk.shape; node = made.Postfix walk.first walk.suffixes }; root = walk.root; signed = false }) (path_made walk ∙ k)))

module _ (table : Table) (scope inner : Scope) (w : Widened scope inner) where
  -- numbers among which are those of all bound names of a list
  abbrev pub Lefts : List (List ℕ) → List ℕ → Type 0
  Lefts left nums = (name : List ℕ) (x : Seen) → is_own scope inner name ≡ true → is_among left name ≡ true → seen inner name ≡ Some x → among nums x.number ≡ true

  -- a path from a name of such a list
  abbrev pub Rooted : List (List ℕ) → TypedExpr → Type 0
  Rooted left e = (nums : List ℕ) → Lefts left nums → among nums (path_in e).place ≡ true

  -- a bound name of a left side
  pub record RootAt (left : List (List ℕ)) (first : Expr) : Type 0 where
    pub name : List ℕ
    pub layered : layer_of first ≡ node.Name name
    pub own : is_own scope inner name ≡ true
    pub is_left_so : is_among left name ≡ true

  root_layer : (left : List (List ℕ)) (first : Expr) (d : Layer) → layer_of first ≡ d → is_root_layer scope inner left d ≡ true → RootAt left first
  root_layer left first (node.Name name) is h = let p = and_parts (is_own scope inner name) (is_among left name) h in record { name = name; layered = is; own = p.0; is_left_so = p.1 }
  root_layer left first d is h = absurd (true≢false (sym h))

  -- what a root is
  pub root_at : (left : List (List ℕ)) (first : Expr) → is_root scope inner left first ≡ true → RootAt left first
  unfolding is_root
  root_at left first h = root_layer left first (layer_of first) refl h

  name_place : (s : Option Shape) (q : SeenKind) (n : ℕ) → q ≡ kind.Bound → place_of (roll-TypedExpr record { shape = s; node = variable q n }) ≡ n
  unfolding place_of
  name_place s q n is =
      ap (λ d. place_layer (out-TypedNode d.node)) (out-roll-TypedExpr (record { shape = s; node = variable q n }))
      ∙ ap (λ (p : SeenKind). place_layer (out-TypedNode (variable p n))) is
      ∙ ap place_layer (made.outs-Local n)

  found_place : (spot : Spot) (demand : Demand) (x : Seen) → x.kind ≡ kind.Bound → place_of (name_found spot demand (Some x)).part.typed ≡ x.number
  unfolding and_then placed
  found_place spot demand x is = name_place (shape_given (known x.shape)) x.kind x.number is

  abbrev named_part : Spot → Option Seen → Part
  named_part spot q demand = name_found spot demand q

  fields_are : (us : List Suffix) → list_all is_field us ≡ true → AllByRecursion (IsField table inner 0) (map (step_of table inner) us)
  fields_are [] h = tt
  fields_are (s ∷ us) h = let p = and_parts (is_field s) (list_all is_field us) h in (is_field_step table inner s p.0, fields_are us p.1)

  -- a path begins at one of the names of its list
  pub path_rooted : (left : List (List ℕ)) (e first : Expr) (us : List Suffix) → layer_of e ≡ node.Postfix first us → is_path_of scope inner left first us ≡ true → (demand : Demand) → Sure (λ j. Rooted left j.typed) (part_of table inner e demand)
  path_rooted left e first us is h demand =
      let p = and_parts (is_root scope inner left first) (list_all is_field us) h in
      let root = root_at left first p.0 in
      let o = own_is table scope inner w root.name root.own in
      let x = o.item in
      let spot = (out-Expr e).spot in
      let steps = map (step_of table inner) us in
      let first_is = part_at table inner first (node.Name root.name) root.layered ∙ ap (named_part (out-Expr first).spot) o.seen_so in
      let named : (d : Demand) → Sure (λ j. place_of j.typed ≡ x.number) (part_of table inner first d) = λ d.
      subst (λ (q : Part). Sure (λ j. place_of j.typed ≡ x.number) (q d)) (sym first_is) (record { where_clear = λ none. found_place (out-Expr first).spot d x o.is_bound }) in
      let found = subst (λ (q : Part). Sure (Leads table inner x.number) (q demand)) (sym (part_at table inner e (node.Postfix first us) is)) (postfix_leads table inner x.number (leads demand.changed (map (λ s. s.kind) steps)) (part_of table inner first) steps spot demand (fields_are us p.1) named) in
      record { where_clear = λ none nums l. ap (among nums) (found.where_clear none) ∙ l root.name x root.own root.is_left_so o.seen_so }

  -- the parts of a path
  pub record PathAt (left : List (List ℕ)) (e : Expr) : Type 0 where
    pub first : Expr
    pub steps : List Suffix
    pub layered : layer_of e ≡ node.Postfix first steps
    pub is_path_so : is_path_of scope inner left first steps ≡ true

  path_layer_at : (left : List (List ℕ)) (e : Expr) (d : Layer) → layer_of e ≡ d → is_path_layer scope inner left d ≡ true → PathAt left e
  path_layer_at left e (node.Postfix first us) is h = record { first = first; steps = us; layered = is; is_path_so = h }
  path_layer_at left e d is h = absurd (true≢false (sym h))

  -- what a path is
  pub path_at : (left : List (List ℕ)) (e : Expr) → is_path scope inner left e ≡ true → PathAt left e
  unfolding is_path
  path_at left e h = path_layer_at left e (layer_of e) refl h

  link_at : (link : Link) → link_part table inner link ≡ record { operator = (out-Link link).operator; operand = part_of table inner (out-Link link).operand }
  link_at link = fold_out-Link Node StepNode Pair Part Linked Step (node_step table inner) (suffix_node_step table inner) (entry_step table inner) (expr_step table inner) (link_step table inner) (suffix_step table inner) link

  abbrev sum_part : Expr → Spot → Linked → Part
  sum_part first spot l d = links_found level.Sum (part_of table inner first) (l ∷ []) spot d

  -- a path and a value behind it
  pub signed_sum : (Q : Judged → Type 0) (left : List (List ℕ)) (e first : Expr) (link : Link) (demand : Demand) → layer_of e ≡ node.Sum first (link ∷ []) → is_path scope inner left first ≡ true → Sure Q (part_of table inner (out-Link link).operand operand_demand) → Sure (λ j. SumOf (λ l. Rooted left l.typed) Q (out-Link link).operator j.typed) (part_of table inner e demand)
  signed_sum Q left e first link demand is path q =
      let l : Linked = record { operator = (out-Link link).operator; operand = part_of table inner (out-Link link).operand } in
      let at = path_at left first path in
      let spot = (out-Expr e).spot in
      let eq = part_at table inner e (node.Sum first (link ∷ [])) is ∙ ap (sum_part first spot) (link_at link) in
      subst (λ (r : Part). Sure (λ j. SumOf (λ k. Rooted left k.typed) Q (out-Link link).operator j.typed) (r demand)) (sym eq)
      (sum_sure (λ k. Rooted left k.typed) Q spot demand (part_of table inner first) l (path_rooted left first at.first at.steps at.layered at.is_path_so operand_demand) q)
