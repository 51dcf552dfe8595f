-- Operators, chains of them and literals.
use Rattle.std.proofs.Common.{◌≡◌, ℕ, ◌+◌, ◌-◌, ◌*◌, pos, neg_ℤ, nat_le, Bool, true, false, if◌then◌else◌, List, [], ◌∷◌, ◌++◌, map, Option, Some, None, refl, subst, sym, ap, ◌∙◌}
use Rattle.std.specs.List.{AllByRecursion}
use Rattle.span_text.specs.declared.spot.Spot.{Spot}
use Rattle.epl_values.specs.declared.shape.Shape.{Shape}
use Rattle.epl_values.specs.declared.shape.Shape.TheVariants as shape
use Rattle.epl_tree.specs.declared.expression.Comparison.{Comparison}
use Rattle.epl_tree.specs.declared.expression.Expr.{Expr}
use Rattle.epl_tree.specs.declared.expression.ExprNode.TheOpen as tree
use Rattle.epl_tree.specs.declared.expression.Link.{Link, out-Link}
use Rattle.epl_tree.specs.declared.types.TypeExpr.{TypeExpr}
use Rattle.typed_program.specs.declared.expression.TypedExpr.{TypedExpr, TypedExpr-F, roll-TypedExpr, out-TypedExpr, out-roll-TypedExpr}
use Rattle.typed_program.specs.declared.expression.TypedLink.{TypedLink, TypedLink-F, roll-TypedLink, out-TypedLink, out-roll-TypedLink}
use Rattle.typed_program.specs.declared.expression.TypedNode.{TypedNode, out-TypedNode}
use Rattle.typed_program.specs.declared.expression.TypedNode.TheOpen as typed
use Rattle.typed_program.specs.declared.expression.TypedNode.TheVariants as made
use Rattle.typed_program.specs.declared.expression.TypedSuffix.{TypedSuffix}
use Rattle.typed_program.specs.declared.expression.TypedSuffixNode.{TypedSuffixNode}
use Rattle.typed_program.specs.declared.expression.TypedEntry.{TypedEntry}
use Rattle.type_table.specs.declared.table.Table.{Table}
use Rattle.type_table.specs.Types.{type_found}
use Rattle.expr_rules.specs.declared.operators.Chain.{Chain}
use Rattle.expr_rules.specs.declared.operators.LinkChain.{LinkChain}
use Rattle.expr_rules.specs.declared.operators.Level.{Level}
use Rattle.expr_rules.specs.declared.operators.Level.TheVariants as level
use Rattle.expr_rules.specs.declared.operators.Logic.{Logic}
use Rattle.expr_rules.specs.declared.operators.Logic.TheVariants as logic
use Rattle.expr_rules.specs.declared.placed.Gives.TheVariants as gives
use Rattle.expr_rules.specs.declared.placed.Judged.{Judged}
use Rattle.expr_rules.specs.Asked.{Demand, operand, negated, inside}
use Rattle.expr_rules.specs.Literals.{number_from, number_of, greatest, integer_value, literal, integer_stands, integer_found, new_stands, text_stands, boolean_stands, current_stands}
use Rattle.expr_rules.specs.Operators.{Part, Linked, sort_of_expr, truth, number, addable, compared, linked, truths, paired, not_of, not_found, minus_node, minus_of, minus_found, comparison_of, comparison_right, comparison_found, with_operand, joined, join_found, logic_node, chain_of, chain_start, logic_rest, logic_found, with_link, link_of, link_found, level_node, links_of, links_start, links_rest, links_found}
use Rattle.expr_rules.specs.Places.{placed, judged, group_of, astray_code}
use Rattle.expr_rules.specs.Then.{and_then, through, codes_of}
use Rattle.name_resolution.specs.Names.{Named, Around}
use Rattle.name_resolution.specs.Types.{TypeIs}
use Rattle.name_resolution.specs.Expressions.{Form, TypedForm, form_of, typed_form, shape_of, number_behind, ExprIs, FormIs, NodeIs, ExprsAre, LinksAre}
use Rattle.name_resolution.specs.Expressions.{number as decimal}
use Rattle.name_resolution.specs.Expressions as rule
use Rattle.name_resolution.proofs.Sure.{Sure, sure_sound, sure_node, sure_then, sure_any}
use Rattle.name_resolution.proofs.Through.{Along, One, More, all_as, through_more}
use Rattle.name_resolution.proofs.Judging.{placed_own, placed_shape, Judges, Reads, Is, plain_at, form_made, judges, stands_is, operated_is}

module _ (around : Around) (names : List Named) where
  abbrev R : Form → Part → Type 0
  R f part = Reads around names f part

  abbrev J : Form → Bool → Judged → Type 0
  J f signed j = Judges around names f signed j

  -- ---- one operand or two

  pub not_is : (e : Expr) (part : Part) (spot : Spot) → R (form_of e) part → R (tree.Not e) (not_found part spot)
  unfolding not_of
  not_is e part spot r = record {
    at = λ d. sure_then (Is around names e) (J (tree.Not e) d.signed) (part operand) (not_of spot d) (plain_at around names e part operand refl r)
        (λ j is. operated_is around names (tree.Not e) d.signed spot d (truth (sort_of_expr j.typed)) (made.Not j.typed) (typed.Not j.typed) (made.outs-Not j.typed) (rule.negation is));
  }

  pub comparison_is : (e f : Expr) (c : Comparison) (left right : Part) (spot : Spot) → R (form_of e) left → R (form_of f) right → R (tree.Compare e c f) (comparison_found left c right spot)
  unfolding comparison_of comparison_right
  comparison_is e f c left right spot r s = record {
    at = λ d. sure_then (Is around names e) (J (tree.Compare e c f) d.signed) (left operand) (comparison_right spot d c right) (plain_at around names e left operand refl r)
        (λ i is. sure_then (Is around names f) (J (tree.Compare e c f) d.signed) (right operand) (comparison_of spot d c i) (plain_at around names f right operand refl s)
        (λ j js. operated_is around names (tree.Compare e c f) d.signed spot d (compared c (sort_of_expr i.typed) (sort_of_expr j.typed)) (made.Compare i.typed c j.typed) (typed.Compare i.typed c j.typed) (made.outs-Compare i.typed c j.typed) (rule.compare is js)));
  }

  -- ---- a minus

  -- the literal with its sign, or a minus before an expression
  minus_by : (e : Expr) (j : Judged) (b : Bool) → j.signed ≡ b → J (form_of e) true j → (d : TypedForm) × (out-TypedNode (if b then (out-TypedExpr j.typed).node else made.Minus j.typed) ≡ d) × NodeIs around names (tree.Minus e) d
  minus_by e j true is h = let n = h.negative is in (typed.Integer (neg_ℤ (pos (decimal n.digits))), n.value, rule.negative n.is)
  minus_by e j false is h = (typed.Minus j.typed, made.outs-Minus j.typed, rule.minus (rule.is (h.plain is)))

  pub minus_is : (e : Expr) (part : Part) (spot : Spot) → R (form_of e) part → R (tree.Minus e) (minus_found part spot)
  unfolding minus_of
  minus_is e part spot r = record {
    at = λ d. sure_then (J (form_of e) true) (J (tree.Minus e) d.signed) (part negated) (minus_of spot d) (r.at negated)
        (λ j is. let m = minus_by e j j.signed refl is in operated_is around names (tree.Minus e) d.signed spot d (number (sort_of_expr j.typed)) (minus_node j) m.0 m.1 m.2);
  }

  -- ---- chains

  abbrev AreRead : (Expr → Part) → List Expr → Type 0
  AreRead part es = AllByRecursion (λ e. R (form_of e) (part e)) es

  abbrev ExprOf : Expr → TypedExpr → Type 0
  ExprOf e x = ExprIs around names e x

  pub exprs_are : (es : List Expr) (xs : List TypedExpr) → Along ExprOf es xs → ExprsAre around names es xs
  exprs_are [] [] h = rule.no_exprs
  exprs_are [] (x ∷ xs) h = absurd h
  exprs_are (e ∷ es) [] h = absurd h
  exprs_are (e ∷ es) (x ∷ xs) h = rule.expr h.0 (exprs_are es xs h.1)

  abbrev OneOperand : Expr → Chain → Chain → Type 0
  OneOperand = One (λ (c : Chain). c.operands) (λ (c : Chain). c.first) ExprOf

  join_is : (spot : Spot) (e : Expr) (part : Part) (c : Chain) → R (form_of e) part → Sure (OneOperand e c) (join_found spot c part)
  unfolding joined
  join_is spot e part c r =
      sure_then (Is around names e) (OneOperand e c) (part operand) (joined spot c) (plain_at around names e part operand refl r)
      (λ j is. sure_then (λ s. Unit {0}) (OneOperand e c) (paired spot (truths c.sort (sort_of_expr j.typed))) (with_operand c j.typed) (sure_any (paired spot (truths c.sort (sort_of_expr j.typed))))
      (λ s u. sure_sound (OneOperand e c) (record { first = c.first; sort = s; operands = c.operands ++ j.typed ∷ [] }) (record { item = j.typed; behind = refl; kept = refl; good = is })))

  abbrev logic_form : Logic → Expr → List Expr → Form
  logic_form logic.Or e es = tree.Or e es
  logic_form logic.Xor e es = tree.Xor e es
  logic_form logic.And e es = tree.And e es

  logic_rule : (l : Logic) (e : Expr) (es : List Expr) (x : TypedExpr) (xs : List TypedExpr) → ExprIs around names e x → ExprsAre around names es xs → (d : TypedForm) × (out-TypedNode (logic_node l x xs) ≡ d) × NodeIs around names (logic_form l e es) d
  logic_rule logic.Or e es x xs h k = (typed.Or x xs, made.outs-Or x xs, rule.or h k)
  logic_rule logic.Xor e es x xs h k = (typed.Xor x xs, made.outs-Xor x xs, rule.xor h k)
  logic_rule logic.And e es x xs h k = (typed.And x xs, made.outs-And x xs, rule.and h k)

  pub logic_is : (l : Logic) (e : Expr) (es : List Expr) (first : Part) (part : Expr → Part) (spot : Spot) → R (form_of e) first → AreRead part es → R (logic_form l e es) (logic_found l first (map part es) spot)
  unfolding logic_rest chain_of
  logic_is l e es first part spot r all = record {
    at = λ d. sure_then (Is around names e) (J (logic_form l e es) d.signed) (first operand) (logic_rest l (map part es) spot d) (plain_at around names e first operand refl r)
        (λ j is. sure_then (More (λ (c : Chain). c.operands) (λ (c : Chain). c.first) ExprOf es (chain_start j)) (J (logic_form l e es) d.signed) (through (join_found spot) (chain_start j) (map part es)) (chain_of spot d l)
        (through_more part (λ (c : Chain). c.operands) (λ (c : Chain). c.first) ExprOf (join_found spot) es (all_as (λ t. R (form_of t) (part t)) (λ t. (c : Chain) → Sure (OneOperand t c) (join_found spot c (part t))) es (λ t s c. join_is spot t (part t) c s) all) (chain_start j))
        (λ c m.
        let rule = logic_rule l e es c.first c.operands (subst (λ (x : TypedExpr). ExprIs around names e x) (sym m.kept) is) (subst (λ (xs : List TypedExpr). ExprsAre around names es xs) (sym m.behind) (exprs_are es m.found m.good)) in
        operated_is around names (logic_form l e es) d.signed spot d (truth c.sort) (logic_node l c.first c.operands) rule.0 rule.1 rule.2));
  }

  -- ---- chains of operators with their operands

  abbrev LinkOf : Link → TypedLink → Type 0
  LinkOf l y = ((out-TypedLink y).operator ≡ (out-Link l).operator) × ExprIs around names (out-Link l).operand (out-TypedLink y).operand

  pub record LinkReads (l : Link) (made : Linked) : Type 0 where
    pub operator : made.operator ≡ (out-Link l).operator
    pub operand : R (form_of (out-Link l).operand) made.operand

  links_are : (ls : List Link) (ys : List TypedLink) → Along LinkOf ls ys → LinksAre around names ls ys
  links_are [] [] h = rule.no_links
  links_are [] (y ∷ ys) h = absurd h
  links_are (l ∷ ls) [] h = absurd h
  links_are (l ∷ ls) (y ∷ ys) h = rule.link h.0.0 h.0.1 (links_are ls ys h.1)

  abbrev OneLink : Link → LinkChain → LinkChain → Type 0
  OneLink = One (λ (c : LinkChain). c.links) (λ (c : LinkChain). c.first) LinkOf

  link_made : (l : Link) (made : Linked) (x : TypedExpr) → LinkReads l made → ExprIs around names (out-Link l).operand x → LinkOf l (roll-TypedLink record { operator = made.operator; operand = x })
  link_made l made x r h =
      let out = sym (out-roll-TypedLink (record { operator = made.operator; operand = x })) in (
        subst (λ (y : TypedLink-F TypedNode TypedSuffixNode TypedEntry TypedExpr TypedLink TypedSuffix). y.operator ≡ (out-Link l).operator) out r.operator,
        subst (λ (y : TypedLink-F TypedNode TypedSuffixNode TypedEntry TypedExpr TypedLink TypedSuffix). ExprIs around names (out-Link l).operand y.operand) out h,
      )

  link_is : (spot : Spot) (l : Link) (made : Linked) (c : LinkChain) → LinkReads l made → Sure (OneLink l c) (link_found spot c made)
  unfolding link_of
  link_is spot l made c r =
      sure_then (Is around names (out-Link l).operand) (OneLink l c) (made.operand operand) (link_of spot c made.operator) (plain_at around names (out-Link l).operand made.operand operand refl r.operand)
      (λ j is. sure_then (λ s. Unit {0}) (OneLink l c) (paired spot (linked made.operator c.sort (sort_of_expr j.typed))) (with_link c made.operator j.typed) (sure_any (paired spot (linked made.operator c.sort (sort_of_expr j.typed))))
      (λ s u. sure_sound (OneLink l c) (record { first = c.first; sort = s; links = c.links ++ roll-TypedLink record { operator = made.operator; operand = j.typed } ∷ [] }) (record { item = roll-TypedLink record { operator = made.operator; operand = j.typed }; behind = refl; kept = refl; good = link_made l made j.typed r is })))

  abbrev level_form : Level → Expr → List Link → Form
  level_form level.Sum e ls = tree.Sum e ls
  level_form level.Product e ls = tree.Product e ls

  level_rule : (l : Level) (e : Expr) (ls : List Link) (x : TypedExpr) (ys : List TypedLink) → ExprIs around names e x → LinksAre around names ls ys → (d : TypedForm) × (out-TypedNode (level_node l x ys) ≡ d) × NodeIs around names (level_form l e ls) d
  level_rule level.Sum e ls x ys h k = (typed.Sum x ys, made.outs-Sum x ys, rule.sum h k)
  level_rule level.Product e ls x ys h k = (typed.Product x ys, made.outs-Product x ys, rule.product h k)

  pub links_is : (l : Level) (e : Expr) (ls : List Link) (first : Part) (part : Link → Linked) (spot : Spot) → R (form_of e) first → AllByRecursion (λ t. LinkReads t (part t)) ls → R (level_form l e ls) (links_found l first (map part ls) spot)
  unfolding links_rest links_of
  links_is l e ls first part spot r all = record {
    at = λ d. sure_then (Is around names e) (J (level_form l e ls) d.signed) (first operand) (links_rest l (map part ls) spot d) (plain_at around names e first operand refl r)
        (λ j is. sure_then (More (λ (c : LinkChain). c.links) (λ (c : LinkChain). c.first) LinkOf ls (links_start j)) (J (level_form l e ls) d.signed) (through (link_found spot) (links_start j) (map part ls)) (links_of spot d l)
        (through_more part (λ (c : LinkChain). c.links) (λ (c : LinkChain). c.first) LinkOf (link_found spot) ls (all_as (λ t. LinkReads t (part t)) (λ t. (c : LinkChain) → Sure (OneLink t c) (link_found spot c (part t))) ls (λ t s c. link_is spot t (part t) c s) all) (links_start j))
        (λ c m.
        let rule = level_rule l e ls c.first c.links (subst (λ (x : TypedExpr). ExprIs around names e x) (sym m.kept) is) (subst (λ (ys : List TypedLink). LinksAre around names ls ys) (sym m.behind) (links_are ls m.found m.good)) in
        operated_is around names (level_form l e ls) d.signed spot d (addable (Some c.sort)) (level_node l c.first c.links) rule.0 rule.1 rule.2));
  }

  -- ---- literals

  numbers : (n : ℕ) (digits : List ℕ) → number_from n digits ≡ number_behind n digits
  numbers n [] = refl
  numbers n (digit ∷ digits) = numbers (n * 10 + (digit - 48)) digits

  value_is : (digits : List ℕ) (signed : Bool) (s : Option Shape) → J (tree.Integer digits) signed (record { typed = roll-TypedExpr record { shape = s; node = made.Integer (integer_value signed (number_of digits)) }; root = None; signed = signed })
  value_is digits true s = record {
    plain = λ is. absurd (cc);
    negative = λ is. record {
      digits = digits;
      is = refl;
      value = ap (λ (e : TypedExpr-F TypedNode TypedSuffixNode TypedEntry TypedExpr TypedLink TypedSuffix). out-TypedNode e.node) (out-roll-TypedExpr (record { shape = s; node = made.Integer (neg_ℤ (pos (number_of digits))) })) ∙ made.outs-Integer (neg_ℤ (pos (number_of digits))) ∙ ap (λ (n : ℕ). typed.Integer (neg_ℤ (pos n))) (numbers 0 digits);
    };
    only = λ is. absurd (cc);
  }
  value_is digits false s = record {
    plain = λ is. form_made around names (tree.Integer digits) s (made.Integer (pos (number_of digits))) (typed.Integer (pos (decimal digits))) (made.outs-Integer (pos (number_of digits)) ∙ ap (λ (n : ℕ). typed.Integer (pos n)) (numbers 0 digits)) rule.integer;
    negative = λ is. absurd (cc);
    only = λ is. refl;
  }

  integer_by : (digits : List ℕ) (spot : Spot) (d : Demand) (b : Bool) → Sure (J (tree.Integer digits) d.signed) (integer_stands spot d (if b then Some (number_of digits) else None))
  integer_by digits spot d true =
      sure_then (λ s. Unit {0}) (J (tree.Integer digits) d.signed) (placed spot d None None (gives.Value shape.Integer)) (literal d.signed (integer_value d.signed (number_of digits))) (sure_any (placed spot d None None (gives.Value shape.Integer)))
      (λ s u. sure_sound (J (tree.Integer digits) d.signed) (record { typed = roll-TypedExpr record { shape = s; node = made.Integer (integer_value d.signed (number_of digits)) }; root = None; signed = d.signed }) (value_is digits d.signed s))
  integer_by digits spot d false =
      sure_then (λ s. Some 11 ≡ None) (J (tree.Integer digits) d.signed) (placed spot d (Some 11) None (gives.Value shape.Integer)) (literal d.signed (pos 0)) (placed_own spot d (Some 11) None (gives.Value shape.Integer))
      (λ s none. absurd (cc))

  pub integer_is : (digits : List ℕ) (spot : Spot) → R (tree.Integer digits) (λ d. integer_found spot d digits)
  integer_is digits spot = record { at = λ d. integer_by digits spot d (nat_le (number_of digits) (greatest d.signed)) }

  pub quoted_is : (text : List ℕ) (spot : Spot) → R (tree.Quoted text) (λ d. text_stands spot d text)
  quoted_is text spot = record { at = λ d. stands_is around names (tree.Quoted text) d.signed spot d None None (gives.Value shape.Text) (made.Text text) (typed.Text text) (λ none. made.outs-Text text) (λ none. rule.quoted) }

  pub boolean_is : (b : Bool) (spot : Spot) → R (tree.Boolean b) (λ d. boolean_stands spot d b)
  boolean_is b spot = record { at = λ d. stands_is around names (tree.Boolean b) d.signed spot d None None (gives.Value shape.Boolean) (made.Boolean b) (typed.Boolean b) (λ none. made.outs-Boolean b) (λ none. rule.boolean) }

  pub current_is : (spot : Spot) → R tree.ContextCurrent (λ d. current_stands spot d)
  current_is spot = record { at = λ d. stands_is around names tree.ContextCurrent d.signed spot d None None (gives.Value shape.Context) made.ContextCurrent typed.ContextCurrent (λ none. made.outs-ContextCurrent) (λ none. rule.current) }

  -- ---- parentheses, and `new`

  grouped : (e : Expr) (signed : Bool) (j : Judged) → J (form_of e) false j → J (tree.Group e) signed j
  grouped e signed j h =
      let none = h.only refl in
      record { plain = λ is. rule.group (rule.is (h.plain none)); negative = λ is. absurd (cc); only = λ is. none }

  pub group_is : (e : Expr) (part : Part) (spot : Spot) → R (form_of e) part → R (tree.Group e) (λ d. and_then (part (inside d)) (group_of spot d))
  unfolding group_of
  group_is e part spot r = record {
    at = λ d. sure_then (J (form_of e) false) (J (tree.Group e) d.signed) (part (inside d)) (group_of spot d) (r.at (inside d)) (λ j is. sure_node (J (tree.Group e) d.signed) spot (codes_of (astray_code d.astray)) j (λ none. grouped e d.signed j is));
  }

  new_made : (w : TypeExpr) (s : Shape) (o : Option Shape) → TypeIs around.types w s → o ≡ Some s → FormIs around names (tree.New w) (roll-TypedExpr record { shape = o; node = made.Default })
  new_made w s o h is =
      let out = out-roll-TypedExpr (record { shape = o; node = made.Default }) in
      rule.new h (ap (λ (e : TypedExpr-F TypedNode TypedSuffixNode TypedEntry TypedExpr TypedLink TypedSuffix). e.shape) out ∙ is) (ap (λ (e : TypedExpr-F TypedNode TypedSuffixNode TypedEntry TypedExpr TypedLink TypedSuffix). out-TypedNode e.node) out ∙ made.outs-Default)

  pub new_is : (table : Table) (w : TypeExpr) (spot : Spot) → Sure (TypeIs around.types w) (type_found table w) → R (tree.New w) (λ d. and_then (type_found table w) (new_stands spot d))
  unfolding new_stands
  new_is table w spot t = record {
    at = λ d. sure_then (TypeIs around.types w) (J (tree.New w) d.signed) (type_found table w) (new_stands spot d) t
        (λ s h. sure_then (λ o. o ≡ Some s) (J (tree.New w) d.signed) (placed spot d None None (gives.Value s)) (judged None made.Default) (placed_shape spot d None None (gives.Value s))
        (λ o is. sure_sound (J (tree.New w) d.signed) (record { typed = roll-TypedExpr record { shape = o; node = made.Default }; root = None; signed = false }) (judges around names (tree.New w) d.signed (roll-TypedExpr record { shape = o; node = made.Default }) None (new_made w s o h is))));
  }
