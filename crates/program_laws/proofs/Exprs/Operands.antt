-- An operator on operands that answer answers.
use Rattle.std.proofs.Common.{◌≡◌, ◌&&◌, ◌∷◌, if◌then◌else◌}
use Rattle.program_laws.proofs.Common.{Bool, true, false, [], Option, Some, None, refl, sym, ap, subst, ◌∙◌, and_from, Spot, Shape, Comparison, TypedExpr, out-TypedExpr, TypedNode, same, Names, checked, holds, shape_of, may_compare, if_known, is_of, Sort, Judged, Demand, Value, operand, Part, sort_of_expr, truth, given_by, operated, not_found, minus_node, minus_found, comparison_found}
use Rattle.epl_values.specs.declared.shape.Shape.TheVariants as shape
use Rattle.typed_program.specs.declared.expression.TypedNode.TheVariants as made
use Rattle.typed_program.specs.declared.expression.TypedNode.TheOpen as typed
use Rattle.expr_rules.specs.declared.operators.Sort.TheVariants as sort
use Rattle.expr_rules.specs.declared.placed.Gives.TheVariants as gives
use Rattle.expr_rules.specs.Asked.{negated}
use Rattle.expr_rules.specs.Operators.{number, compared, paired, not_of, minus_of, comparison_of, comparison_right}
use Rattle.program_laws.proofs.Exprs.Sure.{Sure, sure_then, sure_node}
use Rattle.program_laws.proofs.Exprs.Alike.{same_self}
use Rattle.program_laws.proofs.Exprs.Standing.{integer_stands, boolean_stands, text_stands}
use Rattle.program_laws.proofs.Exprs.Holding.{node_checked, rolled, checked_shape, holds_node, is_of_known}
use Rattle.program_laws.proofs.Exprs.Answering.{Answering, Answers, IsGiven, stands_sure}
use Rattle.program_laws.proofs.Exprs.Sorts.{Unknown, sort_shape, sorted_shape, value_known, truth_is, number_is, Compares, compared_is}

pub paired_sure : (P : Sort → Type 0) (spot : Spot) (o : Option Sort) → ((t : Sort) → o ≡ Some t → P t) → Sure P (paired spot o)
paired_sure P spot None h = sure_node P spot (10 ∷ []) sort.Unknown (λ none. absurd (cc))
paired_sure P spot (Some t) h = sure_node P spot [] t (λ none. h t refl)

module _ (names : Names) where
  -- an operand that holds, and whose sort is known
  pub record Operand (e : TypedExpr) : Type 0 where
    pub whole : holds names e ≡ true
    pub known : Unknown (sort_of_expr e) → ⊥

  pub operand_of : (j : Judged) → Answering names Value j → Operand j.typed
  operand_of j a = record { whole = a.whole; known = λ u. value_known (shape_of j.typed) a.fit u }

  pub operand_shape : (e : TypedExpr) (t : Sort) (u : Shape) → sort_of_expr e ≡ t → sort_shape t ≡ Some u → shape_of e ≡ Some u
  operand_shape e t u h k = sorted_shape (shape_of e) t u h k

  pub operand_is_of : (e : TypedExpr) (t : Sort) (u : Shape) → Operand e → sort_of_expr e ≡ t → sort_shape t ≡ Some u → is_of u (checked names e) ≡ true
  operand_is_of e t u o h k = is_of_known names u e o.whole (operand_shape e t u h k)

  pub operated_sure : (spot : Spot) (demand : Demand) (o : Option Sort) (n : TypedNode) → ((t : Sort) → o ≡ Some t → IsGiven names n (given_by t)) → Sure (Answering names demand.wish) (operated spot demand o n)
  operated_sure spot demand None n h = stands_sure names spot demand (Some 10) None gives.Unknown n (λ none. absurd (cc))
  operated_sure spot demand (Some t) n h = stands_sure names spot demand None None (given_by t) n (λ none. h t refl)

  given_as : (n : TypedNode) (t u : Sort) → t ≡ u → IsGiven names n (given_by u) → IsGiven names n (given_by t)
  given_as n t u is h = subst (λ (v : Sort). IsGiven names n (given_by v)) (sym is) h

  pub given_boolean : (n : TypedNode) (t : Sort) → t ≡ sort.Boolean → node_checked names n (Some shape.Boolean) ≡ true → IsGiven names n (given_by t)
  given_boolean n t is h = given_as n t sort.Boolean is (record { there = boolean_stands names.types; node_holds = h })

  pub given_integer : (n : TypedNode) (t : Sort) → t ≡ sort.Integer → node_checked names n (Some shape.Integer) ≡ true → IsGiven names n (given_by t)
  given_integer n t is h = given_as n t sort.Integer is (record { there = integer_stands names.types; node_holds = h })

  pub given_text : (n : TypedNode) (t : Sort) → t ≡ sort.Text → node_checked names n (Some shape.Text) ≡ true → IsGiven names n (given_by t)
  given_text n t is h = given_as n t sort.Text is (record { there = text_stands names.types; node_holds = h })

  -- ---- not

  not_holds : (e : TypedExpr) → Operand e → sort_of_expr e ≡ sort.Boolean → node_checked names (made.Not e) (Some shape.Boolean) ≡ true
  not_holds e o is = rolled names (typed.Not e) (made.Not e) (Some shape.Boolean) (made.rolls-Not e) (and_from (same shape.Boolean shape.Boolean) (is_of shape.Boolean (checked names e)) (same_self shape.Boolean) (operand_is_of e sort.Boolean shape.Boolean o is refl))

  not_sure : (spot : Spot) (demand : Demand) (j : Judged) → Answering names Value j → Sure (Answering names demand.wish) (not_of spot demand j)
  unfolding not_of
  not_sure spot demand j a =
      let o = operand_of j a in
      operated_sure spot demand (truth (sort_of_expr j.typed)) (made.Not j.typed) (λ t is.
      let b = truth_is (sort_of_expr j.typed) t o.known is in
      given_boolean (made.Not j.typed) t b.1 (not_holds j.typed o b.0))

  pub not_answers : (part : Part) (spot : Spot) → Answers names part → Answers names (not_found part spot)
  not_answers part spot p = record { at_demand = λ demand stands. sure_then (Answering names Value) (Answering names demand.wish) (part operand) (not_of spot demand) (p.at_demand operand refl) (not_sure spot demand) }

  -- ---- minus

  minus_holds : (signed : Bool) (e : TypedExpr) → Operand e → sort_of_expr e ≡ sort.Integer → node_checked names (if signed then (out-TypedExpr e).node else made.Minus e) (Some shape.Integer) ≡ true
  minus_holds true e o is = subst (λ (s : Option Shape). node_checked names (out-TypedExpr e).node s ≡ true) (operand_shape e sort.Integer shape.Integer is refl) (holds_node names e o.whole)
  minus_holds false e o is = rolled names (typed.Minus e) (made.Minus e) (Some shape.Integer) (made.rolls-Minus e) (and_from (same shape.Integer shape.Integer) (is_of shape.Integer (checked names e)) (same_self shape.Integer) (operand_is_of e sort.Integer shape.Integer o is refl))

  minus_sure : (spot : Spot) (demand : Demand) (j : Judged) → Answering names Value j → Sure (Answering names demand.wish) (minus_of spot demand j)
  unfolding minus_of
  minus_sure spot demand j a =
      let o = operand_of j a in
      operated_sure spot demand (number (sort_of_expr j.typed)) (minus_node j) (λ t is.
      let b = number_is (sort_of_expr j.typed) t o.known is in
      given_integer (minus_node j) t b.1 (minus_holds j.signed j.typed o b.0))

  pub minus_answers : (part : Part) (spot : Spot) → Answers names part → Answers names (minus_found part spot)
  minus_answers part spot p = record { at_demand = λ demand stands. sure_then (Answering names Value) (Answering names demand.wish) (part negated) (minus_of spot demand) (p.at_demand negated refl) (minus_sure spot demand) }

  -- ---- comparisons

  compare_holds : (c : Comparison) (left right : TypedExpr) (v : Sort) → Operand left → Operand right → Compares c (sort_of_expr left) (sort_of_expr right) v → node_checked names (made.Compare left c right) (Some shape.Boolean) ≡ true
  compare_holds c left right v l r k =
      rolled names (typed.Compare left c right) (made.Compare left c right) (Some shape.Boolean) (made.rolls-Compare left c right)
      (and_from (same shape.Boolean shape.Boolean) (holds names left && if_known (λ s. may_compare c s && is_of s (checked names right)) (checked names left).shape) (same_self shape.Boolean)
      (and_from (holds names left) (if_known (λ s. may_compare c s && is_of s (checked names right)) (checked names left).shape) l.whole
      (ap (λ (o : Option Shape). if_known (λ s. may_compare c s && is_of s (checked names right)) o) (checked_shape names left ∙ operand_shape left k.of k.shape k.left k.sorted)
      ∙ and_from (may_compare c k.shape) (is_of k.shape (checked names right)) k.may (operand_is_of right k.of k.shape r k.right k.sorted))))

  comparison_sure : (spot : Spot) (demand : Demand) (c : Comparison) (left right : Judged) → Answering names Value left → Answering names Value right → Sure (Answering names demand.wish) (comparison_of spot demand c left right)
  unfolding comparison_of
  comparison_sure spot demand c left right a b =
      let l = operand_of left a in let r = operand_of right b in
      operated_sure spot demand (compared c (sort_of_expr left.typed) (sort_of_expr right.typed)) (made.Compare left.typed c right.typed) (λ t is.
      let k = compared_is c (sort_of_expr left.typed) (sort_of_expr right.typed) t l.known r.known is in
      given_boolean (made.Compare left.typed c right.typed) t k.gives (compare_holds c left.typed right.typed t l r k))

  right_sure : (spot : Spot) (demand : Demand) (c : Comparison) (right : Part) → Answers names right → (left : Judged) → Answering names Value left → Sure (Answering names demand.wish) (comparison_right spot demand c right left)
  unfolding comparison_right
  right_sure spot demand c right r left a = sure_then (Answering names Value) (Answering names demand.wish) (right operand) (comparison_of spot demand c left) (r.at_demand operand refl) (λ j b. comparison_sure spot demand c left j a b)

  pub comparison_answers : (left right : Part) (c : Comparison) (spot : Spot) → Answers names left → Answers names right → Answers names (comparison_found left c right spot)
  comparison_answers left right c spot l r = record { at_demand = λ demand stands. sure_then (Answering names Value) (Answering names demand.wish) (left operand) (comparison_right spot demand c right) (l.at_demand operand refl) (right_sure spot demand c right r) }
