-- What sorts of operands operators take and give, where all of them are known.
use Rattle.std.proofs.Common.{◌≡◌, ◌⊎◌}
use Rattle.program_laws.proofs.Common.{true, Option, Some, None, refl, sym, ap, ◌∙◌, true≢false, inl, inr, Shape, Shape-F, out-Shape, Comparison, Operator, is_scalar_layer, is_ordered_layer, may_compare, is_add, Sort, Value, shape_given, truth, addable, linked, truths, given_by, wished}
use Rattle.epl_values.specs.declared.shape.Shape.TheVariants as shape
use Rattle.epl_values.specs.declared.shape.Shape.TheOpen as layer
use Rattle.epl_tree.specs.declared.expression.Comparison.TheVariants as comparison
use Rattle.epl_tree.specs.declared.expression.Operator.TheVariants as operator
use Rattle.typed_program.specs.Shapes.{is_scalar, is_ordered}
use Rattle.expr_rules.specs.declared.operators.Sort.TheVariants as sort
use Rattle.expr_rules.specs.Operators.{sort_of, sort_of_layer, number, both, alike, scalar_truth, order_truth, compared}
use Rattle.program_laws.proofs.Exprs.Standing.{layer_shape}

-- the shape of a sort
abbrev pub sort_shape : Sort → Option Shape
sort_shape s = shape_given (given_by s)

abbrev pub Unknown : Sort → Type 0
Unknown s = s ≡ sort.Unknown

integer_layer : (d : Shape-F Shape) → sort_of_layer d ≡ sort.Integer → d ≡ layer.Integer
integer_layer layer.Integer h = refl
integer_layer d h = absurd (cc)

boolean_layer : (d : Shape-F Shape) → sort_of_layer d ≡ sort.Boolean → d ≡ layer.Boolean
boolean_layer layer.Boolean h = refl
boolean_layer d h = absurd (cc)

text_layer : (d : Shape-F Shape) → sort_of_layer d ≡ sort.Text → d ≡ layer.Text
text_layer layer.Text h = refl
text_layer d h = absurd (cc)

unknown_layer : (d : Shape-F Shape) → sort_of_layer d ≡ sort.Unknown → ⊥
unknown_layer layer.Integer h = cc
unknown_layer layer.Boolean h = cc
unknown_layer layer.Text h = cc
unknown_layer d h = cc

sort_integer : (o : Option Shape) → sort_of o ≡ sort.Integer → o ≡ Some shape.Integer
unfolding sort_of
sort_integer None h = absurd (cc)
sort_integer (Some s) h = ap Some (layer_shape s layer.Integer (integer_layer (out-Shape s) h) ∙ shape.rolls-Integer)

sort_boolean : (o : Option Shape) → sort_of o ≡ sort.Boolean → o ≡ Some shape.Boolean
unfolding sort_of
sort_boolean None h = absurd (cc)
sort_boolean (Some s) h = ap Some (layer_shape s layer.Boolean (boolean_layer (out-Shape s) h) ∙ shape.rolls-Boolean)

sort_text : (o : Option Shape) → sort_of o ≡ sort.Text → o ≡ Some shape.Text
unfolding sort_of
sort_text None h = absurd (cc)
sort_text (Some s) h = ap Some (layer_shape s layer.Text (text_layer (out-Shape s) h) ∙ shape.rolls-Text)

pub sorted_shape : (o : Option Shape) (t : Sort) (u : Shape) → sort_of o ≡ t → sort_shape t ≡ Some u → o ≡ Some u
sorted_shape o sort.Integer u h k = sort_integer o h ∙ k
sorted_shape o sort.Boolean u h k = sort_boolean o h ∙ k
sorted_shape o sort.Text u h k = sort_text o h ∙ k
sorted_shape o sort.Other u h k = absurd (cc)
sorted_shape o sort.Unknown u h k = absurd (cc)

pub value_known : (o : Option Shape) → wished Value o ≡ true → Unknown (sort_of o) → ⊥
unfolding sort_of
value_known None w h = absurd (true≢false (sym w))
value_known (Some s) w h = unknown_layer (out-Shape s) h

pub truth_is : (s t : Sort) → (Unknown s → ⊥) → truth s ≡ Some t → (s ≡ sort.Boolean) × (t ≡ sort.Boolean)
truth_is sort.Boolean t k h = (refl, cc)
truth_is sort.Unknown t k h = absurd (k refl)
truth_is sort.Integer t k h = absurd (cc)
truth_is sort.Text t k h = absurd (cc)
truth_is sort.Other t k h = absurd (cc)

pub number_is : (s t : Sort) → (Unknown s → ⊥) → number s ≡ Some t → (s ≡ sort.Integer) × (t ≡ sort.Integer)
number_is sort.Integer t k h = (refl, cc)
number_is sort.Unknown t k h = absurd (k refl)
number_is sort.Boolean t k h = absurd (cc)
number_is sort.Text t k h = absurd (cc)
number_is sort.Other t k h = absurd (cc)

both_is : (a b : Option Sort) (u : Sort) → both a b ≡ Some u → (a ≡ Some u) × ((t : Sort) × (b ≡ Some t))
both_is None b u h = absurd (cc)
both_is (Some s) None u h = absurd (cc)
both_is (Some s) (Some t) u h = (h, (t, refl))

-- three sorts that are one
pub record Alike (of s t u : Sort) : Type 0 where
  pub left : s ≡ of
  pub right : t ≡ of
  pub gives : u ≡ of

pub truths_are : (s t u : Sort) → (Unknown s → ⊥) → (Unknown t → ⊥) → truths s t ≡ Some u → Alike sort.Boolean s t u
truths_are s t u k l h =
    let b = both_is (truth s) (truth t) u h in
    let left = truth_is s u k b.0 in let right = truth_is t b.1.0 l b.1.1 in
    record { left = left.0; right = right.0; gives = left.1 }

numbers_are : (s t u : Sort) → (Unknown s → ⊥) → (Unknown t → ⊥) → both (number s) (number t) ≡ Some u → Alike sort.Integer s t u
numbers_are s t u k l h =
    let b = both_is (number s) (number t) u h in
    let left = number_is s u k b.0 in let right = number_is t b.1.0 l b.1.1 in
    record { left = left.0; right = right.0; gives = left.1 }

-- an operator of a chain, and what it gives
pub record Links (o : Operator) (s t u : Sort) : Type 0 where
  pub left : s ≡ u
  pub right : t ≡ u
  pub known : Unknown u → ⊥
  pub adds : u ≡ sort.Text → is_add o ≡ true

links_number : (o : Operator) (s t u : Sort) → Alike sort.Integer s t u → Links o s t u
links_number o s t u a = record { left = a.left ∙ sym a.gives; right = a.right ∙ sym a.gives; known = λ (k : u ≡ sort.Unknown). (let e : u ≡ sort.Integer = a.gives in absurd (cc)); adds = λ (k : u ≡ sort.Text). (let e : u ≡ sort.Integer = a.gives in absurd (cc)) }

links_add : (s t u : Sort) → (Unknown s → ⊥) → (Unknown t → ⊥) → addable (alike s t) ≡ Some u → Links operator.Add s t u
links_add sort.Unknown t u k l h = absurd (k refl)
links_add s sort.Unknown u k l h = absurd (l refl)
links_add sort.Integer sort.Integer u k l h = record { left = cc; right = cc; known = λ (e : u ≡ sort.Unknown). absurd (cc); adds = λ (e : u ≡ sort.Text). refl }
links_add sort.Text sort.Text u k l h = record { left = cc; right = cc; known = λ (e : u ≡ sort.Unknown). absurd (cc); adds = λ (e : u ≡ sort.Text). refl }
links_add s t u k l h = absurd (cc)

pub linked_is : (o : Operator) (s t u : Sort) → (Unknown s → ⊥) → (Unknown t → ⊥) → linked o s t ≡ Some u → Links o s t u
linked_is operator.Add s t u k l h = links_add s t u k l h
linked_is o s t u k l h = links_number o s t u (numbers_are s t u k l h)

pub addable_is : (s t : Sort) → (Unknown s → ⊥) → addable (Some s) ≡ Some t → (s ≡ t) × ((t ≡ sort.Integer) ⊎ (t ≡ sort.Text))
addable_is sort.Integer t k h = (cc, inl cc)
addable_is sort.Text t k h = (cc, inr cc)
addable_is sort.Unknown t k h = absurd (k refl)
addable_is sort.Boolean t k h = absurd (cc)
addable_is sort.Other t k h = absurd (cc)

-- two operands that are compared
pub record Compares (c : Comparison) (s t v : Sort) : Type 0 where
  pub of : Sort
  pub shape : Shape
  pub left : s ≡ of
  pub right : t ≡ of
  pub sorted : sort_shape of ≡ Some shape
  pub may : may_compare c shape ≡ true
  pub gives : v ≡ sort.Boolean

integer_scalar : is_scalar shape.Integer ≡ true
unfolding is_scalar
integer_scalar = ap is_scalar_layer shape.outs-Integer

boolean_scalar : is_scalar shape.Boolean ≡ true
unfolding is_scalar
boolean_scalar = ap is_scalar_layer shape.outs-Boolean

text_scalar : is_scalar shape.Text ≡ true
unfolding is_scalar
text_scalar = ap is_scalar_layer shape.outs-Text

integer_ordered : is_ordered shape.Integer ≡ true
unfolding is_ordered
integer_ordered = ap is_ordered_layer shape.outs-Integer

text_ordered : is_ordered shape.Text ≡ true
unfolding is_ordered
text_ordered = ap is_ordered_layer shape.outs-Text

module _ (c : Comparison) where
  scalars : (may : (s : Shape) → is_scalar s ≡ true → may_compare c s ≡ true) (s t v : Sort) → (Unknown s → ⊥) → (Unknown t → ⊥) → scalar_truth (alike s t) ≡ Some v → Compares c s t v
  scalars may sort.Unknown t v k l h = absurd (k refl)
  scalars may s sort.Unknown v k l h = absurd (l refl)
  scalars may sort.Integer sort.Integer v k l h = record { of = sort.Integer; shape = shape.Integer; left = refl; right = refl; sorted = refl; may = may shape.Integer integer_scalar; gives = cc }
  scalars may sort.Boolean sort.Boolean v k l h = record { of = sort.Boolean; shape = shape.Boolean; left = refl; right = refl; sorted = refl; may = may shape.Boolean boolean_scalar; gives = cc }
  scalars may sort.Text sort.Text v k l h = record { of = sort.Text; shape = shape.Text; left = refl; right = refl; sorted = refl; may = may shape.Text text_scalar; gives = cc }
  scalars may s t v k l h = absurd (cc)

  ordered : (may : (s : Shape) → is_ordered s ≡ true → may_compare c s ≡ true) (s t v : Sort) → (Unknown s → ⊥) → (Unknown t → ⊥) → order_truth (alike s t) ≡ Some v → Compares c s t v
  ordered may sort.Unknown t v k l h = absurd (k refl)
  ordered may s sort.Unknown v k l h = absurd (l refl)
  ordered may sort.Integer sort.Integer v k l h = record { of = sort.Integer; shape = shape.Integer; left = refl; right = refl; sorted = refl; may = may shape.Integer integer_ordered; gives = cc }
  ordered may sort.Text sort.Text v k l h = record { of = sort.Text; shape = shape.Text; left = refl; right = refl; sorted = refl; may = may shape.Text text_ordered; gives = cc }
  ordered may s t v k l h = absurd (cc)

pub compared_is : (c : Comparison) (s t v : Sort) → (Unknown s → ⊥) → (Unknown t → ⊥) → compared c s t ≡ Some v → Compares c s t v
compared_is comparison.Equal s t v k l h = scalars comparison.Equal (λ u e. e) s t v k l h
compared_is comparison.NotEqual s t v k l h = scalars comparison.NotEqual (λ u e. e) s t v k l h
compared_is c s t v k l h = ordered c (λ u e. e) s t v k l h
