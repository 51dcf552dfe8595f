-- Literals answer, where their elements do.
use Rattle.std.proofs.Common.{◌≡◌, ◌∷◌, ◌++◌, if◌then◌else◌}
use Rattle.program_laws.proofs.Common.{ℕ, ℤ, Bool, true, false, List, [], map, Option, Some, None, refl, sym, ap, subst, ◌∙◌, true≢false, pos, list_all, AllByRecursion, Spot, EventShape, Shape, Shape-F, out-Shape, TypedExpr, roll-TypedExpr, TypedNode, stands, is_sequence_layer, Names, checked, shape_of, is_of, Judged, Elements, Demand, Wish, Statement, Value, Exactly, Key, Event, Sequence, Channel, literal_stands, integer_stands, integer_found, integer_value, greatest, fixed, empty_code, empty_stands, text_stands, boolean_stands, current_stands, element_found, no_elements, sequence_items, sequence_found, Part, wish_stands}
use Rattle.epl_values.specs.declared.shape.Shape.TheVariants as shape
use Rattle.epl_values.specs.declared.shape.Shape.TheOpen as layer
use Rattle.typed_program.specs.declared.expression.TypedNode.TheVariants as made
use Rattle.typed_program.specs.declared.expression.TypedNode.TheOpen as typed
use Rattle.typed_program.specs.Shapes.{is_sequence}
use Rattle.typed_program.specs.Expressions.{sequence_so}
use Rattle.expr_rules.specs.declared.placed.Gives.TheVariants as gives
use Rattle.expr_rules.specs.Asked.{Unknown, plain}
use Rattle.expr_rules.specs.Literals.{literal, number_of, within, new_stands, like_those, element_of, sequence_of}
use Rattle.expr_rules.specs.Places.{placed}
use Rattle.expr_rules.specs.Then.{and_then, through}
use Rattle.program_laws.proofs.Exprs.Sure.{Sure, sure_then, sure_sound, sure_through}
use Rattle.program_laws.proofs.Exprs.Alike.{same_self}
use Rattle.program_laws.proofs.Exprs.Standing.{sequence_stands}
use Rattle.program_laws.proofs.Exprs.Standing.{integer_stands as integer_there, boolean_stands as boolean_there, text_stands as text_there, context_stands as context_there}
use Rattle.program_laws.proofs.Exprs.Holding.{node_checked, rolled, is_of_known}
use Rattle.program_laws.proofs.Exprs.Answering.{Answering, Answers, Given, Fitting, placed_given, made_answers, stands_sure, value_shape, shape_stands, exact_is_of}
use Rattle.program_laws.proofs.Exprs.Chains.{all_push}

-- the shape that a place fixes
fixed_if : (b : Bool) (t s : Shape) → (if b then Some t else None) ≡ Some s → (t ≡ s) × (b ≡ true)
fixed_if true t s h = (cc, refl)
fixed_if false t s h = absurd (cc)

pub fixed_is : (is : Shape → Bool) (w : Wish) (s : Shape) → fixed is w ≡ Some s → (w ≡ Exactly s) × (is s ≡ true)
fixed_is is (Exactly t) s h = let b = fixed_if (is t) t s h in (ap Exactly b.0, subst (λ (u : Shape). is u ≡ true) b.0 b.1)
fixed_is is w s h = absurd (cc)

module _ (names : Names) where
  -- ---- literals of one token

  literal_sure : (spot : Spot) (demand : Demand) (own : Option ℕ) (value : ℤ) → Sure (Answering names demand.wish) (literal_stands spot demand own value)
  literal_sure spot demand own value =
      sure_then (Fitting names demand (made.Integer value)) (Answering names demand.wish) (placed spot demand own None (gives.Value shape.Integer)) (literal demand.signed value)
      (placed_given names spot demand own None (gives.Value shape.Integer) (made.Integer value) (λ none. record { there = integer_there names.types; node_holds = rolled names (typed.Integer value) (made.Integer value) (Some shape.Integer) (made.rolls-Integer value) (same_self shape.Integer) }))
      (λ s f. sure_sound (Answering names demand.wish) (record { typed = roll-TypedExpr record { shape = s; node = made.Integer value }; root = None; signed = demand.signed }) (made_answers names demand.wish s (made.Integer value) None demand.signed f.0 f.1))

  integer_sure : (spot : Spot) (demand : Demand) (o : Option ℕ) → Sure (Answering names demand.wish) (integer_stands spot demand o)
  integer_sure spot demand None = literal_sure spot demand (Some 11) (pos 0)
  integer_sure spot demand (Some n) = literal_sure spot demand None (integer_value demand.signed n)

  pub integer_answers : (spot : Spot) (digits : List ℕ) → Answers names (λ demand. integer_found spot demand digits)
  integer_answers spot digits = record { at_demand = λ demand stands. integer_sure spot demand (within (greatest demand.signed) (number_of digits)) }

  pub text_answers : (spot : Spot) (text : List ℕ) → Answers names (λ demand. text_stands spot demand text)
  text_answers spot text = record { at_demand = λ demand stands. stands_sure names spot demand None None (gives.Value shape.Text) (made.Text text) (λ none. record { there = text_there names.types; node_holds = rolled names (typed.Text text) (made.Text text) (Some shape.Text) (made.rolls-Text text) (same_self shape.Text) }) }

  pub boolean_answers : (spot : Spot) (b : Bool) → Answers names (λ demand. boolean_stands spot demand b)
  boolean_answers spot b = record { at_demand = λ demand stands. stands_sure names spot demand None None (gives.Value shape.Boolean) (made.Boolean b) (λ none. record { there = boolean_there names.types; node_holds = rolled names (typed.Boolean b) (made.Boolean b) (Some shape.Boolean) (made.rolls-Boolean b) (same_self shape.Boolean) }) }

  pub current_answers : (spot : Spot) → Answers names (λ demand. current_stands spot demand)
  current_answers spot = record { at_demand = λ demand stands. stands_sure names spot demand None None (gives.Value shape.Context) made.ContextCurrent (λ none. record { there = context_there names.types; node_holds = rolled names typed.ContextCurrent made.ContextCurrent (Some shape.Context) made.rolls-ContextCurrent (same_self shape.Context) }) }

  pub new_sure : (spot : Spot) (demand : Demand) (s : Shape) → stands names.types s ≡ true → Sure (Answering names demand.wish) (new_stands spot demand s)
  unfolding new_stands
  new_sure spot demand s there = stands_sure names spot demand None None (gives.Value s) made.Default (λ none. record { there = there; node_holds = rolled names typed.Default made.Default (Some s) made.rolls-Default refl })

  -- ---- literals without elements or entries

  no_empty_code : (types : List EventShape) (w : Wish) → wish_stands types w ≡ true → empty_code w ≡ None → ⊥
  no_empty_code types Statement h none = cc
  no_empty_code types Value h none = cc
  no_empty_code types Unknown h none = true≢false (sym h)
  no_empty_code types (Exactly s) h none = cc
  no_empty_code types (Key s) h none = cc
  no_empty_code types Event h none = cc
  no_empty_code types Sequence h none = cc
  no_empty_code types Channel h none = cc

  empty_at : (spot : Spot) (demand : Demand) → wish_stands names.types demand.wish ≡ true → (o : Option Shape) (n : TypedNode) → ((s : Shape) → o ≡ Some s → Given names n (Some s)) → Sure (Answering names demand.wish) (empty_stands o n spot demand)
  empty_at spot demand stands None n h = stands_sure names spot demand (empty_code demand.wish) None gives.Unknown n (λ none. absurd (no_empty_code names.types demand.wish stands none))
  empty_at spot demand stands (Some s) n h = stands_sure names spot demand None None (gives.Value s) n (λ none. h s refl)

  pub empty_sure : (spot : Spot) (demand : Demand) (is : Shape → Bool) (n : TypedNode) → wish_stands names.types demand.wish ≡ true → ((s : Shape) → is s ≡ true → node_checked names n (Some s) ≡ true) → Sure (Answering names demand.wish) (empty_stands (fixed is demand.wish) n spot demand)
  empty_sure spot demand is n stands h = empty_at spot demand stands (fixed is demand.wish) n (λ s at.
      let b = fixed_is is demand.wish s at in
      record { there = subst (λ (w : Wish). wish_stands names.types w ≡ true) b.0 stands; node_holds = h s b.1 })

  -- ---- sequences

  -- what is made so far: elements of one shape that stands, or none
  abbrev LikeShape : Option Shape → List TypedExpr → Type 0
  LikeShape None items = items ≡ []
  LikeShape (Some s) items = (stands names.types s ≡ true) × (list_all (is_of s) (map (checked names) items) ≡ true)

  abbrev Alike : Elements → Type 0
  Alike elements = LikeShape elements.shape elements.items

  first_alike : (items : List TypedExpr) (j : Judged) → items ≡ [] → Answering names Value j → LikeShape (shape_of j.typed) (items ++ j.typed ∷ [])
  first_alike items j none a =
      let known = value_shape names j a in
      subst (λ (o : Option Shape). LikeShape o (items ++ j.typed ∷ [])) (sym known.1) (
        shape_stands names Value j known.0 a known.1,
        all_push (is_of known.0) (checked names) items j.typed (ap (λ (l : List TypedExpr). list_all (is_of known.0) (map (checked names) l)) none) (is_of_known names known.0 j.typed a.whole known.1),
      )

  element_at : (o : Option Shape) (items : List TypedExpr) (part : Part) → LikeShape o items → Answers names part → Sure Alike (and_then (part (plain (like_those items o))) (element_of (record { shape = o; items = items })))
  element_at None (x ∷ items) part i p = absurd (cc)
  element_at None [] part i p =
      sure_then (Answering names Value) Alike (part (plain Value)) (element_of (record { shape = None; items = [] })) (p.at_demand (plain Value) refl)
      (λ j a. sure_sound Alike (record { shape = shape_of j.typed; items = [] ++ j.typed ∷ [] }) (first_alike [] j i a))
  element_at (Some s) items part i p =
      sure_then (Answering names (Exactly s)) Alike (part (plain (Exactly s))) (element_of (record { shape = Some s; items = items })) (p.at_demand (plain (Exactly s)) i.0)
      (λ j a. sure_sound Alike (record { shape = Some s; items = items ++ j.typed ∷ [] }) (i.0, all_push (is_of s) (checked names) items j.typed i.1 (exact_is_of names s j a)))

  sequence_layer_holds : (d : Shape-F Shape) → is_sequence_layer d ≡ true → sequence_so [] d ≡ true
  sequence_layer_holds (layer.Sequence item) h = refl
  sequence_layer_holds d h = absurd (true≢false (sym h))

  empty_sequence_holds : (s : Shape) → is_sequence s ≡ true → node_checked names (made.Sequence []) (Some s) ≡ true
  unfolding is_sequence
  empty_sequence_holds s h = rolled names (typed.Sequence []) (made.Sequence []) (Some s) (made.rolls-Sequence []) (sequence_layer_holds (out-Shape s) h)

  sequence_holds : (items : List TypedExpr) (s : Shape) → list_all (is_of s) (map (checked names) items) ≡ true → node_checked names (made.Sequence items) (Some (shape.Sequence s)) ≡ true
  sequence_holds items s h = rolled names (typed.Sequence items) (made.Sequence items) (Some (shape.Sequence s)) (made.rolls-Sequence items) (ap (λ (d : Shape-F Shape). sequence_so (map (checked names) items) d) (shape.outs-Sequence s) ∙ h)

  sequence_at : (spot : Spot) (demand : Demand) (items : List TypedExpr) (o : Option Shape) → wish_stands names.types demand.wish ≡ true → LikeShape o items → Sure (Answering names demand.wish) (sequence_items items o spot demand)
  sequence_at spot demand [] o stands i = empty_sure spot demand is_sequence (made.Sequence []) stands empty_sequence_holds
  sequence_at spot demand (x ∷ items) None stands i = absurd (cc)
  sequence_at spot demand (x ∷ items) (Some s) stands i = stands_sure names spot demand None None (gives.Value (shape.Sequence s)) (made.Sequence (x ∷ items)) (λ none. record { there = sequence_stands names.types s i.0; node_holds = sequence_holds (x ∷ items) s i.1 })

  sequence_sure : (spot : Spot) (demand : Demand) → wish_stands names.types demand.wish ≡ true → (elements : Elements) → Alike elements → Sure (Answering names demand.wish) (sequence_of spot demand elements)
  unfolding sequence_of
  sequence_sure spot demand stands elements i = sequence_at spot demand elements.items elements.shape stands i

  pub sequence_answers : (parts : List Part) (spot : Spot) → AllByRecursion (Answers names) parts → Answers names (sequence_found parts spot)
  sequence_answers parts spot all = record {
    at_demand = λ demand stands.
        sure_then Alike (Answering names demand.wish) (through element_found no_elements parts) (sequence_of spot demand)
        (sure_through (Answers names) Alike element_found (λ c b i p. element_at c.shape c.items b i p) no_elements parts all refl)
        (sequence_sure spot demand stands);
  }
