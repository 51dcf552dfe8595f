-- A type as it is written, without a fault, is a shape that names what is there.
use Rattle.std.proofs.Common.{◌≡◌, ◌<◌, ◌++◌, ◌&&◌}
use Rattle.program_laws.proofs.Common.{ℕ, min, length, map, List, [], Some, None, true, Option, refl, ap, sym, subst, ◌∙◌, arith, nat_lt, bytes_eq, nat_tests, position-Some, length-map, Spot, Shape, Shape-F, out-Shape, EventShape, fold-roll-Shape, TypeExpr, TypeNode, TypeNode-F, roll-TypeNode, roll-TypeExpr, fold-TypeNode, fold-roll-TypeNode, fold-roll-TypeExpr, ind-TypeExpr, map-TypeNode, stands, Standing, standing_step, is_scalar_layer, Table, Found, told, number_in, event_of, Written, node_found, written_step, written_of, type_by, type_found}
use Rattle.epl_values.specs.declared.shape.Shape.TheVariants as shape
use Rattle.epl_values.specs.declared.shape.Shape.TheOpen as layer
use Rattle.epl_values.specs.declared.shape.Shape.TheFolds.{fold-Shape, fold_out-Shape, map-Shape}
use Rattle.epl_tree.specs.declared.types.TypeNode.TheOpen as node
use Rattle.typed_program.specs.Shapes.{is_scalar}
use Rattle.type_table.specs.Types.{event_shape, key_codes}
use Rattle.program_laws.proofs.Exprs.Standing.{integer_stands, boolean_stands, text_stands, context_stands, listener_stands}
use Rattle.program_laws.proofs.Shapes.Lists.{both_true, no_both, no_told, no_unless}

module _ (types : List EventShape) where
  pub stands_event : (n : ℕ) → stands types (shape.Event n) ≡ nat_lt n (length types)
  stands_event n = ap (stands types) (sym (shape.rolls-Event n)) ∙ ap (λ (s : Standing). s.stands) (fold-roll-Shape Standing (standing_step types) (layer.Event n))

  pub stands_sequence : (s : Shape) → stands types (shape.Sequence s) ≡ stands types s
  stands_sequence s = ap (stands types) (sym (shape.rolls-Sequence s)) ∙ ap (λ (s : Standing). s.stands) (fold-roll-Shape Standing (standing_step types) (layer.Sequence s))

  stands_dictionary : (key value : Shape) → stands types (shape.Dictionary key value) ≡ ((fold-Shape Standing (standing_step types) key).scalar && stands types key && stands types value)
  stands_dictionary key value = ap (stands types) (sym (shape.rolls-Dictionary key value)) ∙ ap (λ (s : Standing). s.stands) (fold-roll-Shape Standing (standing_step types) (layer.Dictionary key value))

  scalar_layer : (d : Shape-F Shape) → is_scalar_layer d ≡ true → (standing_step types (map-Shape Shape Standing (fold-Shape Standing (standing_step types)) d)).scalar ≡ true
  scalar_layer layer.Integer h = refl
  scalar_layer layer.Boolean h = refl
  scalar_layer layer.Text h = refl
  scalar_layer (layer.Sequence item) h = cc
  scalar_layer (layer.Dictionary key value) h = cc
  scalar_layer (layer.Event n) h = cc
  scalar_layer layer.Context h = cc
  scalar_layer layer.Listener h = cc

  scalar_is : (s : Shape) → is_scalar s ≡ true → (fold-Shape Standing (standing_step types) s).scalar ≡ true
  unfolding is_scalar
  scalar_is s h = ap (λ (d : Standing). d.scalar) (fold_out-Shape Standing (standing_step types) s) ∙ scalar_layer (out-Shape s) h

  no_key : (s : Shape) → key_codes s ≡ [] → is_scalar s ≡ true
  no_key s h = no_unless (is_scalar s) 3 h

  module _ (number_of : List ℕ → Option ℕ) (below : (name : List ℕ) (n : ℕ) → number_of name ≡ Some n → n < length types) where
    -- without a fault, a shape that stands
    abbrev Fine : Found Shape → Type 0
    Fine w = w.faults ≡ [] → stands types w.part ≡ true

    abbrev node_at : TypeNode → Spot → Found Shape
    node_at = fold-TypeNode (Spot → Found Shape) Written (node_found number_of) (written_step number_of)

    abbrev NodeFine : TypeNode → Type 0
    NodeFine n = (spot : Spot) → Fine (node_at n spot)

    abbrev TypeFine : TypeExpr → Type 0
    TypeFine t = Fine (written_of number_of t).found

    event_fine : (spot : Spot) (name : List ℕ) (o : Option ℕ) → number_of name ≡ o → Fine (event_shape spot o)
    event_fine spot name (Some n) is none = stands_event (min 65535 n) ∙ (let lt = below name n is in grind (arith, nat_tests))
    event_fine spot name None is none = cc

    node_fine : (y : TypeNode-F ((n : TypeNode) × NodeFine n) ((t : TypeExpr) × TypeFine t)) (spot : Spot) → Fine (node_found number_of (map-TypeNode TypeNode TypeExpr (Spot → Found Shape) Written node_at (written_of number_of) (map-TypeNode ((n : TypeNode) × NodeFine n) ((t : TypeExpr) × TypeFine t) TypeNode TypeExpr (λ e. e.0) (λ e. e.0) y)) spot)
    node_fine node.Integer spot none = integer_stands types
    node_fine node.Boolean spot none = boolean_stands types
    node_fine node.Text spot none = text_stands types
    node_fine node.Context spot none = context_stands types
    node_fine node.Listener spot none = listener_stands types
    node_fine (node.Named name) spot none = event_fine spot name (number_of name) refl none
    node_fine (node.Sequence item) spot none = stands_sequence _ ∙ item.1 none
    node_fine (node.Dictionary key value) spot none =
        let k = (written_of number_of key.0) in
        let v = (written_of number_of value.0) in
        let a = no_both (k.found.faults ++ v.found.faults) (told k.spot (key_codes k.found.part)) none in
        let b = no_both k.found.faults v.found.faults a.0 in
        let scalar = scalar_is k.found.part (no_key k.found.part (no_told k.spot (key_codes k.found.part) a.1)) in
        stands_dictionary k.found.part v.found.part ∙ both_true (both_true scalar (key.1 b.0)) (value.1 b.1)

    type_fine : (t : TypeExpr) → TypeFine t
    type_fine = ind-TypeExpr NodeFine TypeFine
        (λ x y is. subst (λ d. NodeFine (roll-TypeNode d)) is (λ spot. subst Fine (sym (ap (λ (g : Spot → Found Shape). g spot) (fold-roll-TypeNode (Spot → Found Shape) Written (node_found number_of) (written_step number_of) _))) (node_fine y spot)))
        (λ x y is. subst (λ d. TypeFine (roll-TypeExpr d)) is (subst (λ (w : Written). Fine w.found) (sym (fold-roll-TypeExpr (Spot → Found Shape) Written (node_found number_of) (written_step number_of) _)) (y.node.1 y.spot)))

    pub type_by_stands : (t : TypeExpr) → (type_by number_of t).faults ≡ [] → stands types (type_by number_of t).part ≡ true
    type_by_stands t none = type_fine t none

number_below : (names : List (List ℕ)) (name : List ℕ) (n : ℕ) → number_in names name ≡ Some n → n < length names
number_below names name n is = (position-Some (bytes_eq name) names n [] is).0

pub type_stands : (table : Table) (types : List EventShape) → table.types ≡ types → (t : TypeExpr) → (type_found table t).faults ≡ [] → stands types (type_found table t).part ≡ true
type_stands table types is t none = type_by_stands types (event_of table) (λ name n found. subst (λ (l : List EventShape). n < length l) is (let k = number_below (map (λ (e : EventShape). e.name) table.types) name n found in let e = length-map table.types (λ (t : EventShape). t.name) in omega (arith, k, e))) t none
