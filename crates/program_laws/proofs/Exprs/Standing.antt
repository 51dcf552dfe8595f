-- Where a shape stands, its parts stand.
use Rattle.std.proofs.Common.{◌≡◌, ◌&&◌}
use Rattle.program_laws.proofs.Common.{ℕ, true, List, length, refl, sym, ap, ◌∙◌, nat_lt, and_parts, and_from, EventShape, Shape, Shape-F, map-Shape, out-Shape, roll-Shape, roll-out-Shape, Standing, standing_step, stands, is_scalar_layer}
use Rattle.epl_values.specs.declared.shape.Shape.{fold-Shape, fold_out-Shape}
use Rattle.epl_values.specs.declared.shape.Shape.TheVariants as shape
use Rattle.epl_values.specs.declared.shape.Shape.TheOpen as layer
use Rattle.typed_program.specs.Shapes.{is_scalar}

-- a shape by its layer
pub layer_shape : (s : Shape) (d : Shape-F Shape) → out-Shape s ≡ d → s ≡ roll-Shape d
layer_shape s d is = sym (roll-out-Shape s) ∙ ap roll-Shape is

module _ (types : List EventShape) where
  abbrev standing : Shape → Standing
  standing = fold-Shape Standing (standing_step types)

  layered : Shape-F Shape → Standing
  layered d = standing_step types (map-Shape Shape Standing standing d)

  standing_out : (s : Shape) (d : Shape-F Shape) → out-Shape s ≡ d → standing s ≡ layered d
  unfolding layered
  standing_out s d is = fold_out-Shape Standing (standing_step types) s ∙ ap layered is

  layer_scalar : (d : Shape-F Shape) → (layered d).scalar ≡ is_scalar_layer d
  unfolding layered
  layer_scalar layer.Integer = refl
  layer_scalar layer.Boolean = refl
  layer_scalar layer.Text = refl
  layer_scalar (layer.Sequence item) = refl
  layer_scalar (layer.Dictionary key value) = refl
  layer_scalar (layer.Event n) = refl
  layer_scalar layer.Context = refl
  layer_scalar layer.Listener = refl

  scalar_is : (s : Shape) → (standing s).scalar ≡ is_scalar s
  unfolding is_scalar
  scalar_is s = ap (λ (w : Standing). w.scalar) (standing_out s (out-Shape s) refl) ∙ layer_scalar (out-Shape s)

  stands_out : (s : Shape) (d : Shape-F Shape) → out-Shape s ≡ d → stands types s ≡ (layered d).stands
  stands_out s d is = ap (λ (w : Standing). w.stands) (standing_out s d is)

  pub integer_stands : stands types shape.Integer ≡ true
  unfolding layered
  integer_stands = stands_out shape.Integer layer.Integer shape.outs-Integer

  pub boolean_stands : stands types shape.Boolean ≡ true
  unfolding layered
  boolean_stands = stands_out shape.Boolean layer.Boolean shape.outs-Boolean

  pub text_stands : stands types shape.Text ≡ true
  unfolding layered
  text_stands = stands_out shape.Text layer.Text shape.outs-Text

  pub context_stands : stands types shape.Context ≡ true
  unfolding layered
  context_stands = stands_out shape.Context layer.Context shape.outs-Context

  pub listener_stands : stands types shape.Listener ≡ true
  unfolding layered
  listener_stands = stands_out shape.Listener layer.Listener shape.outs-Listener

  pub event_stands : (n : ℕ) → nat_lt n (length types) ≡ true → stands types (shape.Event n) ≡ true
  unfolding layered
  event_stands n lt = stands_out (shape.Event n) (layer.Event n) (shape.outs-Event n) ∙ lt

  pub sequence_stands : (item : Shape) → stands types item ≡ true → stands types (shape.Sequence item) ≡ true
  unfolding layered
  sequence_stands item h = stands_out (shape.Sequence item) (layer.Sequence item) (shape.outs-Sequence item) ∙ h

  dictionary_out : (s key value : Shape) → out-Shape s ≡ layer.Dictionary key value → stands types s ≡ ((standing key).scalar && stands types key && stands types value)
  unfolding layered
  dictionary_out s key value is = stands_out s (layer.Dictionary key value) is

  pub dictionary_stands : (key value : Shape) → is_scalar key ≡ true → stands types key ≡ true → stands types value ≡ true → stands types (shape.Dictionary key value) ≡ true
  dictionary_stands key value scalar k v = dictionary_out (shape.Dictionary key value) key value (shape.outs-Dictionary key value) ∙ and_from _ _ (and_from _ _ (scalar_is key ∙ scalar) k) v

  -- what is known of the parts of a shape that stands
  pub record KeyStands (key value : Shape) : Type 0 where
    pub scalar : is_scalar key ≡ true
    pub key_stands : stands types key ≡ true
    pub value_stands : stands types value ≡ true

  pub item_stands : (s item : Shape) → out-Shape s ≡ layer.Sequence item → stands types s ≡ true → stands types item ≡ true
  unfolding layered
  item_stands s item is h = sym (stands_out s (layer.Sequence item) is) ∙ h

  pub entry_stands : (s key value : Shape) → out-Shape s ≡ layer.Dictionary key value → stands types s ≡ true → KeyStands key value
  entry_stands s key value is h =
      let whole = and_parts ((standing key).scalar && stands types key) (stands types value) (sym (dictionary_out s key value is) ∙ h) in
      let front = and_parts ((standing key).scalar) (stands types key) whole.0 in
      record { scalar = sym (scalar_is key) ∙ front.0; key_stands = front.1; value_stands = whole.1 }
