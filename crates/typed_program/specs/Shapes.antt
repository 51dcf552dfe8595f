-- What is asked about shapes.
use Rattle.std.specs.Prelude.{◌&&◌, ◌||◌, ◌==◌}
use Rattle.typed_program.specs.Common.{ℕ, Bool, true, false, not, nat_lt, List, length, Option, Some, None, Shape, Shape-F, out-Shape, EventShape}
use Rattle.epl_values.specs.declared.shape.Shape.{fold-Shape}
use Rattle.epl_values.specs.declared.shape.Shape.TheOpen as layer

-- whether two shapes are the same
abbrev pub same_layer : Shape-F (Shape → Bool) → Shape-F Shape → Bool
same_layer layer.Integer layer.Integer = true
same_layer layer.Boolean layer.Boolean = true
same_layer layer.Text layer.Text = true
same_layer (layer.Sequence item) (layer.Sequence other) = item other
same_layer (layer.Dictionary key value) (layer.Dictionary other_key other) = key other_key && value other
same_layer (layer.Event n) (layer.Event m) = n == m
same_layer layer.Context layer.Context = true
same_layer layer.Listener layer.Listener = true
same_layer s t = false

abbrev pub same : Shape → Shape → Bool
same = fold-Shape (Shape → Bool) (λ s t. same_layer s (out-Shape t))

-- integers, booleans and texts
abbrev pub is_scalar_layer : Shape-F Shape → Bool
is_scalar_layer layer.Integer = true
is_scalar_layer layer.Boolean = true
is_scalar_layer layer.Text = true
is_scalar_layer s = false

unfoldable pub is_scalar : Shape → Bool
is_scalar s = is_scalar_layer (out-Shape s)

-- sequences, dictionaries and events
abbrev pub is_reference_layer : Shape-F Shape → Bool
is_reference_layer (layer.Sequence item) = true
is_reference_layer (layer.Dictionary key value) = true
is_reference_layer (layer.Event n) = true
is_reference_layer s = false

unfoldable pub is_reference : Shape → Bool
is_reference s = is_reference_layer (out-Shape s)

-- whether a leaf of a shape, at any depth of collections, is met: an event type by its number, contexts and listeners by link
module _ (link : Bool) (event : ℕ → Bool) where
  abbrev pub meets_step : Shape-F Bool → Bool
  meets_step layer.Integer = false
  meets_step layer.Boolean = false
  meets_step layer.Text = false
  meets_step (layer.Sequence item) = item
  meets_step (layer.Dictionary key value) = key || value
  meets_step (layer.Event n) = event n
  meets_step layer.Context = link
  meets_step layer.Listener = link

  abbrev pub meets : Shape → Bool
  meets = fold-Shape Bool meets_step

-- whether a context or a listener is in a shape at any depth of collections
abbrev pub holds_link : Shape → Bool
holds_link = meets true (λ n. false)

abbrev pub is_event_layer : Shape-F Shape → Bool
is_event_layer (layer.Event n) = true
is_event_layer s = false

unfoldable pub is_event : Shape → Bool
is_event s = is_event_layer (out-Shape s)

abbrev pub is_sequence_layer : Shape-F Shape → Bool
is_sequence_layer (layer.Sequence item) = true
is_sequence_layer s = false

unfoldable pub is_sequence : Shape → Bool
is_sequence s = is_sequence_layer (out-Shape s)

abbrev pub is_dictionary_layer : Shape-F Shape → Bool
is_dictionary_layer (layer.Dictionary key value) = true
is_dictionary_layer s = false

unfoldable pub is_dictionary : Shape → Bool
is_dictionary s = is_dictionary_layer (out-Shape s)

-- a text or a context
abbrev pub is_channel_layer : Shape-F Shape → Bool
is_channel_layer layer.Text = true
is_channel_layer layer.Context = true
is_channel_layer s = false

unfoldable pub is_channel : Shape → Bool
is_channel s = is_channel_layer (out-Shape s)

-- whether a shape names event types that are there, and each key in it is scalar
pub record Standing : Type 0 where
  pub scalar : Bool
  pub stands : Bool

abbrev pub plain : Bool → Bool → Standing
plain scalar stands = record { scalar = scalar; stands = stands }

abbrev pub standing_step : List EventShape → Shape-F Standing → Standing
standing_step types layer.Integer = plain true true
standing_step types layer.Boolean = plain true true
standing_step types layer.Text = plain true true
standing_step types (layer.Sequence item) = plain false item.stands
standing_step types (layer.Dictionary key value) = plain false (key.scalar && key.stands && value.stands)
standing_step types (layer.Event n) = plain false (nat_lt n (length types))
standing_step types layer.Context = plain false true
standing_step types layer.Listener = plain false true

abbrev pub stands : List EventShape → Shape → Bool
stands types s = (fold-Shape Standing (standing_step types) s).stands

-- what a sequence holds
abbrev pub item_layer : Shape-F Shape → Option Shape
item_layer (layer.Sequence item) = Some item
item_layer s = None

unfoldable pub item_of : Shape → Option Shape
item_of s = item_layer (out-Shape s)

-- integers and texts
abbrev pub is_ordered_layer : Shape-F Shape → Bool
is_ordered_layer layer.Integer = true
is_ordered_layer layer.Text = true
is_ordered_layer s = false

unfoldable pub is_ordered : Shape → Bool
is_ordered s = is_ordered_layer (out-Shape s)
