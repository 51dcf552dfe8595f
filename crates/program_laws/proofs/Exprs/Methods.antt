-- The methods of a type, as they are asked, are those that the type has, and their shapes stand.
use Rattle.std.proofs.Common.{◌≡◌, ◌&&◌, ◌∷◌}
use Rattle.program_laws.proofs.Common.{ℕ, Bool, true, false, not, List, [], Option, Some, None, refl, subst, ◌∙◌, list_all, and_from, EventShape, Shape, Shape-F, out-Shape, Method, stands, holds_link, may_stand, Signature, MethodCall, wants_of_shapes, row_of, gives_result}
use Rattle.epl_values.specs.declared.shape.Shape.TheVariants as shape
use Rattle.epl_values.specs.declared.shape.Shape.TheOpen as layer
use Rattle.typed_program.specs.declared.expression.Method.TheVariants as method
use Rattle.typed_program.specs.Shapes.{is_scalar}
use Rattle.typed_program.specs.Methods.{gives, where_it, of_number, of_text, of_sequence, of_dictionary, of_event, of_listener, of_layer, signature}
use Rattle.expr_rules.specs.Methods.{text_row, place_row, plain_methods, text_methods, sequence_methods, dictionary_methods, event_methods, listener_methods, methods_of, signature_of}
use Rattle.program_laws.proofs.Exprs.Standing.{integer_stands, boolean_stands, text_stands, sequence_stands, dictionary_stands, item_stands, entry_stands, KeyStands, layer_shape}

-- how a method that the type has is asked
abbrev pub row_from : Method → Option Signature → Option MethodCall
row_from m None = None
row_from m (Some row) = Some (row_of m (wants_of_shapes row.takes) (gives_result row.gives))

number_same : (m : Method) → plain_methods m ≡ row_from m (of_number m)
number_same method.ToString = refl
number_same m = refl

text_same : (m : Method) → text_methods m ≡ row_from m (of_text m)
text_same method.Length = refl
text_same method.Substring = refl
text_same m = refl

linked_same : (b : Bool) → text_row b ≡ row_from method.ToString (where_it (not b) (gives [] shape.Text))
linked_same true = refl
linked_same false = refl

place_same : (item : Shape) (b : Bool) → place_row item b ≡ row_from method.IndexOf (where_it b (gives (item ∷ []) shape.Integer))
place_same item true = refl
place_same item false = refl

sequence_same : (item : Shape) (m : Method) → sequence_methods item m ≡ row_from m (of_sequence item m)
sequence_same item method.Size = refl
sequence_same item method.Append = refl
sequence_same item method.Remove = refl
sequence_same item method.Clear = refl
sequence_same item method.IndexOf = place_same item (is_scalar item)
sequence_same item method.Clone = refl
sequence_same item method.ToString = linked_same (holds_link item)
sequence_same item m = refl

dictionary_same : (key value : Shape) (m : Method) → dictionary_methods key value m ≡ row_from m (of_dictionary key value m)
dictionary_same key value method.Size = refl
dictionary_same key value method.Add = refl
dictionary_same key value method.Remove = refl
dictionary_same key value method.Clear = refl
dictionary_same key value method.HasKey = refl
dictionary_same key value method.Keys = refl
dictionary_same key value method.Clone = refl
dictionary_same key value method.ToString = linked_same (holds_link (shape.Dictionary key value))
dictionary_same key value m = refl

event_same : (n : ℕ) (m : Method) → event_methods n m ≡ row_from m (of_event n m)
event_same n method.Clone = refl
event_same n method.ToString = refl
event_same n m = refl

listener_same : (m : Method) → listener_methods m ≡ row_from m (of_listener m)
listener_same method.Quit = refl
listener_same m = refl

layer_same : (d : Shape-F Shape) (m : Method) → methods_of d m ≡ row_from m (of_layer d m)
layer_same layer.Integer m = number_same m
layer_same layer.Boolean m = number_same m
layer_same layer.Text m = text_same m
layer_same (layer.Sequence item) m = sequence_same item m
layer_same (layer.Dictionary key value) m = dictionary_same key value m
layer_same (layer.Event n) m = event_same n m
layer_same layer.Context m = refl
layer_same layer.Listener m = listener_same m

pub signature_same : (s : Shape) (m : Method) → signature_of s m ≡ row_from m (signature s m)
unfolding signature_of signature
signature_same s m = layer_same (out-Shape s) m

module _ (types : List EventShape) where
  -- what a method takes and gives stands
  pub record RowStands (row : Signature) : Type 0 where
    pub takes_stand : list_all (stands types) row.takes ≡ true
    pub gives_stand : may_stand types row.gives ≡ true

  abbrev IfThere : Option Signature → Type 0
  IfThere None = Unit {0}
  IfThere (Some row) = RowStands row

  one : (s : Shape) → stands types s ≡ true → list_all (stands types) (s ∷ []) ≡ true
  one s h = and_from (stands types s) true h refl

  two : (s t : Shape) → stands types s ≡ true → stands types t ≡ true → list_all (stands types) (s ∷ t ∷ []) ≡ true
  two s t h k = and_from (stands types s) (stands types t && true) h (one t k)

  where_there : (b : Bool) (o : Option Signature) → IfThere o → IfThere (where_it b o)
  where_there true o h = h
  where_there false o h = tt

  number_there : (m : Method) → IfThere (of_number m)
  number_there method.ToString = record { takes_stand = refl; gives_stand = text_stands types }
  number_there m = tt

  text_there : (m : Method) → IfThere (of_text m)
  text_there method.Length = record { takes_stand = refl; gives_stand = integer_stands types }
  text_there method.Substring = record { takes_stand = two shape.Integer shape.Integer (integer_stands types) (integer_stands types); gives_stand = text_stands types }
  text_there m = tt

  sequence_there : (item : Shape) (m : Method) → stands types item ≡ true → IfThere (of_sequence item m)
  sequence_there item method.Size h = record { takes_stand = refl; gives_stand = integer_stands types }
  sequence_there item method.Append h = record { takes_stand = one item h; gives_stand = refl }
  sequence_there item method.Remove h = record { takes_stand = one shape.Integer (integer_stands types); gives_stand = refl }
  sequence_there item method.Clear h = record { takes_stand = refl; gives_stand = refl }
  sequence_there item method.IndexOf h = where_there (is_scalar item) (gives (item ∷ []) shape.Integer) (record { takes_stand = one item h; gives_stand = integer_stands types })
  sequence_there item method.Clone h = record { takes_stand = refl; gives_stand = sequence_stands types item h }
  sequence_there item method.ToString h = where_there (not (holds_link item)) (gives [] shape.Text) (record { takes_stand = refl; gives_stand = text_stands types })
  sequence_there item m h = tt

  dictionary_there : (key value : Shape) (m : Method) → KeyStands types key value → IfThere (of_dictionary key value m)
  dictionary_there key value method.Size k = record { takes_stand = refl; gives_stand = integer_stands types }
  dictionary_there key value method.Add k = record { takes_stand = two key value k.key_stands k.value_stands; gives_stand = refl }
  dictionary_there key value method.Remove k = record { takes_stand = one key k.key_stands; gives_stand = refl }
  dictionary_there key value method.Clear k = record { takes_stand = refl; gives_stand = refl }
  dictionary_there key value method.HasKey k = record { takes_stand = one key k.key_stands; gives_stand = boolean_stands types }
  dictionary_there key value method.Keys k = record { takes_stand = refl; gives_stand = sequence_stands types key k.key_stands }
  dictionary_there key value method.Clone k = record { takes_stand = refl; gives_stand = dictionary_stands types key value k.scalar k.key_stands k.value_stands }
  dictionary_there key value method.ToString k = where_there (not (holds_link (shape.Dictionary key value))) (gives [] shape.Text) (record { takes_stand = refl; gives_stand = text_stands types })
  dictionary_there key value m k = tt

  event_there : (n : ℕ) (m : Method) → stands types (shape.Event n) ≡ true → IfThere (of_event n m)
  event_there n method.Clone h = record { takes_stand = refl; gives_stand = h }
  event_there n method.ToString h = record { takes_stand = refl; gives_stand = text_stands types }
  event_there n m h = tt

  listener_there : (m : Method) → IfThere (of_listener m)
  listener_there method.Quit = record { takes_stand = refl; gives_stand = refl }
  listener_there m = tt

  event_itself : (s : Shape) (n : ℕ) → out-Shape s ≡ layer.Event n → stands types s ≡ true → stands types (shape.Event n) ≡ true
  event_itself s n is h = subst (λ (t : Shape). stands types t ≡ true) (layer_shape s (layer.Event n) is ∙ shape.rolls-Event n) h

  layer_there : (s : Shape) (d : Shape-F Shape) (m : Method) → out-Shape s ≡ d → stands types s ≡ true → IfThere (of_layer d m)
  layer_there s layer.Integer m is h = number_there m
  layer_there s layer.Boolean m is h = number_there m
  layer_there s layer.Text m is h = text_there m
  layer_there s (layer.Sequence item) m is h = sequence_there item m (item_stands types s item is h)
  layer_there s (layer.Dictionary key value) m is h = dictionary_there key value m (entry_stands types s key value is h)
  layer_there s (layer.Event n) m is h = event_there n m (event_itself s n is h)
  layer_there s layer.Context m is h = tt
  layer_there s layer.Listener m is h = listener_there m

  pub signature_stands : (s : Shape) (m : Method) (row : Signature) → stands types s ≡ true → signature s m ≡ Some row → RowStands row
  unfolding signature
  signature_stands s m row h is = subst IfThere is (layer_there s (out-Shape s) m refl h)
