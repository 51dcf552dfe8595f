-- A method that a type has is the one of its name.
use Rattle.std.proofs.Common.{◌≡◌, ℕ, Bool, true, false, List, [], ◌∷◌, Option, Some, None, refl, ap, ◌∙◌, if◌then◌else◌, codes}
use Rattle.std.specs.List.{AllByRecursion}
use Rattle.name_resolution.specs.Names.{written}
use Rattle.std.specs.Str.{bytes_eq}
use Rattle.std.proofs.lemmas.Slice.Eq.{bytes_eq-Decides}
use Rattle.epl_values.specs.declared.shape.Shape.{Shape, Shape-F, out-Shape}
use Rattle.epl_values.specs.declared.shape.Shape.TheVariants as shape
use Rattle.epl_values.specs.declared.shape.Shape.TheOpen as layer
use Rattle.typed_program.specs.declared.expression.Method.{Method}
use Rattle.typed_program.specs.declared.expression.Method.TheVariants as method
use Rattle.typed_program.specs.Shapes.{is_scalar, holds_link}
use Rattle.expr_rules.specs.declared.methods.MethodCall.{MethodCall}
use Rattle.expr_rules.specs.Methods.{named_before, later_names, later_named, method_named, text_row, place_row, plain_methods, text_methods, sequence_methods, dictionary_methods, event_methods, listener_methods, methods_of, signature_of}

-- a call of this method, without arguments yet, if it is one
abbrev pub Calls : Method → Option MethodCall → Type 0
Calls m None = Unit {0}
Calls m (Some call) = (call.called.method ≡ m) × (call.start.items ≡ [])

plain_calls : (m : Method) → Calls m (plain_methods m)
plain_calls method.ToString = (refl, refl)
plain_calls m = tt

text_calls : (m : Method) → Calls m (text_methods m)
text_calls method.Length = (refl, refl)
text_calls method.Substring = (refl, refl)
text_calls m = tt

linked_calls : (b : Bool) → Calls method.ToString (text_row b)
linked_calls true = tt
linked_calls false = (refl, refl)

place_calls : (item : Shape) (b : Bool) → Calls method.IndexOf (place_row item b)
place_calls item true = (refl, refl)
place_calls item false = tt

sequence_calls : (item : Shape) (m : Method) → Calls m (sequence_methods item m)
sequence_calls item method.Size = (refl, refl)
sequence_calls item method.Append = (refl, refl)
sequence_calls item method.Remove = (refl, refl)
sequence_calls item method.Clear = (refl, refl)
sequence_calls item method.IndexOf = place_calls item (is_scalar item)
sequence_calls item method.Clone = (refl, refl)
sequence_calls item method.ToString = linked_calls (holds_link item)
sequence_calls item m = tt

dictionary_calls : (key value : Shape) (m : Method) → Calls m (dictionary_methods key value m)
dictionary_calls key value method.Size = (refl, refl)
dictionary_calls key value method.Add = (refl, refl)
dictionary_calls key value method.Remove = (refl, refl)
dictionary_calls key value method.Clear = (refl, refl)
dictionary_calls key value method.HasKey = (refl, refl)
dictionary_calls key value method.Keys = (refl, refl)
dictionary_calls key value method.Clone = (refl, refl)
dictionary_calls key value method.ToString = linked_calls (holds_link (shape.Dictionary key value))
dictionary_calls key value m = tt

event_calls : (n : ℕ) (m : Method) → Calls m (event_methods n m)
event_calls n method.Clone = (refl, refl)
event_calls n method.ToString = (refl, refl)
event_calls n m = tt

listener_calls : (m : Method) → Calls m (listener_methods m)
listener_calls method.Quit = (refl, refl)
listener_calls m = tt

layer_calls : (d : Shape-F Shape) (m : Method) → Calls m (methods_of d m)
layer_calls layer.Integer m = plain_calls m
layer_calls layer.Boolean m = plain_calls m
layer_calls layer.Text m = text_calls m
layer_calls (layer.Sequence item) m = sequence_calls item m
layer_calls (layer.Dictionary key value) m = dictionary_calls key value m
layer_calls (layer.Event n) m = event_calls n m
layer_calls layer.Context m = tt
layer_calls layer.Listener m = listener_calls m

pub signature_calls : (s : Shape) (m : Method) → Calls m (signature_of s m)
unfolding signature_of
signature_calls s m = layer_calls (out-Shape s) m

-- ---- names

-- each row has the name of its method
abbrev Named : List (List ℕ × Method) → Type 0
Named rows = AllByRecursion (λ row. row.0 ≡ written row.1) rows

some_is : (m n : Method) → Some m ≡ Some n → m ≡ n
some_is m n h = cc

row_by : (b : Bool) (name : List ℕ) (row : List ℕ × Method) (later : Option Method) (m : Method) → bytes_eq name row.0 ≡ b → row.0 ≡ written row.1 → (later ≡ Some m → name ≡ written m) → (if b then Some row.1 else later) ≡ Some m → name ≡ written m
row_by true name row later m is named behind h = (bytes_eq-Decides name row.0).0 is ∙ named ∙ ap written (some_is row.1 m h)
row_by false name row later m is named behind h = behind h

named_is : (other : Option Method) (name : List ℕ) (rows : List (List ℕ × Method)) (m : Method) → Named rows → (other ≡ Some m → name ≡ written m) → named_before other name rows ≡ Some m → name ≡ written m
named_is other name [] m all behind h = behind h
named_is other name (row ∷ rows) m all behind h = row_by (bytes_eq name row.0) name row (named_before other name rows) m refl all.0 (named_is other name rows m all.1 behind) h

later_is : (name : List ℕ) (m : Method) → later_named name ≡ Some m → name ≡ written m
unfolding later_named
later_is name m h = named_is None name later_names m (refl, (refl, (refl, (refl, (refl, (refl, tt)))))) (λ none. absurd (cc)) h

pub method_is : (name : List ℕ) (m : Method) → method_named name ≡ Some m → name ≡ written m
unfolding method_named
method_is name m h = named_is (later_named name) name ((codes "toString", method.ToString) ∷ (codes "length", method.Length) ∷ (codes "substring", method.Substring) ∷ (codes "size", method.Size) ∷ (codes "indexOf", method.IndexOf) ∷ (codes "hasKey", method.HasKey) ∷ (codes "keys", method.Keys) ∷ []) m (refl, (refl, (refl, (refl, (refl, (refl, (refl, tt))))))) (later_is name m) h
