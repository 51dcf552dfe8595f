-- The methods of each type: what they take, and what they give.
use Rattle.std.specs.Prelude.{if◌then◌else◌, ◌∷◌}
use Rattle.typed_program.specs.Common.{ℕ, Bool, true, false, not, List, [], Option, Some, None, Shape, Shape-F, out-Shape}
use Rattle.epl_values.specs.declared.shape.Shape.TheVariants as shape
use Rattle.epl_values.specs.declared.shape.Shape.TheOpen as layer
use Rattle.typed_program.specs.declared.expression.Method.{Method}
use Rattle.typed_program.specs.declared.expression.Method.TheVariants as method
use Rattle.typed_program.specs.Shapes.{is_scalar, holds_link}

-- the shapes of its arguments, and of its value; none where it changes its object
pub record Signature : Type 0 where
  pub takes : List Shape
  pub gives : Option Shape

abbrev pub gives : List Shape → Shape → Option Signature
gives takes s = Some (record { takes = takes; gives = Some s })

abbrev pub changes : List Shape → Option Signature
changes takes = Some (record { takes = takes; gives = None })

abbrev pub where_it : Bool → Option Signature → Option Signature
where_it holds signature = if holds then signature else None

abbrev pub of_number : Method → Option Signature
of_number method.ToString = gives [] shape.Text
of_number m = None

abbrev pub of_text : Method → Option Signature
of_text method.Length = gives [] shape.Integer
of_text method.Substring = gives (shape.Integer ∷ shape.Integer ∷ []) shape.Text
of_text m = None

abbrev pub of_sequence : Shape → Method → Option Signature
of_sequence item method.Size = gives [] shape.Integer
of_sequence item method.Append = changes (item ∷ [])
of_sequence item method.Remove = changes (shape.Integer ∷ [])
of_sequence item method.Clear = changes []
of_sequence item method.IndexOf = where_it (is_scalar item) (gives (item ∷ []) shape.Integer)
of_sequence item method.Clone = gives [] (shape.Sequence item)
of_sequence item method.ToString = where_it (not (holds_link item)) (gives [] shape.Text)
of_sequence item m = None

abbrev pub of_dictionary : Shape → Shape → Method → Option Signature
of_dictionary key value method.Size = gives [] shape.Integer
of_dictionary key value method.Add = changes (key ∷ value ∷ [])
of_dictionary key value method.Remove = changes (key ∷ [])
of_dictionary key value method.Clear = changes []
of_dictionary key value method.HasKey = gives (key ∷ []) shape.Boolean
of_dictionary key value method.Keys = gives [] (shape.Sequence key)
of_dictionary key value method.Clone = gives [] (shape.Dictionary key value)
of_dictionary key value method.ToString = where_it (not (holds_link (shape.Dictionary key value))) (gives [] shape.Text)
of_dictionary key value m = None

abbrev pub of_event : ℕ → Method → Option Signature
of_event n method.Clone = gives [] (shape.Event n)
of_event n method.ToString = gives [] shape.Text
of_event n m = None

abbrev pub of_listener : Method → Option Signature
of_listener method.Quit = changes []
of_listener m = None

abbrev pub of_layer : Shape-F Shape → Method → Option Signature
of_layer layer.Integer m = of_number m
of_layer layer.Boolean m = of_number m
of_layer layer.Text m = of_text m
of_layer (layer.Sequence item) m = of_sequence item m
of_layer (layer.Dictionary key value) m = of_dictionary key value m
of_layer (layer.Event n) m = of_event n m
of_layer layer.Context m = None
of_layer layer.Listener m = of_listener m

-- the method of a type, if it has it
unfoldable pub signature : Shape → Method → Option Signature
signature s m = of_layer (out-Shape s) m
