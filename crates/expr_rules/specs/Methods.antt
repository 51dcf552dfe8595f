-- The methods of types.
use Rattle.std.specs.Prelude.{ℕ, Bool, true, false, if◌then◌else◌, List, [], ◌∷◌, map, codes, Option, Some, None}
use Rattle.std.specs.Str.{bytes_eq}
use Rattle.epl_values.specs.declared.shape.Shape.{Shape, Shape-F, out-Shape}
use Rattle.epl_values.specs.declared.shape.Shape.TheVariants as shape
use Rattle.epl_values.specs.declared.shape.Shape.TheOpen as layer
use Rattle.typed_program.specs.declared.expression.TypedSuffixNode.TheVariants as suffix
use Rattle.typed_program.specs.declared.expression.Method.{Method}
use Rattle.typed_program.specs.declared.expression.Method.TheVariants as method
use Rattle.typed_program.specs.Shapes.{holds_link, is_scalar}
use Rattle.expr_rules.specs.declared.placed.Gives.{Gives}
use Rattle.expr_rules.specs.declared.placed.Gives.TheVariants as gives
use Rattle.expr_rules.specs.declared.placed.Root.{Root}
use Rattle.expr_rules.specs.declared.asked.Paths.TheVariants as paths
use Rattle.expr_rules.specs.declared.calls.Arguments.{Arguments}
use Rattle.expr_rules.specs.declared.methods.Called.{Called}
use Rattle.expr_rules.specs.declared.methods.MethodCall.{MethodCall}
use Rattle.expr_rules.specs.declared.methods.Reach.{Reach}
use Rattle.expr_rules.specs.Calls.{count_code, no_arguments}
use Rattle.expr_rules.specs.Places.{change_code}
use Rattle.expr_rules.specs.Then.{lower}

-- the method of a name in a table, or else another
abbrev pub named_before : Option Method → List ℕ → List (List ℕ × Method) → Option Method
named_before other name [] = other
named_before other name (row ∷ rows) = if bytes_eq name row.0 then Some row.1 else named_before other name rows

abbrev pub named : List ℕ → List (List ℕ × Method) → Option Method
named name rows = named_before None name rows

abbrev pub later_names : List (List ℕ × Method)
later_names = (codes "append", method.Append) ∷ (codes "remove", method.Remove) ∷ (codes "clear", method.Clear) ∷ (codes "add", method.Add) ∷ (codes "clone", method.Clone) ∷ (codes "quit", method.Quit) ∷ []

-- the names of methods
unfoldable pub later_named : List ℕ → Option Method
later_named name = named name later_names

unfoldable pub method_named : List ℕ → Option Method
method_named name = named_before (later_named name) name ((codes "toString", method.ToString) ∷ (codes "length", method.Length) ∷ (codes "substring", method.Substring) ∷ (codes "size", method.Size) ∷ (codes "indexOf", method.IndexOf) ∷ (codes "hasKey", method.HasKey) ∷ (codes "keys", method.Keys) ∷ [])

-- whether a method changes its object
abbrev pub changes : Method → Bool
changes method.Append = true
changes method.Remove = true
changes method.Clear = true
changes method.Add = true
changes m = false

abbrev pub is_change : Option Method → Bool
is_change (Some m) = changes m
is_change None = false

abbrev pub wants_of_shapes : List Shape → List (Option Shape)
wants_of_shapes shapes = map (λ s. Some s) shapes

abbrev pub row_of : Method → List (Option Shape) → Gives → MethodCall
row_of m wants given = record { called = record { method = m; counted = true; own = None; given = given }; start = no_arguments paths.Refused wants }

abbrev pub row : Method → List Shape → Gives → Option MethodCall
row m shapes given = Some (row_of m (wants_of_shapes shapes) given)

abbrev pub text_row : Bool → Option MethodCall
text_row holds = if holds then None else row method.ToString [] (gives.Value shape.Text)

abbrev pub place_row : Shape → Bool → Option MethodCall
place_row item scalar = if scalar then row method.IndexOf (item ∷ []) (gives.Value shape.Integer) else None

-- of integers and booleans
abbrev pub plain_methods : Method → Option MethodCall
plain_methods method.ToString = row method.ToString [] (gives.Value shape.Text)
plain_methods m = None

abbrev pub text_methods : Method → Option MethodCall
text_methods method.Length = row method.Length [] (gives.Value shape.Integer)
text_methods method.Substring = row method.Substring (shape.Integer ∷ shape.Integer ∷ []) (gives.Value shape.Text)
text_methods m = None

abbrev pub sequence_methods : Shape → Method → Option MethodCall
sequence_methods item method.Size = row method.Size [] (gives.Value shape.Integer)
sequence_methods item method.Append = row method.Append (item ∷ []) gives.Nothing
sequence_methods item method.Remove = row method.Remove (shape.Integer ∷ []) gives.Nothing
sequence_methods item method.Clear = row method.Clear [] gives.Nothing
sequence_methods item method.IndexOf = place_row item (is_scalar item)
sequence_methods item method.Clone = row method.Clone [] (gives.Value (shape.Sequence item))
sequence_methods item method.ToString = text_row (holds_link item)
sequence_methods item m = None

abbrev pub dictionary_methods : Shape → Shape → Method → Option MethodCall
dictionary_methods key value method.Size = row method.Size [] (gives.Value shape.Integer)
dictionary_methods key value method.Add = row method.Add (key ∷ value ∷ []) gives.Nothing
dictionary_methods key value method.Remove = row method.Remove (key ∷ []) gives.Nothing
dictionary_methods key value method.Clear = row method.Clear [] gives.Nothing
dictionary_methods key value method.HasKey = row method.HasKey (key ∷ []) (gives.Value shape.Boolean)
dictionary_methods key value method.Keys = row method.Keys [] (gives.Value (shape.Sequence key))
dictionary_methods key value method.Clone = row method.Clone [] (gives.Value (shape.Dictionary key value))
dictionary_methods key value method.ToString = text_row (holds_link (shape.Dictionary key value))
dictionary_methods key value m = None

abbrev pub event_methods : ℕ → Method → Option MethodCall
event_methods n method.Clone = row method.Clone [] (gives.Value (shape.Event n))
event_methods n method.ToString = row method.ToString [] (gives.Value shape.Text)
event_methods n m = None

abbrev pub listener_methods : Method → Option MethodCall
listener_methods method.Quit = row method.Quit [] gives.Nothing
listener_methods m = None

abbrev pub methods_of : Shape-F Shape → Method → Option MethodCall
methods_of layer.Integer m = plain_methods m
methods_of layer.Boolean m = plain_methods m
methods_of layer.Text m = text_methods m
methods_of (layer.Sequence item) m = sequence_methods item m
methods_of (layer.Dictionary key value) m = dictionary_methods key value m
methods_of (layer.Event n) m = event_methods n m
methods_of layer.Context m = None
methods_of layer.Listener m = listener_methods m

-- a method of a type, with what its arguments are asked for and what it gives
unfoldable pub signature_of : Shape → Method → Option MethodCall
signature_of s m = methods_of (out-Shape s) m

-- a method that isn't known, and its code
abbrev pub unknown_call : Option ℕ → MethodCall
unknown_call own = record { called = record { method = method.ToString; counted = false; own = own; given = gives.Unknown }; start = no_arguments paths.Refused [] }

-- 7 where the type doesn't have the method
abbrev pub called_by : Option MethodCall → MethodCall
called_by (Some call) = call
called_by None = unknown_call (Some 7)

abbrev pub called_on : Shape → Option Method → MethodCall
called_on s (Some m) = called_by (signature_of s m)
called_on s None = unknown_call (Some 7)

-- a method of what stands before it
abbrev pub called_of : Option Shape → Option Method → MethodCall
called_of None m = unknown_call None
called_of (Some s) m = called_on s m

abbrev pub call_code : Called → Option Root → Arguments → Option ℕ
call_code called root arguments = if called.counted then lower (count_code arguments) (change_code (changes called.method) root) else called.own

-- a method with its arguments
abbrev pub method_reach : Called → Option Root → Arguments → Reach
method_reach called root arguments = record { own = call_code called root arguments; given = called.given; node = suffix.Method called.method arguments.items }
