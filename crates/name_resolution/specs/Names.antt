-- What names stand for. Of two of one name the first counts, though no two that are visible together have one name
-- (`docs/TYPES.md`, "Names").
use Rattle.std.specs.Prelude.{ℕ, min, List, [], ◌∷◌, map, Option, Some, None, position, if◌then◌else◌, codes}
use Rattle.std.specs.Str.{bytes_eq}
use Rattle.epl_values.specs.declared.shape.EventShape.{EventShape}
use Rattle.epl_values.specs.declared.shape.Field.{Field}
use Rattle.epl_values.specs.declared.shape.Shape.{Shape}
use Rattle.typed_program.specs.declared.expression.Method.{Method}
use Rattle.typed_program.specs.declared.expression.Method.TheVariants as method
use Rattle.typed_program.specs.declared.statement.Variable.{Variable}

-- a number as a program holds it, in 16 bits; the limits of accepted programs leave each one as it is
abbrev pub held : ℕ → ℕ
held n = min 65535 n

-- what a visible name stands for: a variable by its number, and its shape, where it is known
pub record Meant : Type 0 where
  pub variable : Variable
  pub shape : Option Shape

pub record Named : Type 0 where
  pub name : List ℕ
  pub meant : Meant

abbrev pub meaning_of : List Named → List ℕ → Option Meant
meaning_of [] name = None
meaning_of (n ∷ names) name = if bytes_eq n.name name then Some n.meant else meaning_of names name

-- the number of the event type of a name, that of a field, and the place of a name in a list
abbrev pub type_named : List EventShape → List ℕ → Option ℕ
type_named types name = position (bytes_eq name) (map (λ t. t.name) types)

abbrev pub field_named : List Field → List ℕ → Option ℕ
field_named fields name = position (λ f. bytes_eq f.name name) fields

abbrev pub place_of : List (List ℕ) → List ℕ → Option ℕ
place_of names name = position (λ n. bytes_eq n name) names

-- how a method is written
abbrev pub written : Method → List ℕ
written method.ToString = codes "toString"
written method.Length = codes "length"
written method.Substring = codes "substring"
written method.Size = codes "size"
written method.IndexOf = codes "indexOf"
written method.HasKey = codes "hasKey"
written method.Keys = codes "keys"
written method.Append = codes "append"
written method.Remove = codes "remove"
written method.Clear = codes "clear"
written method.Add = codes "add"
written method.Clone = codes "clone"
written method.Quit = codes "quit"

-- what surrounds a text: the event types of the program, and the actions that are visible, in order, with the number of the
-- first one
pub record Around : Type 0 where
  pub types : List EventShape
  pub actions : List (List ℕ)
  pub first : ℕ
