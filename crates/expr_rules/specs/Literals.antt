-- Literals: integers, texts, sequences and dictionaries.
use Rattle.std.specs.Prelude.{ℕ, ◌+◌, ◌-◌, ◌*◌, ℤ, pos, neg_ℤ, nat_le, Bool, if◌then◌else◌, List, [], ◌∷◌, ◌++◌, Option, Some, None}
use Rattle.span_text.specs.declared.spot.Spot.{Spot}
use Rattle.epl_values.specs.declared.shape.Shape.{Shape}
use Rattle.epl_values.specs.declared.shape.Shape.TheVariants as shape
use Rattle.typed_program.specs.declared.expression.TypedExpr.{TypedExpr, roll-TypedExpr}
use Rattle.typed_program.specs.declared.expression.TypedEntry.{TypedEntry, roll-TypedEntry}
use Rattle.typed_program.specs.declared.expression.TypedNode.{TypedNode}
use Rattle.typed_program.specs.declared.expression.TypedNode.TheVariants as made
use Rattle.type_table.specs.Found.{Found}
use Rattle.expr_rules.specs.declared.placed.Gives.{Gives}
use Rattle.expr_rules.specs.declared.placed.Gives.TheVariants as gives
use Rattle.expr_rules.specs.declared.placed.Judged.{Judged}
use Rattle.expr_rules.specs.declared.literals.Elements.{Elements}
use Rattle.expr_rules.specs.declared.literals.EntryList.{EntryList}
use Rattle.expr_rules.specs.Asked.{Demand, Wish, Value, Unknown, Exactly, Key, plain}
use Rattle.expr_rules.specs.Operators.{Part}
use Rattle.expr_rules.specs.Places.{placed, stands, shape_of_expr}
use Rattle.typed_program.specs.Shapes.{is_sequence, is_dictionary}
use Rattle.expr_rules.specs.Then.{and_then, sound, through}

-- the number of digits behind others
abbrev pub number_from : ℕ → List ℕ → ℕ
number_from n [] = n
number_from n (digit ∷ digits) = number_from (n * 10 + (digit - 48)) digits

abbrev pub number_of : List ℕ → ℕ
number_of digits = number_from 0 digits

-- the greatest literal, behind a minus and elsewhere
abbrev pub greatest : Bool → ℕ
greatest signed = if signed then 9223372036854775808 else 9223372036854775807

abbrev pub within : ℕ → ℕ → Option ℕ
within limit n = if nat_le n limit then Some n else None

abbrev pub integer_value : Bool → ℕ → ℤ
integer_value signed n = if signed then neg_ℤ (pos n) else pos n

abbrev pub literal : Bool → ℤ → Option Shape → Found Judged
literal signed value s = sound (record { typed = roll-TypedExpr record { shape = s; node = made.Integer value }; root = None; signed = signed })

abbrev pub literal_stands : Spot → Demand → Option ℕ → ℤ → Found Judged
literal_stands spot demand own value = and_then (placed spot demand own None (gives.Value shape.Integer)) (literal demand.signed value)

-- an integer; 11 where it is past the greatest
abbrev pub integer_stands : Spot → Demand → Option ℕ → Found Judged
integer_stands spot demand (Some n) = literal_stands spot demand None (integer_value demand.signed n)
integer_stands spot demand None = literal_stands spot demand (Some 11) (pos 0)

abbrev pub integer_found : Spot → Demand → List ℕ → Found Judged
integer_found spot demand digits = integer_stands spot demand (within (greatest demand.signed) (number_of digits))

-- the type that the place fixes, where it is one of these
abbrev pub fixed : (Shape → Bool) → Wish → Option Shape
fixed is (Exactly s) = if is s then Some s else None
fixed is wish = None

-- 9 where the place fixes none, 3 for a key; where the type that it fixes isn't known, that is told elsewhere
abbrev pub empty_code : Wish → Option ℕ
empty_code (Key wanted) = Some 3
empty_code Unknown = None
empty_code wish = Some 9

-- a literal without elements or entries
abbrev pub empty_stands : Option Shape → TypedNode → Spot → Demand → Found Judged
empty_stands (Some s) n spot demand = stands spot demand None None (gives.Value s) n
empty_stands None n spot demand = stands spot demand (empty_code demand.wish) None gives.Unknown n

abbrev pub empty_sequence : Spot → Demand → Found Judged
empty_sequence spot demand = empty_stands (fixed is_sequence demand.wish) (made.Sequence []) spot demand

abbrev pub empty_dictionary : Spot → Demand → Found Judged
empty_dictionary spot demand = empty_stands (fixed is_dictionary demand.wish) (made.Dictionary []) spot demand

unfoldable pub new_stands : Spot → Demand → Shape → Found Judged
new_stands spot demand s = stands spot demand None None (gives.Value s) made.Default

abbrev pub text_stands : Spot → Demand → List ℕ → Found Judged
text_stands spot demand text = stands spot demand None None (gives.Value shape.Text) (made.Text text)

abbrev pub boolean_stands : Spot → Demand → Bool → Found Judged
boolean_stands spot demand b = stands spot demand None None (gives.Value shape.Boolean) (made.Boolean b)

abbrev pub current_stands : Spot → Demand → Found Judged
current_stands spot demand = stands spot demand None None (gives.Value shape.Context) made.ContextCurrent

-- a shape, and where it isn't known another
abbrev pub known_first : Option Shape → Option Shape → Option Shape
known_first (Some s) other = Some s
known_first None other = other

-- what is asked behind items of this shape: the first is any value, the others are like it
abbrev pub like_those : {A : Type 0} → List A → Option Shape → Wish
like_those items (Some s) = Exactly s
like_those [] None = Value
like_those (item ∷ items) None = Unknown

abbrev pub element_wish : Elements → Wish
element_wish elements = like_those elements.items elements.shape

abbrev pub value_wish : EntryList → Wish
value_wish entries = like_those entries.entries entries.value

-- elements: the first is any value, the others are like it
abbrev pub element_of : Elements → Judged → Found Elements
element_of elements j = sound (record { shape = known_first elements.shape (shape_of_expr j.typed); items = elements.items ++ j.typed ∷ [] })

abbrev pub element_found : Elements → Part → Found Elements
element_found elements part = and_then (part (plain (element_wish elements))) (element_of elements)

abbrev pub no_elements : Elements
no_elements = record { shape = None; items = [] }

abbrev pub sequence_given : Option Shape → Gives
sequence_given (Some s) = gives.Value (shape.Sequence s)
sequence_given None = gives.Unknown

abbrev pub full_sequence : List TypedExpr → Option Shape → Spot → Demand → Found Judged
full_sequence items s spot demand = stands spot demand None None (sequence_given s) (made.Sequence items)

-- a literal of a sequence; one without elements has the type that its place fixes
abbrev pub sequence_items : List TypedExpr → Option Shape → Spot → Demand → Found Judged
sequence_items [] s spot demand = empty_sequence spot demand
sequence_items (item ∷ items) s spot demand = full_sequence (item ∷ items) s spot demand

unfoldable pub sequence_of : Spot → Demand → Elements → Found Judged
sequence_of spot demand elements = sequence_items elements.items elements.shape spot demand

abbrev pub sequence_found : List Part → Spot → Demand → Found Judged
sequence_found parts spot demand = and_then (through element_found no_elements parts) (sequence_of spot demand)

-- entries: the first key is any scalar and its value any value, the others are like them
pub record Pair : Type 0 where
  pub key : Part
  pub value : Part

unfoldable pub entry_of : EntryList → Judged → Judged → Found EntryList
entry_of entries key value = sound (record { key = known_first entries.key (shape_of_expr key.typed); value = known_first entries.value (shape_of_expr value.typed); entries = entries.entries ++ roll-TypedEntry record { key = key.typed; value = value.typed } ∷ [] })

abbrev pub key_wish : Option Shape → Wish
key_wish s = Key s

unfoldable pub value_found : EntryList → Part → Judged → Found EntryList
value_found entries value key = and_then (value (plain (value_wish entries))) (entry_of entries key)

abbrev pub entry_found : EntryList → Pair → Found EntryList
entry_found entries pair = and_then (pair.key (plain (key_wish entries.key))) (value_found entries pair.value)

abbrev pub no_entries : EntryList
no_entries = record { key = None; value = None; entries = [] }

abbrev pub dictionary_given : Option Shape → Option Shape → Gives
dictionary_given (Some key) (Some value) = gives.Value (shape.Dictionary key value)
dictionary_given key value = gives.Unknown

abbrev pub full_dictionary : List TypedEntry → Gives → Spot → Demand → Found Judged
full_dictionary entries given spot demand = stands spot demand None None given (made.Dictionary entries)

-- a literal of a dictionary; one without entries has the type that its place fixes
abbrev pub dictionary_items : List TypedEntry → Gives → Spot → Demand → Found Judged
dictionary_items [] given spot demand = empty_dictionary spot demand
dictionary_items (entry ∷ entries) given spot demand = full_dictionary (entry ∷ entries) given spot demand

unfoldable pub dictionary_of : Spot → Demand → EntryList → Found Judged
dictionary_of spot demand entries = dictionary_items entries.entries (dictionary_given entries.key entries.value) spot demand

abbrev pub dictionary_found : List Pair → Spot → Demand → Found Judged
dictionary_found pairs spot demand = and_then (through entry_found no_entries pairs) (dictionary_of spot demand)
