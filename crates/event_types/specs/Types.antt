-- Shapes as plain data, and the event types that they name.
use Rattle.std.specs.Prelude.{◌≡◌, ℕ, zero, suc, ◌<◌, ◌⊎◌, List, [], ◌∷◌, ◌++◌, length, Option, Some, None, slice_get}
use Rattle.std.specs.List.{AllByRecursion, flat_map}
use Rattle.epl_values.specs.declared.shape.Shape.{Shape, Shape-F, fold-Shape}
use Rattle.epl_values.specs.declared.shape.Shape.TheOpen as layer
use Rattle.epl_values.specs.declared.shape.Field.{Field}
use Rattle.epl_values.specs.declared.shape.EventShape.{EventShape}

-- a shape, with the parts of a sequence and a dictionary in it
pub data Form : Type 0 where
  IntegerForm : Form
  BooleanForm : Form
  TextForm : Form
  SequenceForm : Form → Form
  DictionaryForm : Form → Form → Form
  EventForm : ℕ → Form
  ContextForm : Form
  ListenerForm : Form

-- the outermost part of a shape as plain data
abbrev pub form_step : Shape-F Form → Form
form_step layer.Integer = IntegerForm
form_step layer.Boolean = BooleanForm
form_step layer.Text = TextForm
form_step (layer.Sequence element) = SequenceForm element
form_step (layer.Dictionary key value) = DictionaryForm key value
form_step (layer.Event n) = EventForm n
form_step layer.Context = ContextForm
form_step layer.Listener = ListenerForm

-- a shape as plain data
abbrev pub form_of : Shape → Form
form_of = fold-Shape Form form_step

-- the numbers of the event types that stand in a form
abbrev pub types_in : Form → List ℕ
types_in (SequenceForm element) = types_in element
types_in (DictionaryForm key value) = types_in key ++ types_in value
types_in (EventForm n) = n ∷ []
types_in form = []

-- the fields of an event type, none where there is no such type
abbrev pub fields_of : Option EventShape → List Field
fields_of None = []
fields_of (Some event) = event.fields

-- the numbers of the event types that stand in the fields of one
abbrev pub types_held : List EventShape → ℕ → List ℕ
types_held types n = flat_map (λ f. types_in (form_of f.shape)) (fields_of (slice_get types n))

-- the number is one of these
abbrev pub IsAmong : ℕ → List ℕ → Type 0
IsAmong n [] = ⊥
IsAmong n (m ∷ ms) = (n ≡ m) ⊎ IsAmong n ms

-- these numbers are those of event types
abbrev pub AreTypes : List EventShape → List ℕ → Type 0
AreTypes types numbers = AllByRecursion (λ n. n < length types) numbers

-- each event type that a field names is there
abbrev pub HasKnownFields : List EventShape → Type 0
HasKnownFields types = (n : ℕ) → AreTypes types (types_held types n)

-- event type m stands in the fields of event type n, so many types further down
abbrev pub Holds : List EventShape → ℕ → ℕ → ℕ → Type 0
Holds types zero n m = IsAmong m (types_held types n)
Holds types (suc depth) n m = (k : ℕ) × IsAmong k (types_held types n) × Holds types depth k m

-- no event type contains itself at any depth
abbrev pub HasNoCycle : List EventShape → Type 0
HasNoCycle types = (depth n : ℕ) → Holds types depth n n → ⊥

-- no two types have the same name
abbrev pub HasDistinctNames : List EventShape → Type 0
HasDistinctNames types = (i j : ℕ) (a b : EventShape) → slice_get types i ≡ Some a → slice_get types j ≡ Some b → a.name ≡ b.name → i ≡ j
