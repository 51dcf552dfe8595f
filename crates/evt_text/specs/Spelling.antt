-- How values are spelled in an event file.
use Rattle.evt_text.specs.Common.{ℕ, ℤ, pos, neg_ℤ, zero, suc, List, [], length, Bool, true, false, IsTrue, Option, Some, None, Result, Ok, Err, AllByRecursion, Field, EventShape, Value, Pair, Form, IntegerForm, BooleanForm, TextForm, SequenceForm, DictionaryForm, EventForm}
use Rattle.std.specs.Prelude.{◌≡◌, ◌≤◌, ◌∷◌, ◌++◌, ◌==◌, ◌||◌, if◌then◌else◌, ◌<◌, ◌^◌, ◌⊎◌, not, slice_get, slice_range}
use Rattle.std.specs.Str.Parse.{IsNumeral, digits_value}
use Rattle.epl_values.specs.declared.shape.Shape.{Shape}
use Rattle.epl_values.specs.declared.value.Value.TheVariants as value
use Rattle.epl_values.specs.declared.value.Pair.{out-Pair}
use Rattle.event_types.specs.Types.{form_of}
use Rattle.value_rules.specs.Texts.{truth_text}
use Rattle.evt_text.specs.Entries.{entered}
use Rattle.evt_text.specs.declared.fault.TextFault.{TextFault}
use Rattle.evt_text.specs.declared.fault.TextFault.TheVariants as fault

-- a space or a tab
abbrev pub is_blank : ℕ → Bool
is_blank b = b == 32 || b == 9

-- spaces and tabs alone, or nothing
abbrev pub AreBlanks : List ℕ → Type 0
AreBlanks text = AllByRecursion (λ b. IsTrue (is_blank b)) text

-- decimal digits, maybe behind a minus, of a number of 64 bits
abbrev pub SpellsInteger : ℤ → List ℕ → Type 0
SpellsInteger number text = (IsNumeral 10 text × (digits_value 10 text < 2 ^ 63) × (number ≡ pos (digits_value 10 text)))
    ⊎ ((digits : List ℕ) × (text ≡ 45 ∷ digits) × IsNumeral 10 digits × (digits_value 10 digits ≤ 2 ^ 63) × (number ≡ neg_ℤ (pos (digits_value 10 digits))))

-- what a character behind a backslash stands for: a quote, a backslash, a newline, a carriage return or a tab
abbrev pub escaped : ℕ → Option ℕ
escaped b = if b == 34 then Some 34 else (if b == 92 then Some 92 else (if b == 110 then Some 10 else (if b == 114 then Some 13 else (if b == 116 then Some 9 else None))))

-- no quote, no backslash and no newline
abbrev pub is_plain : ℕ → Bool
is_plain b = not (b == 34 || b == 92 || b == 10)

-- a byte of a string is spelled as itself, or by an escape
abbrev pub SpellsByte : ℕ → List ℕ → Type 0
SpellsByte byte text = (IsTrue (is_plain byte) × (text ≡ byte ∷ [])) ⊎ ((letter : ℕ) × (text ≡ 92 ∷ letter ∷ []) × (escaped letter ≡ Some byte))

-- the bytes of a string, one behind the other
abbrev pub SpellsBytes : List ℕ → List ℕ → Type 0
SpellsBytes [] text = text ≡ []
SpellsBytes (byte ∷ bytes) text = (front rest : List ℕ) × (text ≡ front ++ rest) × SpellsByte byte front × SpellsBytes bytes rest

-- the bytes of a string between quotes, at most 1,048,576
abbrev pub SpellsString : List ℕ → List ℕ → Type 0
SpellsString bytes text = (inner : List ℕ) × (text ≡ 34 ∷ inner ++ 34 ∷ []) × SpellsBytes bytes inner × (length bytes ≤ 1048576)

-- what stands before an item: nothing before the first, else a comma and blanks
abbrev pub IsLead : Bool → List ℕ → Type 0
IsLead true text = text ≡ []
IsLead false text = (blanks : List ℕ) × (text ≡ 44 ∷ blanks) × AreBlanks blanks

-- the values of fields in order, where `P` spells a value of a form; blanks may stand behind each
abbrev pub SpellsFields : (Form → Value → List ℕ → Type 0) → Bool → List Field → List Value → List ℕ → Type 0
SpellsFields P first [] [] text = text ≡ []
SpellsFields P first (field ∷ fields) (x ∷ xs) text = (lead spelling blanks rest : List ℕ) × (text ≡ lead ++ spelling ++ blanks ++ rest)
    × IsLead first lead × P (form_of field.shape) x spelling × AreBlanks blanks × SpellsFields P false fields xs rest
SpellsFields P first fields xs text = ⊥

-- items in order, where `Q` spells one; blanks may stand behind each
abbrev pub SpellsItems : {X : Type 0} → (X → List ℕ → Type 0) → Bool → List X → List ℕ → Type 0
SpellsItems Q first [] text = text ≡ []
SpellsItems Q first (x ∷ xs) text = (lead spelling blanks rest : List ℕ) × (text ≡ lead ++ spelling ++ blanks ++ rest)
    × IsLead first lead × Q x spelling × AreBlanks blanks × SpellsItems Q false xs rest

-- items between two brackets
abbrev pub SpellsList : {X : Type 0} → (X → List ℕ → Type 0) → ℕ → ℕ → List X → List ℕ → Type 0
SpellsList Q left right xs text = (blanks inner : List ℕ) × (text ≡ left ∷ blanks ++ inner ++ right ∷ []) × AreBlanks blanks × SpellsItems Q true xs inner

-- a key, a colon and a value, where `K` spells the key and `V` the value
abbrev pub SpellsEntry : (Value → List ℕ → Type 0) → (Value → List ℕ → Type 0) → Pair → List ℕ → Type 0
SpellsEntry K V pair text = (key before behind item : List ℕ) × (text ≡ key ++ before ++ 58 ∷ behind ++ item)
    × AreBlanks before × AreBlanks behind × K (out-Pair pair).key key × V (out-Pair pair).value item

-- a name, and the values of its fields in brackets
abbrev pub SpellsEvent : (Form → Value → List ℕ → Type 0) → EventShape → List Value → List ℕ → Type 0
SpellsEvent P event xs text = (before behind inner : List ℕ) × (text ≡ event.name ++ before ++ 40 ∷ behind ++ inner ++ 41 ∷ [])
    × AreBlanks before × AreBlanks behind × SpellsFields P true event.fields xs inner

-- a value of a form, where `P` spells the values inside; contexts and listeners have no text; in a dictionary a later equal key replaces
abbrev pub SpellsForm : (Form → Value → List ℕ → Type 0) → List EventShape → Form → Value → List ℕ → Type 0
SpellsForm P types IntegerForm x text = (number : ℤ) × (x ≡ value.Integer number) × SpellsInteger number text
SpellsForm P types BooleanForm x text = (truth : Bool) × (x ≡ value.Boolean truth) × (text ≡ truth_text truth)
SpellsForm P types TextForm x text = (bytes : List ℕ) × (x ≡ value.Text bytes) × SpellsString bytes text
SpellsForm P types (SequenceForm element) x text = (items : List Value) × (x ≡ value.Sequence items) × SpellsList (P element) 91 93 items text
SpellsForm P types (DictionaryForm key item) x text = (entries : List Pair) × (x ≡ value.Dictionary (entered entries)) × SpellsList (SpellsEntry (P key) (P item)) 123 125 entries text
SpellsForm P types (EventForm n) x text = (event : EventShape) × (xs : List Value) × (slice_get types n ≡ Some event) × (x ≡ value.Event n xs) × SpellsEvent P event xs text
SpellsForm P types form x text = ⊥

-- a value of a form, nested at most so deep
abbrev pub SpellsWithin : ℕ → List EventShape → Form → Value → List ℕ → Type 0
SpellsWithin zero types form x text = ⊥
SpellsWithin (suc depth) types form x text = SpellsForm (SpellsWithin depth types) types form x text

-- the text spells this value of this shape
abbrev pub Spells : List EventShape → Shape → Value → List ℕ → Type 0
Spells types shape x text = (depth : ℕ) × SpellsWithin depth types (form_of shape) x text

-- the text spells this value from one place up to another
abbrev pub SpellsAt : List EventShape → Shape → List ℕ → ℕ → Value → ℕ → Type 0
SpellsAt types shape text at x end = (at ≤ end) × (end ≤ length text) × Spells types shape x (slice_range text at end)

-- the longest spelling at a place, or none, unless memory ran out
abbrev pub FindsValue : List EventShape → Shape → List ℕ → ℕ → Result (Value × ℕ) TextFault → Type 0
FindsValue types shape text at (Ok found) = SpellsAt types shape text at found.0 found.1 × ((x : Value) (end : ℕ) → SpellsAt types shape text at x end → end ≤ found.1)
FindsValue types shape text at (Err fault.NoValue) = (x : Value) (end : ℕ) → SpellsAt types shape text at x end → ⊥
FindsValue types shape text at (Err fault.Memory) = Unit {0}
