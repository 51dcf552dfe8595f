-- Reading a value from left to right: the value and what follows it, or nothing.
use Rattle.evt_text.specs.Common.{ℕ, ℤ, pos, neg_ℤ, zero, suc, List, [], length, Bool, true, false, nat_le, Option, Some, None, Result, Ok, Err, Field, EventShape, Value, Pair, Form, IntegerForm, BooleanForm, TextForm, SequenceForm, DictionaryForm, EventForm}
use Rattle.std.specs.Prelude.{◌≡◌, ◌∷◌, ◌++◌, ◌==◌, ◌&&◌, if◌then◌else◌, ◌+◌, ◌-◌, ◌*◌, slice_get}
use Rattle.std.specs.Option.{option_map}
use Rattle.epl_values.specs.declared.value.Value.TheVariants as value
use Rattle.evt_text.specs.Forms.{is_digit}
use Rattle.event_types.specs.Types.{form_of}
use Rattle.value_rules.specs.Texts.{truth_text}
use Rattle.evt_text.specs.Spelling.{is_blank, is_plain, escaped}
use Rattle.evt_text.specs.Entries.{entry, with_entries}
use Rattle.evt_text.specs.declared.fault.TextFault.{TextFault}
use Rattle.evt_text.specs.declared.fault.TextFault.TheVariants.{NoValue, Memory}

-- reading goes on with what was read, if there was something
infixl 10 ◌>>=◌
abbrev pub ◌>>=◌ : {A B : Type 0} → Option A → (A → Option B) → Option B
(Some x) >>= f = f x
None >>= f = None

-- what a call gave, and what it left, is what reading gives, unless memory ran out
abbrev pub Reads : {X : Type 0} → Result X TextFault → List ℕ → Option (X × List ℕ) → Type 0
Reads (Ok x) rest read = read ≡ Some (x, rest)
Reads (Err NoValue) rest read = read ≡ None
Reads (Err Memory) rest read = Unit {0}

-- the same of a call that gives nothing
abbrev pub Passes : {X : Type 0} → Result X TextFault → List ℕ → Option (List ℕ) → Type 0
Passes (Ok x) rest read = read ≡ Some rest
Passes (Err NoValue) rest read = read ≡ None
Passes (Err Memory) rest read = Unit {0}

-- what follows blanks
abbrev pub behind_blanks : List ℕ → List ℕ
behind_blanks [] = []
behind_blanks (b ∷ bs) = if is_blank b then behind_blanks bs else b ∷ bs

-- what follows a sign
abbrev pub behind_sign : ℕ → List ℕ → Option (List ℕ)
behind_sign sign [] = None
behind_sign sign (b ∷ bs) = if b == sign then Some bs else None

-- what follows a name
abbrev pub behind_name : List ℕ → List ℕ → Option (List ℕ)
behind_name [] text = Some text
behind_name (n ∷ ns) [] = None
behind_name (n ∷ ns) (b ∷ bs) = if b == n then behind_name ns bs else None

-- whether a sign was in front; then it is passed, and else nothing changes
abbrev pub Closes : Bool → ℕ → List ℕ → List ℕ → Type 0
Closes true sign old new = behind_sign sign old ≡ Some new
Closes false sign old new = (behind_sign sign old ≡ None) × (new ≡ old)

-- what follows an opening sign and the blanks behind it
unfoldable pub behind_opening : ℕ → List ℕ → Option (List ℕ)
behind_opening sign text = option_map behind_blanks (behind_sign sign text)

-- true where its text was in front, else false where its text was
abbrev pub truth_or : Option (List ℕ) → Option (List ℕ) → Option (Bool × List ℕ)
truth_or (Some rest) other = Some (true, rest)
truth_or None other = option_map (λ rest. (false, rest)) other

-- a truth
unfoldable pub truth_at : List ℕ → Option (Bool × List ℕ)
truth_at text = truth_or (behind_name (truth_text true) text) (behind_name (truth_text false) text)

-- the value of a digit, and what follows it
abbrev pub digit_at : List ℕ → Option (ℕ × List ℕ)
digit_at [] = None
digit_at (b ∷ bs) = if is_digit b then Some (b - 48, bs) else None

-- the number of the digits so far and of those that follow, as long as it is within the limit
abbrev pub digits_from : ℕ → ℕ → List ℕ → ℕ × List ℕ
digits_from limit number [] = (number, [])
digits_from limit number (b ∷ bs) = if is_digit b && nat_le (number * 10 + (b - 48)) limit then digits_from limit (number * 10 + (b - 48)) bs else (number, b ∷ bs)

-- one digit or more, as long as their number is within the limit
unfoldable pub number_at : ℕ → List ℕ → Option (ℕ × List ℕ)
number_at limit text = digit_at text >>= λ d. Some (digits_from limit d.0 d.1)

-- an integer of 64 bits: as many digits as its number allows, maybe behind a minus
unfoldable pub integer_at : List ℕ → Option (ℤ × List ℕ)
integer_at [] = None
integer_at (b ∷ bs) = if b == 45 then (number_at 9223372036854775808 bs >>= λ n. Some (neg_ℤ (pos n.0), n.1)) else (number_at 9223372036854775807 (b ∷ bs) >>= λ n. Some (pos n.0, n.1))

-- behind items that are read
abbrev pub with_front : {A B : Type 0} → List A → Option (List A × B) → Option (List A × B)
with_front front read = option_map (λ x. (front ++ x.0, x.1)) read

-- the rest of a string, where a backslash may stand before
abbrev pub inside_from : Bool → List ℕ → Option (List ℕ × List ℕ)
inside_from backslash [] = None
inside_from true (b ∷ bs) = escaped b >>= λ x. with_front (x ∷ []) (inside_from false bs)
inside_from false (b ∷ bs) = if b == 34 then Some ([], bs) else (if b == 92 then inside_from true bs else (if b == 10 then None else with_front (b ∷ []) (inside_from false bs)))

-- what an escape stands for, and what follows it
abbrev pub letter_at : List ℕ → Option (List ℕ × List ℕ)
letter_at [] = None
letter_at (b ∷ bs) = option_map (λ x. (x ∷ [], bs)) (escaped b)

-- a backslash, and what the letter behind it stands for
unfoldable pub escape_at : List ℕ → Option (List ℕ × List ℕ)
escape_at text = behind_sign 92 text >>= letter_at

-- the plain bytes in front
abbrev pub plain_front : List ℕ → List ℕ
plain_front [] = []
plain_front (b ∷ bs) = if is_plain b then b ∷ plain_front bs else []

-- what follows the plain bytes in front
abbrev pub behind_plain : List ℕ → List ℕ
behind_plain [] = []
behind_plain (b ∷ bs) = if is_plain b then behind_plain bs else b ∷ bs

-- a string that isn't longer than one may be
abbrev pub within_limit : List ℕ × List ℕ → Option (List ℕ × List ℕ)
within_limit read = if nat_le (length read.0) 1048576 then Some read else None

-- a quote, and the string up to the next
unfoldable pub string_at : List ℕ → Option (List ℕ × List ℕ)
string_at text = behind_sign 34 text >>= λ inner. inside_from false inner >>= within_limit

-- what stands before an item: nothing before the first, else a comma and blanks
unfoldable pub behind_lead : Bool → List ℕ → Option (List ℕ)
behind_lead true text = Some text
behind_lead false text = option_map behind_blanks (behind_sign 44 text)

-- one item with its lead, and the blanks behind it
unfoldable pub item_at : {X : Type 0} → (List ℕ → Option (X × List ℕ)) → Bool → List ℕ → Option (X × List ℕ)
item_at one first text = behind_lead first text >>= λ r. one r >>= λ x. Some (x.0, behind_blanks x.1)

-- the fields in order, with the blanks behind each
abbrev pub fields_from : (Form → List ℕ → Option (Value × List ℕ)) → Bool → List Field → List ℕ → Option (List Value × List ℕ)
fields_from one first [] text = Some ([], text)
fields_from one first (field ∷ fields) text = item_at (one (form_of field.shape)) first text >>= λ x. with_front (x.0 ∷ []) (fields_from one false fields x.1)

-- nothing more where the list was closed, else what is read
abbrev pub unless_closed : {X : Type 0} → Option (List ℕ) → Option (List X × List ℕ) → Option (List X × List ℕ)
unless_closed (Some rest) more = Some ([], rest)
unless_closed None more = more

-- fewer items than so many, up to a closing sign
abbrev pub items_from : {X : Type 0} → (List ℕ → Option (X × List ℕ)) → ℕ → ℕ → Bool → List ℕ → Option (List X × List ℕ)
items_from one right zero first text = None
items_from one right (suc n) first text = unless_closed (behind_sign right text) (item_at one first text >>= λ x. with_front (x.0 ∷ []) (items_from one right n false x.1))

-- fewer items than so many between two brackets
unfoldable pub list_at : {X : Type 0} → (List ℕ → Option (X × List ℕ)) → ℕ → ℕ → ℕ → List ℕ → Option (List X × List ℕ)
list_at one left right n text = behind_opening left text >>= items_from one right n true

-- a key, a colon and a value, with blanks between
unfoldable pub entry_at : (List ℕ → Option (Value × List ℕ)) → (List ℕ → Option (Value × List ℕ)) → List ℕ → Option (Pair × List ℕ)
entry_at key item text = key text >>= λ k. behind_sign 58 (behind_blanks k.1) >>= λ r. item (behind_blanks r) >>= λ x. Some (entry k.0 x.0, x.1)

-- entries that are read are put in, one after the other
abbrev pub put_in : List Pair → Option (List Pair × List ℕ) → Option (List Pair × List ℕ)
put_in pairs read = option_map (λ x. (with_entries pairs x.0, x.1)) read

-- a name, and the values of its fields in brackets, with blanks between
unfoldable pub event_at : (Form → List ℕ → Option (Value × List ℕ)) → EventShape → List ℕ → Option (List Value × List ℕ)
event_at one event text = behind_name event.name text >>= λ a. behind_opening 40 (behind_blanks a) >>= λ b. fields_from one true event.fields b >>= λ x. behind_sign 41 x.1 >>= λ c. Some (x.0, c)

-- an event of the type with this number, if there is one
abbrev pub typed_at : (Form → List ℕ → Option (Value × List ℕ)) → ℕ → Option EventShape → List ℕ → Option (Value × List ℕ)
typed_at one n None text = None
typed_at one n (Some event) text = event_at one event text >>= λ x. Some (value.Event n x.0, x.1)

-- a value of a form, by what reads the values inside; a list in it has fewer items than so many
abbrev pub form_at : (Form → List ℕ → Option (Value × List ℕ)) → ℕ → List EventShape → Form → List ℕ → Option (Value × List ℕ)
form_at one n types IntegerForm text = integer_at text >>= λ x. Some (value.Integer x.0, x.1)
form_at one n types BooleanForm text = truth_at text >>= λ x. Some (value.Boolean x.0, x.1)
form_at one n types TextForm text = string_at text >>= λ x. Some (value.Text x.0, x.1)
form_at one n types (SequenceForm element) text = list_at (one element) 91 93 n text >>= λ x. Some (value.Sequence x.0, x.1)
form_at one n types (DictionaryForm key item) text = put_in [] (list_at (entry_at (one key) (one item)) 123 125 n text) >>= λ x. Some (value.Dictionary x.0, x.1)
form_at one n types (EventForm k) text = typed_at one k (slice_get types k) text
form_at one n types form text = None

-- a value of a form, nested at most so deep, with fewer items than that in each list
unfoldable pub value_from : ℕ → List EventShape → Form → List ℕ → Option (Value × List ℕ)
value_from zero types form text = None
value_from (suc n) types form text = form_at (value_from n types) n types form text
