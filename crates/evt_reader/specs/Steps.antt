-- What the steps of reading an event file give.
use Rattle.evt_reader.specs.Common.{ℕ, ℤ, List, [], length, codes, Option, Some, None, Result, Ok, Err, slice_get, option_to_list, lines, EventShape, Value, Item}
use Rattle.std.specs.Prelude.{◌≡◌, ◌∷◌, ◌++◌, ◌&&◌, ◌==◌, if◌then◌else◌, ◌+◌, ◌*◌, ◌<◌, ◌<ℤ◌, ◌≤ℤ◌, pos, Bool, true, false, ◌||◌, nat_le}
use Rattle.std.specs.Option.{option_map}
use Rattle.record_book.specs.declared.item.Item.TheVariants.{Time}
use Rattle.evt_text.specs.Forms.{is_letter, is_digit}
use Rattle.evt_text.specs.Reading.{◌>>=◌, behind_blanks, behind_name, behind_sign, digit_at, number_at, string_at}
use Rattle.evt_text.specs.Spelling.{is_blank}
use Rattle.evt_text.specs.declared.fault.TextFault.{TextFault}
use Rattle.evt_text.specs.declared.fault.TextFault.TheVariants.{NoValue, Memory}
use Rattle.evt_reader.specs.Files.{IsEvent, IsSent, IsLine, time_after}
use Rattle.evt_reader.specs.declared.fault.LineFault.{LineFault}
use Rattle.evt_reader.specs.declared.fault.LineFault.TheVariants as fault

-- the letters and digits in front
abbrev pub name_front : List ℕ → List ℕ
name_front [] = []
name_front (b ∷ bs) = if is_letter b || is_digit b then b ∷ name_front bs else []

-- the event type with this number has this name
abbrev pub HasName : List EventShape → List ℕ → ℕ → Type 0
HasName types name n = (event : EventShape) × (slice_get types n ≡ Some event) × (event.name ≡ name)

-- no event type has this name
abbrev pub LacksName : List EventShape → List ℕ → Type 0
LacksName types name = (n : ℕ) → HasName types name n → ⊥

-- whether there are blanks alone
abbrev pub are_blanks : List ℕ → Bool
are_blanks [] = true
are_blanks (b ∷ bs) = is_blank b && are_blanks bs

-- what follows the digits in front
abbrev pub behind_digits : List ℕ → List ℕ
behind_digits [] = []
behind_digits (b ∷ bs) = if is_digit b then behind_digits bs else b ∷ bs

-- what follows the zeros in front
abbrev pub behind_zeros : List ℕ → List ℕ
behind_zeros [] = []
behind_zeros (b ∷ bs) = if b == 48 then behind_zeros bs else b ∷ bs

-- what follows one digit or more
unfoldable pub behind_row : List ℕ → Option (List ℕ)
behind_row text = option_map (λ d. behind_digits d.1) (digit_at text)

-- whether blanks alone follow something that is there
abbrev pub only_blanks : Option (List ℕ) → Bool
only_blanks None = false
only_blanks (Some rest) = are_blanks rest

-- whether the line closes here: a bracket, with blanks before and behind it
unfoldable pub is_closed : List ℕ → Bool
is_closed text = only_blanks (behind_sign 41 (behind_blanks text))

-- whether the line closes behind something that is there
abbrev pub closes : Option (List ℕ) → Bool
closes None = false
closes (Some rest) = is_closed rest

-- whether a slash is in front
abbrev pub is_slash : List ℕ → Bool
is_slash [] = false
is_slash (b ∷ bs) = b == 47

-- whether the line ends here, or a comment begins
abbrev pub is_empty : List ℕ → Bool
is_empty [] = true
is_empty (a ∷ rest) = a == 35 || (a == 47 && is_slash rest)

-- whether `&FLUSHING(`, digits and a bracket stand here
unfoldable pub is_flushing : List ℕ → Bool
is_flushing text = closes (behind_name (codes "&FLUSHING(") text >>= λ inside. behind_row (behind_blanks inside))

-- what follows blanks, if there are some
abbrev pub behind_gap : List ℕ → Option (List ℕ)
behind_gap [] = None
behind_gap (b ∷ bs) = if is_blank b then Some (behind_blanks bs) else None

-- whether `BATCH` and digits stand here
unfoldable pub is_batch : List ℕ → Bool
is_batch text = only_blanks (behind_name (codes "BATCH") text >>= λ gap. behind_gap gap >>= behind_row)

-- whether the line gives no item
unfoldable pub is_nothing : List ℕ → Bool
is_nothing text = is_empty text || (is_flushing text || is_batch text)

-- digits that were read, if they are twelve at most
abbrev pub within_twelve : List ℕ → ℕ × List ℕ → Option (ℕ × List ℕ)
within_twelve text read = if nat_le (length text) (length read.1 + 12) then Some read else None

-- one to twelve digits of seconds
unfoldable pub seconds_at : List ℕ → Option (ℕ × List ℕ)
seconds_at text = number_at 999999999999 text >>= within_twelve text

-- the seconds in tenths, with the tenths behind a point, if there is one
abbrev pub tenths_behind : ℕ → List ℕ → Option (List ℕ) → Option (ℕ × List ℕ)
tenths_behind seconds text None = Some (seconds * 10, text)
tenths_behind seconds text (Some fraction) = option_map (λ d. (seconds * 10 + d.0, behind_zeros d.1)) (digit_at fraction)

-- the time that stands here, in tenths of a second
unfoldable pub time_at : List ℕ → Option (ℕ × List ℕ)
time_at text = seconds_at text >>= λ s. tenths_behind s.0 s.1 (behind_sign 46 s.1)

-- a time that was read, if the line closes behind it
abbrev pub if_closed : ℕ × List ℕ → Option ℕ
if_closed read = if is_closed read.1 then Some read.0 else None

-- the time of a line `&TIME(`, time, bracket
unfoldable pub timed : List ℕ → Option ℕ
timed text = behind_name (codes "&TIME(") text >>= λ inside. time_at (behind_blanks inside) >>= if_closed

-- the channel in front, and what follows the comma and the blanks behind it
unfoldable pub channel_at : List ℕ → Option (List ℕ × List ℕ)
channel_at text = string_at text >>= λ channel. behind_sign 44 (behind_blanks channel.1) >>= λ rest. Some (channel.0, behind_blanks rest)

-- whether a quote is in front
abbrev pub is_quote : List ℕ → Bool
is_quote [] = false
is_quote (b ∷ bs) = b == 34

-- the event that stands here, or none, unless memory ran out
abbrev pub FindsEvent : List EventShape → List ℕ → Result Value TextFault → Type 0
FindsEvent types rest (Ok x) = IsEvent types rest x
FindsEvent types rest (Err NoValue) = (x : Value) → IsEvent types rest x → ⊥
FindsEvent types rest (Err Memory) = Unit {0}

-- the event that stands here, with its channel, or none, unless memory ran out
abbrev pub FindsSent : List EventShape → List ℕ → Result (List ℕ × Value) TextFault → Type 0
FindsSent types rest (Ok sent) = IsSent types rest sent.0 sent.1
FindsSent types rest (Err NoValue) = (channel : List ℕ) (x : Value) → IsSent types rest channel x → ⊥
FindsSent types rest (Err Memory) = Unit {0}

-- the item of a time, if it isn't less than the last one, and else no value
abbrev pub SaysTime : ℤ → ℕ → Result (Option Item) TextFault → Type 0
SaysTime last time (Ok meant) = (meant ≡ Some (Time (pos time))) × (last ≤ℤ pos time)
SaysTime last time (Err NoValue) = pos time <ℤ last
SaysTime last time (Err Memory) = ⊥

-- what a line says, or nothing that a line may say, unless memory ran out
abbrev pub FindsMeaning : List EventShape → ℤ → List ℕ → Result (Option Item) TextFault → Type 0
FindsMeaning types last line (Ok meant) = IsLine types last line meant
FindsMeaning types last line (Err NoValue) = (meant : Option Item) → IsLine types last line meant → ⊥
FindsMeaning types last line (Err Memory) = Unit {0}

-- the line's item, if it has one, comes behind the items so far, and its time is the last, or the line is refused
abbrev pub TakesLine : {T : Type 0} → List EventShape → List ℕ → ℕ → ℤ → ℤ → List Item → List Item → Result T LineFault → Type 0
TakesLine types line number last now old new (Ok x) = (meant : Option Item) × IsLine types last line meant × (new ≡ old ++ option_to_list meant) × (now ≡ time_after last meant)
TakesLine types line number last now old new (Err (fault.Line n)) = (n ≡ number) × ((meant : Option Item) → IsLine types last line meant → ⊥)
TakesLine types line number last now old new (Err fault.Memory) = Unit {0}

-- the first line is taken off, or there is none
abbrev pub TakesOff : List ℕ → List ℕ → Option (List ℕ) → Type 0
TakesOff old new None = old ≡ []
TakesOff old new (Some line) = (lines old ≡ line ∷ lines new) × (length new < length old)
