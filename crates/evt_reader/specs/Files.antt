-- Event files: what their lines mean.
use Rattle.evt_reader.specs.Common.{ℕ, ℤ, pos, List, [], length, codes, Option, Some, None, Result, Ok, Err, slice_get, option_to_list, lines, EventShape, Value, Item}
use Rattle.std.specs.Prelude.{◌≡◌, ◌≢◌, ◌∷◌, ◌++◌, ◌&&◌, ◌==◌, if◌then◌else◌, ◌+◌, ◌-◌, ◌*◌, ◌≤◌, ◌≤ℤ◌, ◌⊎◌, IsTrue, take}
use Rattle.std.specs.List.{AllByRecursion, flat_map}
use Rattle.std.specs.Str.{IsUtf8}
use Rattle.std.specs.Str.Parse.{IsNumeral, digits_value}
use Rattle.epl_values.specs.declared.shape.Shape.TheVariants as shape
use Rattle.record_book.specs.declared.item.Item.TheVariants.{Event, Time}
use Rattle.evt_text.specs.Forms.{is_digit}
use Rattle.evt_text.specs.Spelling.{AreBlanks, Spells, SpellsString}
use Rattle.evt_reader.specs.declared.fault.LineFault.{LineFault}
use Rattle.evt_reader.specs.declared.fault.LineFault.TheVariants as fault

-- the bytes of a file without the byte order mark that may lead them
abbrev pub without_mark : List ℕ → List ℕ
without_mark (a ∷ b ∷ c ∷ rest) = if a == 239 && (b == 187 && c == 191) then rest else a ∷ b ∷ c ∷ rest
without_mark bytes = bytes

-- `#` or `//` in front
abbrev pub OpensComment : List ℕ → Type 0
OpensComment text = (rest : List ℕ) × ((text ≡ 35 ∷ rest) ⊎ (text ≡ 47 ∷ 47 ∷ rest))

-- the end of the line, or a comment
abbrev pub IsEmpty : List ℕ → Type 0
IsEmpty rest = (rest ≡ []) ⊎ OpensComment rest

-- `&FLUSHING(`, digits and a bracket, with blanks between and behind them
abbrev pub IsFlushing : List ℕ → Type 0
IsFlushing rest = (before digits behind end : List ℕ) × (rest ≡ codes "&FLUSHING(" ++ (before ++ (digits ++ (behind ++ 41 ∷ end))))
    × AreBlanks before × IsNumeral 10 digits × AreBlanks behind × AreBlanks end

-- `BATCH` and digits, with at least one blank between them
abbrev pub IsBatch : List ℕ → Type 0
IsBatch rest = (before digits end : List ℕ) × (rest ≡ codes "BATCH" ++ (before ++ (digits ++ end))) × (before ≢ []) × AreBlanks before × IsNumeral 10 digits × AreBlanks end

-- a line that gives no item
abbrev pub IsNothing : List ℕ → Type 0
IsNothing rest = IsEmpty rest ⊎ IsFlushing rest ⊎ IsBatch rest

-- no point, or a point and digits of which all but the first are 0: so many tenths
abbrev pub SpellsTenths : ℕ → List ℕ → Type 0
SpellsTenths tenths text = ((text ≡ []) × (tenths ≡ 0))
    ⊎ ((digit : ℕ) × (zeros : List ℕ) × (text ≡ 46 ∷ digit ∷ zeros) × IsTrue (is_digit digit) × AllByRecursion (λ b. b ≡ 48) zeros × (tenths ≡ digit - 48))

-- one to twelve digits of seconds, and maybe tenths: so many tenths of a second
abbrev pub SpellsTime : ℕ → List ℕ → Type 0
SpellsTime time text = (seconds behind : List ℕ) × (tenths : ℕ) × (text ≡ seconds ++ behind) × IsNumeral 10 seconds × (length seconds ≤ 12)
    × SpellsTenths tenths behind × (time ≡ digits_value 10 seconds * 10 + tenths)

-- `&TIME(`, a time and a bracket, with blanks between and behind them
abbrev pub IsTimeLine : ℕ → List ℕ → Type 0
IsTimeLine time rest = (before spelling behind end : List ℕ) × (rest ≡ codes "&TIME(" ++ (before ++ (spelling ++ (behind ++ 41 ∷ end))))
    × AreBlanks before × SpellsTime time spelling × AreBlanks behind × AreBlanks end

-- an event of one of these types, and blanks behind it
abbrev pub IsEvent : List EventShape → List ℕ → Value → Type 0
IsEvent types rest x = (spelling behind : List ℕ) × (rest ≡ spelling ++ behind) × AreBlanks behind × (number : ℕ) × Spells types (shape.Event number) x spelling

-- a channel, which is a string, a comma and an event, with blanks between them
abbrev pub IsChannelled : List EventShape → List ℕ → List ℕ → Value → Type 0
IsChannelled types rest channel x = (string before behind event : List ℕ) × (rest ≡ string ++ (before ++ 44 ∷ (behind ++ event)))
    × SpellsString channel string × AreBlanks before × AreBlanks behind × IsEvent types event x

-- an event with its channel; one without is for the empty channel
abbrev pub IsSent : List EventShape → List ℕ → List ℕ → Value → Type 0
IsSent types rest channel x = ((channel ≡ []) × IsEvent types rest x) ⊎ IsChannelled types rest channel x

-- what the blanks in front of a line are followed by: nothing, an event, or a time that isn't less than the last one
abbrev pub Says : List EventShape → ℤ → List ℕ → Option Item → Type 0
Says types last rest None = IsNothing rest
Says types last rest (Some (Event channel x)) = IsSent types rest channel x
Says types last rest (Some (Time t)) = (time : ℕ) × (t ≡ pos time) × IsTimeLine time rest × (last ≤ℤ t)

-- a line of UTF-8 that says this, where the last time is given
abbrev pub IsLine : List EventShape → ℤ → List ℕ → Option Item → Type 0
IsLine types last line meant = IsUtf8 line × (blanks rest : List ℕ) × (line ≡ blanks ++ rest) × AreBlanks blanks × Says types last rest meant

-- the last time behind a line
abbrev pub time_after : ℤ → Option Item → ℤ
time_after last (Some (Time t)) = t
time_after last meant = last

-- the last time behind lines
abbrev pub last_time : ℤ → List (Option Item) → ℤ
last_time last [] = last
last_time last (meant ∷ more) = last_time (time_after last meant) more

-- each line says what stands at its place, where the last time is given
abbrev pub AreLines : List EventShape → ℤ → List (List ℕ) → List (Option Item) → Type 0
AreLines types last [] [] = Unit {0}
AreLines types last (line ∷ lines) (meant ∷ more) = IsLine types last line meant × AreLines types (time_after last meant) lines more
AreLines types last lines meant = ⊥

-- the lines of a file
abbrev pub lines_of : List ℕ → List (List ℕ)
lines_of bytes = lines (without_mark bytes)

-- the items of a file: those of its lines, in order; its last time is 0 at first
abbrev pub AreItems : List EventShape → List ℕ → List Item → Type 0
AreItems types bytes items = (meant : List (Option Item)) × AreLines types (pos 0) (lines_of bytes) meant × (items ≡ flat_map option_to_list meant)

-- the line with this number, from 1, is the first that says nothing of the kind behind those before it
abbrev pub IsRefusedLine : List EventShape → List ℕ → ℕ → Type 0
IsRefusedLine types bytes n = (k : ℕ) × (line : List ℕ) × (n ≡ k + 1) × (slice_get (lines_of bytes) k ≡ Some line)
    × (before : List (Option Item)) × AreLines types (pos 0) (take k (lines_of bytes)) before × ((meant : Option Item) → IsLine types (last_time (pos 0) before) line meant → ⊥)

-- the items of a file, if no line is refused, and else the first line that is; unless memory ran out
abbrev pub GivesItems : List EventShape → List ℕ → Result (List Item) LineFault → Type 0
GivesItems types bytes (Ok items) = AreItems types bytes items × ((others : List Item) → AreItems types bytes others → others ≡ items) × ((n : ℕ) → IsRefusedLine types bytes n → ⊥)
GivesItems types bytes (Err (fault.Line n)) = IsRefusedLine types bytes n × ((m : ℕ) → IsRefusedLine types bytes m → m ≡ n) × ((items : List Item) → AreItems types bytes items → ⊥)
GivesItems types bytes (Err fault.Memory) = Unit {0}
