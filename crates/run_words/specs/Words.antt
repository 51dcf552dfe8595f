-- The words of a command line: `run`, options in any order, and the names of program files.
use Rattle.std.specs.Prelude.{◌≡◌, ℕ, List, [], ◌∷◌, map, Bool, true, false, not, ◌&&◌, ◌||◌, ◌==◌, nat_le, length, if◌then◌else◌, Option, Some, None, Result, Ok, Err, codes}
use Rattle.std.specs.List.{filter, list_all}
use Rattle.std.specs.Option.{is_some}
use Rattle.std.specs.Str.{bytes_eq}
use Rattle.record_book.specs.declared.record.Settings.{Settings}
use Rattle.run_words.specs.Numbers.{number_in}
use Rattle.run_words.specs.declared.words.RunWords.{RunWords}
use Rattle.run_words.specs.declared.words.WordsFault.{WordsFault}
use Rattle.run_words.specs.declared.words.WordsFault.TheVariants.{Usage, Memory}

-- what words name: the event file, the program files in order, the settings, whether one thread runs the contexts, and the schedule file
pub record Named : Type 0 where
  pub events : List ℕ
  pub programs : List (List ℕ)
  pub settings : Settings
  pub serial : Bool
  pub schedule : Option (List ℕ)

-- ---- options and programs

-- an option that is given: its name, and the word behind it
pub record Given : Type 0 where
  pub name : List ℕ
  pub value : Option (List ℕ)

-- words cut into the options that are given, and the programs behind them
pub record Cut : Type 0 where
  pub given : List Given
  pub programs : List (List ℕ)

-- a file's name isn't empty and doesn't begin with a dash
abbrev pub is_file_word : List ℕ → Bool
is_file_word [] = false
is_file_word (b ∷ bs) = not (b == 45)

-- the only option that stands alone
abbrev pub is_alone : List ℕ → Bool
is_alone name = bytes_eq name (codes "--serial")

-- one more option in front
abbrev pub gives : List ℕ → Option (List ℕ) → Cut → Cut
gives name value behind = record { given = record { name = name; value = value } ∷ behind.given; programs = behind.programs }

-- words without options
abbrev pub no_options : List (List ℕ) → Cut
no_options words = record { given = []; programs = words }

-- the programs begin with the first word that may name a file; each word before is an option, and the word behind it its value, if it doesn't stand alone
abbrev pub cut : List (List ℕ) → Cut
cut [] = no_options []
cut (name ∷ []) = if is_file_word name then no_options (name ∷ []) else gives name None (no_options [])
cut (name ∷ value ∷ words) =
    if is_file_word name then no_options (name ∷ value ∷ words)
    else if is_alone name then gives name None (cut (value ∷ words))
    else gives name (Some value) (cut words)

-- ---- the table

-- the options that there are
abbrev pub is_known : List ℕ → Bool
is_known name =
    is_alone name || (bytes_eq name (codes "--schedule") || (bytes_eq name (codes "--fuel") || (bytes_eq name (codes "--contexts")
    || (bytes_eq name (codes "--mailbox") || bytes_eq name (codes "--events")))))

-- what is given under a name, in order
abbrev pub values_of : List ℕ → List Given → List (Option (List ℕ))
values_of name given = map (λ g. g.value) (filter (λ g. bytes_eq g.name name) given)

-- whether an option without a value is given, at most once
abbrev pub flag_of : List (Option (List ℕ)) → Option Bool
flag_of [] = Some false
flag_of (None ∷ []) = Some true
flag_of values = None

-- the value of an option, if it is given, at most once
abbrev pub value_of : List (Option (List ℕ)) → Option (Option (List ℕ))
value_of [] = Some None
value_of (Some value ∷ []) = Some (Some value)
value_of values = None

-- a value that has to name a file
abbrev pub file_of : Option (Option (List ℕ)) → Option (Option (List ℕ))
file_of (Some (Some name)) = if is_file_word name then Some (Some name) else None
file_of value = value

-- a value that has to be a number from 1 to the most, or the number that stands where there is none
abbrev pub number_of : ℕ → ℕ → Option (Option (List ℕ)) → Option ℕ
number_of most default (Some None) = Some default
number_of most default (Some (Some word)) = number_in most word
number_of most default None = None

-- one to 64 names of files
abbrev pub programs_of : List (List ℕ) → Option (List (List ℕ))
programs_of words = if list_all is_file_word words && (nat_le 1 (length words) && nat_le (length words) 64) then Some words else None

-- the fuel of each context, the contexts, and the entries that a mailbox holds
abbrev pub settings_from : Option ℕ → Option ℕ → Option ℕ → Option Settings
settings_from (Some fuel) (Some contexts) (Some mailbox) = Some (record { fuel = fuel; contexts = contexts; mailbox = mailbox })
settings_from fuel contexts mailbox = None

abbrev pub settings_of : List Given → Option Settings
settings_of given = settings_from
    (number_of 20000000 1000000 (value_of (values_of (codes "--fuel") given)))
    (number_of 32 32 (value_of (values_of (codes "--contexts") given)))
    (number_of 65536 256 (value_of (values_of (codes "--mailbox") given)))

-- the event file has to be given; a schedule isn't for `--serial`
abbrev pub named_from : Option Bool → Option (Option (List ℕ)) → Option (Option (List ℕ)) → Option Settings → Option (List (List ℕ)) → Option Named
named_from (Some serial) (Some schedule) (Some (Some events)) (Some settings) (Some programs) =
    if serial && is_some schedule then None else Some (record { events = events; programs = programs; settings = settings; serial = serial; schedule = schedule })
named_from serial schedule events settings programs = None

abbrev pub named_by : Cut → Option Named
named_by c =
    if list_all (λ g. is_known g.name) c.given then named_from (flag_of (values_of (codes "--serial") c.given)) (file_of (value_of (values_of (codes "--schedule") c.given)))
    (file_of (value_of (values_of (codes "--events") c.given))) (settings_of c.given) (programs_of c.programs)
    else None

-- run [--serial] [--schedule FILE] [--fuel N] [--contexts N] [--mailbox N] --events FILE PROGRAM...
abbrev pub named_in : List (List ℕ) → Option Named
named_in [] = None
named_in (command ∷ words) = if bytes_eq command (codes "run") then named_by (cut words) else None

-- what words that were read name
abbrev pub named_of : RunWords → Named
named_of w = record { events = w.events; programs = w.programs; settings = w.settings; serial = w.serial; schedule = w.schedule }

-- what the words name, or they are no command; want of memory is free
abbrev pub TellsWords : List (List ℕ) → Result RunWords WordsFault → Type 0
TellsWords words (Ok w) = named_in words ≡ Some (named_of w)
TellsWords words (Err Usage) = named_in words ≡ None
TellsWords words (Err Memory) = Unit {0}
