-- The words of a command line.
use Rattle.std.specs.Prelude.{◌≡◌, ℕ, ◌+◌, ◌-◌, ◌*◌, List, [], ◌∷◌, Bool, false, not, ◌&&◌, ◌==◌, nat_le, length, if◌then◌else◌, Option, Some, None, Result, Ok, Err, codes}
use Rattle.std.specs.List.{list_all}
use Rattle.std.specs.Str.{bytes_eq}
use Rattle.record_book.specs.declared.record.Settings.{Settings}
use Rattle.run_face.specs.declared.words.RunWords.{RunWords}
use Rattle.run_face.specs.declared.words.WordsFault.{WordsFault}
use Rattle.run_face.specs.declared.words.WordsFault.TheVariants.{Usage, Memory}

-- what the words of a run name: the event file, the program files in order, and the fuel of each context
pub record Named : Type 0 where
  pub events : List ℕ
  pub programs : List (List ℕ)
  pub fuel : ℕ

-- the fuel of a run that names none, and the most that one may name
abbrev pub default_fuel : ℕ
default_fuel = 1000000

abbrev pub most_fuel : ℕ
most_fuel = 20000000

-- the settings of a run
abbrev pub settings_of : Named → Settings
settings_of named = record { fuel = named.fuel; contexts = 32; mailbox = 256 }

-- ---- numbers

abbrev pub is_digit : ℕ → Bool
is_digit b = nat_le 48 b && nat_le b 57

-- what digits count, behind a number
abbrev pub number_behind : ℕ → List ℕ → ℕ
number_behind n [] = n
number_behind n (b ∷ bs) = number_behind (10 * n + (b - 48)) bs

-- digits of which the first isn't 0
abbrev pub is_number : List ℕ → Bool
is_number [] = false
is_number (b ∷ bs) = list_all is_digit (b ∷ bs) && not (b == 48)

-- a number from 1 to the most
abbrev pub fuel_in : List ℕ → Option ℕ
fuel_in word = if is_number word && nat_le (number_behind 0 word) most_fuel then Some (number_behind 0 word) else None

-- ---- words

-- a file's name isn't empty and doesn't begin with a dash
abbrev pub is_file_word : List ℕ → Bool
is_file_word [] = false
is_file_word (b ∷ bs) = not (b == 45)

-- one to 64 names of files
abbrev pub are_programs : List (List ℕ) → Bool
are_programs words = list_all is_file_word words && (nat_le 1 (length words) && nat_le (length words) 64)

-- --events FILE PROGRAM...
abbrev pub files_behind : Option ℕ → List (List ℕ) → Option Named
files_behind (Some fuel) (c ∷ events ∷ programs) = if bytes_eq c (codes "--events") && (is_file_word events && are_programs programs) then Some (record { events = events; programs = programs; fuel = fuel }) else None
files_behind fuel words = None

-- [--fuel N] --events FILE PROGRAM...
abbrev pub fuel_behind : List (List ℕ) → Option Named
fuel_behind (c ∷ n ∷ words) = if bytes_eq c (codes "--fuel") then files_behind (fuel_in n) words else files_behind (Some default_fuel) (c ∷ n ∷ words)
fuel_behind words = None

-- run --serial [--fuel N] --events FILE PROGRAM...
abbrev pub named_files : List (List ℕ) → Option Named
named_files (a ∷ b ∷ words) = if bytes_eq a (codes "run") && bytes_eq b (codes "--serial") then fuel_behind words else None
named_files words = None

-- what was read names the same files and settings
pub record IsNamed (named : Named) (w : RunWords) : Type 0 where
  pub events : w.events ≡ named.events
  pub programs : w.programs ≡ named.programs
  pub settings : w.settings ≡ settings_of named

-- the words name these files, or they are no command; want of memory is free
abbrev pub TellsWords : List (List ℕ) → Result RunWords WordsFault → Type 0
TellsWords words (Ok w) = (named : Named) × (named_files words ≡ Some named) × IsNamed named w
TellsWords words (Err Usage) = named_files words ≡ None
TellsWords words (Err Memory) = Unit {0}
