-- What a shelf may tell of its files, and what its answers mean where it does.
use Rattle.std.specs.Prelude.{◌≡◌, ℕ, ◌<◌, ◌≤◌, List, [], length, take, drop, Bool, true, false, Option, None, IsSome, unwrap_or}
use Rattle.std.specs.Option.{option_map}
use Rattle.outside.specs.declared.traits.Got.{Got}
use Rattle.outside.specs.declared.traits.Got.TheVariants as got
use Rattle.outside.specs.declared.traits.Found.{Found}
use Rattle.outside.specs.declared.traits.Found.TheVariants as found

-- The files, and the name and the rest of the file begun last.
pub record Told : Type 0 where
  pub files : List ℕ → Option (List ℕ)
  pub name : List ℕ
  pub rest : List ℕ

-- The files alone.
abbrev pub files_of : Option Told → Option (List ℕ → Option (List ℕ))
files_of told = option_map (λ t. t.files) told

-- What `begin` leaves: the files are as before.
abbrev pub after_begin : List ℕ → Found → Told → Told
after_begin name found.Here t = record { files = t.files; name = name; rest = unwrap_or (t.files name) [] }
after_begin name found.Missing t = record { files = t.files; name = name; rest = [] }
after_begin name found.Failed t = record { files = t.files; name = name; rest = [] }

-- When `begin` gives each answer.
abbrev pub BeginGives : Option (List ℕ) → Found → Type 0
BeginGives file found.Here = IsSome file
BeginGives file found.Missing = file ≡ None
BeginGives file found.Failed = Unit {0}

-- What `read` leaves.
abbrev pub after_read : Got → Told → Told
after_read (got.Bytes n) t = record { files = t.files; name = t.name; rest = drop n t.rest }
after_read got.End t = t
after_read got.Failed t = t

-- When `read` gives each answer, by the rest before and the piece after.
abbrev pub ReadGives : List ℕ → Got → List ℕ → Type 0
ReadGives rest (got.Bytes n) piece = (n ≤ length rest) × (take n piece ≡ take n rest)
ReadGives rest got.End piece = rest ≡ []
ReadGives rest got.Failed piece = Unit {0}

-- The n of an answer is from 1 to the length of the piece.
abbrev pub GotWithin : Got → ℕ → Type 0
GotWithin (got.Bytes n) room = (0 < n) × (n ≤ room)
GotWithin got.End room = Unit {0}
GotWithin got.Failed room = Unit {0}

-- Whether a read failed.
abbrev pub is_failed_got : Got → Bool
is_failed_got (got.Bytes n) = false
is_failed_got got.End = false
is_failed_got got.Failed = true

-- Whether a beginning failed.
abbrev pub is_failed_found : Found → Bool
is_failed_found found.Here = false
is_failed_found found.Missing = false
is_failed_found found.Failed = true

-- Whether the name was not there.
abbrev pub is_missing : Found → Bool
is_missing found.Here = false
is_missing found.Missing = true
is_missing found.Failed = false
