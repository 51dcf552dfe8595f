-- The answers of `read_whole` and `put_all`.
use Rattle.std.specs.Prelude.{◌≡◌, ℕ, ◌+◌, ◌-◌, ◌<◌, ◌≤◌, List, [], ◌++◌, length, take, drop, Option, Some, None, Result, Ok, Err, IfSome, unwrap_or}
use Rattle.std.specs.Option.{option_map}
use Rattle.outside.specs.declared.whole.FileFault.{FileFault}
use Rattle.outside.specs.declared.whole.FileFault.TheVariants as fault
use Rattle.outside.specs.declared.whole.WriteFault.{WriteFault}
use Rattle.outside.specs.Counts.{Rose}
use Rattle.outside.specs.Told.{Told, files_of}

-- What the counts of faults and of names missed were before, and are now.
pub record Moved : Type 0 where
  pub faults_before : ℕ
  pub faults_now : ℕ
  pub missed_before : ℕ
  pub missed_now : ℕ

-- Each answer moves its own count and no other.
abbrev pub WholeCounts : Result (List ℕ) FileFault → Moved → Type 0
WholeCounts (Ok bytes) m = (m.faults_now ≡ m.faults_before) × (m.missed_now ≡ m.missed_before)
WholeCounts (Err fault.Missing) m = (m.faults_now ≡ m.faults_before) × (m.missed_before ≤ m.missed_now) × Rose m.missed_before m.missed_now
WholeCounts (Err fault.Read) m = (m.faults_before ≤ m.faults_now) × Rose m.faults_before m.faults_now × (m.missed_now ≡ m.missed_before)
WholeCounts (Err fault.TooLong) m = (m.faults_now ≡ m.faults_before) × (m.missed_now ≡ m.missed_before)
WholeCounts (Err fault.Memory) m = (m.faults_now ≡ m.faults_before) × (m.missed_now ≡ m.missed_before)

-- The answer to a file, where the shelf tells it: of Ok, Missing and TooLong each file allows one.
abbrev pub WholeGives : Option (List ℕ) → ℕ → Result (List ℕ) FileFault → Type 0
WholeGives file most (Ok bytes) = (file ≡ Some bytes) × (length bytes ≤ most)
WholeGives file most (Err fault.Missing) = file ≡ None
WholeGives file most (Err fault.Read) = Unit {0}
WholeGives file most (Err fault.TooLong) = (bytes : List ℕ) × (file ≡ Some bytes) × (most < length bytes)
WholeGives file most (Err fault.Memory) = Unit {0}

-- After every answer but `Memory` the file begun last has this name.
abbrev pub BeginsLast : List ℕ → Result (List ℕ) FileFault → Option Told → Type 0
BeginsLast name (Ok bytes) now = IfSome now (λ t. t.name ≡ name)
BeginsLast name (Err fault.Missing) now = IfSome now (λ t. t.name ≡ name)
BeginsLast name (Err fault.Read) now = IfSome now (λ t. t.name ≡ name)
BeginsLast name (Err fault.TooLong) now = IfSome now (λ t. t.name ≡ name)
BeginsLast name (Err fault.Memory) now = Unit {0}

-- The rest after each answer: none, or what stands behind the first byte beyond the limit, since no more is read.
abbrev pub WholeLeaves : Option (List ℕ) → ℕ → Result (List ℕ) FileFault → List ℕ → Type 0
WholeLeaves file most (Ok bytes) rest = rest ≡ []
WholeLeaves file most (Err fault.Missing) rest = rest ≡ []
WholeLeaves file most (Err fault.Read) rest = Unit {0}
WholeLeaves file most (Err fault.TooLong) rest = rest ≡ drop (most + 1) (unwrap_or file [])
WholeLeaves file most (Err fault.Memory) rest = Unit {0}

-- The files and the name of the file begun last are the same.
abbrev pub SameFile : Option Told → Option Told → Type 0
SameFile before now = (files_of now ≡ files_of before) × (option_map (λ t. t.name) now ≡ option_map (λ t. t.name) before)

-- All of the bytes were taken, or a proper front of them.
abbrev pub PutsAll : {T : Type 0} → Result T WriteFault → List ℕ → Option (List ℕ) → Option (List ℕ) → Type 0
PutsAll (Ok x) bytes before now = now ≡ option_map (λ t. t ++ bytes) before
PutsAll (Err e) bytes before now = (n : ℕ) × (n < length bytes) × (now ≡ option_map (λ t. t ++ take n bytes) before)

-- The count of faults rose with a fault alone.
abbrev pub PutCounts : {T : Type 0} → Result T WriteFault → ℕ → ℕ → Type 0
PutCounts (Ok x) before now = now ≡ before
PutCounts (Err e) before now = (before ≤ now) × Rose before now

-- Each byte taken is a byte of room less.
abbrev pub RoomLeft : {T : Type 0} → Result T WriteFault → ℕ → Option ℕ → Option ℕ → Type 0
RoomLeft (Ok x) size before now = now ≡ option_map (λ r. r - size) before
RoomLeft (Err e) size before now = (n : ℕ) × (n < size) × (now ≡ option_map (λ r. r - n) before)
