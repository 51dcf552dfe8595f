-- What `read_whole` and `put_all` answer where nothing fails but memory.
use Rattle.std.proofs.Common.{◌≡◌, ℕ, ◌-◌, ◌^◌, ◌<◌, List, length, nat_lt, if◌then◌else◌, Option, Some, None, Result, Ok, Err, refl, arith}
use Rattle.std.proofs.lemmas.Bool.{lt-ltb, le-ltb}
use Rattle.outside.specs.declared.whole.FileFault.{FileFault}
use Rattle.outside.specs.declared.whole.FileFault.TheVariants as fault
use Rattle.outside.specs.Answers.{Moved, WholeCounts, WholeGives}

-- What is answered for a file where nothing fails.
abbrev pub whole_of : Option (List ℕ) → ℕ → Result (List ℕ) FileFault
whole_of None most = Err fault.Missing
whole_of (Some bytes) most = if nat_lt most (length bytes) then Err fault.TooLong else Ok bytes

-- The answer is this one, or memory is short.
abbrev pub IsOrMemory : Result (List ℕ) FileFault → Result (List ℕ) FileFault → Type 0
IsOrMemory want (Ok bytes) = want ≡ Ok bytes
IsOrMemory want (Err fault.Missing) = want ≡ Err fault.Missing
IsOrMemory want (Err fault.Read) = ⊥
IsOrMemory want (Err fault.TooLong) = want ≡ Err fault.TooLong
IsOrMemory want (Err fault.Memory) = Unit {0}

-- Where no fault was counted, the file decides.
pub whole-or-memory : (file : Option (List ℕ)) (most : ℕ) (result : Result (List ℕ) FileFault) (m : Moved)
    → WholeGives file most result → WholeCounts result m
    → m.faults_now ≡ m.faults_before → m.faults_before < 2 ^ 64 - 1
    → IsOrMemory (whole_of file most) result
whole-or-memory file most (Ok bytes) m gives counts same small = rw (gives.0, le-ltb _ _ gives.1) refl
whole-or-memory file most (Err fault.Missing) m gives counts same small = rw gives refl
whole-or-memory file most (Err fault.Read) m gives (least, rose, missed) same small = omega arith
whole-or-memory file most (Err fault.TooLong) m (bytes, is, long) counts same small = rw (is, lt-ltb _ _ long) refl
whole-or-memory file most (Err fault.Memory) m gives counts same small = tt
