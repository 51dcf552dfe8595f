-- Steps of `read_rest`.
use Rattle.std.proofs.Common.{◌≡◌, ℕ, ◌+◌, List, [], ◌++◌, length, drop, Option, Some, None, IfSome, refl, sym}
use Rattle.std.proofs.Math.Seq.{drop-append-add}
use Rattle.std.specs.Option.{option_map}
use Rattle.outside.specs.Told.{Told, after_read}
use Rattle.outside.specs.declared.traits.Got.TheVariants as got

-- the bytes so far and the rest now are the rest at first
abbrev pub IsReading : Option Told → Option Told → List ℕ → Type 0
IsReading None now bytes = now ≡ None
IsReading (Some t) now bytes = (rest : List ℕ) × (t.rest ≡ bytes ++ rest) × (now ≡ Some (record { files = t.files; name = t.name; rest = rest }))

pub reading-init : (o : Option Told) (bytes : List ℕ) → bytes ≡ [] → IsReading o o bytes
reading-init None bytes e = refl
reading-init (Some t) bytes e = (t.rest, rw e refl, refl)

-- one byte beyond the limit
pub reading-beyond : (before mid now : Option Told) (bytes : List ℕ) (n most : ℕ) → IsReading before mid bytes
    → now ≡ option_map (after_read (got.Bytes n)) mid → length bytes + n ≡ most + 1
    → IfSome before (λ t. IfSome now (λ u. u.rest ≡ drop (most + 1) t.rest))
reading-beyond None mid now bytes n most r e size = tt
reading-beyond (Some t) mid now bytes n most (rest, split, is) e size = rw (e, is, split, ← size) (sym (drop-append-add bytes rest n))
