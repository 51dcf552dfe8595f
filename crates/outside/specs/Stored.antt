-- Files kept in memory, as a list.
use Rattle.std.specs.Prelude.{ℕ, List, [], ◌∷◌, drop, Option, Some, None, unwrap_or, slice_get, if◌then◌else◌}
use Rattle.std.specs.Option.{option_map}
use Rattle.std.specs.Str.{bytes_eq}
use Rattle.outside.specs.declared.store.StoredFile.{StoredFile}
use Rattle.outside.specs.declared.store.Store.{Store}
use Rattle.outside.specs.Told.{Told}

-- What the first file of this name holds.
abbrev pub file_in : List StoredFile → List ℕ → Option (List ℕ)
file_in [] name = None
file_in (f ∷ fs) name = if bytes_eq f.name name then Some f.bytes else file_in fs name

-- What the file at this place holds, from a byte on.
abbrev pub rest_at : List StoredFile → ℕ → ℕ → List ℕ
rest_at files place from = drop from (unwrap_or (option_map (λ f. f.bytes) (slice_get files place)) [])

-- What these files tell before one is begun.
abbrev pub first_told : List StoredFile → Told
first_told files = record { files = file_in files; name = []; rest = [] }

-- What the files tell, with the one begun last.
abbrev pub store_told : Store → Told
store_told s = record { files = file_in s.files; name = unwrap_or s.name []; rest = rest_at s.files s.place s.from }
