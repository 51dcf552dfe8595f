-- A file found in a list.
use Rattle.std.proofs.Common.{◌≡◌, ℕ, ◌+◌, ◌<◌, List, ◌∷◌, length, drop, get_or, true, Some, refl, sym, ◌∙◌, ap}
use Rattle.std.proofs.lemmas.List.{at_drop_more}
use Rattle.std.proofs.lemmas.Option.{slice_get_read}
use Rattle.std.specs.Str.{bytes_eq}
use Rattle.outside.specs.Stored.{file_in, rest_at}
use Rattle.outside.specs.declared.store.StoredFile.{StoredFile}

pub found-at : (files : List StoredFile) (name : List ℕ) (i : ℕ) (f : StoredFile) → i < length files → f ≡ get_or files i f
    → file_in (drop i files) name ≡ file_in files name → bytes_eq f.name name ≡ true
    → file_in files name ≡ Some (rest_at files i 0)
found-at files name i f lt is rest eq =
    let got = slice_get_read files (length files) i f refl lt is in
    let there : file_in (drop i files) name ≡ file_in (f ∷ drop (i + 1) files) name =
    at_drop_more (λ fs. file_in fs name) files i f lt ∙ ap (λ g. file_in (g ∷ drop (i + 1) files) name) (sym is) in
    sym rest ∙ there ∙ rw (eq, got) refl
