-- What words that are read name.
use Rattle.std.proofs.Common.{◌≡◌, ℕ, ◌≤◌, ◌⊎◌, List, [], ◌∷◌, Bool, true, false, ◌&&◌, if◌then◌else◌, Option, Some, None, Ok, length, inl, inr, refl, sym, ◌∙◌, ap, subst}
use Rattle.std.specs.Prelude.{nat_le, codes}
use Rattle.std.specs.List.{list_all}
use Rattle.std.specs.Str.{bytes_eq}
use Rattle.std.proofs.lemmas.Bool.{leb-true}
use Rattle.std.proofs.lemmas.Option.{same_Some, none-some}
use Rattle.record_book.specs.declared.record.Settings.{Settings}
use Rattle.run_face.specs.declared.words.RunWords.{RunWords}
use Rattle.run_face.specs.Words.{Named, IsNamed, TellsWords, named_files, files_behind, fuel_behind, fuel_in, is_file_word, are_programs, default_fuel, settings_of}
use Rattle.correlator_run.specs.Steps.{WordsRead, named_of}

-- a value that is given under a condition
given : {X : Type 0} (b : Bool) (x y : X) → (if b then Some x else None) ≡ Some y → (b ≡ true) × (x ≡ y)
given true x y h = (refl, same_Some _ _ h)
given false x y h = absurd (none-some _ h)

-- one of two values that may be given
one-of : {X : Type 0} (b : Bool) (x z : Option X) (y : X) → (if b then x else z) ≡ Some y → (x ≡ Some y) ⊎ (z ≡ Some y)
one-of true x z y h = inl h
one-of false x z y h = inr h

-- the second of two conditions
second : (a b : Bool) → (a && b) ≡ true → b ≡ true
second true b h = h
second false b h = absurd (cc)

-- words that may name programs are at most 64
programs-few : (words : List (List ℕ)) → are_programs words ≡ true → length words ≤ 64
programs-few words h =
    let behind = second (list_all is_file_word words) (nat_le 1 (length words) && nat_le (length words) 64) h in
    leb-true (length words) 64 (second (nat_le 1 (length words)) (nat_le (length words) 64) behind)

-- behind the fuel
files-few : (fuel : Option ℕ) (words : List (List ℕ)) (n : Named) → files_behind fuel words ≡ Some n → length n.programs ≤ 64
files-few None words n h = absurd (none-some _ h)
files-few (Some fuel) [] n h = absurd (none-some _ h)
files-few (Some fuel) (c ∷ []) n h = absurd (none-some _ h)
files-few (Some fuel) (c ∷ events ∷ programs) n h =
    let g = given (bytes_eq c (codes "--events") && (is_file_word events && are_programs programs)) _ n h in
    let files = second (bytes_eq c (codes "--events")) (is_file_word events && are_programs programs) g.0 in
    subst (λ (m : Named). length m.programs ≤ 64) g.1 (programs-few programs (second (is_file_word events) (are_programs programs) files))

-- behind the first two words
fuel-few : (words : List (List ℕ)) (n : Named) → fuel_behind words ≡ Some n → length n.programs ≤ 64
fuel-few [] n h = absurd (none-some _ h)
fuel-few (c ∷ []) n h = absurd (none-some _ h)
fuel-few (c ∷ m ∷ words) n h = elim (one-of _ (files_behind (fuel_in m) words) (files_behind (Some default_fuel) (c ∷ m ∷ words)) n h) [
  | inl g ↦ files-few (fuel_in m) words n g
  | inr g ↦ files-few (Some default_fuel) (c ∷ m ∷ words) n g
]

-- words name at most 64 program files
named-few : (words : List (List ℕ)) (n : Named) → named_files words ≡ Some n → length n.programs ≤ 64
named-few [] n h = absurd (none-some _ h)
named-few (a ∷ []) n h = absurd (none-some _ h)
named-few (a ∷ b ∷ words) n h = elim (one-of _ (fuel_behind words) None n h) [
  | inl g ↦ fuel-few words n g
  | inr g ↦ absurd (none-some _ g)
]

-- what is named is what was read
named-same : (n : Named) (w : RunWords) → IsNamed n w → n ≡ named_of w
named-same n w is = λ i. record { events = sym is.events i; programs = sym is.programs i; fuel = sym (ap (λ (s : Settings). s.fuel) is.settings) i }

-- what is told of words that are read
pub words_read : (words : List (List ℕ)) (w : RunWords) → TellsWords words (Ok w) → WordsRead words (Ok w)
words_read words w (n, at, is) = let same = named-same n w is in (at ∙ ap Some same, is.settings ∙ ap settings_of same)

pub words_few : (words : List (List ℕ)) (w : RunWords) → TellsWords words (Ok w) → length w.programs ≤ 64
words_few words w (n, at, is) = subst (λ (p : List (List ℕ)). length p ≤ 64) (sym is.programs) (named-few words n at)
