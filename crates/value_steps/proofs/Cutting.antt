-- Characters counted, and cut off, byte by byte.
use Rattle.value_steps.proofs.Common.{ℕ, zero, suc, Bool, true, false, List, [], length, get_or, take, drop, refl, sym, ap, ◌∙◌, arith, add-one, drop-cons, take-suc}
use Rattle.std.proofs.Common.{◌≡◌, ◌+◌, ◌<◌, ◌≤◌, ◌∷◌, ◌++◌, ◌-◌, append_assoc}
use Rattle.std.proofs.lemmas.List.{append-nil}
use Rattle.std.specs.Prelude.{◌==◌}
use Rattle.std.proofs.lemmas.Bool.Decides.{nat_tests}
use Rattle.body_meaning.specs.Values.{goes_on, characters, from_character, before_character}

-- a byte and those behind it
rest_is : (t : List ℕ) (i : ℕ) → i < length t → drop i t ≡ get_or t i 0 ∷ drop (i + 1) t
rest_is t i h = rw add-one (drop-cons t i 0 h)

front_is : (t : List ℕ) (i : ℕ) → i < length t → take (i + 1) t ≡ take i t ++ get_or t i 0 ∷ []
front_is t i h = rw add-one (take-suc t i 0 h)

grown : (t rest : List ℕ) (i : ℕ) → i < length t → take (i + 1) t ++ rest ≡ take i t ++ (get_or t i 0 ∷ rest)
grown t rest i h = rw (front_is t i h) (append_assoc (take i t) (get_or t i 0 ∷ []) rest)

-- counting

count_on : (b : ℕ) (bs : List ℕ) → goes_on b ≡ true → characters (b ∷ bs) ≡ characters bs
count_on b bs h = rw h (omega arith)

count_new : (b : ℕ) (bs : List ℕ) → goes_on b ≡ false → characters (b ∷ bs) ≡ 1 + characters bs
count_new b bs h = rw h refl

pub counts_on : (t : List ℕ) (i : ℕ) → i < length t → goes_on (get_or t i 0) ≡ true → characters (drop (i + 1) t) ≡ characters (drop i t)
counts_on t i h e = sym (ap characters (rest_is t i h) ∙ count_on (get_or t i 0) (drop (i + 1) t) e)

pub counts_new : (t : List ℕ) (i : ℕ) → i < length t → goes_on (get_or t i 0) ≡ false → 1 + characters (drop (i + 1) t) ≡ characters (drop i t)
counts_new t i h e = sym (ap characters (rest_is t i h) ∙ count_new (get_or t i 0) (drop (i + 1) t) e)

-- cutting off

positive : (n : ℕ) → 0 < n → (n == 0) ≡ false
positive n h = grind (arith, nat_tests)

before_on : (n b : ℕ) (bs : List ℕ) → goes_on b ≡ true → before_character n (b ∷ bs) ≡ b ∷ before_character n bs
before_on n b bs h = rw h refl

before_new : (n b : ℕ) (bs : List ℕ) → goes_on b ≡ false → 0 < n → before_character n (b ∷ bs) ≡ b ∷ before_character (n - 1) bs
before_new n b bs h k = rw (h, positive n k) refl

before_none : (b : ℕ) (bs : List ℕ) → goes_on b ≡ false → before_character 0 (b ∷ bs) ≡ []
before_none b bs h = rw h refl

from_on : (n b : ℕ) (bs : List ℕ) → goes_on b ≡ true → from_character n (b ∷ bs) ≡ from_character n bs
from_on n b bs h = rw h refl

from_new : (n b : ℕ) (bs : List ℕ) → goes_on b ≡ false → 0 < n → from_character n (b ∷ bs) ≡ from_character (n - 1) bs
from_new n b bs h k = rw (h, positive n k) refl

from_none : (b : ℕ) (bs : List ℕ) → goes_on b ≡ false → from_character 0 (b ∷ bs) ≡ b ∷ bs
from_none b bs h = rw h refl

-- what is left of a text at a byte, with so many characters still to pass
pub record Cut (t : List ℕ) (number at before : ℕ) : Type 0 where
  pub front : take at t ++ before_character before (drop at t) ≡ before_character number t
  pub rest : from_character before (drop at t) ≡ from_character number t

pub cut_first : (t : List ℕ) (number : ℕ) → Cut t number 0 number
cut_first t number = record { front = refl; rest = refl }

pub cut_on : (t : List ℕ) (number at before : ℕ) → at < length t → goes_on (get_or t at 0) ≡ true → Cut t number at before → Cut t number (at + 1) before
cut_on t number at before h e cut = record {
  front = grown t (before_character before (drop (at + 1) t)) at h ∙ ap (λ xs. take at t ++ xs) (sym (ap (before_character before) (rest_is t at h) ∙ before_on before (get_or t at 0) (drop (at + 1) t) e)) ∙ cut.front;
  rest = sym (ap (from_character before) (rest_is t at h) ∙ from_on before (get_or t at 0) (drop (at + 1) t) e) ∙ cut.rest;
}

pub cut_new : (t : List ℕ) (number at before : ℕ) → at < length t → goes_on (get_or t at 0) ≡ false → 0 < before → Cut t number at before → Cut t number (at + 1) (before - 1)
cut_new t number at before h e k cut = record {
  front = grown t (before_character (before - 1) (drop (at + 1) t)) at h ∙ ap (λ xs. take at t ++ xs) (sym (ap (before_character before) (rest_is t at h) ∙ before_new before (get_or t at 0) (drop (at + 1) t) e k)) ∙ cut.front;
  rest = sym (ap (from_character before) (rest_is t at h) ∙ from_new before (get_or t at 0) (drop (at + 1) t) e k) ∙ cut.rest;
}

pub cut_front : (t : List ℕ) (number at : ℕ) → at < length t → goes_on (get_or t at 0) ≡ false → Cut t number at 0 → take at t ≡ before_character number t
cut_front t number at h e cut = sym (append-nil (take at t)) ∙ ap (λ xs. take at t ++ xs) (sym (ap (before_character 0) (rest_is t at h) ∙ before_none (get_or t at 0) (drop (at + 1) t) e)) ∙ cut.front

pub cut_rest : (t : List ℕ) (number at : ℕ) → at < length t → goes_on (get_or t at 0) ≡ false → Cut t number at 0 → drop at t ≡ from_character number t
cut_rest t number at h e cut = rest_is t at h ∙ sym (ap (from_character 0) (rest_is t at h) ∙ from_none (get_or t at 0) (drop (at + 1) t) e) ∙ cut.rest
