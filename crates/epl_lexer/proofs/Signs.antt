-- The signs: how long they are, and with which bytes they begin.
use Rattle.std.proofs.Common.{◌≡◌, ℕ, zero, suc, ◌+◌, ◌-◌, ◌<◌, ◌≤◌, Bool, true, false, List, [], ◌∷◌, length, get_or, drop, Some, refl, sym, ap, ◌∙◌, subst, arith, ⊎_elim, inl, inr, length-take-le}
use Rattle.std.specs.Prelude.{◌⊎◌, ◌&&◌, ◌||◌, ◌==◌, slice_range}
use Rattle.std.specs.Str.{bytes_eq}
use Rattle.std.proofs.lemmas.Bool.{eqb-true}
use Rattle.std.proofs.lemmas.List.{length-drop, get_or-take, get_or-drop}
use Rattle.std.proofs.lemmas.List.Quantifiers.{position-Some}
use Rattle.std.proofs.lemmas.Slice.Eq.{bytes_eq-Decides}
use Rattle.grammar_forms.specs.Rule.{contains, has}
use Rattle.epl_lexer.specs.declared.token.TheConstants.{SIGNS}
use Rattle.epl_lexer.specs.Bytes.{row_of}
use Rattle.epl_lexer.specs.Spelling.{sign_number}

-- the bytes with which signs begin
abbrev pub sign_starts : List ℕ
sign_starts = 123 ∷ 125 ∷ 40 ∷ 41 ∷ 91 ∷ 93 ∷ 59 ∷ 44 ∷ 46 ∷ 58 ∷ 61 ∷ 33 ∷ 60 ∷ 62 ∷ 43 ∷ 45 ∷ 42 ∷ 47 ∷ 37 ∷ []

abbrev is_shaped : List ℕ → Bool
is_shaped word = (length word == 1 || length word == 2) && contains (get_or word 0 256) sign_starts

abbrev all_shaped : {X : Type 0} → (X → List ℕ) → List X → Bool
all_shaped v [] = true
all_shaped v (s ∷ rest) = is_shaped (v s) && all_shaped v rest

both : (p q : Bool) → (p && q) ≡ true → (p ≡ true) × (q ≡ true)
both true q e = (refl, e)
both false q e = cc

either : (p q : Bool) → (p || q) ≡ true → (p ≡ true) ⊎ (q ≡ true)
either true q e = inl refl
either false q e = inr e

shaped_at : {X : Type 0} (v : X → List ℕ) (table : List X) (i : ℕ) (d : X) → i < length table → all_shaped v table ≡ true → is_shaped (v (get_or table i d)) ≡ true
shaped_at v [] i d inside h = absurd (omega arith)
shaped_at v (s ∷ rest) zero d inside h = (both (is_shaped (v s)) (all_shaped v rest) h).0
shaped_at v (s ∷ rest) (suc i) d inside h =
    shaped_at v rest i d (omega arith) (both (is_shaped (v s)) (all_shaped v rest) h).1

pub record Shaped (word : List ℕ) : Type 0 where
  pub size : (length word ≡ 1) ⊎ (length word ≡ 2)
  pub starts : contains (get_or word 0 256) sign_starts ≡ true

is_same : (v w : List ℕ) → bytes_eq v w ≡ true → v ≡ w
is_same v w e = (bytes_eq-Decides v w).0 e

pub sign_is_shaped : (word : List ℕ) (n : ℕ) → sign_number word ≡ Some n → Shaped word
unfolding sign_number
sign_is_shaped word n h =
    let found = position-Some (λ s. bytes_eq s.now word) SIGNS n (record { now = [] }) h in
    let same : (get_or SIGNS n (record { now = [] })).now ≡ word = is_same (get_or SIGNS n (record { now = [] })).now word found.1 in
    let shape = both (length word == 1 || length word == 2) (contains (get_or word 0 256) sign_starts) (subst (λ w. is_shaped w ≡ true) same (shaped_at (λ s. s.now) SIGNS n (record { now = [] }) found.0 refl)) in
    record {
      size = ⊎_elim (λ e. inl (eqb-true _ 1 e)) (λ e. inr (eqb-true _ 2 e)) (either (length word == 1) (length word == 2) shape.0);
      starts = shape.1;
    }

module _ (text : List ℕ) (at end : ℕ) where
  slice_length : end ≤ length text → length (slice_range text at end) ≡ end - at
  slice_length within =
      let d = length-drop at text in
      length-take-le (end - at) (drop at text) (omega arith)

  slice_first : at < end → get_or (slice_range text at end) 0 256 ≡ get_or text at 256
  slice_first some =
      let zero_more : at + 0 ≡ at = omega arith in
      get_or-take (end - at) (drop at text) 0 256 (omega arith) ∙ get_or-drop at text 0 256 ∙ ap (λ k. get_or text k 256) zero_more

  -- where a sign stands, it takes one byte or two, and its first byte is one of signs
  pub record SignThere : Type 0 where
    pub size : (end ≡ at + 1) ⊎ (end ≡ at + 2)
    pub starts : has (row_of text) sign_starts at ≡ true

  pub sign_there : (n : ℕ) → end ≤ length text → sign_number (slice_range text at end) ≡ Some n → SignThere
  unfolding has
  sign_there n within h =
      let shape = sign_is_shaped (slice_range text at end) n h in
      let l = slice_length within in
      let some : at < end = ⊎_elim (λ e. omega (arith, e, l)) (λ e. omega (arith, e, l)) shape.size in
      record {
        size = ⊎_elim (λ e. inl (omega (arith, e, l))) (λ e. inr (omega (arith, e, l))) shape.size;
        starts = ap (λ c. contains c sign_starts) (sym (slice_first some)) ∙ shape.starts;
      }
