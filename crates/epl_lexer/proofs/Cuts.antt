-- Where a text may be cut: before and behind a byte of ASCII.
use Rattle.std.proofs.Common.{◌≡◌, ℕ, ◌+◌, ◌-◌, ◌<◌, ◌≤◌, Bool, true, false, List, [], ◌∷◌, length, get_or, refl, sym, ◌∙◌, subst, arith, ⊎_elim}
use Rattle.std.specs.Prelude.{nat_lt, ◌&&◌, ◌==◌, ◌||◌}
use Rattle.std.proofs.lemmas.Bool.{eqb-true, ltb-true, cases_lt}
use Rattle.std.specs.Str.{IsUtf8, IsCharBoundary}
use Rattle.std.proofs.lemmas.Str.{IsCharBoundary-before_ascii, IsCharBoundary-after_ascii}
use Rattle.grammar_forms.specs.Rule.{contains, has}
use Rattle.grammar_forms.proofs.Runs.{Ends, ends}
use Rattle.grammar_forms.proofs.Sets.{has_in}
use Rattle.epl_lexer.specs.Bytes.{row_of, from_on, digits, letters, word_bytes}
use Rattle.epl_lexer.specs.Reading.{past}
use Rattle.epl_lexer.proofs.Sets.{has_here, has_not, lies_inside, class_inside}
use Rattle.epl_lexer.specs.declared.bytes.Class.{Class}
use Rattle.epl_lexer.specs.declared.bytes.Class.TheVariants.{Blank, Letter, Digit, Word, Plain}
use Rattle.epl_lexer.specs.Classes.{set_of}

-- all of the set are ASCII
abbrev pub is_ascii : List ℕ → Bool
is_ascii [] = true
is_ascii (x ∷ xs) = nat_lt x 128 && is_ascii xs

contains_ascii : (c : ℕ) (set : List ℕ) → is_ascii set ≡ true → contains c set ≡ true → c < 128
contains_ascii c [] a h = cc
contains_ascii c (x ∷ xs) a h = by_test (x == c) refl (contains_ascii c xs) h where
  both : (p q : Bool) → (p && q) ≡ true → (p ≡ true) × (q ≡ true)
  both true q e = (refl, e)
  both false q e = cc

  parts : (nat_lt x 128 ≡ true) × (is_ascii xs ≡ true)
  parts = both (nat_lt x 128) (is_ascii xs) a

  by_test : (b : Bool) → (x == c) ≡ b → (is_ascii xs ≡ true → contains c xs ≡ true → c < 128) → (b || contains c xs) ≡ true → c < 128
  by_test true e go k = subst (λ n. n < 128) (eqb-true x c e) (ltb-true x 128 parts.0)
  by_test false e go k = go parts.1 k

module _ (text : List ℕ) where
  ascii_here : (set : List ℕ) (at : ℕ) → is_ascii set ≡ true → at < length text → has (row_of text) set at ≡ true → get_or text at 0 < 128
  ascii_here set at a inside h = contains_ascii (get_or text at 0) set a (sym (has_here text set at inside) ∙ h)

  pub cut_before : (set : List ℕ) (at : ℕ) → is_ascii set ≡ true → at < length text → has (row_of text) set at ≡ true → IsCharBoundary text at
  cut_before set at a inside h = IsCharBoundary-before_ascii text at inside (ascii_here set at a inside h)

  pub cut_behind : (set : List ℕ) (at : ℕ) → is_ascii set ≡ true → IsUtf8 text → at < length text → has (row_of text) set at ≡ true → IsCharBoundary text (at + 1)
  cut_behind set at a utf8 inside h = IsCharBoundary-after_ascii text at utf8 inside (ascii_here set at a inside h)

  -- a run that has a byte
  pub record Past (set : List ℕ) (at : ℕ) : Type 0 where
    pub some : at < past text set at
    pub within : past text set at ≤ length text
    pub each : (i : ℕ) → at ≤ i → i < past text set at → has (row_of text) set i ≡ true
    pub stops : has (row_of text) set (past text set at) ≡ false

  pub past_run : (set : List ℕ) (at : ℕ) → contains 256 set ≡ false → has (row_of text) set at ≡ true → Past set at
  past_run set at lacks h = by_place (ends (row_of text) set (length text - at) at) where
    inside : at < length text
    inside = lies_inside text set lacks at h

    by_place : Ends (row_of text) set (length text - at) at → Past set at
    by_place e =
        let low = e.not_before in
        let high = e.not_past in
        record {
          some = ⊎_elim (λ lt. lt) (λ le. let same : past text set at ≡ at = omega (arith, low, le) in
              let isnt = subst (λ n. has (row_of text) set n ≡ false) same (e.last (omega (arith, low, le, inside))) in absurd (cc)) (cases_lt at (past text set at));
          within = omega (arith, high, inside);
          each = e.each;
          stops = ⊎_elim (λ lt. e.last (omega (arith, lt, inside))) (λ le. has_not text set (past text set at) le lacks) (cases_lt (past text set at) (length text));
        }

  pub cut_past : (set : List ℕ) (at : ℕ) → contains 256 set ≡ false → is_ascii set ≡ true → IsUtf8 text → has (row_of text) set at ≡ true → IsCharBoundary text (past text set at)
  cut_past set at lacks a utf8 h =
      let p = past_run set at lacks h in
      let s = p.some in
      let w = p.within in
      let n : past text set at - 1 + 1 ≡ past text set at = omega arith in
      subst (IsCharBoundary text) n (cut_behind set (past text set at - 1) a utf8 (omega arith) (p.each (past text set at - 1) (omega arith) (omega arith)))

  class_ascii : (class : Class) → (class ≡ Plain → ⊥) → is_ascii (set_of class) ≡ true
  unfolding digits letters word_bytes from_on
  class_ascii Blank h = refl
  class_ascii Letter h = refl
  class_ascii Digit h = refl
  class_ascii Word h = refl
  class_ascii Plain h = absurd (h refl)

  pub class_end : (class : Class) (at : ℕ) → has (row_of text) (set_of class) at ≡ true → (at < past text (set_of class) at) × (past text (set_of class) at ≤ length text)
  class_end class at h = let p = past_run (set_of class) at (class_inside class) h in (p.some, p.within)

  pub class_start : (class : Class) (at : ℕ) → has (row_of text) (set_of class) at ≡ true → at ≤ length text
  class_start class at h = let i = lies_inside text (set_of class) (class_inside class) at h in omega arith

  pub class_before : (class : Class) (at : ℕ) → (class ≡ Plain → ⊥) → has (row_of text) (set_of class) at ≡ true → IsCharBoundary text at
  class_before class at ascii h = cut_before (set_of class) at (class_ascii class ascii) (lies_inside text (set_of class) (class_inside class) at h) h

  pub class_behind : (class : Class) (at : ℕ) → (class ≡ Plain → ⊥) → IsUtf8 text → has (row_of text) (set_of class) at ≡ true → IsCharBoundary text (past text (set_of class) at)
  class_behind class at ascii utf8 h = cut_past (set_of class) at (class_inside class) (class_ascii class ascii) utf8 h

  pub letter_in_word : (at : ℕ) → has (row_of text) letters at ≡ true → has (row_of text) word_bytes at ≡ true
  unfolding digits letters word_bytes from_on
  letter_in_word at h = has_in (row_of text) letters word_bytes at refl h

pub ruleset cuts = (class_end, class_start, class_before, class_behind)
