-- Blanks, comments and gaps: where they stand, and that there is one end.
use Rattle.std.proofs.Common.{◌≡◌, ℕ, ◌+◌, ◌<◌, ◌≤◌, true, false, List, [], ◌∷◌, ◌++◌, length, refl, ap, subst, arith, ⊎_elim, inl, inr}
use Rattle.std.specs.Prelude.{◌&&◌}
use Rattle.std.proofs.lemmas.Bool.{cases_lt}
use Rattle.grammar_forms.specs.Rule.{has, Many}
use Rattle.epl_lexer.specs.Bytes.{row_of, blanks, newline, slash, star}
use Rattle.epl_lexer.specs.Spelling.{IsSpace, NoSpace, IsGap, closes}
use Rattle.epl_lexer.proofs.Sets.{has_not}

-- a walk from place to place along which something holds of each
pub walked : (P : ℕ → Type 0) (from at : ℕ) → ((i : ℕ) → from ≤ i → i < at → P i) → P at → (i : ℕ) → from ≤ i → i < at + 1 → P i
walked P from at before here i a b =
    ⊎_elim (λ lt. before i a lt) (λ le. let e : at ≡ i = omega arith in subst P e here) (cases_lt i at)

module _ (text : List ℕ) where
  many_more : (xs : List (Unit {0})) (at mid end : ℕ) → Many (IsSpace text) xs at mid → IsSpace text tt mid end → Many (IsSpace text) (xs ++ tt ∷ []) at end
  many_more [] at mid end m s = (end, subst (λ k. IsSpace text tt k end) m s, refl)
  many_more (x ∷ xs) at mid end m s = (m.0, m.1, many_more xs m.0 mid end m.2 s)

  pub gap_none : (at : ℕ) → IsGap text at at
  gap_none at = ([], refl)

  pub gap_more : (at mid end : ℕ) → IsGap text at mid → IsSpace text tt mid end → IsGap text at end
  gap_more at mid end g s = (g.0 ++ tt ∷ [], many_more g.0 at mid end g.1 s)

  pub blank : (at : ℕ) → has (row_of text) blanks at ≡ true → IsSpace text tt at (at + 1)
  blank at h = inl (h, refl)

  pub line_comment : (at end : ℕ) → has (row_of text) slash at ≡ true → has (row_of text) slash (at + 1) ≡ true → at + 2 ≤ end → end ≤ length text → ((i : ℕ) → at + 2 ≤ i → i < end → has (row_of text) newline i ≡ false) → (end < length text → has (row_of text) newline end ≡ true) → IsSpace text tt at end
  line_comment at end a b c d e f =
      inr (inl (record { opens = (a, b); behind = c; within = d; on_line = e; stops = f }))

  pub block_comment : (at last : ℕ) → has (row_of text) slash at ≡ true → has (row_of text) star (at + 1) ≡ true → at + 2 ≤ last → closes text last ≡ true → ((i : ℕ) → at + 2 ≤ i → i < last → closes text i ≡ false) → IsSpace text tt at (last + 2)
  block_comment at last a b c d e =
      inr (inr (record { opens = (a, b); last = last; behind = c; closed = d; first = e; ends = refl }))

  pub no_slash : (at : ℕ) → has (row_of text) blanks at ≡ false → has (row_of text) slash at ≡ false → NoSpace text at
  no_slash at b s end (inl h) = let y = h.0 in cc
  no_slash at b s end (inr (inl h)) = let y = h.opens.0 in cc
  no_slash at b s end (inr (inr h)) = let y = h.opens.0 in cc

  pub no_comment : (at : ℕ) → has (row_of text) blanks at ≡ false → has (row_of text) slash (at + 1) ≡ false → has (row_of text) star (at + 1) ≡ false → NoSpace text at
  no_comment at b s t end (inl h) = let y = h.0 in cc
  no_comment at b s t end (inr (inl h)) = let y = h.opens.1 in cc
  no_comment at b s t end (inr (inr h)) = let y = h.opens.1 in cc

  pub unclosed : (at : ℕ) → has (row_of text) blanks at ≡ false → has (row_of text) slash (at + 1) ≡ false → ((i : ℕ) → at + 2 ≤ i → closes text i ≡ false) → NoSpace text at
  unclosed at b s n end (inl h) = let y = h.0 in cc
  unclosed at b s n end (inr (inl h)) = let y = h.opens.1 in cc
  unclosed at b s n end (inr (inr h)) = let y = h.closed in let z = n h.last h.behind in cc

  -- past the end nothing closes a comment
  pub no_more_closes : (from at : ℕ) → length text ≤ at → ((i : ℕ) → from ≤ i → i < at → closes text i ≡ false) → (i : ℕ) → from ≤ i → closes text i ≡ false
  no_more_closes from at done before i a =
      ⊎_elim (λ lt. before i a lt)
      (λ le. let e = has_not text star i (omega arith) refl in ap (λ b. b && has (row_of text) slash (i + 1)) e)
      (cases_lt i at)

pub ruleset gaps = (gap_none, gap_more)

pub ruleset spaces = (blank, line_comment, block_comment, no_slash, no_comment, unclosed)

pub ruleset walks = (walked)
