-- The place behind one byte more, and how far a place can lie.
use Rattle.std.proofs.Common.{◌≡◌, ℕ, ◌+◌, ◌<◌, ◌≤◌, Bool, true, false, cond, List, [], ◌∷◌, ◌++◌, length, take, get_or, refl, sym, ap, ◌∙◌, arith}
use Rattle.std.specs.Prelude.{not}
use Rattle.std.specs.List.{count_by, prefix_len}
use Rattle.std.proofs.lemmas.List.{reverse-append, take_more, length-take-le}
use Rattle.std.proofs.lemmas.List.Sums.{sum_by-append, count_by-le-length, suffix_len-le-length}
use Rattle.span_text.specs.declared.spot.Spot.{Spot}
use Rattle.span_text.specs.Place.{is_newline, since_newline, place_of, place_after}

pub place_more : (before : List ℕ) (b : ℕ) → place_of (before ++ b ∷ []) ≡ place_after (place_of before) b
unfolding place_of
place_more before b = by_test (is_newline b) refl where
  stays : ℕ → Bool
  stays byte = not (is_newline byte)

  lines : count_by is_newline (before ++ b ∷ []) ≡ count_by is_newline before + count_by is_newline (b ∷ [])
  lines = sum_by-append (λ x. cond (is_newline x) 1 0) before (b ∷ [])

  columns : since_newline (before ++ b ∷ []) ≡ cond (stays b) (1 + since_newline before) 0
  columns = ap (prefix_len stays) (reverse-append before (b ∷ []))

  by_test : (t : Bool) → is_newline b ≡ t → place_of (before ++ b ∷ []) ≡ place_after (place_of before) b
  by_test true e =
      let l : 1 + count_by is_newline (before ++ b ∷ []) ≡ (1 + count_by is_newline before) + 1 = let h : cond (is_newline b) 1 0 ≡ 1 = ap {B = ℕ} (λ t. cond t 1 0) e in omega (arith, lines, h) in
      let c : 1 + since_newline (before ++ b ∷ []) ≡ 1 = ap {B = ℕ} (λ n. 1 + n) (columns ∙ ap {B = ℕ} (λ t. cond (not t) (1 + since_newline before) 0) e) in
      (λ i. record { line = l i; column = c i }) ∙ sym (ap (λ t. cond t (record { line = (place_of before).line + 1; column = 1 }) (record { line = (place_of before).line; column = (place_of before).column + 1 })) e)
  by_test false e =
      let l : 1 + count_by is_newline (before ++ b ∷ []) ≡ 1 + count_by is_newline before = let h : cond (is_newline b) 1 0 ≡ 0 = ap {B = ℕ} (λ t. cond t 1 0) e in omega (arith, lines, h) in
      let c : 1 + since_newline (before ++ b ∷ []) ≡ (1 + since_newline before) + 1 = let h = columns ∙ ap {B = ℕ} (λ t. cond (not t) (1 + since_newline before) 0) e in omega (arith, h) in
      (λ i. record { line = l i; column = c i }) ∙ sym (ap (λ t. cond t (record { line = (place_of before).line + 1; column = 1 }) (record { line = (place_of before).line; column = (place_of before).column + 1 })) e)

pub place_within : (before : List ℕ) → ((place_of before).line ≤ length before + 1) × ((place_of before).column ≤ length before + 1)
unfolding place_of
place_within before =
    let l = count_by-le-length is_newline before in
    let c = suffix_len-le-length (λ byte. not (is_newline byte)) before in
    (omega arith, omega arith)

pub place_step : (text : List ℕ) (at : ℕ) → at < length text → place_of (take (at + 1) text) ≡ place_after (place_of (take at text)) (get_or text at 0)
place_step text at h = ap place_of (take_more text at 0 h) ∙ place_more (take at text) (get_or text at 0)

pub place_fits : (text : List ℕ) (at : ℕ) (s : Spot) → s ≡ place_of (take at text) → at < length text → length text < 4294967295 → (s.line < 4294967295) × (s.column < 4294967295)
place_fits text at s is inside small =
    let n : length (take at text) ≡ at = length-take-le at text (omega arith) in
    let w = place_within (take at text) in
    let l : s.line ≡ (place_of (take at text)).line = ap (λ p. p.line) is in
    let c : s.column ≡ (place_of (take at text)).column = ap (λ p. p.column) is in
    (omega (arith, n, l, w.0), omega (arith, n, c, w.1))

pub ruleset places = (place_step)
