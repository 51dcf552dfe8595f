-- The spot of the next place.
use Rattle.std.proofs.Common.{◌≡◌, ℕ, ◌+◌, ◌-◌, ◌<◌, ◌≤◌, List, [], ◌∷◌, ◌++◌, length, get_or, take, drop, sym, ap, ◌∙◌, arith, length-take-le}
use Rattle.std.specs.Prelude.{slice_range}
use Rattle.std.proofs.lemmas.List.{take_more, get_or-drop, length-drop}
use Rattle.span_text.specs.declared.spot.Spot.{Spot}
use Rattle.span_text.specs.Place.{place_of, place_after}
use Rattle.span_text.proofs.Places.{place_more, place_within}

module _ (text : List ℕ) (start at : ℕ) (order : start ≤ at) (inside : at < length text) where
  slice_more : slice_range text start (at + 1) ≡ slice_range text start at ++ get_or text at 0 ∷ []
  slice_more =
      let n : at + 1 - start ≡ at - start + 1 = omega arith in
      let place : start + (at - start) ≡ at = omega arith in
      let rest = length-drop start text in
      ap (λ k. take k (drop start text)) n
      ∙ take_more (drop start text) (at - start) 0 (omega arith)
      ∙ ap (λ b. slice_range text start at ++ b ∷ []) (get_or-drop start text (at - start) 0 ∙ ap (λ k. get_or text k 0) place)

  pub spot_more : (s : Spot) → s ≡ place_of (slice_range text start at) → place_after s (get_or text at 0) ≡ place_of (slice_range text start (at + 1))
  spot_more s is =
      ap (λ p. place_after p (get_or text at 0)) is
      ∙ sym (ap place_of slice_more ∙ place_more (slice_range text start at) (get_or text at 0))

  pub spot_fits : (s : Spot) → s ≡ place_of (slice_range text start at) → length text < 4294967295 → (s.line < 4294967295) × (s.column < 4294967295)
  spot_fits s is small =
      let rest = length-drop start text in
      let n : length (slice_range text start at) ≡ at - start = length-take-le (at - start) (drop start text) (omega arith) in
      let w = place_within (slice_range text start at) in
      let l : s.line ≡ (place_of (slice_range text start at)).line = ap (λ p. p.line) is in
      let c : s.column ≡ (place_of (slice_range text start at)).column = ap (λ p. p.column) is in
      (omega (arith, n, l, w.0, inside, small), omega (arith, n, c, w.1, inside, small))
