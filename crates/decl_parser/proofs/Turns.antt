-- A turn of the cut, beside a loop that counts up.
use Rattle.std.proofs.Common.{◌≡◌, ℕ, suc, ◌+◌, ◌-◌, ◌<◌, ◌≤◌, List, Some, None, ap, ◌∙◌, arith}
use Rattle.epl_lexer.specs.declared.token.Token.{Token}
use Rattle.decl_parser.specs.declared.region.Region.{Region}
use Rattle.decl_parser.specs.Declaring.{piece, onward, cut}

module _ (tokens : List Token) (n t at : ℕ) (here : Region) where
  pub cut_none : t < n → piece tokens here at ≡ None → cut tokens (n - t) here at ≡ (here, at)
  unfolding cut
  cut_none below e =
      let turn : n - t ≡ suc (n - (t + 1)) = omega arith in
      ap (λ k. cut tokens k here at) turn ∙ ap (λ o. onward o (here, at) (cut tokens (n - (t + 1)))) e

  pub cut_some : (next : Region) (end : ℕ) → t < n → piece tokens here at ≡ Some (next, end) → cut tokens (n - t) here at ≡ cut tokens (n - (t + 1)) next end
  unfolding cut
  cut_some next end below e =
      let turn : n - t ≡ suc (n - (t + 1)) = omega arith in
      ap (λ k. cut tokens k here at) turn ∙ ap (λ o. onward o (here, at) (cut tokens (n - (t + 1)))) e

  pub cut_over : n ≤ t → cut tokens (n - t) here at ≡ (here, at)
  unfolding cut
  cut_over done = let none : n - t ≡ 0 = omega arith in ap (λ k. cut tokens k here at) none

pub ruleset cuts = (cut_none, cut_some, cut_over)
