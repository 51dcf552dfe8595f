-- A path is followed step by step.
use Rattle.std.proofs.Common.{◌≡◌, ◌+◌, ◌<◌, ◌∷◌}
use Rattle.value_steps.proofs.Common.{ℕ, List, length, get_or, drop, Ok, sym, ap, ◌∙◌, add-one, drop-cons, Value, Move, part, then_try}
use Rattle.value_steps.specs.Parts.{followed}

pub follow_step : (moves : List Move) (i : ℕ) (m : Move) (v x start : Value) → i < length moves → m ≡ get_or moves i m → Ok x ≡ part m v → followed (drop i moves) v ≡ followed moves start → followed (drop (i + 1) moves) x ≡ followed moves start
follow_step moves i m v x start lt at e h =
    let cut : drop i moves ≡ m ∷ drop (i + 1) moves = drop-cons moves i m lt ∙ ap (λ n. get_or moves i m ∷ drop n moves) (sym (add-one i)) ∙ ap (λ y. y ∷ drop (i + 1) moves) (sym at) in
    ap (λ r. then_try r (followed (drop (i + 1) moves))) e ∙ ap (λ ms. followed ms v) (sym cut) ∙ h
