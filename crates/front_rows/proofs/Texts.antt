-- Texts that are copied one after another.
use Rattle.std.proofs.Common.{◌≡◌, ℕ, ◌<◌, List, [], ◌∷◌, ◌++◌, length, sym, subst}
use Rattle.std.specs.List.{AllByRecursion}

short-behind : (texts : List (List ℕ)) (text : List ℕ) → AllByRecursion (λ (t : List ℕ). length t < 4294967295) texts → length text < 4294967295 → AllByRecursion (λ (t : List ℕ). length t < 4294967295) (texts ++ text ∷ [])
short-behind [] text all short = (short, tt)
short-behind (t ∷ texts) text all short = (all.0, short-behind texts text all.1 short)

-- a text more, that is short too
pub short-more : (texts more : List (List ℕ)) (text : List ℕ) → AllByRecursion (λ (t : List ℕ). length t < 4294967295) texts → length text < 4294967295 → more ≡ texts ++ text ∷ [] → AllByRecursion (λ (t : List ℕ). length t < 4294967295) more
short-more texts more text all short pushed =
    subst (λ (ts : List (List ℕ)). AllByRecursion (λ (t : List ℕ). length t < 4294967295) ts) (sym pushed) (short-behind texts text all short)
