-- What digits count.
use Rattle.std.proofs.Common.{◌≡◌, ℕ, ◌+◌, ◌-◌, ◌*◌, ◌≤◌, ◌<◌, List, [], ◌∷◌, length, drop, get_or, sym, ◌∙◌, arith}
use Rattle.std.proofs.lemmas.List.{at_drop_more}
use Rattle.schedule_picks.specs.Numbers.{number_behind}

-- more digits count no less
grows : (n : ℕ) (bs : List ℕ) → n ≤ number_behind n bs
grows n [] = omega arith
grows n (b ∷ bs) = let rest = grows (10 * n + (b - 48)) bs in omega arith

-- what is too much behind a digit is too much at the end
pub beyond : (word : List ℕ) (at n next most : ℕ) → at < length word → most < next → next ≡ 10 * n + (get_or word at 0 - 48) → number_behind n (drop at word) ≡ number_behind 0 word → most < number_behind 0 word
beyond word at n next most inside more is same =
    let rest = grows (10 * n + (get_or word at 0 - 48)) (drop (at + 1) word) in
    let all : number_behind (10 * n + (get_or word at 0 - 48)) (drop (at + 1) word) ≡ number_behind 0 word = sym (at_drop_more (number_behind n) word at 0 inside) ∙ same in
    omega (arith, rest, all, is, more)
