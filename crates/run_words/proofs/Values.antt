-- What digits count.
use Rattle.std.proofs.Common.{◌≡◌, ℕ, ◌+◌, ◌-◌, ◌*◌, ◌≤◌, ◌<◌, Bool, true, List, [], ◌∷◌, length, Option, Some, None, MatchOption, IfSome, drop, get_or, sym, ◌∙◌, arith}
use Rattle.std.proofs.lemmas.List.{at_drop_more}
use Rattle.std.specs.Prelude.{nat_le, not, ◌&&◌, ◌==◌}
use Rattle.std.specs.List.{list_all}
use Rattle.std.proofs.lemmas.Bool.Decides.{nat_tests}
use Rattle.run_words.specs.Numbers.{is_digit, is_number, number_behind}

-- more digits count no less
grows : (n : ℕ) (bs : List ℕ) → n ≤ number_behind n bs
grows n [] = omega arith
grows n (b ∷ bs) = let rest = grows (10 * n + (b - 48)) bs in omega arith

-- what is too much behind a digit is too much at the end
pub beyond : (word : List ℕ) (at n next most : ℕ) → at < length word → most < next → next ≡ 10 * n + (get_or word at 0 - 48) → number_behind n (drop at word) ≡ number_behind 0 word → most < number_behind 0 word
beyond word at n next most inside more is same =
    let rest = grows (10 * n + (get_or word at 0 - 48)) (drop (at + 1) word) in
    let all : number_behind (10 * n + (get_or word at 0 - 48)) (drop (at + 1) word) ≡ number_behind 0 word = sym (at_drop_more (number_behind n) word at 0 inside) ∙ same in
    omega (arith, rest, all, is, more)

-- the first digit of a number is at least 1
first_digit : (b : ℕ) (others : Bool) → (((nat_le 48 b && nat_le b 57) && others) && not (b == 48)) ≡ true → 49 ≤ b
first_digit b others h = grind (arith, nat_tests)

-- a number is at least 1
least : (word : List ℕ) → is_number word ≡ true → 1 ≤ number_behind 0 word
least [] h = cc
least (b ∷ bs) h = let low = first_digit b (list_all is_digit bs) h in let rest = grows (10 * 0 + (b - 48)) bs in omega arith

-- what is read of a number is from 1 to the most
pub bounded : (most : ℕ) (word : List ℕ) (o : Option ℕ) → is_number word ≡ true → MatchOption o (most < number_behind 0 word) (λ n. (n ≡ number_behind 0 word) × (n ≤ most)) → IfSome o (λ n. (1 ≤ n) × (n ≤ most))
bounded most word None is told = tt
bounded most word (Some n) is told = let low = least word is in (omega (arith, low, told.0), told.1)
