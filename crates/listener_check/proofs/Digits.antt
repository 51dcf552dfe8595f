-- The number that at most twelve digits write is small.
use Rattle.std.proofs.Common.{◌≡◌, ℕ, ◌+◌, ◌*◌, ◌^◌, ◌≤◌, add-one, ap, ◌∙◌, arith}
use Rattle.std.proofs.Math.Nat.{pow-le-pow_right, pow-suc}

pub small-number : (n i : ℕ) → n + 23 ≤ 23 * 10 ^ i → i ≤ 12 → n ≤ 23000000000000
small-number n i k h = let p : 10 ^ i ≤ 10 ^ 12 = pow-le-pow_right {n = 10} (omega arith) {i = i} {j = 12} h in omega (arith, k, p)

pub next-number : (n c i : ℕ) → n + 23 ≤ 23 * 10 ^ i → c ≤ 207 → n * 10 + c + 23 ≤ 23 * 10 ^ (i + 1)
next-number n c i h k = let e : 10 ^ (i + 1) ≡ 10 ^ i * 10 = ap (λ m. 10 ^ m) (add-one i) ∙ pow-suc 10 i in omega (arith, h, k, e)

pub ruleset digits = (small-number, next-number)
