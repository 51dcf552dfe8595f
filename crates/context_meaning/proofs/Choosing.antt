-- What holds of each way that a change can go holds of the change.
use Rattle.std.proofs.Common.{◌≡◌, ◌-◌, ◌≤◌}
use Rattle.context_meaning.proofs.Common.{ℕ, Option, Some, None, nat_le, refl, arith, cond_both, Context, behind_charge, spend, unless_spent, with_fuel, with_some}

-- what holds of the context itself, and of what is done with what is there, holds of the whole
pub with_some_both : {A : Type 0} (P : Context → Type 0) (o : Option A) (go : A → Context → Context) (c : Context) → P c → ((a : A) → o ≡ Some a → P (go a c)) → P (with_some o go c)
with_some_both P None go c h k = h
with_some_both P (Some a) go c h k = k a refl

-- what is done unless the context is spent
pub unless_both : (P : Context → Type 0) (go : Context → Context) (c : Context) → P c → P (go c) → P (unless_spent go c)
unless_both P go c h k = cond_both c.spent c (go c) P (λ _. h) (λ _. k)

-- what stands behind a charge, over less fuel
pub charge_both : (P : Context → Type 0) (amount : ℕ) (go : Context → Context) (c : Context) → P (spend c) → ((fuel : ℕ) → fuel ≤ c.fuel → P (go (with_fuel fuel c))) → P (behind_charge amount go c)
charge_both P amount go c h k = cond_both (nat_le amount c.fuel) (go (with_fuel (c.fuel - amount) c)) (spend c) P (λ _. k (c.fuel - amount) (omega arith)) (λ _. h)
