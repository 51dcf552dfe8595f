-- Tests and readings that gave something, taken apart.
use Rattle.evt_text.proofs.Common.{List, [], Bool, true, false, cond, Option, Some, None, refl, ap, inl, inr, append_assoc, option_map, same_Some, with_front}
use Rattle.std.proofs.Common.{◌≡◌, ◌++◌, ◌⊎◌}
use Rattle.evt_text.specs.Reading.{◌>>=◌}

-- a test that was made, and where it led
pub chosen : {A : Type 0} (b : Bool) (x y z : A) → cond b x y ≡ z → ((b ≡ true) × (x ≡ z)) ⊎ ((b ≡ false) × (y ≡ z))
chosen true x y z e = inl (refl, e)
chosen false x y z e = inr (refl, e)

pub bind-some : {A B : Type 0} (o : Option A) (f : A → Option B) (y : B) → (o >>= f) ≡ Some y → (x : A) × (o ≡ Some x) × (f x ≡ Some y)
bind-some None f y e = absurd (cc)
bind-some (Some x) f y e = (x, refl, e)

pub map-some : {A B : Type 0} (f : A → B) (o : Option A) (y : B) → option_map f o ≡ Some y → (x : A) × (o ≡ Some x) × (f x ≡ y)
map-some f None y e = absurd (cc)
map-some f (Some x) y e = (x, refl, cc)

pub with_front-twice : {A B : Type 0} (xs ys : List A) (o : Option (List A × B)) → with_front xs (with_front ys o) ≡ with_front (xs ++ ys) o
with_front-twice xs ys None = refl
with_front-twice xs ys (Some z) = rw append_assoc refl

pub with_front-nil : {A B : Type 0} (o : Option (List A × B)) → with_front [] o ≡ o
with_front-nil None = refl
with_front-nil (Some z) = refl

pub pair-some : {A B : Type 0} (a c : A) (b d : B) → ◌≡◌ {A = Option (A × B)} (Some (a, b)) (Some (c, d)) → (a ≡ c) × (b ≡ d)
pair-some {A = A} {B = B} a c b d e = let p = same_Some {A = A × B} _ _ e in (ap (λ x. x.0) p, ap (λ x. x.1) p)
