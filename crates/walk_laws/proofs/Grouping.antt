-- Runs behind one another, grouped otherwise.
use Rattle.std.proofs.Common.{◌≡◌, refl, sym, ap, ◌∙◌}
use Rattle.body_meaning.specs.Runs.{State, Did, nothing, Outcome, Went, Ended, M, behind, then_do, ◌>>=◌, ◌>>◌, pure, two}
use Rattle.walk_rules.proofs.Leading.{behind_nothing, behind_behind}

then_behind : {A B : Type 0} (before : Did) (o : Outcome A) (go : A → M B) → then_do (behind before o) go ≡ behind before (then_do o go)
then_behind before (Went did x s) go = sym (behind_behind before did (go x s))
then_behind before (Ended did why s) go = refl

grouped : {A B C : Type 0} (o : Outcome A) (f : A → M B) (g : B → M C) (h : A → M C) → ((x : A) (s : State) → h x s ≡ then_do (f x s) g) → then_do (then_do o f) g ≡ then_do o h
grouped (Went did x s) f g h is = then_behind did (f x s) g ∙ ap (behind did) (sym (is x s))
grouped (Ended did why s) f g h is = refl

-- a run behind two others is one behind the first of them
pub bind_grouped : {A B C : Type 0} (m : M A) (f : A → M B) (g : B → M C) → ((m >>= f) >>= g) ≡ (m >>= (λ x. f x >>= g))
unfolding ◌>>=◌
bind_grouped m f g = λ i s. grouped (m s) f g (λ x s. then_do (f x s) g) (λ x s. refl) i

-- the same where the value of the first isn't looked at
pub seq_grouped : {A B C : Type 0} (m : M A) (n : M B) (g : B → M C) → ((m >> n) >>= g) ≡ (m >> (n >>= g))
unfolding ◌>>=◌ ◌>>◌
seq_grouped m n g = λ i s. grouped (m s) (λ _. n) g (λ x s. then_do (n s) g) (λ x s. refl) i

-- the same where neither value is looked at
pub seq_seq_grouped : {A B C : Type 0} (m : M A) (n : M B) (k : M C) → ((m >> n) >> k) ≡ (m >> (n >> k))
unfolding ◌>>◌
seq_seq_grouped m n k = λ i s. grouped (m s) (λ _. n) (λ _. k) (λ x s. then_do (n s) (λ _. k)) (λ x s. refl) i

-- the same where the value of the second isn't looked at
pub bind_seq_grouped : {A B C : Type 0} (m : M A) (f : A → M B) (k : M C) → ((m >>= f) >> k) ≡ (m >>= (λ x. f x >> k))
unfolding ◌>>=◌ ◌>>◌
bind_seq_grouped m f k = λ i s. grouped (m s) f (λ _. k) (λ x s. then_do (f x s) (λ _. k)) (λ x s. refl) i

-- a value that is only told, and a run behind it
pub pure_then : {A B : Type 0} (x : A) (g : A → M B) → (pure x >>= g) ≡ g x
unfolding ◌>>=◌ pure
pure_then x g = λ i s. sym (behind_nothing (g x s)) i

-- what is computed of a value, and a run behind it
pub bind_mapped : {A B C : Type 0} (m : M A) (to : A → B) (go : B → M C) → ((m >>= (λ x. pure (to x))) >>= go) ≡ (m >>= (λ x. go (to x)))
unfolding ◌>>=◌ pure
bind_mapped m to go = λ i s. grouped (m s) (λ x s. Went nothing (to x) s) go (λ x. go (to x)) (λ x s. behind_nothing (go (to x) s)) i

-- both, and what is done with them
module _ {A B C : Type 0} (m : M A) (n : M B) (go : A → B → M C) where
  paired : A → B → A × B
  paired x y = (x, y)

  with_both : A × B → M C
  with_both p = go p.0 p.1

  pub two_then : (two m n >>= (λ p. go p.0 p.1)) ≡ (m >>= (λ x. n >>= (λ y. go x y)))
  unfolding two paired with_both
  two_then = bind_grouped m (λ x. n >>= (λ y. pure (paired x y))) with_both ∙ ap (λ (h : A → M C). m >>= h) (λ i x. bind_mapped n (paired x) with_both i)
