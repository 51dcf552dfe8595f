-- Each entry that was handled has a cause.
use Rattle.std.proofs.Common.{◌≡◌, ◌<◌, ◌∷◌, ◌++◌, ◌==◌}
use Rattle.actor_theory.proofs.Common.{ℕ, List, [], Bool, true, false, cond, refl, sym, subst, arith, inl, inr, map, filter, eqb-true, eqb-false, AllByRecursion, Entry, Sent, Language, Moment, first, next, number_after, mail, reply, replies, loaded, sends, by, stamped, is_for, World, IsFaithfulRun, handlings_from, IsCausal}
use Rattle.actor_theory.specs.Language.{before}
use Rattle.actor_theory.specs.Caused.{HasNumber, IsCaused}

all-append : {C : Type 0} (P : Entry C → Type 0) (xs ys : List (Entry C)) → AllByRecursion P xs → AllByRecursion P ys → AllByRecursion P (xs ++ ys)
all-append P [] ys a b = b
all-append P (x ∷ xs) ys a b = (a.0, all-append P xs ys a.1 b)

all-front : {C : Type 0} (P : Entry C → Type 0) (xs ys : List (Entry C)) → AllByRecursion P (xs ++ ys) → AllByRecursion P xs
all-front P [] ys a = tt
all-front P (x ∷ xs) ys a = (a.0, all-front P xs ys a.1)

all-mail : {C : Type 0} (P : Entry C → Type 0) (s n k : ℕ) (xs : List (Sent C)) → ((x : Sent C) → P (stamped s n x)) → AllByRecursion P (mail s n k xs)
all-mail P s n k [] h = tt
all-mail P s n k (x ∷ xs) h = go (all-mail P s n k xs h) (is_for k x)
  where
    go : AllByRecursion P (mail s n k xs) → (b : Bool) → AllByRecursion P (map (stamped s n) (cond b (x ∷ filter (is_for k) xs) (filter (is_for k) xs)))
    go ih true = (h x, ih)
    go ih false = ih

all-replies : {S C : Type 0} (L : Language S C) (P : Entry C → Type 0) (s k : ℕ) (m : Moment S) (log : List (Entry C)) → ((n : ℕ) → HasNumber n (handlings_from L s m log) → (x : Sent C) → P (stamped s n x)) → AllByRecursion P (replies L s k m log)
all-replies L P s k m [] h = tt
all-replies L P s k m (e ∷ es) h =
    all-append P (reply L s k m e) (replies L s k (next L m e) es) (all-mail P s (number_after m.number e) k (L.sent m.state (number_after m.number e) e) (h (number_after m.number e) (inl refl)))
    (all-replies L P s k (next L m e) es (λ n i. h n (inr i)))

-- all that s has sent has a cause
sent-caused : {S C : Type 0} (L : Language S C) (items : List C) (w : World C) (s k : ℕ) → AllByRecursion (IsCaused L w) (sends L items s k (w.log s))
sent-caused L items w s k =
    all-append (IsCaused L w) (mail s 0 k (before L items s)) (replies L s k (first L s) (w.log s)) (first-ones (s == L.contexts) refl)
    (all-replies L (IsCaused L w) s k (first L s) (w.log s) (λ n i x. inr i))
  where
    first-ones : (b : Bool) → (s == L.contexts) ≡ b → AllByRecursion (IsCaused L w) (mail s 0 k (cond b (loaded L items) []))
    first-ones true e = all-mail (IsCaused L w) s 0 k (loaded L items) (λ x. inl (refl, eqb-true s L.contexts e))
    first-ones false e = tt

-- so it has in a list in which each sender's entries are
all-by : {C : Type 0} (P : Entry C → Type 0) (es : List (Entry C)) → ((s : ℕ) → AllByRecursion P (by s es)) → AllByRecursion P es
all-by P [] h = tt
all-by P (e ∷ es) h = (here (e.sender == e.sender) refl (h e.sender), all-by P es (λ s. rest s (e.sender == s) (h s)))
  where
    here : (b : Bool) → (e.sender == e.sender) ≡ b → AllByRecursion P (cond b (e ∷ by e.sender es) (by e.sender es)) → P e
    here true i a = a.0
    here false i a = absurd (eqb-false e.sender e.sender i refl)

    rest : (s : ℕ) (b : Bool) → AllByRecursion P (cond b (e ∷ by s es) (by s es)) → AllByRecursion P (by s es)
    rest s true a = a.1
    rest s false a = a

after-stamps : {S C : Type 0} (L : Language S C) (d : ℕ) (m : Moment S) (log : List (Entry C)) → AllByRecursion (λ h. h.entry.stamp < h.number) (handlings_from L d m log)
after-stamps L d m [] = tt
after-stamps L d m (e ∷ es) = (omega arith, after-stamps L d (next L m e) es)

pub faithful-causal : {S C : Type 0} (L : Language S C) (items : List C) (w : World C) → IsFaithfulRun L items w → IsCausal L w
faithful-causal {C} L items w h = record {
  causes = λ d. let P : List (Entry C) → Type 0 = AllByRecursion (IsCaused L w) in all-front (IsCaused L w) (w.log d) (w.queue d) (all-by (IsCaused L w) (w.log d ++ w.queue d) (λ s. subst P (sym (h.delivered.each s d)) (sent-caused L items w s d)));
  after = λ d. after-stamps L d (first L d) (w.log d);
}
