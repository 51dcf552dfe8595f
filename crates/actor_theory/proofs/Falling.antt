-- A step that finds an entry lowers the potential.
use Rattle.std.proofs.Common.{◌≡◌, ◌+◌, ◌≤◌, ◌<◌, ◌∷◌, ◌++◌, ◌==◌, ◌⊎◌}
use Rattle.actor_theory.proofs.Common.{ℕ, zero, suc, List, [], Bool, true, false, cond, Option, Some, None, refl, ◌∙◌, ap, arith, inl, inr, map, filter, eqb-true, eq-eqb, ne_eqb, cases_eq, Entry, Sent, Language, next, first, naive, number_after, stamped, is_for, mail, reply, World, first_from, handled, found, finds, total, entry_cost, IsMeasure, potential, with_front}
use Rattle.actor_theory.specs.Potential.{sum_to, part}
use Rattle.actor_theory.proofs.Stepping.{finds-some}
use Rattle.actor_theory.proofs.Running.{open-parts}
use Rattle.actor_theory.proofs.Sending.{after_all-append}

total-append : {X : Type 0} (c : X → ℕ) (xs ys : List X) → total c (xs ++ ys) ≡ total c xs + total c ys
total-append c [] ys = omega arith
total-append c (x ∷ xs) ys = let ih = total-append c xs ys in omega arith

sum_to-add : (n : ℕ) (f g : ℕ → ℕ) → sum_to n (λ k. f k + g k) ≡ sum_to n f + sum_to n g
sum_to-add zero f g = refl
sum_to-add (suc n) f g = let ih = sum_to-add n f g in omega arith

sum_to-zero : (n : ℕ) → sum_to n (λ k. 0) ≡ 0
sum_to-zero zero = refl
sum_to-zero (suc n) = let ih = sum_to-zero n in omega arith

-- equal but at d
sum_to-same : (n d : ℕ) (f g : ℕ → ℕ) → n ≤ d → ((k : ℕ) → (k ≡ d → ⊥) → f k ≡ g k) → sum_to n f ≡ sum_to n g
sum_to-same zero d f g le h = refl
sum_to-same (suc n) d f g le h =
    let other : n ≡ d → ⊥ = λ i. omega arith in
    let below : n ≤ d = omega arith in
    let ih = sum_to-same n d f g below h in
    let here = h n other in omega arith

sum_to-but : (n d : ℕ) (f g : ℕ → ℕ) → d < n → ((k : ℕ) → (k ≡ d → ⊥) → f k ≡ g k) → sum_to n f + g d ≡ sum_to n g + f d
sum_to-but zero d f g lt h = absurd (omega arith)
sum_to-but (suc n) d f g lt h = go (λ lt'. sum_to-but n d f g lt' h) (cases_eq n d)
  where
    go : (d < n → sum_to n f + g d ≡ sum_to n g + f d) → ((n ≡ d) ⊎ (n ≡ d → ⊥)) → sum_to (suc n) f + g d ≡ sum_to (suc n) g + f d
    go ih (inl at) =
        let low = sum_to-same n d f g (omega arith) h in
        let f_at : f n ≡ f d = ap f at in
        let g_at : g n ≡ g d = ap g at in omega arith
    go ih (inr other) = let low = ih (omega arith) in let here = h n other in omega arith

sum_to-ext : (n : ℕ) (f g : ℕ → ℕ) → ((k : ℕ) → f k ≡ g k) → sum_to n f ≡ sum_to n g
sum_to-ext zero f g h = refl
sum_to-ext (suc n) f g h = let ih = sum_to-ext n f g h in let here = h n in omega arith

-- one send is counted at one actor at most
sum_to-none : (n t : ℕ) (c : ℕ → ℕ) → n ≤ t → sum_to n (λ k. cond (t == k) (c k) 0) ≡ 0
sum_to-none zero t c le = refl
sum_to-none (suc n) t c le =
    let other : t ≡ n → ⊥ = λ i. omega arith in
    let low = sum_to-none n t c (omega arith) in rw (ne_eqb t n other) (omega arith)

sum_to-one : (n t : ℕ) (c : ℕ → ℕ) → sum_to n (λ k. cond (t == k) (c k) 0) ≤ c t
sum_to-one zero t c = omega arith
sum_to-one (suc n) t c = go (sum_to-one n t c) (t == n) refl
  where
    go : sum_to n (λ k. cond (t == k) (c k) 0) ≤ c t → (b : Bool) → (t == n) ≡ b → sum_to n (λ k. cond (t == k) (c k) 0) + cond b (c n) 0 ≤ c t
    go ih true eq =
        let same : t ≡ n = eqb-true t n eq in
        let here : c t ≡ c n = ap c same in
        let low = sum_to-none n t c (omega arith) in omega arith
    go ih false eq = omega arith

mail-total : {C : Type 0} (c : Entry C → ℕ) (s number k : ℕ) (x : Sent C) (xs : List (Sent C)) → total c (mail s number k (x ∷ xs)) ≡ cond (x.target == k) (c (stamped s number x)) 0 + total c (mail s number k xs)
mail-total c s number k x xs = go (x.target == k)
  where
    go : (b : Bool) → total c (map (stamped s number) (cond b (x ∷ filter (is_for k) xs) (filter (is_for k) xs))) ≡ cond b (c (stamped s number x)) 0 + total c (mail s number k xs)
    go true = refl
    go false = omega arith

sum_to-sent : {C : Type 0} (cost : ℕ → Entry C → ℕ) (n s number : ℕ) (xs : List (Sent C)) → sum_to n (λ k. total (cost k) (mail s number k xs)) ≤ total (entry_cost cost s number) xs
sum_to-sent cost n s number [] = let z = sum_to-zero n in omega arith
sum_to-sent cost n s number (x ∷ xs) =
    let c : ℕ → ℕ = λ k. cost k (stamped s number x) in
    let both = sum_to-ext n (λ k. total (cost k) (mail s number k (x ∷ xs))) (λ k. cond (x.target == k) (c k) 0 + total (cost k) (mail s number k xs)) (λ k. mail-total (cost k) s number k x xs) in
    let added = sum_to-add n (λ k. cond (x.target == k) (c k) 0) (λ k. total (cost k) (mail s number k xs)) in
    let one = sum_to-one n x.target c in
    let ih = sum_to-sent cost n s number xs in omega arith

-- the oldest entry is paid out of the queue
first_from-total : {C : Type 0} (c : Entry C → ℕ) (s : ℕ) (q : List (Entry C)) (e : Entry C) (rest : List (Entry C)) → first_from s q ≡ Some (e, rest) → total c q ≡ c e + total c rest
first_from-total c s [] e rest h = absurd (cc)
first_from-total {C} c s (x ∷ xs) e rest h = go (λ r i. first_from-total c s xs e r i) (x.sender == s) (first_from s xs) refl h
  where
    go : ((r : List (Entry C)) → first_from s xs ≡ Some (e, r) → total c xs ≡ c e + total c r) → (b : Bool) (o : Option (Entry C × List (Entry C))) → first_from s xs ≡ o
        → cond b (Some (x, xs)) (with_front x o) ≡ Some (e, rest) → c x + total c xs ≡ c e + total c rest
    go ih true o is found =
        let left : Entry C × List (Entry C) = (x, xs) in
        let right : Entry C × List (Entry C) = (e, rest) in
        let both : left ≡ right = cc in
        ap (λ (z : Entry C × List (Entry C)). c z.0 + total c z.1) both
    go ih false None is found = absurd (cc)
    go ih false (Some r) is found =
        let left : Entry C × List (Entry C) = (r.0, x ∷ r.1) in
        let right : Entry C × List (Entry C) = (e, rest) in
        let both : left ≡ right = cc in
        let same : r.0 ≡ e = ap (λ (z : Entry C × List (Entry C)). z.0) both in
        let others : c x + total c r.1 ≡ total c rest = ap (λ (z : Entry C × List (Entry C)). total c z.1) both in
        let here = ih r.1 (is ∙ ap (λ (y : Entry C). Some (y, r.1)) same) in omega arith

-- an actor's part after the handling at d, without what was sent to it
abbrev kept_part : {S C : Type 0} → Language S C → (S → ℕ) → (ℕ → Entry C → ℕ) → World C → ℕ → Entry C → List (Entry C) → ℕ → ℕ
kept_part L weight cost w d e rest k = cond (k == d) (weight (next L (naive L d (w.log d)) e).state + total (cost d) rest) (part L weight cost w k)

part-handled : {S C : Type 0} (L : Language S C) (weight : S → ℕ) (cost : ℕ → Entry C → ℕ) (w : World C) (d : ℕ) (e : Entry C) (rest : List (Entry C)) (k : ℕ)
    → part L weight cost (handled L w d e rest) k ≡ kept_part L weight cost w d e rest k + total (cost k) (reply L d k (naive L d (w.log d)) e)
part-handled L weight cost w d e rest k = go (k == d) refl
  where
    go : (b : Bool) → (k == d) ≡ b → weight (naive L k (cond b (w.log d ++ e ∷ []) (w.log k))).state + total (cost k) (cond b rest (w.queue k) ++ reply L d k (naive L d (w.log d)) e)
        ≡ cond b (weight (next L (naive L d (w.log d)) e).state + total (cost d) rest) (part L weight cost w k) + total (cost k) (reply L d k (naive L d (w.log d)) e)
    go true eq =
        let same : k ≡ d = eqb-true k d eq in
        let state : naive L d (w.log d ++ e ∷ []) ≡ next L (naive L d (w.log d)) e = after_all-append L (first L d) (w.log d) (e ∷ []) in
        let lists = total-append (cost d) rest (reply L d d (naive L d (w.log d)) e) in
        rw (same, state) (omega arith)
    go false eq = let lists = total-append (cost k) (w.queue k) (reply L d k (naive L d (w.log d)) e) in omega arith

pub handled-falls : {S C : Type 0} (L : Language S C) (weight : S → ℕ) (cost : ℕ → Entry C → ℕ) (IsLog : ℕ → List (Entry C) → Type 0) → IsMeasure L IsLog weight cost → (w : World C) (d s : ℕ) (e : Entry C) (rest : List (Entry C))
    → finds L w d s ≡ Some (e, rest) → IsLog d (w.log d ++ e ∷ []) → potential L weight cost (handled L w d e rest) < potential L weight cost w
handled-falls L weight cost IsLog measure w d s e rest h is_log =
    let at = finds-some L w d s e rest h in
    let opened = open-parts L w d at.0 in
    let n : ℕ = suc L.contexts in
    let m = naive L d (w.log d) in
    let kept : ℕ → ℕ = kept_part L weight cost w d e rest in
    let replied : ℕ → ℕ = λ k. total (cost k) (reply L d k m e) in
    let whole = sum_to-ext n (part L weight cost (handled L w d e rest)) (λ k. kept k + replied k) (λ k. part-handled L weight cost w d e rest k) in
    let added = sum_to-add n kept replied in
    let others : (k : ℕ) → (k ≡ d → ⊥) → kept k ≡ part L weight cost w k = λ k other. rw (ne_eqb k d other) refl in
    let actor : d ≤ L.contexts = opened.0 in
    let below : d < n = omega arith in
    let changed = sum_to-but n d kept (part L weight cost w) below others in
    let here : kept d ≡ weight (next L m e).state + total (cost d) rest = rw (eq-eqb d d refl) refl in
    let paid = first_from-total (cost d) s (w.queue d) e rest at.1 in
    let sent = sum_to-sent cost n d (number_after m.number e) (L.sent m.state (number_after m.number e) e) in
    let pays = measure.pays d (w.log d) e opened.0 is_log opened.1 in
    omega arith
