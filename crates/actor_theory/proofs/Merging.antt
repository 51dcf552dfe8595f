-- The order of all handlings is one.
use Rattle.std.proofs.Common.{◌≡◌, ◌≤◌, ◌<◌, ◌∷◌, ◌&&◌, ◌||◌, ◌==◌, ◌⊎◌}
use Rattle.actor_theory.proofs.Common.{ℕ, zero, suc, List, [], Bool, true, false, nat_lt, nat_le, cond, refl, sym, ◌∙◌, ap, subst, arith, inl, inr, eqb-true, eqb-false, eq-eqb, ne_eqb, ltb-true, leb-true, lt-ltb, cases_eq, cases_lt, AllByRecursion, Entry, Language, Moment, first, next, number_after, World, Handling, handlings_from, handlings, IsBefore, IsAscending, at, IsOrder, is_before, insert, insert_all, order_of}
use Rattle.std.proofs.lemmas.Bool.{ltb-false, leb-false}
use Rattle.actor_theory.specs.Order.{order_below}

abbrev Above : {C : Type 0} → ℕ → List (Handling C) → Type 0
Above n hs = AllByRecursion (λ h. n < h.number) hs

before-true : {C : Type 0} (h g : Handling C) → is_before h g ≡ true → IsBefore h g
before-true h g e = go (nat_lt h.number g.number) refl (h.number == g.number) refl (nat_le h.actor g.actor) refl e
  where
    go : (a : Bool) → nat_lt h.number g.number ≡ a → (b : Bool) → (h.number == g.number) ≡ b → (c : Bool) → nat_le h.actor g.actor ≡ c → (a || (b && c)) ≡ true → IsBefore h g
    go true p b q c r i = inl (ltb-true h.number g.number p)
    go false p true q true r i = inr (eqb-true h.number g.number q, leb-true h.actor g.actor r)
    go false p true q false r i = absurd (cc)
    go false p false q c r i = absurd (cc)

before-false : {C : Type 0} (h g : Handling C) → is_before h g ≡ false → IsBefore g h
before-false h g e = go (nat_lt h.number g.number) refl (h.number == g.number) refl (nat_le h.actor g.actor) refl e
  where
    go : (a : Bool) → nat_lt h.number g.number ≡ a → (b : Bool) → (h.number == g.number) ≡ b → (c : Bool) → nat_le h.actor g.actor ≡ c → (a || (b && c)) ≡ false → IsBefore g h
    go true p b q c r i = absurd (cc)
    go false p true q true r i = absurd (cc)
    go false p true q false r i = let low = leb-false h.actor g.actor r in inr (sym (eqb-true h.number g.number q), omega arith)
    go false p false q c r i = let le = ltb-false h.number g.number p in let ne = eqb-false h.number g.number q in inl (omega arith)

before-trans : {C : Type 0} (f g h : Handling C) → IsBefore f g → IsBefore g h → IsBefore f h
before-trans f g h (inl a) (inl b) = inl (omega arith)
before-trans f g h (inl a) (inr b) = let same = b.0 in inl (omega arith)
before-trans f g h (inr a) (inl b) = let same = a.0 in inl (omega arith)
before-trans f g h (inr a) (inr b) = let low = a.1 in let high = b.1 in inr (a.0 ∙ b.0, omega arith)

all-trans : {C : Type 0} (f g : Handling C) (hs : List (Handling C)) → IsBefore f g → AllByRecursion (IsBefore g) hs → AllByRecursion (IsBefore f) hs
all-trans f g [] p a = tt
all-trans f g (h ∷ hs) p a = (before-trans f g h p a.0, all-trans f g hs p a.1)

all-insert : {C : Type 0} (g x : Handling C) (hs : List (Handling C)) → IsBefore g x → AllByRecursion (IsBefore g) hs → AllByRecursion (IsBefore g) (insert x hs)
all-insert g x [] p a = (p, tt)
all-insert g x (h ∷ hs) p a = go (all-insert g x hs p a.1) (is_before x h)
  where
    go : AllByRecursion (IsBefore g) (insert x hs) → (b : Bool) → AllByRecursion (IsBefore g) (cond b (x ∷ h ∷ hs) (h ∷ insert x hs))
    go ih true = (p, (a.0, a.1))
    go ih false = (a.0, ih)

ascending-insert : {C : Type 0} (x : Handling C) (hs : List (Handling C)) → IsAscending hs → IsAscending (insert x hs)
ascending-insert x [] a = (tt, tt)
ascending-insert x (h ∷ hs) a = go (ascending-insert x hs a.1) (is_before x h) refl
  where
    go : IsAscending (insert x hs) → (b : Bool) → is_before x h ≡ b → IsAscending (cond b (x ∷ h ∷ hs) (h ∷ insert x hs))
    go ih true e = let p = before-true x h e in ((p, all-trans x h hs p a.0), a)
    go ih false e = (all-insert h x hs (before-false x h e) a.0, ih)

at-insert_other : {C : Type 0} (d : ℕ) (x : Handling C) (hs : List (Handling C)) → (x.actor ≡ d → ⊥) → at d (insert x hs) ≡ at d hs
at-insert_other d x [] other = rw (ne_eqb x.actor d other) refl
at-insert_other d x (h ∷ hs) other = go (at-insert_other d x hs other) (is_before x h)
  where
    go : at d (insert x hs) ≡ at d hs → (b : Bool) → at d (cond b (x ∷ h ∷ hs) (h ∷ insert x hs)) ≡ at d (h ∷ hs)
    go ih true = rw (ne_eqb x.actor d other) refl
    go ih false = ap (λ r. cond (h.actor == d) (h ∷ r) r) ih

at-insert_same : {C : Type 0} (x : Handling C) (hs : List (Handling C)) → Above x.number (at x.actor hs) → at x.actor (insert x hs) ≡ x ∷ at x.actor hs
at-insert_same x [] above = rw (eq-eqb x.actor x.actor refl) refl
at-insert_same x (h ∷ hs) above = go (is_before x h) refl (λ e. late (λ a. at-insert_same x hs a) e (h.actor == x.actor) above)
  where
    early : x.number < h.number → is_before x h ≡ true
    early lt = rw (lt-ltb x.number h.number lt) refl

    late : (Above x.number (at x.actor hs) → at x.actor (insert x hs) ≡ x ∷ at x.actor hs) → is_before x h ≡ false → (c : Bool) → Above x.number (cond c (h ∷ at x.actor hs) (at x.actor hs))
        → cond c (h ∷ at x.actor (insert x hs)) (at x.actor (insert x hs)) ≡ x ∷ cond c (h ∷ at x.actor hs) (at x.actor hs)
    late ih e true a = let yes = early a.0 in absurd (cc)
    late ih e false a = ih a

    go : (b : Bool) → is_before x h ≡ b → (is_before x h ≡ false → cond (h.actor == x.actor) (h ∷ at x.actor (insert x hs)) (at x.actor (insert x hs)) ≡ x ∷ at x.actor (h ∷ hs))
        → at x.actor (cond b (x ∷ h ∷ hs) (h ∷ insert x hs)) ≡ x ∷ at x.actor (h ∷ hs)
    go true e then = rw (eq-eqb x.actor x.actor refl) refl
    go false e then = then e

-- the numbers of a log rise
rising : {S C : Type 0} (L : Language S C) (n d : ℕ) (m : Moment S) (log : List (Entry C)) → n ≤ m.number → Above n (handlings_from L d m log)
rising L n d m [] le = tt
rising L n d m (e ∷ es) le = (omega arith, rising L n d (next L m e) es (omega arith))

insert_all-other : {S C : Type 0} (L : Language S C) (n d : ℕ) (m : Moment S) (log : List (Entry C)) (hs : List (Handling C)) → (n ≡ d → ⊥) → at d (insert_all (handlings_from L n m log) hs) ≡ at d hs
insert_all-other L n d m [] hs other = refl
insert_all-other L n d m (e ∷ es) hs other =
    at-insert_other d (record { number = number_after m.number e; actor = n; entry = e }) (insert_all (handlings_from L n (next L m e) es) hs) other ∙ insert_all-other L n d (next L m e) es hs other

insert_all-same : {S C : Type 0} (L : Language S C) (n : ℕ) (m : Moment S) (log : List (Entry C)) (hs : List (Handling C)) → at n hs ≡ [] → at n (insert_all (handlings_from L n m log) hs) ≡ handlings_from L n m log
insert_all-same L n m [] hs none = none
insert_all-same {C} L n m (e ∷ es) hs none =
    let ih = insert_all-same L n (next L m e) es hs none in
    let P : List (Handling C) → Type 0 = Above (number_after m.number e) in
    at-insert_same (record { number = number_after m.number e; actor = n; entry = e }) (insert_all (handlings_from L n (next L m e) es) hs) (subst P (sym ih) (rising L (number_after m.number e) n (next L m e) es (omega arith)))
    ∙ ap (λ r. (record { number = number_after m.number e; actor = n; entry = e }) ∷ r) ih

insert_all-ascending : {C : Type 0} (xs hs : List (Handling C)) → IsAscending hs → IsAscending (insert_all xs hs)
insert_all-ascending [] hs a = a
insert_all-ascending (x ∷ xs) hs a = ascending-insert x (insert_all xs hs) (insert_all-ascending xs hs a)

below-ascending : {S C : Type 0} (L : Language S C) (w : World C) (n : ℕ) → IsAscending (order_below L w n)
below-ascending L w zero = tt
below-ascending L w (suc n) = insert_all-ascending (handlings L n (w.log n)) (order_below L w n) (below-ascending L w n)

below-none : {S C : Type 0} (L : Language S C) (w : World C) (n d : ℕ) → n ≤ d → at d (order_below L w n) ≡ []
below-none L w zero d le = refl
below-none L w (suc n) d le =
    let other : n ≡ d → ⊥ = λ i. omega arith in
    insert_all-other L n d (first L n) (w.log n) (order_below L w n) other ∙ below-none L w n d (omega arith)

below-each : {S C : Type 0} (L : Language S C) (w : World C) (n d : ℕ) → d < n → at d (order_below L w n) ≡ handlings L d (w.log d)
below-each L w zero d lt = absurd (omega arith)
below-each L w (suc n) d lt = go (λ low. below-each L w n d low) (cases_eq n d)
  where
    go : (d < n → at d (order_below L w n) ≡ handlings L d (w.log d)) → ((n ≡ d) ⊎ (n ≡ d → ⊥)) → at d (insert_all (handlings L n (w.log n)) (order_below L w n)) ≡ handlings L d (w.log d)
    go ih (inl same) = rw (← same) (insert_all-same L n (first L n) (w.log n) (order_below L w n) (below-none L w n n (omega arith)))
    go ih (inr other) = insert_all-other L n d (first L n) (w.log n) (order_below L w n) other ∙ ih (omega arith)

pub order-is : {S C : Type 0} (L : Language S C) (w : World C) → ((d : ℕ) → L.contexts < d → w.log d ≡ []) → IsOrder L w (order_of L w)
order-is L w others = record { ascending = below-ascending L w (suc L.contexts); each = λ d. go d (cases_lt L.contexts d) }
  where
    go : (d : ℕ) → ((L.contexts < d) ⊎ (d ≤ L.contexts)) → at d (order_of L w) ≡ handlings L d (w.log d)
    go d (inl lt) = below-none L w (suc L.contexts) d lt ∙ ap (handlings L d) (sym (others d lt))
    go d (inr le) = below-each L w (suc L.contexts) d (omega arith)
