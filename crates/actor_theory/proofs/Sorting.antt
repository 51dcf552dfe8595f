-- A stable sort of all handlings by number and actor is their order.
use Rattle.std.proofs.Common.{◌≡◌, ◌∷◌, ◌++◌}
use Rattle.actor_theory.proofs.Common.{ℕ, zero, suc, List, [], Bool, true, false, not, cond, refl, sym, ◌∙◌, ap, subst, map, filter, AllByRecursion, and_parts, map-append, filter-append, Handling, is_before, insert, insert_all, merged}
use Rattle.std.specs.List.Sorted.{ties}
use Rattle.std.specs.Cmp.{IsStrictWeakOrder}
use Rattle.actor_theory.specs.Order.{IsAscendingBy, laid}

-- nothing is less than itself
lt-self : {X : Type 0} (lt : X → X → Bool) → IsStrictWeakOrder lt → (x : X) → lt x x ≡ false
lt-self lt o x = go (lt x x) refl
  where
    go : (b : Bool) → lt x x ≡ b → b ≡ false
    go true e = sym e ∙ o.one_way x x e
    go false e = refl

ties-self : {X : Type 0} (lt : X → X → Bool) → IsStrictWeakOrder lt → (x : X) → ties lt x x ≡ true
ties-self lt o x = rw (lt-self lt o x) refl

ties-parts : {X : Type 0} (lt : X → X → Bool) (x y : X) → ties lt x y ≡ true → (lt x y ≡ false) × (lt y x ≡ false)
ties-parts lt x y h = let parts = and_parts (not (lt x y)) (not (lt y x)) h in (none (lt x y) parts.0, none (lt y x) parts.1)
  where
    none : (b : Bool) → not b ≡ true → b ≡ false
    none true e = absurd (cc)
    none false e = refl

-- what holds of all holds of the first that passes
all-first : {X : Type 0} (Q : X → Type 0) (p : X → Bool) (xs : List X) (y : X) (ys : List X) → filter p xs ≡ y ∷ ys → AllByRecursion Q xs → Q y
all-first Q p [] y ys h a = absurd (cc)
all-first {X} Q p (x ∷ xs) y ys h a = go (λ i. all-first Q p xs y ys i a.1) (p x) h
  where
    go : (filter p xs ≡ y ∷ ys → Q y) → (b : Bool) → cond b (x ∷ filter p xs) (filter p xs) ≡ y ∷ ys → Q y
    go ih true i = let same : x ≡ y = cc in subst Q same a.0
    go ih false i = ih i

-- two sorted lists in which the same stand in the same order, among those that tie, are the same
pub stable-once : {X : Type 0} (lt : X → X → Bool) → IsStrictWeakOrder lt → (ys zs : List X) → IsAscendingBy lt ys → IsAscendingBy lt zs → ((x : X) → filter (ties lt x) ys ≡ filter (ties lt x) zs) → ys ≡ zs
stable-once lt o [] [] a b h = refl
stable-once lt o [] (z ∷ zs) a b h = let i : [] ≡ z ∷ filter (ties lt z) zs = rw (ties-self lt o z) at (h z) in absurd (cc)
stable-once lt o (y ∷ ys) [] a b h = let i : y ∷ filter (ties lt y) ys ≡ [] = rw (ties-self lt o y) at (h y) in absurd (cc)
stable-once {X} lt o (y ∷ ys) (z ∷ zs) a b h =
    let front : filter (ties lt y) (y ∷ ys) ≡ y ∷ filter (ties lt y) ys = ap (λ c. cond c (y ∷ filter (ties lt y) ys) (filter (ties lt y) ys)) (ties-self lt o y) in
    let back : filter (ties lt z) (z ∷ zs) ≡ z ∷ filter (ties lt z) zs = ap (λ c. cond c (z ∷ filter (ties lt z) zs) (filter (ties lt z) zs)) (ties-self lt o z) in
    let y_z : lt y z ≡ false = all-first (λ u. lt u z ≡ false) (ties lt y) (z ∷ zs) y (filter (ties lt y) ys) (sym (h y) ∙ front) (lt-self lt o z, b.0) in
    let z_y : lt z y ≡ false = all-first (λ u. lt u y ≡ false) (ties lt z) (y ∷ ys) z (filter (ties lt z) zs) (h z ∙ back) (lt-self lt o y, a.0) in
    let tie : ties lt y z ≡ true = rw (y_z, z_y) refl in
    let both : y ∷ filter (ties lt y) ys ≡ z ∷ filter (ties lt y) zs = sym front ∙ h y ∙ ap (λ c. cond c (z ∷ filter (ties lt y) zs) (filter (ties lt y) zs)) tie in
    let same : y ≡ z = cc in
    ap (λ u. u ∷ ys) same ∙ ap (λ us. z ∷ us) (stable-once lt o ys zs a.1 b.1 (λ x. rest same x (ties lt x z) (ap (λ u. cond (ties lt x u) (z ∷ filter (ties lt x) ys) (filter (ties lt x) ys)) (sym same) ∙ ap (λ u. cond (ties lt x y) (u ∷ filter (ties lt x) ys) (filter (ties lt x) ys)) (sym same) ∙ h x)))
  where
    rest : y ≡ z → (x : X) (c : Bool) → cond c (z ∷ filter (ties lt x) ys) (filter (ties lt x) ys) ≡ cond c (z ∷ filter (ties lt x) zs) (filter (ties lt x) zs) → filter (ties lt x) ys ≡ filter (ties lt x) zs
    rest same x true i = cc
    rest same x false i = i

-- insertion by that test
abbrev IsTestOf : {C T : Type 0} → (Handling C → T) → (T → T → Bool) → Type 0
IsTestOf {C} f lt = (h g : Handling C) → is_before h g ≡ not (lt (f g) (f h))

all-insert : {C T : Type 0} (f : Handling C → T) (Q : T → Type 0) (x : Handling C) (hs : List (Handling C)) → Q (f x) → AllByRecursion Q (map f hs) → AllByRecursion Q (map f (insert x hs))
all-insert f Q x [] q a = (q, tt)
all-insert {C} {T} f Q x (h ∷ hs) q a = go (all-insert f Q x hs q a.1) (is_before x h)
  where
    go : AllByRecursion Q (map f (insert x hs)) → (b : Bool) → AllByRecursion Q (map f (cond b (x ∷ h ∷ hs) (h ∷ insert x hs)))
    go ih true = (q, a)
    go ih false = (a.0, ih)

all-chain : {T : Type 0} (lt : T → T → Bool) → IsStrictWeakOrder lt → (x h : T) (ts : List T) → lt h x ≡ false → AllByRecursion (λ y. lt y h ≡ false) ts → AllByRecursion (λ y. lt y x ≡ false) ts
all-chain lt o x h [] e a = tt
all-chain lt o x h (t ∷ ts) e a = (o.chain t h x a.0 e, all-chain lt o x h ts e a.1)

not-true : (b : Bool) → true ≡ not b → b ≡ false
not-true true e = absurd (cc)
not-true false e = refl

not-false : (b : Bool) → false ≡ not b → b ≡ true
not-false true e = refl
not-false false e = absurd (cc)

insert-ascending : {C T : Type 0} (f : Handling C → T) (lt : T → T → Bool) → IsStrictWeakOrder lt → IsTestOf f lt → (x : Handling C) (hs : List (Handling C)) → IsAscendingBy lt (map f hs) → IsAscendingBy lt (map f (insert x hs))
insert-ascending f lt o test x [] a = (tt, tt)
insert-ascending {C} {T} f lt o test x (h ∷ hs) a = go (insert-ascending f lt o test x hs a.1) (is_before x h) refl
  where
    go : IsAscendingBy lt (map f (insert x hs)) → (b : Bool) → is_before x h ≡ b → IsAscendingBy lt (map f (cond b (x ∷ h ∷ hs) (h ∷ insert x hs)))
    go ih true e = let low = not-true (lt (f h) (f x)) (sym e ∙ test x h) in ((low, all-chain lt o (f x) (f h) (map f hs) low a.0), a)
    go ih false e = let high = not-false (lt (f h) (f x)) (sym e ∙ test x h) in (all-insert f (λ y. lt y (f h) ≡ false) x hs (o.one_way (f h) (f x) high) a.0, ih)

insert-ties : {C T : Type 0} (f : Handling C → T) (lt : T → T → Bool) → IsStrictWeakOrder lt → IsTestOf f lt → (u : T) (x : Handling C) (hs : List (Handling C)) → filter (ties lt u) (map f (insert x hs)) ≡ filter (ties lt u) (map f (x ∷ hs))
insert-ties f lt o test u x [] = refl
insert-ties {C} {T} f lt o test u x (h ∷ hs) = go (insert-ties f lt o test u x hs) (is_before x h) refl
  where
    F : List T → List T
    F = filter (ties lt u)

    swapped : (b c : Bool) → ties lt u (f x) ≡ b → ties lt u (f h) ≡ c → lt (f h) (f x) ≡ true → cond c (f h ∷ cond b (f x ∷ F (map f hs)) (F (map f hs))) (cond b (f x ∷ F (map f hs)) (F (map f hs)))
        ≡ cond b (f x ∷ cond c (f h ∷ F (map f hs)) (F (map f hs))) (cond c (f h ∷ F (map f hs)) (F (map f hs)))
    swapped true true p q high = let no = o.chain (f h) u (f x) (ties-parts lt u (f h) q).1 (ties-parts lt u (f x) p).0 in absurd (cc)
    swapped true false p q high = refl
    swapped false true p q high = refl
    swapped false false p q high = refl

    go : F (map f (insert x hs)) ≡ F (map f (x ∷ hs)) → (b : Bool) → is_before x h ≡ b → F (map f (cond b (x ∷ h ∷ hs) (h ∷ insert x hs))) ≡ F (map f (x ∷ h ∷ hs))
    go ih true e = refl
    go ih false e = ap (λ r. cond (ties lt u (f h)) (f h ∷ r) r) ih ∙ swapped (ties lt u (f x)) (ties lt u (f h)) refl refl (not-false (lt (f h) (f x)) (sym e ∙ test x h))

insert_all-ascending : {C T : Type 0} (f : Handling C → T) (lt : T → T → Bool) → IsStrictWeakOrder lt → IsTestOf f lt → (xs hs : List (Handling C)) → IsAscendingBy lt (map f hs) → IsAscendingBy lt (map f (insert_all xs hs))
insert_all-ascending f lt o test [] hs a = a
insert_all-ascending f lt o test (x ∷ xs) hs a = insert-ascending f lt o test x (insert_all xs hs) (insert_all-ascending f lt o test xs hs a)

insert_all-ties : {C T : Type 0} (f : Handling C → T) (lt : T → T → Bool) → IsStrictWeakOrder lt → IsTestOf f lt → (u : T) (xs hs : List (Handling C)) → filter (ties lt u) (map f (insert_all xs hs)) ≡ filter (ties lt u) (map f (xs ++ hs))
insert_all-ties f lt o test u [] hs = refl
insert_all-ties f lt o test u (x ∷ xs) hs = insert-ties f lt o test u x (insert_all xs hs) ∙ ap (λ r. cond (ties lt u (f x)) (f x ∷ r) r) (insert_all-ties f lt o test u xs hs)

merged-ascending : {C T : Type 0} (f : Handling C → T) (lt : T → T → Bool) → IsStrictWeakOrder lt → IsTestOf f lt → (hs : ℕ → List (Handling C)) (n : ℕ) → IsAscendingBy lt (map f (merged hs n))
merged-ascending f lt o test hs zero = tt
merged-ascending f lt o test hs (suc n) = insert_all-ascending f lt o test (hs n) (merged hs n) (merged-ascending f lt o test hs n)

merged-ties : {C T : Type 0} (f : Handling C → T) (lt : T → T → Bool) → IsStrictWeakOrder lt → IsTestOf f lt → (u : T) (hs : ℕ → List (Handling C)) (n : ℕ) → filter (ties lt u) (map f (merged hs n)) ≡ filter (ties lt u) (map f (laid hs n))
merged-ties f lt o test u hs zero = refl
merged-ties {C} f lt o test u hs (suc n) =
    insert_all-ties f lt o test u (hs n) (merged hs n) ∙ both (merged hs n) ∙ ap (λ r. filter (ties lt u) (map f (hs n)) ++ r) (merged-ties f lt o test u hs n) ∙ sym (both (laid hs n))
  where
    both : (xs : List (Handling C)) → filter (ties lt u) (map f (hs n ++ xs)) ≡ filter (ties lt u) (map f (hs n)) ++ filter (ties lt u) (map f xs)
    both xs = ap (filter (ties lt u)) (map-append f (hs n) xs) ∙ filter-append (ties lt u) (map f (hs n)) (map f xs)

-- what a stable sort of the handlings makes, the later actors' laid before the earlier ones', each seen by f
pub sorted-order : {C T : Type 0} (f : Handling C → T) (lt : T → T → Bool) → IsStrictWeakOrder lt → ((h g : Handling C) → is_before h g ≡ not (lt (f g) (f h))) → (hs : ℕ → List (Handling C)) (n : ℕ) (ys : List T) → IsAscendingBy lt ys
    → ((x : T) → filter (ties lt x) ys ≡ filter (ties lt x) (map f (laid hs n))) → ys ≡ map f (merged hs n)
sorted-order f lt o test hs n ys a stable = stable-once lt o ys (map f (merged hs n)) a (merged-ascending f lt o test hs n) (λ x. stable x ∙ sym (merged-ties f lt o test x hs n))
