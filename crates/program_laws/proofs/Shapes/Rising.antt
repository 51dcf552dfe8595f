-- Visible names in ascending order of their numbers: those that a callback takes along, and their places among these.
use Rattle.std.proofs.Common.{◌≡◌, ◌+◌, ◌<◌, ◌≤◌, ◌∷◌, ◌++◌}
use Rattle.program_laws.proofs.Common.{ℕ, zero, suc, drop, take, List, [], Some, Bool, true, false, cond, refl, sym, ap, subst, ◌∙◌, arith, nat_lt, slice_get, filter, take-append-drop, filter-append, sum_by-cons, lt-ltb, Seen, place_among}
use Rattle.std.proofs.lemmas.Bool.{le-ltb}
use Rattle.program_laws.proofs.Shapes.Lists.{none_isnt}

-- numbers that rise from this one on, and end below that one
abbrev pub Rising : ℕ → List Seen → ℕ → Type 0
Rising lo [] hi = lo ≤ hi
Rising lo (x ∷ xs) hi = (lo ≤ x.number) × Rising (suc x.number) xs hi

pub rising_spans : (lo : ℕ) (xs : List Seen) (hi : ℕ) → Rising lo xs hi → lo ≤ hi
rising_spans lo [] hi h = h
rising_spans lo (x ∷ xs) hi h = let p = h.0 in let q = rising_spans (suc x.number) xs hi h.1 in omega arith

pub rising_below : (lo lower : ℕ) (xs : List Seen) (hi : ℕ) → lower ≤ lo → Rising lo xs hi → Rising lower xs hi
rising_below lo lower [] hi le h = omega arith
rising_below lo lower (x ∷ xs) hi le h = (let p = h.0 in omega arith, h.1)

pub rising_above : (lo : ℕ) (xs : List Seen) (hi higher : ℕ) → hi ≤ higher → Rising lo xs hi → Rising lo xs higher
rising_above lo [] hi higher le h = omega arith
rising_above lo (x ∷ xs) hi higher le h = (h.0, rising_above (suc x.number) xs hi higher le h.1)

pub rising_both : (lo : ℕ) (xs : List Seen) (mid : ℕ) (ys : List Seen) (hi : ℕ) → Rising lo xs mid → Rising mid ys hi → Rising lo (xs ++ ys) hi
rising_both lo [] mid ys hi h k = rising_below mid lo ys hi h k
rising_both lo (x ∷ xs) mid ys hi h k = (h.0, rising_both (suc x.number) xs mid ys hi h.1 k)

pub rising_front : (lo : ℕ) (xs ys : List Seen) (hi : ℕ) → Rising lo (xs ++ ys) hi → Rising lo xs hi
rising_front lo [] ys hi h = rising_spans lo ys hi h
rising_front lo (x ∷ xs) ys hi h = (h.0, rising_front (suc x.number) xs ys hi h.1)

-- fewer names rise too
less_here : (p q : Seen → Bool) (x : Seen) (xs : List Seen) (lo hi : ℕ) (b c : Bool) → p x ≡ b → q x ≡ c → (q x ≡ true → p x ≡ true) → ((low : ℕ) → Rising low (filter p xs) hi → Rising low (filter q xs) hi) → Rising lo (cond b (x ∷ filter p xs) (filter p xs)) hi → Rising lo (cond c (x ∷ filter q xs) (filter q xs)) hi
less_here p q x xs lo hi true true is so h rest r = (r.0, rest (suc x.number) r.1)
less_here p q x xs lo hi true false is so h rest r = rest lo (rising_below (suc x.number) lo (filter p xs) hi (let e = r.0 in omega arith) r.1)
less_here p q x xs lo hi false true is so h rest r = let e : p x ≡ true = h so in cc
less_here p q x xs lo hi false false is so h rest r = rest lo r

pub rising_less : (p q : Seen → Bool) → ((x : Seen) → q x ≡ true → p x ≡ true) → (xs : List Seen) (lo hi : ℕ) → Rising lo (filter p xs) hi → Rising lo (filter q xs) hi
rising_less p q h [] lo hi r = r
rising_less p q h (x ∷ xs) lo hi r = less_here p q x xs lo hi (p x) (q x) refl refl (h x) (λ low k. rising_less p q h xs low hi k) r

kept_here : (q : Seen → Bool) (x : Seen) (xs : List Seen) (lo hi : ℕ) (c : Bool) → ((low : ℕ) → Rising low xs hi → Rising low (filter q xs) hi) → Rising lo (x ∷ xs) hi → Rising lo (cond c (x ∷ filter q xs) (filter q xs)) hi
kept_here q x xs lo hi true rest r = (r.0, rest (suc x.number) r.1)
kept_here q x xs lo hi false rest r = rest lo (rising_below (suc x.number) lo xs hi (let e = r.0 in omega arith) r.1)

pub rising_filter : (q : Seen → Bool) (xs : List Seen) (lo hi : ℕ) → Rising lo xs hi → Rising lo (filter q xs) hi
rising_filter q [] lo hi r = r
rising_filter q (x ∷ xs) lo hi r = kept_here q x xs lo hi (q x) (λ low k. rising_filter q xs low hi k) r

pub rising_take : (p : Seen → Bool) (n : ℕ) (xs : List Seen) (lo hi : ℕ) → Rising lo (filter p xs) hi → Rising lo (filter p (take n xs)) hi
rising_take p n xs lo hi r =
    let e : filter p xs ≡ filter p (take n xs) ++ filter p (drop n xs) = ap (filter p) (sym (take-append-drop n xs)) ∙ filter-append p (take n xs) (drop n xs) in
    rising_front lo (filter p (take n xs)) (filter p (drop n xs)) hi (subst (λ ys. Rising lo ys hi) e r)

-- ---- places among names that rise

abbrev one_if : Bool → ℕ
one_if b = cond b 1 0

place_more : (c : Seen) (cs : List Seen) (n : ℕ) → place_among (c ∷ cs) n ≡ one_if (nat_lt c.number n) + place_among cs n
place_more c cs n = sum_by-cons (λ (x : Seen). one_if (nat_lt x.number n)) c cs

lt_one : (a b : ℕ) → a < b → one_if (nat_lt a b) ≡ 1
lt_one a b h = ap one_if (lt-ltb a b h)

ge_none : (a b : ℕ) → b ≤ a → one_if (nat_lt a b) ≡ 0
ge_none a b h = ap one_if (le-ltb a b h)

pub place_none : (lo : ℕ) (xs : List Seen) (hi n : ℕ) → n ≤ lo → Rising lo xs hi → place_among xs n ≡ 0
place_none lo [] hi n le r = refl
place_none lo (x ∷ xs) hi n le r =
    let a = r.0 in
    let e = ge_none x.number n (omega arith) in
    let k = place_none (suc x.number) xs hi n (omega arith) r.1 in
    place_more x xs n ∙ omega (arith, e, k)

-- the places that numbers have, from this one on
abbrev pub Places : (ℕ → ℕ) → ℕ → List Seen → Type 0
Places place n [] = Unit {0}
Places place n (x ∷ xs) = (place x.number ≡ n) × Places place (suc n) xs

places_from : (xs : List Seen) (lo hi k : ℕ) (place : ℕ → ℕ) → Rising lo xs hi → ((n : ℕ) → lo ≤ n → place n ≡ k + place_among xs n) → Places place k xs
places_from [] lo hi k place r f = tt
places_from (x ∷ xs) lo hi k place r f =
    let a = r.0 in
    let here : place x.number ≡ k =
    let e = f x.number r.0 in
    let m = place_more x xs x.number in
    let z = ge_none x.number x.number (omega arith) in
    let p = place_none (suc x.number) xs hi x.number (omega arith) r.1 in
    omega (arith, e, m, z, p) in (
      here,
      places_from xs (suc x.number) hi (suc k) place r.1 (λ n le.
          let e = f n (omega arith) in
          let m = place_more x xs n in
          let z = lt_one x.number n (omega arith) in
          omega (arith, e, m, z)),
    )

-- among themselves names that rise stand at 0, 1, 2 ..
pub places : (xs : List Seen) (lo hi : ℕ) → Rising lo xs hi → Places (place_among xs) 0 xs
places xs lo hi r = places_from xs lo hi 0 (place_among xs) r (λ n le. omega arith)

pub place_at : (place : ℕ → ℕ) (n : ℕ) (xs : List Seen) (i : ℕ) (x : Seen) → Places place n xs → slice_get xs i ≡ Some x → place x.number ≡ n + i
place_at place n [] i x h e = none_isnt x e
place_at place n (y ∷ xs) zero x h e = let same : y ≡ x = cc in let k = h.0 in subst (λ (s : Seen). place s.number ≡ n + 0) same (omega (arith, k))
place_at place n (y ∷ xs) (suc i) x h e = let k = place_at place (suc n) xs i x h.1 e in omega (arith, k)
