-- What is found in a list by a test, and instances that are found by their numbers.
use Rattle.std.proofs.Common.{◌≡◌, ◌∷◌, ◌++◌, if◌then◌else◌, ◌⊎◌}
use Rattle.context_meaning.proofs.Common.{ℕ, List, [], Bool, true, false, not, Option, Some, None, All, Contains, filter, find, inl, inr, ⊎_elim, refl, sym, ap, subst, ◌∙◌, eqb-true, same_Some, All-contains, All-cons, All-head, All-tail, Value, UnderWay, Instance, Listener, is_born, is_instance, put_expression, put_globals}
use Rattle.std.proofs.lemmas.Bool.{eq-eqb, both_ways, not-true}
use Rattle.std.proofs.lemmas.List.Elements.{Contains-append_left, Contains-append_right, Contains-push, filter_passes}

-- ---- one choice

-- what is chosen between one and what an option gives
pub found_case : {A : Type 0} (b : Bool) (x : A) (o : Option A) (y : A) → (if b then Some x else o) ≡ Some y → ((b ≡ true) × (x ≡ y)) ⊎ (o ≡ Some y)
found_case true x o y h = inl (refl, same_Some x y h)
found_case false x o y h = inr h

-- another option behind the same choice
pick : {A : Type 0} (b : Bool) (x : A) (o p : Option A) (y : A) → (if b then Some x else o) ≡ Some y → (o ≡ Some y → p ≡ Some y) → (if b then Some x else p) ≡ Some y
pick true x o p y h k = h
pick false x o p y h k = k h

-- what isn't the one
skip : {A : Type 0} (b : Bool) (x : A) (o : Option A) (y : A) → (b ≡ true → ⊥) → o ≡ Some y → (if b then Some x else o) ≡ Some y
skip true x o y n h = absurd (n refl)
skip false x o y n h = h

-- ---- found by a test

-- what is found passes
pub find_passes : {A : Type 0} (p : A → Bool) (xs : List A) (y : A) → find p xs ≡ Some y → p y ≡ true
find_passes p [] y h = cc
find_passes p (x ∷ xs) y h = ⊎_elim (λ k. subst (λ z. p z ≡ true) k.1 k.0) (find_passes p xs y) (found_case (p x) x (find p xs) y h)

-- it is in the list
pub find_contains : {A : Type 0} (p : A → Bool) (xs : List A) (y : A) → find p xs ≡ Some y → Contains xs y
find_contains p [] y h = cc
find_contains p (x ∷ xs) y h = ⊎_elim (λ k. subst (λ z. Contains (x ∷ xs) z) k.1 (Contains-append_left (x ∷ []) xs x (Contains-push [] x))) (λ k. Contains-append_right (x ∷ []) xs y (find_contains p xs y k)) (found_case (p x) x (find p xs) y h)

-- what holds of all holds of what is found
pub find_all : {A : Type 0} (P : A → Type 0) (p : A → Bool) (xs : List A) (y : A) → All P xs → find p xs ≡ Some y → P y
find_all P p xs y a h = All-contains P xs y a (find_contains p xs y h)

-- one at the front, and the rest with one more
push_step : {A : Type 0} {Q : Type 0} (b : Bool) (z : A) (o q : Option A) (y : A) → (if b then Some z else q) ≡ Some y → (q ≡ Some y → (o ≡ Some y) ⊎ Q) → ((if b then Some z else o) ≡ Some y) ⊎ Q
push_step true z o q y h k = inl h
push_step false z o q y h k = k h

-- with one more behind the others
pub find_push : {A : Type 0} (p : A → Bool) (xs : List A) (x y : A) → find p (xs ++ x ∷ []) ≡ Some y → (find p xs ≡ Some y) ⊎ ((p x ≡ true) × (x ≡ y))
find_push p [] x y h = ⊎_elim inr inl (found_case (p x) x None y h)
find_push p (z ∷ xs) x y h = push_step (p z) z (find p xs) (find p (xs ++ x ∷ [])) y h (find_push p xs x y)

-- ---- instances by their numbers

-- what is found has the number
pub number_is : (n : ℕ) (is : List Instance) (i : Instance) → find (is_instance n) is ≡ Some i → i.number ≡ n
number_is n is i h = eqb-true i.number n (find_passes (is_instance n) is i h)

-- the instances without this number
abbrev pub others : ℕ → List Instance → List Instance
others n is = filter (λ i. not (is_instance n i)) is

-- among those that are left none has that number
not_left : (n m : ℕ) (is : List Instance) (i : Instance) → find (is_instance m) (others n is) ≡ Some i → n ≡ m → ⊥
not_left n m is i h e = both_ways (is_instance n i) (not-true (is_instance n i) (find_all (λ j. not (is_instance n j) ≡ true) (is_instance m) (others n is) i (filter_passes (λ j. not (is_instance n j)) is) h)) (eq-eqb i.number n (number_is m (others n is) i h ∙ sym e))

-- one at the front, which stays or goes
left_step : (n m : ℕ) (x : Instance) (is : List Instance) (i : Instance) (a : Bool) → is_instance n x ≡ a → (find (is_instance m) (others n is) ≡ Some i → find (is_instance m) is ≡ Some i) → find (is_instance m) (if not a then x ∷ others n is else others n is) ≡ Some i → find (is_instance m) (x ∷ is) ≡ Some i
left_step n m x is i true e k h = skip (is_instance m x) x (find (is_instance m) is) i (λ b. not_left n m is i h (sym (eqb-true x.number n e) ∙ eqb-true x.number m b)) (k h)
left_step n m x is i false e k h = pick (is_instance m x) x (find (is_instance m) (others n is)) (find (is_instance m) is) i h k

-- one that is found where those of a number are gone is found before
pub find_others : (n m : ℕ) (is : List Instance) (i : Instance) → find (is_instance m) (others n is) ≡ Some i → find (is_instance m) is ≡ Some i
find_others n m [] i h = h
find_others n m (x ∷ is) i h = left_step n m x is i (is_instance n x) refl (find_others n m is i) h

-- ---- other globals

-- an instance with other globals
abbrev pub with : List Value → Instance → Instance
with globals i = record i { globals = globals }

-- one with this number is found, of the monitor of that one
abbrev pub FoundAs : ℕ → List Instance → Instance → Type 0
FoundAs m is j = (i : Instance) × (find (is_instance m) is ≡ Some i) × (i.monitor ≡ j.monitor)

-- the one that is changed keeps its monitor
same_pick : (b : Bool) (x : Instance) (globals : List Value) (o : Option Instance) (j : Instance) → (if b then Some (with globals x) else o) ≡ Some j → (i : Instance) × ((if b then Some x else o) ≡ Some i) × (i.monitor ≡ j.monitor)
same_pick true x globals o j h = (x, refl, ap (λ i. i.monitor) (same_Some (with globals x) j h))
same_pick false x globals o j h = (j, h, refl)

-- one at the front that stays
more_pick : (b : Bool) (x : Instance) (o p : Option Instance) (j : Instance) → (if b then Some x else p) ≡ Some j → (p ≡ Some j → (i : Instance) × (o ≡ Some i) × (i.monitor ≡ j.monitor)) → (i : Instance) × ((if b then Some x else o) ≡ Some i) × (i.monitor ≡ j.monitor)
more_pick true x o p j h k = (j, h, refl)
more_pick false x o p j h k = k h

-- one at the front, which is changed or stays
put_step : (n m : ℕ) (globals : List Value) (x : Instance) (is : List Instance) (j : Instance) (a : Bool) → (find (is_instance m) (put_globals n globals is) ≡ Some j → FoundAs m is j) → find (is_instance m) (if a then with globals x ∷ is else x ∷ put_globals n globals is) ≡ Some j → FoundAs m (x ∷ is) j
put_step n m globals x is j true k h = same_pick (is_instance m x) x globals (find (is_instance m) is) j h
put_step n m globals x is j false k h = more_pick (is_instance m x) x (find (is_instance m) is) (find (is_instance m) (put_globals n globals is)) j h k

-- one that is found behind a change of globals is found before, of the same monitor
pub find_put : (n m : ℕ) (globals : List Value) (is : List Instance) (j : Instance) → find (is_instance m) (put_globals n globals is) ≡ Some j → FoundAs m is j
find_put n m globals [] j h = (j, h, refl)
find_put n m globals (x ∷ is) j h = put_step n m globals x is j (is_instance n x) (find_put n m globals is j) h

-- one at the front, which is changed or stays
all_step : (P : Instance → Type 0) (globals : List Value) (x : Instance) (is js : List Instance) (o : Option Instance) (a : Bool) → P x → All P is → ((i : Instance) → (if a then Some x else o) ≡ Some i → P (with globals i)) → (((i : Instance) → o ≡ Some i → P (with globals i)) → All P js) → All P (if a then with globals x ∷ is else x ∷ js)
all_step P globals x is js o true p all k h = All-cons P (with globals x) is (k x refl) all
all_step P globals x is js o false p all k h = All-cons P x js p (h k)

-- all keep what holds of them, where it holds of the one that is changed
pub all_put : (P : Instance → Type 0) (n : ℕ) (globals : List Value) (is : List Instance) → All P is → ((i : Instance) → find (is_instance n) is ≡ Some i → P (with globals i)) → All P (put_globals n globals is)
all_put P n globals [] all k = all
all_put P n globals (x ∷ is) all k = all_step P globals x is (put_globals n globals is) (find (is_instance n) is) (is_instance n x) (All-head P x is all) (All-tail P x is all) k (all_put P n globals is (All-tail P x is all))

-- ---- listeners with other event expressions

-- a listener with another event expression
abbrev pub moved : UnderWay → Listener → Listener
moved u l = record l { expression = u }

-- one at the front, which is changed or stays
put_all_step : (P : Listener → Type 0) (u : UnderWay) (x : Listener) (ls ms : List Listener) (o : Option Listener) (a : Bool) → P x → All P ls → ((l : Listener) → (if a then Some x else o) ≡ Some l → P (moved u l)) → (((l : Listener) → o ≡ Some l → P (moved u l)) → All P ms) → All P (if a then moved u x ∷ ls else x ∷ ms)
put_all_step P u x ls ms o true p all k h = All-cons P (moved u x) ls (k x refl) all
put_all_step P u x ls ms o false p all k h = All-cons P x ms p (h k)

-- all keep what holds of them, where it holds of the one that is changed
pub put_all : (P : Listener → Type 0) (birth : ℕ) (u : UnderWay) (ls : List Listener) → All P ls → ((l : Listener) → find (is_born birth) ls ≡ Some l → P (moved u l)) → All P (put_expression birth u ls)
put_all P birth u [] all k = all
put_all P birth u (x ∷ ls) all k = put_all_step P u x ls (put_expression birth u ls) (find (is_born birth) ls) (is_born birth x) (All-head P x ls all) (All-tail P x ls all) k (put_all P birth u ls (All-tail P x ls all))
