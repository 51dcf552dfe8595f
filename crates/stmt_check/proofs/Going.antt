-- How calls go on from each other: one part after another, and the error that ends them.
use Rattle.std.proofs.Common.{◌≡◌, ℕ, ◌<◌, ◌≤◌, ◌+◌, length, drop, get_or, suc, add-one, List, [], ◌∷◌, ◌++◌, Some, None, Result, Ok, Err, refl, sym, ap, subst, ◌∙◌, append_assoc}
use Rattle.std.proofs.Math.Seq.{drop-cons}
use Rattle.std.proofs.lemmas.List.{drop_all}
use Rattle.std.specs.Prelude.{IsErrAnd}
use Rattle.span_text.specs.declared.spot.Spot.{Spot}
use Rattle.type_table.specs.declared.fault.Fault.{Fault}
use Rattle.type_table.specs.declared.fault.Refusal.{Refusal}
use Rattle.type_table.specs.declared.fault.Refusal.TheVariants as refusal
use Rattle.type_table.specs.Found.{Found, Finds, first_of, told, Clears}
use Rattle.stmt_check.specs.Steps.{After, Reads, done, then_read, ◌>>=◌, pure, given, looks, reads_by, tells, changes, within, put_first, before_all, each, optional, Does, Goes}

pub first_before : {A : Type 0} (a b : List A) (x : A) → first_of a ≡ Some x → first_of (a ++ b) ≡ Some x
first_before [] b x h = cc
first_before (y ∷ a) b x h = h

append_nil : {A : Type 0} (xs : List A) → xs ++ [] ≡ xs
append_nil [] = refl
append_nil (x ∷ xs) = ap (λ ys. x ∷ ys) (append_nil xs)

-- ---- one after another

pub read_on : {S A B : Type 0} {m : Reads S A} (f : A → Reads S B) {x : A} {s t : S} → Goes m s t (Ok x) → (m >>= f) s ≡ f x t
unfolding ◌>>=◌
read_on f h = ap (λ found. then_read found f) h.does

bind_does : {S A B : Type 0} {m : Reads S A} (f : A → Reads S B) {x : A} {s t : S} (u : S) (r : Result B Refusal) → Goes m s t (Ok x) → Does (f x) t u r → Does (m >>= f) s u r
bind_does f u (Ok y) a b = read_on f a ∙ b
bind_does f u (Err (refusal.Fault fault)) a b = ap (λ found. first_of found.faults) (read_on f a) ∙ b
bind_does f u (Err refusal.Memory) a b = tt

pub goes_bind : {S A B : Type 0} {m : Reads S A} (f : A → Reads S B) {x : A} {s t u : S} {r : Result B Refusal} → Goes m s t (Ok x) → Goes (f x) t u r → Goes (m >>= f) s u r
goes_bind f {u = u} {r = r} a b = record { does = bind_does f u r a b.does }

stop_does : {S A B : Type 0} (m : Reads S A) (f : A → Reads S B) (e : Refusal) (s t u : S) → Does m s t (Err e) → Does (m >>= f) s u (Err e)
unfolding ◌>>=◌
stop_does m f (refusal.Fault fault) s t u h = first_before (m s).faults _ fault h
stop_does m f refusal.Memory s t u h = tt

pub goes_stop : {S A B : Type 0} {m : Reads S A} (f : A → Reads S B) {e : Refusal} {s t : S} (u : S) → Goes m s t (Err e) → Goes (m >>= f) s u (Err e)
goes_stop {m = m} f {e} {s} {t} u h = record { does = stop_does m f e s t u h.does }

-- the error that a `?` hands on
pub goes_err : {S A : Type 0} {m : Reads S A} {e : Refusal} {s t : S} (r : Result A Refusal) → IsErrAnd r (λ x. x ≡ e) → Goes m s t (Err e) → Goes m s t r
goes_err (Ok x) h g = absurd h
goes_err {m = m} {s = s} {t = t} (Err e) h g = subst (λ x. Goes m s t (Err x)) (sym h) g

pub goes_memory : {S A : Type 0} (m : Reads S A) (s t : S) → Goes m s t (Err refusal.Memory)
goes_memory m s t = record { does = tt }

-- ---- single parts

pub goes_pure : {S A : Type 0} (x : A) (s : S) → Goes (pure x) s s (Ok x)
unfolding pure
goes_pure x s = record { does = refl }

found_done : {S A : Type 0} {found : Found A} (x : A) (s : S) → (found.faults ≡ []) × (found.part ≡ x) → record { faults = found.faults; part = record { part = found.part; state = s } } ≡ done x s
found_done {S = S} {A = A} {found = found} x s h =
    let at : List Fault → A → Found (After S A) = λ faults y. record { faults = faults; part = record { part = y; state = s } } in
    ap (λ faults. at faults found.part) h.0 ∙ ap (λ y. at [] y) h.1

given_does : {S A : Type 0} (found : Found A) (r : Result A Refusal) (s : S) → Finds r found → Does (given found) s s r
unfolding given
given_does found (Ok x) s h = found_done {found = found} x s h
given_does found (Err (refusal.Fault fault)) s h = h
given_does found (Err refusal.Memory) s h = tt

pub goes_given : {S A : Type 0} (found : Found A) {r : Result A Refusal} (s : S) → Finds r found → Goes (given found) s s r
goes_given found {r} s h = record { does = given_does found r s h }

looks_does : {S A : Type 0} (f : S → Found A) (r : Result A Refusal) (s : S) → Finds r (f s) → Does (looks f) s s r
unfolding looks
looks_does f (Ok x) s h = found_done {found = f s} x s h
looks_does f (Err (refusal.Fault fault)) s h = h
looks_does f (Err refusal.Memory) s h = tt

pub goes_looks : {S A : Type 0} (f : S → Found A) {r : Result A Refusal} (s : S) → Finds r (f s) → Goes (looks f) s s r
goes_looks f {r} s h = record { does = looks_does f r s h }

pub goes_changes : {S A : Type 0} (f : S → After S A) (s : S) {x : A} {t : S} → f s ≡ record { part = x; state = t } → Goes (changes f) s t (Ok x)
unfolding changes
goes_changes {S = S} {A = A} f s h = let at : After S A → Found (After S A) = λ p. record { faults = []; part = p } in record { does = ap at h }

-- a change that was made
pub goes_change : {S A : Type 0} (f : S → After S A) (s t : S) {x : A} → (f s).part ≡ x → t ≡ (f s).state → Goes (changes f) s t (Ok x)
goes_change {S = S} {A = A} f s t {x} is left =
    let at : A → S → After S A = λ y v. record { part = y; state = v } in
    goes_changes f s (ap (λ y. at y (f s).state) is ∙ ap (at x) (sym left))

tells_does : {S : Type 0} (spot : Spot) (codes : S → List ℕ) (r : Result (Unit {0}) Refusal) (s : S) → Clears r (told spot (codes s)) → Does (tells spot codes) s s r
unfolding tells
tells_does {S = S} spot codes (Ok x) s h = let at : List Fault → Found (After S (Unit {0})) = λ faults. record { faults = faults; part = record { part = tt; state = s } } in ap at h
tells_does spot codes (Err (refusal.Fault fault)) s h = h
tells_does spot codes (Err refusal.Memory) s h = tt

pub goes_tells : {S : Type 0} (spot : Spot) (codes : S → List ℕ) {r : Result (Unit {0}) Refusal} (s : S) → Clears r (told spot (codes s)) → Goes (tells spot codes) s s r
goes_tells spot codes {r} s h = record { does = tells_does spot codes r s h }

by_does : {S A : Type 0} (f : S → Reads S A) (r : Result A Refusal) (s t : S) → Does (f s) s t r → Does (reads_by f) s t r
unfolding reads_by
by_does f (Ok x) s t d = d
by_does f (Err (refusal.Fault fault)) s t d = d
by_does f (Err refusal.Memory) s t d = tt

pub goes_by : {S A : Type 0} (f : S → Reads S A) {r : Result A Refusal} {s t : S} → Goes (f s) s t r → Goes (reads_by f) s t r
goes_by f {r} {s} {t} h = record { does = by_does f r s t h.does }

-- a part with a state of its own
pub goes_within : {S T A B : Type 0} (begin : S → T) (end : S → After T A → After S B) {m : Reads T A} {x : A} {y : B} {s u : S} {t : T} → Goes m (begin s) t (Ok x) → end s (record { part = x; state = t }) ≡ record { part = y; state = u } → Goes (within begin end m) s u (Ok y)
unfolding within
goes_within {S = S} {T = T} {A = A} {B = B} begin end {s = s} h e =
    let at : Found (After T A) → Found (After S B) = λ found. record { faults = found.faults; part = end s found.part } in
    let all : After S B → Found (After S B) = λ p. record { faults = []; part = p } in
    record { does = ap at h.does ∙ ap all e }

within_does : {S T A B : Type 0} (begin : S → T) (end : S → After T A → After S B) (m : Reads T A) (e : Refusal) (s : S) (t : T) (u : S) → Does m (begin s) t (Err e) → Does {A = B} (within begin end m) s u (Err e)
unfolding within
within_does begin end m (refusal.Fault fault) s t u d = d
within_does begin end m refusal.Memory s t u d = tt

pub goes_within_err : {S T A B : Type 0} (begin : S → T) (end : S → After T A → After S B) {m : Reads T A} {e : Refusal} {s : S} {t : T} (u : S) → Goes m (begin s) t (Err e) → Goes {A = B} (within begin end m) s u (Err e)
goes_within_err begin end {m} {e} {s} {t} u h = record { does = within_does begin end m e s t u h.does }

-- the same part under another name
pub goes_as : {S A : Type 0} {m n : Reads S A} {s t : S} {r : Result A Refusal} → m ≡ n → Goes n s t r → Goes m s t r
goes_as {s = s} {t = t} {r = r} e g = subst (λ k. Goes k s t r) (sym e) g

-- from the same beginning
pub goes_from : {S A : Type 0} {m : Reads S A} {s s' t : S} {r : Result A Refusal} → s ≡ s' → Goes m s' t r → Goes m s t r
goes_from {m = m} {t = t} {r = r} e g = subst (λ k. Goes m k t r) (sym e) g

pub goes_to : {S A : Type 0} {m : Reads S A} {s t t' : S} {r : Result A Refusal} → t ≡ t' → Goes m s t' r → Goes m s t r
goes_to {m = m} {s = s} {r = r} e g = subst (λ k. Goes m s k r) (sym e) g

pub goes_none : {S A : Type 0} (s : S) → Goes (optional {S = S} {A = A} None) s s (Ok None)
unfolding optional
goes_none s = goes_pure None s

pub goes_some : {S A : Type 0} {m : Reads S A} {x : A} {s t : S} → Goes m s t (Ok x) → Goes (optional (Some m)) s t (Ok (Some x))
unfolding optional
goes_some {t = t} h = goes_bind _ h (goes_pure _ t)

pub goes_some_err : {S A : Type 0} {m : Reads S A} {e : Refusal} {s t : S} (u : S) → Goes m s t (Err e) → Goes (optional (Some m)) s u (Err e)
unfolding optional
goes_some_err u h = goes_stop _ u h

-- ---- parts in order

-- what was read, and what is read of the rest
abbrev pub front : {S A : Type 0} → List A → Found (After S (List A)) → Found (After S (List A))
front out found = record found { part = record found.part { part = out ++ found.part.part } }

front_put : {S A : Type 0} (out : List A) (x : A) (rest : Found (After S (List A))) → front out (put_first x rest) ≡ front (out ++ x ∷ []) rest
front_put {S = S} {A = A} out x rest =
    let at : List A → Found (After S (List A)) = λ l. record rest { part = record rest.part { part = l } } in
    ap at (sym (append_assoc out (x ∷ []) rest.part.part))

-- the next of the parts was read
pub each_more : {S A : Type 0} {m : Reads S A} (out : List A) (ms : List (Reads S A)) {x : A} {s t : S} → Goes m s t (Ok x) → front out (each (m ∷ ms) s) ≡ front (out ++ x ∷ []) (each ms t)
unfolding each before_all
each_more {m = m} out ms {x} {s} {t} h = ap (front out) (read_on (λ x. before_all x (each ms)) h) ∙ front_put out x (each ms t)

-- the next of the parts is refused
pub each_stop : {S A : Type 0} {m : Reads S A} (out : List A) (ms : List (Reads S A)) {fault : Fault} {s t : S} → Goes m s t (Err (refusal.Fault fault)) → first_of (front out (each (m ∷ ms) s)).faults ≡ Some fault
unfolding each
each_stop {m = m} out ms {fault} {s} {t} h = stop_does m (λ x. before_all x (each ms)) (refusal.Fault fault) s t t h.does

pub each_end : {S A : Type 0} (out : List A) (s : S) → front out (each [] s) ≡ done out s
unfolding each pure
each_end {S = S} {A = A} out s = let at : List A → Found (After S (List A)) = λ l. done l s in ap at (append_nil out)

-- ---- a row of parts, read in a loop: what was read of the first ones, and what is read of the rest, is what is read of all

-- the parts of a list of trees
pub record Rows {S A B : Type 0} (M : List A → List (Reads S B)) (F : A → Reads S B) : Type 0 where
  pub none : M [] ≡ []
  pub more : (x : A) (xs : List A) → M (x ∷ xs) ≡ F x ∷ M xs

pub next_drop : {A : Type 0} (xs : List A) (i : ℕ) (x : A) → i < length xs → x ≡ get_or xs i x → drop i xs ≡ x ∷ drop (i + 1) xs
next_drop xs i x lt is = drop-cons xs i x lt ∙ ap (λ y. y ∷ drop (suc i) xs) (sym is) ∙ ap (λ n. x ∷ drop n xs) (sym (add-one i))

rest_is : {S A B : Type 0} {M : List A → List (Reads S B)} {F : A → Reads S B} (rows : Rows M F) (xs : List A) (i : ℕ) (x : A) → i < length xs → x ≡ get_or xs i x → M (drop i xs) ≡ F x ∷ M (drop (i + 1) xs)
rest_is {M = M} rows xs i x lt is = ap M (next_drop xs i x lt is) ∙ rows.more x (drop (i + 1) xs)

pub row_step : {S A B : Type 0} {M : List A → List (Reads S B)} {F : A → Reads S B} (rows : Rows M F) (xs : List A) (i : ℕ) {x : A} (out : List B) {y : B} {s t : S} {all : Found (After S (List B))} → i < length xs → x ≡ get_or xs i x → front out (each (M (drop i xs)) s) ≡ all → Goes (F x) s t (Ok y) → front (out ++ y ∷ []) (each (M (drop (i + 1) xs)) t) ≡ all
row_step {M = M} rows xs i {x} out {y} {s} {t} lt is so h = sym (each_more out (M (drop (i + 1) xs)) h) ∙ ap (λ ms. front out (each ms s)) (sym (rest_is rows xs i x lt is)) ∙ so

row_fault : {S A B : Type 0} {M : List A → List (Reads S B)} {F : A → Reads S B} (rows : Rows M F) (xs : List A) (i : ℕ) {x : A} (out : List B) (e : Refusal) {s t : S} (old : S) (new : S) → i < length xs → x ≡ get_or xs i x → front out (each (M (drop i xs)) s) ≡ each (M xs) old → Goes (F x) s t (Err e) → Does (each (M xs)) old new (Err e)
row_fault {M = M} rows xs i {x} out (refusal.Fault fault) {s} {t} old new lt is so h = ap (λ found. first_of found.faults) (sym so) ∙ ap (λ ms. first_of (front out (each ms s)).faults) (rest_is rows xs i x lt is) ∙ each_stop out (M (drop (i + 1) xs)) h
row_fault rows xs i out refusal.Memory old new lt is so h = tt

pub row_stop : {S A B : Type 0} {M : List A → List (Reads S B)} {F : A → Reads S B} (rows : Rows M F) (xs : List A) (i : ℕ) {x : A} (out : List B) {e : Refusal} {s t old : S} (new : S) → i < length xs → x ≡ get_or xs i x → front out (each (M (drop i xs)) s) ≡ each (M xs) old → Goes (F x) s t (Err e) → Goes (each (M xs)) old new (Err e)
row_stop rows xs i out {e = e} {old = old} new lt is so h = record { does = row_fault rows xs i out e old new lt is so h }

pub row_end : {S A B : Type 0} {M : List A → List (Reads S B)} {F : A → Reads S B} (rows : Rows M F) (xs : List A) (i : ℕ) {out : List B} {s old : S} → length xs ≤ i → front out (each (M (drop i xs)) s) ≡ each (M xs) old → Goes (each (M xs)) old s (Ok out)
row_end {M = M} rows xs i {out} {s} le so = record { does = sym so ∙ ap (λ ms. front out (each ms s)) (ap M (drop_all i xs le) ∙ rows.none) ∙ each_end out s }
