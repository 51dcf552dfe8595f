-- Parts in a row: a part without faults leads to what is made of it, and the first fault of a part is that of the row.
use Rattle.std.proofs.Common.{◌≡◌, ℕ, suc, ◌+◌, ◌<◌, ◌≤◌, List, [], ◌∷◌, ◌++◌, length, map, drop, get_or, add-one, Some, Ok, Err, Result, Bool, true, false, if◌then◌else◌, refl, ap, sym, subst, ◌∙◌}
use Rattle.std.proofs.Math.Seq.{drop-cons}
use Rattle.std.proofs.lemmas.List.{drop_all}
use Rattle.std.specs.Prelude.{IsErrAnd}
use Rattle.span_text.specs.declared.spot.Spot.{Spot}
use Rattle.type_table.specs.declared.fault.Fault.{Fault}
use Rattle.type_table.specs.declared.fault.Refusal.{Refusal}
use Rattle.type_table.specs.declared.fault.Refusal.TheVariants as refusal
use Rattle.type_table.specs.Found.{Found, Refuses, first_of, told}
use Rattle.listener_check.specs.declared.sofar.Sofar.{Sofar}
use Rattle.listener_check.specs.Went.{Went, went, ◌>>=◌, through, behind, given, Goes}

pub first_before : {A : Type 0} (a b : List A) (x : A) → first_of a ≡ Some x → first_of (a ++ b) ≡ Some x
first_before [] b x h = cc
first_before (y ∷ a) b x h = h

on-went : {A B : Type 0} (x : A) (s : Sofar) (made : A → Sofar → Went B) → (went x s >>= made) ≡ made x s
unfolding ◌>>=◌
on-went x s made = refl

-- what is made of a part without faults
pub on-part : {A B : Type 0} (w : Went A) (x : A) (s : Sofar) (made : A → Sofar → Went B) → w ≡ went x s → (w >>= made) ≡ made x s
on-part w x s made h = ap (λ v. v >>= made) h ∙ on-went x s made

-- a part with a fault
pub on-fault : {A B : Type 0} (w : Went A) (made : A → Sofar → Went B) (f : Fault) → first_of w.faults ≡ Some f → first_of (w >>= made).faults ≡ Some f
unfolding ◌>>=◌
on-fault w made f h = first_before w.faults _ f h

-- an answer of what goes on behind a part
pub goes-on : {A B : Type 0} (w : Went A) (x : A) (s : Sofar) (made : A → Sofar → Went B) (r : Result B Refusal) (after : Sofar) → w ≡ went x s → Goes r (made x s) after → Goes r (w >>= made) after
goes-on w x s made r after h k = rw (on-part w x s made h) k

-- a refusal of a part stands for the row
pub refuses-on : {A B : Type 0} (w : Went A) (made : A → Sofar → Went B) (e : Refusal) → Refuses e w.faults → Refuses e (w >>= made).faults
refuses-on w made (refusal.Fault f) h = on-fault w made f h
refuses-on w made refusal.Memory h = tt

-- an error of a part that is handed on
pub goes-fail : {A B : Type 0} (r : Result B Refusal) (e : Refusal) (w : Went A) (made : A → Sofar → Went B) (after : Sofar) → IsErrAnd r (λ x. x ≡ e) → Refuses e w.faults → Goes r (w >>= made) after
goes-fail (Ok x) e w made after h k = absurd h
goes-fail (Err y) e w made after h k = subst (λ (v : Refusal). Refuses v (w >>= made).faults) (sym h) (refuses-on w made e k)

-- an error of all
pub goes-err : {A : Type 0} (r : Result A Refusal) (e : Refusal) (w : Went A) (s : Sofar) → IsErrAnd r (λ x. x ≡ e) → Refuses e w.faults → Goes r w s
goes-err (Ok x) e w s h k = absurd h
goes-err (Err y) e w s h k = subst (λ (v : Refusal). Refuses v w.faults) (sym h) k

pub behind-none : {A : Type 0} (w : Went A) → behind [] w ≡ w
unfolding behind
behind-none w = refl

pub behind-fault : {A : Type 0} (f : Fault) (w : Went A) → first_of (behind (f ∷ []) w).faults ≡ Some f
unfolding behind
behind-fault f w = refl

pub given-sound : {A : Type 0} (found : Found A) (x : A) (s : Sofar) → found.faults ≡ [] → found.part ≡ x → given found s ≡ went x s
unfolding given
given-sound found x s h k = cc

pub given-fault : {A : Type 0} (found : Found A) (s : Sofar) (f : Fault) → first_of found.faults ≡ Some f → first_of (given found s).faults ≡ Some f
unfolding given
given-fault found s f h = h

pub given-refuses : {A : Type 0} (found : Found A) (s : Sofar) (e : Refusal) → Refuses e found.faults → Refuses e (given found s).faults
unfolding given
given-refuses found s e h = h

-- no fault in front
pub behind-sound : {A : Type 0} (faults : List Fault) (w : Went A) (x : A) (s : Sofar) → faults ≡ [] → w ≡ went x s → behind faults w ≡ went x s
behind-sound faults w x s none h = ap (λ (l : List Fault). behind l w) none ∙ behind-none w ∙ h

pub told-none : (spot : Spot) (code : ℕ) (holds : Bool) → holds ≡ false → told spot (if holds then code ∷ [] else []) ≡ []
told-none spot code true h = cc
told-none spot code false h = refl

pub told-unless : (spot : Spot) (code : ℕ) (holds : Bool) → holds ≡ true → told spot (if holds then [] else code ∷ []) ≡ []
told-unless spot code true h = refl
told-unless spot code false h = cc

item_drop : {A : Type 0} (xs : List A) (i : ℕ) (x : A) → i < length xs → x ≡ get_or xs i x → drop i xs ≡ x ∷ drop (i + 1) xs
item_drop xs i x lt is = drop-cons xs i x lt ∙ ap (λ y. y ∷ drop (suc i) xs) (sym is) ∙ ap (λ n. x ∷ drop n xs) (sym (add-one i))

-- the same list by another name
same_drop : {A : Type 0} (seen xs : List A) (i : ℕ) (x : A) → seen ≡ xs → i < length seen → x ≡ get_or seen i x → drop i xs ≡ x ∷ drop (i + 1) xs
same_drop {A = A} seen xs i x same lt is = ap (λ (l : List A). drop i l) (sym same) ∙ item_drop seen i x lt is ∙ ap (λ (l : List A). x ∷ drop (i + 1) l) same

same_end : {A : Type 0} (seen xs : List A) (i : ℕ) → seen ≡ xs → length seen ≤ i → drop i xs ≡ []
same_end {A = A} seen xs i same past = ap (λ (l : List A). drop i l) (sym same) ∙ drop_all i seen past

-- items in order, by what they show: `seen` is the list that a loop goes over
module _ {A B C : Type 0} (step : C → B → Sofar → Went C) (f : A → B) where
  shown_item : (c : C) (xs rest : List A) (x : A) (s : Sofar) → xs ≡ x ∷ rest → through step c (map f xs) s ≡ (step c (f x) s >>= λ d s. through step d (map f rest) s)
  unfolding through
  shown_item c xs rest x s is = ap (λ (l : List A). through step c (map f l) s) is

  -- an item that stands
  pub shown_next : (c d : C) (seen xs : List A) (i : ℕ) (x : A) (s t : Sofar) (total : Went C) → seen ≡ xs → i < length seen → x ≡ get_or seen i x → through step c (map f (drop i xs)) s ≡ total → step c (f x) s ≡ went d t → through step d (map f (drop (i + 1) xs)) t ≡ total
  shown_next c d seen xs i x s t total same lt is h stands = sym (on-part (step c (f x) s) d t (λ d s. through step d (map f (drop (i + 1) xs)) s) stands) ∙ sym (shown_item c (drop i xs) (drop (i + 1) xs) x s (same_drop seen xs i x same lt is)) ∙ h

  -- an item that is refused
  pub shown_stop : (c : C) (seen xs : List A) (i : ℕ) (x : A) (s : Sofar) (total : Went C) (e : Refusal) → seen ≡ xs → i < length seen → x ≡ get_or seen i x → through step c (map f (drop i xs)) s ≡ total → Refuses e (step c (f x) s).faults → Refuses e total.faults
  shown_stop c seen xs i x s total e same lt is h refused = subst (λ (w : Went C). Refuses e w.faults) (sym (shown_item c (drop i xs) (drop (i + 1) xs) x s (same_drop seen xs i x same lt is)) ∙ h) (refuses-on (step c (f x) s) (λ d s. through step d (map f (drop (i + 1) xs)) s) e refused)

  -- no item is left
  pub shown_end : (c : C) (seen xs : List A) (i : ℕ) (s : Sofar) (total : Went C) → seen ≡ xs → length seen ≤ i → through step c (map f (drop i xs)) s ≡ total → total ≡ went c s
  unfolding through
  shown_end c seen xs i s total same past h = sym h ∙ ap (λ (l : List A). through step c (map f l) s) (same_end seen xs i same past)

-- items in order as they are
module _ {A C : Type 0} (step : C → A → Sofar → Went C) where
  through_item : (c : C) (xs rest : List A) (x : A) (s : Sofar) → xs ≡ x ∷ rest → through step c xs s ≡ (step c x s >>= λ d s. through step d rest s)
  unfolding through
  through_item c xs rest x s is = ap (λ (l : List A). through step c l s) is

  pub through_next : (c d : C) (seen xs : List A) (i : ℕ) (x : A) (s t : Sofar) (total : Went C) → seen ≡ xs → i < length seen → x ≡ get_or seen i x → through step c (drop i xs) s ≡ total → step c x s ≡ went d t → through step d (drop (i + 1) xs) t ≡ total
  through_next c d seen xs i x s t total same lt is h stands = sym (on-part (step c x s) d t (λ d s. through step d (drop (i + 1) xs) s) stands) ∙ sym (through_item c (drop i xs) (drop (i + 1) xs) x s (same_drop seen xs i x same lt is)) ∙ h

  pub through_stop : (c : C) (seen xs : List A) (i : ℕ) (x : A) (s : Sofar) (total : Went C) (e : Refusal) → seen ≡ xs → i < length seen → x ≡ get_or seen i x → through step c (drop i xs) s ≡ total → Refuses e (step c x s).faults → Refuses e total.faults
  through_stop c seen xs i x s total e same lt is h refused = subst (λ (w : Went C). Refuses e w.faults) (sym (through_item c (drop i xs) (drop (i + 1) xs) x s (same_drop seen xs i x same lt is)) ∙ h) (refuses-on (step c x s) (λ d s. through step d (drop (i + 1) xs) s) e refused)

  pub through_end : (c : C) (seen xs : List A) (i : ℕ) (s : Sofar) (total : Went C) → seen ≡ xs → length seen ≤ i → through step c (drop i xs) s ≡ total → total ≡ went c s
  unfolding through
  through_end c seen xs i s total same past h = sym h ∙ ap (λ (l : List A). through step c l s) (same_end seen xs i same past)

pub ruleset going = (on-part, on-fault, behind-none, behind-fault, given-sound, given-fault, first_before)
