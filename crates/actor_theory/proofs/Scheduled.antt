-- What a schedule makes is faithful.
use Rattle.std.proofs.Common.{◌≡◌, ◌+◌, ◌≤◌, ◌<◌, ◌∷◌, ◌++◌, ◌==◌, ◌⊎◌}
use Rattle.actor_theory.proofs.Common.{ℕ, List, [], Bool, true, false, not, nat_le, cond, Option, Some, None, refl, sym, ◌∙◌, ap, subst, arith, inl, inr, eqb-true, eqb-false, eq-eqb, le-leb, ne_eqb, and_from, not_from_false, le-leb, cases_lt, AllByRecursion, Entry, Language, naive, sends, by, World, start, first_from, with_front, step, picked, follow, is_open, other_sender, head_sender, IsQuiet, IsFinished, IsBoot, BeginsWithBoot, IsReaderQuiet, IsFaithfulRun, IsScheduledRun}
use Rattle.actor_theory.specs.World.{given}
use Rattle.actor_theory.specs.Faithful.{IsDelivered}
use Rattle.actor_theory.proofs.Given.{given-run}
use Rattle.actor_theory.proofs.Running.{IsRun, step-run, start-run, rounds-keep, Extends, extends-refl, step-extends}

-- where no entry is of a sender above n, each is of one up to n
pub senders-from_by : {C : Type 0} (n : ℕ) (es : List (Entry C)) → ((s : ℕ) → n < s → by s es ≡ []) → AllByRecursion (λ e. e.sender ≤ n) es
senders-from_by n [] h = tt
senders-from_by n (e ∷ es) h = (here (cases_lt n e.sender), senders-from_by n es (λ s lt. go s (e.sender == s) (h s lt)))
  where
    here : ((n < e.sender) ⊎ (e.sender ≤ n)) → e.sender ≤ n
    here (inl lt) = let p : cond (e.sender == e.sender) (e ∷ by e.sender es) (by e.sender es) ≡ [] = h e.sender lt in let q : e ∷ by e.sender es ≡ [] = rw (eq-eqb e.sender e.sender refl) at p in absurd (cc)
    here (inr le) = le

    go : (s : ℕ) (b : Bool) → cond b (e ∷ by s es) (by s es) ≡ [] → by s es ≡ []
    go s true p = absurd (cc)
    go s false p = p

-- an actor that has handled nothing and isn't the reader has sent nothing
pub sends-none : {S C : Type 0} (L : Language S C) (items : List C) (s k : ℕ) (log : List (Entry C)) → L.contexts < s → log ≡ [] → sends L items s k log ≡ []
sends-none L items s k log lt e = let other : s ≡ L.contexts → ⊥ = λ i. omega arith in rw (e, ne_eqb s L.contexts other) refl

pub run-delivered : {S C : Type 0} (L : Language S C) (items : List C) (w : World C) → IsRun L items w → IsDelivered L items w
run-delivered L items w h = record {
  each = h.each;
  senders = λ d. senders-from_by L.contexts (w.log d ++ w.queue d) (λ s lt. h.each s d ∙ sends-none L items s d (w.log s) lt (h.others s lt));
}

-- none of a list with one more at its front
front-none : {C : Type 0} (e : Entry C) (o : Option (Entry C × List (Entry C))) → with_front e o ≡ None → o ≡ None
front-none e None h = refl
front-none e (Some p) h = absurd (cc)

rest-none : {C : Type 0} (s : ℕ) (e : Entry C) (es : List (Entry C)) → first_from s (e ∷ es) ≡ None → ((e.sender == s) ≡ false) × (first_from s es ≡ None)
rest-none s e es h = go (e.sender == s) refl h
  where
    go : (b : Bool) → (e.sender == s) ≡ b → cond b (Some (e, es)) (with_front e (first_from s es)) ≡ None → ((e.sender == s) ≡ false) × (first_from s es ≡ None)
    go true eq i = absurd (cc)
    go false eq i = (eq, front-none e (first_from s es) i)

-- a turn finds something where something is queued
head-found : {C : Type 0} (s : ℕ) (q : List (Entry C)) → first_from (head_sender s q) q ≡ None → q ≡ []
head-found s [] h = refl
head-found s (e ∷ es) h = absurd (eqb-false e.sender e.sender (rest-none e.sender e es h).0 refl)

other-found : {C : Type 0} (d : ℕ) (q : List (Entry C)) → first_from (other_sender d d q) q ≡ None → q ≡ []
other-found d [] h = refl
other-found {C} d (e ∷ es) h = go (λ i. other-found d es i) (e.sender == d) refl h
  where
    last : (es : List (Entry C)) → es ≡ [] → other_sender d d es ≡ d
    last es i = ap (other_sender d d) i

    go : (first_from (other_sender d d es) es ≡ None → es ≡ []) → (b : Bool) → (e.sender == d) ≡ b → first_from (cond b (other_sender d d es) e.sender) (e ∷ es) ≡ None → e ∷ es ≡ []
    go ih true eq i =
        let parts = rest-none (other_sender d d es) e es i in
        let none = ih parts.1 in
        absurd (eqb-false e.sender (other_sender d d es) parts.0 (eqb-true e.sender d eq ∙ sym (last es none)))
    go ih false eq i = absurd (eqb-false e.sender e.sender (rest-none e.sender e es i).0 refl)

pub quiet-left : {S C : Type 0} (L : Language S C) (w : World C) → IsQuiet L true w → (d : ℕ) → d ≤ L.contexts → L.is_spent (naive L d (w.log d)).state ≡ false → w.queue d ≡ []
quiet-left L w quiet d le now =
    let opened : is_open L w d ≡ true = and_from (nat_le d L.contexts) (not (L.is_spent (naive L d (w.log d)).state)) (le-leb d L.contexts le) (not_from_false (L.is_spent (naive L d (w.log d)).state) now) in
    go (d == L.contexts) (rw opened at (quiet d))
  where
    go : (b : Bool) → first_from (cond b (other_sender d d (w.queue d)) (head_sender (L.contexts + 1) (w.queue d))) (w.queue d) ≡ None → w.queue d ≡ []
    go true i = other-found d (w.queue d) i
    go false i = head-found (L.contexts + 1) (w.queue d) i

-- rounds keep what each step keeps
pub finished-keeps : {S C : Type 0} (L : Language S C) (P : World C → Type 0) → ((w : World C) (p : ℕ × ℕ) → P w → P (step L w p)) → (takes : Bool) (v w : World C) → IsFinished L takes v w → P v → P w
finished-keeps L P keeps takes v w h p = subst P (sym h.reached) (rounds-keep L P keeps takes h.count v p)

-- boot is a run
pub boot-run : {S C : Type 0} (L : Language S C) (w : World C) → IsBoot L w → IsRun L [] w
boot-run L w boot = finished-keeps L (IsRun L []) (step-run L []) false (start L []) w boot (start-run L [])

-- picks keep what each step keeps
follow-keep : {S C : Type 0} (L : Language S C) (P : World C → Type 0) → ((w : World C) (p : ℕ × ℕ) → P w → P (step L w p)) → (w : World C) (ps : List (ℕ × Option ℕ)) → P w → P (follow L w ps)
follow-keep L P keeps w [] h = h
follow-keep L P keeps w (p ∷ ps) h = follow-keep L P keeps (step L w (picked L w p)) ps (keeps w (picked L w p) h)

-- finishing rounds from any run that begins with boot
pub finished-faithful : {S C : Type 0} (L : Language S C) (items : List C) (v w : World C) → IsRun L items v → BeginsWithBoot L v → IsFinished L true v w → IsFaithfulRun L items w
finished-faithful L items v w run boot finished =
    let now = finished-keeps L (IsRun L items) (step-run L items) true v w finished run in
    let more = finished-keeps L (Extends boot.0) (step-extends L boot.0) true v w finished boot.2 in
    record { delivered = run-delivered L items w now; unspent = now.unspent; others = now.others; boot = (boot.0, boot.1, more); nothing_left = quiet-left L w finished.quiet }

pub scheduled-faithful : {S C : Type 0} (L : Language S C) (items : List C) (picks : List (ℕ × Option ℕ)) (w : World C) → IsReaderQuiet L → IsScheduledRun L items picks w → IsFaithfulRun L items w
scheduled-faithful L items picks w quiet h =
    let booted = given-run L items h.boot quiet (boot-run L h.boot h.booted) in
    let picked = follow-keep L (IsRun L items) (step-run L items) (given L items h.boot) picks booted in
    let begun = follow-keep L (Extends h.boot) (step-extends L h.boot) (given L items h.boot) picks (extends-refl h.boot) in
    finished-faithful L items (follow L (given L items h.boot) picks) w picked (h.boot, h.booted, begun) h.finished
