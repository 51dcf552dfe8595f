-- The order of the numbers is a run of the machine.
use Rattle.std.proofs.Common.{◌≡◌, ◌+◌, ◌≤◌, ◌<◌, ◌∷◌, ◌++◌, ◌==◌, ◌⊎◌}
use Rattle.actor_theory.proofs.Common.{ℕ, zero, suc, max, List, [], Bool, true, false, not, nat_le, cond, Some, refl, sym, ◌∙◌, ap, subst, append_assoc, append-nil, arith, inl, inr, map, filter, eqb-true, eqb-false, eq-eqb, le-leb, and_from, not_from_false, cases_lt, filter-append, AllByRecursion, Entry, Sent, Language, Moment, first, next, after_all, naive, number_after, mail, reply, replies, sends, by, is_for, stamped, World, start, first_from, with_front, finds, step, steps, is_open, found, handled, IsFaithfulRun, IsUnspentAlong, Handling, handlings_from, handlings, IsBefore, IsAscending, at, IsOrder, pick_of, FindsEach, left_of}
use Rattle.actor_theory.specs.Order.{is_at, ordered, IsReplayed}
use Rattle.actor_theory.proofs.Lists.{by-append, by-cons, by-one_same}
use Rattle.actor_theory.proofs.Sending.{sends-append}
use Rattle.actor_theory.proofs.Running.{IsRun, step-run, start-run, steps-keep}
use Rattle.actor_theory.proofs.Beside.{cancel}

abbrev entry_of : {C : Type 0} → Handling C → Entry C
entry_of h = h.entry

abbrev entries : {C : Type 0} → List (Handling C) → List (Entry C)
entries hs = map entry_of hs

-- handlings, in two parts
record IsSplit {S C : Type 0} (L : Language S C) (d : ℕ) (m : Moment S) (log : List (Entry C)) (A B : List (Handling C)) : Type 0 where
  whole : log ≡ entries A ++ entries B
  rest : B ≡ handlings_from L d (after_all L m (entries A)) (entries B)

entries-handlings : {S C : Type 0} (L : Language S C) (d : ℕ) (m : Moment S) (log : List (Entry C)) → entries (handlings_from L d m log) ≡ log
entries-handlings L d m [] = refl
entries-handlings L d m (e ∷ es) = ap (λ r. e ∷ r) (entries-handlings L d (next L m e) es)

split : {S C : Type 0} (L : Language S C) (d : ℕ) (m : Moment S) (log : List (Entry C)) (A B : List (Handling C)) → A ++ B ≡ handlings_from L d m log → IsSplit L d m log A B
split L d m log [] B h =
    let same : entries B ≡ log = ap entries h ∙ entries-handlings L d m log in
    record { whole = sym same; rest = h ∙ ap (handlings_from L d m) (sym same) }
split L d m [] (g ∷ A) B h = absurd (cc)
split {C} L d m (x ∷ xs) (g ∷ A) B h =
    let made : Handling C = record { number = number_after m.number x; actor = d; entry = x } in
    let head : g ≡ made = cc in
    let tail : A ++ B ≡ handlings_from L d (next L m x) xs = cc in
    let more = split L d (next L m x) xs A B tail in
    let entry : g.entry ≡ x = ap entry_of head in
    record { whole = ap (λ r. x ∷ r) more.whole ∙ ap (λ (y : Entry C). y ∷ (entries A ++ entries B)) (sym entry); rest = more.rest ∙ ap (λ (y : Entry C). handlings_from L d (after_all L (next L m y) (entries A)) (entries B)) (sym entry) }

-- numbers from n on
abbrev From : {C : Type 0} → ℕ → List (Handling C) → Type 0
From n hs = AllByRecursion (λ h. n ≤ h.number) hs

abbrev StampedFrom : {C : Type 0} → ℕ → List (Entry C) → Type 0
StampedFrom n es = AllByRecursion (λ e. n ≤ e.stamp) es

from-filter : {C : Type 0} (n : ℕ) (p : Handling C → Bool) (hs : List (Handling C)) → From n hs → From n (filter p hs)
from-filter n p [] h = tt
from-filter n p (x ∷ xs) h = go (from-filter n p xs h.1) (p x)
  where
    go : From n (filter p xs) → (b : Bool) → From n (cond b (x ∷ filter p xs) (filter p xs))
    go ih true = (h.0, ih)
    go ih false = ih

from-before : {C : Type 0} (n : ℕ) (h : Handling C) (hs : List (Handling C)) → n ≤ h.number → AllByRecursion (IsBefore h) hs → From n hs
from-before n h [] le a = tt
from-before n h (g ∷ gs) le a = (go a.0, from-before n h gs le a.1)
  where
    go : IsBefore h g → n ≤ g.number
    go (inl lt) = omega arith
    go (inr eq) = let same : h.number ≡ g.number = eq.0 in omega arith

from-ascending : {C : Type 0} (front : List (Handling C)) (h : Handling C) (rest : List (Handling C)) → IsAscending (front ++ h ∷ rest) → From h.number (h ∷ rest)
from-ascending [] h rest a = (omega arith, from-before h.number h rest (omega arith) a.0)
from-ascending (g ∷ gs) h rest a = from-ascending gs h rest a.1

stamped-append : {C : Type 0} (n : ℕ) (xs ys : List (Entry C)) → StampedFrom n xs → StampedFrom n ys → StampedFrom n (xs ++ ys)
stamped-append n [] ys a b = b
stamped-append n (x ∷ xs) ys a b = (a.0, stamped-append n xs ys a.1 b)

stamped-mail : {C : Type 0} (n s number k : ℕ) (xs : List (Sent C)) → n ≤ number → StampedFrom n (mail s number k xs)
stamped-mail n s number k [] le = tt
stamped-mail n s number k (x ∷ xs) le = go (stamped-mail n s number k xs le) (is_for k x)
  where
    go : StampedFrom n (mail s number k xs) → (b : Bool) → StampedFrom n (map (stamped s number) (cond b (x ∷ filter (is_for k) xs) (filter (is_for k) xs)))
    go ih true = (le, ih)
    go ih false = ih

stamped-replies : {S C : Type 0} (L : Language S C) (n s k : ℕ) (m : Moment S) (log : List (Entry C)) → From n (handlings_from L s m log) → StampedFrom n (replies L s k m log)
stamped-replies L n s k m [] h = tt
stamped-replies L n s k m (e ∷ es) h =
    stamped-append n (reply L s k m e) (replies L s k (next L m e) es) (stamped-mail n s (number_after m.number e) k (L.sent m.state (number_after m.number e) e) h.0) (stamped-replies L n s k (next L m e) es h.1)

unspent-at : {S C : Type 0} (L : Language S C) (m : Moment S) (xs : List (Entry C)) (e : Entry C) (ys : List (Entry C)) → IsUnspentAlong L m (xs ++ e ∷ ys) → L.is_spent (after_all L m xs).state ≡ false
unspent-at L m [] e ys h = h.0
unspent-at L m (x ∷ xs) e ys h = unspent-at L (next L m x) xs e ys h.1

-- a queue with an entry of s has an oldest one
first-from_by : {C : Type 0} (s : ℕ) (q : List (Entry C)) (e : Entry C) (es : List (Entry C)) → by s q ≡ e ∷ es → (r : List (Entry C)) × (first_from s q ≡ Some (e, r))
first-from_by s [] e es h = absurd (cc)
first-from_by {C} s (x ∷ xs) e es h = go (λ i. first-from_by s xs e es i) (x.sender == s) refl h
  where
    go : (by s xs ≡ e ∷ es → (r : List (Entry C)) × (first_from s xs ≡ Some (e, r))) → (b : Bool) → (x.sender == s) ≡ b → cond b (x ∷ by s xs) (by s xs) ≡ e ∷ es
        → (r : List (Entry C)) × (cond b (Some (x, xs)) (with_front x (first_from s xs)) ≡ Some (e, r))
    go ih true eq i = let same : x ≡ e = cc in (xs, ap (λ (y : Entry C). Some (y, xs)) same)
    go ih false eq i = let more = ih i in (x ∷ more.0, ap (with_front x) more.1)

front-of : {C : Type 0} (n : ℕ) (e : Entry C) (Y Q M : List (Entry C)) → e ∷ Y ≡ Q ++ M → StampedFrom n M → e.stamp < n → (X : List (Entry C)) × (Q ≡ e ∷ X)
front-of {C} n e Y [] M h late lt = let P : List (Entry C) → Type 0 = StampedFrom n in let all = subst P (sym h) late in let le : n ≤ e.stamp = all.0 in absurd (omega arith)
front-of {C} n e Y (q ∷ X) M h late lt = let same : e ≡ q = cc in (X, ap (λ (y : Entry C). y ∷ X) (sym same))

not-nil : {C : Type 0} (F : List (Entry C)) (e : Entry C) (D : List (Entry C)) → F ++ e ∷ D ≡ [] → ⊥
not-nil [] e D h = absurd (cc)
not-nil (x ∷ F) e D h = absurd (cc)

at-here : {C : Type 0} (x : Handling C) (rest : List (Handling C)) → at x.actor (x ∷ rest) ≡ x ∷ at x.actor rest
at-here x rest = rw (eq-eqb x.actor x.actor refl) refl

-- the next handling of the order finds its entry
oldest : {S C : Type 0} (L : Language S C) (items : List C) (w : World C) (h : IsFaithfulRun L items w) (front : List (Handling C)) (x : Handling C) (rest : List (Handling C)) → IsOrder L w (front ++ x ∷ rest)
    → (v : World C) → IsRun L items v → ((d : ℕ) → v.log d ≡ entries (at d front)) → (r : List (Entry C)) × (finds L v x.actor x.entry.sender ≡ Some (x.entry, r))
oldest {C} L items w h front x rest order v run logs =
    let d = x.actor in
    let e = x.entry in
    let s = e.sender in
    let F = entries (at d front) in
    let D = entries (at d rest) in
    let G = entries (at s front) in
    let T = entries (at s (x ∷ rest)) in
    let Y = by s (D ++ w.queue d) in
    let M = replies L s d (naive L s G) T in
    let parts_s : at s front ++ at s (x ∷ rest) ≡ handlings L s (w.log s) = sym (filter-append (is_at s) front (x ∷ rest)) ∙ order.each s in
    let parts_d : at d front ++ x ∷ at d rest ≡ handlings L d (w.log d) = ap (λ r. at d front ++ r) (sym (at-here x rest)) ∙ sym (filter-append (is_at d) front (x ∷ rest)) ∙ order.each d in
    let in_s = split L s (first L s) (w.log s) (at s front) (at s (x ∷ rest)) parts_s in
    let in_d = split L d (first L d) (w.log d) (at d front) (x ∷ at d rest) parts_d in
    let made : Handling C = record { number = number_after (naive L d F).number e; actor = d; entry = e } in
    let is_made : x ≡ made = cc in_d.rest in
    let number : x.number ≡ 1 + max (naive L d F).number e.stamp = ap (λ (g : Handling C). g.number) is_made in
    let late : e.stamp < x.number = omega arith in
    let P : List (Handling C) → Type 0 = From x.number in
    let stamps : StampedFrom x.number M = stamped-replies L x.number s d (naive L s G) T (subst P in_s.rest (from-filter x.number (is_at s) (x ∷ rest) (from-ascending front x rest order.ascending))) in
    let lhs : by s (w.log d ++ w.queue d) ≡ by s F ++ e ∷ Y =
    ap (λ l. by s (l ++ w.queue d)) in_d.whole ∙ ap (by s) (append_assoc F (e ∷ D) (w.queue d)) ∙ by-append s F (e ∷ (D ++ w.queue d))
    ∙ ap (λ r. by s F ++ r) (by-cons s e (D ++ w.queue d) ∙ ap (λ r. r ++ by s (D ++ w.queue d)) (by-one_same s e refl)) in
    let rhs : sends L items s d (w.log s) ≡ sends L items s d G ++ M = ap (sends L items s d) in_s.whole ∙ sends-append L items s d G T in
    let now : by s F ++ by s (v.queue d) ≡ sends L items s d G =
    sym (by-append s F (v.queue d)) ∙ ap (λ l. by s (l ++ v.queue d)) (sym (logs d)) ∙ run.each s d ∙ ap (sends L items s d) (logs s) in
    let both : e ∷ Y ≡ by s (v.queue d) ++ M =
    cancel (by s F) (e ∷ Y) (by s (v.queue d) ++ M) (sym lhs ∙ h.delivered.each s d ∙ rhs ∙ ap (λ r. r ++ M) (sym now) ∙ append_assoc (by s F) (by s (v.queue d)) M) in
    let found = front-of x.number e Y (by s (v.queue d)) M both stamps late in
    let taken = first-from_by s (v.queue d) e found.0 found.1 in
    let actor : d ≤ L.contexts = is-actor d F D in_d.whole (cases_lt L.contexts d) in
    let U : List (Entry C) → Type 0 = IsUnspentAlong L (first L d) in
    let unspent : L.is_spent (naive L d (v.log d)).state ≡ false = ap (λ l. L.is_spent (naive L d l).state) (logs d) ∙ unspent-at L (first L d) F e D (subst U in_d.whole (h.unspent d)) in
    let opened : is_open L v d ≡ true = and_from (nat_le d L.contexts) (not (L.is_spent (naive L d (v.log d)).state)) (le-leb d L.contexts actor) (not_from_false (L.is_spent (naive L d (v.log d)).state) unspent) in
    (taken.0, rw opened taken.1)
  where
    is-actor : (d : ℕ) (F D : List (Entry C)) → w.log d ≡ F ++ x.entry ∷ D → ((L.contexts < d) ⊎ (d ≤ L.contexts)) → d ≤ L.contexts
    is-actor d F D e (inl lt) = absurd (not-nil F x.entry D (sym e ∙ h.others d lt))
    is-actor d F D e (inr le) = le

entries-append : {C : Type 0} (xs ys : List (Handling C)) → entries (xs ++ ys) ≡ entries xs ++ entries ys
entries-append [] ys = refl
entries-append (x ∷ xs) ys = ap (λ r. x.entry ∷ r) (entries-append xs ys)

-- what the run of the rest finds, and where it ends
record Follows {S C : Type 0} (L : Language S C) (v w : World C) (ps : List (ℕ × ℕ)) : Type 0 where
  finds : FindsEach L v ps
  logs : (d : ℕ) → (steps L v ps).log d ≡ w.log d

-- the step finds the next handling's entry
step-found : {S C : Type 0} (L : Language S C) (v : World C) (d s : ℕ) (e : Entry C) (r : List (Entry C)) → finds L v d s ≡ Some (e, r) → step L v (d, s) ≡ handled L v d e r
step-found L v d s e r h = ap (found L v d) h

logs-step : {S C : Type 0} (L : Language S C) (v : World C) (front : List (Handling C)) (x : Handling C) (r : List (Entry C)) → ((d : ℕ) → v.log d ≡ entries (at d front))
    → (d : ℕ) → (handled L v x.actor x.entry r).log d ≡ entries (at d (front ++ x ∷ []))
logs-step {C} L v front x r logs d = go (d == x.actor) refl (x.actor == d) refl ∙ ap entries (sym (filter-append (is_at d) front (x ∷ [])))
  where
    go : (b : Bool) → (d == x.actor) ≡ b → (c : Bool) → (x.actor == d) ≡ c → cond b (v.log x.actor ++ x.entry ∷ []) (v.log d) ≡ entries (at d front ++ cond c (x ∷ []) [])
    go true p true q =
        let same : x.actor ≡ d = eqb-true x.actor d q in
        ap (λ (j : ℕ). v.log j ++ x.entry ∷ []) same ∙ ap (λ (l : List (Entry C)). l ++ x.entry ∷ []) (logs d) ∙ sym (entries-append (at d front) (x ∷ []))
    go true p false q = absurd (eqb-false x.actor d q (sym (eqb-true d x.actor p)))
    go false p true q = absurd (eqb-false d x.actor p (sym (eqb-true x.actor d q)))
    go false p false q = logs d ∙ ap entries (sym (append-nil (at d front)))

run-order : {S C : Type 0} (L : Language S C) (items : List C) (w : World C) (h : IsFaithfulRun L items w) (front rest : List (Handling C)) → IsOrder L w (front ++ rest)
    → (v : World C) → IsRun L items v → ((d : ℕ) → v.log d ≡ entries (at d front)) → Follows L v w (map pick_of rest)
run-order L items w h front [] order v run logs = record {
  finds = tt;
  logs = λ d. logs d ∙ ap (λ hs. entries (at d hs)) (sym (append-nil front)) ∙ ap entries (order.each d) ∙ entries-handlings L d (first L d) (w.log d);
}
run-order {C} L items w h front (x ∷ rest) order v run logs =
    let found = oldest L items w h front x rest order v run logs in
    let stepped = step-found L v x.actor x.entry.sender x.entry found.0 found.1 in
    let regroup : front ++ x ∷ rest ≡ (front ++ x ∷ []) ++ rest = sym (append_assoc front (x ∷ []) rest) in
    let P : List (Handling C) → Type 0 = IsOrder L w in
    let more = run-order L items w h (front ++ x ∷ []) rest (subst P regroup order) (step L v (pick_of x)) (step-run L items v (pick_of x) run)
    (λ d. ap (λ (u : World C). u.log d) stepped ∙ logs-step L v front x found.0 logs d) in
    record { finds = (rw found.1 refl, more.finds); logs = more.logs }

ordered-same : {C : Type 0} (n : ℕ) (p q : List (Entry C)) → ((s : ℕ) → by s p ≡ by s q) → ordered n p ≡ ordered n q
ordered-same zero p q h = refl
ordered-same (suc n) p q h = ap (λ r. r ++ by n p) (ordered-same n p q h) ∙ ap (λ r. ordered n q ++ r) (h n)

-- the same logs, of a run and of a faithful record, leave the same
same-left : {S C : Type 0} (L : Language S C) (items : List C) (v w : World C) → IsRun L items v → IsFaithfulRun L items w → ((d : ℕ) → v.log d ≡ w.log d) → (d : ℕ) → left_of L v d ≡ left_of L w d
same-left L items v w run h logs d = ordered-same (suc L.contexts) (v.queue d) (w.queue d) (λ s.
    cancel (by s (v.log d)) (by s (v.queue d)) (by s (w.queue d))
    (sym (by-append s (v.log d) (v.queue d)) ∙ run.each s d ∙ ap (sends L items s d) (logs s) ∙ sym (h.delivered.each s d) ∙ by-append s (w.log d) (w.queue d) ∙ ap (λ l. by s l ++ by s (w.queue d)) (sym (logs d))))

pub faithful-replayed : {S C : Type 0} (L : Language S C) (items : List C) (w : World C) (hs : List (Handling C)) → IsFaithfulRun L items w → IsOrder L w hs → IsReplayed L items w hs
faithful-replayed L items w hs h order =
    let run = run-order L items w h [] hs order (start L items) (start-run L items) (λ d. refl) in
    let done = steps-keep L (IsRun L items) (step-run L items) (start L items) (map pick_of hs) (start-run L items) in
    record { finds = run.finds; same = record { logs = run.logs; lefts = same-left L items (steps L (start L items) (map pick_of hs)) w done h run.logs } }
