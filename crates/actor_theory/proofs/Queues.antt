-- Queues of what others sent, and the reader's own items.
use Rattle.std.proofs.Common.{◌≡◌, ◌+◌, ◌≤◌, ◌<◌, ◌∷◌, ◌++◌, ◌==◌, ◌⊎◌}
use Rattle.actor_theory.proofs.Common.{subst, ℕ, zero, suc, List, [], Bool, true, false, nat_le, nat_lt, cond, Option, Some, None, refl, sym, ◌∙◌, ap, append-nil, arith, inl, inr, map, filter, length, slice_get, slice_set, eq-eqb, ne_eqb, ltb-true, le-leb, cases_lt, slice_get_past, AllByRecursion, Entry, Sent, mail, stamped, is_for, own, first_from, with_front, other_sender, head_sender, lifted, lifted_sent, to_actors, to_slots, slots_only, queue_in, queue_at, arrived, delivered}
use Rattle.actor_theory.proofs.Joining.{mail-to_actors, mail-to_actors_none}
use Rattle.actor_theory.proofs.Leaving.{lifted-append}

-- what is found among entries that carry a cargo
abbrev pub lifted_found : {C I : Type 0} → Option (Entry C × List (Entry C)) → Option (Entry (C ⊎ I) × List (Entry (C ⊎ I)))
lifted_found None = None
lifted_found (Some p) = Some (lifted p.0, map lifted p.1)

pub first_from-lifted : {C I : Type 0} (s : ℕ) (q : List (Entry C)) → ◌≡◌ {A = Option (Entry (C ⊎ I) × List (Entry (C ⊎ I)))} (first_from s (map lifted q)) (lifted_found (first_from s q))
first_from-lifted s [] = refl
first_from-lifted {C} {I} s (e ∷ es) = go (first_from-lifted s es) (e.sender == s)
  where
    front : (o : Option (Entry C × List (Entry C))) → ◌≡◌ {A = Option (Entry (C ⊎ I) × List (Entry (C ⊎ I)))} (with_front (lifted e) (lifted_found o)) (lifted_found (with_front e o))
    front None = refl
    front (Some p) = refl

    go : ◌≡◌ {A = Option (Entry (C ⊎ I) × List (Entry (C ⊎ I)))} (first_from s (map lifted es)) (lifted_found (first_from s es)) → (b : Bool)
        → ◌≡◌ {A = Option (Entry (C ⊎ I) × List (Entry (C ⊎ I)))} (cond b (Some (lifted e, map lifted es)) (with_front (lifted e) (first_from s (map lifted es)))) (lifted_found (cond b (Some (e, es)) (with_front e (first_from s es))))
    go ih true = refl
    go ih false = ap (with_front (lifted e)) ih ∙ front (first_from s es)

-- others' entries stand behind the reader's own items
abbrev pub behind : {C : Type 0} → List (Entry C) → Option (Entry C × List (Entry C)) → Option (Entry C × List (Entry C))
behind front None = None
behind front (Some p) = Some (p.0, front ++ p.1)

pub first_from-own : {C : Type 0} (r s : ℕ) (items : List C) (q : List (Entry C)) → (s ≡ r → ⊥) → first_from s (map (own r) items ++ q) ≡ behind (map (own r) items) (first_from s q)
first_from-own {C} r s [] q other = go (first_from s q)
  where
    go : (o : Option (Entry C × List (Entry C))) → o ≡ behind [] o
    go None = refl
    go (Some p) = refl
first_from-own {C} r s (i ∷ is) q other = rw (ne_eqb r s (λ j. other (sym j))) (ap (with_front (own r i)) (first_from-own r s is q other) ∙ go (first_from s q))
  where
    go : (o : Option (Entry C × List (Entry C))) → with_front (own r i) (behind (map (own r) is) o) ≡ behind (own r i ∷ map (own r) is) o
    go None = refl
    go (Some p) = refl

-- the head of a queue is its sender's oldest entry
pub first_from-head : {C : Type 0} (e : Entry C) (es : List (Entry C)) → first_from e.sender (e ∷ es) ≡ Some (e, es)
first_from-head e es = rw (eq-eqb e.sender e.sender refl) refl

-- a queue without entries of a sender
pub first_from-nobody : {C : Type 0} (r : ℕ) (q : List (Entry C)) → AllByRecursion (λ e. e.sender ≡ r → ⊥) q → first_from r q ≡ None
first_from-nobody r [] a = refl
first_from-nobody r (e ∷ es) a = rw (ne_eqb e.sender r a.0) (ap (with_front e) (first_from-nobody r es a.1))

-- what holds of all in a queue holds of the rest
pub all-rest : {C : Type 0} (P : Entry C → Type 0) (s : ℕ) (q : List (Entry C)) (e : Entry C) (rest : List (Entry C)) → first_from s q ≡ Some (e, rest) → AllByRecursion P q → AllByRecursion P rest
all-rest P s [] e rest h a = absurd (cc)
all-rest {C} P s (x ∷ xs) e rest h a = go (λ r f i. all-rest P s xs f r i a.1) (x.sender == s) (first_from s xs) refl h
  where
    go : ((r : List (Entry C)) (f : Entry C) → first_from s xs ≡ Some (f, r) → AllByRecursion P r) → (b : Bool) (o : Option (Entry C × List (Entry C))) → first_from s xs ≡ o → cond b (Some (x, xs)) (with_front x o) ≡ Some (e, rest)
        → AllByRecursion P rest
    go ih true o is found =
        let left : Entry C × List (Entry C) = (x, xs) in
        let right : Entry C × List (Entry C) = (e, rest) in
        let both : left ≡ right = cc in
        subst {A = List (Entry C)} (AllByRecursion P) (ap (λ (z : Entry C × List (Entry C)). z.1) both) a.1
    go ih false None is found = absurd (cc)
    go ih false (Some p) is found =
        let left : Entry C × List (Entry C) = (p.0, x ∷ p.1) in
        let right : Entry C × List (Entry C) = (e, rest) in
        let both : left ≡ right = cc in
        let more : AllByRecursion P (x ∷ p.1) = (a.0, ih p.1 p.0 is) in
        subst {A = List (Entry C)} (AllByRecursion P) (ap (λ (z : Entry C × List (Entry C)). z.1) both) more

pub all-append : {C : Type 0} (P : Entry C → Type 0) (xs ys : List (Entry C)) → AllByRecursion P xs → AllByRecursion P ys → AllByRecursion P (xs ++ ys)
all-append P [] ys a b = b
all-append P (x ∷ xs) ys a b = (a.0, all-append P xs ys a.1 b)

pub all-mail : {C : Type 0} (P : Entry C → Type 0) (s n k : ℕ) (xs : List (Sent C)) → ((x : Sent C) → P (stamped s n x)) → AllByRecursion P (mail s n k xs)
all-mail P s n k [] h = tt
all-mail P s n k (x ∷ xs) h = go (all-mail P s n k xs h) (is_for k x)
  where
    go : AllByRecursion P (mail s n k xs) → (b : Bool) → AllByRecursion P (map (stamped s n) (cond b (x ∷ filter (is_for k) xs) (filter (is_for k) xs)))
    go ih true = (h x, ih)
    go ih false = ih

-- whose entry is next: the sender of the head, since the reader's own items are passed over
pub head_sender-lifted : {C : Type 0} (I : Type 0) (s : ℕ) (q : List (Entry C)) → head_sender {C = C ⊎ I} s (map lifted q) ≡ head_sender s q
head_sender-lifted I s [] = refl
head_sender-lifted I s (e ∷ es) = refl

pub other_sender-own : {C : Type 0} (r s : ℕ) (items : List C) (q : List (Entry C)) → other_sender r s (map (own r) items ++ q) ≡ other_sender r s q
other_sender-own r s [] q = refl
other_sender-own r s (i ∷ is) q = rw (eq-eqb r r refl) (other_sender-own r s is q)

pub other_sender-lifted : {C : Type 0} (I : Type 0) (r s : ℕ) (q : List (Entry C)) → AllByRecursion (λ e. e.sender ≡ r → ⊥) q → other_sender {C = C ⊎ I} r s (map lifted q) ≡ head_sender s q
other_sender-lifted I r s [] a = refl
other_sender-lifted I r s (e ∷ es) a = rw (ne_eqb e.sender r a.0) refl

-- places in a list
pub get-set_same : {X : Type 0} (xs : List X) (d : ℕ) (x : X) → d < length xs → slice_get (slice_set xs d x) d ≡ Some x
get-set_same [] d x lt = absurd (omega arith)
get-set_same (y ∷ ys) zero x lt = refl
get-set_same (y ∷ ys) (suc d) x lt = get-set_same ys d x (omega arith)

pub get-set_other : {X : Type 0} (xs : List X) (d k : ℕ) (x : X) → (k ≡ d → ⊥) → slice_get (slice_set xs d x) k ≡ slice_get xs k
get-set_other [] d k x h = refl
get-set_other (y ∷ ys) zero zero x h = absurd (h refl)
get-set_other (y ∷ ys) zero (suc k) x h = refl
get-set_other (y ∷ ys) (suc d) zero x h = refl
get-set_other (y ∷ ys) (suc d) (suc k) x h = get-set_other ys d k x (λ i. h (ap suc i))

pub length-set : {X : Type 0} (xs : List X) (d : ℕ) (x : X) → length (slice_set xs d x) ≡ length xs
length-set [] d x = refl
length-set (y ∷ ys) zero x = refl
length-set (y ∷ ys) (suc d) x = ap suc (length-set ys d x)

-- the queues after what one actor sends has arrived
pub length-arrived : {C : Type 0} (s n : ℕ) (sent : List (Sent C)) (j : ℕ) (qs : List (List (Entry C))) → length (arrived s n sent j qs) ≡ length qs
length-arrived s n sent j [] = refl
length-arrived s n sent j (q ∷ qs) = ap suc (length-arrived s n sent (suc j) qs)

pub arrived-at : {C : Type 0} (s n : ℕ) (sent : List (Sent C)) (j : ℕ) (qs : List (List (Entry C))) (k : ℕ) → k < length qs → queue_at (arrived s n sent j qs) k ≡ queue_at qs k ++ mail s n (j + k) sent
arrived-at s n sent j [] k lt = absurd (omega arith)
arrived-at s n sent j (q ∷ qs) zero lt = let same : j ≡ j + 0 = omega arith in ap (λ i. q ++ mail s n i sent) same
arrived-at s n sent j (q ∷ qs) (suc k) lt = let same : suc j + k ≡ j + suc k = omega arith in arrived-at s n sent (suc j) qs k (omega arith) ∙ ap (λ i. queue_at qs k ++ mail s n i sent) same

pub delivered-at : {C : Type 0} (s n : ℕ) (sent : List (Sent C)) (qs : List (List (Entry C))) (k : ℕ) → k < length qs → queue_at (delivered s n sent qs) k ≡ queue_at qs k ++ mail s n k sent
delivered-at s n sent qs k lt = let same : 0 + k ≡ k = omega arith in arrived-at s n sent 0 qs k lt ∙ ap (λ i. queue_at qs k ++ mail s n i sent) same

pub queue-past : {C : Type 0} (qs : List (List (Entry C))) (k : ℕ) → length qs ≤ k → queue_at qs k ≡ []
queue-past qs k le = ap queue_in (slice_get_past qs k le)

-- as entries among items, each queue gains what is for its actor
pub delivered-lifted : {C I : Type 0} (contexts s n : ℕ) (sent : List (Sent C)) (qs : List (List (Entry C))) (k : ℕ) → length qs ≡ suc contexts
    → ◌≡◌ {A = List (Entry (C ⊎ I))} (map lifted (queue_at (delivered s n sent qs) k)) (map lifted (queue_at qs k) ++ mail s n k (to_actors contexts sent))
delivered-lifted {C} {I} contexts s n sent qs k count = go (cases_lt contexts k)
  where
    go : ((contexts < k) ⊎ (k ≤ contexts)) → ◌≡◌ {A = List (Entry (C ⊎ I))} (map lifted (queue_at (delivered s n sent qs) k)) (map lifted (queue_at qs k) ++ mail s n k (to_actors contexts sent))
    go (inr le) =
        ap (map lifted) (delivered-at s n sent qs k (omega arith)) ∙ lifted-append (queue_at qs k) (mail s n k sent)
        ∙ ap (λ (es : List (Entry (C ⊎ I))). map lifted (queue_at qs k) ++ es) (sym (mail-to_actors contexts s n k sent le))
    go (inl lt) =
        let len = length-arrived s n sent 0 qs in
        ap (map lifted) (queue-past (delivered s n sent qs) k (omega arith) ∙ sym (queue-past qs k (omega arith))) ∙ sym (append-nil (map lifted (queue_at qs k)))
        ∙ ap (λ (es : List (Entry (C ⊎ I))). map lifted (queue_at qs k) ++ es) (sym (mail-to_actors_none contexts s n k sent lt))

-- what goes to slots goes to actors
pub slots-actors : {C I : Type 0} (contexts : ℕ) (sent : List (Sent C)) → ◌≡◌ {A = List (Sent (C ⊎ I))} (to_actors contexts (slots_only contexts sent)) (to_slots contexts sent)
slots-actors {C} {I} contexts sent = ap (map lifted_sent) (go sent)
  where
    go : (xs : List (Sent C)) → filter (λ x. nat_le x.target contexts) (slots_only contexts xs) ≡ slots_only contexts xs
    go [] = refl
    go (x ∷ xs) = one (go xs) (nat_lt x.target contexts) refl
      where
        one : filter (λ x. nat_le x.target contexts) (slots_only contexts xs) ≡ slots_only contexts xs → (b : Bool) → nat_lt x.target contexts ≡ b
            → filter (λ x. nat_le x.target contexts) (cond b (x ∷ slots_only contexts xs) (slots_only contexts xs)) ≡ cond b (x ∷ slots_only contexts xs) (slots_only contexts xs)
        one ih true e = let lt = ltb-true x.target contexts e in rw (le-leb x.target contexts (omega arith)) (ap (λ ys. x ∷ ys) ih)
        one ih false e = ih
