-- What parts that run beside each other keep.
use Rattle.std.proofs.Common.{◌≡◌, ◌≤◌, ◌<◌, ◌∷◌, ◌++◌, ◌==◌, ◌⊎◌}
use Rattle.actor_theory.proofs.Common.{ℕ, List, [], Bool, true, false, cond, refl, sym, ◌∙◌, ap, append_assoc, append-nil, arith, inl, inr, eqb-true, cases_eq, Entry, Language, Moment, first, next, naive, number_after, mail, reply, replies, sends, by, World, IsFinished, IsUnspentAlong, IsFaithfulRun, IsPrefix, IsBoot, BeginsWithBoot, IsReaderQuiet}
use Rattle.actor_theory.specs.Language.{before}
use Rattle.actor_theory.specs.World.{given}
use Rattle.actor_theory.specs.Holds.{Holds, Posts, Handles}
use Rattle.actor_theory.proofs.Lists.{by-append, by-cons, by-mail_same, by-one_same, by-one_other}
use Rattle.actor_theory.proofs.Sending.{sends-one}
use Rattle.actor_theory.proofs.Running.{IsRun, unspent-one, extends-refl}
use Rattle.actor_theory.proofs.Scheduled.{boot-run, finished-faithful}
use Rattle.actor_theory.proofs.Given.{given-run}

-- all that s sends is from s
by-replies : {S C : Type 0} (L : Language S C) (s k : ℕ) (m : Moment S) (log : List (Entry C)) → by s (replies L s k m log) ≡ replies L s k m log
by-replies L s k m [] = refl
by-replies L s k m (e ∷ es) =
    by-append s (reply L s k m e) (replies L s k (next L m e) es)
    ∙ ap (λ r. r ++ by s (replies L s k (next L m e) es)) (by-mail_same s (number_after m.number e) k (L.sent m.state (number_after m.number e) e))
    ∙ ap (λ r. reply L s k m e ++ r) (by-replies L s k (next L m e) es)

pub by-sends : {S C : Type 0} (L : Language S C) (items : List C) (s k : ℕ) (log : List (Entry C)) → by s (sends L items s k log) ≡ sends L items s k log
by-sends L items s k log =
    by-append s (mail s 0 k (before L items s)) (replies L s k (first L s) log)
    ∙ ap (λ r. r ++ by s (replies L s k (first L s) log)) (by-mail_same s 0 k (before L items s))
    ∙ ap (λ r. mail s 0 k (before L items s) ++ r) (by-replies L s k (first L s) log)

pub by-by : {C : Type 0} (s : ℕ) (es : List (Entry C)) → by s (by s es) ≡ by s es
by-by s [] = refl
by-by s (e ∷ es) = go (by-by s es) (e.sender == s) refl
  where
    go : by s (by s es) ≡ by s es → (b : Bool) → (e.sender == s) ≡ b → by s (cond b (e ∷ by s es) (by s es)) ≡ cond b (e ∷ by s es) (by s es)
    go ih true eq = by-cons s e (by s es) ∙ rw (by-one_same s e (eqb-true e.sender s eq), ih) refl
    go ih false eq = ih

pub cancel : {C : Type 0} (xs ys zs : List (Entry C)) → xs ++ ys ≡ xs ++ zs → ys ≡ zs
cancel [] ys zs h = h
cancel (x ∷ xs) ys zs h = cancel xs ys zs (cc)

-- so what is in an outbox is from its owner
pub box-by : {S C : Type 0} (L : Language S C) (items : List C) (w : World C) (outbox : ℕ → ℕ → List (Entry C)) → Holds L items w outbox → (s d : ℕ) → by s (outbox s d) ≡ outbox s d
box-by L items w outbox h s d =
    let A = by s (w.log d ++ w.queue d) in
    cancel A (by s (outbox s d)) (outbox s d)
    (ap (λ r. r ++ by s (outbox s d)) (sym (by-by s (w.log d ++ w.queue d))) ∙ sym (by-append s A (outbox s d)) ∙ ap (by s) (h.each s d) ∙ by-sends L items s d (w.log s) ∙ sym (h.each s d))

pub head-by : {C : Type 0} (s : ℕ) (ys : List (Entry C)) (e : Entry C) (rest : List (Entry C)) → by s ys ≡ e ∷ rest → e.sender ≡ s
head-by s [] e rest h = absurd (cc)
head-by {C} s (y ∷ ys) e rest h = go (λ i. head-by s ys e rest i) (y.sender == s) refl h
  where
    go : (by s ys ≡ e ∷ rest → e.sender ≡ s) → (b : Bool) → (y.sender == s) ≡ b → cond b (y ∷ by s ys) (by s ys) ≡ e ∷ rest → e.sender ≡ s
    go ih true eq i = let same : y ≡ e = cc in sym (ap (λ (x : Entry C). x.sender) same) ∙ eqb-true y.sender s eq
    go ih false eq i = ih i

pub posts-holds : {S C : Type 0} (L : Language S C) (items : List C) (w w' : World C) (outbox outbox' : ℕ → ℕ → List (Entry C)) (s d : ℕ) (e : Entry C)
    → Posts w w' outbox outbox' s d e → Holds L items w outbox → Holds L items w' outbox'
posts-holds L items w w' outbox outbox' s d e p h = record {
  each = λ t k. each t k (cases_eq k d) (cases_eq t s);
  unspent = λ k. rw (p.logs k) (h.unspent k);
  others = λ k lt. p.logs k ∙ h.others k lt;
}
  where
    sender : e.sender ≡ s
    sender = head-by s (outbox s d) e (outbox' s d) (box-by L items w outbox h s d ∙ p.from)

    come : (t : ℕ) → by t (w'.log d ++ w'.queue d) ≡ by t (w.log d ++ w.queue d) ++ by t (e ∷ [])
    come t = rw (p.logs d, p.to, ← append_assoc (w.log d) (w.queue d) (e ∷ [])) (by-append t (w.log d ++ w.queue d) (e ∷ []))

    sent-same : (t k : ℕ) → sends L items t k (w.log t) ≡ sends L items t k (w'.log t)
    sent-same t k = ap (sends L items t k) (sym (p.logs t))

    here : by s (w'.log d ++ w'.queue d) ++ outbox' s d ≡ by s (w.log d ++ w.queue d) ++ outbox s d
    here = ap (λ r. r ++ outbox' s d) (come s ∙ ap (λ r. by s (w.log d ++ w.queue d) ++ r) (by-one_same s e sender)) ∙ append_assoc (by s (w.log d ++ w.queue d)) (e ∷ []) (outbox' s d)
        ∙ ap (λ r. by s (w.log d ++ w.queue d) ++ r) (sym p.from)

    there : (t : ℕ) → (t ≡ s → ⊥) → by t (w'.log d ++ w'.queue d) ≡ by t (w.log d ++ w.queue d)
    there t other = come t ∙ ap (λ r. by t (w.log d ++ w.queue d) ++ r) (by-one_other t e (λ i. other (sym i ∙ sender))) ∙ append-nil (by t (w.log d ++ w.queue d))

    each : (t k : ℕ) → ((k ≡ d) ⊎ (k ≡ d → ⊥)) → ((t ≡ s) ⊎ (t ≡ s → ⊥)) → by t (w'.log k ++ w'.queue k) ++ outbox' t k ≡ sends L items t k (w'.log t)
    each t k (inl at) (inl of) = rw (at, of) (here ∙ h.each s d ∙ sent-same s d)
    each t k (inl at) (inr of) = rw at (ap (λ r. r ++ outbox' t d) (there t of) ∙ ap (λ r. by t (w.log d ++ w.queue d) ++ r) (p.boxes t d (λ both. of both.0)) ∙ h.each t d ∙ sent-same t d)
    each t k (inr at) of =
        ap (λ r. by t (r ++ w'.queue k) ++ outbox' t k) (p.logs k) ∙ ap (λ r. by t (w.log k ++ r) ++ outbox' t k) (p.queues k at)
        ∙ ap (λ r. by t (w.log k ++ w.queue k) ++ r) (p.boxes t k (λ both. at both.1)) ∙ h.each t k ∙ sent-same t k

pub handles-holds : {S C : Type 0} (L : Language S C) (items : List C) (w w' : World C) (outbox outbox' : ℕ → ℕ → List (Entry C)) (d : ℕ) (e : Entry C)
    → Handles L w w' outbox outbox' d e → Holds L items w outbox → Holds L items w' outbox'
handles-holds L items w w' outbox outbox' d e p h = record {
  each = λ t k. reached t k (cases_eq k d) ∙ sent-of t k (cases_eq t d);
  unspent = λ k. unspent k (cases_eq k d);
  others = λ k lt. p.logs k (λ i. above k lt i) ∙ h.others k lt;
}
  where
    above : (k : ℕ) → L.contexts < k → k ≡ d → ⊥
    above k lt i = let actor : d ≤ L.contexts = p.actor in omega arith

    reached : (t k : ℕ) → ((k ≡ d) ⊎ (k ≡ d → ⊥)) → by t (w'.log k ++ w'.queue k) ++ outbox' t k ≡ by t (w.log k ++ w.queue k) ++ outbox' t k
    reached t k (inl at) = rw (at, p.to, append_assoc, ← p.from) refl
    reached t k (inr at) = rw (p.logs k at, p.queues k at) refl

    sent-of : (t k : ℕ) → ((t ≡ d) ⊎ (t ≡ d → ⊥)) → by t (w.log k ++ w.queue k) ++ outbox' t k ≡ sends L items t k (w'.log t)
    sent-of t k (inl at) =
        rw at (ap (λ r. by d (w.log k ++ w.queue k) ++ r) (p.sent k) ∙ sym (append_assoc (by d (w.log k ++ w.queue k)) (outbox d k) (reply L d k (naive L d (w.log d)) e))
        ∙ ap (λ r. r ++ reply L d k (naive L d (w.log d)) e) (h.each d k) ∙ sym (sends-one L items d k (w.log d) e) ∙ ap (sends L items d k) (sym p.to))
    sent-of t k (inr at) = ap (λ r. by t (w.log k ++ w.queue k) ++ r) (p.boxes t k at) ∙ h.each t k ∙ ap (sends L items t k) (sym (p.logs t at))

    unspent : (k : ℕ) → ((k ≡ d) ⊎ (k ≡ d → ⊥)) → IsUnspentAlong L (first L k) (w'.log k)
    unspent k (inl at) = rw (at, p.to) (unspent-one L (first L d) (w.log d) e (h.unspent d) p.unspent)
    unspent k (inr at) = rw (p.logs k at) (h.unspent k)

-- where nothing is left in an outbox, rounds give a faithful record
pub holds-finished : {S C : Type 0} (L : Language S C) (items : List C) (v w : World C) (outbox : ℕ → ℕ → List (Entry C)) → Holds L items v outbox → ((s d : ℕ) → outbox s d ≡ [])
    → BeginsWithBoot L v → IsFinished L true v w → IsFaithfulRun L items w
holds-finished L items v w outbox h empty boot finished =
    let run : IsRun L items v = record {
      each = λ s d. sym (append-nil (by s (v.log d ++ v.queue d))) ∙ ap (λ r. by s (v.log d ++ v.queue d) ++ r) (sym (empty s d)) ∙ h.each s d;
      unspent = h.unspent;
      others = h.others;
    } in
    finished-faithful L items v w run boot finished

-- boot gives what the parts begin with, once the items are there
pub boot-holds : {S C : Type 0} (L : Language S C) (items : List C) (w : World C) → IsReaderQuiet L → IsBoot L w → Holds L items (given L items w) (λ s d. []) × BeginsWithBoot L (given L items w)
boot-holds L items w quiet boot =
    let run = given-run L items w quiet (boot-run L w boot) in
    let v = given L items w in
    (record { each = λ s d. append-nil (by s (v.log d ++ v.queue d)) ∙ run.each s d; unspent = run.unspent; others = run.others }, (w, boot, extends-refl w))

-- logs grow at their ends, so a record goes on to begin with boot
pub begins-more : {S C : Type 0} (L : Language S C) (w v : World C) → ((d : ℕ) → IsPrefix (w.log d) (v.log d)) → BeginsWithBoot L w → BeginsWithBoot L v
begins-more L w v grows h = (
  h.0,
  h.1,
  λ d.
      ((h.2 d).0 ++ (grows d).0, (grows d).1 ∙ ap (λ l. l ++ (grows d).0) (h.2 d).1 ∙ append_assoc (h.0.log d) (h.2 d).0 (grows d).0),
)

pub posts-begins : {S C : Type 0} (L : Language S C) (w v : World C) (outbox outbox' : ℕ → ℕ → List (Entry C)) (s d : ℕ) (e : Entry C)
    → Posts w v outbox outbox' s d e → BeginsWithBoot L w → BeginsWithBoot L v
posts-begins L w v outbox outbox' s d e p h = begins-more L w v (λ k. ([], p.logs k ∙ sym (append-nil (w.log k)))) h

pub handles-begins : {S C : Type 0} (L : Language S C) (w v : World C) (outbox outbox' : ℕ → ℕ → List (Entry C)) (d : ℕ) (e : Entry C)
    → Handles L w v outbox outbox' d e → BeginsWithBoot L w → BeginsWithBoot L v
handles-begins L w v outbox outbox' d e p h = begins-more L w v (λ k. grown k (cases_eq k d)) h
  where
    grown : (k : ℕ) → ((k ≡ d) ⊎ (k ≡ d → ⊥)) → IsPrefix (w.log k) (v.log k)
    grown k (inl at) = rw at (e ∷ [], p.to)
    grown k (inr at) = ([], p.logs k at ∙ sym (append-nil (w.log k)))
