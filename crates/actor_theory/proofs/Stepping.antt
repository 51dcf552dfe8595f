-- What a step keeps.
use Rattle.std.proofs.Common.{◌≡◌, ◌∷◌, ◌++◌, ◌==◌}
use Rattle.actor_theory.proofs.Common.{ℕ, List, [], Bool, true, false, cond, Option, Some, None, refl, sym, ◌∙◌, ap, append_assoc, append-nil, eqb-true, eqb-false, Entry, Language, naive, number_after, mail, reply, sends, by, loaded, World, start, first_from, handled, found, finds, step, steps, is_open}
use Rattle.actor_theory.proofs.Lists.{by-append, by-mail_same, by-mail_other, IsFirstFrom, first_from-some}
use Rattle.actor_theory.proofs.Sending.{sends-one}

abbrev pub IsEach : {S C : Type 0} → Language S C → List C → World C → Type 0
IsEach L items w = (s d : ℕ) → by s (w.log d ++ w.queue d) ≡ sends L items s d (w.log s)

-- what reached k, after the handling at d: what had reached it, and what d sent to k
reached : {S C : Type 0} (L : Language S C) (w : World C) (d : ℕ) (e : Entry C) (rest : List (Entry C)) (s k o : ℕ) → IsFirstFrom o (w.queue d) e rest → (b : Bool) → (k == d) ≡ b
    → by s (cond b (w.log d ++ e ∷ []) (w.log k) ++ (cond b rest (w.queue k) ++ reply L d k (naive L d (w.log d)) e))
    ≡ by s (w.log k ++ w.queue k) ++ by s (reply L d k (naive L d (w.log d)) e)
reached L w d e rest s k o f true eq =
    let R = reply L d k (naive L d (w.log d)) e in
    let regroup : (w.log d ++ e ∷ []) ++ (rest ++ R) ≡ (w.log d ++ e ∷ rest) ++ R = append_assoc (w.log d) (e ∷ []) (rest ++ R) ∙ sym (append_assoc (w.log d) (e ∷ rest) R) in
    let swap : by s (w.log d ++ e ∷ rest) ≡ by s (w.log d ++ w.queue d) = by-append s (w.log d) (e ∷ rest) ∙ ap (λ ys. by s (w.log d) ++ ys) (sym (f.each s)) ∙ sym (by-append s (w.log d) (w.queue d)) in
    let there : by s (w.log d ++ w.queue d) ≡ by s (w.log k ++ w.queue k) = ap (λ (j : ℕ). by s (w.log j ++ w.queue j)) (sym (eqb-true k d eq)) in
    ap (by s) regroup ∙ by-append s (w.log d ++ e ∷ rest) R ∙ ap (λ ys. ys ++ by s R) (swap ∙ there)
reached L w d e rest s k o f false eq =
    ap (by s) (sym (append_assoc (w.log k) (w.queue k) (reply L d k (naive L d (w.log d)) e))) ∙ by-append s (w.log k ++ w.queue k) (reply L d k (naive L d (w.log d)) e)

-- what s has sent to k, after the handling at d
sent-more : {S C : Type 0} (L : Language S C) (items : List C) (w : World C) (d : ℕ) (e : Entry C) (s k : ℕ) (b : Bool) → (s == d) ≡ b
    → sends L items s k (w.log s) ++ by s (reply L d k (naive L d (w.log d)) e) ≡ sends L items s k (cond b (w.log d ++ e ∷ []) (w.log s))
sent-more L items w d e s k true eq =
    let same : s ≡ d = eqb-true s d eq in
    rw same (ap (λ r. sends L items d k (w.log d) ++ r) (by-mail_same d (number_after (naive L d (w.log d)).number e) k (L.sent (naive L d (w.log d)).state (number_after (naive L d (w.log d)).number e) e)) ∙ sym (sends-one L items d k (w.log d) e))
sent-more L items w d e s k false eq =
    ap (λ r. sends L items s k (w.log s) ++ r) (by-mail_other s d (number_after (naive L d (w.log d)).number e) k (L.sent (naive L d (w.log d)).state (number_after (naive L d (w.log d)).number e) e) (λ i. eqb-false s d eq (sym i)))
    ∙ append-nil (sends L items s k (w.log s))

pub handled-each : {S C : Type 0} (L : Language S C) (items : List C) (w : World C) (d : ℕ) (e : Entry C) (rest : List (Entry C)) (o : ℕ) → IsFirstFrom o (w.queue d) e rest
    → IsEach L items w → IsEach L items (handled L w d e rest)
handled-each L items w d e rest o f h s k =
    reached L w d e rest s k o f (k == d) refl ∙ ap (λ r. r ++ by s (reply L d k (naive L d (w.log d)) e)) (h s k) ∙ sent-more L items w d e s k (s == d) refl

-- a step that finds an entry, or none
pub finds-some : {S C : Type 0} (L : Language S C) (w : World C) (d s : ℕ) (e : Entry C) (rest : List (Entry C)) → finds L w d s ≡ Some (e, rest)
    → (is_open L w d ≡ true) × (first_from s (w.queue d) ≡ Some (e, rest))
finds-some L w d s e rest h = go (is_open L w d) refl h
  where
    go : (b : Bool) → is_open L w d ≡ b → cond b (first_from s (w.queue d)) None ≡ Some (e, rest) → (is_open L w d ≡ true) × (first_from s (w.queue d) ≡ Some (e, rest))
    go true o i = (o, i)
    go false o i = absurd (cc)

pub step-each : {S C : Type 0} (L : Language S C) (items : List C) (w : World C) (p : ℕ × ℕ) → IsEach L items w → IsEach L items (step L w p)
step-each {C} L items w p h = go (finds L w p.0 p.1) refl
  where
    go : (o : Option (Entry C × List (Entry C))) → finds L w p.0 p.1 ≡ o → IsEach L items (found L w p.0 o)
    go None i = h
    go (Some r) i =
        let f = first_from-some p.1 (w.queue p.0) r.0 r.1 (finds-some L w p.0 p.1 r.0 r.1 i).1 in
        handled-each L items w p.0 r.0 r.1 p.1 f h

pub steps-each : {S C : Type 0} (L : Language S C) (items : List C) (w : World C) (ps : List (ℕ × ℕ)) → IsEach L items w → IsEach L items (steps L w ps)
steps-each L items w [] h = h
steps-each L items w (p ∷ ps) h = steps-each L items (step L w p) ps (step-each L items w p h)

pub start-each : {S C : Type 0} (L : Language S C) (items : List C) → IsEach L items (start L items)
start-each L items s d = go (s == L.contexts) refl
  where
    go : (b : Bool) → (s == L.contexts) ≡ b → by s (mail L.contexts 0 d (loaded L items)) ≡ mail s 0 d (cond b (loaded L items) []) ++ []
    go true eq = let same : s ≡ L.contexts = eqb-true s L.contexts eq in rw same (by-mail_same L.contexts 0 d (loaded L items) ∙ sym (append-nil (mail L.contexts 0 d (loaded L items))))
    go false eq = by-mail_other s L.contexts 0 d (loaded L items) (λ i. eqb-false s L.contexts eq (sym i))
