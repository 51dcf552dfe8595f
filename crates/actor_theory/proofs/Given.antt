-- The items come to the reader after boot.
use Rattle.std.proofs.Common.{◌≡◌, ◌∷◌, ◌++◌, ◌==◌}
use Rattle.actor_theory.proofs.Common.{ℕ, List, [], Bool, true, false, cond, refl, sym, ◌∙◌, ap, append-nil, map, filter, eqb-true, eqb-false, eq-eqb, ne_eqb, map-append, filter-append, Entry, Language, Sent, first, mail, loaded, replies, sends, by, stamped, is_for, World, own, IsReaderQuiet}
use Rattle.actor_theory.specs.Language.{to_self, before}
use Rattle.actor_theory.specs.World.{given}
use Rattle.actor_theory.proofs.Lists.{by-append, by-cons, by-one_same, by-one_other}
use Rattle.actor_theory.proofs.Stepping.{IsEach}
use Rattle.actor_theory.proofs.Running.{IsRun}

pub mail-append : {C : Type 0} (s n k : ℕ) (xs ys : List (Sent C)) → mail s n k (xs ++ ys) ≡ mail s n k xs ++ mail s n k ys
mail-append s n k xs ys = ap (map (stamped s n)) (filter-append (is_for k) xs ys) ∙ map-append (stamped s n) (filter (is_for k) xs) (filter (is_for k) ys)

-- the items are the reader's own, and nobody else's
pub mail-items : {C : Type 0} (r : ℕ) (items : List C) → mail r 0 r (map (to_self r) items) ≡ map (own r) items
mail-items r [] = refl
mail-items r (i ∷ is) = rw (eq-eqb r r refl) (ap (λ es. own r i ∷ es) (mail-items r is))

pub mail-items_other : {C : Type 0} (r k : ℕ) (items : List C) → (r ≡ k → ⊥) → mail r 0 k (map (to_self r) items) ≡ []
mail-items_other r k [] h = refl
mail-items_other r k (i ∷ is) h = rw (ne_eqb r k h) (mail-items_other r k is h)

pub by-own : {C : Type 0} (r : ℕ) (items : List C) → by r (map (own r) items) ≡ map (own r) items
by-own r [] = refl
by-own r (i ∷ is) = by-cons r (own r i) (map (own r) is) ∙ rw (by-one_same r (own r i) refl) (ap (λ es. own r i ∷ es) (by-own r is))

pub by-own_other : {C : Type 0} (s r : ℕ) (items : List C) → (r ≡ s → ⊥) → by s (map (own r) items) ≡ []
by-own_other s r [] h = refl
by-own_other s r (i ∷ is) h = by-cons s (own r i) (map (own r) is) ∙ rw (by-one_other s (own r i) h) (by-own_other s r is h)

pub both-nil : {C : Type 0} (xs ys : List (Entry C)) → xs ++ ys ≡ [] → (xs ≡ []) × (ys ≡ [])
both-nil [] ys h = (refl, h)
both-nil (x ∷ xs) ys h = absurd (cc)

-- what a sender has sent before, with the items and without them
before-items : {S C : Type 0} (L : Language S C) (items : List C) (s d : ℕ) → (d ≡ L.contexts → ⊥) → mail s 0 d (before L items s) ≡ mail s 0 d (before L [] s)
before-items L items s d other = go (s == L.contexts) refl
  where
    go : (b : Bool) → (s == L.contexts) ≡ b → mail s 0 d (cond b (loaded L items) []) ≡ mail s 0 d (cond b (loaded L []) [])
    go true eq =
        let same = eqb-true s L.contexts eq in
        rw same (mail-append L.contexts 0 d (map (to_self L.contexts) items) L.loads ∙ ap (λ es. es ++ mail L.contexts 0 d L.loads) (mail-items_other L.contexts d items (λ i. other (sym i))))
    go false eq = refl

-- what the reader has sent itself
pub sends-own : {S C : Type 0} (L : Language S C) (items : List C) (log : List (Entry C)) → IsReaderQuiet L → sends L items L.contexts L.contexts log ≡ map (own L.contexts) items
sends-own L items log quiet =
    let r = L.contexts in
    rw (eq-eqb r r refl) (ap (λ es. mail r 0 r (loaded L items) ++ es) (quiet.replies_none log) ∙ append-nil (mail r 0 r (loaded L items)) ∙ mail-append r 0 r (map (to_self r) items) L.loads ∙ ap (λ es. mail r 0 r (map (to_self r) items) ++ es) quiet.loads
    ∙ append-nil (mail r 0 r (map (to_self r) items)) ∙ mail-items r items)

given-each : {S C : Type 0} (L : Language S C) (items : List C) (w : World C) → IsReaderQuiet L → IsEach L [] w → IsEach L items (given L items w)
given-each {S} {C} L items w quiet h s d = go (d == L.contexts) refl (s == L.contexts) refl
  where
    regroup : (s d : ℕ) (own_ones : List (Entry C)) → by s (w.log d ++ (own_ones ++ w.queue d)) ≡ by s (w.log d) ++ (by s own_ones ++ by s (w.queue d))
    regroup s d own_ones = by-append s (w.log d) (own_ones ++ w.queue d) ∙ ap (λ es. by s (w.log d) ++ es) (by-append s own_ones (w.queue d))

    go : (b : Bool) → (d == L.contexts) ≡ b → (c : Bool) → (s == L.contexts) ≡ c → by s (w.log d ++ (cond b (map (own L.contexts) items) [] ++ w.queue d)) ≡ sends L items s d (w.log s)
    go false eq c is = h s d ∙ ap (λ es. es ++ replies L s d (first L s) (w.log s)) (sym (before-items L items s d (eqb-false d L.contexts eq)))
    go true eq false is =
        let other : L.contexts ≡ s → ⊥ = λ i. eqb-false s L.contexts is (sym i) in
        regroup s d (map (own L.contexts) items) ∙ ap (λ es. by s (w.log d) ++ (es ++ by s (w.queue d))) (by-own_other s L.contexts items other) ∙ sym (by-append s (w.log d) (w.queue d)) ∙ h s d
        ∙ ap (λ (b : Bool). mail s 0 d (cond b (loaded L []) []) ++ replies L s d (first L s) (w.log s)) is ∙ ap (λ (b : Bool). mail s 0 d (cond b (loaded L items) []) ++ replies L s d (first L s) (w.log s)) (sym is)
    go true eq true is =
        let r = L.contexts in
        let at : d ≡ r = eqb-true d r eq in
        let of : s ≡ r = eqb-true s r is in
        let none : by r (w.log r) ++ by r (w.queue r) ≡ [] = sym (by-append r (w.log r) (w.queue r)) ∙ h r r ∙ sends-own L [] (w.log r) quiet in
        let parts = both-nil (by r (w.log r)) (by r (w.queue r)) none in
        rw (at, of) (regroup r r (map (own r) items) ∙ rw (parts.0, parts.1) (append-nil (by r (map (own r) items)) ∙ by-own r items) ∙ sym (sends-own L items (w.log r) quiet))

-- so a run goes on with the items
pub given-run : {S C : Type 0} (L : Language S C) (items : List C) (w : World C) → IsReaderQuiet L → IsRun L [] w → IsRun L items (given L items w)
given-run L items w quiet h = record { each = given-each L items w quiet h.each; unspent = h.unspent; others = h.others }
