-- Rounds in which the reader takes no item are the same with its items and without them.
use Rattle.std.proofs.Common.{◌≡◌, ◌+◌, ◌∷◌, ◌++◌, ◌==◌, ◌⊎◌}
use Rattle.actor_theory.proofs.Common.{ℕ, zero, suc, List, [], Bool, true, false, cond, Option, Some, None, refl, sym, ◌∙◌, ap, subst, append_assoc, arith, inr, map, eqb-true, eqb-false, Entry, Language, naive, reply, World, own, first_from, is_open, handled, found, finds, step, other_sender, turn_of, round, rounds, IsQuiet, IsFinished, IsBoot, Slots, Reader, Cell, ReaderCell, world_of, fresh_cells, fresh_reader, loaded_queues, without_items}
use Rattle.actor_theory.specs.World.{given, turns}
use Rattle.actor_theory.specs.Joined.{joined}
use Rattle.actor_theory.proofs.Beside.{cancel}
use Rattle.actor_theory.proofs.Queues.{behind, first_from-own, other_sender-own}
use Rattle.actor_theory.proofs.Machining.{world-same}
use Rattle.actor_theory.proofs.Beginning.{given-world}
use Rattle.actor_theory.proofs.Looping.{machine-boot}

-- the items, for the reader alone
abbrev own_at : {S C : Type 0} → Language S C → List C → ℕ → List (Entry C)
own_at L items d = cond (d == L.contexts) (map (own L.contexts) items) []

given-finds : {S C : Type 0} (L : Language S C) (items : List C) (w : World C) (d s : ℕ) → (d ≡ L.contexts → s ≡ L.contexts → ⊥) → finds L (given L items w) d s ≡ behind (own_at L items d) (finds L w d s)
given-finds {S} {C} L items w d s other = ap (λ o. cond (is_open L w d) o None) (first (d == L.contexts) refl) ∙ out (is_open L w d)
  where
    same : (o : Option (Entry C × List (Entry C))) → o ≡ behind [] o
    same None = refl
    same (Some p) = refl

    first : (b : Bool) → (d == L.contexts) ≡ b → first_from s (cond b (map (own L.contexts) items) [] ++ w.queue d) ≡ behind (cond b (map (own L.contexts) items) []) (first_from s (w.queue d))
    first true e = first_from-own L.contexts s items (w.queue d) (λ i. other (eqb-true d L.contexts e) i)
    first false e = same (first_from s (w.queue d))

    out : (b : Bool) → cond b (behind (own_at L items d) (first_from s (w.queue d))) None ≡ behind (own_at L items d) (cond b (first_from s (w.queue d)) None)
    out true = refl
    out false = refl

given-step : {S C : Type 0} (L : Language S C) (items : List C) (w : World C) (p : ℕ × ℕ) → (p.0 ≡ L.contexts → p.1 ≡ L.contexts → ⊥) → step L (given L items w) p ≡ given L items (step L w p)
given-step {S} {C} L items w p other = ap (found L (given L items w) p.0) (given-finds L items w p.0 p.1 other) ∙ go (finds L w p.0 p.1)
  where
    queue : (rest R : List (Entry C)) (k : ℕ) (b : Bool) → (k == p.0) ≡ b → cond b (own_at L items p.0 ++ rest) (own_at L items k ++ w.queue k) ++ R ≡ own_at L items k ++ (cond b rest (w.queue k) ++ R)
    queue rest R k true e = let same = eqb-true k p.0 e in append_assoc (own_at L items p.0) rest R ∙ ap (λ j. own_at L items j ++ (rest ++ R)) (sym same)
    queue rest R k false e = append_assoc (own_at L items k) (w.queue k) R

    go : (o : Option (Entry C × List (Entry C))) → found L (given L items w) p.0 (behind (own_at L items p.0) o) ≡ given L items (found L w p.0 o)
    go None = refl
    go (Some z) =
        world-same (handled L (given L items w) p.0 z.0 (own_at L items p.0 ++ z.1)) (given L items (handled L w p.0 z.0 z.1)) (λ k. refl)
        (λ k. queue z.1 (reply L p.0 k (naive L p.0 (w.log p.0)) z.0) k (k == p.0) refl)

given-turn : {S C : Type 0} (L : Language S C) (items : List C) (w : World C) (d : ℕ) → turn_of L false (given L items w) d ≡ turn_of L false w d
given-turn {S} {C} L items w d = ap (λ (s : ℕ). (d, s)) (go (d == L.contexts) refl)
  where
    go : (b : Bool) → (d == L.contexts) ≡ b → (turn_of L false (given L items w) d).1 ≡ (turn_of L false w d).1
    go true e = let same = eqb-true d L.contexts e in rw (e, same) (other_sender-own L.contexts (L.contexts + 1) items (w.queue L.contexts))
    go false e = rw e refl

-- such a turn takes no item
other-own : {C : Type 0} (r : ℕ) (q : List (Entry C)) → other_sender r (r + 1) q ≡ r → ⊥
other-own r [] h = omega arith
other-own {C} r (e ∷ es) h = go (other-own r es) (e.sender == r) refl h
  where
    go : (other_sender r (r + 1) es ≡ r → ⊥) → (b : Bool) → (e.sender == r) ≡ b → cond b (other_sender r (r + 1) es) e.sender ≡ r → ⊥
    go ih true i j = ih j
    go ih false i j = eqb-false e.sender r i j

turn-other : {S C : Type 0} (L : Language S C) (w : World C) (d : ℕ) → d ≡ L.contexts → (turn_of L false w d).1 ≡ L.contexts → ⊥
turn-other L w d at h = go (d == L.contexts) refl h
  where
    go : (b : Bool) → (d == L.contexts) ≡ b → (turn_of L false w d).1 ≡ L.contexts → ⊥
    go true e i = let P : ℕ → Type 0 = λ j. other_sender j (L.contexts + 1) (w.queue d) ≡ L.contexts in let j : P d = rw e at i in other-own L.contexts (w.queue d) (subst P at j)
    go false e i = eqb-false d L.contexts e at

given-turns : {S C : Type 0} (L : Language S C) (items : List C) (d n : ℕ) (w : World C) → turns L false d n (given L items w) ≡ given L items (turns L false d n w)
given-turns L items d zero w = refl
given-turns L items d (suc n) w =
    ap (turns L false (d + 1) n) (ap (step L (given L items w)) (given-turn L items w d) ∙ given-step L items w (turn_of L false w d) (turn-other L w d)) ∙ given-turns L items (d + 1) n (step L w (turn_of L false w d))

given-rounds : {S C : Type 0} (L : Language S C) (items : List C) (n : ℕ) (w : World C) → rounds L false n (given L items w) ≡ given L items (rounds L false n w)
given-rounds L items zero w = refl
given-rounds L items (suc n) w = ap (rounds L false n) (given-turns L items 0 (suc L.contexts) w) ∙ given-rounds L items n (round L false w)

given-quiet : {S C : Type 0} (L : Language S C) (items : List C) (w : World C) → IsQuiet L false (given L items w) → IsQuiet L false w
given-quiet {S} {C} L items w quiet d =
    none (finds L w d (turn_of L false w d).1)
    (sym (given-finds L items w d (turn_of L false w d).1 (turn-other L w d)) ∙ ap (λ (p : ℕ × ℕ). finds L (given L items w) d p.1) (sym (given-turn L items w d)) ∙ quiet d)
  where
    none : (o : Option (Entry C × List (Entry C))) → behind (own_at L items d) o ≡ None → o ≡ None
    none None h = refl
    none (Some p) h = absurd (cc)

given-same : {S C : Type 0} (L : Language S C) (items : List C) (v w : World C) → given L items v ≡ given L items w → v ≡ w
given-same {S} {C} L items v w h =
    world-same v w (λ k. ap (λ (u : World C). u.log k) h) (λ k. cancel (own_at L items k) (v.queue k) (w.queue k) (ap (λ (u : World C). u.queue k) h))

-- rounds that have ended with the items to come have ended without them
pub given-finished : {S C : Type 0} (L : Language S C) (items : List C) (v w : World C) → IsFinished L false (given L items v) (given L items w) → IsFinished L false v w
given-finished L items v w h = record {
  count = h.count;
  reached = given-same L items w (rounds L false h.count v) (h.reached ∙ given-rounds L items h.count v);
  quiet = given-quiet L items w h.quiet;
}

-- so a machine that has its items from the start, and takes none, comes to boot
pub machine-boot_items : {S R C I : Type 0} (contexts : ℕ) (A : Slots S C) (B : Reader R C I) (items : List I) (cells : List (Cell S C)) (reader : ReaderCell R C I) (queued : List (List (Entry C))) → reader.rest ≡ items
    → IsFinished (joined contexts A B) false (world_of contexts (fresh_cells A contexts) (fresh_reader B items) (loaded_queues contexts B)) (world_of contexts cells reader queued)
    → IsBoot (joined contexts A B) (world_of contexts cells (without_items reader) queued)
machine-boot_items {S} {R} {C} {I} contexts A B items cells reader queued rest h =
    let L : Language (S ⊎ R) (C ⊎ I) = joined contexts A B in
    let bare : World (C ⊎ I) = world_of contexts cells (without_items reader) queued in
    let fresh : World (C ⊎ I) = world_of contexts (fresh_cells A contexts) (fresh_reader B []) (loaded_queues contexts B) in
    let to : world_of contexts cells reader queued ≡ given L (map inr items) bare = given-world contexts A B cells reader queued ∙ ap (λ is. given L (map inr is) bare) rest in
    let from : world_of contexts (fresh_cells A contexts) (fresh_reader B items) (loaded_queues contexts B) ≡ given L (map inr items) fresh = given-world contexts A B (fresh_cells A contexts) (fresh_reader B items) (loaded_queues contexts B) in
    let P : World (C ⊎ I) → Type 0 = λ u. IsFinished L false u (world_of contexts cells reader queued) in
    let Q : World (C ⊎ I) → Type 0 = λ u. IsFinished L false (given L (map inr items) fresh) u in
    machine-boot contexts A B cells reader queued (given-finished L (map inr items) fresh bare (subst Q to (subst P from h)))
