-- What every run of steps keeps.
use Rattle.std.proofs.Common.{◌≡◌, ◌+◌, ◌≤◌, ◌<◌, ◌∷◌, ◌++◌, ◌==◌}
use Rattle.actor_theory.proofs.Common.{ℕ, zero, suc, List, [], Bool, true, false, not, nat_le, cond, Option, Some, None, refl, sym, ◌∙◌, ap, append_assoc, append-nil, arith, eqb-true, leb-true, ne_eqb, and_parts, Entry, Language, Moment, first, next, after_all, naive, World, start, handled, found, finds, step, steps, is_open, turn_of, round, rounds, IsUnspentAlong, IsPrefix}
use Rattle.std.proofs.lemmas.Bool.{not-true}
use Rattle.actor_theory.specs.World.{turns}
use Rattle.actor_theory.proofs.Stepping.{IsEach, step-each, start-each, finds-some}

-- what holds of a run's worlds
pub record IsRun {S C : Type 0} (L : Language S C) (items : List C) (w : World C) : Type 0 where
  pub each : IsEach L items w
  pub unspent : (d : ℕ) → IsUnspentAlong L (first L d) (w.log d)
  pub others : (d : ℕ) → L.contexts < d → w.log d ≡ []

pub unspent-one : {S C : Type 0} (L : Language S C) (m : Moment S) (log : List (Entry C)) (e : Entry C) → IsUnspentAlong L m log → L.is_spent (after_all L m log).state ≡ false → IsUnspentAlong L m (log ++ e ∷ [])
unspent-one L m [] e h now = (now, tt)
unspent-one L m (x ∷ xs) e h now = (h.0, unspent-one L (next L m x) xs e h.1 now)

-- a property that each step keeps is kept by all steps, and by rounds
pub steps-keep : {S C : Type 0} (L : Language S C) (P : World C → Type 0) → ((w : World C) (p : ℕ × ℕ) → P w → P (step L w p)) → (w : World C) (ps : List (ℕ × ℕ)) → P w → P (steps L w ps)
steps-keep L P keeps w [] h = h
steps-keep L P keeps w (p ∷ ps) h = steps-keep L P keeps (step L w p) ps (keeps w p h)

pub turns-keep : {S C : Type 0} (L : Language S C) (P : World C → Type 0) → ((w : World C) (p : ℕ × ℕ) → P w → P (step L w p)) → (takes : Bool) (d n : ℕ) (w : World C) → P w → P (turns L takes d n w)
turns-keep L P keeps takes d zero w h = h
turns-keep L P keeps takes d (suc n) w h = turns-keep L P keeps takes (d + 1) n (step L w (turn_of L takes w d)) (keeps w (turn_of L takes w d) h)

pub rounds-keep : {S C : Type 0} (L : Language S C) (P : World C → Type 0) → ((w : World C) (p : ℕ × ℕ) → P w → P (step L w p)) → (takes : Bool) (n : ℕ) (w : World C) → P w → P (rounds L takes n w)
rounds-keep L P keeps takes zero w h = h
rounds-keep L P keeps takes (suc n) w h = rounds-keep L P keeps takes n (round L takes w) (turns-keep L P keeps takes 0 (suc L.contexts) w h)

-- who is open is an actor, and isn't spent
pub open-parts : {S C : Type 0} (L : Language S C) (w : World C) (d : ℕ) → is_open L w d ≡ true → (d ≤ L.contexts) × (L.is_spent (naive L d (w.log d)).state ≡ false)
open-parts L w d h =
    let parts = and_parts (nat_le d L.contexts) (not (L.is_spent (naive L d (w.log d)).state)) h in
    (leb-true d L.contexts parts.0, not-true (L.is_spent (naive L d (w.log d)).state) parts.1)

-- at each step that finds an entry
found-keeps : {S C : Type 0} (L : Language S C) (P : World C → Type 0) (w : World C) (p : ℕ × ℕ) → P w
    → ((e : Entry C) (rest : List (Entry C)) → finds L w p.0 p.1 ≡ Some (e, rest) → P (handled L w p.0 e rest)) → P (step L w p)
found-keeps {C} L P w p h then = go (finds L w p.0 p.1) refl
  where
    go : (o : Option (Entry C × List (Entry C))) → finds L w p.0 p.1 ≡ o → P (found L w p.0 o)
    go None i = h
    go (Some r) i = then r.0 r.1 i

unspent-step : {S C : Type 0} (L : Language S C) (w : World C) (p : ℕ × ℕ) → ((d : ℕ) → IsUnspentAlong L (first L d) (w.log d)) → (d : ℕ) → IsUnspentAlong L (first L d) ((step L w p).log d)
unspent-step {C} L w p h = found-keeps L (λ v. (d : ℕ) → IsUnspentAlong L (first L d) (v.log d)) w p h (λ e rest i d. go e rest (finds-some L w p.0 p.1 e rest i).0 d (d == p.0) refl)
  where
    go : (e : Entry C) (rest : List (Entry C)) → is_open L w p.0 ≡ true → (d : ℕ) (b : Bool) → (d == p.0) ≡ b → IsUnspentAlong L (first L d) (cond b (w.log p.0 ++ e ∷ []) (w.log d))
    go e rest o d true eq = let same : d ≡ p.0 = eqb-true d p.0 eq in rw same (unspent-one L (first L p.0) (w.log p.0) e (h p.0) (open-parts L w p.0 o).1)
    go e rest o d false eq = h d

others-step : {S C : Type 0} (L : Language S C) (w : World C) (p : ℕ × ℕ) → ((d : ℕ) → L.contexts < d → w.log d ≡ []) → (d : ℕ) → L.contexts < d → (step L w p).log d ≡ []
others-step {C} L w p h = found-keeps L (λ v. (d : ℕ) → L.contexts < d → v.log d ≡ []) w p h (λ e rest i d lt. go e rest (finds-some L w p.0 p.1 e rest i).0 d lt)
  where
    go : (e : Entry C) (rest : List (Entry C)) → is_open L w p.0 ≡ true → (d : ℕ) → L.contexts < d → (handled L w p.0 e rest).log d ≡ []
    go e rest o d lt =
        let actor : p.0 ≤ L.contexts = (open-parts L w p.0 o).0 in
        let other : d ≡ p.0 → ⊥ = λ i. omega arith in
        rw (ne_eqb d p.0 other) (h d lt)

pub step-run : {S C : Type 0} (L : Language S C) (items : List C) (w : World C) (p : ℕ × ℕ) → IsRun L items w → IsRun L items (step L w p)
step-run L items w p h = record { each = step-each L items w p h.each; unspent = unspent-step L w p h.unspent; others = others-step L w p h.others }

pub start-run : {S C : Type 0} (L : Language S C) (items : List C) → IsRun L items (start L items)
start-run L items = record { each = start-each L items; unspent = λ d. tt; others = λ d lt. refl }

-- logs only grow
abbrev pub Extends : {C : Type 0} → World C → World C → Type 0
Extends v w = (d : ℕ) → IsPrefix (v.log d) (w.log d)

pub extends-refl : {C : Type 0} (v : World C) → Extends v v
extends-refl v d = ([], sym (append-nil (v.log d)))

pub step-extends : {S C : Type 0} (L : Language S C) (v w : World C) (p : ℕ × ℕ) → Extends v w → Extends v (step L w p)
step-extends {C} L v w p h = found-keeps L (λ u. Extends v u) w p h (λ e rest i d. go e d (d == p.0) refl)
  where
    go : (e : Entry C) (d : ℕ) (b : Bool) → (d == p.0) ≡ b → IsPrefix (v.log d) (cond b (w.log p.0 ++ e ∷ []) (w.log d))
    go e d true eq =
        let same : p.0 ≡ d = sym (eqb-true d p.0 eq) in
        ((h d).0 ++ e ∷ [], ap (λ (j : ℕ). w.log j ++ e ∷ []) same ∙ ap (λ (xs : List (Entry C)). xs ++ e ∷ []) (h d).1 ∙ append_assoc (v.log d) (h d).0 (e ∷ []))
    go e d false eq = h d
