-- A schedule makes one world.
use Rattle.std.proofs.Common.{◌≡◌, ◌+◌, ◌-◌, ◌≤◌, ◌<◌, ◌⊎◌}
use Rattle.actor_theory.proofs.Common.{[], Option, ℕ, zero, suc, List, Bool, true, false, refl, sym, ◌∙◌, ap, subst, arith, inl, inr, cases_lt, Language, World, start, found, follow, round, rounds, IsQuiet, IsFinished, IsScheduledRun}
use Rattle.actor_theory.specs.World.{given, turns}

turns-quiet : {S C : Type 0} (L : Language S C) (takes : Bool) (d n : ℕ) (w : World C) → IsQuiet L takes w → turns L takes d n w ≡ w
turns-quiet L takes d zero w quiet = refl
turns-quiet L takes d (suc n) w quiet = ap (turns L takes (d + 1) n) (ap (found L w d) (quiet d)) ∙ turns-quiet L takes (d + 1) n w quiet

rounds-quiet : {S C : Type 0} (L : Language S C) (takes : Bool) (n : ℕ) (w : World C) → IsQuiet L takes w → rounds L takes n w ≡ w
rounds-quiet L takes zero w quiet = refl
rounds-quiet L takes (suc n) w quiet = ap (rounds L takes n) (turns-quiet L takes 0 (suc L.contexts) w quiet) ∙ rounds-quiet L takes n w quiet

rounds-add : {S C : Type 0} (L : Language S C) (takes : Bool) (a b c : ℕ) (w : World C) → a + b ≡ c → rounds L takes c w ≡ rounds L takes b (rounds L takes a w)
rounds-add L takes zero b c w e = let same : c ≡ b = omega arith in ap (λ n. rounds L takes n w) same
rounds-add L takes (suc a) b zero w e = absurd (omega arith)
rounds-add L takes (suc a) b (suc c) w e = rounds-add L takes a b c (round L takes w) (omega arith)

finished-below : {S C : Type 0} (L : Language S C) (takes : Bool) (from v w : World C) (h : IsFinished L takes from v) (g : IsFinished L takes from w) → h.count ≤ g.count → v ≡ w
finished-below L takes from v w h g le =
    let total : h.count + (g.count - h.count) ≡ g.count = omega arith in
    sym (g.reached ∙ rounds-add L takes h.count (g.count - h.count) g.count from total ∙ ap (rounds L takes (g.count - h.count)) (sym h.reached) ∙ rounds-quiet L takes (g.count - h.count) v h.quiet)

pub finished-unique : {S C : Type 0} (L : Language S C) (takes : Bool) (from v w : World C) → IsFinished L takes from v → IsFinished L takes from w → v ≡ w
finished-unique L takes from v w h g = go (cases_lt h.count g.count)
  where
    go : ((h.count < g.count) ⊎ (g.count ≤ h.count)) → v ≡ w
    go (inl lt) = finished-below L takes from v w h g (omega arith)
    go (inr le) = sym (finished-below L takes from w v g h le)

pub scheduled-unique : {S C : Type 0} (L : Language S C) (items : List C) (picks : List (ℕ × Option ℕ)) (v w : World C) → IsScheduledRun L items picks v → IsScheduledRun L items picks w → v ≡ w
scheduled-unique {S} {C} L items picks v w h g =
    let same = finished-unique L false (start L []) h.boot g.boot h.booted g.booted in
    let P : World C → Type 0 = λ b. IsFinished L true (follow L (given L items b) picks) v in
    finished-unique L true (follow L (given L items g.boot) picks) v w (subst P same h.finished) g.finished
