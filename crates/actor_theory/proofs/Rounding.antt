-- The loops of a program that runs rounds.
use Rattle.std.proofs.Common.{◌≡◌, ◌+◌, ◌-◌, ◌≤◌, ◌<◌, ◌||◌, ◌∷◌, ◌++◌, ◌==◌, ◌⊎◌}
use Rattle.actor_theory.proofs.Common.{ℕ, zero, suc, List, Bool, true, false, cond, Option, Some, None, refl, sym, ◌∙◌, ap, arith, [], subst, inl, inr, is_some, eq-eqb, cases_lt, Entry, Language, World, found, finds, step, turn_of, round, rounds, IsQuiet, IsFinished, IsMeasure, potential, Rounding}
use Rattle.std.proofs.lemmas.Bool.{lt-leb}
use Rattle.actor_theory.specs.World.{turns}
use Rattle.actor_theory.specs.Rounding.{Rounded, RoundsSoFar}
use Rattle.actor_theory.proofs.Falling.{handled-falls}

pub rounding-none : {S C : Type 0} (L : Language S C) (weight : S → ℕ) (cost : ℕ → Entry C → ℕ) (takes : Bool) (began : World C) → Rounding L weight cost takes began began 0 false
rounding-none L weight cost takes began = let all : suc L.contexts - 0 ≡ suc L.contexts = omega arith in record { rest = ap (λ n. turns L takes 0 n began) all; falls = omega arith; quiet = λ e. (refl, λ k lt. absurd (omega arith)) }

-- a step that finds something lowers the potential, and else nothing changes
step-falls : {S C : Type 0} (L : Language S C) (weight : S → ℕ) (cost : ℕ → Entry C → ℕ) (IsLog : ℕ → List (Entry C) → Type 0) → IsMeasure L IsLog weight cost → (w : World C) (p : ℕ × ℕ) → IsLog p.0 ((step L w p).log p.0)
    → potential L weight cost (step L w p) + cond (is_some (finds L w p.0 p.1)) 1 0 ≤ potential L weight cost w
step-falls {S} {C} L weight cost IsLog measure w p is_log = go (finds L w p.0 p.1) refl is_log
  where
    one : (e : Entry C) → cond (p.0 == p.0) (w.log p.0 ++ e ∷ []) (w.log p.0) ≡ w.log p.0 ++ e ∷ []
    one e = rw (eq-eqb p.0 p.0 refl) refl

    go : (o : Option (Entry C × List (Entry C))) → finds L w p.0 p.1 ≡ o → IsLog p.0 ((found L w p.0 o).log p.0) → potential L weight cost (found L w p.0 o) + cond (is_some o) 1 0 ≤ potential L weight cost w
    go None i is = omega arith
    go (Some z) i is = let P : List (Entry C) → Type 0 = IsLog p.0 in let here : IsLog p.0 (w.log p.0 ++ z.0 ∷ []) = subst P (one z.0) is in let falls = handled-falls L weight cost IsLog measure w p.0 p.1 z.0 z.1 i here in omega arith

turns-suc : {S C : Type 0} (L : Language S C) (takes : Bool) (d n : ℕ) (w : World C) → 0 < n → turns L takes d n w ≡ turns L takes (d + 1) (n - 1) (step L w (turn_of L takes w d))
turns-suc L takes d zero w lt = absurd (omega arith)
turns-suc L takes d (suc n) w lt = let less : n ≡ suc n - 1 = omega arith in ap (λ m. turns L takes (d + 1) m (step L w (turn_of L takes w d))) less

joined : (x y z : ℕ) (a b : Bool) → x + cond b 1 0 ≤ y → y + cond a 1 0 ≤ z → x + cond (a || b) 1 0 ≤ z
joined x y z true true p q = omega arith
joined x y z true false p q = omega arith
joined x y z false true p q = omega arith
joined x y z false false p q = omega arith

pub rounding-more : {S C : Type 0} (L : Language S C) (weight : S → ℕ) (cost : ℕ → Entry C → ℕ) (IsLog : ℕ → List (Entry C) → Type 0) → IsMeasure L IsLog weight cost → (takes : Bool) (began now then : World C) (d : ℕ) (handled more : Bool)
    → Rounding L weight cost takes began now d handled → d ≤ L.contexts → IsLog d (then.log d) → then ≡ step L now (turn_of L takes now d) → more ≡ is_some (finds L now d (turn_of L takes now d).1)
    → Rounding L weight cost takes began then (d + 1) (handled || more)
rounding-more {C} L weight cost IsLog measure takes began now then d handled more h le is_log is found_is = let less : suc L.contexts - (d + 1) ≡ suc L.contexts - d - 1 = omega arith in record {
  rest =
      ap (turns L takes (d + 1) (suc L.contexts - (d + 1))) is
      ∙ ap (λ n. turns L takes (d + 1) n (step L now (turn_of L takes now d))) less
      ∙ sym (turns-suc L takes d (suc L.contexts - d) now (omega arith)) ∙ h.rest;
  falls = joined (potential L weight cost then) (potential L weight cost now) (potential L weight cost began) handled more low h.falls;
  quiet = quiet handled refl more refl;
}
  where
    low : potential L weight cost then + cond more 1 0 ≤ potential L weight cost now
    low = let P : World C → Type 0 = λ w. IsLog d (w.log d) in rw (is, found_is) (step-falls L weight cost IsLog measure now (turn_of L takes now d) (subst P is is_log))

    none-some : (o : Option (Entry C × List (Entry C))) → false ≡ is_some o → o ≡ None
    none-some None e = refl
    none-some (Some z) e = absurd (cc)

    below : (k : ℕ) → ((k < d) ⊎ (d ≤ k)) → k < d + 1 → (now ≡ began) × ((k : ℕ) → k < d → finds L began k (turn_of L takes began k).1 ≡ None) → finds L now d (turn_of L takes now d).1 ≡ None
        → finds L began k (turn_of L takes began k).1 ≡ None
    below k (inl low) lt before none = before.1 k low
    below k (inr le) lt before none =
        let same : d ≡ k = omega arith in
        ap (λ j. finds L began j (turn_of L takes began j).1) (sym same) ∙ ap (λ (w : World C). finds L w d (turn_of L takes w d).1) (sym before.0) ∙ none

    quiet : (a : Bool) → handled ≡ a → (b : Bool) → more ≡ b → (a || b) ≡ false → (then ≡ began) × ((k : ℕ) → k < d + 1 → finds L began k (turn_of L takes began k).1 ≡ None)
    quiet true p b q e = absurd (cc)
    quiet false p true q e = absurd (cc)
    quiet false p false q e =
        let before = h.quiet p in
        let none = none-some (finds L now d (turn_of L takes now d).1) (sym q ∙ found_is) in
        (is ∙ ap (found L now d) none ∙ before.0, λ k lt. below k (cases_lt k d) lt before none)

turns-none : {S C : Type 0} (L : Language S C) (takes : Bool) (d n : ℕ) (w : World C) → n ≡ 0 → turns L takes d n w ≡ w
turns-none L takes d n w e = ap (λ m. turns L takes d m w) e

pub rounding-all : {S C : Type 0} (L : Language S C) (weight : S → ℕ) (cost : ℕ → Entry C → ℕ) (takes : Bool) (began now : World C) (d : ℕ) (handled : Bool)
    → Rounding L weight cost takes began now d handled → suc L.contexts ≤ d → Rounded L weight cost takes began now handled
rounding-all L weight cost takes began now d handled h le =
    let none : suc L.contexts - d ≡ 0 = omega arith in
    record {
      is = sym (turns-none L takes d (suc L.contexts - d) now none) ∙ h.rest;
      falls = λ e. falls handled e h.falls;
      quiet = λ e. ((h.quiet e).0, λ k. all k (cases_lt k d) (h.quiet e).1);
    }
  where
    falls : (b : Bool) → b ≡ true → potential L weight cost now + cond b 1 0 ≤ potential L weight cost began → potential L weight cost now < potential L weight cost began
    falls true e low = omega arith
    falls false e low = absurd (cc)

    all : (k : ℕ) → ((k < d) ⊎ (d ≤ k)) → ((j : ℕ) → j < d → finds L began j (turn_of L takes began j).1 ≡ None) → finds L began k (turn_of L takes began k).1 ≡ None
    all k (inl lt) below = below k lt
    all k (inr ge) below = rw (lt-leb k L.contexts (omega arith)) refl

rounds-snoc : {S C : Type 0} (L : Language S C) (takes : Bool) (n : ℕ) (w : World C) → rounds L takes (suc n) w ≡ round L takes (rounds L takes n w)
rounds-snoc L takes zero w = refl
rounds-snoc L takes (suc n) w = rounds-snoc L takes n (round L takes w)

pub rounds-none : {S C : Type 0} (L : Language S C) (takes : Bool) (w : World C) → RoundsSoFar L takes w w
rounds-none L takes w = record { count = 0; reached = refl }

pub rounds-more : {S C : Type 0} (L : Language S C) (takes : Bool) (from now then : World C) → RoundsSoFar L takes from now → then ≡ round L takes now → RoundsSoFar L takes from then
rounds-more L takes from now then h is = record { count = suc h.count; reached = is ∙ ap (round L takes) h.reached ∙ sym (rounds-snoc L takes h.count from) }

pub rounds-all : {S C : Type 0} (L : Language S C) (takes : Bool) (from now : World C) → RoundsSoFar L takes from now → IsQuiet L takes now → IsFinished L takes from now
rounds-all L takes from now h quiet = record { count = h.count; reached = h.reached; quiet = quiet }
