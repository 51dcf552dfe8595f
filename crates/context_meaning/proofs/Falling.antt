-- Fuel never grows, neither does twice the fuel with what the row weighs; what waits in front stays, and so do the slot and the slots.
use Rattle.std.proofs.Common.{◌≡◌, ◌+◌, ◌*◌, ◌≤◌, ◌∷◌, ◌++◌}
use Rattle.context_meaning.proofs.Common.{ℕ, List, [], slice_get, Bool, refl, ap, ◌∙◌, arith, cond_both, Value, Program, Effect, Act, begun_in, setting_of, Instance, Waiting, Context, scene_of, with_fuel, with_globals, with_listener, act_in, apply, apply_all, listening, with_act, front_weight, met}
use Rattle.std.specs.List.{sum_by}
use Rattle.std.proofs.lemmas.List.Sums.{sum_by-cons}
use Rattle.action_host.specs.declared.host.Effect.TheVariants as effect
use Rattle.context_meaning.specs.declared.context.Waiting.TheVariants as waiting
use Rattle.context_meaning.proofs.Changing.{Carries, met_carries}
use Rattle.context_meaning.proofs.Choosing.{with_some_both}
use Rattle.context_meaning.proofs.Weighing.{routes, routes_weigh}
use Rattle.context_meaning.proofs.PayingActs.{ActPays, act_pays}

-- ---- what weighs

-- the weight of things behind things
pub weight_append : (vs ws : List Waiting) → front_weight (vs ++ ws) ≡ front_weight vs + front_weight ws
weight_append [] ws = omega arith
weight_append (v ∷ vs) ws = let rest = weight_append vs ws in omega (arith, rest)

-- what waits in front stays, fuel doesn't grow, and twice the fuel with what the row weighs grows by at most this much
pub record Grows (more : ℕ) (c d : Context) : Type 0 where
  pub slot : d.slot ≡ c.slot
  pub slots : d.slots ≡ c.slots
  pub front : d.front ≡ c.front
  pub fuel : d.fuel ≤ c.fuel
  pub load : 2 * d.fuel + front_weight d.row ≤ 2 * c.fuel + front_weight c.row + more

-- it doesn't grow
abbrev pub Falls : Context → Context → Type 0
Falls c d = Grows 0 c d

-- what weighs nothing is done
light : (c d : Context) → d.slot ≡ c.slot → d.slots ≡ c.slots → d.front ≡ c.front → d.fuel ≡ c.fuel → d.row ≡ c.row → Falls c d
light c d slot slots front fuel row = record { slot = slot; slots = slots; front = front; fuel = omega (arith, fuel); load = let same = ap front_weight row in omega (arith, fuel, same) }

-- less fuel
less_falls : (fuel : ℕ) (c : Context) → fuel ≤ c.fuel → Falls c (with_fuel fuel c)
less_falls fuel c less = record { slot = refl; slots = refl; front = refl; fuel = less; load = omega (arith, less) }

-- nothing is done
pub falls_same : (c : Context) → Falls c c
falls_same c = record { slot = refl; slots = refl; front = refl; fuel = omega arith; load = omega arith }

-- one growth behind another
grows_then : (n m k : ℕ) (c d e : Context) → n + m ≤ k → Grows n c d → Grows m d e → Grows k c e
grows_then n m k c d e h a b = record {
  slot = b.slot ∙ a.slot;
  slots = b.slots ∙ a.slots;
  front = b.front ∙ a.front;
  fuel = let x = a.fuel in let y = b.fuel in omega (arith, x, y);
  load = let x = a.load in let y = b.load in omega (arith, h, x, y);
}

-- one behind another
pub falls_then : (c d e : Context) → Falls c d → Falls d e → Falls c e
falls_then c d e a b = grows_then 0 0 0 c d e (omega arith) a b

-- ---- effects

-- one more event in the row
row_grows : (row : List Waiting) (event : Value) (fuel : ℕ) → 2 * fuel + front_weight (row ++ waiting.Event event ∷ []) ≤ 2 * fuel + front_weight row + 2
row_grows row event fuel = let is = weight_append row (waiting.Event event ∷ []) in omega (arith, is)

module _ (program : Program) where
  -- a listener that begins weighs nothing
  listening_falls : (at site : ℕ) (operands captured : List Value) (c : Context) → Falls c (listening program at site operands captured c)
  listening_falls at site operands captured c = with_some_both (Falls c) (slice_get program.sites site) (λ s d. with_listener at site captured (begun_in (setting_of program.types s operands d.clock)) d) c (falls_same c) (λ s is. light c _ refl refl refl refl refl)

  -- an effect: what it routes is in the row
  apply_grows : (at : ℕ) (ending : Bool) (e : Effect) (c : Context) → Grows (2 * routes e) c (apply program at ending e c)
  apply_grows at ending (effect.Print text) c = light c _ refl refl refl refl refl
  apply_grows at ending (effect.Log level text) c = light c _ refl refl refl refl refl
  apply_grows at ending (effect.Listen site operands captured) c = cond_both ending c (listening program at site operands captured c) (Falls c) (λ _. falls_same c) (λ _. listening_falls at site operands captured c)
  apply_grows at ending (effect.Quit birth) c = light c _ refl refl refl refl refl
  apply_grows at ending (effect.Route event) c = record { slot = refl; slots = refl; front = refl; fuel = omega arith; load = row_grows c.row event c.fuel }
  apply_grows at ending other c = falls_same c

  -- effects in order
  apply_all_grows : (at : ℕ) (ending : Bool) (es : List Effect) (c : Context) → Grows (2 * sum_by routes es) c (apply_all program at ending es c)
  apply_all_grows at ending [] c = falls_same c
  apply_all_grows at ending (e ∷ es) c = let joined = sum_by-cons routes e es in grows_then (2 * routes e) (2 * sum_by routes es) (2 * sum_by routes (e ∷ es)) c (apply program at ending e c) (apply_all program at ending es (apply program at ending e c)) (omega (arith, joined)) (apply_grows at ending e c) (apply_all_grows at ending es (apply program at ending e c))

  -- what a run came to, where it paid for what it routes
  pub act_falls : (at : ℕ) (ending : Bool) (act : Act) (c : Context) → ActPays routes c.fuel act → Falls c (with_act program at ending act c)
  act_falls at ending act c pays =
      let grows = apply_all_grows at ending act.effects (with_globals at act.globals (with_fuel act.scene.fuel c)) in
      record {
        slot = grows.slot;
        slots = grows.slots;
        front = grows.front;
        fuel = let less = grows.fuel in omega (arith, pays, less);
        load = let less = grows.load in omega (arith, pays, less);
      }

  -- a run of a body in an instance pays
  act_in_pays : (ending : Bool) (body : ℕ) (locals : List Value) (i : Instance) (c : Context) → ActPays routes c.fuel (act_in program ending body locals i c)
  act_in_pays ending body locals i c = act_pays routes routes_weigh program body i.globals locals (scene_of ending c) []

  -- runs, turns and handlings
  pub falls_carries : Carries program Falls
  falls_carries = record {
    same = falls_same;
    next = falls_then;
    spent = λ c. light c _ refl refl refl refl refl;
    fuel = less_falls;
    clock = λ now c. light c _ refl refl refl refl refl;
    line = λ l c. light c _ refl refl refl refl refl;
    fewer = λ p c. light c _ refl refl refl refl refl;
    expression = λ birth u c. light c _ refl refl refl refl refl;
    begun = λ monitor globals c. light c _ refl refl refl refl refl;
    without = λ number c. light c _ refl refl refl refl refl;
    act = λ ending body locals i c. act_falls i.number ending (act_in program ending body locals i c) c (act_in_pays ending body locals i c);
  }

  -- the listeners meet a thing
  pub met_falls : (w : Waiting) (c : Context) → Falls c (met program w c)
  met_falls w c = met_carries program Falls falls_carries w c
