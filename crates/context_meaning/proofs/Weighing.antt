-- What effects may weigh: at most what is charged for them. What is routed is one such weight.
use Rattle.std.proofs.Common.{◌≡◌, ◌+◌, ◌*◌, ◌≤◌}
use Rattle.std.specs.List.{sum_by}
use Rattle.context_meaning.proofs.Common.{ℕ, Bool, List, sym, subst, refl, arith, Value, Value-F, out-Value, Pair, Term, cost_of, Effect, Scene}
use Rattle.epl_values.specs.declared.value.Value.{map-Value, fold_out-Value}
use Rattle.epl_values.specs.declared.value.Value.TheOpen as layer
use Rattle.value_rules.specs.Costs.{cost_step, pair_cost, pair_step}
use Rattle.action_host.specs.declared.host.Effect.TheVariants as effect
use Rattle.body_meaning.specs.Values.{letters_of}
use Rattle.body_meaning.specs.Effects.{channel_cost, context_cost, listen_cost, taken_along}

-- Each effect weighs at most what is charged for it. The effects of statements may weigh 1 more, which the statement is charged.
pub record Weighs (weigh : Effect → ℕ) : Type 0 where
  pub print : (text : Value) → weigh (effect.Print (letters_of text)) ≤ cost_of text + 1
  pub log : (level : ℕ) (text : Value) → weigh (effect.Log level (letters_of text)) ≤ cost_of text + 1
  pub route : (event : Value) → weigh (effect.Route event) ≤ cost_of event + 1
  pub send_channel : (event : Value) (channel : List ℕ) (scene : Scene) → weigh (effect.SendChannel channel event) ≤ channel_cost event channel scene + 1
  pub send_context : (event : Value) (slot : ℕ) → weigh (effect.SendTo slot event) ≤ cost_of event + 1
  pub spawn_here : (action : ℕ) (arguments globals : List Value) → weigh (effect.Spawn action (taken_along arguments globals)) ≤ sum_by cost_of arguments + sum_by cost_of globals + 1
  pub spawn_there : (action : ℕ) (arguments : List Value) (slot : ℕ) (globals : List Value) → weigh (effect.SpawnTo action (taken_along arguments globals) slot) ≤ sum_by cost_of arguments + sum_by cost_of globals + 1
  pub subscribe : (channel : Value) (scene : Scene) → weigh (effect.Subscribe (letters_of channel)) ≤ 2 * scene.slots + 1
  pub unsubscribe : (channel : Value) → weigh (effect.Unsubscribe (letters_of channel)) ≤ 1
  pub make : (name : Value) (public : Bool) (scene : Scene) → weigh (effect.MakeContext (letters_of name) public) ≤ context_cost public scene
  pub listen : (site : ℕ) (t : Term) (operands captured : List Value) (scene : Scene) → weigh (effect.Listen site operands captured) ≤ listen_cost t scene
  pub quit : (birth : ℕ) → weigh (effect.Quit birth) ≡ 0

-- ---- what a value costs

-- a value costs at least 1, whatever its parts cost
step_costs : (d : Value-F ℕ ℕ) → 1 ≤ cost_step d
step_costs (layer.Integer n) = omega arith
step_costs (layer.Boolean b) = omega arith
step_costs (layer.Text bytes) = omega arith
step_costs (layer.Sequence costs) = omega arith
step_costs (layer.Dictionary costs) = omega arith
step_costs (layer.Event n costs) = omega arith
step_costs (layer.Context slot) = omega arith
step_costs layer.NoContext = omega arith
step_costs (layer.Listener birth) = omega arith

-- each value costs at least 1
pub value_costs : (v : Value) → 1 ≤ cost_of v
value_costs v = subst (λ n. 1 ≤ n) (sym (fold_out-Value ℕ ℕ cost_step pair_step v)) (step_costs (map-Value Value Pair ℕ ℕ cost_of pair_cost (out-Value v)))

-- ---- what is routed

-- whether an effect routes an event
abbrev pub routes : Effect → ℕ
routes (effect.Route event) = 1
routes e = 0

-- an event that is routed weighs 1, and all else nothing
pub routes_weigh : Weighs routes
routes_weigh = record {
  print = λ text. omega arith;
  log = λ level text. omega arith;
  route = λ event. let h = value_costs event in omega (arith, h);
  send_channel = λ event channel scene. omega arith;
  send_context = λ event slot. omega arith;
  spawn_here = λ action arguments globals. omega arith;
  spawn_there = λ action arguments slot globals. omega arith;
  subscribe = λ channel scene. omega arith;
  unsubscribe = λ channel. omega arith;
  make = λ name public scene. omega arith;
  listen = λ site t operands captured scene. omega arith;
  quit = λ birth. refl;
}
