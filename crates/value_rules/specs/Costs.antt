-- What a value costs.
use Rattle.value_rules.specs.Common.{ℕ, length, Value, Value-F, fold-Value, Pair, Pair-F, fold-Pair}
use Rattle.std.specs.Prelude.{◌+◌, ◌/◌, sum}
use Rattle.epl_values.specs.declared.value.Value.TheOpen as layer

-- a value costs 1, 1 more for each full 64 bytes of a text, and what its parts cost
abbrev pub cost_step : Value-F ℕ ℕ → ℕ
cost_step (layer.Integer n) = 1
cost_step (layer.Boolean b) = 1
cost_step (layer.Text bytes) = 1 + length bytes / 64
cost_step (layer.Sequence costs) = 1 + sum costs
cost_step (layer.Dictionary costs) = 1 + sum costs
cost_step (layer.Event n costs) = 1 + sum costs
cost_step (layer.Context slot) = 1
cost_step layer.NoContext = 1
cost_step (layer.Listener birth) = 1

-- a pair costs what its key and its value cost
abbrev pub pair_step : Pair-F ℕ ℕ → ℕ
pair_step pair = pair.key + pair.value

-- the cost of a value
abbrev pub cost_of : Value → ℕ
cost_of = fold-Value ℕ ℕ cost_step pair_step

-- the cost of a pair
abbrev pub pair_cost : Pair → ℕ
pair_cost = fold-Pair ℕ ℕ cost_step pair_step
