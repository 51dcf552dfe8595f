-- Values whose dictionaries are in order.
use Rattle.value_steps.specs.Common.{List, Value, Pair, Move}
use Rattle.std.specs.List.{AllByRecursion}
use Rattle.epl_values.specs.declared.value.Value.{Value-F, every-Value}
use Rattle.epl_values.specs.declared.value.Value.TheOpen as layer
use Rattle.epl_values.specs.declared.value.Pair.{Pair-F}
use Rattle.epl_values.specs.Order.{KeysAscend}
use Rattle.body_meaning.specs.declared.run.Move.TheVariants as move

-- a dictionary's keys ascend; of others nothing is asked
abbrev pub KeysInOrder : Value-F Value Pair → Type 0
KeysInOrder (layer.Dictionary pairs) = KeysAscend pairs
KeysInOrder v = Unit {0}

abbrev pub NothingAsked : Pair-F Value Pair → Type 0
NothingAsked pair = Unit {0}

-- the keys of each dictionary in a value ascend
unfoldable pub IsOrderly : Value → Type 0
IsOrderly = every-Value KeysInOrder NothingAsked

-- the same of each of several values
abbrev pub AreOrderly : List Value → Type 0
AreOrderly = AllByRecursion IsOrderly

-- the same of both parts of each entry, and their keys ascend
abbrev pub IsOrderlyPair : Pair → Type 0
IsOrderlyPair pair = IsOrderly pair.key × IsOrderly pair.value

abbrev pub AreOrderlyPairs : List Pair → Type 0
AreOrderlyPairs = AllByRecursion IsOrderlyPair

-- the key of a step of a path is in order
abbrev pub IsOrderlyMove : Move → Type 0
IsOrderlyMove (move.Key key) = IsOrderly key
IsOrderlyMove m = Unit {0}

abbrev pub AreOrderlyMoves : List Move → Type 0
AreOrderlyMoves = AllByRecursion IsOrderlyMove
