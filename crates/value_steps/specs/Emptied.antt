-- An entry of which both parts are emptied of listeners.
use Rattle.value_steps.specs.Common.{Value, Pair}
use Rattle.epl_values.specs.declared.value.Pair.{fold-Pair}
use Rattle.body_meaning.specs.Effects.{emptied_pair, emptied_step}

-- each listener in an entry becomes the empty one
abbrev pub emptied_entry : Pair → Pair
emptied_entry = fold-Pair Value Pair emptied_step emptied_pair
