-- The part of a value at the end of a path.
use Rattle.std.specs.Prelude.{◌∷◌}
use Rattle.value_steps.specs.Common.{List, [], Result, Ok, Err, Value, Fault, Move, then_try}
use Rattle.body_meaning.specs.Paths.{part}

-- each step gives the part that the next one is of
abbrev pub followed : List Move → Value → Result Value Fault
followed [] v = Ok v
followed (m ∷ ms) v = then_try (part m v) (followed ms)
