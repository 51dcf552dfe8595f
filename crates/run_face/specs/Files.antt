-- What words name, put together.
use Rattle.std.specs.Prelude.{ℕ, List}
use Rattle.run_face.specs.Words.{Named}

-- this event file, these program files and this fuel
abbrev pub named_of : List ℕ → List (List ℕ) → ℕ → Named
named_of events programs fuel = record { events = events; programs = programs; fuel = fuel }
