-- Operators with their operands, entries and steps, by their parts.
use Rattle.std.specs.Prelude.{ℕ, List, Some, None}
use Rattle.epl_values.specs.declared.shape.EventShape.{EventShape}
use Rattle.epl_values.specs.declared.value.Value.{Value}
use Rattle.typed_program.specs.declared.expression.Method.{Method}
use Rattle.typed_program.specs.declared.expression.TypedEntry.{TypedEntry, out-TypedEntry}
use Rattle.typed_program.specs.declared.expression.TypedLink.{TypedLink, out-TypedLink}
use Rattle.body_meaning.specs.declared.run.Move.TheVariants as move
use Rattle.body_meaning.specs.Runs.{M, ◌>>=◌, pure, given}
use Rattle.body_meaning.specs.Paths.{part}
use Rattle.body_meaning.specs.Methods.{called}
use Rattle.body_meaning.specs.Expressions.{Calls, Linking, Pairing, Reach, value_of, change_by}

-- an operator, and what its operand means
abbrev pub link_of : List EventShape → Calls → TypedLink → Linking
link_of types call l = record { operator = (out-TypedLink l).operator; operand = value_of types call (out-TypedLink l).operand }

-- what a key and its value mean
abbrev pub entry_of : List EventShape → Calls → TypedEntry → Pairing
entry_of types call e = record { key = value_of types call (out-TypedEntry e).key; value = value_of types call (out-TypedEntry e).value }

-- a field behind a value
abbrev pub field_reach : ℕ → Reach
field_reach n = record { from = λ v. given (part (move.Field n) v); move = Some (pure (move.Field n)); change = None }

-- a method behind a value, with these arguments
abbrev pub method_reach : List EventShape → Method → M (List Value) → Reach
method_reach types method arguments = record { from = λ v. arguments >>= (λ vs. called types method v vs); move = None; change = change_by method arguments }
