-- What the parts of a body mean where so many more calls may nest.
use Rattle.std.specs.Prelude.{ℕ, List, Result, Ok, Err, map}
use Rattle.epl_values.specs.declared.value.Value.{Value}
use Rattle.typed_program.specs.declared.expression.TypedExpr.{TypedExpr}
use Rattle.typed_program.specs.declared.expression.TypedEntry.{TypedEntry}
use Rattle.typed_program.specs.declared.expression.TypedLink.{TypedLink}
use Rattle.typed_program.specs.declared.expression.TypedSuffix.{TypedSuffix}
use Rattle.epl_tree.specs.declared.expression.Comparison.{Comparison}
use Rattle.typed_program.specs.declared.expression.Method.{Method}
use Rattle.typed_program.specs.declared.program.Program.{Program}
use Rattle.body_meaning.specs.declared.run.Move.{Move}
use Rattle.body_meaning.specs.Acts.{enter}
use Rattle.body_meaning.specs.Expressions.{Linking, Pairing, Reach, item_move, key_move, value_of, reach_of}
use Rattle.body_meaning.specs.Runs.{M, ◌>>=◌, pure, given, all}
use Rattle.body_meaning.specs.Values.{compared}
use Rattle.body_meaning.specs.Paths.{part}
use Rattle.body_meaning.specs.Methods.{called}
use Rattle.walk_rules.specs.declared.stop.Stop.{Stop}
use Rattle.walk_rules.specs.Parts.{link_of, entry_of}
use Rattle.path_bases.specs.declared.locals.Got.{Got}
use Rattle.path_bases.specs.Locals.{got_value, values_in}

module _ (program : Program) (depth : ℕ) where
  abbrev pub value_by : TypedExpr → M Value
  value_by = value_of program.types (enter program depth)

  abbrev pub reach_by : TypedSuffix → Reach
  reach_by = reach_of program.types (enter program depth)

  abbrev pub link_by : TypedLink → Linking
  link_by = link_of program.types (enter program depth)

  abbrev pub entry_by : TypedEntry → Pairing
  entry_by = entry_of program.types (enter program depth)

  -- an operand, and how the value before it compares with it
  abbrev pub compared_by : Comparison → Value → TypedExpr → M Value
  compared_by comparison v e = value_by e >>= (λ w. pure (compared comparison v w))

  -- an index, as a step
  abbrev pub item_by : TypedExpr → M Move
  item_by e = value_by e >>= (λ i. pure (item_move i))

  -- a key, as a step
  abbrev pub key_by : TypedExpr → M Move
  key_by e = value_by e >>= (λ i. pure (key_move i))

  -- an element of a value, behind its index
  abbrev pub element_by : Value → TypedExpr → M Value
  element_by v e = value_by e >>= (λ i. given (part (item_move i) v))

  -- what a value has at a key, behind that key
  abbrev pub found_by : Value → TypedExpr → M Value
  found_by v e = value_by e >>= (λ i. given (part (key_move i) v))

  -- a method of a value, behind its arguments
  abbrev pub called_by : Method → Value → List TypedExpr → M Value
  called_by method v es = all (map value_by es) >>= (λ vs. called program.types method v vs)

-- what is lent, as its value
abbrev pub lent_value : Result Got Stop → Result Value Stop
lent_value (Ok got) = Ok (got_value got)
lent_value (Err stop) = Err stop

-- what is lent, as values
abbrev pub lent_values : Result (List Got) Stop → Result (List Value) Stop
lent_values (Ok gots) = Ok (values_in gots)
lent_values (Err stop) = Err stop
