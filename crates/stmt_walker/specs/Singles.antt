-- Statements without parts that are statements, behind their charge.
use Rattle.std.specs.Prelude.{ℕ}
use Rattle.epl_values.specs.declared.value.Value.{Value}
use Rattle.epl_values.specs.declared.value.Value.TheVariants as value
use Rattle.typed_program.specs.declared.program.Program.{Program}
use Rattle.typed_program.specs.declared.statement.Stmt.{Stmt, Stmt-F, out-Stmt}
use Rattle.typed_program.specs.declared.statement.Stmt.TheOpen as stmt
use Rattle.value_rules.specs.Defaults.{default_of}
use Rattle.body_meaning.specs.declared.run.Flow.{Flow}
use Rattle.body_meaning.specs.declared.run.Flow.TheVariants.{Broke, Continued}
use Rattle.body_meaning.specs.declared.run.Halt.TheVariants.{Died}
use Rattle.body_meaning.specs.Acts.{enter}
use Rattle.body_meaning.specs.Effects.{print, log, route, send, subscribe, unsubscribe}
use Rattle.body_meaning.specs.Expressions.{meaning_of, value_of}
use Rattle.body_meaning.specs.Runs.{M, ◌>>=◌, pure, halt}
use Rattle.body_meaning.specs.Statements.{done, set, assign, place_moves, listener_of, returned, spawned, level_number}

module _ (program : Program) (depth : ℕ) where
  -- an effect with its operands; another statement gives no context
  abbrev pub effect_step : Stmt-F Stmt → M Value
  effect_step (stmt.Print text) = value_of program.types (enter program depth) text >>= print
  effect_step (stmt.Log text l) = value_of program.types (enter program depth) text >>= log (level_number l)
  effect_step (stmt.Route e) = value_of program.types (enter program depth) e >>= route
  effect_step (stmt.Send e to) = value_of program.types (enter program depth) e >>= (λ event. value_of program.types (enter program depth) to >>= send event)
  effect_step (stmt.Spawn n es to) = spawned program.types program.sites (enter program depth) n es to
  effect_step (stmt.Subscribe channel) = value_of program.types (enter program depth) channel >>= subscribe
  effect_step (stmt.Unsubscribe channel) = value_of program.types (enter program depth) channel >>= unsubscribe
  effect_step s = pure value.NoContext

  unfoldable pub effect_by : Stmt → M Value
  effect_by s = effect_step (out-Stmt s)

  -- any other of them; one that has such parts counts as one that does nothing
  abbrev pub single_step : Stmt → Stmt-F Stmt → M Flow
  single_step s (stmt.On site) = done (listener_of program.types program.sites (enter program depth) site)
  single_step s (stmt.Declare n shape) = set n (default_of program.types shape)
  single_step s (stmt.DeclareAs n e) = value_of program.types (enter program depth) e >>= set n
  single_step s (stmt.DeclareOn n site) = listener_of program.types program.sites (enter program depth) site >>= set n
  single_step s (stmt.Assign place e) = assign place (place_moves program.types program.sites (enter program depth) place) (value_of program.types (enter program depth) e)
  single_step s (stmt.AssignOn place site) = assign place (place_moves program.types program.sites (enter program depth) place) (listener_of program.types program.sites (enter program depth) site)
  single_step s stmt.Break = pure Broke
  single_step s stmt.Continue = pure Continued
  single_step s (stmt.Return e) = returned program.types program.sites (enter program depth) e
  single_step s stmt.Die = halt Died
  single_step s (stmt.Call e) = done (meaning_of program.types (enter program depth) e).run
  single_step s parts = done (effect_by s)

  unfoldable pub single_by : Stmt → M Flow
  single_by s = single_step s (out-Stmt s)
