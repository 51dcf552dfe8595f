-- What a run of a body does: an action or a callback, with the actions that it calls.
use Rattle.std.specs.Prelude.{◌-◌, ◌==◌, if◌then◌else◌, ◌∷◌, ◌++◌}
use Rattle.body_meaning.specs.Common.{ℕ, zero, suc, nat_lt, Bool, true, false, List, [], length, map, Option, Some, None, slice_get, Result, Ok, Err, Shape, Value, TypedExpr, Site, Stmt, default_of, Fault, Effect, Scene}
use Rattle.epl_values.specs.declared.value.Value.TheVariants as value
use Rattle.typed_program.specs.declared.program.Program.{Program}
use Rattle.typed_program.specs.declared.program.Monitor.{Monitor}
use Rattle.typed_program.specs.declared.program.Global.{Global}
use Rattle.typed_program.specs.declared.program.Action.{Action}
use Rattle.typed_program.specs.declared.statement.Variable.TheVariants as variable
use Rattle.action_host.specs.declared.host.Fault.TheVariants as fault
use Rattle.action_host.specs.declared.host.End.{End}
use Rattle.action_host.specs.declared.host.End.TheVariants as end
use Rattle.body_meaning.specs.declared.run.Flow.{Flow}
use Rattle.body_meaning.specs.declared.run.Flow.TheVariants.{Next, Broke, Continued, Returned}
use Rattle.body_meaning.specs.declared.run.Frame.{Frame}
use Rattle.body_meaning.specs.declared.run.Halt.{Halt}
use Rattle.body_meaning.specs.declared.run.Halt.TheVariants as halt
use Rattle.body_meaning.specs.Runs.{State, Outcome, Went, Ended, M, ◌>>=◌, ◌>>◌, pure, charge, given, look, change}
use Rattle.body_meaning.specs.Paths.{with_variable}
use Rattle.body_meaning.specs.Expressions.{Calls, value_of}
use Rattle.body_meaning.specs.Statements.{body_of}

-- what a body returns
abbrev pub returned : Flow → Option Value
returned (Returned v) = v
returned Next = None
returned Broke = None
returned Continued = None

-- no value counts as no context
abbrev pub or_none : Option Value → Value
or_none None = value.NoContext
or_none (Some v) = v

abbrev pub with_locals : List Value → Frame → Result Frame Fault
with_locals locals frame = Ok (record frame { locals = locals })

abbrev pub set_global : ℕ → Value → Frame → Result Frame Fault
set_global n v frame = Ok (with_variable (variable.Global n) v frame)

module _ (program : Program) where
  abbrev pub defaults_of : List Shape → List Value
  defaults_of shapes = map (default_of program.types) shapes

  -- statements over locals of their own; the outer ones stand again behind them
  unfoldable pub in_locals : List Value → M Flow → M (Option Value)
  in_locals locals m = look (λ frame. frame.locals) >>= (λ outer. change (with_locals locals) >> m >>= (λ flow. change (with_locals outer) >> pure (returned flow)))

  -- statements with calls, over arguments and further locals
  unfoldable pub runs : Calls → List Shape → List Stmt → List Value → M (Option Value)
  runs call locals body arguments = in_locals (arguments ++ defaults_of locals) (body_of program.types program.sites call body)

  -- an action that isn't there does nothing
  abbrev pub action_run : Calls → Option Action → List Value → M (Option Value)
  action_run call None arguments = pure None
  action_run call (Some action) arguments = runs call action.locals action.body arguments

  abbrev pub site_run : Calls → Option Site → List Value → M (Option Value)
  site_run call None arguments = pure None
  site_run call (Some site) arguments = runs call site.locals site.body arguments

  -- a call, with as many more below it
  unfoldable pub enter : ℕ → Calls
  enter zero n arguments = given (Err fault.CallDepth)
  enter (suc depth) n arguments = charge 1 >> action_run (enter depth) (slice_get program.actions n) arguments >>= (λ v. pure (or_none v))

  -- calls nest at most 256 deep
  abbrev pub calls : Calls
  calls = enter 256

  -- ---- initial values

  abbrev pub initial_by : ℕ → Option TypedExpr → M (Unit {0})
  initial_by n None = pure tt
  initial_by n (Some e) = value_of program.types calls e >>= (λ v. change (set_global n v))

  abbrev pub initial : ℕ → Global → M (Unit {0})
  initial n g = initial_by n g.initial

  -- the initial values of globals whose numbers begin with this one
  abbrev pub initials_from : ℕ → List Global → M (Unit {0})
  initials_from n [] = pure tt
  initials_from n (g ∷ gs) = initial n g >> initials_from (suc n) gs

  -- the globals of the monitor whose `onload` this is
  abbrev pub begun_by : ℕ → List Monitor → List Global
  begun_by body [] = []
  begun_by body (m ∷ ms) = if m.onload == body then m.globals else begun_by body ms

  -- ---- runs

  -- a body by its number: the actions, and then the callbacks of the sites
  abbrev pub run_of : ℕ → List Value → M (Option Value)
  run_of body locals = if nat_lt body (length program.actions) then initials_from 0 (begun_by body program.monitors) >> action_run calls (slice_get program.actions body) locals else site_run calls (slice_get program.sites (body - length program.actions)) locals

  -- a run is charged; that of an `onload` begins with the initial values
  unfoldable pub act : ℕ → List Value → M (Option Value)
  act body locals = charge 1 >> run_of body locals

-- what a run comes to: the globals, the effects in order, the end, the scene, and the draws that are still to come
pub record Act : Type 0 where
  pub globals : List Value
  pub effects : List Effect
  pub end : End
  pub scene : Scene
  pub draws : List ℕ

abbrev pub end_by : Halt → End
end_by halt.Died = end.Died
end_by (halt.Failed f) = end.Failed f
end_by halt.Spent = end.Spent

abbrev pub come_to : Outcome (Option Value) → Act
come_to (Went did v s) = record { globals = s.frame.globals; effects = did.effects; end = end.Done v; scene = s.scene; draws = s.draws }
come_to (Ended did why s) = record { globals = s.frame.globals; effects = did.effects; end = end_by why; scene = s.scene; draws = s.draws }

-- the meaning of a body over these globals and locals, in a scene, with these draws still to come
abbrev pub act_of : Program → ℕ → List Value → List Value → Scene → List ℕ → Act
act_of program body globals locals scene draws = come_to (act program body locals (record { scene = scene; draws = draws; frame = record { globals = globals; locals = [] } }))
