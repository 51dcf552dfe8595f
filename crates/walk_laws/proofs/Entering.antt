-- Calls of actions, and statements over locals of their own, told of the globals alone where they stop.
use Rattle.std.proofs.Common.{◌≡◌, ℕ, ◌-◌, ◌<◌, List, ◌++◌, Option, Some, None, Ok, Err, refl, ap}
use Rattle.std.specs.Prelude.{slice_get}
use Rattle.epl_values.specs.declared.shape.Shape.{Shape}
use Rattle.epl_values.specs.declared.value.Value.{Value}
use Rattle.epl_values.specs.declared.value.Value.TheVariants as value
use Rattle.typed_program.specs.declared.program.Action.{Action}
use Rattle.typed_program.specs.declared.program.Program.{Program}
use Rattle.typed_program.specs.declared.statement.Stmt.{Stmt}
use Rattle.action_host.specs.declared.host.Fault.TheVariants as fault
use Rattle.action_host.specs.Told.{Told}
use Rattle.body_meaning.specs.declared.run.Flow.{Flow}
use Rattle.body_meaning.specs.declared.run.Frame.{Frame}
use Rattle.body_meaning.specs.declared.run.Halt.TheVariants.{Failed}
use Rattle.body_meaning.specs.Runs.{charge}
use Rattle.body_meaning.specs.Expressions.{Calls}
use Rattle.body_meaning.specs.Statements.{body_of}
use Rattle.body_meaning.specs.Acts.{defaults_of, returned, runs, enter, action_run, or_none}
use Rattle.walk_rules.specs.declared.stop.Stop.{Stop}
use Rattle.walk_rules.specs.declared.stop.Stop.TheVariants.{Halted}
use Rattle.walk_rules.specs.Ran.{Walks}
use Rattle.walk_rules.proofs.Calling.{over_locals, enter-none, enter-deeper}
use Rattle.path_bases.specs.Tells.{Tells}
use Rattle.walk_laws.proofs.Telling.{tells_walks, tells_as, tells_bind_err, tells_seq, tells_seq_err, tells_then_pure, tells_pure, tells_given_err, tells_in_locals, tells_in_locals_err}

module _ (program : Program) (call : Calls) (shapes : List Shape) (body : List Stmt) (arguments : List Value) {t t1 : Told} {f g : Frame} where
  -- statements over arguments and the defaults of further locals
  pub tells_runs : {flow : Flow} → Tells (body_of program.types program.sites call body) t (over_locals (arguments ++ defaults_of program shapes) f) t1 g (Ok flow) → Tells (runs program call shapes body arguments) t f t1 (over_locals f.locals g) (Ok (returned flow))
  unfolding runs
  tells_runs a = tells_in_locals program (arguments ++ defaults_of program shapes) a

  -- where the statements stop
  pub tells_runs_err : {stop : Stop} → Tells (body_of program.types program.sites call body) t (over_locals (arguments ++ defaults_of program shapes) f) t1 g (Err stop) → Tells (runs program call shapes body arguments) t f t1 (over_locals f.locals g) (Err stop)
  unfolding runs
  tells_runs_err a = tells_in_locals_err program (arguments ++ defaults_of program shapes) a

-- where no more calls may nest
pub tells_too_deep : (program : Program) (depth n : ℕ) (arguments : List Value) (t : Told) (f : Frame) → depth ≡ 0 → Tells (enter program depth n arguments) t f t f (Err (Halted (Failed fault.CallDepth)))
tells_too_deep program depth n arguments t f none = tells_as (enter-none program depth n arguments none) (tells_given_err t f refl)

module _ (program : Program) (depth n : ℕ) (arguments : List Value) (deep : 0 < depth) where
  -- a call is charged
  pub tells_enter_unpaid : {stop : Stop} {t t1 : Told} {f f1 : Frame} → Walks (charge 1) t f t1 f1 (Err stop) → Tells (enter program depth n arguments) t f t1 f1 (Err stop)
  tells_enter_unpaid unpaid = tells_as (enter-deeper program depth n arguments deep) (tells_bind_err _ (tells_seq_err _ (tells_walks unpaid)))

  -- an action that isn't there does nothing
  pub tells_enter_none : {t t1 : Told} {f : Frame} → slice_get program.actions n ≡ None → Walks (charge 1) t f t1 f (Ok tt) → Tells (enter program depth n arguments) t f t1 f (Ok value.NoContext)
  tells_enter_none {t1 = t1} {f} none paid = tells_as (enter-deeper program depth n arguments deep) (tells_then_pure or_none {x = None} (tells_seq (tells_walks paid) (tells_as (ap (λ o. action_run program (enter program (depth - 1)) o arguments) none) (tells_pure None t1 f))))

  module _ (action : Action) (found : slice_get program.actions n ≡ Some action) {t t1 t2 : Told} {f f2 : Frame} (paid : Walks (charge 1) t f t1 f (Ok tt)) where
    -- an action, with one level less below it
    pub tells_enter : {v : Option Value} → Tells (runs program (enter program (depth - 1)) action.locals action.body arguments) t1 f t2 f2 (Ok v) → Tells (enter program depth n arguments) t f t2 f2 (Ok (or_none v))
    tells_enter {v} a = tells_as (enter-deeper program depth n arguments deep) (tells_then_pure or_none {x = v} (tells_seq (tells_walks paid) (tells_as (ap (λ o. action_run program (enter program (depth - 1)) o arguments) found) a)))

    -- an action that stops
    pub tells_enter_err : {stop : Stop} → Tells (runs program (enter program (depth - 1)) action.locals action.body arguments) t1 f t2 f2 (Err stop) → Tells (enter program depth n arguments) t f t2 f2 (Err stop)
    tells_enter_err a = tells_as (enter-deeper program depth n arguments deep) (tells_bind_err _ (tells_seq (tells_walks paid) (tells_as (ap (λ o. action_run program (enter program (depth - 1)) o arguments) found) a)))
