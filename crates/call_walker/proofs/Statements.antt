-- Statements over the locals of their body.
use Rattle.std.proofs.Common.{◌≡◌, ℕ, List, ◌++◌, map, Result, Ok, Err, sym, ap, subst}
use Rattle.epl_values.specs.declared.shape.Shape.{Shape}
use Rattle.epl_values.specs.declared.value.Value.{Value}
use Rattle.typed_program.specs.declared.program.Program.{Program}
use Rattle.typed_program.specs.declared.statement.Stmt.{Stmt}
use Rattle.value_rules.specs.Defaults.{default_of}
use Rattle.action_host.specs.Told.{Told}
use Rattle.body_meaning.specs.declared.run.Flow.{Flow}
use Rattle.body_meaning.specs.declared.run.Frame.{Frame}
use Rattle.body_meaning.specs.Statements.{row}
use Rattle.body_meaning.specs.Acts.{enter, returned, runs}
use Rattle.walk_rules.specs.declared.stop.Stop.{Stop}
use Rattle.path_bases.specs.declared.locals.Got.{Got}
use Rattle.path_bases.specs.Locals.{values_in, frame_of}
use Rattle.path_bases.specs.Tells.{Tells}
use Rattle.walk_laws.proofs.Telling.{tells_as}
use Rattle.walk_laws.proofs.Entering.{tells_runs, tells_runs_err}
use Rattle.stmt_walker.specs.Means.{stmt_by}

-- variables by their values
abbrev pub frame_by : List Value → List Value → Frame
frame_by globals locals = record { globals = globals; locals = locals }

module _ (program : Program) (depth : ℕ) (shapes : List Shape) (stmts seen : List Stmt) (arguments : List Value) (gots later : List Got) (globals globals' outer : List Value) {t t1 : Told} (same : seen ≡ stmts) (values : values_in gots ≡ arguments ++ map (default_of program.types) shapes) where
  over_seen : {r : Result Flow Stop} → Tells (row (map (stmt_by program depth) seen)) t (frame_of globals gots) t1 (frame_of globals' later) r → Tells (row (map (stmt_by program depth) stmts)) t (frame_by globals (arguments ++ map (default_of program.types) shapes)) t1 (frame_of globals' later) r
  over_seen {r} a = subst (λ l. Tells (row (map (stmt_by program depth) stmts)) t (frame_by globals l) t1 (frame_of globals' later) r) values (tells_as (ap (λ l. row (map (stmt_by program depth) l)) (sym same)) a)

  -- statements that went on
  pub over_told : {flow : Flow} → Tells (row (map (stmt_by program depth) seen)) t (frame_of globals gots) t1 (frame_of globals' later) (Ok flow) → Tells (runs program (enter program depth) shapes stmts arguments) t (frame_by globals outer) t1 (frame_by globals' outer) (Ok (returned flow))
  over_told a = tells_runs program (enter program depth) shapes stmts arguments {f = frame_by globals outer} {g = frame_of globals' later} (over_seen a)

  -- statements that stopped
  pub over_stopped : {stop : Stop} → Tells (row (map (stmt_by program depth) seen)) t (frame_of globals gots) t1 (frame_of globals' later) (Err stop) → Tells (runs program (enter program depth) shapes stmts arguments) t (frame_by globals outer) t1 (frame_by globals' outer) (Err stop)
  over_stopped a = tells_runs_err program (enter program depth) shapes stmts arguments {f = frame_by globals outer} {g = frame_of globals' later} (over_seen a)
