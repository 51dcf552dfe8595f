-- Effects of bodies, runs of bodies in an instance, and how an instance ends.
use Rattle.std.specs.Prelude.{◌∷◌, if◌then◌else◌}
use Rattle.context_meaning.specs.Common.{ℕ, List, [], Bool, true, false, slice_get, Value, Program, Instance}
use Rattle.action_host.specs.declared.host.Effect.{Effect}
use Rattle.action_host.specs.declared.host.Effect.TheVariants as effect
use Rattle.action_host.specs.declared.host.Fault.{Fault}
use Rattle.action_host.specs.declared.host.End.{End}
use Rattle.action_host.specs.declared.host.End.TheVariants as end
use Rattle.body_meaning.specs.Acts.{Act, act_of}
use Rattle.term_meaning.specs.UnderWay.{begun_in, setting_of}
use Rattle.record_book.specs.declared.cargo.Line.TheVariants as line
use Rattle.context_meaning.specs.declared.context.Waiting.TheVariants as waiting
use Rattle.context_meaning.specs.Contexts.{Context, scene_of, with_some, spend, with_fuel, unless_spent, instance_of, without_instance, with_globals, is_busy, with_listener, without_listeners, without_birth, with_line, in_row}

module _ (program : Program) where
  -- ---- effects

  -- a listener begins, over the operands as they were at the `on`
  abbrev pub listening : ℕ → ℕ → List Value → List Value → Context → Context
  listening instance site operands captured c = with_some (slice_get program.sites site) (λ s d. with_listener instance site captured (begun_in (setting_of program.types s operands d.clock)) d) c

  -- In `ondie` no listener is made. Effects of forms that aren't built yet change nothing.
  abbrev pub apply : ℕ → Bool → Effect → Context → Context
  apply instance ending (effect.Print text) c = with_line (line.Print text) c
  apply instance ending (effect.Log level text) c = with_line (line.Log level text) c
  apply instance ending (effect.Listen site operands captured) c = if ending then c else listening instance site operands captured c
  apply instance ending (effect.Quit birth) c = without_birth birth c
  apply instance ending (effect.Route event) c = in_row (waiting.Event event) c
  apply instance ending other c = c

  abbrev pub apply_all : ℕ → Bool → List Effect → Context → Context
  apply_all instance ending [] c = c
  apply_all instance ending (e ∷ es) c = apply_all instance ending es (apply instance ending e c)

  -- ---- runs

  -- what a run of an instance comes to: its globals, its fuel, and its effects in order
  abbrev pub with_act : ℕ → Bool → Act → Context → Context
  with_act instance ending act c = apply_all instance ending act.effects (with_globals instance act.globals (with_fuel act.scene.fuel c))

  -- and then what comes behind its end
  abbrev pub come : (Instance → End → Context → Context) → Bool → Instance → Act → Context → Context
  come behind ending i act c = behind i act.end (with_act i.number ending act c)

  -- what a body comes to in an instance, over the globals of the instance
  abbrev pub act_in : Bool → ℕ → List Value → Instance → Context → Act
  act_in ending body locals i c = act_of program body i.globals locals (scene_of ending c) []

  -- a run of a body in the instance with this number, where it is there
  abbrev pub run_in : (Instance → End → Context → Context) → Bool → ℕ → List Value → ℕ → Context → Context
  run_in behind ending body locals number c = with_some (instance_of number c) (λ i d. come behind ending i (act_in ending body locals i d) d) c

  -- the line of a fault
  abbrev pub fault_line : Instance → Fault → Context → Context
  fault_line i fault c = with_line (line.Fault i.monitor fault) c

  -- ---- how an instance ends

  -- how a run of `ondie` ends: a fault prints its line
  abbrev pub last_run : Instance → End → Context → Context
  last_run i (end.Done v) c = c
  last_run i end.Died c = c
  last_run i (end.Failed fault) c = fault_line i fault c
  last_run i end.Spent c = spend c

  -- the `ondie` of an instance runs, where its monitor has one
  abbrev pub dying : Instance → Context → Context
  dying i c = with_some (slice_get program.monitors i.monitor) (λ m d. with_some m.ondie (λ body. run_in last_run true body [] i.number) d) c

  -- an instance ends: its listeners end, its `ondie` runs, and it is gone
  abbrev pub ended : Instance → Context → Context
  ended i c = unless_spent (without_instance i.number) (dying i (without_listeners i.number c))

  -- an instance without a live listener ends
  abbrev pub idle : Instance → Context → Context
  idle i c = if is_busy i.number c then c else ended i c

  -- the same of the instance with this number, where it is there
  abbrev pub idle_in : ℕ → Context → Context
  idle_in number c = with_some (instance_of number c) idle c

  -- how a run ends
  abbrev pub finished : Instance → End → Context → Context
  finished i (end.Done v) c = idle i c
  finished i end.Died c = ended i c
  finished i (end.Failed fault) c = ended i (fault_line i fault c)
  finished i end.Spent c = spend c

  -- a run of a body in the instance with this number, and how it ends
  abbrev pub ran : ℕ → ℕ → List Value → Context → Context
  ran number body locals c = run_in finished false body locals number c
