-- Why a step on values stops a run.
use Rattle.std.specs.Prelude.{Result, Ok, Err}
use Rattle.body_meaning.specs.declared.run.Halt.TheVariants.{Failed}
use Rattle.value_steps.specs.declared.trouble.Trouble.{Trouble}
use Rattle.value_steps.specs.declared.trouble.Trouble.TheVariants as trouble
use Rattle.walk_rules.specs.declared.stop.Stop.{Stop}
use Rattle.walk_rules.specs.declared.stop.Stop.TheVariants.{Halted, Memory}

-- a fault ends the body
abbrev pub stop_by : Trouble → Stop
stop_by (trouble.Fault fault) = Halted (Failed fault)
stop_by trouble.Memory = Memory

-- the answer of such a step, for a run
abbrev pub stopped : {A : Type 0} → Result A Trouble → Result A Stop
stopped (Ok x) = Ok x
stopped (Err trouble) = Err (stop_by trouble)
