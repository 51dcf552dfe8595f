-- Answers that may also be want of memory.
use Rattle.std.specs.Prelude.{◌≡◌}
use Rattle.value_steps.specs.Common.{Result, Ok, Err, Fault}
use Rattle.value_steps.specs.declared.trouble.Trouble.{Trouble}
use Rattle.value_steps.specs.declared.trouble.Trouble.TheVariants as trouble

-- the answer is this one, or memory is wanted
abbrev pub Gives : {A : Type 0} → Result A Trouble → Result A Fault → Type 0
Gives (Ok x) wanted = wanted ≡ Ok x
Gives (Err (trouble.Fault fault)) wanted = wanted ≡ Err fault
Gives (Err trouble.Memory) wanted = Unit {0}
