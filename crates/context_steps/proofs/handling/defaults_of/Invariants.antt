use Rattle.std.proofs.Common.{◌≡◌, map, take}
use Rattle.value_rules.specs.Defaults.{default_of}
use Rattle.typed_program.specs.declared.program.Global.{Global}
use Rattle.context_steps.proofs.handling.defaults_of.Given as goal

abbrev pub invariant-loop-global : goal.invariant-loop-global
invariant-loop-global l = l.values ≡ map (λ (g : Global). default_of l.types g.shape) (take l.global-index l.globals)
