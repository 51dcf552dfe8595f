use Rattle.std.proofs.Common.{◌≡◌, drop}
use Rattle.value_steps.specs.Orderly.{IsOrderly}
use Rattle.value_steps.specs.Parts.{followed}
use Rattle.value_steps.proofs.parts.follow.Given as goal

abbrev pub invariant-loop-to : goal.invariant-loop-to
invariant-loop-to l = record {
  order : IsOrderly l.place;
  rest : followed (drop l.to-index l.moves) l.place ≡ followed l.moves l.fn.value;
}
