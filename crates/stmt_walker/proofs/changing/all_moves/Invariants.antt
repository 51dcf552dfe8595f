use Rattle.std.proofs.Common.{◌≡◌, drop}
use Rattle.std.specs.List.{list_all}
use Rattle.stmt_walker.specs.Steps.{is_move}
use Rattle.stmt_walker.proofs.changing.all_moves.Given as goal

abbrev pub invariant-loop-step : goal.invariant-loop-step
invariant-loop-step l = list_all is_move (drop l.step-index l.steps) ≡ list_all is_move l.steps
