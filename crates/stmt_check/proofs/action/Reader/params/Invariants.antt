use Rattle.std.proofs.Common.{◌≡◌, drop, take, map, []}
use Rattle.stmt_check.specs.Actions.{param_read}
use Rattle.stmt_check.specs.Steps.{each}
use Rattle.stmt_check.proofs.Going.{front}
use Rattle.stmt_check.proofs.action.Reader.params.Given as goal

abbrev pub invariant-params : goal.invariant-params
invariant-params l = front l.shapes (each (map (param_read l.self.table.now l.self.members.now) (drop l.at l.params)) (take l.at l.params)) ≡ each (map (param_read l.self.table.now l.self.members.now) l.params) []
