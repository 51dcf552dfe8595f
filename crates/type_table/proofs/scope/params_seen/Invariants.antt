use Rattle.std.proofs.Common.{◌≡◌, ◌++◌, drop}
use Rattle.type_table.specs.Scopes.{params_from}
use Rattle.type_table.proofs.scope.params_seen.Given as goal

abbrev pub invariant-params : goal.invariant-params
invariant-params l = l.names ++ params_from l.number (drop l.number l.params) ≡ l.fn.names ++ params_from 0 l.params
