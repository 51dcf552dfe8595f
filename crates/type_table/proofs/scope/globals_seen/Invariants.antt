use Rattle.std.proofs.Common.{◌≡◌, [], drop}
use Rattle.type_table.specs.Scopes.{globals_after}
use Rattle.type_table.proofs.scope.globals_seen.Given as goal

abbrev pub invariant-globals : goal.invariant-globals
invariant-globals l = globals_after l.seens l.number (drop l.number l.globals) ≡ globals_after [] 0 l.globals
