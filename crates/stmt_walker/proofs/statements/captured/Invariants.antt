use Rattle.std.proofs.Common.{◌≡◌, map, take}
use Rattle.path_bases.specs.Locals.{local_in}
use Rattle.stmt_walker.proofs.statements.captured.Given as goal

abbrev pub invariant-loop-name : goal.invariant-loop-name
invariant-loop-name l = l.values ≡ map (λ name. local_in l.locals name.number) (take l.name-index l.names)
