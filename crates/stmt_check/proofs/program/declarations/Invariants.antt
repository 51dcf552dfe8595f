use Rattle.std.proofs.Common.{◌≡◌, drop}
use Rattle.stmt_check.specs.Programs.{declarations_read}
use Rattle.stmt_check.proofs.program.declarations.Given as goal

abbrev pub invariant-declared : goal.invariant-declared
invariant-declared l = declarations_read l.table (drop l.one-index l.declared) l.made ≡ declarations_read l.table l.declared l.fn.made
