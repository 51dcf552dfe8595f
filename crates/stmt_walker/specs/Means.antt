-- What statements mean where so many more calls may nest.
use Rattle.std.specs.Prelude.{ℕ}
use Rattle.typed_program.specs.declared.program.Program.{Program}
use Rattle.typed_program.specs.declared.statement.Stmt.{Stmt}
use Rattle.body_meaning.specs.declared.run.Flow.{Flow}
use Rattle.body_meaning.specs.Acts.{enter}
use Rattle.body_meaning.specs.Runs.{M}
use Rattle.body_meaning.specs.Statements.{stmt_of}

abbrev pub stmt_by : Program → ℕ → Stmt → M Flow
stmt_by program depth = stmt_of program.types program.sites (enter program depth)
