use Rattle.std.proofs.Common.{◌≡◌, drop}
use Rattle.built_forms.specs.Rows.{behind}
use Rattle.built_forms.specs.Statements.{missing_in_body}
use Rattle.built_forms.proofs.statements.+statements.Given as goal

abbrev pub invariant-next_body-stmts : goal.invariant-next_body-stmts
invariant-next_body-stmts l = behind l.found (missing_in_body (drop l.stmt-index l.stmts)) ≡ behind l.fn.before (missing_in_body l.stmts)
