use Rattle.std.proofs.Common.{◌≡◌, ◌++◌, drop}
use Rattle.record_book.specs.Report.{reports_from}
use Rattle.run_face.proofs.reporting.report.Given as goal

abbrev pub invariant-slots : goal.invariant-slots
invariant-slots l = l.out ++ reports_from l.program l.slot (drop l.slot l.kept.contexts) ≡ reports_from l.program 0 l.kept.contexts
