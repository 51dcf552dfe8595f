use Rattle.std.proofs.Common.{◌≡◌, ◌++◌, drop}
use Rattle.std.specs.List.{flat_map}
use Rattle.record_book.specs.Report.{escaped}
use Rattle.run_face.proofs.reporting.push_text.Given as goal

abbrev pub invariant-bytes : goal.invariant-bytes
invariant-bytes l = l.out ++ flat_map escaped (drop l.byte-index l.text) ≡ l.fn.out ++ flat_map escaped l.text
