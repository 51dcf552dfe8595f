use Rattle.std.proofs.Common.{◌≡◌, ◌++◌, drop}
use Rattle.std.specs.List.{flat_map}
use Rattle.record_book.specs.Report.{line_text}
use Rattle.run_face.proofs.reporting.push_lines.Given as goal

abbrev pub invariant-lines : goal.invariant-lines
invariant-lines l = l.out ++ flat_map (line_text l.program l.slot) (drop l.line-index l.lines) ≡ l.fn.out ++ flat_map (line_text l.program l.slot) l.lines
