use Rattle.std.proofs.Common.{ℕ, ◌<◌, List, length}
use Rattle.std.specs.List.{AllByRecursion}
use Rattle.front_rows.proofs.programs.texts_of.Given as goal

abbrev pub invariant-files : goal.invariant-files
invariant-files l = AllByRecursion (λ (text : List ℕ). length text < 4294967295) l.texts
