use Rattle.std.proofs.Common.{take}
use Rattle.epl_syntax.specs.Trees.{AreOnlyTrees}
use Rattle.epl_syntax.proofs.files.units.Given as goal

abbrev pub invariant-files : goal.invariant-files
invariant-files l = AreOnlyTrees (take l.place l.texts) l.trees
