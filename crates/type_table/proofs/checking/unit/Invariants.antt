use Rattle.std.proofs.Common.{◌≡◌, drop}
use Rattle.type_table.specs.Kinds.{trees}
use Rattle.type_table.specs.Gathers.{faults_from, gathered_after}
use Rattle.type_table.proofs.checking.unit.Given as goal

abbrev pub invariant-declarations : goal.invariant-declarations
invariant-declarations l = let kinds = trees l.facts.kinds.now.decls.items in record {
  faults : faults_from kinds l.file l.gathered (drop l.next-index l.declarations) ≡ faults_from kinds l.file l.fn.before l.declarations;
  after : gathered_after kinds l.file l.gathered (drop l.next-index l.declarations) ≡ gathered_after kinds l.file l.fn.before l.declarations;
}
