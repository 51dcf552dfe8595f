use Rattle.std.proofs.Common.{◌≡◌, ℕ, ◌<◌, ◌≤◌, List, length, map, take}
use Rattle.std.specs.List.{AllByRecursion}
use Rattle.outside.specs.Told.{files_of}
use Rattle.correlator_run.specs.Inputs.{AreRead, wanted_program}
use Rattle.correlator_run.proofs.load.texts_of.Given as goal

abbrev pub invariant-names : goal.invariant-names
invariant-names g l = record {
  texts : AreRead (files_of (g.H.Source.told l.fn.shelf)) (map wanted_program (take l.name-index l.names)) l.texts;
  short : AllByRecursion (λ (text : List ℕ). length text < 4294967295) l.texts;
  count : length l.texts ≤ l.name-index;
  files : files_of (g.H.Source.told l.shelf) ≡ files_of (g.H.Source.told l.fn.shelf);
  faults : g.H.Source.faults l.shelf ≡ g.H.Source.faults l.fn.shelf;
  missed : g.H.Source.missed l.shelf ≡ g.H.Source.missed l.fn.shelf;
}
