use Rattle.std.proofs.Common.{◌≡◌, drop}
use Rattle.outside.specs.Stored.{file_in}
use Rattle.outside.proofs.store.place_of.Given as goal

-- the rest of the files gives the answer
abbrev pub invariant-files : goal.invariant-files
invariant-files l = record {
  place : l.place ≡ l.file-index;
  rest : file_in (drop l.file-index l.files) l.name ≡ file_in l.files l.name;
}
