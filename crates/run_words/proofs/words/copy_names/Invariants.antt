use Rattle.std.proofs.Common.{◌≡◌, ◌++◌, map, drop}
use Rattle.std.specs.Prelude.{string_bytes}
use Rattle.run_words.proofs.words.copy_names.Given as goal

abbrev pub invariant-names : goal.invariant-names
invariant-names l = l.texts ++ map string_bytes (drop l.name-index l.names) ≡ map string_bytes l.names
