use Rattle.std.proofs.Common.{◌≡◌, length, map}
use Rattle.std.specs.Prelude.{string_bytes}
use Rattle.run_words.specs.Words.{cut, flag_of, values_of}
use Rattle.run_words.specs.Steps.{flag_behind}
use Rattle.run_words.proofs.options.flag_of.Given as goal

abbrev pub invariant-options : goal.invariant-options
invariant-options l = flag_behind l.found (values_of l.name (cut (map string_bytes l.options.rest.now)).given) ≡ flag_of (values_of l.name (cut (map string_bytes l.words)).given)

abbrev pub decreases-options : goal.decreases-options
decreases-options l = length (map string_bytes l.options.rest.now)
