use Rattle.std.proofs.Common.{◌≡◌, length, map}
use Rattle.std.specs.Option.{option_map}
use Rattle.std.specs.Prelude.{string_bytes}
use Rattle.run_words.specs.Words.{cut, value_of, values_of}
use Rattle.run_words.specs.Steps.{value_behind}
use Rattle.run_words.proofs.options.value_of.Given as goal

abbrev pub invariant-options : goal.invariant-options
invariant-options l =
    value_behind (option_map (λ v. v.now) l.found) (values_of l.name (cut (map string_bytes l.options.rest.now)).given) ≡ value_of (values_of l.name (cut (map string_bytes l.words)).given)

abbrev pub decreases-options : goal.decreases-options
decreases-options l = length (map string_bytes l.options.rest.now)
