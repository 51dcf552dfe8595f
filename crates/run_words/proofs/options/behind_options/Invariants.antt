use Rattle.std.proofs.Common.{length, map}
use Rattle.std.specs.Prelude.{string_bytes}
use Rattle.run_words.proofs.Cuts.{SameBehind}
use Rattle.run_words.proofs.options.behind_options.Given as goal

abbrev pub invariant-options : goal.invariant-options
invariant-options l = SameBehind (map string_bytes l.words) (map string_bytes l.options.rest.now)

abbrev pub decreases-options : goal.decreases-options
decreases-options l = length (map string_bytes l.options.rest.now)
