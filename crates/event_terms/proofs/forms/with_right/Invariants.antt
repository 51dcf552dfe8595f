use Rattle.std.proofs.Common.{◌≡◌, ◌++◌, map, take}
use Rattle.event_terms.proofs.forms.with_right.Given as goal

abbrev pub invariant-completions : goal.invariant-completions
invariant-completions l = l.all ≡ map (λ c. c ++ l.right) (take l.left-index l.completions)
