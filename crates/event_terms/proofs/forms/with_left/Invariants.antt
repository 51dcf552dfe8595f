use Rattle.std.proofs.Common.{◌≡◌, ◌++◌, map, take}
use Rattle.event_terms.proofs.forms.with_left.Given as goal

abbrev pub invariant-completions : goal.invariant-completions
invariant-completions l = l.all ≡ l.fn.front ++ map (λ c. l.left ++ c) (take l.right-index l.completions)
