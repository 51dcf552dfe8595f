use Rattle.std.proofs.Common.{◌≡◌, ◌++◌, take}
use Rattle.term_meaning.specs.Step.{behind}
use Rattle.event_terms.proofs.followed.behind.Given as goal

abbrev pub invariant-completions : goal.invariant-completions
invariant-completions l = l.all ≡ l.fn.front ++ behind l.own (take l.completion-index l.completions)
