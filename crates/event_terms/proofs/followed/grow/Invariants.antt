use Rattle.std.proofs.Common.{◌≡◌, drop}
use Rattle.term_meaning.specs.Start.{start_of}
use Rattle.term_meaning.specs.Step.{grow}
use Rattle.event_terms.specs.Parts.{form_pattern}
use Rattle.event_terms.specs.Settings.{setting}
use Rattle.event_terms.proofs.followed.grow.Given as goal

abbrev pub invariant-completions : goal.invariant-completions
invariant-completions l =
    grow (start_of (setting l.origin) (form_pattern l.part)) l.seen l.all (drop l.completion-index l.completions)
    ≡ grow (start_of (setting l.origin) (form_pattern l.part)) l.seen l.fn.more l.completions
