use Rattle.event_terms.specs.Parts.{form_pattern}
use Rattle.event_terms.specs.Settings.{setting_at}
use Rattle.event_terms.proofs.Running.{Goes}
use Rattle.event_terms.proofs.stepping.+stepping.Given as goal

abbrev pub invariant-run-copies : goal.invariant-run-copies
invariant-run-copies l = Goes (setting_at l.moment) l.moment.stimulus.now (form_pattern l.part) l.seen l.fn.copies l.fn.next l.at l.ran
