use Rattle.std.proofs.Common.{◌≡◌, map, drop}
use Rattle.std.specs.List.{list_any}
use Rattle.term_meaning.specs.Waits.{waits_in_copy}
use Rattle.event_terms.proofs.waiting.+waiting.Given as goal

abbrev pub invariant-any_waits-copies : goal.invariant-any_waits-copies
invariant-any_waits-copies l = list_any (λ c. c) (map (waits_in_copy l.stimulus) l.copies) ≡ list_any (λ c. c) (map (waits_in_copy l.stimulus) (drop l.copy-index l.copies))
