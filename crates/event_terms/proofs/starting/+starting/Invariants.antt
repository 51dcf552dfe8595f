use Rattle.std.proofs.Common.{◌+◌, ◌*◌}
use Rattle.event_terms.specs.Parts.{form_pattern, pattern_in, size_of}
use Rattle.event_terms.proofs.starting.+starting.Given as goal

abbrev pub decreases-start : goal.decreases-start
decreases-start l = 2 * size_of (form_pattern l.whole)

abbrev pub decreases-start_part : goal.decreases-start_part
decreases-start_part l = 2 * size_of (pattern_in l.part) + 1
