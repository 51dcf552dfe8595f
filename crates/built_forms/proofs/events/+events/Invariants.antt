use Rattle.std.proofs.Common.{◌≡◌, drop, map}
use Rattle.built_forms.specs.Rows.{joined, behind}
use Rattle.built_forms.specs.Events.{missing_in_event}
use Rattle.built_forms.proofs.events.+events.Given as goal

abbrev pub invariant-next_events-trees : goal.invariant-next_events-trees
invariant-next_events-trees l = behind l.found (joined (map missing_in_event (drop l.tree-index l.trees))) ≡ behind l.fn.before (joined (map missing_in_event l.trees))
