use Rattle.std.proofs.Common.{◌≡◌, ◌++◌, map, drop}
use Rattle.std.specs.List.{flat_map}
use Rattle.term_meaning.specs.Active.{leaves_of_copy}
use Rattle.event_terms.proofs.leaves.+leaves.Given as goal

abbrev pub invariant-with_copies-copies : goal.invariant-with_copies-copies
invariant-with_copies-copies l =
    l.all ++ flat_map (λ leaves. leaves) (map leaves_of_copy (drop l.copy-index l.copies)) ≡ l.fn.front ++ flat_map (λ leaves. leaves) (map leaves_of_copy l.copies)
