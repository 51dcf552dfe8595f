use Rattle.std.proofs.Common.{ℕ, ◌-◌, ◌≡◌, ◌∙◌, None, subst}
use Rattle.std.specs.List.{find}
use Rattle.context_meaning.specs.Contexts.{is_instance}
use Rattle.live_context.specs.Counts.{AreCounts, counts_in, instances_in}
use Rattle.live_context.proofs.Places.{missing_count}
use Rattle.live_context.proofs.instances.one_less.Goals as goal

pub returns-in-None-clause-counts : goal.returns-in-None-clause-counts
returns-in-None-clause-counts c =
    let none = subst (λ xs. (count : ℕ → ℕ) → AreCounts count (instances_in xs) (counts_in xs) → find (is_instance c.args.number) (instances_in xs) ≡ None) c.as_slice.ensures.value c.in-None.ensures in
    λ count are. are ∙ missing_count c.args.number (count c.args.number - 1) count (instances_in c.args.instances.now.items) (none count are)
