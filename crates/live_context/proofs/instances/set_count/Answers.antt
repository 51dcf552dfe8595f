use Rattle.std.proofs.Common.{◌≡◌, ◌∙◌, None, subst}
use Rattle.std.specs.List.{find}
use Rattle.context_meaning.specs.Contexts.{is_instance}
use Rattle.live_context.specs.Counts.{instances_in}
use Rattle.live_context.specs.Places.{FoundAt}
use Rattle.live_context.proofs.Places.{counted_counts, counted_instances, missing_count}
use Rattle.live_context.proofs.instances.set_count.Goals as goal

pub returns-in-None-clause-counts : goal.returns-in-None-clause-counts
returns-in-None-clause-counts c =
    let none = subst (λ xs. find (is_instance c.args.number) (instances_in xs) ≡ None) c.as_slice.ensures.value c.in-None.ensures in
    λ count are. are ∙ missing_count c.args.number c.args.listeners count (instances_in c.args.instances.now.items) none

pub returns-in-Some-clause-same : goal.returns-in-Some-clause-same
returns-in-Some-clause-same c =
    let f = subst (λ xs. FoundAt c.args.number xs c.in-Some.at) c.as_slice.ensures.value c.in-Some.ensures in
    counted_instances c.args.number c.args.instances.now.items c.in-Some.at f c.args.listeners c.put_count.new.instances.items (c.put_count.ensures f.found f.here)

pub returns-in-Some-clause-counts : goal.returns-in-Some-clause-counts
returns-in-Some-clause-counts c =
    let f = subst (λ xs. FoundAt c.args.number xs c.in-Some.at) c.as_slice.ensures.value c.in-Some.ensures in
    counted_counts c.args.number c.args.instances.now.items c.in-Some.at f c.args.listeners c.put_count.new.instances.items (c.put_count.ensures f.found f.here)
