use Rattle.std.proofs.Common.{◌≡◌, None, subst}
use Rattle.std.specs.List.{find}
use Rattle.context_meaning.specs.Contexts.{is_instance}
use Rattle.live_context.specs.Counts.{instances_in}
use Rattle.live_context.specs.Places.{FoundAt}
use Rattle.live_context.specs.Order.{number_of}
use Rattle.live_context.proofs.Places.{taken_counts, taken_instances}
use Rattle.live_context.proofs.Searching.{missing_below}
use Rattle.live_context.proofs.instances.take_out.Goals as goal

pub returns-in-None-clause-after : goal.returns-in-None-clause-after
returns-in-None-clause-after c =
    let none = subst (λ xs. find (is_instance c.args.number) (instances_in xs) ≡ None) c.as_slice.ensures.value c.in-None.ensures in
    missing_below number_of 0 c.args.number (instances_in c.args.instances.now.items) c.requires none

pub returns-in-Some-clause-after : goal.returns-in-Some-clause-after
returns-in-Some-clause-after c =
    let f = subst (λ xs. FoundAt c.args.number xs c.in-Some.at) c.as_slice.ensures.value c.in-Some.ensures in
    taken_instances c.args.number c.args.instances.now.items c.in-Some.at f c.remove-gone.new.self.items c.remove-gone.ensures.items

pub returns-in-Some-clause-counts : goal.returns-in-Some-clause-counts
returns-in-Some-clause-counts c =
    let f = subst (λ xs. FoundAt c.args.number xs c.in-Some.at) c.as_slice.ensures.value c.in-Some.ensures in
    taken_counts c.args.number c.args.instances.now.items c.in-Some.at f c.remove-gone.new.self.items c.remove-gone.ensures.items
