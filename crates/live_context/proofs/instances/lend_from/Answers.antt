use Rattle.std.proofs.Common.{◌≡◌, None, subst}
use Rattle.std.specs.List.{find}
use Rattle.context_meaning.specs.Contexts.{is_instance}
use Rattle.live_context.specs.Counts.{instances_in}
use Rattle.live_context.specs.Places.{FoundAt}
use Rattle.live_context.proofs.Places.{lent_counts, lent_instances, missing_put}
use Rattle.live_context.proofs.instances.lend_from.Goals as goal

pub returns-in-None-clause-after : goal.returns-in-None-clause-after
returns-in-None-clause-after c =
    let none = subst (λ xs. find (is_instance c.args.number) (instances_in xs) ≡ None) c.as_slice.ensures.value c.in-None.ensures in
    missing_put c.args.number c.args.globals (instances_in c.args.instances.now.items) none

pub returns-in-Some-clause-after : goal.returns-in-Some-clause-after
returns-in-Some-clause-after c =
    let f = subst (λ xs. FoundAt c.args.number xs c.in-Some.at) c.as_slice.ensures.value c.in-Some.ensures in
    lent_instances c.args.number c.args.instances.now.items c.in-Some.at f c.args.globals c.exchange-globals.new.instances.items (c.exchange-globals.ensures.new f.found f.here)

pub returns-in-Some-clause-counts : goal.returns-in-Some-clause-counts
returns-in-Some-clause-counts c =
    let f = subst (λ xs. FoundAt c.args.number xs c.in-Some.at) c.as_slice.ensures.value c.in-Some.ensures in
    lent_counts c.args.number c.args.instances.now.items c.in-Some.at f c.args.globals c.exchange-globals.new.instances.items (c.exchange-globals.ensures.new f.found f.here)
