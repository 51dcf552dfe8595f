use Rattle.std.proofs.Common.{◌≡◌, None, subst}
use Rattle.std.specs.List.{find}
use Rattle.context_meaning.specs.Contexts.{is_born}
use Rattle.live_context.specs.Order.{birth_of}
use Rattle.live_context.specs.Places.{BornAt}
use Rattle.live_context.proofs.Places.{gone_owner}
use Rattle.live_context.proofs.Searching.{missing_below}
use Rattle.live_context.proofs.listeners.without_born.Goals as goal

pub returns-in-None-clause-after : goal.returns-in-None-clause-after
returns-in-None-clause-after c =
    let none = subst (λ xs. find (is_born c.args.birth) xs ≡ None) c.as_slice.ensures.value c.in-None.ensures in
    missing_below birth_of 0 c.args.birth c.args.listeners.now.items c.requires none

pub returns-in-Some-clause-answer : goal.returns-in-Some-clause-answer
returns-in-Some-clause-answer c =
    let b = subst (λ xs. BornAt c.args.birth xs c.in-Some.at) c.as_slice.ensures.value c.in-Some.ensures in
    gone_owner c.args.birth c.args.listeners.now.items c.in-Some.at b c.remove-gone.result c.instance.result c.remove-gone.ensures.value c.instance.ensures
