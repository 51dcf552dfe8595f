use Rattle.std.proofs.Common.{ℤ, ap, refl, rules, subst, sym, Some, slice_get, ◌+◌, ◌<◌, ◌≤◌, ◌≡◌, ◌∷◌, ◌++◌, ◌∙◌, []}
use Rattle.std.proofs.Common.{SFits}
use Rattle.std.specs.Int.{w128}
use Rattle.std.proofs.lemmas.Int.{to_z-of_z}
use Rattle.typed_program.specs.declared.program.Site.{Site}
use Rattle.term_meaning.specs.UnderWay.{begun_in, setting_of}
use Rattle.context_meaning.specs.Contexts.{Context}
use Rattle.context_meaning.specs.Listeners.{Listener}
use Rattle.live_context.specs.Counts.{count_its, counts_in, instances_in}
use Rattle.live_context.specs.Order.{birth_of}
use Rattle.live_context.proofs.Counting.{count_within, few_listeners}
use Rattle.live_context.proofs.Order.{order_born}
use Rattle.live_context.proofs.Listening.{born_shown}
use Rattle.live_context.proofs.live.LiveContext.listen.Goals as goal

pub invariant_of-self-2 : goal.invariant_of-self-2
invariant_of-self-2 c =
    let ls = c.self.inside.listeners.items in
    let next_is : c.in-Some.birth ≡ c.self.inside.births + 1 = search rules in
    let fits : c.in-Some.birth < 18446744073709551616 = search rules in
    let begun = subst (λ (x : Context). c.args.instance ≤ x.begun) (sym c.self.view_is) c.requires.begun in
    let most = count_within birth_of c.self.inside.births c.args.instance ls c.self.invariant.births_ascend c.self.invariant.births_within in
    let few = few_listeners (count_its ls c.args.instance) c.self.inside.births c.in-Some.birth most next_is fits in
    order_born c.self.inside.births c.self.inside.begun c.self.inside.listeners.items (instances_in c.self.inside.instances.items) (counts_in c.self.inside.instances.items) c.in-Some.birth c.push.new.self.items (instances_in c.one_more.new.instances.items) (counts_in c.one_more.new.instances.items) _ next_is refl begun
    (c.in_ok-push.ensures.items ∙ ap (λ (x : Listener). ls ++ x ∷ []) c.born_with.ensures) c.one_more.ensures.same (c.one_more.ensures.counts (count_its ls) c.self.invariant.counted few) c.self.invariant

pub returns : goal.returns
returns c =
    let ls = c.self.inside.listeners.items in
    let program = c.args.program.now in
    let next_is : c.in-Some.birth ≡ c.self.inside.births + 1 = search rules in
    let fits : SFits w128 c.self.inside.clock = search rules in
    let begins = subst (λ (t : ℤ). (found : Site) → slice_get program.sites c.args.site ≡ Some found → c.in_ok-state.state ≡ record { site = c.args.site; expression = begun_in (setting_of program.types found c.args.operands t) }) (to_z-of_z w128 c.self.inside.clock fits) c.in_ok-state.ensures.is in
    born_shown program c.args.instance c.args.site c.args.operands c.args.captured c.in-Some.birth c.push.new.self.items (instances_in c.one_more.new.instances.items) c.in_ok-state.state _ c.args.self.now c.self.view_is c.requires.there next_is begins
    (c.in_ok-push.ensures.items ∙ ap (λ (x : Listener). ls ++ x ∷ []) c.born_with.ensures) c.one_more.ensures.same
