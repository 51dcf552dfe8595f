use Rattle.std.proofs.Common.{◌≡◌, ◌<◌, length, rules, subst, sym, ◌∙◌}
use Rattle.epl_values.specs.declared.value.Value.{the_lemmas}
use Rattle.epl_values.specs.Order.{KeysAscend}
use Rattle.value_steps.specs.Orderly.{AreOrderly, AreOrderlyPairs}
use Rattle.value_steps.proofs.Emptying.{next_ascends, next_is}
use Rattle.value_steps.proofs.Parted.{dictionary_keys, dictionary_parts, event_parts, sequence_parts}
use Rattle.value_steps.proofs.spawning.+emptied.Goals as goal

pub emptied-emptied_items-requires : goal.emptied-emptied_items-requires
emptied-emptied_items-requires t c =
    let known : AreOrderly c.in-Sequence.items = sequence_parts c.args.value.now c.in-Sequence.items c.in-Sequence.is c.requires in
    search (rules, the_lemmas)

pub emptied-emptied_pairs-requires : goal.emptied-emptied_pairs-requires
emptied-emptied_pairs-requires t c =
    let keys : KeysAscend c.in-Dictionary.pairs = dictionary_keys c.args.value.now c.in-Dictionary.pairs c.in-Dictionary.is c.requires in
    let parts : AreOrderlyPairs c.in-Dictionary.pairs = dictionary_parts c.args.value.now c.in-Dictionary.pairs c.in-Dictionary.is c.requires in
    search (rules, the_lemmas)

pub emptied-emptied_values-requires : goal.emptied-emptied_values-requires
emptied-emptied_values-requires t c =
    let known : AreOrderly c.as_slice.result.now = subst AreOrderly (sym c.as_slice.ensures) (event_parts c.args.value.now c.in-Event.number c.in-Event.fields c.in-Event.is c.requires) in
    search (rules, the_lemmas)

pub emptied_pairs-push-requires : goal.emptied_pairs-push-requires
emptied_pairs-push-requires t c =
    let inside : c.loop-at.at < length c.args.pairs.now = search rules in
    next_ascends c.loop-at.copies c.args.pairs.now c.loop-at.at c.in_ok-key.key c.in_ok-value.value c.get-pair.result.now c.loop-at.invariant inside c.get-pair.ensures.read c.in_ok-key.ensures c.in_ok-value.ensures c.requires.order

pub emptied_pairs-loop-at-preserved : goal.emptied_pairs-loop-at-preserved
emptied_pairs-loop-at-preserved t c =
    let inside : c.loop-at.at < length c.args.pairs.now = search rules in
    c.in_ok-push.ensures.ok ∙ next_is c.loop-at.copies c.args.pairs.now c.loop-at.at c.in_ok-key.key c.in_ok-value.value c.get-pair.result.now c.loop-at.invariant inside c.get-pair.ensures.read c.in_ok-key.ensures c.in_ok-value.ensures
