use Rattle.std.proofs.Common.{◌≡◌, ◌∷◌, rules, refl, sym, ap, ◌∙◌}
use Rattle.std.proofs.lemmas.Int.{to_z-of_z}
use mir.Val.{SFits, of_z, to_z}
use mir.Syntax.{w64}
use Rattle.epl_values.specs.declared.value.Value.TheVariants as value
use Rattle.epl_values.specs.Order.{KeysAscend}
use Rattle.body_meaning.specs.declared.run.Move.TheVariants as move
use Rattle.value_steps.specs.Changed.{done_by}
use Rattle.value_steps.specs.Orderly.{AreOrderly, AreOrderlyPairs, IsOrderly, IsOrderlyPair}
use Rattle.value_steps.proofs.Kept.{all_get}
use Rattle.value_steps.proofs.Leaving.{entry_missing}
use Rattle.value_steps.proofs.Left.{dictionary_left, entry_left, event_left, item_left, leaves_moves, order_back, sequence_left}
use Rattle.value_steps.proofs.Parted.{dictionary_keys, dictionary_parts, event_parts, sequence_parts}
use Rattle.value_steps.proofs.changes.+changes.Goals as goal

pub change_at-returns-in-Field : goal.change_at-returns-in-Field
change_at-returns-in-Field t c =
    let cut = c.in-Some.ensures.cases.0 in
    let is : c.in-Some.first.now ≡ move.Field c.from.result = cc in
    leaves_moves c.change_field.result c.args.value.now c.change_field.new.value c.args.moves.now c.in-Some.others.now c.in-Some.first.now (move.Field c.from.result) (done_by c.args.change) cut is c.change_field.ensures

pub change_at-returns-in-Item : goal.change_at-returns-in-Item
change_at-returns-in-Item t c =
    let cut = c.in-Some.ensures.cases.0 in
    let fits : SFits w64 c.in-Item.place = search rules in
    let is = c.in-Item.is ∙ ap move.Item (sym (to_z-of_z w64 c.in-Item.place fits)) in
    leaves_moves c.change_element.result c.args.value.now c.change_element.new.value c.args.moves.now c.in-Some.others.now c.in-Some.first.now (move.Item (to_z w64 (of_z w64 c.in-Item.place))) (done_by c.args.change) cut is c.change_element.ensures

pub change_at-returns-in-Key : goal.change_at-returns-in-Key
change_at-returns-in-Key t c =
    let cut = c.in-Some.ensures.cases.0 in
    let is = c.in-Key.is in
    leaves_moves c.change_value.result c.args.value.now c.change_value.new.value c.args.moves.now c.in-Some.others.now c.in-Some.first.now (move.Key c.in-Key.key) (done_by c.args.change) cut is c.change_value.ensures

pub change_field-change_in_fields-answer-requires : goal.change_field-change_in_fields-answer-requires
change_field-change_in_fields-answer-requires t c =
    let is : c.args.value.now ≡ value.Event c.in-Event.event c.in-Event.fields = cc in
    let known : AreOrderly c.in-Event.fields = event_parts c.args.value.now c.in-Event.event c.in-Event.fields is c.requires in
    search (rules, known)

pub change_field-returns-in-Event : goal.change_field-returns-in-Event
change_field-returns-in-Event t c =
    let is : c.args.value.now ≡ value.Event c.in-Event.event c.in-Event.fields = cc in
    event_left c.change_in_fields-answer.result c.args.value.now _ c.in-Event.event c.change_in_fields-answer.new.fields c.in-Event.fields c.args.number (move.Field c.args.number) c.args.moves.now (move.Field c.args.number ∷ c.args.moves.now) (done_by c.args.change) refl refl is (cc) c.change_in_fields-answer.ensures

pub change_element-change_place-answer-requires : goal.change_element-change_place-answer-requires
change_element-change_place-answer-requires t c =
    let is : c.args.value.now ≡ value.Sequence c.in-Sequence.items = cc in
    let known : AreOrderly c.in-Sequence.items = sequence_parts c.args.value.now c.in-Sequence.items is c.requires in
    search (rules, known)

pub change_element-returns-in-Sequence : goal.change_element-returns-in-Sequence
change_element-returns-in-Sequence t c =
    let fits : SFits w64 c.args.place = search rules in
    let is : c.args.value.now ≡ value.Sequence c.in-Sequence.items = cc in
    sequence_left c.change_place-answer.result c.args.value.now _ c.change_place-answer.new.items c.in-Sequence.items (to_z w64 (of_z w64 c.args.place)) (move.Item c.args.place) c.args.moves.now (move.Item c.args.place ∷ c.args.moves.now) (done_by c.args.change) refl (ap move.Item (sym (to_z-of_z w64 c.args.place fits))) is (cc) c.change_place-answer.ensures

pub change_value-change_entry-answer-requires : goal.change_value-change_entry-answer-requires
change_value-change_entry-answer-requires t c =
    let is : c.args.value.now ≡ value.Dictionary c.in-Dictionary.pairs = cc in
    let keys : KeysAscend c.in-Dictionary.pairs = dictionary_keys c.args.value.now c.in-Dictionary.pairs is c.requires in
    let parts : AreOrderlyPairs c.in-Dictionary.pairs = dictionary_parts c.args.value.now c.in-Dictionary.pairs is c.requires in
    search (rules, keys, parts)

pub change_value-returns-in-Dictionary : goal.change_value-returns-in-Dictionary
change_value-returns-in-Dictionary t c =
    let is : c.args.value.now ≡ value.Dictionary c.in-Dictionary.pairs = cc in
    dictionary_left c.change_entry-answer.result c.args.value.now _ c.change_entry-answer.new.pairs c.in-Dictionary.pairs c.args.key.now (move.Key c.args.key.now) c.args.moves.now (move.Key c.args.key.now ∷ c.args.moves.now) (done_by c.args.change) refl refl is (cc) c.change_entry-answer.ensures

pub change_entry-returns-in_default : goal.change_entry-returns-in_default
change_entry-returns-in_default t c = (entry_missing c.args.key.now c.args.pairs.now c.in_default.field-0 c.args.moves.now (done_by c.args.change) c.requires.order c.in_default.ensures.value, refl)

pub change_entry-change_at-result-requires : goal.change_entry-change_at-result-requires
change_entry-change_at-result-requires t c =
    let known : IsOrderly c.in_ok-key.field-0.value = (all_get IsOrderlyPair c.args.pairs.now c.in-Ok.at c.in_ok-key.field-0 c.requires.parts c.in_ok-key.ensures.taken).1 in
    search (rules, known)

pub change_entry-set-hole-requires-clause-order : goal.change_entry-set-hole-requires-clause-order
change_entry-set-hole-requires-clause-order t c = order_back c.args.pairs.now c.take_entry.new.pairs c.in-Ok.at c.in_ok-key.field-0 value.NoContext c.change_at-result.new.value c.in_ok-key.ensures.taken c.in_ok-key.ensures.left c.requires.order

pub change_entry-returns : goal.change_entry-returns
change_entry-returns t c = entry_left c.change_at-result.result c.args.key.now c.args.pairs.now c.take_entry.new.pairs c.set-hole.new.self c.in-Ok.at c.in_ok-key.field-0 value.NoContext c.change_at-result.new.value c.args.moves.now (done_by c.args.change) c.requires.order c.in-Ok.ensures.value c.in_ok-key.ensures.taken c.in_ok-key.ensures.left c.set-hole.ensures.new c.change_at-result.ensures

pub change_item-returns : goal.change_item-returns
change_item-returns t c = item_left c.change_at-result.result c.args.items.now c.set-item.new.self c.set-hole.new.self c.args.number c.set-item.result value.NoContext c.change_at-result.new.value c.args.moves.now (done_by c.args.change) c.set-item.ensures.old c.set-item.ensures.new c.set-hole.ensures.new c.change_at-result.ensures

pub change_in_fields-returns : goal.change_in_fields-returns
change_in_fields-returns t c = item_left c.change_at-result.result c.args.fields.now c.set-item.new.self c.set-hole.new.self c.args.number c.set-item.result value.NoContext c.change_at-result.new.value c.args.moves.now (done_by c.args.change) c.set-item.ensures.old c.set-item.ensures.new c.set-hole.ensures.new c.change_at-result.ensures
