-- What statements make and hand on is in order.
use Rattle.std.proofs.Common.{◌≡◌, ℕ, zero, suc, ◌+◌, Bool, true, false, List, [], ◌∷◌, length, map, Some, Result, Ok, Err, sym, subst}
use Rattle.std.specs.Prelude.{if◌then◌else◌, pos, slice_get, IfOk, IsErrAnd}
use Rattle.epl_values.specs.declared.shape.Field.{Field}
use Rattle.epl_values.specs.declared.shape.EventShape.{EventShape}
use Rattle.epl_values.specs.declared.shape.Shape.{Shape, Shape-F, out-Shape, map-Shape, fold_out-Shape}
use Rattle.epl_values.specs.declared.shape.Shape.TheOpen as shape
use Rattle.epl_values.specs.declared.value.Value.{Value, Value-F, out-Value}
use Rattle.epl_values.specs.declared.value.Value.TheOpen as layer
use Rattle.epl_values.specs.declared.value.Value.TheVariants as value
use Rattle.epl_values.specs.declared.value.Pair.{Pair}
use Rattle.typed_program.specs.declared.term.Term.{Term}
use Rattle.value_rules.specs.Defaults.{default_step, default_by, default_event, default_of}
use Rattle.event_types.specs.Types.{fields_of}
use Rattle.action_host.specs.declared.host.Answer.{Answer}
use Rattle.action_host.specs.declared.host.Answer.TheVariants as answer
use Rattle.action_host.specs.declared.host.Effect.{Effect}
use Rattle.action_host.specs.declared.host.Effect.TheVariants as effect
use Rattle.action_host.specs.Replies.{Reply, reply}
use Rattle.action_host.specs.Lawful.{GivesListener}
use Rattle.action_host.proofs.Replying.{reply_is_lawful}
use Rattle.action_host.specs.Told.{Told}
use Rattle.body_meaning.specs.declared.run.Flow.{Flow}
use Rattle.body_meaning.specs.declared.run.Flow.TheVariants.{Next, Broke, Continued, Returned}
use Rattle.body_meaning.specs.declared.run.Frame.{Frame}
use Rattle.body_meaning.specs.Effects.{listen}
use Rattle.body_meaning.specs.Runs.{State, Did, Outcome, Went, Ended, M, ◌>>◌, behind, then_do, perform, replied, settle}
use Rattle.body_meaning.specs.Statements.{turn_end}
use Rattle.body_meaning.specs.Values.{items_in, items_of}
use Rattle.value_steps.specs.Orderly.{IsOrderly, AreOrderly}
use Rattle.value_steps.proofs.Called.{sequence_orderly, dictionary_orderly, event_orderly, none_orderly, integer_orderly, truth_orderly, text_orderly, listener_orderly}
use Rattle.value_steps.proofs.Parted.{PartsInOrder, parts_orderly}
use Rattle.walk_rules.specs.declared.stop.Stop.{Stop}
use Rattle.walk_rules.specs.Ran.{Walks}
use Rattle.stmt_walker.specs.Flows.{IsOrderlyFlow}

-- ---- defaults

default_layer : (event : ℕ → Value) → ((n : ℕ) → IsOrderly (event n)) → (d : Shape-F Value) → IsOrderly (default_step event d)
default_layer event h shape.Integer = integer_orderly (pos 0)
default_layer event h shape.Boolean = truth_orderly false
default_layer event h shape.Text = text_orderly []
default_layer event h (shape.Sequence element) = sequence_orderly [] tt
default_layer event h (shape.Dictionary key item) = dictionary_orderly [] tt tt
default_layer event h (shape.Event n) = h n
default_layer event h shape.Context = none_orderly
default_layer event h shape.Listener = listener_orderly 0

shape_orderly : (event : ℕ → Value) → ((n : ℕ) → IsOrderly (event n)) → (s : Shape) → IsOrderly (default_by event s)
shape_orderly event h s = subst IsOrderly (sym (fold_out-Shape Value (default_step event) s)) (default_layer event h (map-Shape Shape Value (default_by event) (out-Shape s)))

fields_orderly : (event : ℕ → Value) → ((n : ℕ) → IsOrderly (event n)) → (fields : List Field) → AreOrderly (map (λ field. default_by event field.shape) fields)
fields_orderly event h [] = tt
fields_orderly event h (field ∷ fields) = (shape_orderly event h field.shape, fields_orderly event h fields)

event_default_orderly : (types : List EventShape) (depth n : ℕ) → IsOrderly (default_event depth types n)
event_default_orderly types zero n = event_orderly n [] tt
event_default_orderly types (suc depth) n = event_orderly n (map (λ field. default_by (default_event depth types) field.shape) (fields_of (slice_get types n))) (fields_orderly (default_event depth types) (event_default_orderly types depth) (fields_of (slice_get types n)))

-- the default of a shape
pub default_orderly : (types : List EventShape) (s : Shape) {v : Value} → v ≡ default_of types s → IsOrderly v
default_orderly types s is = subst IsOrderly (sym is) (shape_orderly (default_event (length types) types) (event_default_orderly types (length types)) s)

-- ---- elements

items_layer : (d : Value-F Value Pair) → PartsInOrder d → AreOrderly (items_in d)
items_layer (layer.Integer n) h = tt
items_layer (layer.Boolean b) h = tt
items_layer (layer.Text t) h = tt
items_layer (layer.Sequence items) h = h
items_layer (layer.Dictionary pairs) h = tt
items_layer (layer.Event n fields) h = tt
items_layer (layer.Context slot) h = tt
items_layer layer.NoContext h = tt
items_layer (layer.Listener birth) h = tt

-- the elements of a value
pub items_orderly : (v : Value) {vs : List Value} → vs ≡ items_of v → IsOrderly v → AreOrderly vs
items_orderly v is h = subst AreOrderly (sym is) (items_layer (out-Value v) (parts_orderly v h))

-- ---- the end of a loop

-- how a loop ends after a turn
pub end_orderly : (flow : Flow) {end : Flow} → Some end ≡ turn_end flow → IsOrderlyFlow flow → IsOrderlyFlow end
end_orderly Next is h = cc
end_orderly Continued is h = cc
end_orderly Broke {end} is h = let e : end ≡ Next = cc in subst IsOrderlyFlow (sym e) tt
end_orderly (Returned v) {end} is h = let e : end ≡ Returned v = cc in subst IsOrderlyFlow (sym e) h

-- where a statement stopped, it hands nothing on
pub stopped_orderly : (stop : Stop) (r : Result Flow Stop) → IsErrAnd r (λ e. e ≡ stop) → IfOk r IsOrderlyFlow
stopped_orderly stop (Ok flow) h = absurd h
stopped_orderly stop (Err e) h = tt

-- ---- listeners

OrderlyOutcome : Outcome Value → Type 0
OrderlyOutcome (Went did v s) = IsOrderly v
OrderlyOutcome (Ended did why s) = Unit {0}

behind_orderly : (did : Did) (o : Outcome Value) → OrderlyOutcome o → OrderlyOutcome (behind did o)
unfolding OrderlyOutcome
behind_orderly did (Went d v s) h = h
behind_orderly did (Ended d why s) h = tt

then_orderly : {A : Type 0} (o : Outcome A) (n : M Value) → ((s : State) → OrderlyOutcome (n s)) → OrderlyOutcome (then_do o (λ _. n))
unfolding OrderlyOutcome
then_orderly (Went did x s) n h = behind_orderly did (n s) (h s)
then_orderly (Ended did why s) n h = tt

settled_orderly : (a : Answer) (e : Effect) (s : State) → GivesListener a → OrderlyOutcome (settle a e s)
unfolding OrderlyOutcome
settled_orderly answer.Nothing e s h = absurd h
settled_orderly (answer.Gives v) e s h = subst IsOrderly (sym h.1) (listener_orderly h.0)
settled_orderly (answer.Fails why) e s h = absurd h

replied_orderly : (r : Reply) (e : Effect) (frame : Frame) → GivesListener r.answer → OrderlyOutcome (replied r e frame)
replied_orderly r e frame h = settled_orderly r.answer e (record { scene = r.scene; draws = r.draws; frame = frame }) h

answered_orderly : (n : ℕ) (operands captured : List Value) (s : State) → OrderlyOutcome (perform (effect.Listen n operands captured) s)
unfolding perform
answered_orderly n operands captured s = replied_orderly (reply (effect.Listen n operands captured) s.scene s.draws) (effect.Listen n operands captured) s.frame (reply_is_lawful (effect.Listen n operands captured) s.scene s.draws).gives

listen_orderly : (n : ℕ) (t : Term) (operands captured : List Value) (s : State) → OrderlyOutcome (listen n t operands captured s)
unfolding listen ◌>>◌
listen_orderly n t operands captured s = then_orderly _ (perform (effect.Listen n operands captured)) (answered_orderly n operands captured)

-- a listener
pub listened_orderly : (n : ℕ) (t : Term) (operands captured : List Value) (old new : Told) (f f1 : Frame) (r : Result Value Stop) → Walks (listen n t operands captured) old f new f1 r → IfOk r IsOrderly
unfolding OrderlyOutcome
listened_orderly n t operands captured old new f f1 (Ok v) w = subst OrderlyOutcome (w.does.gives []) (listen_orderly n t operands captured _)
listened_orderly n t operands captured old new f f1 (Err stop) w = tt
