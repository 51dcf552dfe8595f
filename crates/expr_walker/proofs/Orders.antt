-- What expressions come to is in order.
use Rattle.std.proofs.Common.{◌≡◌, ℕ, zero, suc, Bool, true, false, List, [], ◌∷◌, ◌++◌, length, map, Option, Some, None, Result, Ok, Err, refl, sym, subst}
use Rattle.std.specs.Prelude.{ℤ, neg_ℤ, pos, IfOk, slice_get, if◌then◌else◌, ◌==◌, nat_lt, ◌+◌}
use Rattle.epl_values.specs.declared.shape.Shape.{Shape, Shape-F, out-Shape}
use Rattle.epl_values.specs.declared.shape.Shape.TheOpen as layer
use Rattle.epl_values.specs.declared.shape.Shape.TheFolds.{fold_out-Shape, map-Shape}
use Rattle.epl_values.specs.declared.shape.Field.{Field}
use Rattle.epl_values.specs.declared.shape.EventShape.{EventShape}
use Rattle.epl_values.specs.declared.value.Value.{Value}
use Rattle.epl_values.specs.declared.value.Value.TheVariants as value
use Rattle.epl_tree.specs.declared.expression.Comparison.{Comparison}
use Rattle.event_types.specs.Types.{fields_of}
use Rattle.value_rules.specs.Defaults.{default_step, default_by, default_event, default_of}
use Rattle.action_host.specs.declared.host.Fault.{Fault}
use Rattle.action_host.specs.declared.host.Effect.{Effect}
use Rattle.action_host.specs.declared.host.Effect.TheVariants as effect
use Rattle.action_host.specs.declared.host.Answer.{Answer}
use Rattle.action_host.specs.declared.host.Answer.TheVariants as answer
use Rattle.action_host.specs.Scenes.{Scene}
use Rattle.action_host.specs.Replies.{reply}
use Rattle.action_host.specs.Lawful.{GivesContext}
use Rattle.action_host.proofs.Replying.{reply_is_lawful}
use Rattle.action_host.specs.Told.{Told}
use Rattle.body_meaning.specs.declared.run.Frame.{Frame}
use Rattle.body_meaning.specs.Runs.{State, Did, Outcome, Went, Ended, M, behind, then_do, settle, ◌>>◌, pure, charge, perform, by_scene}
use Rattle.body_meaning.specs.Paths.{or_none}
use Rattle.body_meaning.specs.Values.{compared, negated, integer_result, letters_of, truth_of, fitting, integer_of}
use Rattle.body_meaning.specs.Effects.{make, make_context, current, context_cost}
use Rattle.value_steps.specs.Orderly.{IsOrderly, AreOrderly}
use Rattle.value_steps.proofs.Called.{sequence_orderly, dictionary_orderly, event_orderly, none_orderly, integer_orderly, truth_orderly, text_orderly, context_orderly, listener_orderly}
use Rattle.value_steps.proofs.Kept.{all_get}
use Rattle.walk_rules.specs.declared.stop.Stop.{Stop}
use Rattle.walk_rules.specs.Ran.{state_of, Walks}

-- ---- defaults

-- what stands for each event type is in order
abbrev EventsInOrder : (ℕ → Value) → Type 0
EventsInOrder event = (n : ℕ) → IsOrderly (event n)

-- what a shape has at first, given what events have
step_orderly : (event : ℕ → Value) → EventsInOrder event → (y : Shape-F Value) → IsOrderly (default_step event y)
step_orderly event h layer.Integer = integer_orderly (pos 0)
step_orderly event h layer.Boolean = truth_orderly false
step_orderly event h layer.Text = text_orderly []
step_orderly event h (layer.Sequence element) = sequence_orderly [] tt
step_orderly event h (layer.Dictionary key item) = dictionary_orderly [] tt tt
step_orderly event h (layer.Event n) = h n
step_orderly event h layer.Context = none_orderly
step_orderly event h layer.Listener = listener_orderly 0

-- the same of a whole shape
shape_orderly : (event : ℕ → Value) → EventsInOrder event → (s : Shape) → IsOrderly (default_by event s)
shape_orderly event h s = subst IsOrderly (sym (fold_out-Shape Value (default_step event) s)) (step_orderly event h (map-Shape Shape Value (default_by event) (out-Shape s)))

-- the same of the fields of an event
fields_orderly : (event : ℕ → Value) → EventsInOrder event → (fields : List Field) → AreOrderly (map (λ field. default_by event field.shape) fields)
fields_orderly event h [] = tt
fields_orderly event h (x ∷ xs) = (shape_orderly event h x.shape, fields_orderly event h xs)

-- an event of defaults, however deep
event_in_order : (depth : ℕ) (types : List EventShape) (n : ℕ) → IsOrderly (default_event depth types n)
event_in_order zero types n = event_orderly n [] tt
event_in_order (suc depth) types n = event_orderly n (map (λ field. default_by (default_event depth types) field.shape) (fields_of (slice_get types n))) (fields_orderly (default_event depth types) (event_in_order depth types) (fields_of (slice_get types n)))

-- the default of a shape
pub default_orderly : (types : List EventShape) (s : Shape) → IsOrderly (default_of types s)
default_orderly types s = shape_orderly (default_event (length types) types) (event_in_order (length types) types) s

-- ---- variables and numbers

-- what is read from a list in order
get_orderly : (values : List Value) (n : ℕ) (o : Option Value) → slice_get values n ≡ o → AreOrderly values → IsOrderly (or_none o)
get_orderly values n None is all = none_orderly
get_orderly values n (Some v) is all = all_get IsOrderly values n v all is

-- a variable that isn't there counts as no context
pub variable_orderly : (values : List Value) (n : ℕ) → AreOrderly values → IsOrderly (or_none (slice_get values n))
variable_orderly values n all = get_orderly values n (slice_get values n) refl all

-- a number, where it fits
number_orderly : (r : Result ℤ Fault) (v : Value) → Ok v ≡ integer_result r → IsOrderly v
number_orderly (Ok n) v e = let same : value.Integer n ≡ v = cc in subst IsOrderly same (integer_orderly n)
number_orderly (Err why) v e = cc

-- a number with the other sign
pub negated_orderly : (v w : Value) → Ok w ≡ negated v → IsOrderly w
negated_orderly v w e = number_orderly (fitting (neg_ℤ (integer_of v))) w e

-- how two values compare
pub compared_orderly : (c : Comparison) (v w : Value) (r : Result Value Stop) → r ≡ Ok (compared c v w) → IfOk r IsOrderly
compared_orderly c v w r is = subst (λ q. IfOk q IsOrderly) (sym is) (truth_orderly _)

-- ---- contexts

-- what a run gives is in order
abbrev Gives : Outcome Value → Type 0
Gives (Went did x s) = IsOrderly x
Gives (Ended did why s) = Unit {0}

-- what was done before changes no value
gives_behind : (before : Did) (o : Outcome Value) → Gives o → Gives (behind before o)
gives_behind before (Went did x s) h = h
gives_behind before (Ended did why s) h = tt

-- a run gives what its last part gives
gives_then : {A : Type 0} (o : Outcome A) (go : A → M Value) → ((x : A) (s : State) → Gives (go x s)) → Gives (then_do o go)
gives_then (Went did x s) go h = gives_behind did (go x s) (h x s)
gives_then (Ended did why s) go h = tt

-- what a host answers is in order
abbrev AnswersInOrder : Answer → Type 0
AnswersInOrder answer.Nothing = Unit {0}
AnswersInOrder (answer.Gives v) = IsOrderly v
AnswersInOrder (answer.Fails why) = Unit {0}

-- an effect gives what it is answered
gives_settled : (a : Answer) (e : Effect) (s : State) → AnswersInOrder a → Gives (settle a e s)
gives_settled answer.Nothing e s h = none_orderly
gives_settled (answer.Gives v) e s h = h
gives_settled (answer.Fails why) e s h = tt

-- an answer that is a context or a fault
given_orderly : (a : Answer) → GivesContext a → AnswersInOrder a
given_orderly answer.Nothing h = tt
given_orderly (answer.Gives v) h = subst IsOrderly (sym h.1) (context_orderly h.0)
given_orderly (answer.Fails why) h = tt

-- the answer to a context that is asked for
made_orderly : (name : List ℕ) (public : Bool) (scene : Scene) (draws : List ℕ) → AnswersInOrder (reply (effect.MakeContext name public) scene draws).answer
made_orderly name public scene draws = given_orderly (reply (effect.MakeContext name public) scene draws).answer (reply_is_lawful (effect.MakeContext name public) scene draws).gives

-- a context with a name
make_gives : (name : Value) (public : Bool) (s : State) → Gives (make name public s)
unfolding ◌>>◌ perform
make_gives name public s = gives_then {A = Unit {0}} (by_scene (λ scene. charge (context_cost public scene)) s) (λ _ s. settle (reply (effect.MakeContext (letters_of name) public) s.scene s.draws).answer (effect.MakeContext (letters_of name) public) (record { scene = (reply (effect.MakeContext (letters_of name) public) s.scene s.draws).scene; draws = (reply (effect.MakeContext (letters_of name) public) s.scene s.draws).draws; frame = s.frame })) (λ x s. gives_settled _ (effect.MakeContext (letters_of name) public) _ (made_orderly (letters_of name) public s.scene s.draws))

-- a context by its arguments
make_context_gives : (arguments : List Value) (s : State) → Gives (make_context arguments s)
unfolding make_context pure
make_context_gives [] s = none_orderly
make_context_gives (name ∷ []) s = make_gives name false s
make_context_gives (name ∷ public ∷ rest) s = make_gives name (truth_of public) s

-- the context that runs
current_gives : (s : State) → Gives (current s)
unfolding current by_scene pure
current_gives s = context_orderly s.scene.slot

-- a call gives what the run gives
gives_walked : (m : M Value) → ((s : State) → Gives (m s)) → {t t1 : Told} {f f1 : Frame} (r : Result Value Stop) → Walks m t f t1 f1 r → IfOk r IsOrderly
gives_walked m h {t} {t1} {f} {f1} (Ok x) a = subst Gives (a.does.gives []) (h (state_of t (a.does.draws ++ []) f))
gives_walked m h (Err stop) a = tt

-- a context that is made
pub made_context_orderly : (arguments : List Value) {t t1 : Told} {f f1 : Frame} (r : Result Value Stop) → Walks (make_context arguments) t f t1 f1 r → IfOk r IsOrderly
made_context_orderly arguments r a = gives_walked (make_context arguments) (make_context_gives arguments) r a

-- the context of a run
pub current_orderly : {t t1 : Told} {f f1 : Frame} (x : Value) → Walks current t f t1 f1 (Ok x) → IsOrderly x
current_orderly x a = gives_walked current current_gives (Ok x) a
