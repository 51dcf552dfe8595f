-- The effects of bodies, each behind its charge.
use Rattle.body_meaning.specs.Common.{ℕ, Bool, true, false, List, [], map, Option, Some, None, Result, Err, Value, Value-F, out-Value, Pair, roll-Pair, cost_of, Effect, Scene}
use Rattle.std.specs.Prelude.{◌+◌, if◌then◌else◌, ◌∷◌, ◌++◌, ◌*◌, sum, max}
use Rattle.std.specs.List.{sum_by}
use Rattle.epl_values.specs.declared.value.Value.{fold-Value}
use Rattle.epl_values.specs.declared.value.Value.TheOpen as layer
use Rattle.epl_values.specs.declared.value.Value.TheVariants as value
use Rattle.epl_values.specs.declared.value.Pair.{Pair-F}
use Rattle.typed_program.specs.declared.term.Duration.{Duration}
use Rattle.typed_program.specs.declared.term.Term.{Term, Term-F, fold-Term}
use Rattle.typed_program.specs.declared.term.Term.TheOpen as term
use Rattle.action_host.specs.declared.host.Fault.TheVariants as fault
use Rattle.action_host.specs.declared.host.Effect.TheVariants as effect
use Rattle.action_host.specs.Scenes.{count_targets}
use Rattle.body_meaning.specs.Runs.{M, ◌>>=◌, ◌>>◌, pure, charge, perform, given, look, by_scene}
use Rattle.body_meaning.specs.Values.{letters_of, truth_of}

-- ---- texts and events

unfoldable pub print : Value → M Value
print text = charge (cost_of text) >> perform (effect.Print (letters_of text))

unfoldable pub log : ℕ → Value → M Value
log level text = charge (cost_of text) >> perform (effect.Log level (letters_of text))

unfoldable pub route : Value → M Value
route event = charge (cost_of event) >> perform (effect.Route event)

-- a channel costs for each context that it leads to, and at least once
abbrev pub channel_cost : Value → List ℕ → Scene → ℕ
channel_cost event channel scene = cost_of event * max 1 (count_targets scene channel)

unfoldable pub send_channel : Value → List ℕ → M Value
send_channel event channel = by_scene (λ scene. charge (channel_cost event channel scene)) >> perform (effect.SendChannel channel event)

unfoldable pub send_context : Value → ℕ → M Value
send_context event slot = charge (cost_of event) >> perform (effect.SendTo slot event)

abbrev pub send_in : Value → Value-F Value Pair → M Value
send_in event (layer.Context slot) = send_context event slot
send_in event (layer.Text channel) = send_channel event channel
send_in event v = given (Err fault.NoContext)

-- to a context or a channel
abbrev pub send : Value → Value → M Value
send event to = send_in event (out-Value to)

-- ---- instances

-- each listener in a value becomes the empty one
abbrev pub emptied_step : Value-F Value Pair → Value
emptied_step (layer.Integer n) = value.Integer n
emptied_step (layer.Boolean b) = value.Boolean b
emptied_step (layer.Text t) = value.Text t
emptied_step (layer.Sequence items) = value.Sequence items
emptied_step (layer.Dictionary pairs) = value.Dictionary pairs
emptied_step (layer.Event n fields) = value.Event n fields
emptied_step (layer.Context slot) = value.Context slot
emptied_step layer.NoContext = value.NoContext
emptied_step (layer.Listener birth) = value.Listener 0

abbrev pub emptied_pair : Pair-F Value Pair → Pair
emptied_pair pair = roll-Pair pair

abbrev pub emptied : Value → Value
emptied = fold-Value Value Pair emptied_step emptied_pair

-- what a new instance takes along: its arguments and the globals
abbrev pub taken_along : List Value → List Value → List Value
taken_along arguments globals = map emptied arguments ++ map emptied globals

unfoldable pub spawn_here : ℕ → List Value → List Value → M Value
spawn_here action arguments globals = charge (sum_by cost_of arguments + sum_by cost_of globals) >> perform (effect.Spawn action (taken_along arguments globals))

unfoldable pub spawn_there : ℕ → List Value → ℕ → List Value → M Value
spawn_there action arguments slot globals = charge (sum_by cost_of arguments + sum_by cost_of globals) >> perform (effect.SpawnTo action (taken_along arguments globals) slot)

abbrev pub globals_then : (List Value → M Value) → M Value
globals_then go = look (λ frame. frame.globals) >>= go

abbrev pub spawn_in : ℕ → List Value → Value-F Value Pair → M Value
spawn_in action arguments (layer.Context slot) = globals_then (spawn_there action arguments slot)
spawn_in action arguments v = given (Err fault.NoContext)

abbrev pub spawn_to : ℕ → List Value → Value → M Value
spawn_to action arguments to = spawn_in action arguments (out-Value to)

-- ---- channels and contexts

unfoldable pub subscribe : Value → M Value
subscribe channel = by_scene (λ scene. charge (2 * scene.slots)) >> perform (effect.Subscribe (letters_of channel))

unfoldable pub unsubscribe : Value → M Value
unsubscribe channel = perform (effect.Unsubscribe (letters_of channel))

-- a context that takes events without a channel is told to each slot
abbrev pub context_cost : Bool → Scene → ℕ
context_cost public scene = if public then 1 + scene.slots else 1

abbrev pub make : Value → Bool → M Value
make name public = by_scene (λ scene. charge (context_cost public scene)) >> perform (effect.MakeContext (letters_of name) public)

-- a context is private where nothing else is said
unfoldable pub make_context : List Value → M Value
make_context [] = pure value.NoContext
make_context (name ∷ []) = make name false
make_context (name ∷ public ∷ rest) = make name (truth_of public)

unfoldable pub current : M Value
current = by_scene (λ scene. pure (value.Context scene.slot))

-- ---- listeners

-- a deadline is a leaf of its own
abbrev pub deadline_leaves : Option Duration → ℕ
deadline_leaves None = 0
deadline_leaves (Some d) = 1

-- the leaves that begin where an event expression starts: of `->` those of its left side
abbrev pub starting_step : Term-F ℕ → ℕ
starting_step (term.Followed first rest) = first
starting_step (term.Or first rest) = first + sum rest
starting_step (term.Xor first rest) = first + sum rest
starting_step (term.And first rest) = first + sum rest
starting_step (term.All t) = t
starting_step (term.Not t) = t
starting_step (term.Group t within) = deadline_leaves within + t
starting_step (term.Wait d) = 1
starting_step (term.Template t) = 1

abbrev pub starting : Term → ℕ
starting = fold-Term ℕ starting_step

-- in `ondie` no leaf begins
abbrev pub listen_cost : Term → Scene → ℕ
listen_cost t scene = if scene.ending then 10 else 10 + starting t

unfoldable pub listen : ℕ → Term → List Value → List Value → M Value
listen site t operands captured = by_scene (λ scene. charge (listen_cost t scene)) >> perform (effect.Listen site operands captured)
