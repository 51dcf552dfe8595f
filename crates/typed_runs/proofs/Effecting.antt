-- Effects keep the shapes of variables, and carry what they are to carry.
use Rattle.std.proofs.Common.{◌≡◌, ◌∷◌}
use Rattle.typed_runs.proofs.Common.{ℕ, Bool, true, false, List, [], Some, sym, subst, slice_get, nat_lt, Shape, Value, Value-F, out-Value, Pair, Program, Action, M, truth_of, Fit, AllFit, fit_append, globals_in, GlobalsFit, Keeps, ListenFits}
use Rattle.std.specs.Prelude.{if◌then◌else◌, ◌==◌, ◌+◌}
use Rattle.epl_values.specs.declared.shape.Shape.TheVariants as shape
use Rattle.epl_values.specs.declared.value.Value.TheOpen as layer
use Rattle.epl_values.specs.declared.value.Value.TheVariants as value
use Rattle.typed_program.specs.declared.term.Term.{Term}
use Rattle.action_host.specs.declared.host.Effect.{Effect}
use Rattle.action_host.specs.declared.host.Effect.TheVariants as effect
use Rattle.action_host.specs.declared.host.Answer.{Answer}
use Rattle.action_host.specs.declared.host.Answer.TheVariants as answer
use Rattle.action_host.specs.Replies.{reply}
use Rattle.action_host.specs.Lawful.{GivesContext, GivesListener}
use Rattle.action_host.proofs.Replying.{reply_is_lawful}
use Rattle.body_meaning.specs.Runs.{perform}
use Rattle.body_meaning.specs.Values.{letters_of}
use Rattle.body_meaning.specs.Methods.{quit}
use Rattle.body_meaning.specs.Effects.{print, log, route, send_channel, send_context, send_in, send, taken_along, spawn_here, spawn_there, globals_then, spawn_in, spawn_to, subscribe, unsubscribe, make, make_context, current, listen}
use Rattle.value_shapes.specs.Fits.{IsEvent}
use Rattle.value_shapes.proofs.Made.{context_fits, no_context_fits, listener_fits}
use Rattle.value_shapes.proofs.Emptied.{all_emptied_fits}
use Rattle.typed_runs.specs.Kept.{EffectFits, SpawnFits}
use Rattle.typed_runs.proofs.Keeping.{Any, AnswerFits, keeps_pure, keeps_given, keeps_look, keeps_charge, keeps_perform, keeps_by_scene, keeps_bind, keeps_seq}

-- of any answer nothing is said
any_fits : (a : Answer) → AnswerFits Any a
any_fits answer.Nothing = tt
any_fits (answer.Gives v) = tt
any_fits (answer.Fails fault) = tt

-- what is asked of a value that is a context or a listener
abbrev IsContext : Program → Value → Type 0
IsContext program v = Fit program.types v shape.Context

-- what is asked of a value that is a listener
abbrev IsListener : Program → Value → Type 0
IsListener program v = Fit program.types v shape.Listener

-- an answer that is a context or a fault
context_answered : (program : Program) (a : Answer) → GivesContext a → AnswerFits (IsContext program) a
context_answered program answer.Nothing h = absurd h
context_answered program (answer.Gives v) h = subst (IsContext program) (sym h.1) (context_fits program.types h.0)
context_answered program (answer.Fails fault) h = tt

-- an answer that is a listener
listener_answered : (program : Program) (a : Answer) → GivesListener a → AnswerFits (IsListener program) a
listener_answered program answer.Nothing h = absurd h
listener_answered program (answer.Gives v) h = subst (IsListener program) (sym h.1) (listener_fits program.types h.0)
listener_answered program (answer.Fails fault) h = absurd h

-- what a new instance takes along
spawn_fits : (program : Program) (monitor n : ℕ) (action : Action) (arguments globals : List Value) → slice_get program.actions n ≡ Some action → action.monitor ≡ monitor → AllFit program.types arguments action.params → GlobalsFit program monitor globals → SpawnFits program monitor (taken_along arguments globals) (slice_get program.actions n)
spawn_fits program monitor n action arguments globals is own a g = subst (SpawnFits program monitor (taken_along arguments globals)) (sym is) (own, fit_append program.types _ _ action.params (globals_in program monitor) (all_emptied_fits program.types arguments action.params a) (all_emptied_fits program.types globals (globals_in program monitor) g))

module _ {program : Program} {monitor : ℕ} {room : List Shape} where
  -- an effect of which nothing is said but what it carries
  keeps_taken : (e : Effect) → EffectFits program monitor e → Keeps program monitor room Any (perform e)
  keeps_taken e h = keeps_perform e h (λ scene draws. any_fits (reply e scene draws).answer)

  -- ---- texts and events

  -- a text that is printed
  pub keeps_print : (text : Value) → Keeps program monitor room Any (print text)
  unfolding print
  keeps_print text = keeps_seq (keeps_charge _) (keeps_taken _ tt)

  -- a text in the log
  pub keeps_log : (level : ℕ) (text : Value) → Keeps program monitor room Any (log level text)
  unfolding log
  keeps_log level text = keeps_seq (keeps_charge _) (keeps_taken _ tt)

  -- an event that is routed
  pub keeps_route : (event : Value) → IsEvent program.types event (out-Value event) → Keeps program monitor room Any (route event)
  unfolding route
  keeps_route event is = keeps_seq (keeps_charge _) (keeps_taken _ is)

  -- an event to a channel
  keeps_send_channel : (event : Value) (channel : List ℕ) → IsEvent program.types event (out-Value event) → Keeps program monitor room Any (send_channel event channel)
  unfolding send_channel
  keeps_send_channel event channel is = keeps_seq (keeps_by_scene _ (λ scene. keeps_charge _)) (keeps_taken _ is)

  -- an event to a context
  keeps_send_context : (event : Value) (slot : ℕ) → IsEvent program.types event (out-Value event) → Keeps program monitor room Any (send_context event slot)
  unfolding send_context
  keeps_send_context event slot is = keeps_seq (keeps_charge _) (keeps_taken _ is)

  -- an event to what a value is
  keeps_send_in : (event : Value) (to : Value-F Value Pair) → IsEvent program.types event (out-Value event) → Keeps program monitor room Any (send_in event to)
  keeps_send_in event (layer.Context slot) is = keeps_send_context event slot is
  keeps_send_in event (layer.Text channel) is = keeps_send_channel event channel is
  keeps_send_in event to is = keeps_given _ (λ x h. tt)

  -- an event that is sent, to whatever it may be
  pub keeps_send : (event to : Value) → IsEvent program.types event (out-Value event) → Keeps program monitor room Any (send event to)
  keeps_send event to is = keeps_send_in event (out-Value to) is

  -- ---- instances

  -- what is done with the globals
  keeps_globals : (go : List Value → M Value) → ((globals : List Value) → GlobalsFit program monitor globals → Keeps program monitor room Any (go globals)) → Keeps program monitor room Any (globals_then go)
  keeps_globals go h = keeps_bind go (keeps_look (λ frame. frame.globals) (λ frame f. f.globals)) h

  module _ (n : ℕ) (action : Action) (arguments : List Value) (is : slice_get program.actions n ≡ Some action) (own : action.monitor ≡ monitor) (fit : AllFit program.types arguments action.params) where
    -- a new instance over these globals
    keeps_spawn_here : (globals : List Value) → GlobalsFit program monitor globals → Keeps program monitor room Any (spawn_here n arguments globals)
    unfolding spawn_here
    keeps_spawn_here globals g = keeps_seq (keeps_charge _) (keeps_taken _ (spawn_fits program monitor n action arguments globals is own fit g))

    -- the same in the context of a slot
    keeps_spawn_there : (slot : ℕ) (globals : List Value) → GlobalsFit program monitor globals → Keeps program monitor room Any (spawn_there n arguments slot globals)
    unfolding spawn_there
    keeps_spawn_there slot globals g = keeps_seq (keeps_charge _) (keeps_taken _ (spawn_fits program monitor n action arguments globals is own fit g))

    -- a new instance in the same context
    pub keeps_spawn : Keeps program monitor room Any (globals_then (spawn_here n arguments))
    keeps_spawn = keeps_globals _ keeps_spawn_here

    -- a new instance in what a value is
    keeps_spawn_in : (to : Value-F Value Pair) → Keeps program monitor room Any (spawn_in n arguments to)
    keeps_spawn_in (layer.Context slot) = keeps_globals _ (keeps_spawn_there slot)
    keeps_spawn_in to = keeps_given _ (λ x h. tt)

    -- a new instance in another context
    pub keeps_spawn_to : (to : Value) → Keeps program monitor room Any (spawn_to n arguments to)
    keeps_spawn_to to = keeps_spawn_in (out-Value to)

  -- ---- channels and contexts

  -- a channel that is subscribed
  pub keeps_subscribe : (channel : Value) → Keeps program monitor room Any (subscribe channel)
  unfolding subscribe
  keeps_subscribe channel = keeps_seq (keeps_by_scene _ (λ scene. keeps_charge _)) (keeps_taken _ tt)

  -- a channel that isn't any more
  pub keeps_unsubscribe : (channel : Value) → Keeps program monitor room Any (unsubscribe channel)
  unfolding unsubscribe
  keeps_unsubscribe channel = keeps_taken _ tt

  -- a context with its name
  keeps_make : (name : Value) (public : Bool) → Keeps program monitor room (IsContext program) (make name public)
  keeps_make name public = keeps_seq (keeps_by_scene _ (λ scene. keeps_charge _)) (keeps_perform _ tt (λ scene draws. context_answered program (reply (effect.MakeContext (letters_of name) public) scene draws).answer (reply_is_lawful (effect.MakeContext (letters_of name) public) scene draws).gives))

  -- a context that is made
  pub keeps_make_context : (arguments : List Value) → Keeps program monitor room (λ v. Fit program.types v shape.Context) (make_context arguments)
  unfolding make_context
  keeps_make_context [] = keeps_pure value.NoContext (no_context_fits program.types)
  keeps_make_context (name ∷ []) = keeps_make name false
  keeps_make_context (name ∷ public ∷ rest) = keeps_make name (truth_of public)

  -- the context of a run
  pub keeps_current : Keeps program monitor room (λ v. Fit program.types v shape.Context) current
  unfolding current
  keeps_current = keeps_by_scene _ (λ scene. keeps_pure (value.Context scene.slot) (context_fits program.types scene.slot))

  -- ---- listeners

  -- a listener that is made
  pub keeps_listen : (n : ℕ) (t : Term) (operands captured : List Value) → ListenFits program monitor operands captured (slice_get program.sites n) → Keeps program monitor room (λ v. Fit program.types v shape.Listener) (listen n t operands captured)
  unfolding listen
  keeps_listen n t operands captured h = keeps_seq (keeps_by_scene _ (λ scene. keeps_charge _)) (keeps_perform _ h (λ scene draws. listener_answered program (reply (effect.Listen n operands captured) scene draws).answer (reply_is_lawful (effect.Listen n operands captured) scene draws).gives))

  -- a listener that is quit
  pub keeps_quit : (v : Value) → Keeps program monitor room Any (quit v)
  unfolding quit
  keeps_quit v = keeps_taken _ tt
