-- Effects and methods pay for what effects weigh.
use Rattle.std.proofs.Common.{◌*◌, ◌∷◌}
use Rattle.context_meaning.proofs.Common.{ℕ, Bool, false, List, [], Value, Value-F, out-Value, Pair, EventShape, Term, Method, M, Effect}
use Rattle.epl_values.specs.declared.value.Value.TheOpen as layer
use Rattle.epl_values.specs.declared.value.Value.TheVariants as value
use Rattle.typed_program.specs.declared.expression.Method.TheVariants as method
use Rattle.body_meaning.specs.Values.{birth_of}
use Rattle.body_meaning.specs.Effects.{channel_cost, context_cost, listen_cost, print, log, route, send, send_in, send_channel, send_context, spawn_here, spawn_there, globals_then, spawn_in, spawn_to, subscribe, unsubscribe, make, make_context, current, listen}
use Rattle.body_meaning.specs.Methods.{text_charged, value_charged, substring_charged, place_charged, quit, change_lost, called}
use Rattle.context_meaning.proofs.Paying.{Pays, Owes, owes_bind, owes_charged, owes_charged_by, owes_less, owes_perform, pays_pure, pays_given, pays_look, pays_charge, pays_charged_by, pays_perform, pays_by_scene, pays_bind, pays_seq}
use Rattle.context_meaning.proofs.Weighing.{Weighs}

-- a text that is made
pub pays_text : {weigh : Effect → ℕ} (text : List ℕ) → Pays weigh (text_charged text)
unfolding text_charged
pays_text text = pays_seq (pays_charge _) (pays_given _)

-- what goes on with the globals
pub owes_globals : {weigh : Effect → ℕ} (go : List Value → M Value) → ((globals : List Value) → Owes weigh (go globals)) → Owes weigh (globals_then go)
owes_globals go h = owes_bind go (pays_look _) h

module _ (weigh : Effect → ℕ) (weighs : Weighs weigh) where
  -- ---- effects

  -- `print`
  pub owes_print : (text : Value) → Owes weigh (print text)
  unfolding print
  owes_print text = owes_charged _ _ (weighs.print text)

  -- `log`
  pub owes_log : (level : ℕ) (text : Value) → Owes weigh (log level text)
  unfolding log
  owes_log level text = owes_charged _ _ (weighs.log level text)

  -- `route`
  pub owes_route : (event : Value) → Owes weigh (route event)
  unfolding route
  owes_route event = owes_charged _ _ (weighs.route event)

  -- an event to a channel
  channel_owes : (event : Value) (channel : List ℕ) → Owes weigh (send_channel event channel)
  unfolding send_channel
  channel_owes event channel = owes_charged_by (channel_cost event channel) _ (weighs.send_channel event channel)

  -- an event to a context
  context_owes : (event : Value) (slot : ℕ) → Owes weigh (send_context event slot)
  unfolding send_context
  context_owes event slot = owes_charged _ _ (weighs.send_context event slot)

  -- an event to what a value is
  send_owes : (event : Value) (to : Value-F Value Pair) → Owes weigh (send_in event to)
  send_owes event (layer.Context slot) = context_owes event slot
  send_owes event (layer.Text channel) = channel_owes event channel
  send_owes event v = owes_less (pays_given _)

  -- `send`
  pub owes_send : (event to : Value) → Owes weigh (send event to)
  owes_send event to = send_owes event (out-Value to)

  -- `spawn` in this context
  pub owes_spawn_here : (action : ℕ) (arguments globals : List Value) → Owes weigh (spawn_here action arguments globals)
  unfolding spawn_here
  owes_spawn_here action arguments globals = owes_charged _ _ (weighs.spawn_here action arguments globals)

  -- `spawn` in another one
  there_owes : (action : ℕ) (arguments : List Value) (slot : ℕ) (globals : List Value) → Owes weigh (spawn_there action arguments slot globals)
  unfolding spawn_there
  there_owes action arguments slot globals = owes_charged _ _ (weighs.spawn_there action arguments slot globals)

  -- `spawn` to what a value is
  spawn_owes : (action : ℕ) (arguments : List Value) (to : Value-F Value Pair) → Owes weigh (spawn_in action arguments to)
  spawn_owes action arguments (layer.Context slot) = owes_globals _ (there_owes action arguments slot)
  spawn_owes action arguments v = owes_less (pays_given _)

  -- `spawn` to a value
  pub owes_spawn_to : (action : ℕ) (arguments : List Value) (to : Value) → Owes weigh (spawn_to action arguments to)
  owes_spawn_to action arguments to = spawn_owes action arguments (out-Value to)

  -- `subscribe`
  pub owes_subscribe : (channel : Value) → Owes weigh (subscribe channel)
  unfolding subscribe
  owes_subscribe channel = owes_charged_by (λ scene. 2 * scene.slots) _ (weighs.subscribe channel)

  -- `unsubscribe`
  pub owes_unsubscribe : (channel : Value) → Owes weigh (unsubscribe channel)
  unfolding unsubscribe
  owes_unsubscribe channel = owes_perform _ (weighs.unsubscribe channel)

  -- a context that is made
  make_pays : (name : Value) (public : Bool) → Pays weigh (make name public)
  make_pays name public = pays_charged_by (context_cost public) _ (weighs.make name public)

  -- the same by its arguments
  pub pays_make_context : (arguments : List Value) → Pays weigh (make_context arguments)
  unfolding make_context
  pays_make_context [] = pays_pure value.NoContext
  pays_make_context (name ∷ []) = make_pays name false
  pays_make_context (name ∷ public ∷ rest) = make_pays name _

  -- the current context
  pub pays_current : Pays weigh current
  unfolding current
  pays_current = pays_by_scene _ (λ scene. pays_pure _)

  -- `on`
  pub pays_listen : (site : ℕ) (t : Term) (operands captured : List Value) → Pays weigh (listen site t operands captured)
  unfolding listen
  pays_listen site t operands captured = pays_charged_by (listen_cost t) _ (weighs.listen site t operands captured)

  -- ---- methods

  -- a value that costs what it is
  value_pays : (v : Value) → Pays weigh (value_charged v)
  unfolding value_charged
  value_pays v = pays_seq (pays_charge _) (pays_pure v)

  -- a part of a text
  substring_pays : (v : Value) (arguments : List Value) → Pays weigh (substring_charged v arguments)
  unfolding substring_charged
  substring_pays v arguments = pays_bind _ (pays_given _) (λ text. value_pays _)

  -- the place of a value
  place_pays : (v : Value) (arguments : List Value) → Pays weigh (place_charged v arguments)
  unfolding place_charged
  place_pays v arguments = pays_seq (pays_charge _) (pays_pure _)

  -- `quit`
  quit_pays : (v : Value) → Pays weigh (quit v)
  unfolding quit
  quit_pays v = pays_perform _ (weighs.quit (birth_of v))

  -- a change of a value that no variable holds
  lost_pays : (m : Method) (arguments : List Value) (v : Value) → Pays weigh (change_lost m arguments v)
  unfolding change_lost
  lost_pays m arguments v = pays_seq (pays_given _) (pays_pure value.NoContext)

  -- a method
  pub pays_called : (types : List EventShape) (m : Method) (v : Value) (arguments : List Value) → Pays weigh (called types m v arguments)
  pays_called types method.ToString v arguments = pays_text _
  pays_called types method.Length v arguments = pays_pure _
  pays_called types method.Substring v arguments = substring_pays v arguments
  pays_called types method.Size v arguments = pays_pure _
  pays_called types method.IndexOf v arguments = place_pays v arguments
  pays_called types method.HasKey v arguments = pays_pure _
  pays_called types method.Keys v arguments = value_pays _
  pays_called types method.Clone v arguments = value_pays v
  pays_called types method.Quit v arguments = quit_pays v
  pays_called types m v arguments = lost_pays m arguments v
