-- What `send` and `context` mean, by their arguments.
use Rattle.std.proofs.Common.{◌≡◌, ◌∷◌}
use Rattle.walk_rules.proofs.Common.{ℕ, List, [], length, Some, Err, refl, sym, ap, ◌∙◌, arith, slice_get, Value, Value-F, out-Value, roll-Value, roll-out-Value, Pair}
use Rattle.epl_values.specs.declared.value.Value.TheOpen as layer
use Rattle.epl_values.specs.declared.value.Value.TheVariants as value
use Rattle.action_host.specs.declared.host.Fault.TheVariants as fault
use Rattle.body_meaning.specs.Runs.{pure, given}
use Rattle.body_meaning.specs.Effects.{send, send_in, send_context, send_channel, make, make_context}
use Rattle.walk_rules.specs.Contexts.{public_of}

pub send_to_context : (event to : Value) (slot : ℕ) → to ≡ value.Context slot → send event to ≡ send_context event slot
send_to_context event to slot is = ap (λ v. send_in event (out-Value v)) is ∙ ap (send_in event) (value.outs-Context slot)

pub send_to_channel : (event to : Value) (channel : List ℕ) → to ≡ value.Text channel → send event to ≡ send_channel event channel
send_to_channel event to channel is = ap (λ v. send_in event (out-Value v)) is ∙ ap (send_in event) (value.outs-Text channel)

module _ (event to : Value) (not_context : (slot : ℕ) → to ≡ value.Context slot → ⊥) (not_channel : (channel : List ℕ) → to ≡ value.Text channel → ⊥) where
  elsewhere : (d : Value-F Value Pair) → out-Value to ≡ d → send_in event d ≡ given (Err fault.NoContext)
  elsewhere (layer.Integer n) is = refl
  elsewhere (layer.Boolean b) is = refl
  elsewhere (layer.Text t) is = absurd (not_channel t (sym (roll-out-Value to) ∙ ap roll-Value is ∙ value.rolls-Text t))
  elsewhere (layer.Sequence items) is = refl
  elsewhere (layer.Dictionary pairs) is = refl
  elsewhere (layer.Event n fields) is = refl
  elsewhere (layer.Context slot) is = absurd (not_context slot (sym (roll-out-Value to) ∙ ap roll-Value is ∙ value.rolls-Context slot))
  elsewhere layer.NoContext is = refl
  elsewhere (layer.Listener birth) is = refl

  -- to nothing else is sent
  pub send_elsewhere : send event to ≡ given (Err fault.NoContext)
  send_elsewhere = elsewhere (out-Value to) refl

pub make_nothing : (arguments : List Value) → length arguments ≡ 0 → make_context arguments ≡ pure value.NoContext
unfolding make_context
make_nothing [] h = refl
make_nothing (x ∷ xs) h = absurd (omega arith)

pub make_named : (arguments : List Value) (name : Value) → slice_get arguments 0 ≡ Some name → make_context arguments ≡ make name (public_of arguments)
unfolding make_context
make_named [] name h = cc
make_named (x ∷ []) name h = let e : x ≡ name = cc in ap (λ v. make v (public_of (x ∷ []))) e
make_named (x ∷ y ∷ xs) name h = let e : x ≡ name = cc in ap (λ v. make v (public_of (x ∷ y ∷ xs))) e
