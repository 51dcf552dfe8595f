-- How a context answers the effects of a body.
use Rattle.std.specs.Prelude.{ℕ, ◌+◌, ◌==◌, nat_lt, Bool, if◌then◌else◌, List, []}
use Rattle.epl_values.specs.declared.value.Value.TheVariants as value
use Rattle.action_host.specs.declared.host.Fault.TheVariants as fault
use Rattle.action_host.specs.declared.host.Effect.{Effect}
use Rattle.action_host.specs.declared.host.Effect.TheVariants as effect
use Rattle.action_host.specs.declared.host.Answer.{Answer}
use Rattle.action_host.specs.declared.host.Answer.TheVariants as answer
use Rattle.action_host.specs.Counts.{counted, uncounted}
use Rattle.action_host.specs.Scenes.{Scene, holds}

-- an answer, the scene behind it, and the draws that are still to come
pub record Reply : Type 0 where
  pub answer : Answer
  pub scene : Scene
  pub draws : List ℕ

abbrev pub replies : Answer → Scene → List ℕ → Reply
replies a scene draws = record { answer = a; scene = scene; draws = draws }

abbrev pub quiet : Scene → List ℕ → Reply
quiet scene draws = replies answer.Nothing scene draws

-- a listener has the next birth; in `ondie` none is made
abbrev pub listening : Scene → List ℕ → Reply
listening scene draws = if scene.ending then replies (answer.Gives (value.Listener 0)) scene draws else replies (answer.Gives (value.Listener (scene.births + 1))) (record scene { births = scene.births + 1 }) draws

-- one more
abbrev pub subscribing : List ℕ → Scene → Scene
subscribing channel scene = record scene { subscriptions = counted channel scene.slot scene.subscriptions; held = counted channel scene.slot scene.held }

-- one less, where one is held
abbrev pub unsubscribing : List ℕ → Scene → Scene
unsubscribing channel scene = if holds scene channel then record scene { subscriptions = uncounted channel scene.slot scene.subscriptions; held = uncounted channel scene.slot scene.held } else scene

-- a context that takes events without a channel is subscribed to the empty one
abbrev pub opening : Bool → ℕ → Scene → Scene
opening public slot scene = if public then record scene { subscriptions = counted [] slot scene.subscriptions } else scene

-- the next slot, in the main context, while there is one
abbrev pub making : Bool → Scene → List ℕ → Reply
making public scene draws =
    if nat_lt (scene.made + 1) scene.slots then replies (answer.Gives (value.Context (scene.made + 1))) (opening public (scene.made + 1) (record scene { made = scene.made + 1 })) draws else replies (answer.Fails fault.TooManyContexts) scene draws

abbrev pub reply : Effect → Scene → List ℕ → Reply
reply (effect.Listen site operands captured) scene draws = listening scene draws
reply (effect.Subscribe channel) scene draws = quiet (subscribing channel scene) draws
reply (effect.Unsubscribe channel) scene draws = quiet (unsubscribing channel scene) draws
reply (effect.MakeContext name public) scene draws = if scene.slot == 0 then making public scene draws else replies (answer.Fails fault.NotMain) scene draws
reply e scene draws = quiet scene draws
