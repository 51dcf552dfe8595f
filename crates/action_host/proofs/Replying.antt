-- What answers to effects leave of the scene, and what they give.
use Rattle.std.proofs.Common.{◌≡◌, ℕ, ◌+◌, Bool, true, false, List, [], refl, arith}
use Rattle.std.specs.Prelude.{if◌then◌else◌, nat_lt, ◌==◌}
use Rattle.epl_values.specs.declared.value.Value.TheVariants as value
use Rattle.action_host.specs.declared.host.Fault.{Fault}
use Rattle.action_host.specs.declared.host.Fault.TheVariants as fault
use Rattle.action_host.specs.declared.host.Effect.{Effect}
use Rattle.action_host.specs.declared.host.Effect.TheVariants as effect
use Rattle.action_host.specs.declared.host.Answer.TheVariants as answer
use Rattle.action_host.specs.Scenes.{Scene, holds}
use Rattle.action_host.specs.Replies.{quiet, replies, subscribing, unsubscribing, opening, making}
use Rattle.action_host.specs.Lawful.{Gives, IsLawful, RepliesAreLawful}
use Rattle.action_host.proofs.Counting.{counted_order, uncounted_order}

-- an answer behind which the scene is as before
same_scene : (e : Effect) (scene : Scene) (draws : List ℕ) → Gives e answer.Nothing → IsLawful e scene (quiet scene draws)
same_scene e scene draws h = record { gives = h; changes = tt; fuel = refl; slot = refl; slots = refl; ending = refl; births = omega arith; made = omega arith; subscriptions = λ a. a; held = λ a. a }

failing : (name : List ℕ) (public : Bool) (scene : Scene) (draws : List ℕ) (why : Fault) → IsLawful (effect.MakeContext name public) scene (replies (answer.Fails why) scene draws)
failing name public scene draws why = record { gives = tt; changes = refl; fuel = refl; slot = refl; slots = refl; ending = refl; births = omega arith; made = omega arith; subscriptions = λ a. a; held = λ a. a }

listens : (b : Bool) (site : ℕ) (operands captured : List _) (scene : Scene) (draws : List ℕ)
    → IsLawful (effect.Listen site operands captured) scene (if b then replies (answer.Gives (value.Listener 0)) scene draws else replies (answer.Gives (value.Listener (scene.births + 1))) (record scene { births = scene.births + 1 }) draws)
listens true site operands captured scene draws = record { gives = (0, refl); changes = tt; fuel = refl; slot = refl; slots = refl; ending = refl; births = omega arith; made = omega arith; subscriptions = λ a. a; held = λ a. a }
listens false site operands captured scene draws = record { gives = (scene.births + 1, refl); changes = tt; fuel = refl; slot = refl; slots = refl; ending = refl; births = omega arith; made = omega arith; subscriptions = λ a. a; held = λ a. a }

subscribes : (channel : List ℕ) (scene : Scene) (draws : List ℕ) → IsLawful (effect.Subscribe channel) scene (quiet (subscribing channel scene) draws)
subscribes channel scene draws = record { gives = refl; changes = tt; fuel = refl; slot = refl; slots = refl; ending = refl; births = omega arith; made = omega arith; subscriptions = counted_order channel scene.slot scene.subscriptions; held = counted_order channel scene.slot scene.held }

fewer : (channel : List ℕ) (scene : Scene) (draws : List ℕ) (b : Bool) → holds scene channel ≡ b → IsLawful (effect.Unsubscribe channel) scene (quiet (unsubscribing channel scene) draws)
fewer channel scene draws true is = rw is (record { gives = refl; changes = tt; fuel = refl; slot = refl; slots = refl; ending = refl; births = omega arith; made = omega arith; subscriptions = uncounted_order channel scene.slot scene.subscriptions; held = uncounted_order channel scene.slot scene.held })
fewer channel scene draws false is = rw is (same_scene (effect.Unsubscribe channel) scene draws refl)

opens : (b : Bool) (name : List ℕ) (scene : Scene) (draws : List ℕ) → IsLawful (effect.MakeContext name b) scene (replies (answer.Gives (value.Context (scene.made + 1))) (opening b (scene.made + 1) (record scene { made = scene.made + 1 })) draws)
opens true name scene draws = record { gives = (scene.made + 1, refl); changes = tt; fuel = refl; slot = refl; slots = refl; ending = refl; births = omega arith; made = omega arith; subscriptions = counted_order [] (scene.made + 1) scene.subscriptions; held = λ a. a }
opens false name scene draws = record { gives = (scene.made + 1, refl); changes = tt; fuel = refl; slot = refl; slots = refl; ending = refl; births = omega arith; made = omega arith; subscriptions = λ a. a; held = λ a. a }

makes : (b : Bool) (name : List ℕ) (public : Bool) (scene : Scene) (draws : List ℕ)
    → IsLawful (effect.MakeContext name public) scene (if b then replies (answer.Gives (value.Context (scene.made + 1))) (opening public (scene.made + 1) (record scene { made = scene.made + 1 })) draws else replies (answer.Fails fault.TooManyContexts) scene draws)
makes true name public scene draws = opens public name scene draws
makes false name public scene draws = failing name public scene draws fault.TooManyContexts

in_main : (b : Bool) (name : List ℕ) (public : Bool) (scene : Scene) (draws : List ℕ) → IsLawful (effect.MakeContext name public) scene (if b then making public scene draws else replies (answer.Fails fault.NotMain) scene draws)
in_main true name public scene draws = makes (nat_lt (scene.made + 1) scene.slots) name public scene draws
in_main false name public scene draws = failing name public scene draws fault.NotMain

pub reply_is_lawful : RepliesAreLawful
reply_is_lawful (effect.Print text) scene draws = same_scene (effect.Print text) scene draws refl
reply_is_lawful (effect.Log level text) scene draws = same_scene (effect.Log level text) scene draws refl
reply_is_lawful (effect.Route event) scene draws = same_scene (effect.Route event) scene draws refl
reply_is_lawful (effect.SendTo slot event) scene draws = same_scene (effect.SendTo slot event) scene draws refl
reply_is_lawful (effect.SendChannel channel event) scene draws = same_scene (effect.SendChannel channel event) scene draws refl
reply_is_lawful (effect.Spawn action along) scene draws = same_scene (effect.Spawn action along) scene draws refl
reply_is_lawful (effect.SpawnTo action along slot) scene draws = same_scene (effect.SpawnTo action along slot) scene draws refl
reply_is_lawful (effect.Listen site operands captured) scene draws = listens scene.ending site operands captured scene draws
reply_is_lawful (effect.Quit birth) scene draws = same_scene (effect.Quit birth) scene draws refl
reply_is_lawful (effect.Subscribe channel) scene draws = subscribes channel scene draws
reply_is_lawful (effect.Unsubscribe channel) scene draws = fewer channel scene draws (holds scene channel) refl
reply_is_lawful (effect.MakeContext name public) scene draws = in_main (scene.slot == 0) name public scene draws
