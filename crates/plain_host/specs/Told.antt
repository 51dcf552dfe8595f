-- What a plain host tells.
use Rattle.std.specs.Prelude.{◌≡◌, [], ◌∷◌, ◌++◌}
use Rattle.action_host.specs.declared.host.Effect.{Effect}
use Rattle.action_host.specs.declared.host.Answer.{Answer}
use Rattle.action_host.specs.declared.host.Answer.TheVariants as answer
use Rattle.action_host.specs.Scenes.{Scene}
use Rattle.action_host.specs.Told.{Told}
use Rattle.plain_host.specs.declared.state.PlainHost.{PlainHost}

abbrev pub scene_of : PlainHost → Scene
scene_of h = record { slot = h.slot; slots = h.slots; fuel = h.fuel; births = h.births; made = h.made; subscriptions = h.subscriptions; held = h.held; ending = h.ending }

-- it draws nothing
abbrev pub told_of : PlainHost → Told
told_of h = record { scene = scene_of h; taken = h.taken; drawn = [] }

-- an effect is taken that changes nothing else
pub record Keeps (old : PlainHost) (e : Effect) (new : PlainHost) (a : Answer) : Type 0 where
  pub nothing : a ≡ answer.Nothing
  pub scene : scene_of new ≡ scene_of old
  pub taken : new.taken ≡ old.taken ++ e ∷ []
