-- What a host tells, and what its calls do.
use Rattle.std.specs.Prelude.{◌≡◌, ℕ, ◌-◌, ◌^◌, ◌<◌, Bool, nat_le, if◌then◌else◌, List, [], ◌∷◌, ◌++◌}
use Rattle.action_host.specs.declared.host.Effect.{Effect}
use Rattle.action_host.specs.declared.host.Answer.{Answer}
use Rattle.action_host.specs.declared.host.Answer.TheVariants as answer
use Rattle.action_host.specs.Scenes.{Scene, spent_by}
use Rattle.action_host.specs.Replies.{replies, reply}

-- the scene, the effects taken, and the numbers drawn
pub record Told : Type 0 where
  pub scene : Scene
  pub taken : List Effect
  pub drawn : List ℕ

-- an effect that fails isn't listed
abbrev pub listed : Answer → Effect → List Effect
listed answer.Nothing e = e ∷ []
listed (answer.Gives value) e = e ∷ []
listed (answer.Fails fault) e = []

abbrev pub charged : Bool → ℕ → Told → Told
charged granted amount told = if granted then record told { scene = spent_by told.scene amount } else told

-- a charge is granted exactly where there is as much fuel, and then the fuel falls by it; nothing else changes
pub record Charges (old : Told) (amount : ℕ) (new : Told) (granted : Bool) : Type 0 where
  pub small : old.scene.fuel < 2 ^ 64 - 1
  pub answer : granted ≡ nat_le amount old.scene.fuel
  pub new_is : new ≡ charged granted amount old

-- an effect is answered as the scene replies, with the numbers that are drawn at the front of any that are still to come
pub record Takes (old : Told) (e : Effect) (new : Told) (given : Answer) : Type 0 where
  pub new_draws : List ℕ
  pub drawn : new.drawn ≡ old.drawn ++ new_draws
  pub taken : new.taken ≡ old.taken ++ listed given e
  pub gives : (rest : List ℕ) → reply e old.scene (new_draws ++ rest) ≡ replies given new.scene rest
