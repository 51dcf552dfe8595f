-- What holds of answers to effects, and of counts.
use Rattle.std.specs.Prelude.{◌≡◌, ℕ, ◌+◌, ◌-◌, ◌≤◌, ◌==◌, false, List}
use Rattle.std.specs.List.{list_any}
use Rattle.std.specs.Ordering.{is_eq}
use Rattle.epl_values.specs.declared.value.Value.TheVariants as value
use Rattle.action_host.specs.declared.host.Effect.{Effect}
use Rattle.action_host.specs.declared.host.Effect.TheVariants as effect
use Rattle.action_host.specs.declared.host.Answer.{Answer}
use Rattle.action_host.specs.declared.host.Answer.TheVariants as answer
use Rattle.action_host.specs.declared.tally.Tally.{Tally}
use Rattle.action_host.specs.Counts.{AreCounts, count_of, counted, once, place_cmp, uncounted}
use Rattle.action_host.specs.Scenes.{Scene, is_target, targets}
use Rattle.action_host.specs.Replies.{Reply, reply}

abbrev pub GivesListener : Answer → Type 0
GivesListener answer.Nothing = ⊥
GivesListener (answer.Gives v) = (birth : ℕ) × (v ≡ value.Listener birth)
GivesListener (answer.Fails fault) = ⊥

abbrev pub GivesContext : Answer → Type 0
GivesContext answer.Nothing = ⊥
GivesContext (answer.Gives v) = (slot : ℕ) × (v ≡ value.Context slot)
GivesContext (answer.Fails fault) = Unit {0}

-- what an effect gives: a listener, a context or a fault, and else nothing
abbrev pub Gives : Effect → Answer → Type 0
Gives (effect.Listen site operands captured) a = GivesListener a
Gives (effect.MakeContext name public) a = GivesContext a
Gives e a = a ≡ answer.Nothing

-- an effect that fails changes nothing
abbrev pub Changes : Scene → Scene → Answer → Type 0
Changes old new answer.Nothing = Unit {0}
Changes old new (answer.Gives v) = Unit {0}
Changes old new (answer.Fails fault) = new ≡ old

-- the fuel, the slot, the number of slots and whether `ondie` runs stay; births and contexts made never fall; counts stay in order
pub record IsLawful (e : Effect) (old : Scene) (r : Reply) : Type 0 where
  pub gives : Gives e r.answer
  pub changes : Changes old r.scene r.answer
  pub fuel : r.scene.fuel ≡ old.fuel
  pub slot : r.scene.slot ≡ old.slot
  pub slots : r.scene.slots ≡ old.slots
  pub ending : r.scene.ending ≡ old.ending
  pub births : old.births ≤ r.scene.births
  pub made : old.made ≤ r.scene.made
  pub subscriptions : AreCounts old.subscriptions → AreCounts r.scene.subscriptions
  pub held : AreCounts old.held → AreCounts r.scene.held

abbrev pub RepliesAreLawful : Type 0
RepliesAreLawful = (e : Effect) (scene : Scene) (draws : List ℕ) → IsLawful e scene (reply e scene draws)

-- at that place and at another, one more and one less
pub record IsCounted (channel : List ℕ) (slot : ℕ) (old more fewer : List Tally) : Type 0 where
  pub more_order : AreCounts more
  pub more_here : count_of channel slot more ≡ count_of channel slot old + 1
  pub more_there : (c : List ℕ) (s : ℕ) → is_eq (place_cmp (once channel slot) (once c s)) ≡ false → count_of c s more ≡ count_of c s old
  pub fewer_order : AreCounts fewer
  pub fewer_here : count_of channel slot fewer ≡ count_of channel slot old - 1
  pub fewer_there : (c : List ℕ) (s : ℕ) → is_eq (place_cmp (once channel slot) (once c s)) ≡ false → count_of c s fewer ≡ count_of c s old

abbrev pub CountsAreLawful : Type 0
CountsAreLawful = (channel : List ℕ) (slot : ℕ) (counts : List Tally) → AreCounts counts → IsCounted channel slot counts (counted channel slot counts) (uncounted channel slot counts)

-- a slot is among those that a channel leads to exactly where it is counted for it
abbrev pub TargetsAreCounted : Type 0
TargetsAreCounted = (channel : List ℕ) (slot : ℕ) (scene : Scene) → AreCounts scene.subscriptions → list_any (λ s. s == slot) (targets scene channel) ≡ is_target scene channel slot
