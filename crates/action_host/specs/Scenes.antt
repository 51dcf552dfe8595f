-- What a body sees of the context that it runs in.
use Rattle.std.specs.Prelude.{ℕ, ◌-◌, ◌&&◌, nat_lt, Bool, List, length, map, filter}
use Rattle.std.specs.Str.{bytes_eq}
use Rattle.action_host.specs.declared.tally.Tally.{Tally}
use Rattle.action_host.specs.Counts.{count_of}

-- the slot of this context and how many slots there are; the fuel; the listeners born and the contexts made so far; how often
-- each context is subscribed to each channel, and what of that the running instance holds, both ascending; whether its `ondie`
-- is running
pub record Scene : Type 0 where
  pub slot : ℕ
  pub slots : ℕ
  pub fuel : ℕ
  pub births : ℕ
  pub made : ℕ
  pub subscriptions : List Tally
  pub held : List Tally
  pub ending : Bool

abbrev pub spent_by : Scene → ℕ → Scene
spent_by scene amount = record scene { fuel = scene.fuel - amount }

-- a channel leads to a context while its count is positive
abbrev pub leads_to : List ℕ → Tally → Bool
leads_to channel t = bytes_eq t.channel channel && nat_lt 0 t.count

-- the slots to which a channel leads, in ascending order
abbrev pub targets : Scene → List ℕ → List ℕ
targets scene channel = map (λ t. t.slot) (filter (leads_to channel) scene.subscriptions)

abbrev pub count_targets : Scene → List ℕ → ℕ
count_targets scene channel = length (targets scene channel)

abbrev pub is_target : Scene → List ℕ → ℕ → Bool
is_target scene channel slot = nat_lt 0 (count_of channel slot scene.subscriptions)

-- the running instance holds a channel
abbrev pub holds : Scene → List ℕ → Bool
holds scene channel = nat_lt 0 (count_of channel scene.slot scene.held)
