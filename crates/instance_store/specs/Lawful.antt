-- What holds of the channels that an instance holds.
use Rattle.std.specs.Prelude.{◌≡◌, ℕ, ◌+◌, ◌-◌, false, nat_lt, List}
use Rattle.std.specs.Str.{bytes_eq}
use Rattle.instance_store.specs.Channels.{Ascend, held_times, holds, with_one, without_one}

-- one more and one less of a channel, and all others
pub record AreCounted (channel : List ℕ) (old more fewer : List (List ℕ)) : Type 0 where
  pub more_order : Ascend more
  pub more_here : held_times channel more ≡ held_times channel old + 1
  pub more_there : (c : List ℕ) → bytes_eq channel c ≡ false → held_times c more ≡ held_times c old
  pub fewer_order : Ascend fewer
  pub fewer_here : held_times channel fewer ≡ held_times channel old - 1
  pub fewer_there : (c : List ℕ) → bytes_eq channel c ≡ false → held_times c fewer ≡ held_times c old
  pub held : holds channel old ≡ nat_lt 0 (held_times channel old)

abbrev pub ChannelsAreCounted : Type 0
ChannelsAreCounted = (channel : List ℕ) (old : List (List ℕ)) → Ascend old → AreCounted channel old (with_one channel old) (without_one channel old)
