-- What a store ends as, where a `&mut` to one of its values is returned.
use Rattle.std.specs.Prelude.{Result}
use Rattle.std.specs.Borrow.{Lends, LendsIfOk, Fml, RattleType, MutBor}
use Rattle.slot_arena.specs.declared.key.Key.{Key}
use Rattle.slot_arena.specs.declared.key.Stale.{Stale}
use Rattle.slot_arena.specs.contracts.slots.Slots.{the_row}
use Rattle.slot_arena.specs.Arena.{Arena}
use Rattle.slot_arena.specs.Course.{with_value}

module _ (T : RattleType) (s : MutBor (Arena T.Denot)) (key : Key) where
  -- once the borrow ends, the key names the last value written through it
  abbrev pub lends_value : MutBor T.Denot → Fml
  lends_value r = Lends (the_row T) T s r (with_value s.now key)

  -- the same where a reference is given, and else all stays
  abbrev pub lends_found : Result (MutBor T.Denot) Stale → Fml
  lends_found r = LendsIfOk (the_row T) T s r (with_value s.now key) s.now
