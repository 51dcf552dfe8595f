-- What the instances end as, where a `&mut` to the globals of one is returned.
use Rattle.std.specs.Prelude.{Result, List}
use Rattle.std.specs.Borrow.{LendsIfOk, Fml, MutBor}
use Rattle.lists.specs.contracts.list.List.{the_row as list_row}
use Rattle.epl_values.specs.declared.value.Value.{Value}
use Rattle.epl_values.specs.contracts.value.Value.{the_row as value_row}
use Rattle.slot_arena.specs.declared.key.Key.{Key}
use Rattle.slot_arena.specs.declared.key.Stale.{Stale}
use Rattle.slot_arena.specs.Arena.{Arena}
use Rattle.instance_store.specs.declared.instances.Instance.{Instance}
use Rattle.instance_store.specs.contracts.instances.Instances.{the_row}
use Rattle.instance_store.specs.Changes.{with_globals}

-- once the borrow ends, the instance has the globals that were last written through it; where none is given, all stays
abbrev pub lends_globals : MutBor (Arena Instance) → Key → Result (MutBor (List Value)) Stale → Fml
lends_globals s key r = LendsIfOk the_row (list_row value_row) s r (with_globals s.now key) s.now
