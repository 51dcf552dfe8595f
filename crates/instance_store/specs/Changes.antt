-- What befalls the instances of a context.
use Rattle.std.specs.Prelude.{◌≡◌, ℕ, Bool, List, [], Option, Some, None, IsSome, Result, Ok, Err}
use Rattle.epl_values.specs.declared.value.Value.{Value}
use Rattle.slot_arena.specs.declared.key.Key.{Key}
use Rattle.slot_arena.specs.declared.key.Stale.{Stale}
use Rattle.slot_arena.specs.Arena.{Arena, found, Returns}
use Rattle.slot_arena.specs.Course.{with_value}
use Rattle.instance_store.specs.declared.instances.Instance.{Instance}
use Rattle.instance_store.specs.declared.fault.HoldFault.{HoldFault}
use Rattle.instance_store.specs.declared.fault.HoldFault.TheVariants as fault
use Rattle.instance_store.specs.Channels.{holds, with_one, without_one}

-- an instance that begins
abbrev pub begun : ℕ → List Value → Instance
begun monitor globals = record { monitor = monitor; globals = globals; held = [] }

-- a key names an instance of this monitor
abbrev pub HasMonitor : Arena Instance → Key → ℕ → Type 0
HasMonitor a key monitor = (i : Instance) × (found a key ≡ Some i) × (i.monitor ≡ monitor)

-- a key names an instance with these globals
abbrev pub HasGlobals : Arena Instance → Key → List Value → Type 0
HasGlobals a key globals = (i : Instance) × (found a key ≡ Some i) × (i.globals ≡ globals)

-- the instance of a key has other globals
abbrev pub put_globals : List Value → Option Instance → Arena Instance → Key → Arena Instance
put_globals globals None a key = a
put_globals globals (Some i) a key = with_value a key (record i { globals = globals })

abbrev pub with_globals : Arena Instance → Key → List Value → Arena Instance
with_globals a key globals = put_globals globals (found a key) a key

-- the key names nothing, and all stays
abbrev pub Misses : Arena Instance → Arena Instance → Key → Type 0
Misses old new key = (found old key ≡ None) × (new ≡ old)

-- the instance of the key holds the channel once more; or there was none, or no memory, and all stays
abbrev pub HoldFails : Arena Instance → Arena Instance → Key → HoldFault → Type 0
HoldFails old new key fault.Stale = Misses old new key
HoldFails old new key fault.Memory = IsSome (found old key) × (new ≡ old)

abbrev pub Holds : {A : Type 0} → Arena Instance → Arena Instance → Key → List ℕ → Result A HoldFault → Type 0
Holds old new key channel (Ok x) = (i : Instance) × (found old key ≡ Some i) × (new ≡ with_value old key (record i { held = with_one channel i.held }))
Holds old new key channel (Err why) = HoldFails old new key why

-- the instance of the key holds the channel once less, where it held it; or there was none, and all stays
abbrev pub Releases : Arena Instance → Arena Instance → Key → List ℕ → Result Bool Stale → Type 0
Releases old new key channel (Ok was) = (i : Instance) × (found old key ≡ Some i) × (was ≡ holds channel i.held) × (new ≡ with_value old key (record i { held = without_one channel i.held }))
Releases old new key channel (Err why) = Misses old new key

-- the instance of the key is gone, and these are the channels that it held; or there was none, and all stays
abbrev pub Ends : Arena Instance → Arena Instance → Key → Result (List (List ℕ)) Stale → Type 0
Ends old new key (Ok channels) = (i : Instance) × (found old key ≡ Some i) × (channels ≡ i.held) × Returns old new key
Ends old new key (Err why) = Misses old new key
