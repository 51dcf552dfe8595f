-- Contexts, and the changes that they undergo.
use Rattle.context_meaning.specs.Common.{ℕ, List, [], Bool, true, false, not, Option, Some, None, find, map, length, Value, Line, Instance, Waiting}
use Rattle.context_meaning.specs.Listeners.{Listener}
use Rattle.term_meaning.specs.UnderWay.{UnderWay}
use Rattle.std.specs.Prelude.{ℤ, pos, ◌+◌, ◌∷◌, ◌++◌, ◌==◌, if◌then◌else◌, ◌-◌, nat_le, filter}
use Rattle.std.specs.List.{list_any}
use Rattle.action_host.specs.Scenes.{Scene}

-- A context: its slot, and how many slots there are; its clock, in tenths of a second; the fuel that is left; how many listeners were born and instances begun, and
-- those that live, in that order; what was put in a row while the thing of the moment is handled, and what waits in front; its
-- lines; whether it is spent.
pub record Context : Type 0 where
  pub slot : ℕ
  pub slots : ℕ
  pub clock : ℤ
  pub fuel : ℕ
  pub births : ℕ
  pub begun : ℕ
  pub instances : List Instance
  pub listeners : List Listener
  pub row : List Waiting
  pub front : List Waiting
  pub lines : List Line
  pub spent : Bool

-- before it has handled anything
abbrev pub fresh : ℕ → ℕ → ℕ → Context
fresh slot slots fuel = record { slot = slot; slots = slots; clock = pos 0; fuel = fuel; births = 0; begun = 0; instances = []; listeners = []; row = []; front = []; lines = []; spent = false }

-- what a body of it sees; `ondie` is running or not
abbrev pub scene_of : Bool → Context → Scene
scene_of ending c = record { slot = c.slot; slots = c.slots; fuel = c.fuel; births = c.births; made = 0; subscriptions = []; held = []; ending = ending }

-- something is done with what is there, and nothing where nothing is
abbrev pub with_some : {A : Type 0} → Option A → (A → Context → Context) → Context → Context
with_some None go c = c
with_some (Some a) go c = go a c

-- ---- fuel

abbrev pub spend : Context → Context
spend c = record c { spent = true }

abbrev pub with_fuel : ℕ → Context → Context
with_fuel fuel c = record c { fuel = fuel }

-- a charge; where there is less fuel the context is spent, and nothing is taken
abbrev pub paid : ℕ → Context → Context
paid amount c = if nat_le amount c.fuel then with_fuel (c.fuel - amount) c else spend c

-- nothing is done in a context that is spent
abbrev pub unless_spent : (Context → Context) → Context → Context
unless_spent go c = if c.spent then c else go c

-- what stands behind a charge: nothing more where there is less fuel
abbrev pub behind_charge : ℕ → (Context → Context) → Context → Context
behind_charge amount go c = if nat_le amount c.fuel then go (with_fuel (c.fuel - amount) c) else spend c

-- ---- the clock

abbrev pub with_clock : ℤ → Context → Context
with_clock now c = record c { clock = now }

-- ---- instances

abbrev pub is_instance : ℕ → Instance → Bool
is_instance number i = i.number == number

abbrev pub instance_of : ℕ → Context → Option Instance
instance_of number c = find (is_instance number) c.instances

abbrev pub has_instances : Context → Bool
has_instances c = not (length c.instances == 0)

-- an instance begins behind the others, with these globals
abbrev pub with_instance : ℕ → List Value → Context → Context
with_instance monitor globals c = record c { begun = c.begun + 1; instances = c.instances ++ (record { number = c.begun + 1; monitor = monitor; globals = globals }) ∷ [] }

abbrev pub without_instance : ℕ → Context → Context
without_instance number c = record c { instances = filter (λ i. not (is_instance number i)) c.instances }

-- the first instance with this number gets these globals
abbrev pub put_globals : ℕ → List Value → List Instance → List Instance
put_globals number globals [] = []
put_globals number globals (i ∷ is) = if is_instance number i then (record i { globals = globals }) ∷ is else i ∷ put_globals number globals is

abbrev pub with_globals : ℕ → List Value → Context → Context
with_globals number globals c = record c { instances = put_globals number globals c.instances }

-- ---- listeners

abbrev pub is_its : ℕ → Listener → Bool
is_its instance l = l.instance == instance

abbrev pub is_born : ℕ → Listener → Bool
is_born birth l = l.birth == birth

-- the live listener of a birth
abbrev pub listener_of : ℕ → Context → Option Listener
listener_of birth c = find (is_born birth) c.listeners

abbrev pub births_in : Context → List ℕ
births_in c = map (λ l. l.birth) c.listeners

-- an instance has a live listener
abbrev pub is_busy : ℕ → Context → Bool
is_busy instance c = list_any (is_its instance) c.listeners

-- a listener is born, the last in order of birth
abbrev pub with_listener : ℕ → ℕ → List Value → UnderWay → Context → Context
with_listener instance site captured expression c = record c { births = c.births + 1; listeners = c.listeners ++ (record { birth = c.births + 1; instance = instance; site = site; captured = captured; expression = expression }) ∷ [] }

-- the first listener of this birth gets this event expression
abbrev pub put_expression : ℕ → UnderWay → List Listener → List Listener
put_expression birth expression [] = []
put_expression birth expression (l ∷ ls) = if is_born birth l then (record l { expression = expression }) ∷ ls else l ∷ put_expression birth expression ls

abbrev pub with_expression : ℕ → UnderWay → Context → Context
with_expression birth expression c = record c { listeners = put_expression birth expression c.listeners }

abbrev pub without_listeners : ℕ → Context → Context
without_listeners instance c = record c { listeners = filter (λ l. not (is_its instance l)) c.listeners }

-- a listener that is quit lives no longer; the empty one, 0, is none
abbrev pub without_birth : ℕ → Context → Context
without_birth birth c = record c { listeners = filter (λ l. not (is_born birth l)) c.listeners }

-- ---- lines, the row and the front

abbrev pub with_line : Line → Context → Context
with_line l c = record c { lines = c.lines ++ l ∷ [] }

-- one thing more in the row
abbrev pub in_row : Waiting → Context → Context
in_row w c = record c { row = c.row ++ w ∷ [] }

-- the row and then this stand before what waits
abbrev pub row_in_front : List Waiting → Context → Context
row_in_front marks c = record c { front = c.row ++ marks ++ c.front; row = [] }

abbrev pub with_front : List Waiting → Context → Context
with_front front c = record c { front = front }
