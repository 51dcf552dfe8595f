-- What a place asks of an expression.
use Rattle.std.specs.Prelude.{Bool, true, false, if◌then◌else◌, Option, Some, None}
use Rattle.epl_values.specs.declared.shape.Shape.{Shape}
use Rattle.epl_values.specs.declared.shape.Shape.TheVariants as shape
use Rattle.expr_rules.specs.declared.asked.Asks.{Asks}
use Rattle.expr_rules.specs.declared.asked.Asks.TheVariants as asks
use Rattle.expr_rules.specs.declared.asked.Asked.{Asked as Asking}
use Rattle.expr_rules.specs.declared.asked.Wanted.{Wanted}
use Rattle.expr_rules.specs.declared.asked.Need.{Need}
use Rattle.expr_rules.specs.declared.asked.Paths.{Paths}
use Rattle.expr_rules.specs.declared.asked.Paths.TheVariants as paths

-- nothing, a value, a value of one shape that isn't known, exactly a shape, a scalar key, an event, a sequence, a channel or context
pub data Wish : Type 0 where
  Statement : Wish
  Value : Wish
  Unknown : Wish
  Exactly : (s : Shape) → Wish
  Key : (s : Option Shape) → Wish
  Event : Wish
  Sequence : Wish
  Channel : Wish

-- what is asked; which paths of reference type may stand there; whether a method that changes its object, or an
-- assignment, comes behind; whether a minus stands right before; whether it is what is assigned; whether it names a
-- co-assignment where none may be named
pub record Demand : Type 0 where
  pub wish : Wish
  pub paths : Paths
  pub changed : Bool
  pub signed : Bool
  pub assigned : Bool
  pub astray : Bool

abbrev pub wish_of : Asks → Wish
wish_of asks.Statement = Statement
wish_of asks.Value = Value
wish_of asks.Unknown = Unknown
wish_of (asks.Exactly s) = Exactly s.now
wish_of asks.Integer = Exactly shape.Integer
wish_of asks.Boolean = Exactly shape.Boolean
wish_of asks.Text = Exactly shape.Text
wish_of asks.Context = Exactly shape.Context
wish_of asks.AnyKey = Key None
wish_of (asks.Key s) = Key (Some s.now)
wish_of asks.Event = Event
wish_of asks.Sequence = Sequence
wish_of asks.Channel = Channel

abbrev pub demand_of : Need → Demand
demand_of need = record { wish = wish_of need.asks; paths = need.paths; changed = need.changed; signed = need.signed; assigned = need.assigned; astray = need.astray }

abbrev pub asked_by : Wish → Paths → Demand
asked_by wish permitted = record { wish = wish; paths = permitted; changed = false; signed = false; assigned = false; astray = false }

abbrev pub paths_where : Bool → Paths
paths_where permitted = if permitted then paths.Free else paths.Refused

-- what a place outside expressions asks
abbrev pub asking : Asking → Demand
asking asked = record { wish = wish_of asked.asks; paths = paths_where asked.path; changed = false; signed = false; assigned = false; astray = asked.astray }

-- a shape if it is known, and else any value
abbrev pub like : Option Shape → Wish
like None = Value
like (Some s) = Exactly s

-- the shape that a place fixes, though it may not be known: its type may be undeclared
abbrev pub fixing : Option Shape → Wish
fixing None = Unknown
fixing (Some s) = Exactly s

abbrev pub wish_wanted : Bool → Option Shape → Wish
wish_wanted true s = like s
wish_wanted false s = Statement

abbrev pub wanting : Wanted → Demand
wanting wanted = asked_by (wish_wanted wanted.result wanted.shape) (paths_where wanted.path)

-- a value that is no path
abbrev pub plain : Wish → Demand
plain wish = asked_by wish paths.Refused

-- an operand
abbrev pub operand : Demand
operand = plain Value

-- what stands right behind a minus
abbrev pub negated : Demand
negated = record { wish = Value; paths = paths.Refused; changed = false; signed = true; assigned = false; astray = false }

-- what stands before a `.` or a `[`
abbrev pub receiver : Bool → Demand
receiver changed = record { wish = Value; paths = paths.Free; changed = changed; signed = false; assigned = false; astray = false }

-- what is asked inside brackets
abbrev pub inside : Demand → Demand
inside demand = record { wish = demand.wish; paths = demand.paths; changed = demand.changed; signed = false; assigned = demand.assigned; astray = false }

-- a place that is assigned
abbrev pub assigned : Demand
assigned = record { wish = Value; paths = paths.Free; changed = true; signed = false; assigned = true; astray = false }
