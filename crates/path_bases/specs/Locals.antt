-- The locals of a running body: its own values, and those that the body around a call lends.
use Rattle.std.specs.Prelude.{ℕ, List, map, slice_get}
use Rattle.epl_values.specs.declared.value.Value.{Value}
use Rattle.body_meaning.specs.declared.run.Frame.{Frame}
use Rattle.body_meaning.specs.Paths.{or_none}
use Rattle.path_bases.specs.declared.locals.Got.{Got}
use Rattle.path_bases.specs.declared.locals.Got.TheVariants as got

abbrev pub got_value : Got → Value
got_value (got.Own v) = v
got_value (got.Lent v) = v.now

abbrev pub values_in : List Got → List Value
values_in gots = map got_value gots

-- the variables of a body
abbrev pub frame_of : List Value → List Got → Frame
frame_of globals gots = record { globals = globals; locals = values_in gots }

-- a variable that isn't there counts as no context
abbrev pub local_in : List Got → ℕ → Value
local_in gots n = or_none (slice_get (values_in gots) n)

abbrev pub global_in : List Value → ℕ → Value
global_in globals n = or_none (slice_get globals n)
