-- Where a path has come to: a value of its own, one that a local holds, or what steps lead to from a global.
use Rattle.std.specs.Prelude.{◌≡◌, Bool, true, List, Option, Some, None, slice_get, Result, Ok, Err}
use Rattle.epl_values.specs.declared.value.Value.{Value}
use Rattle.action_host.specs.declared.host.Fault.{Fault}
use Rattle.action_host.specs.declared.host.Fault.TheVariants as fault
use Rattle.action_host.specs.Told.{Told}
use Rattle.body_meaning.specs.declared.run.Frame.{Frame}
use Rattle.body_meaning.specs.declared.run.Move.{Move}
use Rattle.body_meaning.specs.Runs.{M}
use Rattle.value_steps.specs.Orderly.{IsOrderly, AreOrderlyMoves}
use Rattle.value_steps.specs.Parts.{followed}
use Rattle.walk_rules.specs.declared.stop.Stop.{Stop}
use Rattle.walk_rules.specs.declared.stop.Stop.TheVariants.{Memory}
use Rattle.path_bases.specs.declared.base.Base.{Base}
use Rattle.path_bases.specs.declared.base.Base.TheVariants as base
use Rattle.path_bases.specs.Tells.{Tells}

-- what moves lead to from a variable that is there
abbrev pub followed_from : List Move → Option Value → Result Value Fault
followed_from moves None = Err fault.IndexOutOfRange
followed_from moves (Some v) = followed moves v

-- a base stands for a value, with these globals
abbrev pub Stands : List Value → Base → Value → Type 0
Stands globals (base.Own v) w = w ≡ v
Stands globals (base.Lent v) w = w ≡ v.now
Stands globals (base.Global n moves) w = followed_from moves (slice_get globals n) ≡ Ok w

-- its dictionaries are in order
abbrev pub IsOrderlyBase : Base → Type 0
IsOrderlyBase (base.Own v) = IsOrderly v
IsOrderlyBase (base.Lent v) = IsOrderly v.now
IsOrderlyBase (base.Global n moves) = AreOrderlyMoves moves

-- a base that stands for a value while other things run, which leave the globals as they are where that is said
abbrev pub Holds : Bool → List Value → Value → Result Base Stop → Type 0
Holds still globals v (Ok b) = (later : List Value) → (still ≡ true → later ≡ globals) → Stands later b v
Holds still globals v (Err stop) = stop ≡ Memory

-- the call does what the run means, and gives a base that stands for its value
pub record Founds (m : M Value) (old : Told) (before : Frame) (new : Told) (after : Frame) (b : Base) : Type 0 where
  pub value : Value
  pub stands : Stands after.globals b value
  pub tells : Tells m old before new after (Ok value)

abbrev pub Finds : M Value → Told → Frame → Told → Frame → Result Base Stop → Type 0
Finds m old before new after (Ok b) = Founds m old before new after b
Finds m old before new after (Err stop) = Tells m old before new after (Err stop)
