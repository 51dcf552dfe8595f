-- That a call does what a run means, told of the globals alone where it stopped: the locals that stood there are gone by then.
use Rattle.std.specs.Prelude.{◌≡◌, OnOk, Result}
use Rattle.action_host.specs.Told.{Told}
use Rattle.body_meaning.specs.declared.run.Frame.{Frame}
use Rattle.body_meaning.specs.Runs.{M}
use Rattle.walk_rules.specs.declared.stop.Stop.{Stop}
use Rattle.walk_rules.specs.Ran.{Walks}

pub record Tells {A : Type 0} (m : M A) (old : Told) (before : Frame) (new : Told) (after : Frame) (result : Result A Stop) : Type 0 where
  pub at : Frame
  pub globals : at.globals ≡ after.globals
  pub locals : OnOk result (at.locals ≡ after.locals)
  pub walks : Walks m old before new at result
