-- That a call does what a run means, whatever draws are still to come behind its own.
use Rattle.std.specs.Prelude.{◌≡◌, ℕ, ◌≤◌, ◌<◌, List, [], ◌∷◌, ◌++◌, Result, Ok, Err}
use Rattle.std.specs.List.{Contains}
use Rattle.epl_values.specs.declared.value.Value.{Value}
use Rattle.action_host.specs.Told.{Told}
use Rattle.body_meaning.specs.declared.run.Flow.{Flow}
use Rattle.body_meaning.specs.declared.run.Frame.{Frame}
use Rattle.body_meaning.specs.declared.run.Halt.{Halt}
use Rattle.body_meaning.specs.Runs.{State, Did, Outcome, Went, Ended, M, behind}
use Rattle.body_meaning.specs.Statements.{turns, while_of}
use Rattle.walk_rules.specs.declared.stop.Stop.{Stop}
use Rattle.walk_rules.specs.declared.stop.Stop.TheVariants.{Halted, Memory}

-- what a host tells and the variables, with draws still to come
abbrev pub state_of : Told → List ℕ → Frame → State
state_of told draws frame = record { scene = told.scene; draws = draws; frame = frame }

-- a run goes on with a value, or ends at once
abbrev pub outcome_of : {A : Type 0} → Result A Halt → Did → State → Outcome A
outcome_of (Ok x) did s = Went did x s
outcome_of (Err why) did s = Ended did why s

-- what a run did
abbrev pub did_of : {A : Type 0} → Outcome A → Did
did_of (Went did x s) = did
did_of (Ended did why s) = did

-- the variables behind these changes
abbrev pub standing : Frame → List Frame → Frame
standing frame [] = frame
standing frame (next ∷ others) = standing next others

-- The call took the effects of the run and ended as it does, with the numbers that it drew as the draws to come. The
-- variables are those behind the last change of the run.
pub record Ran {A : Type 0} (m : M A) (old : Told) (frame : Frame) (new : Told) (frame' : Frame) (result : Result A Halt) : Type 0 where
  pub draws : List ℕ
  pub did : Did
  pub drawn : new.drawn ≡ old.drawn ++ draws
  pub taken : new.taken ≡ old.taken ++ did.effects
  pub gives : (rest : List ℕ) → m (state_of old (draws ++ rest) frame) ≡ outcome_of result did (state_of new rest frame')
  pub falls : new.scene.fuel ≤ old.scene.fuel
  pub stands : frame' ≡ standing frame did.frames

-- A call that stopped for want of memory left the variables as they were before it, or behind one of the changes of the run.
pub record Passes {A : Type 0} (m : M A) (old : Told) (frame frame' : Frame) : Type 0 where
  pub draws : List ℕ
  pub passed : (rest : List ℕ) → Contains (frame ∷ (did_of (m (state_of old (draws ++ rest) frame))).frames) frame'

-- by its result
abbrev pub Does : {A : Type 0} → M A → Told → Frame → Told → Frame → Result A Stop → Type 0
Does m old frame new frame' (Ok x) = Ran m old frame new frame' (Ok x)
Does m old frame new frame' (Err (Halted why)) = Ran m old frame new frame' (Err why)
Does m old frame new frame' (Err Memory) = Passes m old frame frame'

-- the call does what the run means
pub record Walks {A : Type 0} (m : M A) (old : Told) (frame : Frame) (new : Told) (frame' : Frame) (result : Result A Stop) : Type 0 where
  pub does : Does m old frame new frame' result

-- a run comes to another run, somewhere further on
pub record Leads {A : Type 0} (m : M A) (old : Told) (frame : Frame) (n : M A) (new : Told) (frame' : Frame) : Type 0 where
  pub draws : List ℕ
  pub did : Did
  pub drawn : new.drawn ≡ old.drawn ++ draws
  pub taken : new.taken ≡ old.taken ++ did.effects
  pub gives : (rest : List ℕ) → m (state_of old (draws ++ rest) frame) ≡ behind did (n (state_of new rest frame'))
  pub falls : new.scene.fuel ≤ old.scene.fuel
  pub stands : frame' ≡ standing frame did.frames

-- a loop came to its next turn, with more turns left than there is fuel
pub record Turning (test : M Value) (body : M Flow) (old : Told) (frame : Frame) (new : Told) (frame' : Frame) : Type 0 where
  pub left : ℕ
  pub enough : new.scene.fuel < left
  pub leads : Leads (while_of test body) old frame (turns left test body) new frame'
