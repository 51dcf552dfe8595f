-- A run leaves the globals with the shapes of its monitor, whatever it answers.
use Rattle.std.proofs.Common.{◌≡◌, ℕ, List, [], Option, Some, None, Result, refl, subst}
use Rattle.std.specs.List.{All}
use Rattle.epl_values.specs.declared.value.Value.{Value}
use Rattle.typed_program.specs.declared.program.Program.{Program}
use Rattle.typed_program.specs.Typed.{Typed}
use Rattle.action_host.specs.Scenes.{Scene}
use Rattle.action_host.specs.Told.{Told}
use Rattle.body_meaning.specs.declared.run.Frame.{Frame}
use Rattle.body_meaning.specs.Acts.{act}
use Rattle.body_meaning.specs.Runs.{Outcome, Went, Ended}
use Rattle.value_shapes.specs.Fits.{AllFit}
use Rattle.walk_rules.specs.declared.stop.Stop.{Stop}
use Rattle.walk_rules.specs.Ran.{did_of, state_of}
use Rattle.walk_rules.proofs.Keeping.{walks_keeps}
use Rattle.path_bases.specs.Locals.{values_in}
use Rattle.path_bases.specs.declared.locals.Got.{Got}
use Rattle.path_bases.specs.Tells.{Tells}
use Rattle.typed_runs.specs.Bodies.{Head, head_of, GlobalsFit, HeadFits, BodyFits, StillFit}
use Rattle.typed_runs.specs.Kept.{RunFits}
use Rattle.tree_walker.proofs.Coming.{begun_over}

-- globals of the shapes of a monitor
abbrev Keep : Program → ℕ → Frame → Type 0
Keep program monitor frame = GlobalsFit program monitor frame.globals

-- behind each change they have them
frames_fit : (program : Program) (monitor : ℕ) (o : Outcome (Option Value)) → RunFits program monitor o → All (Keep program monitor) (did_of o).frames
frames_fit program monitor (Went did x s) fits = fits.0.frames
frames_fit program monitor (Ended did why s) fits = fits.0.frames

module _ (law : (program : Program) → Typed program → (body : ℕ) (head : Head) → head_of program body ≡ Some head → (globals locals : List Value) → GlobalsFit program head.monitor globals → AllFit program.types locals head.params → (scene : Scene) (draws : List ℕ) → RunFits program head.monitor (act program body locals (record { scene = scene; draws = draws; frame = record { globals = globals; locals = [] } }))) (program : Program) (typed : Typed program) (body : ℕ) (globals locals : List Value) where
  module _ {old new : Told} {later : Frame} {r : Result (Option Value) Stop} (run : Tells (act program body locals) old (begun_over globals) new later r) where
    by_head : (o : Option Head) → head_of program body ≡ o → HeadFits program globals locals o → StillFit program later.globals o
    by_head None is fits = tt
    by_head (Some head) is fits = subst (GlobalsFit program head.monitor) run.globals (walks_keeps (Keep program head.monitor) (act program body locals) old (begun_over globals) fits.0 (λ draws. frames_fit program head.monitor (act program body locals (state_of old draws (begun_over globals))) (law program typed body head is globals locals fits.0 fits.1 old.scene draws)) run.walks)

    -- behind it
    pub fits_behind : BodyFits program body globals locals → StillFit program later.globals (head_of program body)
    fits_behind fits = by_head (head_of program body) refl fits

  -- the same of a run over locals with these values
  pub shapes_stay : (gots : List Got) → values_in gots ≡ locals → {old new : Told} {later : Frame} {r : Result (Option Value) Stop} → BodyFits program body globals locals → Tells (act program body (values_in gots)) old (begun_over globals) new later r → StillFit program later.globals (head_of program body)
  shapes_stay gots is {old} {new} {later} {r} fits run = fits_behind (subst (λ l. Tells (act program body l) old (begun_over globals) new later r) is run) fits
