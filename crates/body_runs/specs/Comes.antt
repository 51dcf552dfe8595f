-- What a run of a body comes to, and what its host was told.
use Rattle.std.specs.Prelude.{◌≡◌, ℕ, List, ◌++◌}
use Rattle.epl_values.specs.declared.value.Value.{Value}
use Rattle.typed_program.specs.declared.program.Program.{Program}
use Rattle.action_host.specs.declared.host.Effect.{Effect}
use Rattle.action_host.specs.declared.host.End.{End}
use Rattle.action_host.specs.Told.{Told}
use Rattle.body_meaning.specs.Acts.{act_of}

-- a body over these globals and locals took the effects of its run, drew what it draws, and left the globals and ended as it
-- does, whatever draws are still to come behind its own
pub record Comes (program : Program) (body : ℕ) (globals locals : List Value) (old new : Told) (later : List Value) (end : End) : Type 0 where
  pub draws : List ℕ
  pub effects : List Effect
  pub drawn : new.drawn ≡ old.drawn ++ draws
  pub taken : new.taken ≡ old.taken ++ effects
  pub gives : (rest : List ℕ) → act_of program body globals locals old.scene (draws ++ rest) ≡ record { globals = later; effects = effects; end = end; scene = new.scene; draws = rest }
