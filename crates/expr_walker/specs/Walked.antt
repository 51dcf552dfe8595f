-- What the walks over expressions ask, and what they come to: each does what a run means, leaves the globals in order, and gives
-- what is in order.
use Rattle.std.specs.Prelude.{ℕ, List, Result, IfOk}
use Rattle.std.specs.declared.alloc.Global.{Global}
use denote.Ref.{Bor, MutBor}
use Rattle.epl_values.specs.declared.value.Value.{Value}
use Rattle.typed_program.specs.declared.program.Program.{Program}
use Rattle.action_host.specs.Told.{Told}
use Rattle.body_meaning.specs.Runs.{M}
use Rattle.value_steps.specs.Orderly.{AreOrderly}
use Rattle.walk_rules.specs.declared.stop.Stop.{Stop}
use Rattle.path_bases.specs.declared.base.Base.{Base}
use Rattle.path_bases.specs.declared.locals.Got.{Got}
use Rattle.path_bases.specs.Bases.{Stands, IsOrderlyBase, Finds}
use Rattle.path_bases.specs.Locals.{values_in, frame_of}
use Rattle.path_bases.specs.Tells.{Tells}
use Rattle.expr_walker.specs.CallsBy.{CallsBy}

-- a walker over these locals can make the calls, and the locals are in order
pub record IsReady {H : Type 0} (told : H → Told) (prog : Program) (depth : ℕ) (pre : Global → Bor Program → ℕ → ℕ → List Got → MutBor (List Value) → MutBor H → Type 0)
    (post : Global → Bor Program → ℕ → ℕ → List Got → MutBor (List Value) → MutBor H → Result Value Stop → MutBor (List Value) → MutBor H → Type 0) (gots : List Got) : Type 0 where
  pub calls : CallsBy told prog depth pre post
  pub locals : AreOrderly (values_in gots)

module _ (old : Told) (before : List Value) (new : Told) (after : List Value) (gots : List Got) where
  -- it does what a run means
  pub record Walked {A : Type 0} (m : M A) (good : A → Type 0) (r : Result A Stop) : Type 0 where
    pub means : Tells m old (frame_of before gots) new (frame_of after gots) r
    pub kept : AreOrderly after
    pub order : IfOk r good

  -- it finds a base of what a run comes to
  pub record Found (m : M Value) (r : Result Base Stop) : Type 0 where
    pub means : Finds m old (frame_of before gots) new (frame_of after gots) r
    pub kept : AreOrderly after
    pub order : IfOk r IsOrderlyBase

  -- the same of what is reached from the value that a base stands for
  pub record Reached (from : Value → M Value) (base : Base) (r : Result Base Stop) : Type 0 where
    pub means : (v : Value) → Stands before base v → Finds (from v) old (frame_of before gots) new (frame_of after gots) r
    pub kept : AreOrderly after
    pub order : IfOk r IsOrderlyBase
