-- A function value that makes the calls of a body.
use Rattle.std.specs.Prelude.{◌≡◌, ℕ, List, Result, IfOk}
use Rattle.std.specs.declared.alloc.Global.{Global}
use denote.Ref.{Bor, MutBor}
use Rattle.epl_values.specs.declared.value.Value.{Value}
use Rattle.typed_program.specs.declared.program.Program.{Program}
use Rattle.action_host.specs.Told.{Told}
use Rattle.body_meaning.specs.Acts.{enter}
use Rattle.value_steps.specs.Orderly.{IsOrderly, AreOrderly}
use Rattle.walk_rules.specs.declared.stop.Stop.{Stop}
use Rattle.path_bases.specs.declared.locals.Got.{Got}
use Rattle.path_bases.specs.Locals.{values_in}
use Rattle.path_bases.specs.Tells.{Tells}

-- it may be called where all is in order, does what the call means with so many more below it, and keeps the order
pub record CallsBy {H : Type 0} (told : H → Told) (prog : Program) (depth : ℕ) (pre : Global → Bor Program → ℕ → ℕ → List Got → MutBor (List Value) → MutBor H → Type 0)
    (post : Global → Bor Program → ℕ → ℕ → List Got → MutBor (List Value) → MutBor H → Result Value Stop → MutBor (List Value) → MutBor H → Type 0) : Type 0 where
  pub callable : (alloc : Global) (program : Bor Program) (n : ℕ) (args : List Got) (globals : MutBor (List Value)) (host : MutBor H) → AreOrderly globals.now → AreOrderly (values_in args) → pre alloc program depth n args globals host
  pub does : (alloc : Global) (program : Bor Program) (n : ℕ) (args : List Got) (globals globals' : MutBor (List Value)) (host host' : MutBor H) (r : Result Value Stop) → program.now ≡ prog
      → post alloc program depth n args globals host r globals' host' → (outer : List Value) → Tells (enter prog depth n (values_in args)) (told host.now) (record { globals = globals.now; locals = outer }) (told host'.now) (record { globals = globals'.now; locals = outer }) r
  pub keeps : (alloc : Global) (program : Bor Program) (n : ℕ) (args : List Got) (globals globals' : MutBor (List Value)) (host host' : MutBor H) (r : Result Value Stop)
      → post alloc program depth n args globals host r globals' host' → AreOrderly globals'.now × IfOk r IsOrderly
