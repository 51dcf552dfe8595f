-- Calls, one level at a time, and locals of their own.
use Rattle.std.proofs.Common.{◌≡◌, ◌-◌, ◌<◌}
use Rattle.walk_rules.proofs.Common.{ℕ, zero, suc, List, Ok, Err, refl, ap, arith, slice_get, Value, Told, Flow, Frame, M, Stop, Walks}
use Rattle.typed_program.specs.declared.program.Program.{Program}
use Rattle.action_host.specs.declared.host.Fault.TheVariants as fault
use Rattle.body_meaning.specs.Runs.{◌>>=◌, ◌>>◌, pure, charge, given}
use Rattle.body_meaning.specs.Acts.{in_locals, with_locals, returned, enter, action_run, or_none}
use Rattle.walk_rules.proofs.Running.{walks_pure, walks_look, walks_change}
use Rattle.walk_rules.proofs.Binding.{walks_bind, walks_bind_err, walks_seq}

-- ---- locals

abbrev pub over_locals : List Value → Frame → Frame
over_locals locals frame = record frame { locals = locals }

module _ (program : Program) (locals : List Value) {m : M Flow} {t t1 : Told} {f g : Frame} where
  -- the outer locals stand again behind the statements
  pub walks_in_locals : {flow : Flow} → Walks m t (over_locals locals f) t1 g (Ok flow) → Walks (in_locals program locals m) t f t1 (over_locals f.locals g) (Ok (returned flow))
  unfolding in_locals
  walks_in_locals {flow} ran = walks_bind _ (walks_look (λ frame. frame.locals) t refl) (walks_bind _ (walks_seq (walks_change (with_locals locals) t refl) ran) (walks_seq (walks_change (with_locals f.locals) t1 refl) (walks_pure (returned flow) t1 _)))

  pub walks_in_locals_err : {stop : Stop} → Walks m t (over_locals locals f) t1 g (Err stop) → Walks (in_locals program locals m) t f t1 g (Err stop)
  unfolding in_locals
  walks_in_locals_err ran = walks_bind _ (walks_look (λ frame. frame.locals) t refl) (walks_bind_err _ (walks_seq (walks_change (with_locals locals) t refl) ran))

-- ---- levels

pub enter-none : (program : Program) (depth n : ℕ) (arguments : List Value) → depth ≡ 0 → enter program depth n arguments ≡ given (Err fault.CallDepth)
unfolding enter
enter-none program zero n arguments h = refl
enter-none program (suc depth) n arguments h = absurd (omega arith)

pub enter-deeper : (program : Program) (depth n : ℕ) (arguments : List Value) → 0 < depth → enter program depth n arguments ≡ (charge 1 >> action_run program (enter program (depth - 1)) (slice_get program.actions n) arguments >>= (λ v. pure (or_none v)))
unfolding enter
enter-deeper program zero n arguments h = absurd (omega arith)
enter-deeper program (suc depth) n arguments h =
    let e : depth ≡ suc depth - 1 = omega arith in
    ap (λ d. charge 1 >> action_run program (enter program d) (slice_get program.actions n) arguments >>= (λ v. pure (or_none v))) e
