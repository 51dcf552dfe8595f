-- Walks over expressions, one step at a time, with the order that they keep.
use Rattle.std.proofs.Common.{◌≡◌, List, Result, Ok, Err, sym, subst}
use Rattle.std.specs.Prelude.{IfOk, IsErrAnd}
use Rattle.epl_values.specs.declared.value.Value.{Value}
use Rattle.action_host.specs.Told.{Told}
use Rattle.body_meaning.specs.Runs.{M}
use Rattle.value_steps.specs.Orderly.{AreOrderly}
use Rattle.walk_rules.specs.declared.stop.Stop.{Stop}
use Rattle.path_bases.specs.declared.base.Base.{Base}
use Rattle.path_bases.specs.declared.locals.Got.{Got}
use Rattle.path_bases.specs.Bases.{Stands, IsOrderlyBase}
use Rattle.path_bases.specs.Locals.{frame_of}
use Rattle.path_bases.specs.Tells.{Tells}
use Rattle.walk_laws.proofs.Telling.{tells_err}
use Rattle.walk_laws.proofs.Finding.{finds_err}
use Rattle.expr_walker.specs.Walked.{Walked, Found, Reached}

-- what holds of what is given holds of no error
none_good : {A : Type 0} (good : A → Type 0) (r : Result A Stop) (stop : Stop) → IsErrAnd r (λ e. e ≡ stop) → IfOk r good
none_good good (Ok x) stop h = absurd h
none_good good (Err e) stop h = tt

module _ {old new : Told} {before after : List Value} {gots : List Got} where
  -- the error that a `?` hands on
  pub walked_err : {A : Type 0} {m : M A} {good : A → Type 0} {stop : Stop} (r : Result A Stop) → IsErrAnd r (λ e. e ≡ stop) → AreOrderly after → Tells m old (frame_of before gots) new (frame_of after gots) (Err stop) → Walked old before new after gots m good r
  walked_err {good = good} {stop} r h kept a = record { means = tells_err r h a; kept = kept; order = none_good good r stop h }

  -- the same where a base was to be found
  pub found_err : {m : M Value} {stop : Stop} (r : Result Base Stop) → IsErrAnd r (λ e. e ≡ stop) → AreOrderly after → Tells m old (frame_of before gots) new (frame_of after gots) (Err stop) → Found old before new after gots m r
  found_err {stop = stop} r h kept a = record { means = finds_err r h a; kept = kept; order = none_good IsOrderlyBase r stop h }

  -- the same behind a base
  pub reached_err : {from : Value → M Value} {base : Base} {stop : Stop} (r : Result Base Stop) → IsErrAnd r (λ e. e ≡ stop) → AreOrderly after → ((v : Value) → Stands before base v → Tells (from v) old (frame_of before gots) new (frame_of after gots) (Err stop)) → Reached old before new after gots from base r
  reached_err {stop = stop} r h kept a = record { means = λ v s. finds_err r h (a v s); kept = kept; order = none_good IsOrderlyBase r stop h }
