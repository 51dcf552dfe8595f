-- A base that stands for its value while an expression is walked: one that calls no action leaves the globals as they are.
use Rattle.std.proofs.Common.{◌≡◌, Bool, true, List, Result, Ok, Err, refl, sym, subst, ◌∙◌}
use Rattle.std.specs.Prelude.{◌&&◌}
use Rattle.epl_values.specs.declared.shape.EventShape.{EventShape}
use Rattle.epl_values.specs.declared.value.Value.{Value}
use Rattle.typed_program.specs.declared.expression.TypedExpr.{TypedExpr}
use Rattle.action_host.specs.Told.{Told}
use Rattle.body_meaning.specs.declared.run.Frame.{Frame}
use Rattle.body_meaning.specs.Runs.{M, ◌>>=◌, pure}
use Rattle.body_meaning.specs.Expressions.{Calls, value_of, all_values}
use Rattle.walk_rules.specs.declared.stop.Stop.{Stop}
use Rattle.path_bases.specs.declared.base.Base.{Base}
use Rattle.path_bases.specs.Bases.{Stands, Holds}
use Rattle.calm_exprs.specs.Calm.{is_calm, are_calm}
use Rattle.path_bases.specs.Tells.{Tells}
use Rattle.walk_laws.proofs.Still.{Still, still_pure, still_bind}
use Rattle.walk_laws.proofs.Calming.{both_right, calm_value}
use Rattle.walk_laws.proofs.Unchanged.{still_globals, calm_values}
use Rattle.walk_laws.proofs.Telling.{tells_memory}

-- what is computed of the value of an expression that calls no action
pub calm_mapped : {B : Type 0} (types : List EventShape) (call : Calls) (e : TypedExpr) (to : Value → B) → is_calm e ≡ true → Still (value_of types call e >>= (λ v. pure (to v)))
calm_mapped types call e to h = still_bind _ (calm_value types call e h) (λ v. still_pure (to v))

module _ (still : Bool) (v : Value) (b : Base) {A : Type 0} {r : Result A Stop} {t t1 : Told} {f f1 : Frame} (held : Holds still f.globals v (Ok b)) where
  -- it goes on standing for the value behind a run
  pub held_behind : {m : M A} → (still ≡ true → Still m) → Tells m t f t1 f1 r → Stands f1.globals b v
  held_behind quiet a = held f1.globals (λ yes. still_globals (quiet yes) a)

-- behind an expression, which is asked whether it calls no action, or isn't
pub held_value : (types : List EventShape) (call : Calls) (e : TypedExpr) (still asked : Bool) (v : Value) (b : Base) {r : Result Value Stop} {t t1 : Told} {f f1 : Frame} → Holds still f.globals v (Ok b) → still ≡ (asked && is_calm e) → Tells (value_of types call e) t f t1 f1 r → Stands f1.globals b v
held_value types call e still asked v b held is a = held_behind still v b held (λ yes. calm_value types call e (both_right asked (is_calm e) (sym is ∙ yes))) a

-- behind an expression that is told by what is computed of its value
pub held_mapped : {B : Type 0} (types : List EventShape) (call : Calls) (e : TypedExpr) (to : Value → B) (still asked : Bool) (v : Value) (b : Base) {r : Result B Stop} {t t1 : Told} {f f1 : Frame} → Holds still f.globals v (Ok b) → still ≡ (asked && is_calm e) → Tells (value_of types call e >>= (λ w. pure (to w))) t f t1 f1 r → Stands f1.globals b v
held_mapped types call e to still asked v b held is a = held_behind still v b held (λ yes. calm_mapped types call e to (both_right asked (is_calm e) (sym is ∙ yes))) a

-- behind the values of expressions
pub held_values : (types : List EventShape) (call : Calls) (es : List TypedExpr) (still asked : Bool) (v : Value) (b : Base) {r : Result (List Value) Stop} {t t1 : Told} {f f1 : Frame} → Holds still f.globals v (Ok b) → still ≡ (asked && are_calm es) → Tells (all_values types call es) t f t1 f1 r → Stands f1.globals b v
held_values types call es still asked v b held is a = held_behind still v b held (λ yes. calm_values types call es (both_right asked (are_calm es) (sym is ∙ yes))) a

-- where no memory is left to hold it, the call stops before it changes a variable
pub unheld : {A : Type 0} (m : M A) (still : Bool) (globals : List Value) (v : Value) {stop : Stop} (t : Told) (f : Frame) → Holds still globals v (Err stop) → Tells m t f t f (Err stop)
unheld m still globals v t f h = subst (λ e. Tells m t f t f (Err e)) (sym h) (tells_memory m t t refl)
