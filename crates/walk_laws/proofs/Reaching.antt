-- A loop over the steps of a path, from base to base.
use Rattle.std.proofs.Common.{◌≡◌, ℕ, ◌+◌, ◌≤◌, ◌<◌, List, length, map, drop, get_or, Err, ap}
use Rattle.epl_values.specs.declared.shape.EventShape.{EventShape}
use Rattle.epl_values.specs.declared.value.Value.{Value}
use Rattle.typed_program.specs.declared.expression.TypedExpr.{TypedExpr, out-TypedExpr}
use Rattle.typed_program.specs.declared.expression.TypedNode.TheVariants as tree
use Rattle.typed_program.specs.declared.expression.TypedSuffix.{TypedSuffix}
use Rattle.action_host.specs.Told.{Told}
use Rattle.body_meaning.specs.declared.run.Frame.{Frame}
use Rattle.body_meaning.specs.Runs.{M, ◌>>=◌}
use Rattle.body_meaning.specs.Expressions.{Calls, Meant, Reach, reach_from, reach_of, value_of, postfix_value}
use Rattle.walk_rules.specs.declared.stop.Stop.{Stop}
use Rattle.walk_rules.specs.Ran.{Leads}
use Rattle.walk_rules.proofs.Forms.{postfix_is}
use Rattle.walk_rules.proofs.Running.{walks_pure}
use Rattle.walk_rules.proofs.Leading.{leads_start, leads_same, leads_bind, next_mapped, none_mapped}
use Rattle.path_bases.specs.declared.base.Base.{Base}
use Rattle.path_bases.specs.Tells.{Tells}
use Rattle.path_bases.specs.Bases.{Stands, Founds}
use Rattle.walk_laws.proofs.Telling.{tells_walks, walks_tells, leads_tells, leads_stop_tells}

-- the value of a path
pub path_value_is : (types : List EventShape) (call : Calls) (e first : TypedExpr) (steps : List TypedSuffix) → (out-TypedExpr e).node ≡ tree.Postfix first steps → value_of types call e ≡ (value_of types call first >>= reach_from (map (reach_of types call) steps))
unfolding postfix_value
path_value_is types call e first steps is = ap (λ (m : Meant). m.value) (postfix_is types call e first steps is)

-- a run came to what steps make of the value that a base stands for
pub record Reaching (m : M Value) (go : Value → M Value) (old : Told) (before : Frame) (new : Told) (after : Frame) (b : Base) : Type 0 where
  pub value : Value
  pub stands : Stands after.globals b value
  pub leads : Leads m old before (go value) new after

-- behind the base of the path
pub reaching_start : {m : M Value} (go : Value → M Value) {b : Base} {t t1 : Told} {f f1 : Frame} → Founds m t f t1 f1 b → Reaching (m >>= go) go t f t1 f1 b
reaching_start {m} go {b} {t} {t1} {f} {f1} a = record { value = a.value; stands = a.stands; leads = leads_bind go (leads_start (m >>= go) t f) (walks_tells a.tells) }

-- where the base of the path isn't found
pub reaching_unfound : {m : M Value} (go : Value → M Value) {stop : Stop} {t t1 : Told} {f f1 : Frame} → Tells m t f t1 f1 (Err stop) → Tells (m >>= go) t f t1 f1 (Err stop)
reaching_unfound {m} go {t = t} {f = f} a = leads_stop_tells go (leads_start (m >>= go) t f) a

module _ {X : Type 0} (F : X → Reach) (items : List X) (i : ℕ) (x : X) (within : i < length items) (is : x ≡ get_or items i x) {m : M Value} {b : Base} {t t1 : Told} {f f1 : Frame} (at : Reaching m (reach_from (map F (drop i items))) t f t1 f1 b) where
  reaching_now : Leads m t f ((F x).from at.value >>= reach_from (map F (drop (i + 1) items))) t1 f1
  reaching_now = leads_same (ap (λ rs. reach_from rs at.value) (next_mapped F items i x within is)) at.leads

  -- one more step
  pub reaching_step : {c : Base} {t2 : Told} {f2 : Frame} → ((v : Value) → Stands f1.globals b v → Founds ((F x).from v) t1 f1 t2 f2 c) → Reaching m (reach_from (map F (drop (i + 1) items))) t f t2 f2 c
  reaching_step found =
      let a = found at.value at.stands in
      record { value = a.value; stands = a.stands; leads = leads_bind (reach_from (map F (drop (i + 1) items))) reaching_now (walks_tells a.tells) }

  -- where a step stops, the path does
  pub reaching_stop : {stop : Stop} {t2 : Told} {f2 : Frame} → ((v : Value) → Stands f1.globals b v → Tells ((F x).from v) t1 f1 t2 f2 (Err stop)) → Tells m t f t2 f2 (Err stop)
  reaching_stop stopped = leads_stop_tells (reach_from (map F (drop (i + 1) items))) reaching_now (stopped at.value at.stands)

-- behind the last step
pub reaching_end : {X : Type 0} (F : X → Reach) (items : List X) (i : ℕ) {m : M Value} {b : Base} {t t1 : Told} {f f1 : Frame} → length items ≤ i → Reaching m (reach_from (map F (drop i items))) t f t1 f1 b → Founds m t f t1 f1 b
reaching_end F items i {t1 = t1} {f1 = f1} past at = record {
  value = at.value;
  stands = at.stands;
  tells = leads_tells (leads_same (ap (λ rs. reach_from rs at.value) (none_mapped F items i past)) at.leads) (tells_walks (walks_pure at.value t1 f1));
}
