-- Methods that are charged, and changes of values that no variable holds, put together from their parts.
use Rattle.std.proofs.Common.{◌≡◌, ℕ, List, Result, Ok, Err}
use Rattle.epl_values.specs.declared.value.Value.{Value}
use Rattle.epl_values.specs.declared.value.Value.TheVariants as value
use Rattle.typed_program.specs.declared.expression.Method.{Method}
use Rattle.value_rules.specs.Costs.{cost_of}
use Rattle.action_host.specs.declared.host.Fault.{Fault}
use Rattle.action_host.specs.Told.{Told}
use Rattle.body_meaning.specs.declared.run.Frame.{Frame}
use Rattle.body_meaning.specs.declared.run.Halt.TheVariants.{Failed}
use Rattle.body_meaning.specs.Runs.{charge}
use Rattle.body_meaning.specs.Values.{substring}
use Rattle.body_meaning.specs.Methods.{first, second, changed_by, place_of, value_charged, substring_charged, place_charged, change_lost}
use Rattle.walk_rules.specs.declared.stop.Stop.{Stop}
use Rattle.walk_rules.specs.declared.stop.Stop.TheVariants.{Halted}
use Rattle.walk_rules.specs.Ran.{Walks}
use Rattle.walk_rules.proofs.Running.{walks_pure, walks_given, walks_given_err}
use Rattle.walk_rules.proofs.Binding.{walks_bind, walks_bind_err, walks_seq, walks_seq_err}

-- ---- a part of a text: the bounds are tested before the charge

-- a part that is there is a value that costs what it is
pub walks_substring : (v : Value) (arguments : List Value) {text : List ℕ} {r : Result Value Stop} {t t1 : Told} {f f1 : Frame} → Ok text ≡ substring v (first arguments) (second arguments) → Walks (value_charged (value.Text text)) t f t1 f1 r → Walks (substring_charged v arguments) t f t1 f1 r
unfolding substring_charged
walks_substring v arguments is a = walks_bind _ (walks_given _ _ is) a

-- a part that isn't there is a fault, and nothing is charged
pub walks_substring_fault : (v : Value) (arguments : List Value) {why : Fault} (t : Told) (f : Frame) → Err why ≡ substring v (first arguments) (second arguments) → Walks (substring_charged v arguments) t f t f (Err (Halted (Failed why)))
unfolding substring_charged
walks_substring_fault v arguments t f is = walks_bind_err _ (walks_given_err t f is)

-- ---- the place of a value in a sequence, which is charged by the sequence

-- a place behind its charge
pub walks_place : (v : Value) (arguments : List Value) {t t1 : Told} {f f1 : Frame} → Walks (charge (cost_of v)) t f t1 f1 (Ok tt) → Walks (place_charged v arguments) t f t1 f1 (Ok (place_of (first arguments) v))
unfolding place_charged
walks_place v arguments a = walks_seq a (walks_pure _ _ _)

-- a place that isn't paid
pub walks_place_unpaid : (v : Value) (arguments : List Value) {stop : Stop} {t t1 : Told} {f f1 : Frame} → Walks (charge (cost_of v)) t f t1 f1 (Err stop) → Walks (place_charged v arguments) t f t1 f1 (Err stop)
unfolding place_charged
walks_place_unpaid v arguments a = walks_seq_err _ a

-- ---- a change of a value that no variable holds

-- nothing is seen of the change
pub walks_lost : (m : Method) (arguments : List Value) (v : Value) {w : Value} (t : Told) (f : Frame) → Ok w ≡ changed_by m arguments v → Walks (change_lost m arguments v) t f t f (Ok value.NoContext)
unfolding change_lost
walks_lost m arguments v t f is = walks_seq (walks_given t f is) (walks_pure value.NoContext _ _)

-- but its fault
pub walks_lost_fault : (m : Method) (arguments : List Value) (v : Value) {why : Fault} (t : Told) (f : Frame) → Err why ≡ changed_by m arguments v → Walks (change_lost m arguments v) t f t f (Err (Halted (Failed why)))
unfolding change_lost
walks_lost_fault m arguments v t f is = walks_seq_err _ (walks_given_err t f is)
