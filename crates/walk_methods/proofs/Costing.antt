-- Operators and methods with their charges: what a call does is what they mean, and what they give is in order.
use Rattle.std.proofs.Common.{◌≡◌, ℕ, ◌+◌, ◌-◌, ◌^◌, ◌/◌, ◌<◌, ◌≤◌, min, Bool, true, false, List, [], ◌∷◌, ◌++◌, length, map, Result, Ok, Err, refl, sym, ap, subst, ◌∙◌, arith}
use Rattle.std.proofs.Math.Nat.{min-eq_right}
use Rattle.std.specs.Prelude.{ℤ, nat_le, if◌then◌else◌, IfOk}
use Rattle.epl_values.specs.declared.shape.EventShape.{EventShape}
use Rattle.epl_values.specs.declared.value.Value.{Value, Value-F, out-Value, fold-roll-Value}
use Rattle.epl_values.specs.declared.value.Value.TheOpen as layer
use Rattle.epl_values.specs.declared.value.Value.TheVariants as value
use Rattle.epl_values.specs.declared.value.Pair.{Pair, out-Pair}
use Rattle.epl_tree.specs.declared.expression.Operator.{Operator}
use Rattle.typed_program.specs.declared.expression.Method.{Method}
use Rattle.typed_program.specs.declared.expression.Method.TheVariants as method
use Rattle.value_rules.specs.Costs.{cost_of, cost_step, pair_step}
use Rattle.action_host.specs.declared.host.Fault.{Fault}
use Rattle.action_host.specs.declared.host.Fault.TheVariants as fault
use Rattle.action_host.specs.Told.{Told}
use Rattle.body_meaning.specs.declared.run.Frame.{Frame}
use Rattle.body_meaning.specs.declared.run.Halt.TheVariants.{Failed}
use Rattle.body_meaning.specs.Runs.{pure, charge, given, perform}
use Rattle.body_meaning.specs.Values.{arithmetic, bounded, calculated, integer_of, integer_result, is_text, letters_of, pairs_in, pairs_of, substring}
use Rattle.body_meaning.specs.Methods.{called, change_lost, changed_by, first, keys_of, place_charged, place_of, quit, second, substring_charged, text_charged, value_charged}
use Rattle.body_meaning.specs.Expressions.{operate}
use Rattle.value_steps.specs.declared.trouble.Trouble.{Trouble}
use Rattle.value_steps.specs.declared.trouble.Trouble.TheVariants as trouble
use Rattle.value_steps.specs.Answers.{Gives}
use Rattle.value_steps.specs.Changed.{Leaves}
use Rattle.value_steps.specs.Orderly.{AreOrderly, AreOrderlyPairs, IsOrderly}
use Rattle.value_steps.proofs.Called.{integer_orderly, none_orderly, sequence_orderly, text_orderly}
use Rattle.value_steps.proofs.Kept.{fine, ok_same}
use Rattle.value_steps.proofs.Parted.{PartsInOrder, parts_orderly}
use Rattle.walk_rules.specs.declared.stop.Stop.{Stop}
use Rattle.walk_rules.specs.declared.stop.Stop.TheVariants.{Halted}
use Rattle.walk_rules.specs.Ran.{Ran, Walks}
use Rattle.walk_rules.proofs.Running.{walks_as, walks_given, walks_given_err, walks_memory, walks_pure}
use Rattle.walk_rules.proofs.Binding.{walks_false, walks_seq, walks_seq_err, walks_true}
use Rattle.path_bases.specs.Stops.{stop_by}
use Rattle.walk_methods.proofs.Charging.{walks_place, walks_substring, walks_substring_fault, walks_lost, walks_lost_fault}

-- ---- operators

-- where the left one is a text, both are joined
pub operate_text : (o : Operator) (v w : Value) {t t1 : Told} {f : Frame} {r : Result Value Stop} → true ≡ is_text v → Walks (text_charged (letters_of v ++ letters_of w)) t f t1 f r → Walks (operate o v w) t f t1 f r
unfolding operate
operate_text o v w is a = walks_true _ is a

-- else they are calculated
pub operate_number : (o : Operator) (v w : Value) {t t1 : Told} {f : Frame} {r : Result Value Stop} → false ≡ is_text v → Walks (given (calculated o v w)) t f t1 f r → Walks (operate o v w) t f t1 f r
unfolding operate
operate_number o v w is a = walks_false _ is a

-- an integer is in order
number_orderly : (r : Result ℤ Fault) (v : Value) → integer_result r ≡ Ok v → IsOrderly v
number_orderly (Ok n) v e = let same : value.Integer n ≡ v = cc in subst IsOrderly same (integer_orderly n)
number_orderly (Err why) v e = cc

-- and so is what is calculated
pub calculated_orderly : (o : Operator) (a b v : Value) → calculated o a b ≡ Ok v → IsOrderly v
calculated_orderly o a b v e = number_orderly (arithmetic o (integer_of a) (integer_of b)) v e

-- a text that is short enough is in order
bounded_step : (b : Bool) (text : List ℕ) (v : Value) → (if b then Ok (value.Text text) else Err fault.TextTooLong) ≡ Ok v → IsOrderly v
bounded_step true text v e = let same : value.Text text ≡ v = cc in subst IsOrderly same (text_orderly text)
bounded_step false text v e = cc

-- and so is what the bound lets through
pub bounded_orderly : (text : List ℕ) (v : Value) → bounded text ≡ Ok v → IsOrderly v
bounded_orderly text v e = bounded_step (nat_le (length text) 1048576) text v e

-- a text that is charged, and then tested
pub walks_text : (text : List ℕ) {v : Value} {t t1 : Told} {f : Frame} → Walks (charge (cost_of (value.Text text))) t f t1 f (Ok tt) → Ok v ≡ bounded text → Walks (text_charged text) t f t1 f (Ok v)
unfolding text_charged
walks_text text a e = walks_seq a (walks_given _ _ e)

-- or found too long
pub walks_long : (text : List ℕ) (why : Fault) {t t1 : Told} {f : Frame} → Walks (charge (cost_of (value.Text text))) t f t1 f (Ok tt) → Err why ≡ bounded text → Walks (text_charged text) t f t1 f (Err (Halted (Failed why)))
unfolding text_charged
walks_long text why a e = walks_seq a (walks_given_err _ _ e)

-- or not paid
pub walks_unpaid : (text : List ℕ) {t t1 : Told} {f : Frame} {stop : Stop} → Walks (charge (cost_of (value.Text text))) t f t1 f (Err stop) → Walks (text_charged text) t f t1 f (Err stop)
unfolding text_charged
walks_unpaid text a = walks_seq_err _ a

-- ---- values that cost what they are

-- a value that is paid
pub walks_charged : (v : Value) {t t1 : Told} {f : Frame} → Walks (charge (cost_of v)) t f t1 f (Ok tt) → Walks (value_charged v) t f t1 f (Ok v)
unfolding value_charged
walks_charged v a = walks_seq a (walks_pure v _ _)

-- or isn't
pub walks_charged_err : (v : Value) {t t1 : Told} {f : Frame} {stop : Stop} → Walks (charge (cost_of v)) t f t1 f (Err stop) → Walks (value_charged v) t f t1 f (Err stop)
unfolding value_charged
walks_charged_err v a = walks_seq_err _ a

-- ---- methods that read

-- a part of a text that isn't there, or for which memory is wanting
pub walks_no_part : (v : Value) (arguments : List Value) (why : Trouble) (told : Told) (frame : Frame) → Gives {A = List ℕ} (Err why) (substring v (first arguments) (second arguments)) → Walks (substring_charged v arguments) told frame told frame (Err (stop_by why))
walks_no_part v arguments (trouble.Fault why) told frame e = walks_substring_fault v arguments told frame (sym e)
walks_no_part v arguments trouble.Memory told frame e = walks_memory _ told told frame

-- a place that is found behind its charge
pub walks_placed : (v : Value) (arguments : List Value) {x : Value} {t t1 : Told} {f : Frame} → Walks (charge (cost_of v)) t f t1 f (Ok tt) → x ≡ place_of (first arguments) v → Walks (place_charged v arguments) t f t1 f (Ok x)
walks_placed v arguments {t = t} {t1 = t1} {f = f} a e = subst (λ y. Walks (place_charged v arguments) t f t1 f (Ok y)) (sym e) (walks_place v arguments a)

-- the keys of entries in order
keys_held : (ps : List Pair) → AreOrderlyPairs ps → AreOrderly (map (λ p. (out-Pair p).key) ps)
keys_held [] a = tt
keys_held (p ∷ ps) a = (a.0.0, keys_held ps a.1)

-- the keys of a layer in order
keys_in : (l : Value-F Value Pair) → PartsInOrder l → AreOrderly (map (λ p. (out-Pair p).key) (pairs_in l))
keys_in (layer.Dictionary pairs) a = keys_held pairs a
keys_in l a = tt

-- the keys of a dictionary in order
pub keys_orderly : (v : Value) → IsOrderly v → IsOrderly (keys_of v)
keys_orderly v o = sequence_orderly (map (λ p. (out-Pair p).key) (pairs_of v)) (keys_in (out-Value v) (parts_orderly v o))

-- ---- methods that change

-- a change that ends in a fault, or for which memory is wanting
pub walks_lost_stopped : (m : Method) (arguments : List Value) (v new : Value) (why : Trouble) (told : Told) (frame : Frame) → Leaves (Err why) new v (changed_by m arguments v) → Walks (change_lost m arguments v) told frame told frame (Err (stop_by why))
walks_lost_stopped m arguments v new (trouble.Fault why) told frame e = walks_lost_fault m arguments v told frame (sym e.0)
walks_lost_stopped m arguments v new trouble.Memory told frame e = walks_memory _ told told frame

-- the other methods change their object
pub called_lost : (types : List EventShape) (m : Method) (v : Value) (arguments : List Value) → (m ≡ method.ToString → ⊥) → (m ≡ method.Length → ⊥) → (m ≡ method.Substring → ⊥) → (m ≡ method.Size → ⊥) → (m ≡ method.IndexOf → ⊥) → (m ≡ method.HasKey → ⊥) → (m ≡ method.Keys → ⊥) → (m ≡ method.Clone → ⊥) → (m ≡ method.Quit → ⊥) → called types m v arguments ≡ change_lost m arguments v
called_lost types method.ToString v arguments a b c d e f g h i = absurd (a refl)
called_lost types method.Length v arguments a b c d e f g h i = absurd (b refl)
called_lost types method.Substring v arguments a b c d e f g h i = absurd (c refl)
called_lost types method.Size v arguments a b c d e f g h i = absurd (d refl)
called_lost types method.IndexOf v arguments a b c d e f g h i = absurd (e refl)
called_lost types method.HasKey v arguments a b c d e f g h i = absurd (f refl)
called_lost types method.Keys v arguments a b c d e f g h i = absurd (g refl)
called_lost types method.Append v arguments a b c d e f g h i = refl
called_lost types method.Remove v arguments a b c d e f g h i = refl
called_lost types method.Clear v arguments a b c d e f g h i = refl
called_lost types method.Add v arguments a b c d e f g h i = refl
called_lost types method.Clone v arguments a b c d e f g h i = absurd (h refl)
called_lost types method.Quit v arguments a b c d e f g h i = absurd (i refl)

-- ---- quitting

-- what quitting gives is no context
quit_gives : (v x : Value) {t t1 : Told} {f f1 : Frame} → Ran (quit v) t f t1 f1 (Ok x) → value.NoContext ≡ x
unfolding quit perform
quit_gives v x a = let e = a.gives [] in cc

-- a listener that is quit gives no context
pub quit_orderly : (v : Value) (t t1 : Told) (f : Frame) (r : Result Value Stop) → Walks (quit v) t f t1 f r → IfOk r IsOrderly
quit_orderly v t t1 f (Ok x) a = subst IsOrderly (quit_gives v x a.does) none_orderly
quit_orderly v t t1 f (Err stop) a = tt

-- ---- answers by what calls ensure

-- a part of a text between the bounds that were read
pub walks_cut : (v : Value) (arguments : List Value) (from to : Value) {text : List ℕ} {r : Result Value Stop} {t t1 : Told} {f f1 : Frame} → from ≡ first arguments → to ≡ second arguments → substring v from to ≡ Ok text → Walks (value_charged (value.Text text)) t f t1 f1 r → Walks (substring_charged v arguments) t f t1 f1 r
walks_cut v arguments from to {text = text} {r = r} {t = t} {t1 = t1} {f = f} {f1 = f1} a b e w =
    let same : substring v (first arguments) (second arguments) ≡ Ok text = sym (ap (λ x. substring v x (second arguments)) a) ∙ sym (ap (substring v from) b) ∙ e in
    walks_substring v arguments (sym same) w

-- or there is none
pub walks_uncut : (v : Value) (arguments : List Value) (from to : Value) (why : Trouble) (stop : Stop) (told : Told) (frame : Frame) → from ≡ first arguments → to ≡ second arguments → stop ≡ stop_by why → Gives {A = List ℕ} (Err why) (substring v from to) → Walks (substring_charged v arguments) told frame told frame (Err stop)
walks_uncut v arguments from to why stop told frame a b is e =
    subst (λ s. Walks (substring_charged v arguments) told frame told frame (Err s)) (sym is) (walks_no_part v arguments why told frame (subst (λ y. Gives {A = List ℕ} (Err why) (substring v (first arguments) y)) b (subst (λ x. Gives {A = List ℕ} (Err why) (substring v x to)) a e)))

-- a change that no variable holds, of a copy
pub walks_lost_copy : (m : Method) (arguments : List Value) (v old new : Value) (told : Told) (frame : Frame) → old ≡ v → Leaves (Ok tt) new old (changed_by m arguments old) → Walks (change_lost m arguments v) told frame told frame (Ok value.NoContext)
walks_lost_copy m arguments v old new told frame same e = walks_lost m arguments v told frame (sym (sym (ap (changed_by m arguments) same) ∙ e))

-- the fault of such a change
pub walks_lost_by : (m : Method) (arguments : List Value) (v old new : Value) (why : Trouble) (stop : Stop) (told : Told) (frame : Frame) → old ≡ v → stop ≡ stop_by why → Leaves (Err why) new old (changed_by m arguments old) → Walks (change_lost m arguments v) told frame told frame (Err stop)
walks_lost_by m arguments v old new why stop told frame same is e =
    subst (λ s. Walks (change_lost m arguments v) told frame told frame (Err s)) (sym is) (walks_lost_stopped m arguments v new why told frame (subst (λ x. Leaves (Err why) new x (changed_by m arguments x)) same e))

-- a value that is what a run gives
pub walks_pure_as : (v w : Value) (told : Told) (frame : Frame) → w ≡ v → Walks (pure v) told frame told frame (Ok w)
walks_pure_as v w told frame is = subst (λ x. Walks (pure v) told frame told frame (Ok x)) (sym is) (walks_pure v told frame)

-- a method by its name
pub called_as : (types : List EventShape) (m n : Method) (v : Value) (arguments : List Value) {r : Result Value Stop} {t t1 : Told} {f f1 : Frame} → m ≡ n → Walks (called types n v arguments) t f t1 f1 r → Walks (called types m v arguments) t f t1 f1 r
called_as types m n v arguments is a = walks_as (ap (λ k. called types k v arguments) is) a

-- a method of the value that is read
pub called_of : (types : List EventShape) (m : Method) (v w : Value) (arguments : List Value) {r : Result Value Stop} {t t1 : Told} {f f1 : Frame} → fine w ≡ fine v → Walks (called types m w arguments) t f t1 f1 r → Walks (called types m v arguments) t f t1 f1 r
called_of types m v w arguments is a = walks_as (ap (λ x. called types m x arguments) (sym (ok_same w v is))) a

-- what a text costs fits in 64 bits
pub text_cost : (text : List ℕ) (n : ℕ) → n ≡ length text → n < 2 ^ 63 → 1 + n / 64 ≡ min (2 ^ 64 - 1) (cost_of (value.Text text))
text_cost text n is small =
    let whole : cost_of (value.Text text) ≡ 1 + length text / 64 = ap cost_of (sym (value.rolls-Text text)) ∙ fold-roll-Value ℕ ℕ cost_step pair_step (layer.Text text) in
    let here : cost_of (value.Text text) ≡ 1 + n / 64 = whole ∙ ap (λ k. 1 + k / 64) (sym is) in
    let less : 1 + n / 64 ≤ 2 ^ 64 - 1 = omega (arith, small) in
    sym (ap (min (2 ^ 64 - 1)) here ∙ min-eq_right less)
