-- What bases stand for: the values that moves lead to from globals, and steps from there.
use Rattle.std.proofs.Common.{◌≡◌, ℕ, zero, suc, ◌<◌, ◌≤◌, true, Bool, List, [], ◌∷◌, ◌++◌, length, Option, Some, None, Result, Ok, Err, refl, sym, ap, subst, ◌∙◌, arith}
use Rattle.std.specs.Borrow.{Bor}
use Rattle.std.specs.Prelude.{slice_get, IfOk, IfErr, IsErrAnd}
use Rattle.epl_values.specs.declared.value.Value.{Value}
use Rattle.epl_values.specs.declared.value.Value.TheVariants as value
use Rattle.action_host.specs.declared.host.Fault.{Fault}
use Rattle.action_host.specs.Told.{Told}
use Rattle.body_meaning.specs.declared.run.Frame.{Frame}
use Rattle.body_meaning.specs.declared.run.Halt.TheVariants.{Failed}
use Rattle.body_meaning.specs.declared.run.Move.{Move}
use Rattle.body_meaning.specs.Runs.{M, given, pure}
use Rattle.body_meaning.specs.Paths.{or_none, part, then_try}
use Rattle.value_steps.specs.Orderly.{AreOrderly, AreOrderlyMoves, IsOrderly, IsOrderlyMove}
use Rattle.value_steps.specs.Parts.{followed}
use Rattle.value_steps.specs.Shown.{shown}
use Rattle.value_steps.proofs.Kept.{all_get, all_joined, part_orderly}
use Rattle.walk_rules.specs.declared.stop.Stop.{Stop}
use Rattle.walk_rules.specs.declared.stop.Stop.TheVariants.{Halted, Memory}
use Rattle.walk_rules.specs.Ran.{Walks}
use Rattle.walk_rules.proofs.Running.{walks_given, walks_given_err, walks_memory, walks_pure}
use Rattle.path_bases.specs.declared.base.Base.{Base}
use Rattle.path_bases.specs.declared.base.Base.TheVariants as base
use Rattle.path_bases.specs.Tells.{Tells}
use Rattle.path_bases.specs.Bases.{followed_from, Stands, IsOrderlyBase, Holds, Finds}

-- ---- globals

-- a global that is there, as the base of a path
pub global_found : (globals : List Value) (n : ℕ) → n < length globals → followed_from [] (slice_get globals n) ≡ Ok (or_none (slice_get globals n))
global_found [] n within = absurd (omega arith)
global_found (v ∷ vs) zero within = refl
global_found (v ∷ vs) (suc n) within = global_found vs n (omega arith)

-- one that isn't there
pub none_past : {A : Type 0} (xs : List A) (n : ℕ) → length xs ≤ n → slice_get xs n ≡ None
none_past [] n past = refl
none_past (x ∷ xs) zero past = absurd (omega arith)
none_past (x ∷ xs) (suc n) past = none_past xs n (omega arith)

pub global_past : (globals : List Value) (n : ℕ) → length globals ≤ n → or_none (slice_get globals n) ≡ value.NoContext
global_past globals n past = ap or_none (none_past globals n past)

-- ---- the end of a path

fine : {A : Type 0} → A → Result A Fault
fine x = Ok x

one_same : (v y : Value) → fine v ≡ fine y → v ≡ y
unfolding fine
one_same v y e = cc

one_try : (r : Result Value Fault) → then_try r (followed []) ≡ r
one_try (Ok x) = refl
one_try (Err e) = refl

more_step : (r : Result Value Fault) (ms : List Move) (m : Move) (y : Value) → ((x : Value) → followed ms x ≡ Ok y → followed (ms ++ m ∷ []) x ≡ part m y) → then_try r (followed ms) ≡ Ok y → then_try r (followed (ms ++ m ∷ [])) ≡ part m y
more_step (Ok x) ms m y next e = next x e
more_step (Err why) ms m y next e = cc

-- one more step
followed_more : (ms : List Move) (m : Move) (v y : Value) → followed ms v ≡ Ok y → followed (ms ++ m ∷ []) v ≡ part m y
unfolding fine
followed_more [] m v y e = one_try (part m v) ∙ ap (part m) (one_same v y e)
followed_more (k ∷ ms) m v y e = more_step (part k v) ms m y (λ x. followed_more ms m x y) e

pub from_more : (o : Option Value) (ms : List Move) (m : Move) (y : Value) → followed_from ms o ≡ Ok y → followed_from (ms ++ m ∷ []) o ≡ part m y
from_more None ms m y e = cc
from_more (Some v) ms m y e = followed_more ms m v y e

orderly_step : (r : Result Value Fault) (ms : List Move) (x : Value) → ((w : Value) → r ≡ Ok w → IsOrderly w) → ((w : Value) → IsOrderly w → followed ms w ≡ Ok x → IsOrderly x) → then_try r (followed ms) ≡ Ok x → IsOrderly x
orderly_step (Ok w) ms x here next e = next w (here w refl) e
orderly_step (Err why) ms x here next e = cc

followed_orderly : (ms : List Move) (v x : Value) → IsOrderly v → followed ms v ≡ Ok x → IsOrderly x
unfolding fine
followed_orderly [] v x o e = subst IsOrderly (one_same v x e) o
followed_orderly (m ∷ ms) v x o e = orderly_step (part m v) ms x (λ w h. part_orderly m v w o h) (λ w q h. followed_orderly ms w x q h) e

from_step : (o : Option Value) (ms : List Move) (x : Value) → ((v : Value) → o ≡ Some v → IsOrderly v) → followed_from ms o ≡ Ok x → IsOrderly x
from_step None ms x here e = cc
from_step (Some v) ms x here e = followed_orderly ms v x (here v refl) e

-- what is reached from globals in order is in order
pub from_orderly : (globals : List Value) (n : ℕ) (ms : List Move) (x : Value) → AreOrderly globals → followed_from ms (slice_get globals n) ≡ Ok x → IsOrderly x
from_orderly globals n ms x all e = from_step (slice_get globals n) ms x (λ v h. all_get IsOrderly globals n v all h) e

-- the value that a base in order stands for is in order
pub stands_orderly : (globals : List Value) (b : Base) (v : Value) → AreOrderly globals → IsOrderlyBase b → Stands globals b v → IsOrderly v
stands_orderly globals (base.Own w) v all o s = subst IsOrderly (sym s) o
stands_orderly globals (base.Lent w) v all o s = subst IsOrderly (sym s) o
stands_orderly globals (base.Global n ms) v all o s = from_orderly globals n ms v all s

-- a reference to what is reached
pub shown_orderly : (globals : List Value) (n : ℕ) (ms : List Move) (r : Result (Bor Value) Fault) → AreOrderly globals → shown r ≡ followed_from ms (slice_get globals n) → IfOk r (λ v. IsOrderly v.now)
shown_orderly globals n ms (Ok x) all e = from_orderly globals n ms x.now all (sym e)
shown_orderly globals n ms (Err why) all e = tt

pub moves_more : (ms : List Move) (m : Move) → AreOrderlyMoves ms → IsOrderlyMove m → AreOrderlyMoves (ms ++ m ∷ [])
moves_more ms m all o = all_joined IsOrderlyMove ms (m ∷ []) all (o, tt)

-- ---- the kinds of bases

module _ (globals : List Value) (b : Base) (v : Value) where
  pub own_value : (x : Value) → b ≡ base.Own x → Stands globals b v → v ≡ x
  own_value x is s = subst (λ b. Stands globals b v) is s

  pub lent_value : (x : Bor Value) → b ≡ base.Lent x → Stands globals b v → v ≡ x.now
  lent_value x is s = subst (λ b. Stands globals b v) is s

  pub global_value : (n : ℕ) (ms : List Move) → b ≡ base.Global n ms → Stands globals b v → followed_from ms (slice_get globals n) ≡ Ok v
  global_value n ms is s = subst (λ b. Stands globals b v) is s

module _ (b : Base) (o : IsOrderlyBase b) where
  pub own_orderly : (x : Value) → b ≡ base.Own x → IsOrderly x
  own_orderly x is = subst IsOrderlyBase is o

  pub lent_orderly : (x : Bor Value) → b ≡ base.Lent x → IsOrderly x.now
  lent_orderly x is = subst IsOrderlyBase is o

  pub global_orderly : (n : ℕ) (ms : List Move) → b ≡ base.Global n ms → AreOrderlyMoves ms
  global_orderly n ms is = subst IsOrderlyBase is o

-- ---- a value of its own

-- the value, or want of memory
pub settled : (v : Value) (told : Told) (frame : Frame) (r : Result Value Stop) → IfOk r (λ x. v ≡ x) → IfErr r (λ stop. stop ≡ Memory) → Walks (pure v) told frame told frame r
settled v told frame (Ok x) same memory = subst (λ y. Walks (pure v) told frame told frame (Ok y)) same (walks_pure v told frame)
settled v told frame (Err stop) same memory = subst (λ e. Walks (pure v) told frame told frame (Err e)) (sym memory) (walks_memory (pure v) told told frame)

two_same : (r : Result Value Fault) (x y : Value) → r ≡ Ok x → r ≡ Ok y → x ≡ y
unfolding fine
two_same r x y a b = one_same x y (sym a ∙ b)

pub only_value : (o : Result Value Fault) (r : Result Value Stop) (v : Value) → o ≡ Ok v → IfOk r (λ x. o ≡ Ok x) → IfOk r (λ x. v ≡ x)
only_value o (Ok x) v e h = two_same o v x e h
only_value o (Err stop) v e h = tt

-- where a value stands there is no fault
pub no_fault : {A : Type 0} {why : Fault} {v : Value} (o : Result Value Fault) → Err why ≡ o → o ≡ Ok v → A
no_fault o e h = cc

pub wants_memory : {A : Type 0} (r : Result A Stop) → IsErrAnd r (λ e. e ≡ Memory) → IfErr r (λ e. e ≡ Memory)
wants_memory (Ok x) h = absurd h
wants_memory (Err stop) h = h

-- the error that a `?` hands on
pub held_memory : (still : Bool) (globals : List Value) (v : Value) (r : Result Base Stop) (stop : Stop) → stop ≡ Memory → IsErrAnd r (λ e. e ≡ stop) → Holds still globals v r
held_memory still globals v (Ok b) stop is h = absurd h
held_memory still globals v (Err e) stop is h = h ∙ is

-- a base that holds what moves led to
pub held_own : (still : Bool) (globals : List Value) (o : Result Value Fault) (v x : Value) → o ≡ Ok v → o ≡ Ok x → Holds still globals v (Ok (base.Own x))
held_own still globals o v x e h = λ later same. two_same o v x e h

pub held_still : (globals : List Value) (n : ℕ) (ms : List Move) (v : Value) (still : Bool) → still ≡ true → followed_from ms (slice_get globals n) ≡ Ok v → Holds still globals v (Ok (base.Global n ms))
held_still globals n ms v still is e = λ later same. ap (λ gs. followed_from ms (slice_get gs n)) (same is) ∙ e

-- ---- steps

-- the part is found
pub finds_part : (told : Told) (frame : Frame) (r : Result Value Fault) (x : Value) (b : Base) → Ok x ≡ r → Stands frame.globals b x → Finds (given r) told frame told frame (Ok b)
finds_part told frame r x b e stands = record { value = x; stands = stands; tells = record { at = frame; globals = refl; locals = refl; walks = walks_given told frame e } }

-- the error that a `?` hands on: there is no such part
pub finds_no_part : (told : Told) (frame : Frame) (r : Result Value Fault) (why : Fault) (result : Result Base Stop) → Err why ≡ r → IsErrAnd result (λ e. e ≡ Halted (Failed why)) → Finds (given r) told frame told frame result
finds_no_part told frame r why (Ok b) e h = absurd h
finds_no_part told frame r why (Err stop) e h = subst (λ s. Tells (given r) told frame told frame (Err s)) (sym h) (record { at = frame; globals = refl; locals = tt; walks = walks_given_err told frame e })

-- or memory is wanting
pub finds_no_memory : (m : M Value) (told : Told) (frame : Frame) (result : Result Base Stop) → IsErrAnd result (λ e. e ≡ Memory) → Finds m told frame told frame result
finds_no_memory m told frame (Ok b) h = absurd h
finds_no_memory m told frame (Err stop) h = subst (λ s. Tells m told frame told frame (Err s)) (sym h) (record { at = frame; globals = refl; locals = tt; walks = walks_memory m told told frame })

-- the same part of the same value
pub finds_from : (to : Move) (v x : Value) (told : Told) (frame : Frame) (r : Result Base Stop) → v ≡ x → Finds (given (part to x)) told frame told frame r → Finds (given (part to v)) told frame told frame r
finds_from to v x told frame r same a = subst (λ y. Finds (given (part to y)) told frame told frame r) (sym same) a

pub same_reached : (o : Result Value Fault) (v w : Value) → o ≡ Ok v → Ok w ≡ o → v ≡ w
same_reached o v w e h = two_same o v w e (sym h)

-- a part of what moves lead to from a global
pub finds_further : (told : Told) (globals locals : List Value) (n : ℕ) (ms new : List Move) (m : Move) (v w x : Value) → followed_from ms (slice_get globals n) ≡ Ok v → Ok w ≡ followed_from ms (slice_get globals n) → Ok x ≡ part m w → new ≡ ms ++ m ∷ [] → Finds (given (part m v)) told (record { globals = globals; locals = locals }) told (record { globals = globals; locals = locals }) (Ok (base.Global n new))
finds_further told globals locals n ms new m v w x e h is more =
    let same = same_reached (followed_from ms (slice_get globals n)) v w e h in
    let here : Ok x ≡ part m v = is ∙ ap (part m) (sym same) in
    finds_part told (record { globals = globals; locals = locals }) (part m v) x (base.Global n new) here (ap (λ ks. followed_from ks (slice_get globals n)) more ∙ from_more (slice_get globals n) ms m v e ∙ sym here)
