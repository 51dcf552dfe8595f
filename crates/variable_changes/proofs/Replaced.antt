-- A variable that is changed in place: its value is taken out, changed, and put back.
use Rattle.std.proofs.Common.{◌≡◌, ℕ, suc, ◌≤◌, List, [], ◌∷◌, length, map, Some, Result, Ok, Err, refl, sym, ap, subst, ◌∙◌, arith}
use Rattle.std.specs.Prelude.{slice_get, slice_set}
use Rattle.epl_values.specs.declared.value.Value.{Value}
use Rattle.epl_values.specs.declared.value.Value.TheVariants as value
use Rattle.typed_program.specs.declared.statement.Variable.{Variable}
use Rattle.typed_program.specs.declared.statement.Variable.TheVariants as variable
use Rattle.action_host.specs.declared.host.Fault.{Fault}
use Rattle.action_host.specs.Told.{Told}
use Rattle.body_meaning.specs.declared.run.Frame.{Frame}
use Rattle.body_meaning.specs.Runs.{change}
use Rattle.body_meaning.specs.Paths.{change_variable, or_none, then_try}
use Rattle.value_steps.specs.declared.trouble.Trouble.{Trouble}
use Rattle.value_steps.specs.declared.trouble.Trouble.TheVariants as trouble
use Rattle.value_steps.specs.Changed.{Leaves}
use Rattle.value_steps.proofs.Leaving.{leaves_mapped, leaves_same, mapped}
use Rattle.walk_rules.specs.Ran.{Walks}
use Rattle.walk_rules.proofs.Running.{walks_change, walks_change_err, walks_memory}
use Rattle.walk_rules.specs.declared.stop.Stop.{Stop}
use Rattle.variable_changes.specs.Changes.{value_changed}
use Rattle.path_bases.specs.declared.locals.Got.{Got}
use Rattle.path_bases.specs.Locals.{got_value, values_in}
use Rattle.path_bases.specs.Stops.{stopped}
use Rattle.path_bases.proofs.Lent.{set_again, set_past, set_same}
use Rattle.path_bases.proofs.Reached.{none_past}

-- ---- values

-- values with one changed that is there
changed_there : (old : List Value) (n : ℕ) (x : Value) (f : Value → Result Value Fault) → slice_get old n ≡ Some x → value_changed old n f ≡ then_try (f x) (λ y. Ok (slice_set old n y))
changed_there old n x f e = ap (λ o. then_try (f (or_none o)) (λ y. Ok (slice_set old n y))) e

-- the same of one that was taken out and put back, by cases on the answer
value_leaves : (r : Result (Unit {0}) Trouble) (old : List Value) (n : ℕ) (x hole new : Value) (f : Value → Result Value Fault) → slice_get old n ≡ Some x → Leaves r new x (f x) → Leaves r (slice_set (slice_set old n hole) n new) old (value_changed old n f)
value_leaves (Ok done) old n x hole new f e h = changed_there old n x f e ∙ ap (λ q. then_try q (λ y. Ok (slice_set old n y))) h ∙ ap Ok (sym (set_again old n hole new))
value_leaves (Err (trouble.Fault why)) old n x hole new f e h = (changed_there old n x f e ∙ ap (λ q. then_try q (λ y. Ok (slice_set old n y))) h.0, set_again old n hole new ∙ ap (slice_set old n) h.1 ∙ set_same old n x e)
value_leaves (Err trouble.Memory) old n x hole new f e h = set_again old n hole new ∙ ap (slice_set old n) h ∙ set_same old n x e

-- a value that is there, taken out, changed, and put back
pub value_left : (r : Result (Unit {0}) Trouble) (old mid new : List Value) (n : ℕ) (x hole y : Value) (f : Value → Result Value Fault) → slice_get old n ≡ Some x → mid ≡ slice_set old n hole → new ≡ slice_set mid n y → Leaves r y x (f x) → Leaves r new old (value_changed old n f)
value_left r old mid new n x hole y f g m e h = subst (λ xs. Leaves r xs old (value_changed old n f)) (sym (e ∙ ap (λ xs. slice_set xs n y) m)) (value_leaves r old n x hole y f g h)

-- the same of one that isn't there
missing_leaves : (r : Result (Unit {0}) Trouble) (old : List Value) (n : ℕ) (y : Value) (f : Value → Result Value Fault) → length old ≤ n → value_changed old n f ≡ then_try (f value.NoContext) (λ z. Ok (slice_set old n z)) → Leaves r y value.NoContext (f value.NoContext) → Leaves r old old (value_changed old n f)
missing_leaves (Ok done) old n y f past is h = is ∙ ap (λ q. then_try q (λ z. Ok (slice_set old n z))) h ∙ ap Ok (set_past old n y past)
missing_leaves (Err (trouble.Fault why)) old n y f past is h = (is ∙ ap (λ q. then_try q (λ z. Ok (slice_set old n z))) h.0, refl)
missing_leaves (Err trouble.Memory) old n y f past is h = refl

-- one that isn't there stays away
pub missing_left : (r : Result (Unit {0}) Trouble) (old : List Value) (n : ℕ) (y : Value) (f : Value → Result Value Fault) → length old ≤ n → Leaves r y value.NoContext (f value.NoContext) → Leaves r old old (value_changed old n f)
missing_left r old n y f past h = missing_leaves r old n y f past (ap (λ o. then_try (f (or_none o)) (λ z. Ok (slice_set old n z))) (none_past old n past)) h

-- ---- locals

-- there are as many values as there are things that hold them
length_mapped : {A B : Type 0} (f : A → B) (xs : List A) → length (map f xs) ≡ length xs
length_mapped f [] = refl
length_mapped f (x ∷ xs) = ap suc (length_mapped f xs)

-- a local that isn't there has no value among those of the locals
pub values_beyond : (gots : List Got) (n : ℕ) → length gots ≤ n → length (values_in gots) ≤ n
values_beyond gots n past = let same : length (values_in gots) ≡ length gots = length_mapped got_value gots in omega arith

-- ---- variables

-- the variables of a body
frame_by : List Value → List Value → Frame
frame_by globals locals = record { globals = globals; locals = locals }

-- globals with one changed, as the variables that hold them
with_globals : (r : Result Value Fault) (globals locals : List Value) (n : ℕ) → then_try r (λ v. Ok (frame_by (slice_set globals n v) locals)) ≡ mapped (λ gs. frame_by gs locals) (then_try r (λ v. Ok (slice_set globals n v)))
with_globals (Ok v) globals locals n = refl
with_globals (Err e) globals locals n = refl

-- locals with one changed, as the variables that hold them
with_locals : (r : Result Value Fault) (globals locals : List Value) (n : ℕ) → then_try r (λ v. Ok (frame_by globals (slice_set locals n v))) ≡ mapped (λ ls. frame_by globals ls) (then_try r (λ v. Ok (slice_set locals n v)))
with_locals (Ok v) globals locals n = refl
with_locals (Err e) globals locals n = refl

-- what a change of a global leaves is what it leaves of the variables
global_leaves : (r : Result (Unit {0}) Trouble) (n : ℕ) (new old locals : List Value) (f : Value → Result Value Fault) → Leaves r new old (value_changed old n f) → Leaves r (record { globals = new; locals = locals }) (record { globals = old; locals = locals }) (change_variable (variable.Global n) f (record { globals = old; locals = locals }))
unfolding frame_by
global_leaves r n new old locals f h = leaves_same r (frame_by new locals) (frame_by old locals) _ _ (with_globals (f (or_none (slice_get old n))) old locals n) (leaves_mapped (λ gs. frame_by gs locals) r new old (value_changed old n f) h)

-- what a change of a local leaves is what it leaves of the variables
local_leaves : (r : Result (Unit {0}) Trouble) (n : ℕ) (globals new old : List Value) (f : Value → Result Value Fault) → Leaves r new old (value_changed old n f) → Leaves r (record { globals = globals; locals = new }) (record { globals = globals; locals = old }) (change_variable (variable.Local n) f (record { globals = globals; locals = old }))
unfolding frame_by
local_leaves r n globals new old f h = leaves_same r (frame_by globals new) (frame_by globals old) _ _ (with_locals (f (or_none (slice_get old n))) globals old n) (leaves_mapped (λ ls. frame_by globals ls) r new old (value_changed old n f) h)

-- ---- runs

-- a fault stops the run, which leaves the variables as they were
walks_fault : (x : Variable) (f : Value → Result Value Fault) (told : Told) (new old : Frame) (why : Fault) → change_variable x f old ≡ Err why → new ≡ old → Walks (change (change_variable x f)) told old told new (stopped {A = Unit {0}} (Err (trouble.Fault why)))
walks_fault x f told new old why e same = subst (λ frame. Walks (change (change_variable x f)) told old told frame (stopped {A = Unit {0}} (Err (trouble.Fault why)))) (sym same) (walks_change_err (change_variable x f) told (sym e))

-- so does want of memory
walks_wanting : (x : Variable) (f : Value → Result Value Fault) (told : Told) (new old : Frame) → new ≡ old → Walks (change (change_variable x f)) told old told new (stopped {A = Unit {0}} (Err trouble.Memory))
walks_wanting x f told new old same = subst (λ frame. Walks (change (change_variable x f)) told old told frame (stopped {A = Unit {0}} (Err trouble.Memory))) (sym same) (walks_memory (change (change_variable x f)) told told old)

-- a run that changes a variable is what such a change leaves
walks_left : (x : Variable) (f : Value → Result Value Fault) (told : Told) (new old : Frame) (r : Result (Unit {0}) Trouble) → Leaves r new old (change_variable x f old) → Walks (change (change_variable x f)) told old told new (stopped r)
walks_left x f told new old (Ok done) h = walks_change (change_variable x f) told (sym h)
walks_left x f told new old (Err (trouble.Fault why)) h = walks_fault x f told new old why h.0 h.1
walks_left x f told new old (Err trouble.Memory) h = walks_wanting x f told new old h

-- a global that was changed
pub walks_global : (n : ℕ) (f : Value → Result Value Fault) (told : Told) (new old locals : List Value) (r : Result (Unit {0}) Trouble) → Leaves r new old (value_changed old n f) → Walks (change (change_variable (variable.Global n) f)) told (record { globals = old; locals = locals }) told (record { globals = new; locals = locals }) (stopped r)
walks_global n f told new old locals r h = walks_left (variable.Global n) f told _ _ r (global_leaves r n new old locals f h)

-- a local that was changed
pub walks_local : (n : ℕ) (f : Value → Result Value Fault) (told : Told) (globals new old : List Value) (r : Result (Unit {0}) Trouble) → Leaves r new old (value_changed old n f) → Walks (change (change_variable (variable.Local n) f)) told (record { globals = globals; locals = old }) told (record { globals = globals; locals = new }) (stopped r)
walks_local n f told globals new old r h = walks_left (variable.Local n) f told _ _ r (local_leaves r n globals new old f h)

-- the same by the variable, and the answer that a run is given
pub changed_global : (x : Variable) (n : ℕ) (f : Value → Result Value Fault) (told : Told) (new old locals : List Value) (r : Result (Unit {0}) Trouble) (result : Result (Unit {0}) Stop) → x ≡ variable.Global n → result ≡ stopped r → Leaves r new old (value_changed old n f) → Walks (change (change_variable x f)) told (record { globals = old; locals = locals }) told (record { globals = new; locals = locals }) result
changed_global x n f told new old locals r result is ends h = rw (is, ends) (walks_global n f told new old locals r h)

pub changed_local : (x : Variable) (n : ℕ) (f : Value → Result Value Fault) (told : Told) (globals new old : List Value) (r : Result (Unit {0}) Trouble) (result : Result (Unit {0}) Stop) → x ≡ variable.Local n → result ≡ stopped r → Leaves r new old (value_changed old n f) → Walks (change (change_variable x f)) told (record { globals = globals; locals = old }) told (record { globals = globals; locals = new }) result
changed_local x n f told globals new old r result is ends h = rw (is, ends) (walks_local n f told globals new old r h)
