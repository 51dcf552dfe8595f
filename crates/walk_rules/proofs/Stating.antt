-- Statements and methods, put together from their parts.
use Rattle.std.proofs.Common.{◌≡◌}
use Rattle.walk_rules.proofs.Common.{ℕ, List, Result, Ok, Err, refl, sym, ap, ◌∙◌, Value, Value-F, out-Value, roll-Value, roll-out-Value, Pair, TypedPlace, Fault, Told, Flow, Next, Frame, Failed, M, all, set_local, done, set, Stop, Halted, Walks}
use Rattle.epl_values.specs.declared.value.Value.TheOpen as layer
use Rattle.epl_values.specs.declared.value.Value.TheVariants as value
use Rattle.value_rules.specs.Costs.{cost_of}
use Rattle.action_host.specs.declared.host.Fault.TheVariants as fault
use Rattle.body_meaning.specs.declared.run.Move.{Move}
use Rattle.body_meaning.specs.Runs.{charge, given}
use Rattle.body_meaning.specs.Values.{items_of, bounded}
use Rattle.body_meaning.specs.Paths.{store, alter}
use Rattle.body_meaning.specs.Methods.{changed_by, text_charged, value_charged}
use Rattle.body_meaning.specs.Effects.{globals_then, spawn_in, spawn_to, spawn_there}
use Rattle.body_meaning.specs.Expressions.{Place, Change, change_place}
use Rattle.body_meaning.specs.Statements.{each, elements_of, for_of, assign}
use Rattle.walk_rules.proofs.Running.{walks_pure, walks_look, walks_change, walks_change_err, walks_given, walks_given_err}
use Rattle.walk_rules.proofs.Binding.{walks_bind, walks_bind_err, walks_seq, walks_seq_err}

-- ---- statements

pub walks_done : {m : M Value} {v : Value} {t t1 : Told} {f f1 : Frame} → Walks m t f t1 f1 (Ok v) → Walks (done m) t f t1 f1 (Ok Next)
walks_done a = walks_seq a (walks_pure Next _ _)

pub walks_done_err : {m : M Value} {stop : Stop} {t t1 : Told} {f f1 : Frame} → Walks m t f t1 f1 (Err stop) → Walks (done m) t f t1 f1 (Err stop)
walks_done_err a = walks_seq_err _ a

pub walks_set : (n : ℕ) (v : Value) (t : Told) {f f1 : Frame} → Ok f1 ≡ set_local n v f → Walks (set n v) t f t f1 (Ok Next)
walks_set n v t is = walks_seq (walks_change (set_local n v) t is) (walks_pure Next _ _)

-- the elements of a sequence, which is charged
pub walks_elements : {m : M Value} {v : Value} {t t1 t2 : Told} {f f1 f2 : Frame} → Walks m t f t1 f1 (Ok v) → Walks (charge (cost_of v)) t1 f1 t2 f2 (Ok tt) → Walks (elements_of m) t f t2 f2 (Ok (items_of v))
unfolding elements_of
walks_elements a b = walks_bind _ a (walks_seq b (walks_pure _ _ _))

pub walks_elements_err : {m : M Value} {stop : Stop} {t t1 : Told} {f f1 : Frame} → Walks m t f t1 f1 (Err stop) → Walks (elements_of m) t f t1 f1 (Err stop)
unfolding elements_of
walks_elements_err a = walks_bind_err _ a

pub walks_elements_unpaid : {m : M Value} {v : Value} {stop : Stop} {t t1 t2 : Told} {f f1 f2 : Frame} → Walks m t f t1 f1 (Ok v) → Walks (charge (cost_of v)) t1 f1 t2 f2 (Err stop) → Walks (elements_of m) t f t2 f2 (Err stop)
unfolding elements_of
walks_elements_unpaid a b = walks_bind _ a (walks_seq_err _ b)

pub walks_for : (n : ℕ) (m : M Value) (body : M Flow) {vs : List Value} {r : Result Flow Stop} {t t1 t2 : Told} {f f1 f2 : Frame} → Walks (elements_of m) t f t1 f1 (Ok vs) → Walks (each n vs body) t1 f1 t2 f2 r → Walks (for_of n m body) t f t2 f2 r
unfolding for_of
walks_for n m body a b = walks_bind _ a b

pub walks_for_err : (n : ℕ) (m : M Value) (body : M Flow) {stop : Stop} {t t1 : Told} {f f1 : Frame} → Walks (elements_of m) t f t1 f1 (Err stop) → Walks (for_of n m body) t f t1 f1 (Err stop)
unfolding for_of
walks_for_err n m body a = walks_bind_err _ a

-- a place, what is stored there, and the variables with it
module _ (place : TypedPlace) (moves : List (M Move)) {m : M Value} {t t1 t2 : Told} {f f1 f2 : Frame} where
  pub walks_assign : {to : List Move} {v : Value} {f3 : Frame} → Walks (all moves) t f t1 f1 (Ok to) → Walks m t1 f1 t2 f2 (Ok v) → Ok f3 ≡ store place.variable to v f2 → Walks (assign place moves m) t f t2 f3 (Ok Next)
  unfolding assign
  walks_assign {to} {v} a b is = walks_bind _ a (walks_bind _ b (walks_seq (walks_change (store place.variable to v) t2 is) (walks_pure Next _ _)))

  pub walks_assign_fault : {to : List Move} {v : Value} {why : Fault} → Walks (all moves) t f t1 f1 (Ok to) → Walks m t1 f1 t2 f2 (Ok v) → Err why ≡ store place.variable to v f2 → Walks (assign place moves m) t f t2 f2 (Err (Halted (Failed why)))
  unfolding assign
  walks_assign_fault {to} {v} a b is = walks_bind _ a (walks_bind _ b (walks_seq_err _ (walks_change_err (store place.variable to v) t2 is)))

  pub walks_assign_value_err : {to : List Move} {stop : Stop} → Walks (all moves) t f t1 f1 (Ok to) → Walks m t1 f1 t2 f2 (Err stop) → Walks (assign place moves m) t f t2 f2 (Err stop)
  unfolding assign
  walks_assign_value_err a b = walks_bind _ a (walks_bind_err _ b)

pub walks_assign_place_err : (place : TypedPlace) (moves : List (M Move)) (m : M Value) {stop : Stop} {t t1 : Told} {f f1 : Frame} → Walks (all moves) t f t1 f1 (Err stop) → Walks (assign place moves m) t f t1 f1 (Err stop)
unfolding assign
walks_assign_place_err place moves m a = walks_bind_err _ a

-- a change at a place: the steps, the arguments, and the variables with it
module _ (p : Place) (ch : Change) {to : List Move} {t t1 t2 : Told} {f f1 f2 : Frame} (stepped : Walks (all p.moves) t f t1 f1 (Ok to)) where
  pub walks_change_place : {vs : List Value} {f3 : Frame} → Walks ch.arguments t1 f1 t2 f2 (Ok vs) → Ok f3 ≡ alter p.variable to (changed_by ch.method vs) f2 → Walks (change_place p ch) t f t2 f3 (Ok value.NoContext)
  unfolding change_place
  walks_change_place {vs} b is = walks_bind _ stepped (walks_bind _ b (walks_seq (walks_change (alter p.variable to (changed_by ch.method vs)) t2 is) (walks_pure value.NoContext _ _)))

  pub walks_change_place_fault : {vs : List Value} {why : Fault} → Walks ch.arguments t1 f1 t2 f2 (Ok vs) → Err why ≡ alter p.variable to (changed_by ch.method vs) f2 → Walks (change_place p ch) t f t2 f2 (Err (Halted (Failed why)))
  unfolding change_place
  walks_change_place_fault {vs} b is = walks_bind _ stepped (walks_bind _ b (walks_seq_err _ (walks_change_err (alter p.variable to (changed_by ch.method vs)) t2 is)))

  pub walks_change_place_arguments_err : {stop : Stop} → Walks ch.arguments t1 f1 t2 f2 (Err stop) → Walks (change_place p ch) t f t2 f2 (Err stop)
  unfolding change_place
  walks_change_place_arguments_err b = walks_bind _ stepped (walks_bind_err _ b)

pub walks_change_place_err : (p : Place) (ch : Change) {stop : Stop} {t t1 : Told} {f f1 : Frame} → Walks (all p.moves) t f t1 f1 (Err stop) → Walks (change_place p ch) t f t1 f1 (Err stop)
unfolding change_place
walks_change_place_err p ch a = walks_bind_err _ a

-- ---- instances

-- what is done with the globals
pub walks_globals : (go : List Value → M Value) {r : Result Value Stop} {t t1 : Told} {f f1 : Frame} → Walks (go f.globals) t f t1 f1 r → Walks (globals_then go) t f t1 f1 r
walks_globals go {t = t} a = walks_bind _ (walks_look (λ frame. frame.globals) t refl) a

pub spawn_to_context : (n : ℕ) (arguments : List Value) (to : Value) (slot : ℕ) → to ≡ value.Context slot → spawn_to n arguments to ≡ globals_then (spawn_there n arguments slot)
spawn_to_context n arguments to slot is = ap (λ v. spawn_in n arguments (out-Value v)) is ∙ ap (spawn_in n arguments) (value.outs-Context slot)

module _ (n : ℕ) (arguments : List Value) (to : Value) (not_context : (slot : ℕ) → to ≡ value.Context slot → ⊥) where
  elsewhere : (d : Value-F Value Pair) → out-Value to ≡ d → spawn_in n arguments d ≡ given (Err fault.NoContext)
  elsewhere (layer.Integer i) is = refl
  elsewhere (layer.Boolean b) is = refl
  elsewhere (layer.Text t) is = refl
  elsewhere (layer.Sequence items) is = refl
  elsewhere (layer.Dictionary pairs) is = refl
  elsewhere (layer.Event e fields) is = refl
  elsewhere (layer.Context slot) is = absurd (not_context slot (sym (roll-out-Value to) ∙ ap roll-Value is ∙ value.rolls-Context slot))
  elsewhere layer.NoContext is = refl
  elsewhere (layer.Listener birth) is = refl

  pub spawn_elsewhere : spawn_to n arguments to ≡ given (Err fault.NoContext)
  spawn_elsewhere = elsewhere (out-Value to) refl

-- ---- what is charged by what it is

pub walks_value_charged : {v : Value} {t t1 : Told} {f f1 : Frame} → Walks (charge (cost_of v)) t f t1 f1 (Ok tt) → Walks (value_charged v) t f t1 f1 (Ok v)
unfolding value_charged
walks_value_charged {v} a = walks_seq a (walks_pure v _ _)

pub walks_value_unpaid : (v : Value) {stop : Stop} {t t1 : Told} {f f1 : Frame} → Walks (charge (cost_of v)) t f t1 f1 (Err stop) → Walks (value_charged v) t f t1 f1 (Err stop)
unfolding value_charged
walks_value_unpaid v a = walks_seq_err _ a

-- a text is charged before its length is tested
pub walks_text_charged : (text : List ℕ) {v : Value} {t t1 : Told} {f f1 : Frame} → Walks (charge (cost_of (value.Text text))) t f t1 f1 (Ok tt) → Ok v ≡ bounded text → Walks (text_charged text) t f t1 f1 (Ok v)
unfolding text_charged
walks_text_charged text a is = walks_seq a (walks_given _ _ is)

pub walks_text_too_long : (text : List ℕ) {why : Fault} {t t1 : Told} {f f1 : Frame} → Walks (charge (cost_of (value.Text text))) t f t1 f1 (Ok tt) → Err why ≡ bounded text → Walks (text_charged text) t f t1 f1 (Err (Halted (Failed why)))
unfolding text_charged
walks_text_too_long text a is = walks_seq a (walks_given_err _ _ is)

pub walks_text_unpaid : (text : List ℕ) {stop : Stop} {t t1 : Told} {f f1 : Frame} → Walks (charge (cost_of (value.Text text))) t f t1 f1 (Err stop) → Walks (text_charged text) t f t1 f1 (Err stop)
unfolding text_charged
walks_text_unpaid text a = walks_seq_err _ a
