-- Statements, put together from parts that are told of the globals alone where they stop.
use Rattle.std.proofs.Common.{◌≡◌, ℕ, List, Result, Ok, Err, refl}
use Rattle.epl_values.specs.declared.value.Value.{Value}
use Rattle.epl_values.specs.declared.value.Value.TheVariants as value
use Rattle.typed_program.specs.declared.statement.TypedPlace.{TypedPlace}
use Rattle.value_rules.specs.Costs.{cost_of}
use Rattle.action_host.specs.Told.{Told}
use Rattle.body_meaning.specs.declared.run.Flow.{Flow}
use Rattle.body_meaning.specs.declared.run.Flow.TheVariants.{Next}
use Rattle.body_meaning.specs.declared.run.Frame.{Frame}
use Rattle.body_meaning.specs.declared.run.Move.{Move}
use Rattle.body_meaning.specs.Runs.{M, charge, change, all}
use Rattle.body_meaning.specs.Values.{items_of}
use Rattle.body_meaning.specs.Paths.{store, alter, set_local}
use Rattle.body_meaning.specs.Methods.{changed_by}
use Rattle.body_meaning.specs.Effects.{globals_then}
use Rattle.body_meaning.specs.Expressions.{Place, Change, change_place}
use Rattle.body_meaning.specs.Statements.{done, set, each, elements_of, for_of, assign}
use Rattle.walk_rules.specs.declared.stop.Stop.{Stop}
use Rattle.walk_rules.specs.Ran.{Walks}
use Rattle.walk_rules.proofs.Stating.{walks_set}
use Rattle.path_bases.specs.Tells.{Tells}
use Rattle.walk_laws.proofs.Telling.{tells_walks, tells_pure, tells_look, tells_bind, tells_bind_err, tells_seq, tells_seq_err}

-- ---- a run whose value is dropped

-- a run that ended with a value
pub tells_done : {m : M Value} {v : Value} {t t1 : Told} {f f1 : Frame} → Tells m t f t1 f1 (Ok v) → Tells (done m) t f t1 f1 (Ok Next)
tells_done a = tells_seq a (tells_pure Next _ _)

-- a run that stopped
pub tells_done_err : {m : M Value} {stop : Stop} {t t1 : Told} {f f1 : Frame} → Tells m t f t1 f1 (Err stop) → Tells (done m) t f t1 f1 (Err stop)
tells_done_err a = tells_seq_err _ a

-- a local with another value
pub tells_set : (n : ℕ) (v : Value) (t : Told) {f f1 : Frame} → Ok f1 ≡ set_local n v f → Tells (set n v) t f t f1 (Ok Next)
tells_set n v t is = tells_walks (walks_set n v t is)

-- ---- the elements of a sequence

-- behind the charge
pub tells_elements : {m : M Value} {v : Value} {t t1 t2 : Told} {f f1 f2 : Frame} → Tells m t f t1 f1 (Ok v) → Walks (charge (cost_of v)) t1 f1 t2 f2 (Ok tt) → Tells (elements_of m) t f t2 f2 (Ok (items_of v))
unfolding elements_of
tells_elements a paid = tells_bind _ a (tells_seq (tells_walks paid) (tells_pure _ _ _))

-- where the sequence stops
pub tells_elements_err : {m : M Value} {stop : Stop} {t t1 : Told} {f f1 : Frame} → Tells m t f t1 f1 (Err stop) → Tells (elements_of m) t f t1 f1 (Err stop)
unfolding elements_of
tells_elements_err a = tells_bind_err _ a

-- where it isn't paid
pub tells_elements_unpaid : {m : M Value} {v : Value} {stop : Stop} {t t1 t2 : Told} {f f1 f2 : Frame} → Tells m t f t1 f1 (Ok v) → Walks (charge (cost_of v)) t1 f1 t2 f2 (Err stop) → Tells (elements_of m) t f t2 f2 (Err stop)
unfolding elements_of
tells_elements_unpaid a unpaid = tells_bind _ a (tells_seq_err _ (tells_walks unpaid))

-- a loop over them
pub tells_for : (n : ℕ) (m : M Value) (body : M Flow) {vs : List Value} {r : Result Flow Stop} {t t1 t2 : Told} {f f1 f2 : Frame} → Tells (elements_of m) t f t1 f1 (Ok vs) → Tells (each n vs body) t1 f1 t2 f2 r → Tells (for_of n m body) t f t2 f2 r
unfolding for_of
tells_for n m body a b = tells_bind (λ vs. each n vs body) a b

-- where there are none
pub tells_for_err : (n : ℕ) (m : M Value) (body : M Flow) {stop : Stop} {t t1 : Told} {f f1 : Frame} → Tells (elements_of m) t f t1 f1 (Err stop) → Tells (for_of n m body) t f t1 f1 (Err stop)
unfolding for_of
tells_for_err n m body a = tells_bind_err (λ vs. each n vs body) a

-- ---- a place, what is stored there, and the variables with it

module _ (place : TypedPlace) (moves : List (M Move)) {m : M Value} {t t1 t2 : Told} {f f1 f2 : Frame} where
  module _ {to : List Move} {v : Value} {t3 : Told} {f3 : Frame} (stepped : Tells (all moves) t f t1 f1 (Ok to)) (valued : Tells m t1 f1 t2 f2 (Ok v)) where
    -- what is stored there
    pub tells_assign : Walks (change (store place.variable to v)) t2 f2 t3 f3 (Ok tt) → Tells (assign place moves m) t f t3 f3 (Ok Next)
    unfolding assign
    tells_assign stored = tells_bind _ stepped (tells_bind _ valued (tells_seq (tells_walks stored) (tells_pure Next _ _)))

    -- where it can't be stored
    pub tells_assign_unstored : {stop : Stop} → Walks (change (store place.variable to v)) t2 f2 t3 f3 (Err stop) → Tells (assign place moves m) t f t3 f3 (Err stop)
    unfolding assign
    tells_assign_unstored stored = tells_bind _ stepped (tells_bind _ valued (tells_seq_err _ (tells_walks stored)))

  -- where the value stops
  pub tells_assign_value_err : {to : List Move} {stop : Stop} → Tells (all moves) t f t1 f1 (Ok to) → Tells m t1 f1 t2 f2 (Err stop) → Tells (assign place moves m) t f t2 f2 (Err stop)
  unfolding assign
  tells_assign_value_err a b = tells_bind _ a (tells_bind_err _ b)

-- where a step of the place stops
pub tells_assign_place_err : (place : TypedPlace) (moves : List (M Move)) (m : M Value) {stop : Stop} {t t1 : Told} {f f1 : Frame} → Tells (all moves) t f t1 f1 (Err stop) → Tells (assign place moves m) t f t1 f1 (Err stop)
unfolding assign
tells_assign_place_err place moves m a = tells_bind_err _ a

-- ---- a change at a place: the steps, the arguments, and the variables with it

module _ (p : Place) (ch : Change) {to : List Move} {t t1 t2 : Told} {f f1 f2 : Frame} (stepped : Tells (all p.moves) t f t1 f1 (Ok to)) where
  module _ {vs : List Value} {t3 : Told} {f3 : Frame} (given : Tells ch.arguments t1 f1 t2 f2 (Ok vs)) where
    -- the change
    pub tells_change_place : Walks (change (alter p.variable to (changed_by ch.method vs))) t2 f2 t3 f3 (Ok tt) → Tells (change_place p ch) t f t3 f3 (Ok value.NoContext)
    unfolding change_place
    tells_change_place changed = tells_bind _ stepped (tells_bind _ given (tells_seq (tells_walks changed) (tells_pure value.NoContext _ _)))

    -- where it can't be changed
    pub tells_change_place_unchanged : {stop : Stop} → Walks (change (alter p.variable to (changed_by ch.method vs))) t2 f2 t3 f3 (Err stop) → Tells (change_place p ch) t f t3 f3 (Err stop)
    unfolding change_place
    tells_change_place_unchanged changed = tells_bind _ stepped (tells_bind _ given (tells_seq_err _ (tells_walks changed)))

  -- where an argument stops
  pub tells_change_place_arguments_err : {stop : Stop} → Tells ch.arguments t1 f1 t2 f2 (Err stop) → Tells (change_place p ch) t f t2 f2 (Err stop)
  unfolding change_place
  tells_change_place_arguments_err b = tells_bind _ stepped (tells_bind_err _ b)

-- where a step of the place stops
pub tells_change_place_err : (p : Place) (ch : Change) {stop : Stop} {t t1 : Told} {f f1 : Frame} → Tells (all p.moves) t f t1 f1 (Err stop) → Tells (change_place p ch) t f t1 f1 (Err stop)
unfolding change_place
tells_change_place_err p ch a = tells_bind_err _ a

-- what is done with the globals
pub tells_globals : (go : List Value → M Value) {r : Result Value Stop} {t t1 : Told} {f f1 : Frame} → Tells (go f.globals) t f t1 f1 r → Tells (globals_then go) t f t1 f1 r
tells_globals go {t = t} a = tells_bind go (tells_look (λ frame. frame.globals) t refl) a
