-- Steps of statements, told of the globals alone where they stop.
use Rattle.std.proofs.Common.{◌≡◌, ℕ, List, [], ◌∷◌, ◌++◌, map, Option, Some, None, Result, Ok, Err, sym, ap, subst, ◌∙◌}
use Rattle.std.specs.Prelude.{slice_get}
use Rattle.epl_values.specs.declared.shape.EventShape.{EventShape}
use Rattle.epl_values.specs.declared.value.Value.{Value}
use Rattle.typed_program.specs.declared.expression.TypedExpr.{TypedExpr}
use Rattle.typed_program.specs.declared.program.Site.{Site}
use Rattle.action_host.specs.Told.{Told}
use Rattle.body_meaning.specs.declared.run.Flow.TheVariants.{Next}
use Rattle.body_meaning.specs.declared.run.Frame.{Frame}
use Rattle.body_meaning.specs.declared.run.Move.{Move}
use Rattle.body_meaning.specs.Expressions.{Calls, Place, Change, meaning_of, reach_of, all_values}
use Rattle.body_meaning.specs.Methods.{changed_by}
use Rattle.body_meaning.specs.Paths.{altered, change_variable, set_local}
use Rattle.body_meaning.specs.Runs.{M, ◌>>=◌, change, all, all_behind}
use Rattle.body_meaning.specs.Statements.{done, set, moves_in, listener_of, listen_at, spawned}
use Rattle.walk_rules.specs.declared.stop.Stop.{Stop}
use Rattle.walk_rules.specs.Ran.{Walks}
use Rattle.path_bases.specs.Tells.{Tells}
use Rattle.walk_laws.proofs.Grouping.{bind_grouped, pure_then}
use Rattle.walk_laws.proofs.Stating.{tells_done, tells_done_err, tells_set, tells_change_place, tells_change_place_err, tells_change_place_arguments_err, tells_change_place_unchanged}
use Rattle.walk_laws.proofs.Telling.{tells_as, tells_bind, tells_bind_err}
use Rattle.stmt_walker.specs.declared.changing.ChangeIn.{ChangeIn}
use Rattle.stmt_walker.specs.Found.{ChangesAt}

-- ---- steps behind steps

all_parts : {A : Type 0} (ys : List A) (ms ns : List (M A)) → all_behind ys (ms ++ ns) ≡ (all_behind ys ms >>= (λ vs. all_behind vs ns))
all_parts ys [] ns = sym (pure_then ys (λ vs. all_behind vs ns))
all_parts ys (m ∷ ms) ns = ap (λ k. m >>= k) (λ i x. all_parts (ys ++ x ∷ []) ms ns i) ∙ sym (bind_grouped m (λ x. all_behind (ys ++ x ∷ []) ms) (λ vs. all_behind vs ns))

-- the first ones, and then the others
pub tells_parts : {A : Type 0} (ms ns : List (M A)) {vs : List A} {r : Result (List A) Stop} {t t1 t2 : Told} {f f1 f2 : Frame} → Tells (all ms) t f t1 f1 (Ok vs) → Tells (all_behind vs ns) t1 f1 t2 f2 r → Tells (all (ms ++ ns)) t f t2 f2 r
tells_parts ms ns a b = tells_as (all_parts [] ms ns) (tells_bind (λ vs. all_behind vs ns) a b)

-- where one of the first ones stops
pub tells_parts_err : {A : Type 0} (ms ns : List (M A)) {stop : Stop} {t t1 : Told} {f f1 : Frame} → Tells (all ms) t f t1 f1 (Err stop) → Tells (all (ms ++ ns)) t f t1 f1 (Err stop)
tells_parts_err ms ns a = tells_as (all_parts [] ms ns) (tells_bind_err (λ vs. all_behind vs ns) a)

-- ---- listeners

-- a listener of a site by the site
pub listener_is : (types : List EventShape) (sites : List Site) (call : Calls) (n : ℕ) {o : Option Site} → slice_get sites n ≡ o → listener_of types sites call n ≡ listen_at types sites call n o
unfolding listener_of
listener_is types sites call n is = ap (listen_at types sites call n) is

-- ---- instances

-- where an argument of a new instance stops
pub tells_unspawned : (types : List EventShape) (sites : List Site) (call : Calls) (n : ℕ) (es : List TypedExpr) (to : Option TypedExpr) {stop : Stop} {t t1 : Told} {f f1 : Frame} → Tells (all_values types call es) t f t1 f1 (Err stop) → Tells (spawned types sites call n es to) t f t1 f1 (Err stop)
tells_unspawned types sites call n es None a = tells_bind_err _ a
tells_unspawned types sites call n es (Some to) a = tells_bind_err _ a

-- ---- variables

-- a local with a value that is known
pub tells_set_as : (n : ℕ) {v w : Value} (t : Told) {f f1 : Frame} → v ≡ w → Ok f1 ≡ set_local n v f → Tells (set n w) t f t f1 (Ok Next)
tells_set_as n {v} t {f} {f1} same is = subst (λ x. Tells (set n x) t f t f1 (Ok Next)) same (tells_set n v t is)

-- ---- a change in place

-- the place that is changed
place_in : {types : List EventShape} {call : Calls} {e : TypedExpr} {to : ChangeIn} → ChangesAt types call e to → Place
place_in {types} {call} {e} {to} at = record { variable = at.place.variable; moves = at.place.moves ++ moves_in (map (reach_of types call) to.steps.now) }

-- what is done there
change_by_call : List EventShape → Calls → ChangeIn → Change
change_by_call types call to = record { method = to.method; arguments = all_values types call to.arguments.now }

module _ (types : List EventShape) (call : Calls) (e : TypedExpr) (to : ChangeIn) (at : ChangesAt types call e to) where
  -- where a step of the place stops
  pub tells_unplaced : {stop : Stop} {t t1 : Told} {f f1 : Frame} → Tells (all (at.place.moves ++ moves_in (map (reach_of types call) to.steps.now))) t f t1 f1 (Err stop) → Tells (done (meaning_of types call e).run) t f t1 f1 (Err stop)
  unfolding place_in change_by_call
  tells_unplaced a = tells_done_err (tells_as at.run (tells_change_place_err (place_in at) (change_by_call types call to) a))

  module _ {moves : List Move} {t t1 t2 : Told} {f f1 f2 : Frame} (stepped : Tells (all (at.place.moves ++ moves_in (map (reach_of types call) to.steps.now))) t f t1 f1 (Ok moves)) where
    -- where an argument stops
    pub tells_unargued : {stop : Stop} → Tells (all_values types call to.arguments.now) t1 f1 t2 f2 (Err stop) → Tells (done (meaning_of types call e).run) t f t2 f2 (Err stop)
    unfolding place_in change_by_call
    tells_unargued b = tells_done_err (tells_as at.run (tells_change_place_arguments_err (place_in at) (change_by_call types call to) stepped b))

    module _ {vs : List Value} {t3 : Told} {f3 : Frame} (argued : Tells (all_values types call to.arguments.now) t1 f1 t2 f2 (Ok vs)) where
      -- the change
      pub tells_changed : Walks (change (change_variable to.variable (altered moves (changed_by to.method vs)))) t2 f2 t3 f3 (Ok tt) → Tells (done (meaning_of types call e).run) t f t3 f3 (Ok Next)
      unfolding place_in change_by_call
      tells_changed w = tells_done (tells_as at.run (tells_change_place (place_in at) (change_by_call types call to) stepped argued (subst (λ x. Walks (change (change_variable x (altered moves (changed_by to.method vs)))) t2 f2 t3 f3 (Ok tt)) (sym at.behind) w)))

      -- where it can't be changed
      pub tells_unchanged : {stop : Stop} → Walks (change (change_variable to.variable (altered moves (changed_by to.method vs)))) t2 f2 t3 f3 (Err stop) → Tells (done (meaning_of types call e).run) t f t3 f3 (Err stop)
      unfolding place_in change_by_call
      tells_unchanged {stop} w = tells_done_err (tells_as at.run (tells_change_place_unchanged (place_in at) (change_by_call types call to) stepped argued (subst (λ x. Walks (change (change_variable x (altered moves (changed_by to.method vs)))) t2 f2 t3 f3 (Err stop)) (sym at.behind) w)))
