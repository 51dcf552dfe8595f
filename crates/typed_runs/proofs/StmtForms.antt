-- The forms of statements: each keeps the shapes of variables, and what it returns has the shape of the result.
use Rattle.std.proofs.Common.{◌≡◌, ◌&&◌, ◌==◌, ◌∷◌}
use Rattle.typed_runs.proofs.Common.{ℕ, Bool, true, not, List, [], map, Option, Some, None, refl, sym, ap, subst, ◌∙◌, slice_get, is_some, AllZip, list_all, eqb-true, Shape, Shape-F, out-Shape, roll-Shape, roll-out-Shape, Value, out-Value, Program, Action, Site, TypedExpr, TypedSuffix, TypedPlace, Variable, Names, if_known, checked, stepping, shape_of, walks, Body, passes, place_so, site_so, loops, goes_to, Flow, Next, Returned, Frame, M, variable_in, Calls, value_of, Fit, AllFit, MayFit, fit_nil, fit_cons, globals_in, Keeps, FrameFits, ListenFits}
use Rattle.epl_values.specs.declared.shape.Shape.TheOpen as layer
use Rattle.epl_values.specs.declared.shape.Shape.TheVariants as shape
use Rattle.typed_program.specs.declared.program.Local.{Local}
use Rattle.typed_program.specs.declared.statement.Variable.TheVariants as variable
use Rattle.typed_program.specs.Shapes.{is_event, is_event_layer, item_of, item_layer}
use Rattle.typed_program.specs.Expressions.{has, holds, have}
use Rattle.typed_program.specs.Statements.{is_value, variable_shape, captures, listens, item_is, returns, begins}
use Rattle.body_meaning.specs.Effects.{listen}
use Rattle.body_meaning.specs.Expressions.{meaning_of, reach_of, all_values}
use Rattle.body_meaning.specs.Statements.{assign, captured_in, listen_at, listener_of, place_moves, spawned, returned, for_of}
use Rattle.value_shapes.specs.Fits.{AllMayFit, IsEvent}
use Rattle.value_shapes.proofs.Made.{sequence_items, is_event_fits}
use Rattle.typed_runs.proofs.Keeping.{Any, keeps_pure, keeps_look, keeps_bind, keeps_as, keeps_all}
use Rattle.typed_runs.proofs.Variables.{shape_at, variable_fits}
use Rattle.typed_runs.proofs.Effecting.{keeps_listen, keeps_spawn, keeps_spawn_to}
use Rattle.typed_runs.proofs.Sound.{SoundValue, Sound, sound_value, known_is, known_some, left, right, told_of, keeps_values}
use Rattle.typed_runs.proofs.StepForms.{SoundStep, walked}
use Rattle.typed_runs.proofs.Stepping.{Walked}
use Rattle.typed_runs.proofs.Assigning.{moves_lead, begins_at}
use Rattle.typed_runs.proofs.Looping.{keeps_assign, keeps_for}
use Rattle.typed_runs.proofs.Seen.{Seen, named}
use Rattle.typed_runs.proofs.Exprs.{expr_sound, step_sound, checked_shape}

-- what a body returns has the shape of its result
abbrev pub FlowFits : Program → Option Shape → Flow → Type 0
FlowFits program result (Returned None) = result ≡ None
FlowFits program result (Returned (Some v)) = MayFit program.types v result
FlowFits program result flow = Unit {0}

-- ---- shapes

-- a layer of events is that of one type
event_layer : (d : Shape-F Shape) → is_event_layer d ≡ true → (n : ℕ) × (roll-Shape d ≡ shape.Event n)
event_layer (layer.Event n) h = (n, shape.rolls-Event n)
event_layer d h = cc

-- a shape of events is that of one type
event_shape : (s : Shape) → is_event s ≡ true → (n : ℕ) × (s ≡ shape.Event n)
unfolding is_event
event_shape s h = let at = event_layer (out-Shape s) h in (at.0, sym (roll-out-Shape s) ∙ at.1)

-- a value of such a shape is an event
event_value : (program : Program) (s : Shape) (v : Value) → is_event s ≡ true → Fit program.types v s → IsEvent program.types v (out-Value v)
event_value program s v h f = let at = event_shape s h in is_event_fits program.types v at.0 (subst (Fit program.types v) at.1 f)

-- a layer with this element is a sequence of it
items_layer : (item : Shape) (d : Shape-F Shape) → item_layer d ≡ Some item → roll-Shape d ≡ shape.Sequence item
items_layer item (layer.Sequence other) h = let same : other ≡ item = cc in shape.rolls-Sequence other ∙ ap shape.Sequence same
items_layer item d h = cc

-- a shape with this element
items_shape : (item s : Shape) → item_of s ≡ Some item → s ≡ shape.Sequence item
unfolding item_of
items_shape item s h = sym (roll-out-Shape s) ∙ items_layer item (out-Shape s) h

-- where none is asked there is none
no_result : (o : Option Shape) → not (is_some o) ≡ true → o ≡ None
no_result None h = refl
no_result (Some s) h = cc

-- values one by one of the shapes that are known
may_zip : (program : Program) (os : List (Option Shape)) (vs : List Value) → AllZip (λ o v. MayFit program.types v o) os vs → AllMayFit program.types vs os
may_zip program [] [] h = tt
may_zip program [] (v ∷ vs) h = absurd h
may_zip program (o ∷ os) [] h = absurd h
may_zip program (o ∷ os) (v ∷ vs) h = (h.0, may_zip program os vs h.1)

module _ (program : Program) (monitor : ℕ) (room : List Shape) (call : Calls) (result : Option Shape) (seen : Seen program monitor room (globals_in program monitor) room program.actions call) where
  -- what the body may name
  abbrev pub names_here : Names
  names_here = named program monitor (globals_in program monitor) room program.actions

  -- the body
  abbrev pub body_here : Body
  body_here = record { names = names_here; sites = program.sites; result = result }

  -- an expression that is as it should be
  sound : (e : TypedExpr) → Sound program monitor room (checked names_here e) (meaning_of program.types call e)
  sound e = expr_sound program monitor room (globals_in program monitor) room program.actions call seen e

  -- steps that are as they should be
  sound_step : (us : List TypedSuffix) → AllZip (SoundStep program monitor room) (map (stepping names_here) us) (map (reach_of program.types call) us)
  sound_step [] = tt
  sound_step (u ∷ us) = (step_sound program monitor room (globals_in program monitor) room program.actions call seen u, sound_step us)

  -- an expression of this shape
  pub has_keeps : (s : Shape) (e : TypedExpr) → has names_here s e ≡ true → Keeps program monitor room (λ v. Fit program.types v s) (value_of program.types call e)
  has_keeps s e h = told_of program monitor room s (checked names_here e) (value_of program.types call e) (sound_value program monitor room (checked names_here e) (meaning_of program.types call e) (sound e)) h

  -- an expression of this shape, whose value isn't looked at
  pub has_any : (s : Shape) (e : TypedExpr) → has names_here s e ≡ true → Keeps program monitor room Any (value_of program.types call e)
  has_any s e h = keeps_as (λ v f. tt) (has_keeps s e h)

  -- an expression that is as it should be
  value_keeps : (e : TypedExpr) → holds names_here e ≡ true → Keeps program monitor room (λ v. MayFit program.types v (shape_of e)) (value_of program.types call e)
  value_keeps e h = subst (λ (o : Option Shape). Keeps program monitor room (λ v. MayFit program.types v o) (value_of program.types call e)) (checked_shape program monitor room (globals_in program monitor) room program.actions call seen e) (sound e h).told

  -- an expression as a statement
  pub run_keeps : (e : TypedExpr) → holds names_here e ≡ true → Keeps program monitor room Any (meaning_of program.types call e).run
  run_keeps e h = (sound e h).runs

  -- one whose shape passes a test
  pub passes_keeps : (test : Shape → Bool) (e : TypedExpr) → passes body_here test e ≡ true → Keeps program monitor room (λ v. (s : Shape) × (test s ≡ true) × Fit program.types v s) (value_of program.types call e)
  passes_keeps test e h =
      let known = known_some test (shape_of e) (right (holds names_here e) (if_known test (shape_of e)) h) in
      keeps_as (λ v f. (known.0, known.2, subst (MayFit program.types v) known.1 f)) (value_keeps e (left (holds names_here e) (if_known test (shape_of e)) h))

  -- an expression of events
  pub event_keeps : (e : TypedExpr) → passes body_here is_event e ≡ true → Keeps program monitor room (λ v. IsEvent program.types v (out-Value v)) (value_of program.types call e)
  event_keeps e h = keeps_as (λ v f. event_value program f.0 v f.1 f.2) (passes_keeps is_event e h)

  -- the values of expressions
  sound_values : (es : List TypedExpr) → AllZip (SoundValue program monitor room) (map (checked names_here) es) (map (value_of program.types call) es)
  sound_values [] = tt
  sound_values (e ∷ es) = (sound_value program monitor room (checked names_here e) (meaning_of program.types call e) (sound e), sound_values es)

  -- expressions one by one of these shapes
  pub have_keeps : (ss : List Shape) (es : List TypedExpr) → have names_here ss es ≡ true → Keeps program monitor room (λ vs. AllFit program.types vs ss) (all_values program.types call es)
  have_keeps ss es h = keeps_values program monitor room ss (map (checked names_here) es) (map (value_of program.types call) es) (sound_values es) h

  -- ---- listeners

  -- the operands of a site, one by one
  operands_zip : (es : List TypedExpr) → list_all (is_value body_here) es ≡ true → AllZip (λ o m. Keeps program monitor room (λ v. MayFit program.types v o) m) (map shape_of es) (map (value_of program.types call) es)
  operands_zip [] h = tt
  operands_zip (e ∷ es) h =
      let one = left (is_value body_here e) (list_all (is_value body_here) es) h in
      (value_keeps e (left (holds names_here e) (if_known (λ s. true) (shape_of e)) one), operands_zip es (right (is_value body_here e) (list_all (is_value body_here) es) h))

  -- all of them
  operands_keep : (es : List TypedExpr) → list_all (is_value body_here) es ≡ true → Keeps program monitor room (λ vs. AllMayFit program.types vs (map shape_of es)) (all_values program.types call es)
  operands_keep es h = keeps_as (may_zip program (map shape_of es)) (keeps_all (λ o v. MayFit program.types v o) (map shape_of es) (map (value_of program.types call) es) (operands_zip es h))

  -- the names that a callback takes along
  captured_fit : (cs : List Local) (frame : Frame) → list_all (captures body_here) cs ≡ true → FrameFits program monitor room frame → AllFit program.types (captured_in cs frame) (map (λ c. c.shape) cs)
  captured_fit [] frame h f = fit_nil program.types
  captured_fit (c ∷ cs) frame h f =
      let at = known_is c.shape (slice_get room c.number) (left (captures body_here c) (list_all (captures body_here) cs) h) in
      fit_cons program.types (variable_in (variable.Local c.number) frame) (captured_in cs frame) c.shape (map (λ d. d.shape) cs) (variable_fits program monitor room (variable.Local c.number) c.shape frame f at) (captured_fit cs frame (right (captures body_here c) (list_all (captures body_here) cs) h) f)

  -- a run that gives a listener
  abbrev Listening : M Value → Type 0
  Listening m = Keeps program monitor room (λ v. Fit program.types v shape.Listener) m

  -- a listener of a site that is there
  listens_keeps : (n : ℕ) (site : Site) → slice_get program.sites n ≡ Some site → listens body_here site ≡ true → Listening (listen_at program.types program.sites call n (Some site))
  listens_keeps n site is h =
      let front = left (site.monitor == monitor && list_all (is_value body_here) site.operands) (list_all (captures body_here) site.captured) h in
      let taken = right (site.monitor == monitor && list_all (is_value body_here) site.operands) (list_all (captures body_here) site.captured) h in
      let own = eqb-true site.monitor monitor (left (site.monitor == monitor) (list_all (is_value body_here) site.operands) front) in
      keeps_bind _ (operands_keep site.operands (right (site.monitor == monitor) (list_all (is_value body_here) site.operands) front)) (λ operands a.
      keeps_bind (listen n site.term operands) (keeps_look (captured_in site.captured) (λ frame f. captured_fit site.captured frame taken f)) (λ captured b.
      keeps_listen n site.term operands captured (subst (ListenFits program monitor operands captured) (sym is) (own, a, b))))

  -- a listener of a site
  pub listener_keeps : (n : ℕ) → site_so body_here n ≡ true → Listening (listener_of program.types program.sites call n)
  unfolding listener_of
  listener_keeps n h =
      let known = known_some (listens body_here) (slice_get program.sites n) h in
      subst (λ (o : Option Site). Listening (listen_at program.types program.sites call n o)) (sym known.1) (listens_keeps n known.0 known.1 known.2)

  -- ---- places

  -- the shape of a variable is the one that the body knows
  same_variable : (x : Variable) → variable_shape names_here x ≡ shape_at program monitor room x
  same_variable (variable.Global n) = refl
  same_variable (variable.Local n) = refl

  -- a place that is assigned
  pub assign_keeps : {Q : Flow → Type 0} → Q Next → (place : TypedPlace) (m : M Value) → place_so body_here place ≡ true → Keeps program monitor room (λ v. Fit program.types v place.shape) m → Keeps program monitor room Q (assign place (place_moves program.types program.sites call place) m)
  assign_keeps next place m h k =
      let walk = walked program monitor room (map (stepping names_here) place.steps) (map (reach_of program.types call) place.steps) (variable_shape names_here place.variable) (Some place.shape) (sound_step place.steps) h in
      let at = begins_at program monitor room (map (reach_of program.types call) place.steps) (variable_shape names_here place.variable) place.shape walk in
      keeps_assign next place (place_moves program.types program.sites call place) m at.0 place.shape (sym (same_variable place.variable) ∙ at.1)
      (moves_lead program monitor room (map (reach_of program.types call) place.steps) at.0 place.shape (subst (λ (o : Option Shape). Walked program monitor room (map (reach_of program.types call) place.steps) o (Some place.shape)) at.1 walk)) k

  -- ---- loops

  -- a loop over the elements of a sequence
  pub for_keeps : {Q : Flow → Type 0} → Q Next → (n : ℕ) (items : TypedExpr) (body : M Flow) → loops body_here n items ≡ true → Keeps program monitor room Q body → Keeps program monitor room Q (for_of n (value_of program.types call items) body)
  for_keeps next n items body h k =
      let known = known_some (λ s. passes body_here (item_is body_here s) items) (slice_get room n) h in
      keeps_for next n known.0 (value_of program.types call items) body known.1
      (keeps_as (λ v f. sequence_items program.types v known.0 (subst (Fit program.types v) (items_shape known.0 f.0 (known_is known.0 (item_of f.0) f.1)) f.2)) (passes_keeps (item_is body_here known.0) items known.2)) k

  -- ---- returns and new instances

  -- a `return`
  pub returns_keeps : (o : Option TypedExpr) → returns body_here o ≡ true → Keeps program monitor room (FlowFits program result) (returned program.types program.sites call o)
  returns_keeps None h = keeps_pure (Returned None) (no_result result h)
  returns_keeps (Some e) h =
      let known = known_some (λ s. has names_here s e) result h in
      keeps_bind _ (has_keeps known.0 e known.2) (λ v f. keeps_pure (Returned (Some v)) (subst (MayFit program.types v) (sym known.1) f))

  module _ (n : ℕ) (es : List TypedExpr) (h : if_known (begins body_here es) (slice_get program.actions n) ≡ true) where
    -- a new instance, here or in another context
    to_keeps : (to : Option TypedExpr) → goes_to body_here to ≡ true → (action : Action) → slice_get program.actions n ≡ Some action → action.monitor ≡ monitor → Keeps program monitor room (λ vs. AllFit program.types vs action.params) (all_values program.types call es) → Keeps program monitor room Any (spawned program.types program.sites call n es to)
    to_keeps None k action is own arguments = keeps_bind _ arguments (λ vs fit. keeps_spawn n action vs is own fit)
    to_keeps (Some e) k action is own arguments = keeps_bind _ arguments (λ vs fit. keeps_bind _ (has_any shape.Context e k) (λ to any. keeps_spawn_to n action vs is own fit to))

    -- a new instance
    pub spawn_keeps : (to : Option TypedExpr) → goes_to body_here to ≡ true → Keeps program monitor room Any (spawned program.types program.sites call n es to)
    spawn_keeps to k =
        let known = known_some (begins body_here es) (slice_get program.actions n) h in
        let front = left (known.0.monitor == monitor && have names_here known.0.params es) (not (is_some known.0.result)) known.2 in
        let own = eqb-true known.0.monitor monitor (left (known.0.monitor == monitor) (have names_here known.0.params es) front) in
        to_keeps to k known.0 known.1 own (have_keeps known.0.params es (right (known.0.monitor == monitor) (have names_here known.0.params es) front))
