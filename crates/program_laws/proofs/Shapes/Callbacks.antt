-- A listener: its site stands at its number, and its callback holds behind the names that it takes along.
use Rattle.std.proofs.Common.{◌≡◌, ◌+◌, ◌≤◌, ◌++◌}
use Rattle.program_laws.proofs.Common.{ℕ, length, map, List, Some, None, true, refl, ap, sym, ◌∙◌, slice_get, arith, insert, list_all, eq-eqb, length-insert, Shape, EventExpr, Site, TypedTerm, Stmt, if_known, names_in, callback_params, is_there, site_so, stands, Body, stmt_holds, State, Around, in_callback, known_shape, captured_in, bound_in, callback_start, site_of, with_site, site_number, callback_read, After}
use Rattle.typed_program.specs.Programs.{callback_body, all_stand}
use Rattle.typed_program.specs.Statements.{listens, site_so as at_site}
use Rattle.stmt_check.specs.Captures.{Names as Named}
use Rattle.stmt_check.specs.Statements.{Part}
use Rattle.stmt_check.specs.Steps.{reads_by, within}
use Rattle.program_laws.proofs.Shapes.Forms.{Good, Free}
use Rattle.program_laws.proofs.Shapes.Frames.{Frame, Before, Fits, Claim, SitesHold, names_of, body_of, sites_both}
use Rattle.program_laws.proofs.Shapes.Lists.{extends_same, extends_insert, both_true, insert_at, list_all_both}
use Rattle.program_laws.proofs.Shapes.Parts.{PartSo}
use Rattle.program_laws.proofs.Shapes.Reading.{Fitting, Within}
use Rattle.program_laws.proofs.Shapes.Rules.{Rules, TermAnswers}
use Rattle.program_laws.proofs.Shapes.Starts.{captured, bound, params, inner, shapes_of, captured_few, start_before, start_fits, taken_captured, taken_stand, bounds_stand, map_map}

-- what is known of a listener before its callback is read
pub record Opened (f : Frame) (around : Around) (event : EventExpr) (term : TypedTerm) (s : State) (all : List Shape) : Type 0 where
  pub number : f.callbacks + length s.sites ≤ 65534
  pub names : length s.scope.names ≤ 65000
  pub answers : TermAnswers (names_of f all) (bound_in around.table s.scope event) term

module _ (f : Frame) (around : Around) (fitting : Fitting f around) (event : EventExpr) (named : Named) (within_named : Within named f.named) (term : TypedTerm) (s : State) (after : After State Stmt) where
  abbrev site : Site
  site = site_of term (captured_in named s.scope.names) s after

  abbrev all_inside : List Shape
  all_inside = params f around event named s ++ after.state.locals

  abbrev frame : Frame
  frame = inner f around event named s

  pub params_are : (all : List Shape) → Opened f around event term s all → callback_params site ≡ params f around event named s
  params_are all o =
      ap (λ (xs : List Shape). xs ++ map (λ b. b.shape) term.bound) (map_map f around event named term s (captured_in named s.scope.names))
      ∙ ap (λ (xs : List Shape). map (λ x. known_shape x.shape) (captured_in named s.scope.names) ++ xs) o.answers.same

  site_stands : (k : ℕ) (all : List Shape) → Opened f around event term s all → Before f k all s → list_all (stands f.program.types) after.state.locals ≡ true → all_stand f.program (callback_params site ++ site.locals) ≡ true
  site_stands k all o before locals = list_all_both (stands f.program.types) (callback_params site) after.state.locals
      (ap (list_all (stands f.program.types)) (params_are all o)
      ∙ list_all_both (stands f.program.types) (shapes_of f around event named s (captured f around event named s)) (shapes_of f around event named s (bound f around event named s))
      (ap (list_all (stands f.program.types)) (sym (map_map f around event named term s (captured_in named s.scope.names))) ∙ taken_stand f around event named term s k all within_named before)
      (bounds_stand f around event named term s 0 (bound_in around.table s.scope event) o.answers.bound))
      locals

  body_here : (k : ℕ) (all : List Shape) → Opened f around event term s all → Before f k all s → body_of frame all_inside ≡ callback_body f.program site
  body_here k all o before =
      ap (λ (m : ℕ). record { names = names_in f.program m all_inside; sites = f.program.sites; result = None }) (sym before.monitor)
      ∙ ap (λ (xs : List Shape). record { names = names_in f.program s.scope.monitor (xs ++ after.state.locals); sites = f.program.sites; result = None }) (sym (params_are all o))

  -- the site is as it should be
  site_good : (k : ℕ) (all : List Shape) → Opened f around event term s all → Before f k all s → Good frame all_inside after.part → list_all (stands f.program.types) after.state.locals ≡ true → site_so f.program site ≡ true
  site_good k all o before good locals =
      both_true (both_true (both_true (ap (is_there f.program) before.monitor ∙ fitting.world.there) (site_stands k all o before locals)) o.answers.fits)
      (both_true (ap (λ (b : Body). stmt_holds b after.part) (sym (body_here k all o before)) ∙ good) refl)

  -- it is at its number
  pub site_number_is : (all : List Shape) → Opened f around event term s all → site_number around s ≡ f.callbacks + length s.sites
  site_number_is all o = let a = fitting.callbacks in let b = o.number in omega arith

  pub site_at : (all : List Shape) → length s.sites ≤ length after.state.sites → Fits f all s (with_site site s after.state) → slice_get f.program.sites (f.callbacks + length s.sites) ≡ Some site
  site_at all le fits = fits.sites (length s.sites) site (omega arith) (insert_at (length s.sites) after.state.sites site le)

  site_listens : (k : ℕ) (all : List Shape) → Opened f around event term s all → Before f k all s → length s.sites ≤ length after.state.sites → Fits f all s (with_site site s after.state) → at_site (body_of f all) (site_number around s) ≡ true
  site_listens k all o before le fits =
      ap (λ (n : ℕ). if_known (listens (body_of f all)) (slice_get f.program.sites n)) (site_number_is all o)
      ∙ ap (if_known (listens (body_of f all))) (site_at all le fits)
      ∙ both_true (both_true (eq-eqb s.scope.monitor f.monitor before.monitor) o.answers.operands) (taken_captured f around event named term s k all within_named before)

  site_before : (k : ℕ) (all : List Shape) → s.whole ≤ after.state.whole → after.state.whole ≤ 256 → Before f k all s → Before f k all (with_site site s after.state)
  site_before k all grows whole before = record {
    monitor = before.monitor;
    visible = before.visible;
    seen = before.seen;
    rises = before.rises;
    next = before.next;
    small = before.small;
    room = (let r = before.room in omega arith);
    whole = whole;
    stand = before.stand;
  }

  only_site : (all : List Shape) → length s.sites ≤ length after.state.sites → Fits f all s (with_site site s after.state) → site_so f.program site ≡ true → SitesHold f.program (f.callbacks + length s.sites) (f.callbacks + length s.sites + 1)
  only_site all le fits good i x from to at =
      let e : i ≡ f.callbacks + length s.sites = omega arith in
      let same : Some x ≡ Some site = sym at ∙ ap (slice_get f.program.sites) e ∙ site_at all le fits in
      let is : x ≡ site = cc in
      ap (site_so f.program) is ∙ good

  sites_hold : (all : List Shape) → Opened f around event term s all → length s.sites ≤ length after.state.sites → Fits f all s (with_site site s after.state) → site_so f.program site ≡ true → SitesHold f.program (frame.callbacks + length s.sites) (frame.callbacks + length after.state.sites) → SitesHold f.program (f.callbacks + length s.sites) (f.callbacks + length (insert after.state.sites (length s.sites) site))
  sites_hold all o le fits good rest =
      let c = fitting.callbacks in
      let n = o.number in
      let long = length-insert after.state.sites (length s.sites) site le in
      sites_both f.program (f.callbacks + length s.sites) (f.callbacks + length s.sites + 1) (f.callbacks + length (insert after.state.sites (length s.sites) site))
      (only_site all le fits good)
      (λ i x from to at. rest i x (omega arith) (omega (arith, long)) at)

module _ (rules : Rules) (f : Frame) (around : Around) (fitting : Fitting f around) (event : EventExpr) (callback : Part) (so : PartSo callback) (within_named : Within callback.names f.named) where
  -- the callback as a body of its own
  inside_claim : (s : State) → Claim (inner f around event callback.names s) 0 0 Free (Good (inner f around event callback.names s)) (callback_start (captured_in callback.names s.scope.names) (bound_in around.table s.scope event) s) (callback.reads (in_callback around) (callback_start (captured_in callback.names s.scope.names) (bound_in around.table s.scope event) s))
  inside_claim s = so (inner f around event callback.names s) (in_callback around) (record { world = fitting.world; callbacks = refl; result = refl; stands = refl }) (λ name h. h) 0 _

  pub callback_claim : {k : ℕ} {H : List Shape → Type 0} (term : TypedTerm) (s : State) → ((all : List Shape) → H all → Opened f around event term s all) → Claim f k k H (λ all n. at_site (body_of f all) n ≡ true) s (callback_read around event callback term s)
  unfolding reads_by within
  callback_claim {k} {H} term s g =
      let c = inside_claim s in
      let after : After State Stmt = (callback.reads (in_callback around) (callback_start (captured_in callback.names s.scope.names) (bound_in around.table s.scope event) s)).part in
      record {
        locals = extends_same s.locals;
        sites = extends_insert (site_of term (captured_in callback.names s.scope.names) s after) c.sites;
        holds = λ all h none fits before.
            let o = g all h in
            let few = captured_few f around event callback.names s in
            let le = c.sites.long in
            let limit : length (captured f around event callback.names s) + length (bound f around event callback.names s) ≤ 65064 = (let a = o.names in let b = o.answers.few in omega arith) in
            let held = c.holds (params f around event callback.names s ++ after.state.locals) tt none
            (start_fits f around event callback.names s all after.state (site_of term (captured_in callback.names s.scope.names) s after) fitting.callbacks (let n = o.number in omega arith) le fits)
            (start_before f around event callback.names s k all after.state.locals within_named before limit o.answers.bound) in
            let good = site_good f around fitting event callback.names within_named term s after k all o before held.part held.before.stand in
            record {
              part = site_listens f around fitting event callback.names within_named term s after k all o before le fits;
              before = site_before f around fitting event callback.names within_named term s after k all held.grows held.before.whole before;
              grows = held.grows;
              sites = sites_hold f around fitting event callback.names within_named term s after all o le fits good held.sites;
            };
      }
