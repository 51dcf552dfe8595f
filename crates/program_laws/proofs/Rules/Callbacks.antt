-- A listener: what is evaluated at it keeps the rules there, and its site keeps them by itself: its callback where it sees the
-- names that it takes along and those that are bound.
use Rattle.std.proofs.Common.{◌≡◌, ◌+◌, ◌≤◌, ◌∷◌, ◌++◌}
use Rattle.program_laws.proofs.Common.{ℕ, suc, length, map, List, [], Some, None, Bool, true, false, Option, refl, ap, sym, subst, ◌∙◌, slice_get, arith, insert, length-insert, list_all, and_parts, or_left, le-leb, Shape, EventShape, EventExpr, Local, TypedExpr, Names, Site, TypedTerm, Stmt, if_known, may_stand, holds, shape_of, stands, Mention, all_mention, Visible, names_in, callback_params, special_in, Seen, Mentioned, State, Around, in_callback, captured_in, bound_in, callback_start, site_of, with_site, site_number, event_names, either, callback_read, known_shape, After}
use Rattle.typed_program.specs.Courses.{runs, listens, takes, callback_sees}
use Rattle.typed_program.specs.Mentions.{site_mentions, body_mentions, names_captured}
use Rattle.typed_program.specs.Shapes.{is_event}
use Rattle.typed_program.specs.Sites.{gives_value}
use Rattle.stmt_check.specs.Bodies.{local_of}
use Rattle.stmt_check.specs.Captures.{Names as Named}
use Rattle.stmt_check.specs.Statements.{Part}
use Rattle.stmt_check.specs.Steps.{reads_by, within}
use Rattle.program_laws.proofs.Lawful.Rules.{TermLawful}
use Rattle.program_laws.proofs.Rules.Captured.{rising_ascend, named_all}
use Rattle.program_laws.proofs.Rules.Claims.{Claims, law_fits}
use Rattle.program_laws.proofs.Rules.Parts.{PartKeeps, Hears}
use Rattle.program_laws.proofs.Rules.Readings.{Read, Keeps, mentioned_either}
use Rattle.program_laws.proofs.Rules.Sights.{Law, Sees, Kept, sight_in, reading, mentions_in}
use Rattle.program_laws.proofs.Rules.Sites.{SiteKeeps, SitesKeep, keep_both}
use Rattle.program_laws.proofs.Rules.Starts.{start_sees, taken_rises, taken_named, taken_mentioned}
use Rattle.program_laws.proofs.Shapes.Callbacks.{Opened, callback_claim, params_are, site_at, site_number_is}
use Rattle.program_laws.proofs.Shapes.Compounds.{holds_stand}
use Rattle.program_laws.proofs.Shapes.Frames.{Frame, Before, Fits, names_of}
use Rattle.program_laws.proofs.Shapes.Lists.{both_true, every_true, all_by_place, all_map}
use Rattle.program_laws.proofs.Shapes.Parts.{PartSo}
use Rattle.program_laws.proofs.Shapes.Reading.{Fitting, Within}
use Rattle.program_laws.proofs.Shapes.Rules.{Rules, AreBound, gives_value as gives_in}
use Rattle.program_laws.proofs.Shapes.Starts.{params, inner, captured_few, start_before, start_fits}

-- ---- operands and bound names

stands_by : (types : List EventShape) (o : Option Shape) → may_stand types o ≡ true → if_known (λ s. true) o ≡ true → if_known (stands types) o ≡ true
stands_by types None stand some = cc
stands_by types (Some s) stand some = stand

-- operands that hold give values of shapes that are there
operands_give : (names : Names) (es : List TypedExpr) → list_all (gives_in names) es ≡ true → list_all (gives_value names.types) es ≡ true
operands_give names [] h = refl
operands_give names (e ∷ es) h =
    let p = and_parts (gives_in names e) (list_all (gives_in names) es) h in
    let q = and_parts (holds names e) (if_known (λ s. true) (shape_of e)) p.0 in
    both_true (stands_by names.types (shape_of e) (holds_stand names e q.0) q.1) (operands_give names es p.1)

-- bound names are events
events : (types : List EventShape) (n : ℕ) (bs : List Seen) (cs : List Local) → AreBound types n bs → map (λ (c : Local). c.shape) cs ≡ map (λ (b : Seen). known_shape b.shape) bs → list_all (λ (c : Local). is_event c.shape) cs ≡ true
events types n bs [] are same = refl
events types n [] (c ∷ cs) are same = cc
events types n (b ∷ bs) (c ∷ cs) are same =
    let here : c.shape ≡ known_shape b.shape = cc in
    let rest : map (λ (c : Local). c.shape) cs ≡ map (λ (b : Seen). known_shape b.shape) bs = cc in
    both_true (ap is_event here ∙ are.0.event) (events types (suc n) bs cs are.1 rest)

-- ---- the callback as a body of its own

module _ (f : Frame) (around : Around) (fitting : Fitting f around) (law : Law f around.table) (event : EventExpr) (callback : Part) (keeps : PartKeeps callback) (within_named : Within callback.names f.named) (term : TypedTerm) (s : State) where
  abbrev named : Named
  named = callback.names

  abbrev taken : List Seen
  taken = captured_in named s.scope.names

  abbrev begins : State
  begins = callback_start taken (bound_in around.table s.scope event) s

  abbrev after : After State Stmt
  after = (callback.reads (in_callback around) begins).part

  abbrev site : Site
  site = site_of term taken s after

  -- the number of the site
  abbrev number : ℕ
  number = f.callbacks + length s.sites

  abbrev frame : Frame
  frame = inner f around event named s

  abbrev sees_inside : List Visible
  sees_inside = callback_sees site

  abbrev all_inside : List Shape
  all_inside = params f around event named s ++ after.state.locals

  -- its own sites stand behind this one
  abbrev law_inside : Law frame around.table
  law_inside = record { low = suc number; apart = law.apart }

  -- it keeps the rules, and so do its own sites
  inside_claims : Claims frame 0 0 (λ locals. Sees frame (suc number) sees_inside begins) (Keeps frame (in_callback around) law_inside named (λ locals. sees_inside) begins) begins (callback.reads (in_callback around) begins)
  inside_claims = keeps frame (in_callback around) (record { world = fitting.world; callbacks = refl; result = refl; stands = refl }) (λ name h. h) law_inside 0 (λ locals. sees_inside) begins

  module _ (k : ℕ) (all : List Shape) (v : List Visible) (sees : Sees f law.low v s) (o : Opened f around event term s all) (before : Before f k all s) where
    -- where it begins
    sees_there : Sees frame (suc number) sees_inside begins
    sees_there =
        let n = o.number in
        let c = fitting.callbacks in
        start_sees f around event named within_named term s k all before o.answers o.names law.low v sees (suc number) (omega (arith, c))

    fits_there : length s.sites ≤ length after.state.sites → Fits f all s (with_site site s after.state) → Fits frame all_inside begins after.state
    fits_there le fits = (let n = o.number in start_fits f around event named s all after.state site fitting.callbacks (omega arith) le fits)

    before_there : Before frame 0 all_inside begins
    before_there =
        let few = captured_few f around event named s in
        let small = o.names in
        let many = o.answers.few in
        let limit : length taken + length (bound_in around.table s.scope event) ≤ 65064 = omega arith in
        start_before f around event named s k all after.state.locals within_named before limit o.answers.bound

    inside_of : (callback.reads (in_callback around) begins).faults ≡ [] → length s.sites ≤ length after.state.sites → Fits f all s (with_site site s after.state)
        → Kept frame (suc number) false named sees_inside begins after.state (reading frame (suc number) all_inside after.part) (mentions_in f after.part)
    inside_of none le fits = (inside_claims.claim.holds all_inside sees_there none (fits_there le fits) before_there).part

    -- ---- the site

    abbrev mention : Mention
    mention = mentions_in f after.part

    captured_named : Mentioned begins.scope named mention → names_captured f.program.sites site ≡ true
    captured_named inside = named_all (body_mentions f.program.sites (after.part ∷ [])) 0 taken (λ j x at. or_left (mention (0 + j)) false (taken_named f around event named within_named term s k all before o.answers o.names law.low v sees mention inside j x at).mentioned)

    takes_so : Mentioned begins.scope named mention → list_all (takes v) site.captured ≡ true
    takes_so inside = every_true (takes v) (map local_of taken) (all_map (λ (c : Local). takes v c ≡ true) local_of taken (all_by_place taken (λ j x at. (taken_named f around event named within_named term s k all before o.answers o.names law.low v sees mention inside j x at).taken)))

    -- its body
    abbrev run_in : ℕ → List Shape → Bool
    run_in m shapes = runs (names_in f.program m (shapes ++ after.state.locals)) f.program.sites (special_in f.program m) (suc number) (after.part ∷ []) sees_inside

    runs_so : (reading frame (suc number) all_inside after.part sees_inside false).lawful ≡ true → run_in site.monitor (callback_params site) ≡ true
    runs_so lawful =
        ap (λ (m : ℕ). run_in m (callback_params site)) before.monitor
        ∙ ap (run_in f.monitor) (params_are f around fitting event named within_named term s after all o)
        ∙ both_true lawful refl

    module _ (lawful : TermLawful (names_of f all) (sight_in f v) term) (none : (callback.reads (in_callback around) begins).faults ≡ []) (le : length s.sites ≤ length after.state.sites) (fits : Fits f all s (with_site site s after.state)) where
      inside : Kept frame (suc number) false named sees_inside begins after.state (reading frame (suc number) all_inside after.part) (mentions_in f after.part)
      inside = inside_of none le fits

      -- the site keeps the rules by itself
      site_keeps : SiteKeeps f.program number site
      site_keeps = record {
        operands = operands_give (names_of f all) term.operands o.answers.operands;
        bound = events f.program.types 0 (bound_in around.table s.scope event) term.bound o.answers.bound o.answers.same;
        term = lawful.term;
        ascends = rising_ascend 0 taken s.next (taken_rises f around event named within_named term s k all before o.answers o.names law.low v sees);
        named = captured_named inside.mentioned;
        callback = runs_so inside.lawful;
      }

      only_site : SitesKeep f.program number (number + 1)
      only_site i x from to at =
          let e : i ≡ number = omega arith in
          let same : Some x ≡ Some site = sym at ∙ ap (slice_get f.program.sites) e ∙ site_at f around fitting event named within_named term s after all le fits in
          let is : x ≡ site = cc in
          subst (λ (n : ℕ). SiteKeeps f.program n x) (sym e) (subst (SiteKeeps f.program number) (sym is) site_keeps)

      -- and so do those of its callback
      pub sites_keep : SitesKeep f.program number (f.callbacks + length (insert after.state.sites (length s.sites) site))
      sites_keep =
          let c = fitting.callbacks in
          let n = o.number in
          let long = length-insert after.state.sites (length s.sites) site le in
          keep_both f.program number (number + 1) (f.callbacks + length (insert after.state.sites (length s.sites) site)) only_site
          (λ i x from to at. inside_claims.sites all_inside sees_there none (fits_there le fits) before_there i x (omega arith) (omega (arith, long)) at)

      listens_so : if_known (listens (names_of f all) f.program.sites (special_in f.program f.monitor) law.low v (site_number around s)) (slice_get f.program.sites (site_number around s)) ≡ true
      listens_so =
          ap (λ (n : ℕ). if_known (listens (names_of f all) f.program.sites (special_in f.program f.monitor) law.low v n) (slice_get f.program.sites n)) (site_number_is f around fitting event named within_named term s after all o)
          ∙ ap (if_known (listens (names_of f all) f.program.sites (special_in f.program f.monitor) law.low v number)) (site_at f around fitting event named within_named term s after all le fits)
          ∙ both_true (both_true (le-leb law.low number sees.from) lawful.operands) (takes_so inside.mentioned)

      -- the listener keeps the rules, and mentions what it and its callback name
      pub heard : length s.sites ≤ length (with_site site s after.state).sites → Mentioned s.scope (event_names event) (all_mention term.operands) → Read s (with_site site s after.state) (either (event_names event) named) (if_known (listens (names_of f all) f.program.sites (special_in f.program f.monitor) law.low v (site_number around s)) (slice_get f.program.sites (site_number around s))) (site_mentions (slice_get f.program.sites (site_number around s)))
      heard more told = record {
        fine = listens_so;
        mentioned = subst (λ (x : Option Site). Mentioned s.scope (either (event_names event) named) (site_mentions x)) (sym (ap (slice_get f.program.sites) (site_number_is f around fitting event named within_named term s after all o) ∙ site_at f around fitting event named within_named term s after all le fits))
            (mentioned_either s.scope (event_names event) named _ _ told (taken_mentioned f around event named within_named term s k all before o.answers o.names law.low v sees mention inside.mentioned));
        still = record { names = refl; next = refl; sites = more };
      }

module _ (shapes : Rules) (f : Frame) (around : Around) (fitting : Fitting f around) (law : Law f around.table) (event : EventExpr) (callback : Part) (so : PartSo callback) (keeps : PartKeeps callback) (within_named : Within callback.names f.named) where
  -- a listener whose event expression was read
  pub callback_law : {k : ℕ} {H : List Shape → Type 0} (term : TypedTerm) (v : List Shape → List Visible) (s : State)
      → ((all : List Shape) → H all → Opened f around event term s all)
      → ((all : List Shape) → H all → Sees f law.low (v all) s)
      → ((all : List Shape) → H all → TermLawful (names_of f all) (sight_in f (v all)) term)
      → ((all : List Shape) → H all → Mentioned s.scope (event_names event) (all_mention term.operands))
      → Claims f k k H (Hears f around law (either (event_names event) callback.names) v s) s (callback_read around event callback term s)
  unfolding reads_by within
  callback_law {k} term v s opened sees lawful told = law_fits f (λ all h none fits before more.
      let le = (inside_claims f around fitting law event callback keeps within_named term s).claim.sites.long in (
        heard f around fitting law event callback keeps within_named term s k all (v all) (sees all h) (opened all h) before (lawful all h) none le fits more (told all h),
        sites_keep f around fitting law event callback keeps within_named term s k all (v all) (sees all h) (opened all h) before (lawful all h) none le fits,
      ))
      (callback_claim shapes f around fitting event callback so within_named term s opened)
