-- What an event expression has come to keeps the shapes of what it binds, through each step: one induction over it.
use Rattle.std.proofs.Common.{◌≡◌, ◌&&◌, ◌∷◌, ◌++◌}
use Rattle.std.specs.List.{flat_map}
use Rattle.std.specs.Option.{option_to_list}
use Rattle.typed_program.specs.declared.program.Program.{Program}
use Rattle.typed_program.specs.declared.program.Site.{Site}
use Rattle.typed_program.specs.Expressions.{shape_of}
use Rattle.typed_program.specs.Programs.{site_around, site_so}
use Rattle.typed_program.specs.Terms.{fits_term, is_tenths}
use Rattle.term_meaning.specs.declared.progress.Progress.{fold-roll-Progress}
use Rattle.term_meaning.specs.declared.progress.Progress.TheFolds.{ind-Progress}
use Rattle.term_meaning.specs.declared.progress.Running.{map-Running, out-roll-Running, roll-Running, fold_out-Running}
use Rattle.term_meaning.specs.declared.progress.Sides.{map-Sides, out-roll-Sides, roll-Sides, fold_out-Sides}
use Rattle.term_meaning.specs.Patterns.{first_of, second_of, pattern_of}
use Rattle.term_meaning.specs.Step.{Copy, Step, Two, running_layer, sides_layer, step_copy, step_layer, step_of, step_sides}
use Rattle.term_meaning.specs.UnderWay.{setting_of}
use Rattle.term_shapes.specs.Kept.{is_all, is_and, is_and_not, is_followed, is_not_and, is_of, is_or, is_within, is_xor, kept_in}
use Rattle.term_shapes.specs.Laws.{BeginsFit, StepsFit}
use Rattle.term_shapes.proofs.Common.{List, [], list_all, map, subst, sym, true, and_parts, AllByRecursion, All-nil, EventShape, Local, Progress, Progress-F, Running-F, Sides-F, Running, Sides, map-Progress, roll-Progress, out-Running, out-Sides, Stimulus, Setting, Pattern, BindingFits, CompletionFits, HeardFits, ProgressFits, Test}
use Rattle.term_shapes.proofs.Lists.{all_first, all_second}
use Rattle.term_shapes.proofs.Binding.{AllBind, first_binds, second_binds, term_binds}
use Rattle.term_shapes.proofs.Fitting.{CopyFits, LayerFits, SidesFit, copies_out, kept_of_copy, kept_of_sides, layer_of, sides_out, test_of_copy, test_of_sides}
use Rattle.term_shapes.proofs.Starting.{start_fits}
use Rattle.term_shapes.proofs.Forms.{BothGood, CopyGood, Good, all_good, and_good, and_not_good, followed_good, gone_good, not_and_good, or_good, template_good, wait_good, within_good, xor_good}

module _ (types : List EventShape) (bound : List Local) (setting : Setting) (s : Stimulus) (heard : HeardFits types s) where
  -- an expression of a pattern that keeps what fits steps to what fits
  abbrev ForProgress : Progress → Type 0
  ForProgress x = (p : Pattern) → AllBind bound p → ProgressFits types bound p x → Good types bound p (step_of setting s x)

  -- so does the expression of a copy
  abbrev ForRunning : Running → Type 0
  ForRunning copy = ForProgress (out-Running copy).progress

  -- and those of both sides
  record LayerSteps (sides : Sides-F Progress Running Sides) : Type 0 where
    left : ForProgress sides.left
    right : ForProgress sides.right

  -- the same of the sides themselves
  abbrev ForSides : Sides → Type 0
  ForSides sides = LayerSteps (out-Sides sides)

  -- parts of which this is known
  abbrev HeldProgress : Type 0
  HeldProgress = (x : Progress) × ForProgress x

  -- copies
  abbrev HeldRunning : Type 0
  HeldRunning = (copy : Running) × ForRunning copy

  -- both sides
  abbrev HeldSides : Type 0
  HeldSides = (sides : Sides) × ForSides sides

  -- ---- parts

  -- both sides step
  sides_good : (p : Pattern) (sides : Sides) → AllBind bound p → SidesFit types bound p sides → ForSides sides → BothGood types bound p (step_sides setting s sides)
  unfolding step_of step_sides
  sides_good p sides binds fits steps =
      let both = sides_out types bound p sides fits in
      let first : Good types bound (first_of p) (step_of setting s (out-Sides sides).left) = steps.left (first_of p) (first_binds bound p binds) both.0 in
      let second : Good types bound (second_of p) (step_of setting s (out-Sides sides).right) = steps.right (second_of p) (second_binds bound p binds) both.1 in
      subst (BothGood types bound p) (sym (fold_out-Sides Step Copy Two (step_layer setting s) running_layer sides_layer sides)) (record { left = first; right = second })

  -- a copy steps
  copy_good : (p : Pattern) (copy : Running) → AllBind bound p → CopyFits types bound p copy → ForRunning copy → CopyGood types bound p (step_copy setting s copy)
  unfolding step_of step_copy
  copy_good p copy binds fits steps =
      let good : Good types bound p (step_of setting s (out-Running copy).progress) = steps p binds fits.progress in
      subst (CopyGood types bound p) (sym (fold_out-Running Step Copy Two (step_layer setting s) running_layer sides_layer copy)) (record { bindings = fits.bindings; step = good })

  -- so do all of them
  copies_good : (p : Pattern) (copies : List HeldRunning) → AllBind bound p → AllByRecursion (CopyFits types bound p) (map (λ e. e.0) copies) → AllByRecursion (CopyGood types bound p) (map (step_copy setting s) (map (λ e. e.0) copies))
  copies_good p [] binds fits = tt
  copies_good p (copy ∷ copies) binds fits = (copy_good p copy.0 binds fits.0 copy.1, copies_good p copies binds fits.1)

  -- ---- layers

  -- the expressions of a layer
  abbrev trees : Progress-F HeldProgress HeldRunning HeldSides → Progress-F Progress Running Sides
  trees y = map-Progress HeldProgress HeldRunning HeldSides Progress Running Sides (λ e. e.0) (λ e. e.0) (λ e. e.0) y

  -- how a layer steps
  abbrev steps_of : Progress-F Progress Running Sides → Step
  steps_of d = step_layer setting s (map-Progress Progress Running Sides Step Copy Two (step_of setting s) (step_copy setting s) (step_sides setting s) d)

  -- a layer of such parts
  layer_good : (y : Progress-F HeldProgress HeldRunning HeldSides) (p : Pattern) → AllBind bound p → LayerFits types bound p (trees y) → Good types bound p (steps_of (trees y))
  layer_good Progress-F.Gone p binds h = gone_good types bound p
  layer_good (Progress-F.Template leaf) p binds h = template_good types bound s p leaf heard binds h.shaped
  layer_good (Progress-F.Wait number due) p binds h = wait_good types bound s p number due h.shaped
  layer_good (Progress-F.All x) p binds h =
      let both = and_parts (is_all p) (is_of x.0 (first_of p)) h.shaped in
      all_good types bound setting p (step_of setting s x.0) both.0 (x.1 (first_of p) (first_binds bound p binds) (record { shaped = both.1; kept = h.kept }))
  layer_good (Progress-F.Followed x copies) p binds h =
      let last = and_parts (is_followed p && is_of x.0 (first_of p)) (list_all (λ (test : Test). test (second_of p)) (map test_of_copy (map (λ e. e.0) copies))) h.shaped in
      let both = and_parts (is_followed p) (is_of x.0 (first_of p)) last.0 in
      let kept = flat_map (λ kept. kept) (map kept_of_copy (map (λ e. e.0) copies)) in
      followed_good types bound setting p (step_of setting s x.0) (map (step_copy setting s) (map (λ e. e.0) copies)) both.0
      (x.1 (first_of p) (first_binds bound p binds) (record { shaped = both.1; kept = all_first (CompletionFits types bound) (kept_in x.0) kept h.kept }))
      (copies_good (second_of p) copies (second_binds bound p binds)
      (copies_out types bound (second_of p) (map (λ e. e.0) copies) (record { shaped = last.1; kept = all_second (CompletionFits types bound) (kept_in x.0) kept h.kept })))
  layer_good (Progress-F.And sides left right) p binds h =
      let both = and_parts (is_and p) (test_of_sides sides.0 p) h.shaped in
      let front = all_first (CompletionFits types bound) (kept_of_sides sides.0 ++ option_to_list left) (option_to_list right) h.kept in
      and_good types bound p (step_sides setting s sides.0) left right both.0
      (sides_good p sides.0 binds (record { shaped = both.1; kept = all_first (CompletionFits types bound) (kept_of_sides sides.0) (option_to_list left) front }) sides.1)
      (all_second (CompletionFits types bound) (kept_of_sides sides.0) (option_to_list left) front)
      (all_second (CompletionFits types bound) (kept_of_sides sides.0 ++ option_to_list left) (option_to_list right) h.kept)
  layer_good (Progress-F.AndNot sides) p binds h =
      let both = and_parts (is_and_not p) (test_of_sides sides.0 p) h.shaped in
      and_not_good types bound p (step_sides setting s sides.0) both.0 (sides_good p sides.0 binds (record { shaped = both.1; kept = h.kept }) sides.1)
  layer_good (Progress-F.NotAnd sides) p binds h =
      let both = and_parts (is_not_and p) (test_of_sides sides.0 p) h.shaped in
      not_and_good types bound p (step_sides setting s sides.0) both.0 (sides_good p sides.0 binds (record { shaped = both.1; kept = h.kept }) sides.1)
  layer_good (Progress-F.Or sides) p binds h =
      let both = and_parts (is_or p) (test_of_sides sides.0 p) h.shaped in
      or_good types bound p (step_sides setting s sides.0) both.0 (sides_good p sides.0 binds (record { shaped = both.1; kept = h.kept }) sides.1)
  layer_good (Progress-F.Xor sides) p binds h =
      let both = and_parts (is_xor p) (test_of_sides sides.0 p) h.shaped in
      xor_good types bound p (step_sides setting s sides.0) both.0 (sides_good p sides.0 binds (record { shaped = both.1; kept = h.kept }) sides.1)
  layer_good (Progress-F.Within number until x) p binds h =
      let both = and_parts (is_within p) (is_of x.0 (first_of p)) h.shaped in
      within_good types bound s p number until (step_of setting s x.0) both.0 (x.1 (first_of p) (first_binds bound p binds) (record { shaped = both.1; kept = h.kept }))

  -- ---- the induction

  -- the step of the induction at an expression
  progress_case : (x : Progress-F Progress Running Sides) (y : Progress-F HeldProgress HeldRunning HeldSides) → trees y ≡ x → ForProgress (roll-Progress x)
  unfolding step_of step_sides step_copy
  progress_case x y is =
      subst (λ (z : Progress-F Progress Running Sides). ForProgress (roll-Progress z)) is
      (λ p binds fits. subst (Good types bound p) (sym (fold-roll-Progress Step Copy Two (step_layer setting s) running_layer sides_layer (trees y))) (layer_good y p binds (layer_of types bound p (trees y) fits)))

  -- the expression of a copy
  abbrev copy_trees : Running-F HeldProgress HeldRunning HeldSides → Running-F Progress Running Sides
  copy_trees y = map-Running HeldProgress HeldRunning HeldSides Progress Running Sides (λ e. e.0) (λ e. e.0) (λ e. e.0) y

  -- the step of the induction at a copy
  running_case : (x : Running-F Progress Running Sides) (y : Running-F HeldProgress HeldRunning HeldSides) → copy_trees y ≡ x → ForRunning (roll-Running x)
  running_case x y is =
      subst (λ (z : Running-F Progress Running Sides). ForRunning (roll-Running z)) is
      (subst (λ (r : Running-F Progress Running Sides). ForProgress r.progress) (sym (out-roll-Running (copy_trees y))) y.progress.1)

  -- the expressions of both sides
  abbrev sides_trees : Sides-F HeldProgress HeldRunning HeldSides → Sides-F Progress Running Sides
  sides_trees y = map-Sides HeldProgress HeldRunning HeldSides Progress Running Sides (λ e. e.0) (λ e. e.0) (λ e. e.0) y

  -- the step of the induction at both sides
  sides_case : (x : Sides-F Progress Running Sides) (y : Sides-F HeldProgress HeldRunning HeldSides) → sides_trees y ≡ x → ForSides (roll-Sides x)
  sides_case x y is =
      subst (λ (z : Sides-F Progress Running Sides). ForSides (roll-Sides z)) is
      (subst LayerSteps (sym (out-roll-Sides (sides_trees y))) (record { left = y.left.1; right = y.right.1 }))

  -- any expression of a pattern
  pub progress_good : (x : Progress) → ForProgress x
  progress_good = ind-Progress ForProgress ForRunning ForSides progress_case running_case sides_case

-- ---- the laws

-- the event expression of a site is as it should be
site_binds : (program : Program) (site : Site) → site_so program site ≡ true → AllBind site.bound (pattern_of site.term)
site_binds program site so =
    let most = (and_parts _ _ so).0 in
    term_binds program.types (map shape_of site.operands) (map is_tenths site.operands) site.bound site.term (and_parts _ (fits_term (site_around program site) site.term) most).1

-- it begins with nothing kept
pub begins_fit : BeginsFit
begins_fit program typed n site at operands now = start_fits program.types site.bound (setting_of program.types site operands now) [] (pattern_of site.term) 0

-- and each step keeps what fits
pub steps_fit : StepsFit
steps_fit program typed n site at s heard operands now progress leaves fits =
    let good = progress_good program.types site.bound (setting_of program.types site operands now) s heard progress (pattern_of site.term) (site_binds program site (typed.sites n site at).shapes) fits in
    let stepped = good.from [] (All-nil (BindingFits program.types site.bound)) leaves in
    record { left = stepped.left; completions = stepped.completions }
