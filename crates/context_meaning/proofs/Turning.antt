-- Steps of listeners, and turns of them, keep a context's fit.
use Rattle.std.proofs.Common.{◌≡◌, ◌-◌, ◌∷◌}
use Rattle.context_meaning.proofs.Common.{ℕ, List, [], slice_get, false, Option, Some, None, All-head, All-tail, refl, sym, subst, ◌∙◌, same_Some, cond_both, eqb-true, Program, Site, Typed, UnderWay, left_of, Binding, Stepped, Stimulus, CompletionFits, CompletionsFit, ExpressionFits, HeardFits, Instance, Listener, Context, births_in, instance_of, is_born, listener_of, unless_spent, with_expression, with_fuel, without_birth, idle_in, Turned, at_site, body_number, callback_locals, called, called_all, called_live, gone, left_over, step_at, step_taken, stepped, stepped_born, turn, turned, ListenerFits, ContextFits, MayRun}
use Rattle.term_meaning.specs.Step.{is_gone}
use Rattle.term_shapes.specs.Laws.{StepFits}
use Rattle.context_meaning.proofs.Choosing.{charge_both, unless_both, with_some_both}
use Rattle.context_meaning.proofs.Finding.{find_all, find_passes, moved, put_all}
use Rattle.context_meaning.proofs.Following.{Follows, follows_carries, still_fits}
use Rattle.context_meaning.proofs.Changing.{ran_carries}
use Rattle.context_meaning.proofs.Running.{ShapesKept, filter_fits, fuel_fits, spend_fits}
use Rattle.context_meaning.proofs.Heads.{callback_may}
use Rattle.context_meaning.proofs.Ending.{idle_in_fits, ran_fits}

-- a context that fits, in which a listener fits, live or not
pub record Holds (program : Program) (l : Listener) (c : Context) : Type 0 where
  pub fits : ContextFits program c
  pub listener : ListenerFits program c.begun c.instances l

module _ (program : Program) where
  -- ---- listeners

  -- the live listener of a birth
  pub live_holds : (birth : ℕ) (l : Listener) (c : Context) → ContextFits program c → listener_of birth c ≡ Some l → Holds program l c
  live_holds birth l c f live = record { fits = f; listener = find_all (ListenerFits program c.begun c.instances) (is_born birth) c.listeners l f.listeners live }

  -- its birth
  pub birth_is : (birth : ℕ) (l : Listener) (c : Context) → listener_of birth c ≡ Some l → l.birth ≡ birth
  birth_is birth l c live = eqb-true l.birth birth (find_passes (is_born birth) c.listeners l live)

  -- another event expression of its site
  moved_fits : (l : Listener) (site : Site) (u : UnderWay) (c : Context) → slice_get program.sites l.site ≡ Some site → ExpressionFits program.types site u.progress → ListenerFits program c.begun c.instances l → ListenerFits program c.begun c.instances (moved u l)
  moved_fits l site u c there fits h = record {
    instance = h.instance;
    site = h.site;
    there = h.there;
    captured = h.captured;
    expression = subst (λ (o : Site). ExpressionFits program.types o u.progress) (same_Some site h.site (sym there ∙ h.there)) fits;
    monitor = h.monitor;
  }

  -- the live listener of a birth gets it
  pub expression_fits : (birth : ℕ) (l : Listener) (site : Site) (u : UnderWay) (c : Context) → ContextFits program c → listener_of birth c ≡ Some l → slice_get program.sites l.site ≡ Some site → ExpressionFits program.types site u.progress → ContextFits program (with_expression birth u c)
  expression_fits birth l site u c f live there fits = record {
    clock = f.clock;
    instances = f.instances;
    listeners = put_all (ListenerFits program c.begun c.instances) birth u c.listeners f.listeners (λ m found. let same = same_Some l m (sym live ∙ found) in subst (λ (o : Listener). ListenerFits program c.begun c.instances (moved u o)) same (moved_fits l site u c there fits (live_holds birth l c f live).listener));
    row = f.row;
    front = f.front;
  }

  -- ---- what holds stays

  -- other fuel
  fuel_holds : (l : Listener) (fuel : ℕ) (c : Context) → Holds program l c → Holds program l (with_fuel fuel c)
  fuel_holds l fuel c h = record { fits = fuel_fits program c fuel h.fits; listener = h.listener }

module _ (program : Program) (typed : Typed program) (law : ShapesKept) where
  -- ---- callbacks

  -- the callback of a listener may run in its instance, with a completion that fits
  pub may_callback : (l : Listener) (site : Site) (completion : List Binding) (i : Instance) (c : Context) → Holds program l c → slice_get program.sites l.site ≡ Some site → CompletionFits program.types site.bound completion → instance_of l.instance c ≡ Some i → MayRun program (body_number program l.site) (callback_locals program.types site l.captured completion) i
  may_callback l site completion i c h there fits found = callback_may program typed c.begun c.instances l site completion i h.listener there fits found

  -- it runs
  called_holds : (l : Listener) (site : Site) (completion : List Binding) (c : Context) → slice_get program.sites l.site ≡ Some site → CompletionFits program.types site.bound completion → Holds program l c → Holds program l (called program l site completion c)
  called_holds l site completion c there fits h =
      let locals = callback_locals program.types site l.captured completion in
      record {
        fits = ran_fits program typed law l.instance (body_number program l.site) locals c h.fits (λ i found. may_callback l site completion i c h there fits found);
        listener = still_fits program l c (called program l site completion c) (ran_carries program Follows (follows_carries program) l.instance (body_number program l.site) locals c) h.listener;
      }

  -- while it is live
  pub called_live_holds : (l : Listener) (site : Site) (completion : List Binding) (c : Context) → slice_get program.sites l.site ≡ Some site → CompletionFits program.types site.bound completion → Holds program l c → Holds program l (called_live program l site completion c)
  called_live_holds l site completion c there fits h = with_some_both (Holds program l) (listener_of l.birth c) (λ live. called program l site completion) c h (λ live _. called_holds l site completion c there fits h)

  -- for each completion
  pub called_all_holds : (l : Listener) (site : Site) (completions : List (List Binding)) (c : Context) → slice_get program.sites l.site ≡ Some site → CompletionsFit program.types site.bound completions → Holds program l c → Holds program l (called_all program l site completions c)
  called_all_holds l site [] c there fits h = h
  called_all_holds l site (x ∷ xs) c there fits h = called_all_holds l site xs (unless_spent (called_live program l site x) c) there (All-tail (CompletionFits program.types site.bound) x xs fits) (unless_both (Holds program l) (called_live program l site x) c h (called_live_holds l site x c there (All-head (CompletionFits program.types site.bound) x xs fits) h))

  -- ---- steps

  -- a listener that goes
  pub gone_fits : (l : Listener) (c : Context) → ContextFits program c → ContextFits program (gone program l c)
  gone_fits l c f = with_some_both (ContextFits program) (listener_of l.birth c) (λ live d. idle_in program l.instance (without_birth l.birth d)) c f (λ live _. idle_in_fits program typed law l.instance (without_birth l.birth c) (filter_fits program _ c f))

  -- where it has nothing left
  pub left_over_fits : (l : Listener) (a : Stepped) (c : Context) → ContextFits program c → ContextFits program (left_over program l a c)
  left_over_fits l a c f = cond_both (is_gone a.left) (unless_spent (gone program l) c) c (ContextFits program) (λ _. unless_both (ContextFits program) (gone program l) c f (gone_fits l c f)) (λ _. f)

  -- what a step of a listener that fits leaves and gives
  pub step_fits : (s : Stimulus) (l : Listener) (site : Site) (c : Context) → HeardFits program.types s → slice_get program.sites l.site ≡ Some site → Holds program l c → StepFits program site s l.expression.operands c.clock l.expression.progress l.expression.next
  step_fits s l site c heard there h = law.steps program typed l.site site there s heard l.expression.operands c.clock l.expression.progress l.expression.next (subst (λ (o : Site). ExpressionFits program.types o l.expression.progress) (same_Some h.listener.site site (sym h.listener.there ∙ there)) h.listener.expression)

  -- what stands behind the charge of a step
  taken_fits : (l : Listener) (site : Site) (a : Stepped) (c : Context) → slice_get program.sites l.site ≡ Some site → CompletionsFit program.types site.bound a.completions → Holds program l c → ContextFits program (left_over program l a (called_all program l site a.completions c))
  taken_fits l site a c there fits h = left_over_fits l a (called_all program l site a.completions c) (called_all_holds l site a.completions c there fits h).fits

  -- the live listener with what is left of its event expression
  left_holds : (l : Listener) (site : Site) (a : Stepped) (c : Context) → ContextFits program c → listener_of l.birth c ≡ Some l → slice_get program.sites l.site ≡ Some site → ExpressionFits program.types site a.left → Holds program l (with_expression l.birth (left_of l.expression a) c)
  left_holds l site a c f live there left = record { fits = expression_fits program l.birth l site (left_of l.expression a) c f live there left; listener = (live_holds program l.birth l c f live).listener }

  -- what a step comes to
  pub step_taken_fits : (l : Listener) (site : Site) (a : Stepped) (c : Context) → ContextFits program c → listener_of l.birth c ≡ Some l → slice_get program.sites l.site ≡ Some site → ExpressionFits program.types site a.left → CompletionsFit program.types site.bound a.completions → ContextFits program (step_taken program l site a c)
  step_taken_fits l site a c f live there left completions =
      let moved = with_expression l.birth (left_of l.expression a) c in
      let h = left_holds l site a c f live there left in
      charge_both (ContextFits program) (a.next - l.expression.next) (λ d. left_over program l a (called_all program l site a.completions d)) moved (spend_fits program moved h.fits) (λ fuel less. taken_fits l site a (with_fuel fuel moved) there completions (fuel_holds program l fuel moved h))

  -- ---- turns

  -- a live listener whose site may be there
  at_site_fits : (s : Stimulus) (l : Listener) (o : Option Site) (t : Turned) → HeardFits program.types s → ContextFits program t.context → listener_of l.birth t.context ≡ Some l → slice_get program.sites l.site ≡ o → ContextFits program (at_site program s l o t).context
  at_site_fits s l None t heard f live there = f
  at_site_fits s l (Some site) t heard f live there =
      let step = step_fits s l site t.context heard there (live_holds program l.birth l t.context f live) in
      step_taken_fits l site (step_at program t.context s l site) t.context f live there step.left step.completions

  -- a listener that may be live
  stepped_fits : (s : Stimulus) (birth : ℕ) (o : Option Listener) (t : Turned) → HeardFits program.types s → ContextFits program t.context → listener_of birth t.context ≡ o → ContextFits program (stepped program s o t).context
  stepped_fits s birth None t heard f live = f
  stepped_fits s birth (Some l) t heard f live = at_site_fits s l (slice_get program.sites l.site) t heard f (subst (λ n. listener_of n t.context ≡ Some l) (sym (birth_is program birth l t.context live)) live) refl

  -- the listener of a birth
  pub stepped_born_fits : (s : Stimulus) (birth : ℕ) (t : Turned) → HeardFits program.types s → ContextFits program t.context → ContextFits program (stepped_born program s birth t).context
  stepped_born_fits s birth t heard f = cond_both t.context.spent t (stepped program s (listener_of birth t.context) t) (λ (u : Turned). ContextFits program u.context) (λ _. f) (λ _. stepped_fits s birth (listener_of birth t.context) t heard f refl)

  -- the listeners of these births
  pub turn_fits : (s : Stimulus) (births : List ℕ) (t : Turned) → HeardFits program.types s → ContextFits program t.context → ContextFits program (turn program s births t).context
  turn_fits s [] t heard f = f
  turn_fits s (b ∷ bs) t heard f = turn_fits s bs (stepped_born program s b t) heard (stepped_born_fits s b t heard f)

  -- a turn with a stimulus
  pub turned_fits : (s : Stimulus) (c : Context) → HeardFits program.types s → ContextFits program c → ContextFits program (turned program s c).context
  turned_fits s c heard f = turn_fits s (births_in c) (record { context = c; fitted = false }) heard f
