-- Steps of listeners, and turns.
use Rattle.std.proofs.Common.{◌-◌, ◌+◌, ◌<◌, ◌∷◌, ◌≡◌, ◌||◌, add-one, drop, get_or, map, not, eqb-true}
use Rattle.context_steps.proofs.Common.{ℕ, arith, Bool, true, false, cond, List, [], Option, Some, None, slice_get, refl, sym, ap, subst, ◌∙◌, nat_le, find, length, Program, Site, Context, Listener, behind_charge, paid, unless_spent, listener_of, ContextFits, CallerFits, Keeps}
use Rattle.std.proofs.Math.Seq.{drop-cons}
use Rattle.std.proofs.lemmas.List.Elements.{All-filter}
use Rattle.value_shapes.specs.Fits.{AllFit}
use Rattle.typed_program.specs.declared.program.Local.{Local}
use Rattle.term_meaning.specs.declared.progress.Stepped.{Stepped}
use Rattle.term_meaning.specs.declared.stimulus.Binding.{Binding}
use Rattle.term_meaning.specs.declared.stimulus.Stimulus.{Stimulus}
use Rattle.term_meaning.specs.Step.{is_gone}
use Rattle.term_meaning.specs.UnderWay.{UnderWay, left_of}
use Rattle.term_shapes.specs.Kept.{CompletionsFit, HeardFits}
use Rattle.event_terms.specs.declared.state.StepOut.{StepOut}
use Rattle.context_meaning.specs.Contexts.{is_born, put_expression, with_expression, without_birth}
use Rattle.context_meaning.specs.Fits.{ListenerFits}
use Rattle.context_meaning.specs.Turns.{Turned, at_site, called_all, called_live, step_at, step_taken, stepped, stepped_born, turn}
use Rattle.context_meaning.proofs.Finding.{find_all, find_passes}
use Rattle.live_context.specs.Steps.{StepsLive}
use Rattle.context_steps.specs.Calls.{AtListener, called_in, left, listener_in, nothing_left, taken, turned_to}
use Rattle.context_steps.specs.declared.callbacks.Called.{Called}
use Rattle.context_steps.proofs.Calling.{charged_paid, charged_spent, paid_both}

some_is : {A : Type 0} (a b : A) → Some a ≡ Some b → a ≡ b
some_is a b e = cc

-- ---- a listener that goes

pub quit_fits : (program : Program) (birth : ℕ) (c d : Context) → ContextFits program c → d ≡ without_birth birth c → ContextFits program d
quit_fits program birth c d fit so = subst (ContextFits program) (sym so) (record { clock = fit.clock; instances = fit.instances; listeners = All-filter (λ l. not (is_born birth l)) (ListenerFits program c.begun c.instances) c.listeners fit.listeners; row = fit.row; front = fit.front })

-- ---- a listener whose callback may run

module _ (program : Program) where
  -- of a context that fits
  pub caller_fits : (birth : ℕ) (c : Context) (l : Listener) (site : Site) → ContextFits program c → listener_of birth c ≡ Some l → slice_get program.sites l.site ≡ Some site → CallerFits program l site c
  caller_fits birth c l site fit live there =
      let fits : ListenerFits program c.begun c.instances l = find_all (ListenerFits program c.begun c.instances) (is_born birth) c.listeners l fit.listeners live in
      let same : fits.site ≡ site = some_is fits.site site (sym fits.there ∙ there) in
      record {
        instance = fits.instance;
        there = there;
        captured = subst (λ (s : Site). AllFit program.types l.captured (map (λ (n : Local). n.shape) s.captured)) same fits.captured;
        monitor = λ i is. fits.monitor i is ∙ ap (λ (s : Site). s.monitor) same;
      }

  -- ---- what its callback comes to needs nothing of its event expression

  pub called_all_as : (l : Listener) (e : UnderWay) (site : Site) (xs : List (List Binding)) (c : Context) → called_all program (record l { expression = e }) site xs c ≡ called_all program l site xs c
  called_all_as l e site [] c = refl
  called_all_as l e site (x ∷ xs) c = called_all_as l e site xs (unless_spent (called_live program l site x) c)

  pub taken_as : (l : Listener) (e : UnderWay) (site : Site) (xs : List (List Binding)) (ended : Bool) (c : Context) → taken program (record l { expression = e }) site xs ended c ≡ taken program l site xs ended c
  taken_as l e site xs ended c = ap (left program l ended) (called_all_as l e site xs c)

  -- ---- what is read of it

  -- nothing where it isn't live
  pub none_called : (birth : ℕ) (c : Context) (P : Listener → Site → Type 0) → None ≡ called_in (listener_of birth c) → AtListener program birth c P
  none_called birth c P is = λ l site live there. let none : None ≡ called_in (Some l) = is ∙ ap called_in live in absurd (cc)

  -- nor where its site isn't there
  pub none_there : (birth : ℕ) (c : Context) (called : Called) (P : Listener → Site → Type 0) → Some called ≡ called_in (listener_of birth c) → None ≡ slice_get program.sites called.site → AtListener program birth c P
  none_there birth c called P is none = λ l site live there.
      let same : called ≡ record { birth = l.birth; instance = l.instance; site = l.site; captured = l.captured } = some_is called _ (is ∙ ap called_in live) in
      let past : None ≡ Some site = none ∙ ap (λ (k : Called). slice_get program.sites k.site) same ∙ there in
      absurd (cc)

  -- what was read is it
  read_is : (birth : ℕ) (c : Context) (called : Called) (l : Listener) → Some called ≡ called_in (listener_of birth c) → listener_of birth c ≡ Some l → listener_in called ≡ record l { expression = nothing_left }
  read_is birth c called l is live =
      let same : called ≡ record { birth = l.birth; instance = l.instance; site = l.site; captured = l.captured } = some_is called _ (is ∙ ap called_in live) in
      ap listener_in same

  -- and its site that of it
  site_is : (birth : ℕ) (c : Context) (called : Called) (here : Site) (l : Listener) (site : Site) → Some called ≡ called_in (listener_of birth c) → Some here ≡ slice_get program.sites called.site → listener_of birth c ≡ Some l → slice_get program.sites l.site ≡ Some site → here ≡ site
  site_is birth c called here l site is found live there = some_is here site (found ∙ ap (λ (k : Listener). slice_get program.sites k.site) (read_is birth c called l is live) ∙ there)

  some_live : (birth : ℕ) (c : Context) (called : Called) → Some called ≡ called_in (listener_of birth c) → (l : Listener) × (listener_of birth c ≡ Some l)
  some_live birth c called is = by (listener_of birth c) refl is
    where
      by : (o : Option Listener) → listener_of birth c ≡ o → Some called ≡ called_in o → (l : Listener) × (listener_of birth c ≡ Some l)
      by None live h = absurd (cc)
      by (Some l) live h = (l, live)

  -- its callback may run
  pub read_fits : (birth : ℕ) (c : Context) (called : Called) (here : Site) → ContextFits program c → Some called ≡ called_in (listener_of birth c) → Some here ≡ slice_get program.sites called.site → CallerFits program (listener_in called) here c
  read_fits birth c called here fit is found =
      let l = some_live birth c called is in
      let same = read_is birth c called l.0 is l.1 in
      let there : slice_get program.sites l.0.site ≡ Some here = sym (ap (λ (k : Listener). slice_get program.sites k.site) same) ∙ sym found in
      let fits : CallerFits program l.0 here c = caller_fits birth c l.0 here fit l.1 there in
      subst (λ (k : Listener). CallerFits program k here c) (sym same) (record { instance = fits.instance; there = fits.there; captured = fits.captured; monitor = fits.monitor })

  -- with what holds of it
  pub read_at : (birth : ℕ) (c : Context) (called : Called) (here : Site) (P : Site → Type 0) → AtListener program birth c (λ l site. P site) → Some called ≡ called_in (listener_of birth c) → Some here ≡ slice_get program.sites called.site → P here
  read_at birth c called here P at is found =
      let l = some_live birth c called is in
      let there : slice_get program.sites l.0.site ≡ Some here = sym (ap (λ (k : Listener). slice_get program.sites k.site) (read_is birth c called l.0 is l.1)) ∙ sym found in
      at l.0 here l.1 there

  -- what it comes to
  pub finished_at : (birth : ℕ) (c r : Context) (called : Called) (here : Site) (completions : List (List Binding)) (ended : Bool) → Some called ≡ called_in (listener_of birth c) → Some here ≡ slice_get program.sites called.site → r ≡ taken program (listener_in called) here completions ended c → AtListener program birth c (λ l site. r ≡ taken program l site completions ended c)
  finished_at birth c r called here completions ended is found so = λ l site live there.
      so
      ∙ ap (λ (k : Listener). taken program k here completions ended c) (read_is birth c called l is live)
      ∙ ap (λ (s : Site). taken program (record l { expression = nothing_left }) s completions ended c) (site_is birth c called here l site is found live there)
      ∙ taken_as l nothing_left site completions ended c

  -- ---- behind a charge

  paid_live : (amount birth : ℕ) (c d : Context) → d ≡ paid amount c → listener_of birth d ≡ listener_of birth c
  paid_live amount birth c d so = ap (λ (x : Context). find (is_born birth) x.listeners) so ∙ ap (find (is_born birth)) (paid_both (λ (x : Context). x.listeners ≡ c.listeners) amount c refl refl)

  -- it stays live
  pub paid_at : (amount birth : ℕ) (c d : Context) (P : Listener → Site → Type 0) → d ≡ paid amount c → AtListener program birth c P → AtListener program birth d P
  paid_at amount birth c d P so at = λ l site live there. at l site (sym (paid_live amount birth c d so) ∙ live) there

  pub taken_spent : (amount birth : ℕ) (c d : Context) (go : Listener → Site → Context → Context) → d ≡ paid amount c → false ≡ nat_le amount c.fuel → AtListener program birth c (λ l site. d ≡ behind_charge amount (go l site) c)
  taken_spent amount birth c d go so less = λ l site live there. charged_spent amount (go l site) c d so (sym less)

  pub taken_paid : (amount birth : ℕ) (c d r : Context) (completions : List (List Binding)) (ended : Bool) → d ≡ paid amount c → true ≡ nat_le amount c.fuel → AtListener program birth d (λ l site. r ≡ taken program l site completions ended d) → AtListener program birth c (λ l site. r ≡ behind_charge amount (taken program l site completions ended) c)
  taken_paid amount birth c d r completions ended so enough at = λ l site live there. charged_paid amount (taken program l site completions ended) c d r so (sym enough) (at l site (paid_live amount birth c d so ∙ live) there)

  -- without completions, and with something left, nothing is done
  pub taken_none : (birth : ℕ) (c : Context) (completions : List (List Binding)) (ended : Bool) → length completions ≡ 0 → ended ≡ false → AtListener program birth c (λ l site. c ≡ taken program l site completions ended c)
  taken_none birth c [] ended none is = λ l site live there. sym (ap (λ b. left program l b c) is)
  taken_none birth c (x ∷ xs) ended none is = absurd (omega (arith, none))

  -- ---- a step

  found_put : (birth : ℕ) (e : UnderWay) (f : Listener) (xs : List Listener) → find (is_born birth) xs ≡ Some f → find (is_born birth) (put_expression birth e xs) ≡ Some (record f { expression = e })
  found_put birth e f [] is = absurd (cc)
  found_put birth e f (x ∷ xs) is = go (found_put birth e f xs) (is_born birth x) refl is
    where
      go : (find (is_born birth) xs ≡ Some f → find (is_born birth) (put_expression birth e xs) ≡ Some (record f { expression = e })) → (b : Bool) → is_born birth x ≡ b → cond b (Some x) (find (is_born birth) xs) ≡ Some f → find (is_born birth) (cond b ((record x { expression = e }) ∷ xs) (x ∷ put_expression birth e xs)) ≡ Some (record f { expression = e })
      go rest true q h = let same : x ≡ f = cc in rw q (ap (λ (l : Listener). Some (record l { expression = e })) same)
      go rest false q h = rw q (rest h)

  -- what fits before fits behind it
  pub step_fits : (s : Stimulus) (birth : ℕ) (c d : Context) (told : StepOut) → Keeps program → ContextFits program c → HeardFits program.types s → StepsLive program s birth c told d → ContextFits program d
  step_fits s birth c d told keeps fit heard steps = subst (ContextFits program) (sym steps.moves) (keeps.left s birth steps.listener steps.site c fit heard steps.live steps.there)

  behind : (s : Stimulus) (birth : ℕ) (c d : Context) (told : StepOut) (steps : StepsLive program s birth c told d) → listener_of birth d ≡ Some (record steps.listener { expression = left_of steps.listener.expression (step_at program c s steps.listener steps.site) })
  behind s birth c d told steps = ap (λ (x : Context). find (is_born birth) x.listeners) steps.moves ∙ found_put birth (left_of steps.listener.expression (step_at program c s steps.listener steps.site)) steps.listener c.listeners steps.live

  pub step_bound : (s : Stimulus) (birth : ℕ) (c d : Context) (told : StepOut) → Keeps program → ContextFits program c → HeardFits program.types s → StepsLive program s birth c told d → AtListener program birth d (λ l site. CompletionsFit program.types site.bound told.completions)
  step_bound s birth c d told keeps fit heard steps = λ l site live there.
      let a : Stepped = step_at program c s steps.listener steps.site in
      let same : record steps.listener { expression = left_of steps.listener.expression a } ≡ l = some_is _ l (sym (behind s birth c d told steps) ∙ live) in
      let here : slice_get program.sites steps.listener.site ≡ Some site = ap (λ (k : Listener). slice_get program.sites k.site) same ∙ there in
      let site_same : steps.site ≡ site = some_is steps.site site (sym steps.there ∙ here) in
      subst (λ (xs : List (List Binding)). CompletionsFit program.types site.bound xs) (sym steps.tells.completions)
      (subst (λ (k : Site). CompletionsFit program.types k.bound a.completions) site_same (keeps.completions s birth steps.listener steps.site c fit heard steps.live steps.there))

  birth_is : (birth : ℕ) (xs : List Listener) (l : Listener) → find (is_born birth) xs ≡ Some l → birth ≡ l.birth
  birth_is birth xs l is = sym (eqb-true l.birth birth (find_passes (is_born birth) xs l is))

  -- what the step comes to
  step_takes : (s : Stimulus) (birth : ℕ) (c d r : Context) (told : StepOut) (steps : StepsLive program s birth c told d) → AtListener program birth d (λ l site. r ≡ behind_charge told.begun (taken program l site told.completions told.ended) d) → r ≡ step_taken program steps.listener steps.site (step_at program c s steps.listener steps.site) c
  step_takes s birth c d r told steps at =
      let l : Listener = steps.listener in
      let site : Site = steps.site in
      let a : Stepped = step_at program c s l site in
      let e : UnderWay = left_of l.expression a in
      at (record l { expression = e }) site (behind s birth c d told steps) steps.there
      ∙ ap (λ n. behind_charge n (taken program (record l { expression = e }) site told.completions told.ended) d) steps.tells.begun
      ∙ ap (λ (xs : List (List Binding)). behind_charge (a.next - l.expression.next) (taken program (record l { expression = e }) site xs told.ended) d) steps.tells.completions
      ∙ ap (λ b. behind_charge (a.next - l.expression.next) (taken program (record l { expression = e }) site a.completions b) d) steps.tells.ended
      ∙ ap (λ (go : Context → Context). behind_charge (a.next - l.expression.next) go d) (λ i x. taken_as l e site a.completions (is_gone a.left) x i)
      ∙ ap (behind_charge (a.next - l.expression.next) (taken program l site a.completions (is_gone a.left))) (steps.moves ∙ ap (λ n. with_expression n e c) (birth_is birth c.listeners l steps.live))

  pub step_some : (s : Stimulus) (birth : ℕ) (c d r : Context) (told : StepOut) (fitted : Bool) → StepsLive program s birth c told d → AtListener program birth d (λ l site. r ≡ behind_charge told.begun (taken program l site told.completions told.ended) d) → turned_to r (fitted || told.fitted) ≡ stepped program s (listener_of birth c) (turned_to c fitted)
  step_some s birth c d r told fitted steps at =
      let l : Listener = steps.listener in
      let a : Stepped = step_at program c s l steps.site in
      ap (λ (x : Context). turned_to x (fitted || told.fitted)) (step_takes s birth c d r told steps at)
      ∙ ap (λ b. turned_to (step_taken program l steps.site a c) (fitted || b)) steps.tells.fitted
      ∙ sym (ap (λ (o : Option Site). at_site program s l o (turned_to c fitted)) steps.there)
      ∙ sym (ap (λ (o : Option Listener). stepped program s o (turned_to c fitted)) steps.live)

  pub step_none : (s : Stimulus) (birth : ℕ) (c d : Context) (fitted : Bool) → listener_of birth c ≡ None → d ≡ c → turned_to d fitted ≡ stepped program s (listener_of birth c) (turned_to c fitted)
  step_none s birth c d fitted none so = ap (λ (x : Context). turned_to x fitted) so ∙ sym (ap (λ (o : Option Listener). stepped program s o (turned_to c fitted)) none)

  -- ---- a turn

  -- what fits before a step fits behind it
  pub stepped_fits : (s : Stimulus) (birth : ℕ) (c d : Context) (before after : Bool) → Keeps program → ContextFits program c → HeardFits program.types s → turned_to d after ≡ stepped_born program s birth (turned_to c before) → ContextFits program d
  stepped_fits s birth c d before after keeps fit heard so = subst (ContextFits program) (sym (ap (λ (t : Turned). t.context) so)) (keeps.stepped s birth (turned_to c before) fit heard)

  -- one birth more
  pub turn_more : (s : Stimulus) (bs : List ℕ) (k : ℕ) (t u : Turned) → k < length bs → u ≡ stepped_born program s (get_or bs k 0) t → turn program s (drop (k + 1) bs) u ≡ turn program s (drop k bs) t
  turn_more s bs k t u lt so =
      let next : drop k bs ≡ get_or bs k 0 ∷ drop (k + 1) bs = drop-cons bs k 0 lt ∙ ap (λ n. get_or bs k 0 ∷ drop n bs) (sym (add-one k)) in
      ap (turn program s (drop (k + 1) bs)) so ∙ sym (ap (λ (xs : List ℕ). turn program s xs t) next)
