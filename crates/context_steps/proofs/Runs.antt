-- Runs of bodies in instances.
use Rattle.std.proofs.Common.{◌-◌, ◌<◌, ◌≤◌, ◌++◌, ◌∷◌, ◌≡◌, ◌^◌}
use Rattle.context_steps.proofs.Common.{ℕ, Bool, true, false, cond, List, [], Option, Some, None, slice_get, refl, sym, ap, subst, ◌∙◌, find, Value, Program, GlobalsFit, End, Act, Context, Instance, is_instance, instance_of, put_globals, with_globals, with_fuel, with_some, apply_all, act_in, with_act, run_in, last_run, finished, fault_line, idle, CanRunIn, ContextFits, InRange, Keeps}
use Rattle.typed_runs.specs.Bodies.{head_of, HeadFits, BodyFits, StillFit}
use Rattle.typed_program.specs.declared.program.Monitor.{Monitor}
use Rattle.action_host.specs.declared.host.End.TheVariants as end
use Rattle.action_host.specs.Scenes.{Scene}
use Rattle.action_host.specs.Told.{Told}
use Rattle.body_meaning.specs.Acts.{act_of}
use Rattle.body_runs.specs.Comes.{Comes}
use Rattle.record_book.specs.Fits.{IsTime}
use Rattle.context_meaning.specs.Contexts.{scene_of}
use Rattle.context_meaning.specs.Ends.{come, dying, ended, idle_in}
use Rattle.context_meaning.specs.Fits.{InstanceFits, MayRun}
use Rattle.context_meaning.proofs.Finding.{find_all, number_is}
use Rattle.std.specs.Option.{option_map}
use Rattle.live_context.specs.Lent.{lent}
use Rattle.live_context.specs.declared.lent.Lent.{Lent}
use Rattle.live_context.proofs.Places.{missing_put}
use Rattle.live_context.proofs.Lending.{put_back}
use Rattle.context_steps.specs.Steps.{CanRun, Stands, Came, numbered, ondie_in, ondie_of, told_first}
use Rattle.context_steps.proofs.Rows.{Rests, apply_all_rests}

-- ---- before a run

some_same : {A : Type 0} (a b : A) → Some a ≡ Some b → a ≡ b
some_same a b e = cc

-- what is lent is an instance's
pub lends : (o : Option Instance) (l : Lent) → Some l ≡ lent o → (i : Instance) × (o ≡ Some i) × (l ≡ record { monitor = i.monitor; globals = i.globals })
lends None l is = absurd (cc)
lends (Some i) l is = (i, refl, some_same l (record { monitor = i.monitor; globals = i.globals }) is)

-- where nothing is lent there is no instance, and nothing changes
not_there : (o : Option Instance) → None ≡ lent o → o ≡ None
not_there None is = refl
not_there (Some i) is = absurd (cc)

pub lends_none : (number : ℕ) (c d : Context) → None ≡ lent (instance_of number c) → d ≡ with_globals number [] c → (instance_of number c ≡ None) × (d ≡ c)
lends_none number c d is so =
    let none : instance_of number c ≡ None = not_there (instance_of number c) is in
    (none, so ∙ sym (ap (λ (xs : List Instance). record c { instances = xs }) (missing_put number [] c.instances none)))

-- the variables that it runs over have their shapes
body_fits : (program : Program) (body : ℕ) (locals : List Value) (begun : ℕ) (i : Instance) → CanRun program body locals begun i → BodyFits program body i.globals locals
body_fits program body locals begun i can = subst (HeadFits program i.globals locals) (sym can.may.is) (subst (λ m. GlobalsFit program m i.globals) (sym can.may.same) can.globals, can.may.locals_fit)

pub lends_fits : (program : Program) (number body : ℕ) (locals : List Value) (c : Context) (l : Lent) → CanRunIn program number body locals c → Some l ≡ lent (instance_of number c) → BodyFits program body l.globals locals
lends_fits program number body locals c l can is =
    let i = lends (instance_of number c) l is in
    subst (λ (m : Lent). BodyFits program body m.globals locals) (sym i.2) (body_fits program body locals c.begun i.0 (can i.0 i.1))

-- its instance was begun
pub lends_begun : (program : Program) (number body : ℕ) (locals : List Value) (c d : Context) (l : Lent) → CanRunIn program number body locals c → Some l ≡ lent (instance_of number c) → d.begun ≡ c.begun → number ≤ d.begun
lends_begun program number body locals c d l can is same =
    let i = lends (instance_of number c) l is in
    let old : number ≤ c.begun = subst (λ n. n ≤ c.begun) (number_is number c.instances i.0 i.1) (can i.0 i.1).number in
    subst (λ n. number ≤ n) (sym same) old

-- the clock stays
pub lends_time : (c d : Context) → InRange c → d.clock ≡ c.clock → IsTime d.clock
lends_time c d h same = subst IsTime (sym same) h.clock

-- the context between the run and its effects
pub between : (number fuel : ℕ) (later : List Value) (c lending back d : Context) → lending ≡ with_globals number [] c → back ≡ with_globals number later lending → d ≡ with_fuel fuel back → d ≡ with_fuel fuel (with_globals number later c)
between number fuel later c lending back d lending_is back_is d_is = d_is ∙ ap (with_fuel fuel) (back_is ∙ ap (with_globals number later) lending_is ∙ put_back number later c)

-- ---- what a run comes to

-- without draws the meaning of a body is what its host was told
acted : (program : Program) (body : ℕ) (globals locals later : List Value) (scene : Scene) (new : Told) (end : End) → new.drawn ≡ [] → Comes program body globals locals (told_first scene) new later end → act_of program body globals locals scene [] ≡ record { globals = later; effects = new.taken; end = end; scene = new.scene; draws = [] }
acted program body globals locals later scene new end none comes =
    let no : comes.draws ≡ [] = sym comes.drawn ∙ none in
    let gives : act_of program body globals locals scene (comes.draws ++ []) ≡ record { globals = later; effects = comes.effects; end = end; scene = new.scene; draws = [] } = comes.gives [] in
    let here : act_of program body globals locals scene [] ≡ record { globals = later; effects = comes.effects; end = end; scene = new.scene; draws = [] } = subst (λ ds. act_of program body globals locals scene (ds ++ []) ≡ record { globals = later; effects = comes.effects; end = end; scene = new.scene; draws = [] }) no gives in
    here ∙ ap (λ es. record { globals = later; effects = es; end = end; scene = new.scene; draws = [] }) (sym comes.taken)

-- the globals have the shapes of the monitor of the instance
still_fit : (program : Program) (body : ℕ) (locals later : List Value) (i : Instance) → MayRun program body locals i → StillFit program later (head_of program body) → GlobalsFit program i.monitor later
still_fit program body locals later i may still = subst (λ m. GlobalsFit program m later) may.same (subst (StillFit program later) may.is still)

-- the first one behind a change of its globals
found_put : (number : ℕ) (globals : List Value) (f : Instance) (xs : List Instance) → find (is_instance number) xs ≡ Some f → find (is_instance number) (put_globals number globals xs) ≡ Some (record f { globals = globals })
found_put number globals f [] is = absurd (cc)
found_put number globals f (x ∷ xs) is = go (found_put number globals f xs) (is_instance number x) refl is
  where
    go : (find (is_instance number) xs ≡ Some f → find (is_instance number) (put_globals number globals xs) ≡ Some (record f { globals = globals })) → (b : Bool) → is_instance number x ≡ b → cond b (Some x) (find (is_instance number) xs) ≡ Some f → find (is_instance number) (cond b ((record x { globals = globals }) ∷ xs) (x ∷ put_globals number globals xs)) ≡ Some (record f { globals = globals })
    go rest true e h = let same : x ≡ f = cc in rw e (ap (λ (i : Instance). Some (record i { globals = globals })) same)
    go rest false e h = rw e (rest h)

-- a run over globals that were lent
pub came : (program : Program) (ending : Bool) (number body : ℕ) (locals later : List Value) (old mid new : Context) (l : Lent) (told : Told) (fuel : ℕ) (end : End) →
    CanRunIn program number body locals old → InRange old → Some l ≡ lent (instance_of number old) → told.drawn ≡ [] → told.scene.fuel ≡ fuel → fuel < 2 ^ 64 - 1 →
    Comes program body l.globals locals (told_first (scene_of ending old)) told later end → StillFit program later (head_of program body) →
    mid ≡ with_fuel fuel (with_globals number later old) → new ≡ apply_all program number ending told.taken mid →
    Came program ending number body locals old new l.monitor end
came program ending number body locals later old mid new l told fuel end can ranges is none fuel_is small comes still mid_is new_is =
    let i = lends (instance_of number old) l is in
    let runs : CanRun program body locals old.begun i.0 = can i.0 i.1 in
    let monitor_is : i.0.monitor ≡ l.monitor = sym (ap (λ (m : Lent). m.monitor) i.2) in
    let act : act_of program body i.0.globals locals (scene_of ending old) [] ≡ record { globals = later; effects = told.taken; end = end; scene = told.scene; draws = [] } = sym (ap (λ (m : Lent). act_of program body m.globals locals (scene_of ending old) []) i.2) ∙ acted program body l.globals locals later (scene_of ending old) told end none comes in
    let rests : Rests mid (apply_all program number ending told.taken mid) = apply_all_rests program number ending told.taken mid in
    let new_fuel : new.fuel ≡ fuel = ap (λ (c : Context). c.fuel) new_is ∙ rests.fuel ∙ ap (λ (c : Context). c.fuel) mid_is in
    let new_begun : new.begun ≡ old.begun = ap (λ (c : Context). c.begun) new_is ∙ rests.begun ∙ ap (λ (c : Context). c.begun) mid_is in
    let new_clock : new.clock ≡ old.clock = ap (λ (c : Context). c.clock) new_is ∙ rests.clock ∙ ap (λ (c : Context). c.clock) mid_is in
    let new_instances : new.instances ≡ put_globals number later old.instances = ap (λ (c : Context). c.instances) new_is ∙ rests.instances ∙ ap (λ (c : Context). c.instances) mid_is in
    let lives : find (is_instance number) new.instances ≡ Some (record i.0 { globals = later }) = ap (find (is_instance number)) new_instances ∙ found_put number later i.0 old.instances i.1 in
    let fits : GlobalsFit program l.monitor later = subst (λ m. GlobalsFit program m later) monitor_is (still_fit program body locals later i.0 runs.may still) in
    let begun : i.0.number ≤ new.begun = subst (λ n. i.0.number ≤ n) (sym new_begun) runs.number in
    record {
      found = i.0;
      is = i.1;
      number_is = number_is number old.instances i.0 i.1;
      monitor_is = monitor_is;
      end_is = sym (ap (λ (a : Act). a.end) act);
      takes = new_is ∙ ap (apply_all program number ending told.taken) mid_is ∙ ap (λ f. apply_all program number ending told.taken (with_fuel f (with_globals number later old))) (sym fuel_is) ∙ sym (ap (λ (a : Act). with_act program number ending a old) act);
      small = record { fuel = subst (λ n. n < 2 ^ 64 - 1) (sym new_fuel) small; clock = subst IsTime (sym new_clock) ranges.clock };
      stands = λ j there. let same : record i.0 { globals = later } ≡ j = some_same (record i.0 { globals = later }) j (sym lives ∙ there) in subst (λ (k : Instance). (k.monitor ≡ l.monitor) × GlobalsFit program l.monitor k.globals × (k.number ≤ new.begun)) same (monitor_is, fits, begun);
    }

-- what is run where the instance is there
abbrev run_of : Program → (Instance → End → Context → Context) → Bool → ℕ → List Value → Option Instance → Context → Context
run_of program behind ending body locals o c = with_some o (λ i d. come program behind ending i (act_in program ending body locals i d) d) c

-- a run and what comes behind it
pub ran_by : (program : Program) (behind : Instance → End → Context → Context) (ending : Bool) (number body monitor : ℕ) (locals : List Value) (old new last : Context) (end : End) (came : Came program ending number body locals old new monitor end) → last ≡ behind came.found end new → last ≡ run_in program behind ending body locals number old
ran_by program behind ending number body monitor locals old new last end came so =
    so
    ∙ ap (λ e. behind came.found e new) came.end_is
    ∙ ap (behind came.found (act_in program ending body locals came.found old).end) came.takes
    ∙ ap (λ n. behind came.found (act_in program ending body locals came.found old).end (with_act program n ending (act_in program ending body locals came.found old) old)) (sym came.number_is)
    ∙ sym (ap (λ (o : Option Instance). run_of program behind ending body locals o old) came.is)

-- no instance
pub ran_none : (program : Program) (behind : Instance → End → Context → Context) (ending : Bool) (number body : ℕ) (locals : List Value) (c d : Context) → instance_of number c ≡ None → d ≡ c → d ≡ run_in program behind ending body locals number c
ran_none program behind ending number body locals c d none so = so ∙ sym (ap (λ (o : Option Instance). run_of program behind ending body locals o c) none)

-- ---- what follows from the monitor alone

-- how a run ends depends on the number and the monitor of the instance
last_run_as : (program : Program) (i : Instance) (number monitor : ℕ) (end : End) (c : Context) → monitor ≡ i.monitor → last_run program (numbered number monitor) end c ≡ last_run program i end c
last_run_as program i number monitor (end.Done v) c same = refl
last_run_as program i number monitor end.Died c same = refl
last_run_as program i number monitor (end.Failed f) c same = ap (λ m. fault_line program (numbered number m) f c) same
last_run_as program i number monitor end.Spent c same = refl

-- two numbers and the same two
both_same : (g : ℕ → ℕ → Context) (a b n m : ℕ) → a ≡ n → b ≡ m → g a b ≡ g n m
both_same g a b n m p q = ap (λ x. g x b) p ∙ ap (λ y. g n y) q

finished_as : (program : Program) (i : Instance) (number monitor : ℕ) (end : End) (c : Context) → number ≡ i.number → monitor ≡ i.monitor → finished program (numbered number monitor) end c ≡ finished program i end c
finished_as program i number monitor (end.Done v) c is same = both_same (λ n m. idle program (numbered n m) c) number monitor i.number i.monitor is same
finished_as program i number monitor end.Died c is same = both_same (λ n m. ended program (numbered n m) c) number monitor i.number i.monitor is same
finished_as program i number monitor (end.Failed f) c is same = both_same (λ n m. ended program (numbered n m) (fault_line program (numbered n m) f c)) number monitor i.number i.monitor is same
finished_as program i number monitor end.Spent c is same = refl

-- a run of `ondie`, and how it ends
pub ran_last : (program : Program) (number body monitor : ℕ) (locals : List Value) (old new last : Context) (end : End) → locals ≡ [] → Came program true number body locals old new monitor end → last ≡ last_run program (numbered 0 monitor) end new → last ≡ run_in program (last_run program) true body [] number old
ran_last program number body monitor locals old new last end none came so =
    ran_by program (last_run program) true number body monitor locals old new last end came (so ∙ last_run_as program came.found 0 monitor end new (sym came.monitor_is))
    ∙ ap (λ (ls : List Value). run_in program (last_run program) true body ls number old) none

-- a run, and how it ends
pub ran_finished : (program : Program) (number body monitor : ℕ) (locals : List Value) (old new last : Context) (end : End) → Came program false number body locals old new monitor end → last ≡ finished program (numbered number monitor) end new → last ≡ run_in program (finished program) false body locals number old
ran_finished program number body monitor locals old new last end came so = ran_by program (finished program) false number body monitor locals old new last end came (so ∙ finished_as program came.found number monitor end new (sym came.number_is) (sym came.monitor_is))

-- ---- `ondie`

-- it runs where there is one
dying_in : (program : Program) (number : ℕ) (o : Option Monitor) (c : Context) → with_some o (λ m d. with_some m.ondie (λ body. run_in program (last_run program) true body [] number) d) c ≡ with_some (ondie_in o) (λ body. run_in program (last_run program) true body [] number) c
dying_in program number None c = refl
dying_in program number (Some m) c = refl

pub dies : (program : Program) (number monitor : ℕ) (o : Option ℕ) (c r : Context) → o ≡ ondie_of program monitor → r ≡ with_some o (λ body. run_in program (last_run program) true body [] number) c → r ≡ dying program (numbered number monitor) c
dies program number monitor o c r is so = so ∙ ap (λ (p : Option ℕ). with_some p (λ body. run_in program (last_run program) true body [] number) c) is ∙ sym (dying_in program number (slice_get program.monitors monitor) c)

-- `ondie` may run where the instance stands
pub dies_in : (program : Program) (number monitor body : ℕ) (c : Context) → Keeps program → Stands program number monitor c → Some body ≡ ondie_of program monitor → CanRunIn program number body [] c
dies_in program number monitor body c keeps stands is = λ i there.
    let s : (i.monitor ≡ monitor) × GlobalsFit program monitor i.globals × (i.number ≤ c.begun) = stands i there in
    record {
      may = keeps.ondie i body (ap (ondie_of program) s.0 ∙ sym is);
      globals = subst (λ m. GlobalsFit program m i.globals) (sym s.0) s.1;
      number = s.2;
    }

-- where the instances stay
pub stands_on : (program : Program) (number monitor : ℕ) (c d : Context) → d.instances ≡ c.instances → d.begun ≡ c.begun → Stands program number monitor c → Stands program number monitor d
stands_on program number monitor c d same begun stands = λ i there.
    let s : (i.monitor ≡ monitor) × GlobalsFit program monitor i.globals × (i.number ≤ c.begun) = stands i (ap (find (is_instance number)) (sym same) ∙ there) in
    (s.0, s.1, subst (λ n. i.number ≤ n) (sym begun) s.2)

-- ---- an instance without a live listener

-- how it ends depends on its number and its monitor
idle_as : (program : Program) (i : Instance) (number monitor : ℕ) (c : Context) → number ≡ i.number → monitor ≡ i.monitor → idle program (numbered number monitor) c ≡ idle program i c
idle_as program i number monitor c is same = both_same (λ n m. idle program (numbered n m) c) number monitor i.number i.monitor is same

-- where it isn't there, nothing ends
pub idle_none : (program : Program) (number : ℕ) (c : Context) → None ≡ option_map (λ (i : Instance). i.monitor) (instance_of number c) → c ≡ idle_in program number c
idle_none program number c is = by (instance_of number c) is
  where
    by : (o : Option Instance) → None ≡ option_map (λ (i : Instance). i.monitor) o → c ≡ with_some o (idle program) c
    by None h = refl
    by (Some i) h = absurd (cc)

-- where it is there, it ends
pub idle_some : (program : Program) (number monitor : ℕ) (c r : Context) → Some monitor ≡ option_map (λ (i : Instance). i.monitor) (instance_of number c) → r ≡ idle program (numbered number monitor) c → r ≡ idle_in program number c
idle_some program number monitor c r is so = so ∙ by (instance_of number c) refl is
  where
    by : (o : Option Instance) → instance_of number c ≡ o → Some monitor ≡ option_map (λ (i : Instance). i.monitor) o → idle program (numbered number monitor) c ≡ with_some o (idle program) c
    by None there h = absurd (cc)
    by (Some i) there h = let same : monitor ≡ i.monitor = cc in idle_as program i number monitor c (sym (number_is number c.instances i there)) same

-- it stands there
pub stands_in : (program : Program) (number monitor : ℕ) (c : Context) → ContextFits program c → Some monitor ≡ option_map (λ (i : Instance). i.monitor) (instance_of number c) → Stands program number monitor c
stands_in program number monitor c fit is = λ i there.
    let fits : InstanceFits program c.begun i = find_all (InstanceFits program c.begun) (is_instance number) c.instances i fit.instances there in
    let found : Some monitor ≡ Some i.monitor = is ∙ ap (option_map (λ (j : Instance). j.monitor)) there in
    let same : i.monitor ≡ monitor = cc in
    (same, subst (λ m. GlobalsFit program m i.globals) same fits.globals, fits.number)
