-- Which bodies may run in an instance: `onload` and `ondie` of its monitor, and the callbacks of its listeners.
use Rattle.context_meaning.proofs.Common.{ℕ, zero, suc, List, [], map, length, slice_get, Bool, true, Option, Some, None, refl, sym, ap, subst, ◌∙◌, arith, find, list_all, ⊎_elim, and_parts, eqb-true, same_Some, slice_get_within, All-head, All-tail, Shape, EventShape, Value, Program, Action, Monitor, Site, stands, ends_plain, runs_plain, Typed, default_of, AllFit, fit_nil, fit_cons, default_fits, head_of, Binding, CompletionFits, Instance, Listener, is_instance, body_number, callback_locals, ListenerFits, MayRun}
use Rattle.std.proofs.Common.{◌≡◌, ◌+◌, ◌-◌, ◌≤◌, ◌∷◌, ◌++◌, ◌==◌, option_map}
use Rattle.std.proofs.lemmas.Bool.{and_from, lt-ltb, le-ltb, cond-true, cond-false}
use Rattle.typed_program.specs.declared.program.Local.{Local}
use Rattle.typed_program.specs.Expressions.{if_known}
use Rattle.typed_program.specs.Terms.{fits_term}
use Rattle.typed_program.specs.Programs.{is_plain, monitor_so, monitors_so, site_around, site_so}
use Rattle.value_shapes.specs.Fits.{Fit}
use Rattle.value_shapes.proofs.Lists.{fit_append}
use Rattle.typed_runs.specs.Bodies.{action_head, callback_head}
use Rattle.term_meaning.specs.Operands.{event_of}
use Rattle.term_shapes.specs.Kept.{BindingFits}
use Rattle.context_meaning.specs.Listeners.{bound_from, or_default}
use Rattle.context_meaning.proofs.Finding.{found_case}

-- ---- lists of which all pass a test

-- those at the front pass
pub first_all : {A : Type 0} (p : A → Bool) (xs ys : List A) → list_all p (xs ++ ys) ≡ true → list_all p xs ≡ true
first_all p [] ys h = refl
first_all p (x ∷ xs) ys h = let b = and_parts (p x) (list_all p (xs ++ ys)) h in and_from (p x) (list_all p xs) b.0 (first_all p xs ys b.1)

-- those at the end pass
pub last_all : {A : Type 0} (p : A → Bool) (xs ys : List A) → list_all p (xs ++ ys) ≡ true → list_all p ys ≡ true
last_all p [] ys h = h
last_all p (x ∷ xs) ys h = last_all p xs ys (and_parts (p x) (list_all p (xs ++ ys)) h).1

-- ---- bound names

-- the event that a completion binds to a name has the name's shape
event_fits : (types : List EventShape) (bound : List Local) (completion : List Binding) (n : ℕ) (e : Value) (b : Local) → CompletionFits types bound completion → event_of n completion ≡ Some e → slice_get bound n ≡ Some b → Fit types e b.shape
event_fits types bound [] n e b all h there = cc
event_fits types bound (x ∷ xs) n e b all h there =
    ⊎_elim (λ k. subst (λ v. Fit types v b.shape) k.1 (All-head (BindingFits types bound) x xs all b (ap (slice_get bound) (eqb-true x.local n k.0) ∙ there)))
    (λ k. event_fits types bound xs n e b (All-tail (BindingFits types bound) x xs all) k there)
    (found_case (x.local == n) x.event (event_of n xs) e h)

-- what is bound, or else the default
either_fits : (types : List EventShape) (s : Shape) (o : Option Value) (other : Value) → ((e : Value) → o ≡ Some e → Fit types e s) → Fit types other s → Fit types (or_default o other) s
either_fits types s None other h k = k
either_fits types s (Some e) other h k = h e refl

-- ---- actions by their numbers

-- an action of this monitor without parameters
plain_parts : (monitor : ℕ) (params : List Shape) (a : Action) → is_plain monitor params a ≡ true → (params ≡ []) × (a.monitor ≡ monitor)
plain_parts monitor [] a h = (refl, eqb-true a.monitor monitor (and_parts _ _ h).0)
plain_parts monitor (s ∷ ss) a h = cc

-- an action that may be there, and passes
plain_there : (monitor : ℕ) (o : Option Action) → if_known (λ (a : Action). is_plain monitor a.params a) o ≡ true → (a : Action) × (o ≡ Some a) × (is_plain monitor a.params a ≡ true)
plain_there monitor None h = cc
plain_there monitor (Some a) h = (a, refl, h)

module _ (program : Program) (typed : Typed program) where
  -- ---- `onload` and `ondie`

  -- a monitor among those whose numbers begin with this one
  at_monitor : (ms : List Monitor) (number k : ℕ) (m : Monitor) → monitors_so program number ms ≡ true → slice_get ms k ≡ Some m → monitor_so program (number + k) m ≡ true
  at_monitor [] number k m so h = cc
  at_monitor (x ∷ ms) number zero m so h =
      let is : number ≡ number + 0 = omega arith in
      subst (λ n. monitor_so program n m ≡ true) is (subst (λ y. monitor_so program number y ≡ true) (same_Some x m h) (and_parts (monitor_so program number x) (monitors_so program (1 + number) ms) so).0)
  at_monitor (x ∷ ms) number (suc k) m so h =
      let is : (1 + number) + k ≡ number + suc k = omega arith in
      subst (λ n. monitor_so program n m ≡ true) is (at_monitor ms (1 + number) k m (and_parts (monitor_so program number x) (monitors_so program (1 + number) ms) so).1 h)

  -- a monitor that is there is as it should be
  pub monitor_there : (n : ℕ) (m : Monitor) → slice_get program.monitors n ≡ Some m → monitor_so program n m ≡ true
  monitor_there n m h =
      let is : 0 + n ≡ n = omega arith in
      subst (λ k. monitor_so program k m ≡ true) is (at_monitor program.monitors 0 n m typed.shapes.monitors h)

  -- the head of an action
  head_action : (n : ℕ) (a : Action) → slice_get program.actions n ≡ Some a → head_of program n ≡ Some (action_head a)
  head_action n a h = cond-true _ _ _ (lt-ltb n (length program.actions) (slice_get_within program.actions n a h)) ∙ ap (option_map action_head) h

  -- an action that takes nothing may run in an instance of its monitor
  plain_may : (monitor n : ℕ) (j : Instance) → runs_plain program monitor n ≡ true → j.monitor ≡ monitor → MayRun program n [] j
  plain_may monitor n j plain is =
      let there = plain_there monitor (slice_get program.actions n) plain in
      let parts = plain_parts monitor there.0.params there.0 there.2 in
      record { head = action_head there.0; is = head_action n there.0 there.1; same = parts.1 ∙ sym is; locals_fit = subst (λ ps. AllFit program.types [] ps) (sym parts.0) (fit_nil program.types) }

  -- `ondie` of a monitor takes nothing
  ondie_plain : (n body : ℕ) (m : Monitor) → slice_get program.monitors n ≡ Some m → m.ondie ≡ Some body → runs_plain program n body ≡ true
  ondie_plain n body m there is = subst (λ o. ends_plain program n o ≡ true) is (and_parts _ (ends_plain program n m.ondie) (monitor_there n m there)).1

  -- `ondie` of a monitor may run in its instances
  pub ondie_may : (n : ℕ) (m : Monitor) (body : ℕ) (j : Instance) → slice_get program.monitors n ≡ Some m → m.ondie ≡ Some body → j.monitor ≡ n → MayRun program body [] j
  ondie_may n m body j there is same = plain_may n body j (ondie_plain n body m there is) same

  -- and so may `onload`
  pub onload_may : (n : ℕ) (m : Monitor) (j : Instance) → slice_get program.monitors n ≡ Some m → j.monitor ≡ n → MayRun program m.onload [] j
  onload_may n m j there same = plain_may n m.onload j (and_parts _ (runs_plain program n m.onload) (and_parts _ (ends_plain program n m.ondie) (monitor_there n m there)).0).1 same

  -- ---- callbacks

  -- the values of bound names whose places begin with this one
  bound_fits : (bound : List Local) (completion : List Binding) (n : ℕ) (bs : List Local) → CompletionFits program.types bound completion → list_all (stands program.types) (map (λ (b : Local). b.shape) bs) ≡ true → ((k : ℕ) (b : Local) → slice_get bs k ≡ Some b → slice_get bound (n + k) ≡ Some b) → AllFit program.types (bound_from program.types completion n bs) (map (λ (b : Local). b.shape) bs)
  bound_fits bound completion n [] fits all placed = fit_nil program.types
  bound_fits bound completion n (b ∷ bs) fits all placed =
      let stand = and_parts (stands program.types b.shape) (list_all (stands program.types) (map (λ (c : Local). c.shape) bs)) all in
      let first : n + 0 ≡ n = omega arith in
      fit_cons program.types _ (bound_from program.types completion (n + 1) bs) b.shape (map (λ (c : Local). c.shape) bs)
      (either_fits program.types b.shape (event_of n completion) (default_of program.types b.shape) (λ e is. event_fits program.types bound completion n e b fits is (sym (ap (slice_get bound) first) ∙ placed 0 b refl)) (default_fits program typed b.shape stand.0))
      (bound_fits bound completion (n + 1) bs fits stand.1 (λ k c h. let next : (n + 1) + k ≡ n + suc k = omega arith in ap (slice_get bound) next ∙ placed (suc k) c h))

  -- a site that is there is as it should be
  site_there : (n : ℕ) (site : Site) → slice_get program.sites n ≡ Some site → site_so program site ≡ true
  site_there n site h = (typed.sites n site h).shapes

  -- the shapes of bound names stand
  bound_stand : (site : Site) → site_so program site ≡ true → list_all (stands program.types) (map (λ (b : Local). b.shape) site.bound) ≡ true
  bound_stand site so =
      let most = (and_parts _ _ so).0 in
      let both = and_parts _ (fits_term (site_around program site) site.term) most in
      last_all (stands program.types) (map (λ (c : Local). c.shape) site.captured) (map (λ (b : Local). b.shape) site.bound) (first_all (stands program.types) _ site.locals (and_parts _ _ both.0).1)

  -- the head of a callback
  head_callback : (n : ℕ) (site : Site) → slice_get program.sites n ≡ Some site → head_of program (body_number program n) ≡ Some (callback_head site)
  head_callback n site h =
      let past : length program.actions ≤ length program.actions + n = omega arith in
      let back : (length program.actions + n) - length program.actions ≡ n = omega arith in
      cond-false _ _ _ (le-ltb (length program.actions + n) (length program.actions) past) ∙ ap (option_map callback_head) (ap (slice_get program.sites) back ∙ h)

  -- the locals that a callback begins with have the shapes of its parameters
  locals_of : (site : Site) (captured : List Value) (completion : List Binding) → site_so program site ≡ true → AllFit program.types captured (map (λ (c : Local). c.shape) site.captured) → CompletionFits program.types site.bound completion → AllFit program.types (callback_locals program.types site captured completion) (callback_head site).params
  locals_of site captured completion so held fits =
      fit_append program.types captured (bound_from program.types completion 0 site.bound) (map (λ (c : Local). c.shape) site.captured) (map (λ (b : Local). b.shape) site.bound) held
      (bound_fits site.bound completion 0 site.bound fits (bound_stand site so) (λ k b h. let same : 0 + k ≡ k = omega arith in ap (slice_get site.bound) same ∙ h))

  -- the callback of a listener may run in its instance, with what it took along and what a completion binds
  pub callback_may : (begun : ℕ) (instances : List Instance) (l : Listener) (site : Site) (completion : List Binding) (i : Instance) → ListenerFits program begun instances l → slice_get program.sites l.site ≡ Some site → CompletionFits program.types site.bound completion → find (is_instance l.instance) instances ≡ Some i → MayRun program (body_number program l.site) (callback_locals program.types site l.captured completion) i
  callback_may begun instances l site completion i f there fits found =
      let one = same_Some f.site site (sym f.there ∙ there) in
      record {
        head = callback_head site;
        is = head_callback l.site site there;
        same = sym (f.monitor i found ∙ ap (λ (o : Site). o.monitor) one);
        locals_fit = locals_of site l.captured completion (site_there l.site site there) (subst (λ (o : Site). AllFit program.types l.captured (map (λ (c : Local). c.shape) o.captured)) one f.captured) fits;
      }
