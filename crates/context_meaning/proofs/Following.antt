-- What is done in a context keeps who was there before: an instance stays of its monitor, and a listener with its instance, its site and
-- what its callback takes along.
use Rattle.std.proofs.Common.{◌≡◌, ◌+◌, ◌≤◌, ◌∷◌}
use Rattle.context_meaning.proofs.Common.{ℕ, List, [], filter, slice_get, Bool, Some, All, Contains, refl, sym, ap, subst, ◌∙◌, arith, cond_both, ⊎_elim, eqb-true, find, All-filter, All-push, All-weaker, All-contains, Value, Program, Effect, Act, UnderWay, begun_in, setting_of, Instance, Listener, Context, instance_of, is_born, is_instance, listener_of, with_expression, with_fuel, with_globals, with_instance, with_listener, without_instance, act_in, apply, apply_all, listening, with_act, ListenerFits}
use Rattle.std.proofs.lemmas.List.Elements.{All-contains_itself}
use Rattle.action_host.specs.declared.host.Effect.TheVariants as effect
use Rattle.context_meaning.proofs.Changing.{Carries}
use Rattle.context_meaning.proofs.Choosing.{with_some_both}
use Rattle.context_meaning.proofs.Finding.{FoundAs, find_all, find_contains, find_others, find_passes, find_push, find_put, moved, put_all}

-- a listener with the birth, the instance, the site and the values of another one
pub record SameListener (k l : Listener) : Type 0 where
  pub birth : l.birth ≡ k.birth
  pub instance : l.instance ≡ k.instance
  pub site : l.site ≡ k.site
  pub captured : l.captured ≡ k.captured

-- it is the same as itself
pub same_listener : (l : Listener) → SameListener l l
same_listener l = record { birth = refl; instance = refl; site = refl; captured = refl }

-- the same as the same one
pub same_then : (j k l : Listener) → SameListener j k → SameListener k l → SameListener j l
same_then j k l a b = record { birth = b.birth ∙ a.birth; instance = b.instance ∙ a.instance; site = b.site ∙ a.site; captured = b.captured ∙ a.captured }

-- a listener that was born by then was there, with the same instance, site and values
abbrev pub WasThere : Context → Listener → Type 0
WasThere c l = l.birth ≤ c.births → (k : Listener) × Contains c.listeners k × SameListener k l

-- behind the first context comes the second one: no number is given out again, an instance that was begun is found as before, and so are listeners
pub record Follows (c d : Context) : Type 0 where
  pub begun : c.begun ≤ d.begun
  pub births : c.births ≤ d.births
  pub instances : (n : ℕ) → n ≤ c.begun → (i : Instance) → instance_of n d ≡ Some i → FoundAs n c.instances i
  pub listeners : All (WasThere c) d.listeners

-- a number past the last one isn't among them
past : (n : ℕ) → n + 1 ≤ n → ⊥
past n h = omega (arith, h)

-- nor is the next one
not_next : (n m : ℕ) → n ≤ m → m + 1 ≡ n → ⊥
not_next n m h is = omega (arith, h, is)

-- numbers by then
by_then : (n m k : ℕ) → n ≤ m → m ≤ k → n ≤ k
by_then n m k h g = omega (arith, h, g)

-- all are there themselves
themselves : (c : Context) → All (WasThere c) c.listeners
themselves c = All-weaker (Contains c.listeners) (WasThere c) (λ l h born. (l, h, same_listener l)) c.listeners (All-contains_itself c.listeners)

-- neither instances nor listeners change
pub unchanged : (c d : Context) → d.begun ≡ c.begun → d.births ≡ c.births → d.instances ≡ c.instances → d.listeners ≡ c.listeners → Follows c d
unchanged c d begun births instances listeners = record {
  begun = omega (arith, begun);
  births = omega (arith, births);
  instances = λ n h i found. (i, ap (find (is_instance n)) (sym instances) ∙ found, refl);
  listeners = subst (All (WasThere c)) (sym listeners) (themselves c);
}

-- nothing is done
pub follows_same : (c : Context) → Follows c c
follows_same c = unchanged c c refl refl refl refl

-- one that was there in the second was there in the first
was_there : (c d : Context) (l : Listener) → Follows c d → WasThere d l → WasThere c l
was_there c d l a h born =
    let one = h (by_then l.birth c.births d.births born a.births) in
    let same = one.2.birth in
    let two = All-contains (WasThere c) d.listeners one.0 a.listeners one.1 (omega (arith, born, same)) in
    (two.0, two.1, same_then two.0 one.0 l two.2 one.2)

-- one behind another
pub follows_then : (c d e : Context) → Follows c d → Follows d e → Follows c e
follows_then c d e a b = record {
  begun = by_then c.begun d.begun e.begun a.begun b.begun;
  births = by_then c.births d.births e.births a.births b.births;
  instances = λ n h i found. let one = b.instances n (by_then n c.begun d.begun h a.begun) i found in let two = a.instances n h one.0 one.1 in (two.0, two.1, two.2 ∙ one.2);
  listeners = All-weaker (WasThere d) (WasThere c) (λ l h. was_there c d l a h) e.listeners b.listeners;
}

-- the live listener of a birth is the one that alone had that birth
pub same_live : (birth : ℕ) (l m : Listener) (c d : Context) → Follows c d → birth ≤ c.births → ((k : Listener) → Contains c.listeners k → k.birth ≡ birth → k ≡ l) → listener_of birth d ≡ Some m → SameListener l m
same_live birth l m c d a born alone live =
    let is = eqb-true m.birth birth (find_passes (is_born birth) d.listeners m live) in
    let was = All-contains (WasThere c) d.listeners m a.listeners (find_contains (is_born birth) d.listeners m live) (subst (λ n. n ≤ c.births) (sym is) born) in
    subst (λ k. SameListener k m) (alone was.0 was.1 (sym was.2.birth ∙ is)) was.2

-- ---- single changes

-- one more listener
listener_follows : (at site : ℕ) (captured : List Value) (u : UnderWay) (c : Context) → Follows c (with_listener at site captured u c)
listener_follows at site captured u c = record {
  begun = omega arith;
  births = omega arith;
  instances = λ n h i found. (i, found, refl);
  listeners = All-push (WasThere c) c.listeners _ (themselves c) (λ born. absurd (past c.births born));
}

-- fewer listeners
fewer_follows : (p : Listener → Bool) (c : Context) → Follows c (record c { listeners = filter p c.listeners })
fewer_follows p c = record { begun = omega arith; births = omega arith; instances = λ n h i found. (i, found, refl); listeners = All-filter p (WasThere c) c.listeners (themselves c) }

-- with another event expression it is still the same one
moved_there : (c : Context) (u : UnderWay) (l : Listener) → WasThere c l → WasThere c (moved u l)
moved_there c u l h born = let old = h born in (old.0, old.1, record { birth = old.2.birth; instance = old.2.instance; site = old.2.site; captured = old.2.captured })

-- another event expression
pub expression_follows : (birth : ℕ) (u : UnderWay) (c : Context) → Follows c (with_expression birth u c)
expression_follows birth u c = record {
  begun = omega arith;
  births = omega arith;
  instances = λ n h i found. (i, found, refl);
  listeners = put_all (WasThere c) birth u c.listeners (themselves c) (λ l found. moved_there c u l (find_all (WasThere c) (is_born birth) c.listeners l (themselves c) found));
}

-- other globals
globals_follows : (at : ℕ) (globals : List Value) (c : Context) → Follows c (with_globals at globals c)
globals_follows at globals c = record { begun = omega arith; births = omega arith; instances = λ n h i found. find_put at n globals c.instances i found; listeners = themselves c }

-- one more instance
begun_follows : (monitor : ℕ) (globals : List Value) (c : Context) → Follows c (with_instance monitor globals c)
begun_follows monitor globals c = record {
  begun = omega arith;
  births = omega arith;
  instances = λ n h i found. ⊎_elim (λ old. (i, old, refl)) (λ k. absurd (not_next n c.begun h (eqb-true (c.begun + 1) n k.0))) (find_push (is_instance n) c.instances _ i found);
  listeners = themselves c;
}

-- one instance less
without_follows : (number : ℕ) (c : Context) → Follows c (without_instance number c)
without_follows number c = record { begun = omega arith; births = omega arith; instances = λ n h i found. (i, find_others number n c.instances i found, refl); listeners = themselves c }

module _ (program : Program) where
  -- ---- runs

  -- an effect
  apply_follows : (at : ℕ) (ending : Bool) (e : Effect) (c : Context) → Follows c (apply program at ending e c)
  apply_follows at ending (effect.Print text) c = unchanged c _ refl refl refl refl
  apply_follows at ending (effect.Log level text) c = unchanged c _ refl refl refl refl
  apply_follows at ending (effect.Listen site operands captured) c = cond_both ending c (listening program at site operands captured c) (Follows c) (λ _. follows_same c) (λ _. with_some_both (Follows c) (slice_get program.sites site) (λ s d. with_listener at site captured (begun_in (setting_of program.types s operands d.clock)) d) c (follows_same c) (λ s is. listener_follows at site captured _ c))
  apply_follows at ending (effect.Quit birth) c = fewer_follows _ c
  apply_follows at ending (effect.Route event) c = unchanged c _ refl refl refl refl
  apply_follows at ending other c = follows_same c

  -- effects in order
  apply_all_follows : (at : ℕ) (ending : Bool) (es : List Effect) (c : Context) → Follows c (apply_all program at ending es c)
  apply_all_follows at ending [] c = follows_same c
  apply_all_follows at ending (e ∷ es) c = follows_then c (apply program at ending e c) (apply_all program at ending es (apply program at ending e c)) (apply_follows at ending e c) (apply_all_follows at ending es (apply program at ending e c))

  -- what a run came to
  act_follows : (at : ℕ) (ending : Bool) (act : Act) (c : Context) → Follows c (with_act program at ending act c)
  act_follows at ending act c =
      let paid = with_fuel act.scene.fuel c in
      let changed = with_globals at act.globals paid in
      follows_then c changed (with_act program at ending act c) (follows_then c paid changed (unchanged c paid refl refl refl refl) (globals_follows at act.globals paid)) (apply_all_follows at ending act.effects changed)

  -- runs, turns and handlings
  pub follows_carries : Carries program Follows
  follows_carries = record {
    same = follows_same;
    next = follows_then;
    spent = λ c. unchanged c _ refl refl refl refl;
    fuel = λ fuel c less. unchanged c _ refl refl refl refl;
    clock = λ now c. unchanged c _ refl refl refl refl;
    line = λ l c. unchanged c _ refl refl refl refl;
    fewer = fewer_follows;
    expression = expression_follows;
    begun = begun_follows;
    without = without_follows;
    act = λ ending body locals i c. act_follows i.number ending (act_in program ending body locals i c) c;
  }

  -- a listener that fits goes on fitting, live or not
  pub still_fits : (l : Listener) (c d : Context) → Follows c d → ListenerFits program c.begun c.instances l → ListenerFits program d.begun d.instances l
  still_fits l c d a h = record {
    instance = by_then l.instance c.begun d.begun h.instance a.begun;
    site = h.site;
    there = h.there;
    captured = h.captured;
    expression = h.expression;
    monitor = λ i found. let old = a.instances l.instance h.instance i found in sym old.2 ∙ h.monitor old.0 old.1;
  }
