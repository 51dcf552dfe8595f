-- Where a run changes no variable, the variables are those from before it.
use Rattle.std.proofs.Common.{◌≡◌, true, List, [], ◌∷◌, ◌++◌, map, Result, Ok, refl, sym, ap, subst, ◌∙◌, arith}
use Rattle.std.specs.Prelude.{◌&&◌}
use Rattle.std.specs.List.{All, AllByRecursion, list_all}
use Rattle.epl_values.specs.declared.shape.EventShape.{EventShape}
use Rattle.epl_values.specs.declared.value.Value.{Value}
use Rattle.epl_values.specs.declared.value.Pair.{Pair}
use Rattle.typed_program.specs.declared.expression.TypedExpr.{TypedExpr}
use Rattle.typed_program.specs.declared.expression.TypedLink.{TypedLink, out-TypedLink}
use Rattle.typed_program.specs.declared.expression.TypedEntry.{TypedEntry, out-TypedEntry}
use Rattle.typed_program.specs.declared.expression.TypedSuffix.{TypedSuffix}
use Rattle.action_host.specs.Told.{Told}
use Rattle.body_meaning.specs.declared.run.Frame.{Frame}
use Rattle.body_meaning.specs.Runs.{State, Did, M}
use Rattle.body_meaning.specs.Expressions.{Calls, reach_of, value_of, all_values, links_from, entries_behind, reach_from}
use Rattle.walk_rules.specs.declared.stop.Stop.{Stop}
use Rattle.walk_rules.specs.Parts.{link_of, entry_of}
use Rattle.walk_rules.specs.Ran.{state_of, did_of, standing, Walks, Leads}
use Rattle.walk_rules.proofs.Frames.{did_behind}
use Rattle.walk_rules.proofs.Keeping.{walks_keeps}
use Rattle.calm_exprs.specs.Calm.{is_calm, is_calm_step, are_calm}
use Rattle.path_bases.specs.Tells.{Tells}
use Rattle.walk_laws.proofs.Still.{Still, StillLink, StillEntry, StillStep, still_all, still_links, still_entries, still_reach}
use Rattle.walk_laws.proofs.Calming.{both_left, both_right, calm_value, calm_step}
use Rattle.walk_laws.proofs.Telling.{walks_tells}

-- ---- whatever the run

none_kept : (P : Frame → Type 0) (frames : List Frame) → frames ≡ [] → All P frames
none_kept P frames none = subst (λ l. All P l) (sym none) (λ k d within. absurd (omega (arith, within)))

-- whatever the call answers
pub still_walks : {A : Type 0} {m : M A} {r : Result A Stop} {t t1 : Told} {f f1 : Frame} → Still m → Walks m t f t1 f1 r → f1 ≡ f
still_walks {m = m} {t = t} {f = f} still a = walks_keeps (λ g. g ≡ f) m t f refl (λ draws. none_kept (λ g. g ≡ f) _ (still.at (state_of t draws f))) a

-- a run that ended with a value
pub still_tells : {A : Type 0} {m : M A} {x : A} {t t1 : Told} {f f1 : Frame} → Still m → Tells m t f t1 f1 (Ok x) → f1 ≡ f
still_tells still a = still_walks still (walks_tells a)

-- the globals, wherever it ended
pub still_globals : {A : Type 0} {m : M A} {r : Result A Stop} {t t1 : Told} {f f1 : Frame} → Still m → Tells m t f t1 f1 r → f1.globals ≡ f.globals
still_globals still a = sym a.globals ∙ ap (λ (g : Frame). g.globals) (still_walks still a.walks)

none_before : (xs ys : List Frame) → xs ++ ys ≡ [] → xs ≡ []
none_before [] ys h = refl
none_before (x ∷ xs) ys h = cc

-- a part of the way
pub still_leads : {A : Type 0} {m n : M A} {t t1 : Told} {f f1 : Frame} → Still m → Leads m t f n t1 f1 → f1 ≡ f
still_leads {m = m} {n} {t} {t1} {f} {f1} still a =
    let all : (did_of (m (state_of t (a.draws ++ []) f))).frames ≡ a.did.frames ++ (did_of (n (state_of t1 [] f1))).frames = ap (λ o. (did_of o).frames) (a.gives []) ∙ ap (λ (d : Did). d.frames) (did_behind a.did (n (state_of t1 [] f1))) in
    a.stands ∙ ap (standing f) (none_before a.did.frames _ (sym all ∙ still.at (state_of t (a.draws ++ []) f)))

-- ---- expressions that call no action

module _ (types : List EventShape) (call : Calls) where
  values_still : (es : List TypedExpr) → are_calm es ≡ true → AllByRecursion Still (map (value_of types call) es)
  values_still [] h = tt
  values_still (e ∷ es) h = (calm_value types call e (both_left (is_calm e) (are_calm es) h), values_still es (both_right (is_calm e) (are_calm es) h))

  -- the values of expressions, from left to right
  pub calm_values : (es : List TypedExpr) → are_calm es ≡ true → Still (all_values types call es)
  calm_values es h = still_all _ (values_still es h)

  -- operators with operands that call no action
  pub calm_links : (links : List TypedLink) → list_all (λ l. is_calm (out-TypedLink l).operand) links ≡ true → AllByRecursion StillLink (map (link_of types call) links)
  calm_links [] h = tt
  calm_links (l ∷ ls) h =
      let rest = list_all (λ l. is_calm (out-TypedLink l).operand) ls in
      (record { operand = calm_value types call (out-TypedLink l).operand (both_left (is_calm (out-TypedLink l).operand) rest h) }, calm_links ls (both_right (is_calm (out-TypedLink l).operand) rest h))

  -- keys and values that call no action
  pub calm_entries : (entries : List TypedEntry) → list_all (λ e. is_calm (out-TypedEntry e).key && is_calm (out-TypedEntry e).value) entries ≡ true → AllByRecursion StillEntry (map (entry_of types call) entries)
  calm_entries [] h = tt
  calm_entries (e ∷ es) h =
      let rest = list_all (λ e. is_calm (out-TypedEntry e).key && is_calm (out-TypedEntry e).value) es in
      let key = is_calm (out-TypedEntry e).key in
      let value = is_calm (out-TypedEntry e).value in
      let both : (key && value) ≡ true = both_left (key && value) rest h in
      (record { key = calm_value types call (out-TypedEntry e).key (both_left key value both); value = calm_value types call (out-TypedEntry e).value (both_right key value both) }, calm_entries es (both_right (key && value) rest h))

  -- steps that call no action
  pub calm_steps : (us : List TypedSuffix) → list_all is_calm_step us ≡ true → AllByRecursion StillStep (map (reach_of types call) us)
  calm_steps [] h = tt
  calm_steps (u ∷ us) h = (calm_step types call u (both_left (is_calm_step u) (list_all is_calm_step us) h), calm_steps us (both_right (is_calm_step u) (list_all is_calm_step us) h))

  -- operators with their operands change no variable
  pub links_still : (links : List TypedLink) (v : Value) → list_all (λ l. is_calm (out-TypedLink l).operand) links ≡ true → Still (links_from (map (link_of types call) links) v)
  links_still links v h = still_links _ v (calm_links links h)

  -- nor do the entries of a dictionary
  pub entries_still : (pairs : List Pair) (entries : List TypedEntry) → list_all (λ e. is_calm (out-TypedEntry e).key && is_calm (out-TypedEntry e).value) entries ≡ true → Still (entries_behind pairs (map (entry_of types call) entries))
  entries_still pairs entries h = still_entries pairs _ (calm_entries entries h)

  -- nor do the steps behind a value
  pub steps_still : (us : List TypedSuffix) (v : Value) → list_all is_calm_step us ≡ true → Still (reach_from (map (reach_of types call) us) v)
  steps_still us v h = still_reach _ v (calm_steps us h)

  -- ---- what is done with it

  -- no variable is changed
  pub calm_stays : (e : TypedExpr) → is_calm e ≡ true → (s : State) → (did_of (value_of types call e s)).frames ≡ []
  calm_stays e h s = (calm_value types call e h).at s

  -- the same for the values of expressions
  pub calm_all_stay : (es : List TypedExpr) → are_calm es ≡ true → (s : State) → (did_of (all_values types call es s)).frames ≡ []
  calm_all_stay es h s = (calm_values es h).at s

  -- the same for a step, from any value
  pub calm_step_stays : (u : TypedSuffix) → is_calm_step u ≡ true → (v : Value) (s : State) → (did_of ((reach_of types call u).from v s)).frames ≡ []
  calm_step_stays u h v s = ((calm_step types call u h).from v).at s

  -- so the variables are those from before
  module _ (e : TypedExpr) (h : is_calm e ≡ true) {t t1 : Told} {f f1 : Frame} where
    -- whatever the call answers
    pub calm_walks : {r : Result Value Stop} → Walks (value_of types call e) t f t1 f1 r → f1 ≡ f
    calm_walks a = still_walks (calm_value types call e h) a

    -- where it ended with a value
    pub calm_tells : {v : Value} → Tells (value_of types call e) t f t1 f1 (Ok v) → f1 ≡ f
    calm_tells a = still_tells (calm_value types call e h) a

    -- the globals, wherever it ended
    pub calm_globals : {r : Result Value Stop} → Tells (value_of types call e) t f t1 f1 r → f1.globals ≡ f.globals
    calm_globals a = still_globals (calm_value types call e h) a

    -- a part of the way
    pub calm_leads : {n : M Value} → Leads (value_of types call e) t f n t1 f1 → f1 ≡ f
    calm_leads a = still_leads (calm_value types call e h) a

  module _ (es : List TypedExpr) (h : are_calm es ≡ true) {t t1 : Told} {f f1 : Frame} where
    -- the same for the values of expressions
    pub calm_all : {r : Result (List Value) Stop} → Walks (all_values types call es) t f t1 f1 r → f1 ≡ f
    calm_all a = still_walks (calm_values es h) a

    -- where they ended with values
    pub calm_all_tells : {vs : List Value} → Tells (all_values types call es) t f t1 f1 (Ok vs) → f1 ≡ f
    calm_all_tells a = still_tells (calm_values es h) a

    -- the globals, wherever they ended
    pub calm_all_globals : {r : Result (List Value) Stop} → Tells (all_values types call es) t f t1 f1 r → f1.globals ≡ f.globals
    calm_all_globals a = still_globals (calm_values es h) a

    -- a part of the way
    pub calm_all_leads : {n : M (List Value)} → Leads (all_values types call es) t f n t1 f1 → f1 ≡ f
    calm_all_leads a = still_leads (calm_values es h) a
