-- Initial values of globals, in the loop over them.
use Rattle.std.proofs.Common.{◌≡◌, ℕ, ◌+◌, ◌<◌, ◌≤◌, List, [], length, drop, get_or, Some, None, Result, Ok, Err, sym, subst}
use Rattle.std.specs.Prelude.{slice_set}
use Rattle.epl_values.specs.declared.value.Value.{Value}
use Rattle.typed_program.specs.declared.expression.TypedExpr.{TypedExpr}
use Rattle.typed_program.specs.declared.program.Program.{Program}
use Rattle.typed_program.specs.declared.program.Global.{Global}
use Rattle.action_host.specs.Told.{Told}
use Rattle.body_meaning.specs.Acts.{initials_from, calls}
use Rattle.body_meaning.specs.Runs.{M}
use Rattle.body_meaning.specs.Expressions.{value_of}
use Rattle.walk_rules.specs.declared.stop.Stop.{Stop}
use Rattle.walk_rules.specs.Ran.{Leads}
use Rattle.path_bases.specs.declared.locals.Got.{Got}
use Rattle.path_bases.specs.Locals.{frame_of}
use Rattle.path_bases.specs.Tells.{Tells}
use Rattle.walk_laws.proofs.Lending.{frame_set_global}
use Rattle.walk_laws.proofs.Telling.{tells_walks}
use Rattle.walk_laws.proofs.Beginning.{initials_without, initials_step, initials_stop, initials_end}
use Rattle.call_walker.proofs.Statements.{frame_by}

-- a run without locals
bare : {A : Type 0} {m : M A} {r : Result A Stop} {t t1 : Told} (globals globals' : List Value) (gots : List Got) → gots ≡ [] → Tells m t (frame_of globals gots) t1 (frame_of globals' gots) r → Tells m t (frame_by globals []) t1 (frame_by globals' []) r
bare {m = m} {r} {t} {t1} globals globals' gots none a = subst (λ l. Tells m t (frame_of globals l) t1 (frame_of globals' l) r) none a

module _ (program : Program) (globals seen : List Global) (same : seen ≡ globals) (i : ℕ) where
  module _ (g : Global) (within : i < length seen) (at : g ≡ get_or seen i g) {t t1 : Told} (first now : List Value) (leads : Leads (initials_from program 0 globals) t (frame_by first []) (initials_from program i (drop i globals)) t1 (frame_by now [])) where
    here : i < length globals
    here = subst (λ l. i < length l) same within

    there : g ≡ get_or globals i g
    there = subst (λ l. g ≡ get_or l i g) same at

    -- a global without an initial value
    pub initials_pass : g.initial ≡ None → (later : List Value) → later ≡ now → {t2 : Told} → t2 ≡ t1 → Leads (initials_from program 0 globals) t (frame_by first []) (initials_from program (i + 1) (drop (i + 1) globals)) t2 (frame_by later [])
    initials_pass none later is {t2} still = rw is (rw still (initials_without program globals i g here there leads (sym none)))

    module _ (e : TypedExpr) (some : g.initial ≡ Some e) (gots : List Got) (bare_of : gots ≡ []) (middle : List Value) where
      -- a global with one
      pub initials_more : (v : Value) {t2 : Told} → Tells (value_of program.types (calls program) e) t1 (frame_of now gots) t2 (frame_of middle gots) (Ok v) → (stored later : List Value) → stored ≡ slice_set middle i v → later ≡ stored → {t3 : Told} → t3 ≡ t2 → Leads (initials_from program 0 globals) t (frame_by first []) (initials_from program (i + 1) (drop (i + 1) globals)) t3 (frame_by later [])
      initials_more v a stored later set is {t3} still = rw is (rw still (initials_step program globals i g here there leads e (sym some) (bare now middle gots bare_of a) (frame_set_global middle stored [] i v set)))

      -- one whose initial value stops
      pub initials_break : {stop : Stop} {t2 : Told} → Tells (value_of program.types (calls program) e) t1 (frame_of now gots) t2 (frame_of middle gots) (Err stop) → Tells (initials_from program 0 globals) t (frame_by first []) t2 (frame_by middle []) (Err stop)
      initials_break a = initials_stop program globals i g here there leads e (sym some) (bare now middle gots bare_of a)

  -- behind the last global
  pub initials_all : {t t1 : Told} (first now : List Value) → length seen ≤ i → Leads (initials_from program 0 globals) t (frame_by first []) (initials_from program i (drop i globals)) t1 (frame_by now []) → Tells (initials_from program 0 globals) t (frame_by first []) t1 (frame_by now []) (Ok tt)
  initials_all first now past leads = tells_walks (initials_end program globals i (subst (λ l. length l ≤ i) same past) leads)
