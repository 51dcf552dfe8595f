-- A body by its number, where the actions and the sites were read as slices.
use Rattle.std.proofs.Common.{◌≡◌, ℕ, ◌-◌, ◌<◌, ◌≤◌, List, length, get_or, Option, Some, None, Result, Ok, Err, refl, subst}
use Rattle.std.specs.Prelude.{slice_get}
use Rattle.std.proofs.lemmas.Option.{slice_get_past, slice_get_read}
use Rattle.epl_values.specs.declared.value.Value.{Value}
use Rattle.typed_program.specs.declared.program.Program.{Program}
use Rattle.typed_program.specs.declared.program.Action.{Action}
use Rattle.typed_program.specs.declared.program.Site.{Site}
use Rattle.action_host.specs.Told.{Told}
use Rattle.body_meaning.specs.declared.run.Frame.{Frame}
use Rattle.body_meaning.specs.Acts.{begun_by, calls, initials_from, run_of, runs}
use Rattle.walk_rules.specs.declared.stop.Stop.{Stop}
use Rattle.path_bases.specs.Tells.{Tells}
use Rattle.walk_laws.proofs.Beginning.{tells_action, tells_action_stop, tells_site, tells_no_body}

module _ (program : Program) (body : ℕ) (locals : List Value) (seen : List Action) (same : seen ≡ program.actions) where
  module _ (action : Action) (within : body < length seen) (at : action ≡ get_or seen body action) where
    inside : body < length program.actions
    inside = subst (λ l. body < length l) same within

    found : slice_get program.actions body ≡ Some action
    found = subst (λ l. slice_get l body ≡ Some action) same (slice_get_read seen (length seen) body action refl within at)

    -- where an initial value stops, the run does
    pub acts_stop : {stop : Stop} {t t1 : Told} {f f1 : Frame} → Tells (initials_from program 0 (begun_by program body program.monitors)) t f t1 f1 (Err stop) → Tells (run_of program body locals) t f t1 f1 (Err stop)
    acts_stop begun = tells_action_stop program body locals action inside found begun

    -- an action behind the initial values
    pub acts_go : {r : Result (Option Value) Stop} {t t1 t2 : Told} {f f1 f2 : Frame} → Tells (initials_from program 0 (begun_by program body program.monitors)) t f t1 f1 (Ok tt) → Tells (runs program (calls program) action.locals action.body locals) t1 f1 t2 f2 r → Tells (run_of program body locals) t f t2 f2 r
    acts_go begun a = tells_action program body locals action inside found begun a

  module _ (sites : List Site) (also : sites ≡ program.sites) (past : length seen ≤ body) where
    beyond : length program.actions ≤ body
    beyond = subst (λ l. length l ≤ body) same past

    -- what is read behind the actions
    behind_them : (o : Option Site) → slice_get sites (body - length seen) ≡ o → slice_get program.sites (body - length program.actions) ≡ o
    behind_them o is = subst (λ l. slice_get l (body - length program.actions) ≡ o) also (subst (λ l. slice_get sites (body - length l) ≡ o) same is)

    -- a callback
    pub acts_site : (site : Site) → body - length seen < length sites → site ≡ get_or sites (body - length seen) site → {r : Result (Option Value) Stop} {t t1 : Told} {f f1 : Frame} → Tells (runs program (calls program) site.locals site.body locals) t f t1 f1 r → Tells (run_of program body locals) t f t1 f1 r
    acts_site site within at a = tells_site program body locals site beyond (behind_them (Some site) (slice_get_read sites (length sites) (body - length seen) site refl within at)) a

    -- a body that isn't there
    pub acts_none : (t : Told) (f : Frame) → length sites ≤ body - length seen → Tells (run_of program body locals) t f t f (Ok None)
    acts_none t f none = tells_no_body program body locals t f beyond (behind_them None (slice_get_past sites (body - length seen) none))
