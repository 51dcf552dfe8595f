-- Members, monitors and files in which no fault is found: there are few monitors, few parameters, and few bodies.
use Rattle.std.proofs.Common.{◌≡◌, ◌+◌, ◌<◌, ◌≤◌, ◌∷◌, ◌++◌}
use Rattle.program_laws.proofs.Common.{ℕ, length, map, List, [], not, nat_le, refl, sym, subst, arith, AllByRecursion, length-append, leb-false, ActionDecl, Declaration, EventDecl, GlobalDecl, Member, MonitorDecl, Action, Fault, Gathered, Table, numbers, with_event, with_monitor, monitor_faults, declaration_faults, faults_from, gathered_after, units_faults, units_gathered, none_gathered, in_file, has_onload, has_name, Made, action_of, action_read, body_around, body_start, global_read, members_read, monitor_of, declarations_read, file_made, files_faults, files_made, nothing_made, row_read}
use Rattle.epl_tree.specs.declared.unit.Declaration.TheVariants as declaration
use Rattle.epl_tree.specs.declared.unit.Member.TheVariants as member
use Rattle.epl_tree.specs.declared.unit.Unit.{Unit as File}
use Rattle.type_table.specs.declared.fault.CheckFault.TheVariants as check
use Rattle.type_table.specs.Gathers.{when}
use Rattle.type_table.specs.Heads.{monitor_head}
use Rattle.stmt_check.specs.Members.{monitor_read, with_monitor as made_monitor}
use Rattle.stmt_check.specs.Programs.{in_file as faults_in}
use Rattle.stmt_check.specs.Statements.{part_of}
use Rattle.stmt_check.specs.Steps.{◌>>=◌, pure, changes}
use Rattle.program_laws.proofs.Limits.Statements.{body_keeps}
use Rattle.program_laws.proofs.Shapes.Lists.{all_append, no_both, no_told, no_when, no_map}
use Rattle.program_laws.proofs.Shapes.Members.{ActionMade, GlobalMade, action_made, global_made}
use Rattle.program_laws.proofs.Shapes.MonitorHeads.{action_few}

-- an action with few parameters
abbrev pub FewParams : Action → Type 0
FewParams a = length a.params ≤ 64

-- what is made where there are so many monitors: few bodies, and few parameters in each
record Few (n : ℕ) (made : Made) : Type 0 where
  monitors : length made.monitors ≡ n
  bodies : length made.actions + length made.sites ≤ 65535
  params : AllByRecursion FewParams made.actions

-- ---- members

module _ (table : Table) (members : List Member) where
  few_action : (n : ℕ) (before : List Member) (a : ActionDecl) (old new : Made) → Few n old → ActionMade table table.types refl members before a old new → Few n new
  few_action n before a old new few made =
      let limit = (action_few table before a old made.codes).all in
      let after = (row_read (body_around table made.result old) (map part_of a.body) (body_start table before made.params old)).part in
      let action : Action = action_of old made.params made.result after in
      let room = (body_keeps (body_around table made.result old) a.body).keeps (body_start table before made.params old) made.body (omega arith) in
      let long = length-append old.actions (action ∷ []) in
      let here : Few n (record old { actions = old.actions ++ action ∷ []; sites = after.state.sites }) = record {
        monitors = few.monitors;
        bodies = omega (arith, room, long);
        params = all_append FewParams old.actions (action ∷ []) few.params (made.few, tt);
      } in
      subst (Few n) (sym made.is) here

  few_global : (n : ℕ) (before : List Member) (g : GlobalDecl) (old new : Made) → Few n old → GlobalMade table table.types refl members before g old new → Few n new
  few_global n before g old new few made = subst (Few n) (sym made.is) (record { monitors = few.monitors; bodies = few.bodies; params = few.params })

  few_members : (n : ℕ) (before rest : List Member) (old : Made) → Few n old → (members_read table members before rest old).faults ≡ [] → Few n (members_read table members before rest old).part.state
  unfolding ◌>>=◌ pure
  few_members n before [] old few none = few
  few_members n before (member.Global g ∷ rest) old few none =
      let mid : Made = (global_read table before g old).part.state in
      let split = no_both (global_read table before g old).faults (members_read table members (before ++ member.Global g ∷ []) rest mid).faults none in
      few_members n (before ++ member.Global g ∷ []) rest mid (few_global n before g old mid few (global_made table table.types refl members before g old split.0)) split.1
  few_members n before (member.Action a ∷ rest) old few none =
      let mid : Made = (action_read table members before a old).part.state in
      let split = no_both (action_read table members before a old).faults (members_read table members (before ++ member.Action a ∷ []) rest mid).faults none in
      few_members n (before ++ member.Action a ∷ []) rest mid (few_action n before a old mid few (action_made table table.types refl members before a old split.0)) split.1

-- ---- monitors

-- what is made of declarations: as many monitors as are gathered, few of them, few bodies, and few parameters in each
record AllFew (g : Gathered) (made : Made) : Type 0 where
  few : Few (length g.monitors) made
  limit : length g.monitors ≤ 1000

module _ (table : Table) (kinds : List EventDecl) where
  monitor_limit : (g : Gathered) (m : MonitorDecl) → monitor_faults kinds g m ≡ [] → length g.monitors < 1000
  monitor_limit g m none =
      let codes = no_told m.name.spot (when (has_name g.names m.name.text) 1 ++ when (nat_le 1000 (length g.monitors)) 4 ++ when (not (has_onload m.members)) 5) none in
      let one = no_both (when (has_name g.names m.name.text) 1 ++ when (nat_le 1000 (length g.monitors)) 4) (when (not (has_onload m.members)) 5) codes in
      let two = no_both (when (has_name g.names m.name.text) 1) (when (nat_le 1000 (length g.monitors)) 4) one.0 in
      leb-false 1000 (length g.monitors) (no_when (nat_le 1000 (length g.monitors)) 4 two.1)

  abbrev behind : MonitorDecl → Made → Made
  behind m made = made_monitor table m.name.text (members_read table m.members [] m.members made).part.state

  few_monitor : (file : ℕ) (g : Gathered) (made : Made) (m : MonitorDecl) → AllFew g made → monitor_faults kinds g m ≡ [] → (monitor_read table m made).faults ≡ [] → AllFew (with_monitor (numbers kinds) file g m) (behind m made)
  unfolding ◌>>=◌ changes
  few_monitor file g made m few none_head none =
      let limit = monitor_limit g m none_head in
      let mid : Made = (members_read table m.members [] m.members made).part.state in
      let inner = few_members table m.members (length g.monitors) [] m.members made few.few (no_both (members_read table m.members [] m.members made).faults [] none).0 in
      let same = inner.monitors in
      let long_g = length-append g.monitors (monitor_head (numbers kinds) file g.actions m ∷ []) in
      let long = length-append mid.monitors (monitor_of table m.name.text mid ∷ []) in
      record {
        few = record { monitors = omega (arith, same, long_g, long); bodies = inner.bodies; params = inner.params };
        limit = omega (arith, long_g);
      }

  -- ---- declarations and files in order

  few_event : (g : Gathered) (made : Made) (name : List ℕ) → AllFew g made → AllFew (with_event g name) made
  few_event g made name few = record { few = few.few; limit = few.limit }

  few_declarations : (file : ℕ) (g : Gathered) (made : Made) (ds : List Declaration) → AllFew g made → faults_from kinds file g ds ≡ [] → (declarations_read table ds made).faults ≡ [] → AllFew (gathered_after kinds file g ds) (declarations_read table ds made).part.state
  unfolding ◌>>=◌ changes pure
  few_declarations file g made [] few heads none = few
  few_declarations file g made (declaration.Event e ∷ ds) few heads none =
      let split = no_both (declaration_faults kinds g (declaration.Event e)) (faults_from kinds file (with_event g e.name.text) ds) heads in
      few_declarations file (with_event g e.name.text) made ds (few_event g made e.name.text few) split.1 none
  few_declarations file g made (declaration.Monitor m ∷ ds) few heads none =
      let split = no_both (monitor_faults kinds g m) (faults_from kinds file (with_monitor (numbers kinds) file g m) ds) heads in
      let parts = no_both (monitor_read table m made).faults (declarations_read table ds (behind m made)).faults none in
      few_declarations file (with_monitor (numbers kinds) file g m) (behind m made) ds (few_monitor file g made m few split.0 parts.0) split.1 parts.1

  few_files : (file : ℕ) (g : Gathered) (made : Made) (units : List File) → AllFew g made → units_faults kinds file g units ≡ [] → files_faults table file made units ≡ [] → AllFew (units_gathered kinds file g units) (files_made table made units)
  few_files file g made [] few heads none = few
  few_files file g made (u ∷ units) few heads none =
      let split = no_both (map (in_file file) (faults_from kinds file g u.declarations)) (units_faults kinds (file + 1) (gathered_after kinds file g u.declarations) units) heads in
      let parts = no_both (faults_in file (declarations_read table u.declarations made).faults) (files_faults table (file + 1) (file_made table u made) units) none in
      let one = few_declarations file g made u.declarations few (no_map (in_file file) (faults_from kinds file g u.declarations) split.0) (no_map (λ (f : Fault). check.Typing f.code file f.spot) (declarations_read table u.declarations made).faults parts.0) in
      few_files (file + 1) (gathered_after kinds file g u.declarations) (file_made table u made) units one split.1 parts.1

  -- what is made of files keeps the limits of monitors, parameters and bodies
  pub record FilesFew (made : Made) : Type 0 where
    pub monitors : length made.monitors ≤ 1000
    pub params : AllByRecursion FewParams made.actions
    pub bodies : length made.actions + length made.sites ≤ 65535

  -- where no fault is found in them
  pub files_few : (units : List File) → units_faults kinds 0 none_gathered units ≡ [] → files_faults table 0 (nothing_made table) units ≡ [] → FilesFew (files_made table (nothing_made table) units)
  files_few units heads none =
      let all = few_files 0 none_gathered (nothing_made table) units (record { few = record { monitors = refl; bodies = omega arith; params = tt }; limit = omega arith }) heads none in
      let same = all.few.monitors in
      let limit = all.limit in
      record { monitors = omega arith; params = all.few.params; bodies = all.few.bodies }
