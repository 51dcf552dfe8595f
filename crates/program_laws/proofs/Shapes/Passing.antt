-- Declarations and files in order, and what holds of all that is made of them: what is gathered and what is made keep pace, and each monitor stands in the finished program.
use Rattle.std.proofs.Common.{◌≡◌, ◌+◌, ◌<◌, ◌≤◌, ◌∷◌, ◌++◌}
use Rattle.program_laws.proofs.Common.{ℕ, length, map, List, [], Some, true, not, nat_le, Option, refl, ap, sym, subst, ◌∙◌, slice_get, arith, not-false, leb-false, length-append, Declaration, EventDecl, MonitorDecl, Action, Monitor, Program, Fault, Gathered, MonitorHead, Table, numbers, with_event, with_monitor, monitor_faults, declaration_faults, faults_from, gathered_after, units_faults, units_gathered, none_gathered, in_file, actions_from, has_onload, has_name, event_of, Made, members_read, monitor_of, declarations_read, file_made, files_faults, files_made, nothing_made}
use Rattle.epl_tree.specs.declared.unit.Declaration.TheVariants as declaration
use Rattle.epl_tree.specs.declared.unit.Unit.{Unit as File}
use Rattle.type_table.specs.declared.fault.CheckFault.TheVariants as check
use Rattle.type_table.specs.Gathers.{when}
use Rattle.type_table.specs.Heads.{monitor_head}
use Rattle.stmt_check.specs.Members.{monitor_read, with_monitor as made_monitor}
use Rattle.stmt_check.specs.Programs.{in_file as faults_in}
use Rattle.stmt_check.specs.Steps.{◌>>=◌, pure, changes}
use Rattle.program_laws.proofs.Shapes.Lists.{Extends, extends_same, extends_on, extends_front, no_both, no_told, no_when, get_behind, no_map}
use Rattle.program_laws.proofs.Shapes.MonitorHeads.{MembersMade, members_made}
use Rattle.program_laws.proofs.Shapes.Monitors.{Standing}

-- what is gathered and what is made are of as many monitors and actions
pub record Pace (gathered : Gathered) (made : Made) : Type 0 where
  pub monitors : length gathered.monitors ≡ length made.monitors
  pub actions : gathered.actions ≡ length made.actions
  pub few : length made.actions ≤ 65535
  pub globals : length made.globals ≡ 0

-- declarations that were read, where Held says what holds of what is made
record Passed (program : Program) (table : Table) (Held : Made → Made → Type 0) (g : Gathered) (made : Made) (g' : Gathered) (made' : Made) : Type 0 where
  pace : Pace g' made'
  monitors : Extends made.monitors made'.monitors
  actions : Extends made.actions made'.actions
  heads : Extends g.monitors g'.monitors
  holds : Extends made'.monitors program.monitors → Extends made'.actions program.actions → Extends g'.monitors table.monitors → Held made made'

-- what a monitor's members make, and the monitor behind them
abbrev pub mid_of : Table → MonitorDecl → Made → Made
mid_of table m made = (members_read table m.members [] m.members made).part.state

abbrev pub behind : Table → MonitorDecl → Made → Made
behind table m made = made_monitor table m.name.text (mid_of table m made)

-- what the codes of a monitor say
record MonitorFew (g : Gathered) (m : MonitorDecl) : Type 0 where
  limit : length g.monitors < 1000
  onload : has_onload m.members ≡ true

monitor_few : (kinds : List EventDecl) (g : Gathered) (m : MonitorDecl) → monitor_faults kinds g m ≡ [] → MonitorFew g m
monitor_few kinds g m none =
    let codes = no_told m.name.spot (when (has_name g.names m.name.text) 1 ++ when (nat_le 1000 (length g.monitors)) 4 ++ when (not (has_onload m.members)) 5) none in
    let one = no_both (when (has_name g.names m.name.text) 1 ++ when (nat_le 1000 (length g.monitors)) 4) (when (not (has_onload m.members)) 5) codes in
    let two = no_both (when (has_name g.names m.name.text) 1) (when (nat_le 1000 (length g.monitors)) 4) one.0 in
    record { limit = leb-false 1000 (length g.monitors) (no_when (nat_le 1000 (length g.monitors)) 4 two.1); onload = not-false (has_onload m.members) (no_when (not (has_onload m.members)) 5 one.1) }

-- what holds of nothing, of one behind another, and of a monitor that stands in the finished program
pub record Holding (program : Program) (table : Table) (types : table.types ≡ program.types) (Held : Made → Made → Type 0) : Type 0 where
  pub same : (made : Made) → Held made made
  pub both : (a b c : Made) → Extends b.monitors c.monitors → Extends b.actions c.actions → Held a b → Held b c → Held a c
  pub monitor : (m : MonitorDecl) (made : Made) → (members_read table m.members [] m.members made).faults ≡ [] → MembersMade table program.types types m.members m.members made (mid_of table m made) → Standing program table m made (mid_of table m made) → Held made (behind table m made)

module _ (program : Program) (table : Table) (types : table.types ≡ program.types) (kinds : List EventDecl) (same : numbers kinds ≡ event_of table) (Held : Made → Made → Type 0) (held : Holding program table types Held) where
  passed_same : (g : Gathered) (made : Made) → Pace g made → Passed program table Held g made g made
  passed_same g made pace = record { pace = pace; monitors = extends_same made.monitors; actions = extends_same made.actions; heads = extends_same g.monitors; holds = λ a b c. held.same made }

  passed_both : (g : Gathered) (a : Made) (g' : Gathered) (b : Made) (g'' : Gathered) (c : Made) → Passed program table Held g a g' b → Passed program table Held g' b g'' c → Passed program table Held g a g'' c
  passed_both g a g' b g'' c one two = record {
    pace = two.pace;
    monitors = extends_on one.monitors two.monitors;
    actions = extends_on one.actions two.actions;
    heads = extends_on one.heads two.heads;
    holds = λ monitors actions heads. held.both a b c two.monitors two.actions (one.holds (extends_on two.monitors monitors) (extends_on two.actions actions) (extends_on two.heads heads)) (two.holds monitors actions heads);
  }

  -- ---- one monitor

  -- the monitor in the finished program
  monitor_stands : (file : ℕ) (g : Gathered) (made : Made) (m : MonitorDecl) → Pace g made → MonitorFew g m → (mid_of table m made).monitors ≡ made.monitors
      → Extends ((mid_of table m made).monitors ++ monitor_of table m.name.text (mid_of table m made) ∷ []) program.monitors → Extends (mid_of table m made).actions program.actions → Extends (g.monitors ++ monitor_head (numbers kinds) file g.actions m ∷ []) table.monitors
      → Standing program table m made (mid_of table m made)
  monitor_stands file g made m pace limits same_monitors monitors actions heads =
      let mid = mid_of table m made in
      let pace_monitors = pace.monitors in
      let pace_actions = pace.actions in
      let limit = limits.limit in
      let k : ℕ = length made.monitors in
      let at_table : slice_get table.monitors k ≡ Some (monitor_head (event_of table) file (length made.actions) m) =
      heads.at k _ (let z : k ≡ length g.monitors + 0 = omega arith in ap (slice_get (g.monitors ++ monitor_head (numbers kinds) file g.actions m ∷ [])) z ∙ get_behind g.monitors (monitor_head (numbers kinds) file g.actions m ∷ []) 0)
      ∙ ap (λ (n : List ℕ → Option ℕ). Some (monitor_head n file g.actions m)) same
      ∙ ap (λ (n : ℕ). Some (monitor_head (event_of table) file n m)) pace.actions in
      let in_mid : slice_get (mid.monitors ++ monitor_of table m.name.text mid ∷ []) k ≡ Some (monitor_of table m.name.text mid) =
      (let z : k ≡ length mid.monitors + 0 = (let e = ap length same_monitors in omega (arith, e)) in ap (slice_get (mid.monitors ++ monitor_of table m.name.text mid ∷ [])) z ∙ get_behind mid.monitors (monitor_of table m.name.text mid ∷ []) 0) in
      let at_program : slice_get program.monitors k ≡ Some (monitor_of table m.name.text mid) = monitors.at k _ in_mid in
      record { file = file; in_table = at_table; in_program = at_program; none = pace.globals; few = (let e = pace.monitors in omega arith); actions = actions; monitors = same_monitors; onload = limits.onload }

  passed_monitor : (file : ℕ) (g : Gathered) (made : Made) (m : MonitorDecl) → Pace g made → monitor_faults kinds g m ≡ [] → (monitor_read table m made).faults ≡ [] → Passed program table Held g made (with_monitor (numbers kinds) file g m) (behind table m made)
  unfolding ◌>>=◌ changes
  passed_monitor file g made m pace none_head none =
      let limits = monitor_few kinds g m none_head in
      let mid = mid_of table m made in
      let none_members = (no_both (members_read table m.members [] m.members made).faults [] none).0 in
      let zero_globals = pace.globals in
      let members = members_made table program.types types m.members [] m.members made (let z : 0 ≡ length made.globals = omega arith in z) none_members in
      let pace_monitors = pace.monitors in
      let pace_actions = pace.actions in
      let limit = limits.limit in
      let new_monitors : Extends made.monitors (mid.monitors ++ monitor_of table m.name.text mid ∷ []) = subst (λ (xs : List Monitor). Extends made.monitors (xs ++ monitor_of table m.name.text mid ∷ [])) (sym members.monitors) (extends_front made.monitors (monitor_of table m.name.text mid ∷ [])) in
      let long_mid : length (mid.monitors ++ monitor_of table m.name.text mid ∷ []) ≡ length made.monitors + 1 = length-append mid.monitors (monitor_of table m.name.text mid ∷ []) ∙ ap (λ (xs : List Monitor). length xs + 1) members.monitors in
      let long_g : length (g.monitors ++ monitor_head (numbers kinds) file g.actions m ∷ []) ≡ length g.monitors + 1 = length-append g.monitors (monitor_head (numbers kinds) file g.actions m ∷ []) in
      let many : length mid.actions ≡ length made.actions + length (actions_from (event_of table) g.actions m.members) = members.many g.actions in
      let counted : length (actions_from (numbers kinds) g.actions m.members) ≡ length (actions_from (event_of table) g.actions m.members) = ap (λ (n : List ℕ → Option ℕ). length (actions_from n g.actions m.members)) same in
      let few_mid = members.few pace.few in
      record {
        pace = record { monitors = omega (arith, long_mid, long_g, pace_monitors); actions = omega (arith, many, counted, few_mid, pace_actions); few = few_mid; globals = refl };
        monitors = new_monitors;
        actions = members.actions;
        heads = extends_front g.monitors (monitor_head (numbers kinds) file g.actions m ∷ []);
        holds = λ monitors actions heads. held.monitor m made none_members members (monitor_stands file g made m pace limits members.monitors monitors actions heads);
      }

  -- ---- declarations and files in order

  passed_event : (g : Gathered) (made : Made) (name : List ℕ) → Pace g made → Passed program table Held g made (with_event g name) made
  passed_event g made name pace =
      let p = passed_same g made pace in
      record { pace = record { monitors = pace.monitors; actions = pace.actions; few = pace.few; globals = pace.globals }; monitors = p.monitors; actions = p.actions; heads = extends_same g.monitors; holds = p.holds }

  passed_declarations : (file : ℕ) (g : Gathered) (made : Made) (ds : List Declaration) → Pace g made → faults_from kinds file g ds ≡ [] → (declarations_read table ds made).faults ≡ [] → Passed program table Held g made (gathered_after kinds file g ds) (declarations_read table ds made).part.state
  unfolding ◌>>=◌ changes pure
  passed_declarations file g made [] pace heads none = passed_same g made pace
  passed_declarations file g made (declaration.Event e ∷ ds) pace heads none =
      let one = passed_event g made e.name.text pace in
      let split = no_both (declaration_faults kinds g (declaration.Event e)) (faults_from kinds file (with_event g e.name.text) ds) heads in
      passed_both g made (with_event g e.name.text) made _ _ one (passed_declarations file (with_event g e.name.text) made ds one.pace split.1 none)
  passed_declarations file g made (declaration.Monitor m ∷ ds) pace heads none =
      let split = no_both (monitor_faults kinds g m) (faults_from kinds file (with_monitor (numbers kinds) file g m) ds) heads in
      let parts = no_both (monitor_read table m made).faults (declarations_read table ds (behind table m made)).faults none in
      let one = passed_monitor file g made m pace split.0 parts.0 in
      passed_both g made (with_monitor (numbers kinds) file g m) (behind table m made) _ _ one (passed_declarations file (with_monitor (numbers kinds) file g m) (behind table m made) ds one.pace split.1 parts.1)

  passed_files : (file : ℕ) (g : Gathered) (made : Made) (units : List File) → Pace g made → units_faults kinds file g units ≡ [] → files_faults table file made units ≡ [] → Passed program table Held g made (units_gathered kinds file g units) (files_made table made units)
  passed_files file g made [] pace heads none = passed_same g made pace
  passed_files file g made (u ∷ units) pace heads none =
      let split = no_both (map (in_file file) (faults_from kinds file g u.declarations)) (units_faults kinds (file + 1) (gathered_after kinds file g u.declarations) units) heads in
      let parts = no_both (faults_in file (declarations_read table u.declarations made).faults) (files_faults table (file + 1) (file_made table u made) units) none in
      let one = passed_declarations file g made u.declarations pace (no_map (in_file file) (faults_from kinds file g u.declarations) split.0) (no_map (λ (f : Fault). check.Typing f.code file f.spot) (declarations_read table u.declarations made).faults parts.0) in
      passed_both g made (gathered_after kinds file g u.declarations) (file_made table u made) _ _ one (passed_files (file + 1) (gathered_after kinds file g u.declarations) (file_made table u made) units one.pace split.1 parts.1)

  -- it holds of all that is made of files, in the program that it is
  pub files_held : (units : List File) → units_faults kinds 0 none_gathered units ≡ [] → files_faults table 0 (nothing_made table) units ≡ [] → table.monitors ≡ (units_gathered kinds 0 none_gathered units).monitors → program.monitors ≡ (files_made table (nothing_made table) units).monitors → program.actions ≡ (files_made table (nothing_made table) units).actions → Held (nothing_made table) (files_made table (nothing_made table) units)
  files_held units heads none tables monitors actions =
      let p = passed_files 0 none_gathered (nothing_made table) units (record { monitors = refl; actions = refl; few = omega arith; globals = refl }) heads none in
      p.holds (subst (λ (xs : List Monitor). Extends (files_made table (nothing_made table) units).monitors xs) (sym monitors) (extends_same (files_made table (nothing_made table) units).monitors)) (subst (λ (xs : List Action). Extends (files_made table (nothing_made table) units).actions xs) (sym actions) (extends_same (files_made table (nothing_made table) units).actions)) (subst (λ (xs : List MonitorHead). Extends (units_gathered kinds 0 none_gathered units).monitors xs) (sym tables) (extends_same (units_gathered kinds 0 none_gathered units).monitors))
