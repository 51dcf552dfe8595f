-- Monitors and files in order: each monitor of the program is its declaration with names resolved.
use Rattle.std.proofs.Common.{◌≡◌, ℕ, suc, ◌+◌, ◌<◌, ◌≤◌, nat_le, Bool, true, false, not, List, [], ◌∷◌, ◌++◌, map, length, Option, Some, None, refl, sym, ap, subst, ◌∙◌, slice_get, position, arith, append_assoc, codes}
use Rattle.std.specs.Option.{option_map}
use Rattle.std.specs.Str.{bytes_eq}
use Rattle.std.proofs.lemmas.Bool.{leb-false}
use Rattle.std.proofs.lemmas.List.{length-append}
use Rattle.epl_values.specs.declared.shape.EventShape.{EventShape}
use Rattle.epl_tree.specs.declared.unit.Declaration.{Declaration}
use Rattle.epl_tree.specs.declared.unit.Declaration.TheVariants as declaration
use Rattle.epl_tree.specs.declared.unit.EventDecl.{EventDecl}
use Rattle.epl_tree.specs.declared.unit.Member.{Member}
use Rattle.epl_tree.specs.declared.unit.Member.TheVariants as member
use Rattle.epl_tree.specs.declared.unit.MonitorDecl.{MonitorDecl}
use Rattle.epl_tree.specs.declared.unit.Unit.{Unit as File}
use Rattle.typed_program.specs.declared.program.Action.{Action}
use Rattle.typed_program.specs.declared.program.Global.{Global}
use Rattle.typed_program.specs.declared.program.Monitor.{Monitor}
use Rattle.typed_program.specs.declared.program.Program.{Program}
use Rattle.typed_program.specs.declared.program.Site.{Site}
use Rattle.type_table.specs.declared.fault.CheckFault.TheVariants as check
use Rattle.type_table.specs.declared.fault.Fault.{Fault}
use Rattle.type_table.specs.declared.gathered.Gathered.{Gathered}
use Rattle.type_table.specs.declared.table.ActionHead.{ActionHead}
use Rattle.type_table.specs.declared.table.MonitorHead.{MonitorHead}
use Rattle.type_table.specs.declared.table.Table.{Table}
use Rattle.type_table.specs.Gathers.{numbers, with_event, with_monitor, monitor_faults, declaration_faults, faults_from, gathered_after, units_faults, units_gathered, none_gathered, in_file, event_shape, IsTable}
use Rattle.type_table.specs.Gathers.{when as cause}
use Rattle.type_table.specs.Heads.{monitor_head, actions_from, has_onload}
use Rattle.type_table.specs.Heads.{globals_in as heads_in}
use Rattle.type_table.specs.Kinds.{kinds_of, names_of as kind_names}
use Rattle.type_table.specs.Names.{has_name, number_in}
use Rattle.type_table.specs.Table.{event_of}
use Rattle.expr_rules.specs.Names.{item_at}
use Rattle.stmt_check.specs.declared.made.Made.{Made}
use Rattle.stmt_check.specs.Bodies.{short, action_named}
use Rattle.stmt_check.specs.Members.{members_read, monitor_of, monitor_read, action_number}
use Rattle.stmt_check.specs.Members.{with_monitor as made_monitor, number_of as number_made, or_zero as zero_made}
use Rattle.stmt_check.specs.Programs.{declarations_read, file_made, files_faults, files_made, nothing_made, IsProgram}
use Rattle.stmt_check.specs.Programs.{in_file as faults_in}
use Rattle.stmt_check.specs.Steps.{◌>>=◌, pure, changes}
use Rattle.name_resolution.specs.Names.{held}
use Rattle.name_resolution.specs.Units.{declarations_in, monitors_in, globals_in, actions_in, names_of, number_of, or_zero, GlobalsAre, MonitorIs, MonitorsAre}
use Rattle.name_resolution.specs.Units as rule
use Rattle.name_resolution.proofs.Sure.{no_both, no_told}
use Rattle.name_resolution.proofs.Through.{append_none}
use Rattle.name_resolution.proofs.Claims.{Extends, extends_same, extends_on}
use Rattle.name_resolution.proofs.Heads.{Heads, action_is, action_none}
use Rattle.name_resolution.proofs.MembersRead.{Head, Went, went, last_at, extends_push, spawned_at}

pub no_map : {A B : Type 0} (f : A → B) (xs : List A) → map f xs ≡ [] → xs ≡ []
no_map f [] h = refl
no_map f (x ∷ xs) h = cc

pub no_cause : (b : Bool) (code : ℕ) → cause b code ≡ [] → b ≡ false
no_cause true code h = cc
no_cause false code h = refl

none_left : {A : Type 0} (xs : List A) → length xs ≡ 0 → xs ≡ []
none_left [] h = refl
none_left (x ∷ xs) h = absurd (omega arith)

-- what is gathered and what is made are of as many monitors and actions
record Pace (g : Gathered) (made : Made) : Type 0 where
  monitors : length g.monitors ≡ length made.monitors
  actions : g.actions ≡ length made.actions
  few : length made.actions ≤ 65535
  globals : length made.globals ≡ 0

monitors_both : (xs ys : List Declaration) → monitors_in (xs ++ ys) ≡ monitors_in xs ++ monitors_in ys
monitors_both [] ys = refl
monitors_both (declaration.Event e ∷ xs) ys = monitors_both xs ys
monitors_both (declaration.Monitor m ∷ xs) ys = ap (λ (l : List MonitorDecl). m ∷ l) (monitors_both xs ys)

actions_many : (number_of : List ℕ → Option ℕ) (n : ℕ) (ms : List Member) → length (actions_from number_of n ms) ≡ length (actions_in ms)
actions_many number_of n [] = refl
actions_many number_of n (member.Global g ∷ ms) = actions_many number_of n ms
actions_many number_of n (member.Action a ∷ ms) = ap suc (actions_many number_of (n + 1) ms)

module _ (program : Program) (table : Table) (same : table.types ≡ program.types) (kinds : List EventDecl) (numbered : numbers kinds ≡ event_of table) where
  -- declarations that were read
  record Passed (ms : List MonitorDecl) (g : Gathered) (made : Made) (g' : Gathered) (made' : Made) : Type 0 where
    pace : Pace g' made'
    monitors : Extends made.monitors made'.monitors
    actions : Extends made.actions made'.actions
    heads : Extends g.monitors g'.monitors
    many : length made'.monitors ≡ length made.monitors + length ms
    sites : Extends g'.monitors table.monitors → Extends made.sites made'.sites
    holds : Extends made'.monitors program.monitors → Extends made'.actions program.actions → Extends made'.sites program.sites → Extends g'.monitors table.monitors → (rest : List MonitorDecl) → MonitorsAre program (length made'.monitors) (length made'.actions) rest → MonitorsAre program (length made.monitors) (length made.actions) (ms ++ rest)

  passed_same : (g : Gathered) (made : Made) → Pace g made → Passed [] g made g made
  passed_same g made pace = record { pace = pace; monitors = extends_same made.monitors; actions = extends_same made.actions; heads = extends_same g.monitors; many = omega arith; sites = λ h. extends_same made.sites; holds = λ m a s h rest r. r }

  passed_both : (xs ys : List MonitorDecl) (g : Gathered) (a : Made) (g' : Gathered) (b : Made) (g'' : Gathered) (c : Made) → Passed xs g a g' b → Passed ys g' b g'' c → Passed (xs ++ ys) g a g'' c
  passed_both xs ys g a g' b g'' c one two = record {
    pace = two.pace;
    monitors = extends_on one.monitors two.monitors;
    actions = extends_on one.actions two.actions;
    heads = extends_on one.heads two.heads;
    many = (let p = one.many in let q = two.many in let e = length-append xs ys in omega arith);
    sites = λ h. extends_on (one.sites (extends_on two.heads h)) (two.sites h);
    holds = λ m t s h rest r. subst (λ (l : List MonitorDecl). MonitorsAre program (length a.monitors) (length a.actions) l) (sym (append_assoc xs ys rest)) (one.holds (extends_on two.monitors m) (extends_on two.actions t) (extends_on (two.sites h) s) (extends_on two.heads h) (ys ++ rest) (two.holds m t s h rest r));
  }

  -- ---- one monitor

  abbrev mid_of : MonitorDecl → Made → Made
  mid_of m made = (members_read table m.members [] m.members made).part.state

  abbrev behind : MonitorDecl → Made → Made
  behind m made = made_monitor table m.name.text (mid_of m made)

  few_monitors : (g : Gathered) (m : MonitorDecl) → monitor_faults kinds g m ≡ [] → length g.monitors < 1000
  few_monitors g m none =
      let codes = no_told m.name.spot (cause (has_name g.names m.name.text) 1 ++ cause (nat_le 1000 (length g.monitors)) 4 ++ cause (not (has_onload m.members)) 5) none in
      let one = no_both (cause (has_name g.names m.name.text) 1 ++ cause (nat_le 1000 (length g.monitors)) 4) (cause (not (has_onload m.members)) 5) codes in
      let two = no_both (cause (has_name g.names m.name.text) 1) (cause (nat_le 1000 (length g.monitors)) 4) one.0 in
      leb-false 1000 (length g.monitors) (no_cause (nat_le 1000 (length g.monitors)) 4 two.1)

  head_of : (file : ℕ) (g : Gathered) (made : Made) (m : MonitorDecl) (globals : List Global) → Pace g made → length g.monitors < 1000 → Heads (heads_in (event_of table) m.members) globals → Extends (g.monitors ++ monitor_head (numbers kinds) file g.actions m ∷ []) table.monitors → Head table program.types same m.members (short (length made.monitors)) (length made.actions) globals
  head_of file g made m globals pace few heads ext =
      let long = pace.monitors in
      let small : short (length made.monitors) ≡ length g.monitors = omega arith in
      record {
        head = monitor_head (event_of table) file (length made.actions) m;
        at = ap (slice_get table.monitors) small ∙ ext.at (length g.monitors) (monitor_head (numbers kinds) file g.actions m) (last_at g.monitors (monitor_head (numbers kinds) file g.actions m))
            ∙ ap (λ (n : List ℕ → Option ℕ). Some (monitor_head n file g.actions m)) numbered ∙ ap (λ (n : ℕ). Some (monitor_head (event_of table) file n m)) pace.actions;
        heads = refl;
        actions = refl;
        known = heads;
      }

  -- the number of an action of a name
  number_by : (name : List ℕ) (first : ℕ) (ms : List Member) (o : Option ActionHead) → item_at (actions_from (event_of table) first ms) (position (λ (a : ActionHead). bytes_eq a.name name) (actions_from (event_of table) first ms)) ≡ o → number_made o ≡ number_of first (names_of (actions_in ms)) name
  number_by name first ms None is = ap (λ (o : Option ℕ). option_map (λ place. held (first + place)) o) (sym (action_none (event_of table) name first ms is))
  number_by name first ms (Some h) is = let a = action_is (event_of table) name first ms h is in ap (λ (n : ℕ). Some n) a.number ∙ ap (λ (o : Option ℕ). option_map (λ place. held (first + place)) o) (sym a.there)

  number_is : (name : List ℕ) (made mid : Made) (m : MonitorDecl) (globals : List Global) → mid.monitors ≡ made.monitors → Head table program.types same m.members (short (length made.monitors)) (length made.actions) globals → action_number table mid name ≡ number_of (length made.actions) (names_of (actions_in m.members)) name
  number_is name made mid m globals monitors head =
      ap (λ (l : List Monitor). number_made (action_named table (short (length l)) name)) monitors
      ∙ ap number_made (spawned_at table program.types same m.members (short (length made.monitors)) (length made.actions) globals head name)
      ∙ number_by name (length made.actions) m.members (item_at (actions_from (event_of table) (length made.actions) m.members) (position (λ (a : ActionHead). bytes_eq a.name name) (actions_from (event_of table) (length made.actions) m.members))) refl

  zero_same : (o : Option ℕ) → zero_made o ≡ or_zero o
  zero_same None = refl
  zero_same (Some n) = refl

  monitor_is : (made mid : Made) (m : MonitorDecl) → Went table program.types same m.members m.members made mid → Head table program.types same m.members (short (length made.monitors)) (length made.actions) mid.globals → Extends mid.actions program.actions → Extends mid.sites program.sites → GlobalsAre program.types (globals_in m.members) mid.globals
      → MonitorIs program (length made.monitors) (length made.actions) m (monitor_of table m.name.text mid)
  monitor_is made mid m w head ea es so = record {
    around = record { types = program.types; actions = names_of (actions_in m.members); first = length made.actions };
    around_is = refl;
    name = refl;
    globals = so;
    actions = w.holds program (short (length made.monitors)) (length made.actions) mid.globals head refl ea es;
    onload = ap zero_made (number_is (codes "onload") made mid m mid.globals w.monitors head) ∙ zero_same (number_of (length made.actions) (names_of (actions_in m.members)) (codes "onload"));
    ondie = number_is (codes "ondie") made mid m mid.globals w.monitors head;
  }

  passed_monitor : (file : ℕ) (g : Gathered) (made : Made) (m : MonitorDecl) → Pace g made → monitor_faults kinds g m ≡ [] → (monitor_read table m made).faults ≡ [] → Passed (m ∷ []) g made (with_monitor (numbers kinds) file g m) (behind m made)
  unfolding ◌>>=◌ changes
  passed_monitor file g made m pace none_head none =
      let mid = mid_of m made in
      let few = few_monitors g m none_head in
      let none_members = (no_both (members_read table m.members [] m.members made).faults [] none).0 in
      let w = went table program.types same m.members [] m.members made refl refl none_members in
      let M = monitor_of table m.name.text mid in
      let H = monitor_head (numbers kinds) file g.actions m in
      let globals : mid.globals ≡ w.more = w.globals_are ∙ ap (λ (l : List Global). l ++ w.more) (none_left made.globals pace.globals) in
      let heads : Heads (heads_in (event_of table) m.members) mid.globals = subst (λ (l : List Global). Heads (heads_in (event_of table) m.members) l) (sym globals) w.heads_so in
      let head = head_of file g made m mid.globals pace few heads in
      let long_mid : length (mid.monitors ++ M ∷ []) ≡ length made.monitors + 1 = length-append mid.monitors (M ∷ []) ∙ ap (λ (l : List Monitor). length l + 1) w.monitors in
      let long_g : length (g.monitors ++ H ∷ []) ≡ length g.monitors + 1 = length-append g.monitors (H ∷ []) in
      let counted : length (actions_from (numbers kinds) g.actions m.members) ≡ length (actions_in m.members) = actions_many (numbers kinds) g.actions m.members in
      let many = w.many in
      let few_mid = w.few pace.few in
      let pace_monitors = pace.monitors in
      let pace_actions = pace.actions in
      record {
        pace = record { monitors = omega (arith, long_mid, long_g, pace_monitors); actions = omega (arith, many, counted, few_mid, pace_actions); few = few_mid; globals = refl };
        monitors = subst (λ (l : List Monitor). Extends made.monitors (l ++ M ∷ [])) (sym w.monitors) (extends_push made.monitors M);
        actions = w.actions;
        heads = extends_push g.monitors H;
        many = long_mid;
        sites = λ h. w.sites (short (length made.monitors)) (length made.actions) mid.globals (head h);
        holds = λ ms ts ss hs rest r.
            let there : slice_get program.monitors (length made.monitors) ≡ Some M = ms.at (length made.monitors) M (ap (λ (l : List Monitor). slice_get (l ++ M ∷ []) (length made.monitors)) w.monitors ∙ last_at made.monitors M) in
            let so : GlobalsAre program.types (globals_in m.members) mid.globals = subst (λ (l : List Global). GlobalsAre program.types (globals_in m.members) l) (sym globals) w.globals_so in
            rule.a_monitor there (monitor_is made mid m w (head hs) ts ss so)
            (subst (λ (n : ℕ). MonitorsAre program (length made.monitors + 1) n rest) many (subst (λ (n : ℕ). MonitorsAre program n (length mid.actions) rest) long_mid r));
      }

  -- ---- declarations and files in order

  passed_event : (g : Gathered) (made : Made) (name : List ℕ) → Pace g made → Passed [] g made (with_event g name) made
  passed_event g made name pace =
      let p = passed_same g made pace in
      record { pace = record { monitors = pace.monitors; actions = pace.actions; few = pace.few; globals = pace.globals }; monitors = p.monitors; actions = p.actions; heads = extends_same g.monitors; many = p.many; sites = λ h. extends_same made.sites; holds = p.holds }

  passed_declarations : (file : ℕ) (g : Gathered) (made : Made) (ds : List Declaration) → Pace g made → faults_from kinds file g ds ≡ [] → (declarations_read table ds made).faults ≡ [] → Passed (monitors_in ds) g made (gathered_after kinds file g ds) (declarations_read table ds made).part.state
  unfolding ◌>>=◌ changes pure
  passed_declarations file g made [] pace heads none = passed_same g made pace
  passed_declarations file g made (declaration.Event e ∷ ds) pace heads none =
      let one = passed_event g made e.name.text pace in
      let split = no_both (declaration_faults kinds g (declaration.Event e)) (faults_from kinds file (with_event g e.name.text) ds) heads in
      passed_both [] (monitors_in ds) g made (with_event g e.name.text) made _ _ one (passed_declarations file (with_event g e.name.text) made ds one.pace split.1 none)
  passed_declarations file g made (declaration.Monitor m ∷ ds) pace heads none =
      let split = no_both (monitor_faults kinds g m) (faults_from kinds file (with_monitor (numbers kinds) file g m) ds) heads in
      let parts = no_both (monitor_read table m made).faults (declarations_read table ds (behind m made)).faults none in
      let one = passed_monitor file g made m pace split.0 parts.0 in
      passed_both (m ∷ []) (monitors_in ds) g made (with_monitor (numbers kinds) file g m) (behind m made) _ _ one (passed_declarations file (with_monitor (numbers kinds) file g m) (behind m made) ds one.pace split.1 parts.1)

  passed_files : (file : ℕ) (g : Gathered) (made : Made) (units : List File) → Pace g made → units_faults kinds file g units ≡ [] → files_faults table file made units ≡ [] → Passed (monitors_in (declarations_in units)) g made (units_gathered kinds file g units) (files_made table made units)
  passed_files file g made [] pace heads none = passed_same g made pace
  passed_files file g made (u ∷ units) pace heads none =
      let split = no_both (map (in_file file) (faults_from kinds file g u.declarations)) (units_faults kinds (file + 1) (gathered_after kinds file g u.declarations) units) heads in
      let parts = no_both (faults_in file (declarations_read table u.declarations made).faults) (files_faults table (file + 1) (file_made table u made) units) none in
      let one = passed_declarations file g made u.declarations pace (no_map (in_file file) (faults_from kinds file g u.declarations) split.0) (no_map (λ (f : Fault). check.Typing f.code file f.spot) (declarations_read table u.declarations made).faults parts.0) in
      subst (λ (ms : List MonitorDecl). Passed ms g made (units_gathered kinds file g (u ∷ units)) (files_made table made (u ∷ units))) (sym (monitors_both u.declarations (declarations_in units)))
      (passed_both (monitors_in u.declarations) (monitors_in (declarations_in units)) g made (gathered_after kinds file g u.declarations) (file_made table u made) _ _ one (passed_files (file + 1) (gathered_after kinds file g u.declarations) (file_made table u made) units one.pace split.1 parts.1))

  -- the monitors of the whole program
  pub monitors_are : (units : List File) → units_faults kinds 0 none_gathered units ≡ [] → files_faults table 0 (nothing_made table) units ≡ [] → table.monitors ≡ (units_gathered kinds 0 none_gathered units).monitors → program.monitors ≡ (files_made table (nothing_made table) units).monitors → program.actions ≡ (files_made table (nothing_made table) units).actions → program.sites ≡ (files_made table (nothing_made table) units).sites
      → MonitorsAre program 0 0 (monitors_in (declarations_in units)) × (length program.monitors ≡ length (monitors_in (declarations_in units)))
  monitors_are units heads none tables monitors actions sites =
      let end = files_made table (nothing_made table) units in
      let p = passed_files 0 none_gathered (nothing_made table) units (record { monitors = refl; actions = refl; few = omega arith; globals = refl }) heads none in
      let whole = p.holds (subst (λ (l : List Monitor). Extends end.monitors l) (sym monitors) (extends_same end.monitors)) (subst (λ (l : List Action). Extends end.actions l) (sym actions) (extends_same end.actions)) (subst (λ (l : List Site). Extends end.sites l) (sym sites) (extends_same end.sites))
      (subst (λ (l : List MonitorHead). Extends (units_gathered kinds 0 none_gathered units).monitors l) (sym tables) (extends_same (units_gathered kinds 0 none_gathered units).monitors)) [] rule.no_monitors in
      let many = p.many in
      (subst (λ (l : List MonitorDecl). MonitorsAre program 0 0 l) (append_none (monitors_in (declarations_in units))) whole, ap length monitors ∙ many ∙ omega arith)

-- ---- the program

names_same : (number_of : List ℕ → Option ℕ) (kinds : List EventDecl) → map (λ (t : EventShape). t.name) (map (event_shape number_of) kinds) ≡ kind_names kinds
names_same number_of [] = refl
names_same number_of (e ∷ kinds) = ap (λ (l : List (List ℕ)). e.name.text ∷ l) (names_same number_of kinds)

pub same_numbers : (units : List File) (table : Table) → IsTable units table → numbers (kinds_of units) ≡ event_of table
same_numbers units table is = ap number_in (sym (ap (λ (ts : List EventShape). map (λ (t : EventShape). t.name) ts) is.types ∙ names_same (numbers (kinds_of units)) (kinds_of units)))

pub program_monitors : (units : List File) (program : Program) → IsProgram units program → MonitorsAre program 0 0 (monitors_in (declarations_in units)) × (length program.monitors ≡ length (monitors_in (declarations_in units)))
program_monitors units program is =
    monitors_are program is.table (sym (ap (λ (p : Program). p.types) is.program_is)) (kinds_of units) (same_numbers units is.table is.is_table) units is.declared is.faultless is.is_table.monitors
    (ap (λ (p : Program). p.monitors) is.program_is) (ap (λ (p : Program). p.actions) is.program_is) (ap (λ (p : Program). p.sites) is.program_is)
