-- Declarations and files in order: all that is made of them keeps the rules.
use Rattle.std.proofs.Common.{◌≡◌, ◌≤◌, ◌∷◌, ◌++◌}
use Rattle.program_laws.proofs.Common.{ℕ, length, List, [], Some, true, is_some, refl, ap, sym, ◌∙◌, slice_get, arith, AllByRecursion, EventDecl, MonitorDecl, Global, Monitor, Program, monitor_lawful, action_lawful, initial_lawful, MonitorHead, Table, numbers, units_faults, units_gathered, none_gathered, globals_in, event_of, KnowsType, Made, short, members_read, monitor_of, files_faults, files_made, nothing_made}
use Rattle.epl_tree.specs.declared.unit.Unit.{Unit as File}
use Rattle.type_table.specs.Heads.{monitor_head}
use Rattle.program_laws.proofs.Lawful.Rules.{LawRules}
use Rattle.program_laws.proofs.Rules.Members.{MembersKeep, ActionsKeep, members_keep}
use Rattle.program_laws.proofs.Rules.Sites.{SitesKeep, keep_both, keep_none}
use Rattle.program_laws.proofs.Rules.Specials.{special_apart}
use Rattle.program_laws.proofs.Shapes.Bodies.{world_of}
use Rattle.program_laws.proofs.Shapes.Lists.{Extends, extends_same, extends_on, every_true, all_by_place, past, last_is, join}
use Rattle.program_laws.proofs.Shapes.MonitorBodies.{MembersHold, Finished, members_hold}
use Rattle.program_laws.proofs.Shapes.MonitorHeads.{MembersMade}
use Rattle.program_laws.proofs.Shapes.Monitors.{Standing, heads_known, heads_actions}
use Rattle.program_laws.proofs.Shapes.Passing.{Holding, mid_of, behind, files_held}
use Rattle.program_laws.proofs.Shapes.Rules.{Rules}

-- the monitors from this number on keep the rules
abbrev pub MonitorsKeep : ℕ → List Monitor → Type 0
MonitorsKeep from monitors = (k : ℕ) (x : Monitor) → from ≤ k → slice_get monitors k ≡ Some x → monitor_lawful x ≡ true

-- what is kept by what was made, where the program has it
pub record AllKeeps (program : Program) (old new : Made) : Type 0 where
  pub sites : Extends old.sites new.sites
  pub sites_keep : Finished program new.sites → SitesKeep program (length old.sites) (length new.sites)
  pub monitors : MonitorsKeep (length old.monitors) new.monitors
  pub actions : Finished program new.sites → ActionsKeep program (length old.actions) new.actions

module _ (rules : LawRules) (shapes : Rules) (program : Program) (table : Table) (types : table.types ≡ program.types) (few : length program.types ≤ 1000) (known : AllByRecursion (KnowsType program.types) program.types) (kinds : List EventDecl) (same : numbers kinds ≡ event_of table) where
  monitor_held : (m : MonitorDecl) (made : Made) → (members_read table m.members [] m.members made).faults ≡ [] → MembersMade table program.types types m.members m.members made (mid_of table m made) → Standing program table m made (mid_of table m made) → AllKeeps program made (behind table m made)
  monitor_held m made none members standing =
      let mid = mid_of table m made in
      let k : ℕ = length made.monitors in
      let small : short k ≡ k = (let few = standing.few in omega arith) in
      let heads_are = heads_known program table types m made mid standing members in
      let world = world_of program table k (ap is_some standing.in_program) types few known heads_are in
      let hold : MembersHold program k made mid = members_hold shapes program table types few known k world heads_are m.members (length made.actions) (heads_actions program table types m made mid standing members) [] m.members made refl small none in
      let members_globals : heads_are.head.globals ≡ globals_in (event_of table) m.members = globals_are (sym heads_are.at ∙ standing.in_table) in
      let keep : MembersKeep program made mid = members_keep rules shapes program table types few known k world heads_are m.members (length made.actions) (heads_actions program table types m made mid standing members) members_globals (special_apart program table types m made mid standing members) [] m.members made refl small none in
      let good : monitor_lawful (monitor_of table m.name.text mid) ≡ true = every_true (λ (g : Global). initial_lawful g.initial) mid.globals (all_by_place mid.globals (λ i x at. keep.globals i x (let zero_globals = standing.none in omega arith) at)) in
      record {
        sites = hold.sites;
        sites_keep = keep.sites;
        monitors = λ i x from at. last i x good members.monitors from at;
        actions = keep.actions;
      }
    where
      last : (i : ℕ) (x : Monitor) → monitor_lawful (monitor_of table m.name.text (mid_of table m made)) ≡ true → (mid_of table m made).monitors ≡ made.monitors → length made.monitors ≤ i → slice_get ((mid_of table m made).monitors ++ monitor_of table m.name.text (mid_of table m made) ∷ []) i ≡ Some x → monitor_lawful x ≡ true
      last i x good same_monitors from at =
          let e = ap length same_monitors in
          let p = last_is (mid_of table m made).monitors (monitor_of table m.name.text (mid_of table m made)) x i (omega (arith, e)) at in
          ap monitor_lawful (sym p.0) ∙ good

      globals_are : {h : MonitorHead} → Some h ≡ Some (monitor_head (event_of table) standing.file (length made.actions) m) → h.globals ≡ globals_in (event_of table) m.members
      globals_are {h} e = let is : h ≡ monitor_head (event_of table) standing.file (length made.actions) m = cc in ap (λ (x : MonitorHead). x.globals) is

  -- so it holds of all that is made
  holding : Holding program table types (AllKeeps program)
  holding = record {
    same = λ made. record {
      sites = extends_same made.sites;
      sites_keep = λ finished. keep_none program (length made.sites);
      monitors = λ k x from at. past k (length made.monitors) made.monitors x (omega arith) from at;
      actions = λ finished k x from at. past k (length made.actions) made.actions x (omega arith) from at;
    };
    both = λ a b c monitors actions first second. record {
      sites = extends_on first.sites second.sites;
      sites_keep = λ finished. keep_both program (length a.sites) (length b.sites) (length c.sites) (first.sites_keep (λ i x at. finished i x (second.sites.at i x at))) (second.sites_keep finished);
      monitors = join (λ k x. monitor_lawful x ≡ true) (length a.monitors) b.monitors c.monitors monitors first.monitors second.monitors;
      actions = λ finished. join (λ k x. action_lawful program x ≡ true) (length a.actions) b.actions c.actions actions (first.actions (λ i x at. finished i x (second.sites.at i x at))) (second.actions finished);
    };
    monitor = monitor_held;
  }

  -- all that is made of files keeps the rules in the program that it is
  pub files_keep : (units : List File) → units_faults kinds 0 none_gathered units ≡ [] → files_faults table 0 (nothing_made table) units ≡ [] → table.monitors ≡ (units_gathered kinds 0 none_gathered units).monitors → program.monitors ≡ (files_made table (nothing_made table) units).monitors → program.actions ≡ (files_made table (nothing_made table) units).actions → program.sites ≡ (files_made table (nothing_made table) units).sites → AllKeeps program (nothing_made table) (files_made table (nothing_made table) units)
  files_keep units heads none tables monitors actions sites = files_held program table types kinds same (AllKeeps program) holding units heads none tables monitors actions
