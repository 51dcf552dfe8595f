-- Declarations and files in order: all that is made of them holds.
use Rattle.std.proofs.Common.{◌≡◌, ◌≤◌, ◌∷◌, ◌++◌}
use Rattle.program_laws.proofs.Common.{ℕ, length, map, List, [], Some, true, is_some, refl, ap, sym, ◌∙◌, slice_get, arith, AllByRecursion, EventDecl, MonitorDecl, Monitor, Program, monitor_so, action_so, Table, numbers, units_faults, units_gathered, none_gathered, names_of, number_in, EventShape, event_of, KnowsType, Made, short, members_read, monitor_of, files_faults, files_made, nothing_made}
use Rattle.epl_tree.specs.declared.unit.Unit.{Unit as File}
use Rattle.program_laws.proofs.Shapes.Bodies.{world_of}
use Rattle.program_laws.proofs.Shapes.Frames.{SitesHold, sites_both, sites_none}
use Rattle.program_laws.proofs.Shapes.Lists.{Extends, extends_same, extends_on, past, last_is, join}
use Rattle.program_laws.proofs.Shapes.MonitorBodies.{MembersHold, ActionsHold, Finished, members_hold}
use Rattle.program_laws.proofs.Shapes.MonitorHeads.{MembersMade}
use Rattle.program_laws.proofs.Shapes.Monitors.{Standing, heads_known, heads_actions, monitor_holds}
use Rattle.program_laws.proofs.Shapes.Passing.{Holding, mid_of, behind, files_held}
use Rattle.program_laws.proofs.Shapes.Rules.{Rules}

-- the monitors with these numbers are as they should be
abbrev pub MonitorsHold : Program → ℕ → List Monitor → Type 0
MonitorsHold program from monitors = (k : ℕ) (x : Monitor) → from ≤ k → slice_get monitors k ≡ Some x → monitor_so program k x ≡ true

-- what holds of what was made, where the program has it
pub record AllHolds (program : Program) (old new : Made) : Type 0 where
  pub sites : Extends old.sites new.sites
  pub monitors : MonitorsHold program (length old.monitors) new.monitors
  pub sites_hold : Finished program new.sites → SitesHold program (length old.sites) (length new.sites)
  pub actions : Finished program new.sites → ActionsHold program (length old.actions) new.actions

pub same_numbers : (table : Table) (kinds : List EventDecl) → map (λ (t : EventShape). t.name) table.types ≡ names_of kinds → numbers kinds ≡ event_of table
same_numbers table kinds same = ap number_in (sym same)

module _ (rules : Rules) (program : Program) (table : Table) (types : table.types ≡ program.types) (few : length program.types ≤ 1000) (known : AllByRecursion (KnowsType program.types) program.types) (kinds : List EventDecl) (same : numbers kinds ≡ event_of table) where
  monitor_held : (m : MonitorDecl) (made : Made) → (members_read table m.members [] m.members made).faults ≡ [] → MembersMade table program.types types m.members m.members made (mid_of table m made) → Standing program table m made (mid_of table m made) → AllHolds program made (behind table m made)
  monitor_held m made none members standing =
      let mid = mid_of table m made in
      let k : ℕ = length made.monitors in
      let small : short k ≡ k = (let few = standing.few in omega arith) in
      let heads_are = heads_known program table types m made mid standing members in
      let world = world_of program table k (ap is_some standing.in_program) types few known heads_are in
      let hold : MembersHold program k made mid = members_hold rules program table types few known k world heads_are m.members (length made.actions) (heads_actions program table types m made mid standing members) [] m.members made refl small none in
      let good = monitor_holds program table types m made mid standing members hold in
      record {
        sites = hold.sites;
        monitors = λ i x from at. last i x good members.monitors from at;
        sites_hold = hold.sites_hold;
        actions = hold.actions;
      }
    where
      last : (i : ℕ) (x : Monitor) → monitor_so program (length made.monitors) (monitor_of table m.name.text (mid_of table m made)) ≡ true → (mid_of table m made).monitors ≡ made.monitors → length made.monitors ≤ i → slice_get ((mid_of table m made).monitors ++ monitor_of table m.name.text (mid_of table m made) ∷ []) i ≡ Some x → monitor_so program i x ≡ true
      last i x good same_monitors from at =
          let e = ap length same_monitors in
          let p = last_is (mid_of table m made).monitors (monitor_of table m.name.text (mid_of table m made)) x i (omega (arith, e)) at in
          let here : i ≡ length made.monitors = p.1 ∙ e in
          ap (λ (n : ℕ). monitor_so program n x) here ∙ ap (monitor_so program (length made.monitors)) (sym p.0) ∙ good

  -- so it holds of all that is made
  holding : Holding program table types (AllHolds program)
  holding = record {
    same = λ made. record {
      sites = extends_same made.sites;
      monitors = λ k x from at. past k (length made.monitors) made.monitors x (omega arith) from at;
      sites_hold = λ finished. sites_none program (length made.sites);
      actions = λ finished k x from at. past k (length made.actions) made.actions x (omega arith) from at;
    };
    both = λ a b c monitors actions first second. record {
      sites = extends_on first.sites second.sites;
      monitors = join (λ k x. monitor_so program k x ≡ true) (length a.monitors) b.monitors c.monitors monitors first.monitors second.monitors;
      sites_hold = λ finished. sites_both program (length a.sites) (length b.sites) (length c.sites) (first.sites_hold (λ i x at. finished i x (second.sites.at i x at))) (second.sites_hold finished);
      actions = λ finished. join (λ k x. action_so program x ≡ true) (length a.actions) b.actions c.actions actions (first.actions (λ i x at. finished i x (second.sites.at i x at))) (second.actions finished);
    };
    monitor = monitor_held;
  }

  -- all that is made of files holds in the program that it is
  pub files_hold : (units : List File) → units_faults kinds 0 none_gathered units ≡ [] → files_faults table 0 (nothing_made table) units ≡ [] → table.monitors ≡ (units_gathered kinds 0 none_gathered units).monitors → program.monitors ≡ (files_made table (nothing_made table) units).monitors → program.actions ≡ (files_made table (nothing_made table) units).actions → program.sites ≡ (files_made table (nothing_made table) units).sites → AllHolds program (nothing_made table) (files_made table (nothing_made table) units)
  files_hold units heads none tables monitors actions sites = files_held program table types kinds same (AllHolds program) holding units heads none tables monitors actions
