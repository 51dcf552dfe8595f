-- The members of a monitor in order, where its heads are known: its globals, its actions and their sites are as they should be.
use Rattle.std.proofs.Common.{◌≡◌, ◌+◌, ◌<◌, ◌≤◌, ◌∷◌, ◌++◌}
use Rattle.program_laws.proofs.Common.{ℕ, suc, length, List, [], Some, true, cond, not, refl, ap, sym, subst, ◌∙◌, slice_get, arith, append_assoc, AllByRecursion, sum_by-cons, ActionDecl, GlobalDecl, Member, Action, Global, Program, Site, action_so, global_so, ActionHead, Table, actions_from, event_of, type_found, KnowsType, Made, action_read, actions_before, short, global_read, members_read}
use Rattle.epl_tree.specs.declared.unit.Member.TheVariants as member
use Rattle.type_table.specs.Heads.{action_head}
use Rattle.stmt_check.specs.Actions.{is_global}
use Rattle.stmt_check.specs.Steps.{◌>>=◌, pure}
use Rattle.program_laws.proofs.Shapes.Bodies.{HeadsKnown}
use Rattle.program_laws.proofs.Shapes.Frames.{World, SitesHold, sites_both, sites_none}
use Rattle.program_laws.proofs.Shapes.Lists.{Extends, extends_same, extends_on, extends_front, no_both, past, behind_last}
use Rattle.program_laws.proofs.Shapes.Members.{ActionMade, GlobalMade, action_made, global_made, global_holds, made_holds, made_sites}
use Rattle.program_laws.proofs.Shapes.MonitorHeads.{action_few}
use Rattle.program_laws.proofs.Shapes.Rules.{Rules}
use Rattle.program_laws.proofs.Shapes.Types.{type_stands}

-- ---- the head of an action by its place

actions_else : (g : GlobalDecl) (before : List Member) → actions_before (member.Global g ∷ before) ≡ actions_before before
unfolding is_global
actions_else g before = let e = sum_by-cons (λ (m : Member). cond (not (is_global m)) 1 0) (member.Global g) before in omega (arith, e)

actions_more : (a : ActionDecl) (before : List Member) → actions_before (member.Action a ∷ before) ≡ suc (actions_before before)
unfolding is_global
actions_more a before = let e = sum_by-cons (λ (m : Member). cond (not (is_global m)) 1 0) (member.Action a) before in omega (arith, e)

head_place : (table : Table) (before : List Member) (a : ActionDecl) (rest : List Member) (n : ℕ) → (k : ℕ) × (slice_get (actions_from (event_of table) n (before ++ member.Action a ∷ rest)) (actions_before before) ≡ Some (action_head (event_of table) k a))
head_place table [] a rest n = (n, refl)
head_place table (member.Global g ∷ before) a rest n =
    let p = head_place table before a rest n in
    (p.0, ap (slice_get (actions_from (event_of table) n (before ++ member.Action a ∷ rest))) (actions_else g before) ∙ p.1)
head_place table (member.Action b ∷ before) a rest n =
    let p = head_place table before a rest (n + 1) in
    (p.0, ap (slice_get (action_head (event_of table) n b ∷ actions_from (event_of table) (n + 1) (before ++ member.Action a ∷ rest))) (actions_more b before) ∙ p.1)

-- the head of this action stands at its number
pub head_at : (program : Program) (table : Table) (monitor : ℕ) (known : HeadsKnown program table monitor) (members : List Member) (first : ℕ) → known.head.actions ≡ actions_from (event_of table) first members → (before : List Member) (a : ActionDecl) (rest : List Member) → members ≡ before ++ member.Action a ∷ rest → actions_before before < 256 → (k : ℕ) × (slice_get known.head.actions (short (actions_before before)) ≡ Some (action_head (event_of table) k a))
head_at program table monitor known members first heads before a rest is few =
    let p = head_place table before a rest first in
    let z : short (actions_before before) ≡ actions_before before = omega arith in
    (p.0, ap (slice_get known.head.actions) z ∙ ap (λ (xs : List ActionHead). slice_get xs (actions_before before)) (heads ∙ ap (actions_from (event_of table) first) is) ∙ p.1)

-- ---- what members make

-- the new actions, and the new globals
abbrev pub ActionsHold : Program → ℕ → List Action → Type 0
ActionsHold program from actions = (i : ℕ) (x : Action) → from ≤ i → slice_get actions i ≡ Some x → action_so program x ≡ true

abbrev pub GlobalsHold : Program → ℕ → ℕ → List Global → Type 0
GlobalsHold program monitor from globals = (i : ℕ) (x : Global) → from ≤ i → slice_get globals i ≡ Some x → global_so program monitor x ≡ true

-- the program has the sites that were made
abbrev pub Finished : Program → List Site → Type 0
Finished program sites = (i : ℕ) (x : Site) → slice_get sites i ≡ Some x → slice_get program.sites i ≡ Some x

pub record MembersHold (program : Program) (monitor : ℕ) (old new : Made) : Type 0 where
  pub sites : Extends old.sites new.sites
  pub kept_globals : Extends old.globals new.globals
  pub kept_actions : Extends old.actions new.actions
  pub globals : GlobalsHold program monitor (length old.globals) new.globals
  pub sites_hold : Finished program new.sites → SitesHold program (length old.sites) (length new.sites)
  pub actions : Finished program new.sites → ActionsHold program (length old.actions) new.actions

module _ (rules : Rules) (program : Program) (table : Table) (types : table.types ≡ program.types) (few : length program.types ≤ 1000) (kinds : AllByRecursion (KnowsType program.types) program.types) (monitor : ℕ) (world : World program table monitor) (known : HeadsKnown program table monitor) (members : List Member) (first : ℕ) (heads : known.head.actions ≡ actions_from (event_of table) first members) where
  -- an action of the monitor with this number
  abbrev Acted : List Member → ActionDecl → Made → Made → ℕ → Type 0
  Acted before a old new m = (world : World program table m) (known : HeadsKnown program table m) (n : ℕ) → slice_get known.head.actions (short (actions_before before)) ≡ Some (action_head (event_of table) n a)
      → ((i : ℕ) (x : Site) → length old.sites ≤ i → slice_get new.sites i ≡ Some x → slice_get program.sites i ≡ Some x)
      → (A : Action) × (new.actions ≡ old.actions ++ A ∷ []) × (new.monitors ≡ old.monitors) × (new.globals ≡ old.globals) × (action_so program A ≡ true) × SitesHold program (length old.sites) (length new.sites)

  acted : (before : List Member) (a : ActionDecl) (old new : Made) → ActionMade table program.types types members before a old new → short (length old.monitors) ≡ monitor → Acted before a old new monitor
  acted before a old new made e = subst (Acted before a old new) e (λ world known n at finished. made_holds rules program table types members before a old new made world known n at finished)

  abbrev Sited : List Member → ActionDecl → Made → Made → ℕ → Type 0
  Sited before a old new m = (world : World program table m) (known : HeadsKnown program table m) (n : ℕ) → slice_get known.head.actions (short (actions_before before)) ≡ Some (action_head (event_of table) n a) → Extends old.sites new.sites

  sited : (before : List Member) (a : ActionDecl) (old new : Made) → ActionMade table program.types types members before a old new → short (length old.monitors) ≡ monitor → Sited before a old new monitor
  sited before a old new made e = subst (Sited before a old new) e (λ world known n at. made_sites rules program table types members before a old new made world known n at)

  -- a member more behind those that hold
  behind_global : (g : GlobalDecl) (before : List Member) (old mid new : Made) → short (length old.monitors) ≡ monitor → GlobalMade table program.types types members before g old mid → MembersHold program monitor mid new → MembersHold program monitor old new
  behind_global g before old mid new e made rest =
      let actions : mid.actions ≡ old.actions = ap (λ (m : Made). m.actions) made.is in
      let sites : mid.sites ≡ old.sites = ap (λ (m : Made). m.sites) made.is in
      let globals : mid.globals ≡ old.globals ++ _ = ap (λ (m : Made). m.globals) made.is in
      record {
        sites = subst (λ (xs : List Site). Extends xs new.sites) sites rest.sites;
        kept_globals = extends_on (subst (λ (xs : List Global). Extends old.globals xs) (sym globals) (extends_front old.globals _)) rest.kept_globals;
        kept_actions = subst (λ (xs : List Action). Extends xs new.actions) actions rest.kept_actions;
        globals = behind_last (λ x. global_so program monitor x ≡ true) old.globals mid.globals new.globals (record { name = g.name.text; shape = (type_found table g.shape).part; initial = made.initial }) globals rest.kept_globals
            (global_holds rules program table types few kinds monitor (length old.monitors) (record { name = g.name.text; shape = (type_found table g.shape).part; initial = made.initial }) g.initial (type_stands table program.types types g.shape made.type) made.initial_made) rest.globals;
        sites_hold = λ finished. subst (λ (xs : List Site). SitesHold program (length xs) (length new.sites)) sites (rest.sites_hold finished);
        actions = λ finished. subst (λ (xs : List Action). ActionsHold program (length xs) new.actions) actions (rest.actions finished);
      }

  behind_action : (a : ActionDecl) (before rest : List Member) (old mid new : Made) → members ≡ before ++ member.Action a ∷ rest → short (length old.monitors) ≡ monitor → ActionMade table program.types types members before a old mid → MembersHold program monitor mid new → MembersHold program monitor old new
  behind_action a before rest old mid new is e made behind =
      let place = head_at program table monitor known members first heads before a rest is (action_few table before a old made.codes).here in
      let globals : mid.globals ≡ old.globals = ap (λ (m : Made). m.globals) made.is in
      let sites = sited before a old mid made e world known place.0 place.1 in
      let actions : mid.actions ≡ old.actions ++ _ = ap (λ (m : Made). m.actions) made.is in
      let done : Finished program new.sites → (A : Action) × (mid.actions ≡ old.actions ++ A ∷ []) × (mid.monitors ≡ old.monitors) × (mid.globals ≡ old.globals) × (action_so program A ≡ true) × SitesHold program (length old.sites) (length mid.sites) = (λ finished. acted before a old mid made e world known place.0 place.1 (λ i x from at. finished i x (behind.sites.at i x at))) in
      record {
        sites = extends_on sites behind.sites;
        kept_globals = subst (λ (xs : List Global). Extends xs new.globals) globals behind.kept_globals;
        kept_actions = extends_on (subst (λ (xs : List Action). Extends old.actions xs) (sym actions) (extends_front old.actions _)) behind.kept_actions;
        globals = subst (λ (xs : List Global). GlobalsHold program monitor (length xs) new.globals) globals behind.globals;
        sites_hold = λ finished. sites_both program (length old.sites) (length mid.sites) (length new.sites) (done finished).5 (behind.sites_hold finished);
        actions = λ finished. behind_last (λ x. action_so program x ≡ true) old.actions mid.actions new.actions (done finished).0 (done finished).1 behind.kept_actions (done finished).4 (behind.actions finished);
      }

  -- members of the monitor, behind others
  pub members_hold : (before rest : List Member) (old : Made) → members ≡ before ++ rest → short (length old.monitors) ≡ monitor → (members_read table members before rest old).faults ≡ [] → MembersHold program monitor old (members_read table members before rest old).part.state
  unfolding ◌>>=◌ pure
  members_hold before [] old is e none = record { sites = extends_same old.sites; kept_globals = extends_same old.globals; kept_actions = extends_same old.actions; globals = λ i x from at. past i (length old.globals) old.globals x (omega arith) from at; sites_hold = λ finished. sites_none program (length old.sites); actions = λ finished i x from at. past i (length old.actions) old.actions x (omega arith) from at }
  members_hold before (member.Global g ∷ rest) old is e none =
      let mid = (global_read table before g old).part.state in
      let split = no_both (global_read table before g old).faults (members_read table members (before ++ member.Global g ∷ []) rest mid).faults none in
      let made = global_made table program.types types members before g old split.0 in
      let on : short (length mid.monitors) ≡ monitor = ap (λ (m : Made). short (length m.monitors)) made.is ∙ e in
      behind_global g before old mid _ e made (members_hold (before ++ member.Global g ∷ []) rest mid (is ∙ sym (append_assoc before (member.Global g ∷ []) rest)) on split.1)
  members_hold before (member.Action a ∷ rest) old is e none =
      let mid = (action_read table members before a old).part.state in
      let split = no_both (action_read table members before a old).faults (members_read table members (before ++ member.Action a ∷ []) rest mid).faults none in
      let made = action_made table program.types types members before a old split.0 in
      let on : short (length mid.monitors) ≡ monitor = ap (λ (m : Made). short (length m.monitors)) made.is ∙ e in
      behind_action a before rest old mid _ is e made (members_hold (before ++ member.Action a ∷ []) rest mid (is ∙ sym (append_assoc before (member.Action a ∷ []) rest)) on split.1)
