-- The members of a monitor in order: what its globals begin with and its actions keep the rules.
use Rattle.std.proofs.Common.{◌≡◌, ◌+◌, ◌≤◌, ◌==◌, ◌∷◌, ◌++◌, ◌&&◌, ◌||◌}
use Rattle.program_laws.proofs.Common.{ℕ, length, map, List, [], Some, None, Bool, true, false, not, nat_le, is_some, Option, refl, ap, sym, subst, ◌∙◌, slice_get, arith, append_assoc, AllByRecursion, not-false, Shape, Expr, TypeExpr, ActionDecl, GlobalDecl, Member, TypedExpr, Action, Global, Program, Site, action_lawful, initial_lawful, Table, actions_from, globals_in, result_head, event_of, type_found, result_given, KnowsType, gives_result, SeesNamed, Made, action_of, action_read, actions_before, body_around, body_start, member_codes, short, when, is_special, expr_names, ends_with_return, global_read, members_read, exactly, row_read}
use Rattle.epl_tree.specs.declared.unit.Member.TheVariants as member
use Rattle.typed_program.specs.Rules.{nothing_visible}
use Rattle.type_table.specs.Heads.{action_head}
use Rattle.type_table.specs.Scopes.{start_of}
use Rattle.stmt_check.specs.Actions.{action_codes}
use Rattle.stmt_check.specs.Statements.{part_of}
use Rattle.stmt_check.specs.Steps.{◌>>=◌, pure}
use Rattle.program_laws.proofs.Lawful.Rules.{LawRules}
use Rattle.program_laws.proofs.Rules.Actions.{Apart, action_keeps}
use Rattle.program_laws.proofs.Rules.ParamNames.{ParamsApart, action_apart}
use Rattle.program_laws.proofs.Rules.Sites.{SitesKeep, keep_both, keep_none}
use Rattle.program_laws.proofs.Shapes.Bodies.{HeadsKnown, Acting}
use Rattle.program_laws.proofs.Shapes.Frames.{World}
use Rattle.program_laws.proofs.Shapes.Lists.{Extends, no_both, no_when, none_isnt, past, behind_last}
use Rattle.program_laws.proofs.Shapes.Members.{ActionMade, GlobalMade, action_made, global_made, InitialMade}
use Rattle.program_laws.proofs.Shapes.MonitorBodies.{Finished, members_hold, head_at}
use Rattle.program_laws.proofs.Shapes.MonitorHeads.{action_few}
use Rattle.program_laws.proofs.Shapes.Rules.{Rules}

-- ---- what a global begins with

initial_keeps : (rules : LawRules) (table : Table) (program : Program) (types : table.types ≡ program.types) (monitors : ℕ) (s : Shape) (e : Option Expr) (initial : Option TypedExpr) → InitialMade table program.types types [] monitors s e initial → initial_lawful initial ≡ true
initial_keeps rules table program types monitors s None initial made = ap initial_lawful made
initial_keeps rules table program types monitors s (Some e) initial made = ap initial_lawful made.0 ∙ rules.expressions table nothing_visible (start_of table (short monitors) None) e (exactly s) nothing (record { apart = λ name head found free. refl }) made.1
  where
    nothing : SeesNamed [] (start_of table (short monitors) None) (expr_names e)
    nothing = record { sees_at = λ name x named at other free. none_isnt x at }

-- ---- an action with a result ends with a `return`

ends_by : (table : Table) (before : List Member) (a : ActionDecl) (made : Made) → action_codes table before a made ≡ [] → is_some a.result ≡ true → ends_with_return a.body ≡ true
unfolding action_codes
ends_by table before a made codes some =
    let one = no_both (member_codes table before a.name.text ++ when (nat_le 256 (actions_before before) || nat_le 65535 (length made.actions + length made.sites)) 4 ++ when (is_special a.name.text && (not (length a.params == 0) || is_some a.result)) 5) (when (is_some a.result && not (ends_with_return a.body)) 16) codes in
    both (is_some a.result) (ends_with_return a.body) some (no_when (is_some a.result && not (ends_with_return a.body)) 16 one.1)
  where
    both : (b c : Bool) → b ≡ true → (b && not c) ≡ false → c ≡ true
    both true c h k = not-false c k
    both false c h k = cc

result_there : (table : Table) (t : Option TypeExpr) (r : Option Shape) → result_given (result_head (event_of table) t) ≡ gives_result r → is_some r ≡ true → is_some t ≡ true
result_there table None None h some = some
result_there table None (Some s) h some = cc
result_there table (Some t) r h some = refl

-- ---- what members make

-- the actions from this number on keep the rules
abbrev pub ActionsKeep : Program → ℕ → List Action → Type 0
ActionsKeep program from actions = (i : ℕ) (x : Action) → from ≤ i → slice_get actions i ≡ Some x → action_lawful program x ≡ true

-- what the globals from this number on begin with keeps the rules
abbrev pub GlobalsKeep : ℕ → List Global → Type 0
GlobalsKeep from globals = (i : ℕ) (x : Global) → from ≤ i → slice_get globals i ≡ Some x → initial_lawful x.initial ≡ true

-- what members make keeps the rules
pub record MembersKeep (program : Program) (old new : Made) : Type 0 where
  pub globals : GlobalsKeep (length old.globals) new.globals
  pub actions : Finished program new.sites → ActionsKeep program (length old.actions) new.actions
  pub sites : Finished program new.sites → SitesKeep program (length old.sites) (length new.sites)

module _ (rules : LawRules) (shapes : Rules) (program : Program) (table : Table) (types : table.types ≡ program.types) (few : length program.types ≤ 1000) (kinds : AllByRecursion (KnowsType program.types) program.types) (monitor : ℕ) (world : World program table monitor) (known : HeadsKnown program table monitor) (members : List Member) (first : ℕ) (heads : known.head.actions ≡ actions_from (event_of table) first members) (globals : known.head.globals ≡ globals_in (event_of table) members) (apart : Apart program table monitor) where
  -- what an action makes, with its number in the table
  abbrev Acted : List Member → ActionDecl → Made → Made → ℕ → Type 0
  Acted before a old new m = (world : World program table m) (known : HeadsKnown program table m) → Apart program table m → ParamsApart (action_head (event_of table) 0 a).params known.head.globals → (n : ℕ) → slice_get known.head.actions (short (actions_before before)) ≡ Some (action_head (event_of table) n a)
      → ((i : ℕ) (x : Site) → length old.sites ≤ i → slice_get new.sites i ≡ Some x → slice_get program.sites i ≡ Some x)
      → (A : Action) × (new.actions ≡ old.actions ++ A ∷ []) × (action_lawful program A ≡ true) × SitesKeep program (length old.sites) (length new.sites)

  made_keeps : (before : List Member) (a : ActionDecl) (old new : Made) → ActionMade table program.types types members before a old new → Acted before a old new (short (length old.monitors))
  made_keeps before a old new made world known apart names n at finished =
      let found = row_read (body_around table made.result old) (map part_of a.body) (body_start table before made.params old) in
      let acting : Acting program table (short (length old.monitors)) known (short (actions_before before)) made.params made.result = record {
        head = action_head (event_of table) n a;
        at = at;
        wants = made.params_so.wants;
        few = made.few;
        stand = made.params_so.stand;
        gives = made.result_so.stands;
      } in
      let keeps = action_keeps rules shapes program table (short (length old.monitors)) known (short (actions_before before)) made.params made.result acting
      (body_around table made.result old)
      (record { world = world; callbacks = refl; result = refl; stands = made.result_so.stands })
      refl apart names a.body old.sites made.body
      (λ i x from at. finished i x from (ap (λ (m : Made). slice_get m.sites i) made.is ∙ at))
      (λ some. ends_by table before a old made.codes (result_there table a.result made.result made.result_so.head some)) in (
        action_of old made.params made.result found.part,
        ap (λ (m : Made). m.actions) made.is,
        keeps.action,
        subst (λ (m : Made). SitesKeep program (length old.sites) (length m.sites)) (sym made.is) keeps.sites,
      )

  acted : (before : List Member) (a : ActionDecl) (old new : Made) → ActionMade table program.types types members before a old new → short (length old.monitors) ≡ monitor → Acted before a old new monitor
  acted before a old new made e = subst (Acted before a old new) e (made_keeps before a old new made)

  behind_global : (g : GlobalDecl) (before : List Member) (old mid new : Made) → GlobalMade table program.types types members before g old mid → Extends mid.globals new.globals → MembersKeep program mid new → MembersKeep program old new
  behind_global g before old mid new made kept rest = record {
    globals = behind_last (λ x. initial_lawful x.initial ≡ true) old.globals mid.globals new.globals (record { name = g.name.text; shape = (type_found table g.shape).part; initial = made.initial }) (ap (λ (m : Made). m.globals) made.is) kept
        (initial_keeps rules table program types (length old.monitors) (type_found table g.shape).part g.initial made.initial made.initial_made) rest.globals;
    actions = λ finished. subst (λ (xs : List Action). ActionsKeep program (length xs) new.actions) (ap (λ (m : Made). m.actions) made.is) (rest.actions finished);
    sites = λ finished. subst (λ (xs : List Site). SitesKeep program (length xs) (length new.sites)) (ap (λ (m : Made). m.sites) made.is) (rest.sites finished);
  }

  behind_action : (a : ActionDecl) (before rest : List Member) (old mid new : Made) → members ≡ before ++ member.Action a ∷ rest → short (length old.monitors) ≡ monitor → (action_read table members before a old).faults ≡ [] → ActionMade table program.types types members before a old mid → Extends mid.actions new.actions → Extends mid.sites new.sites → MembersKeep program mid new → MembersKeep program old new
  behind_action a before rest old mid new is e none made kept sites behind =
      let place = head_at program table monitor known members first heads before a rest is (action_few table before a old made.codes).here in
      let names : ParamsApart (action_head (event_of table) 0 a).params known.head.globals = subst (ParamsApart (action_head (event_of table) 0 a).params) (sym globals) (action_apart table members before a old none) in
      let same : mid.globals ≡ old.globals = ap (λ (m : Made). m.globals) made.is in
      let done : Finished program new.sites → (A : Action) × (mid.actions ≡ old.actions ++ A ∷ []) × (action_lawful program A ≡ true) × SitesKeep program (length old.sites) (length mid.sites) = (λ finished. acted before a old mid made e world known apart names place.0 place.1 (λ i x from at. finished i x (sites.at i x at))) in
      record {
        globals = subst (λ (xs : List Global). GlobalsKeep (length xs) new.globals) same behind.globals;
        actions = λ finished. behind_last (λ x. action_lawful program x ≡ true) old.actions mid.actions new.actions (done finished).0 (done finished).1 kept (done finished).2 (behind.actions finished);
        sites = λ finished. keep_both program (length old.sites) (length mid.sites) (length new.sites) (done finished).3 (behind.sites finished);
      }

  -- members of the monitor, behind others
  pub members_keep : (before rest : List Member) (old : Made) → members ≡ before ++ rest → short (length old.monitors) ≡ monitor → (members_read table members before rest old).faults ≡ [] → MembersKeep program old (members_read table members before rest old).part.state
  unfolding ◌>>=◌ pure
  members_keep before [] old is e none = record { globals = λ i x from at. past i (length old.globals) old.globals x (omega arith) from at; actions = λ finished i x from at. past i (length old.actions) old.actions x (omega arith) from at; sites = λ finished. keep_none program (length old.sites) }
  members_keep before (member.Global g ∷ rest) old is e none =
      let mid = (global_read table before g old).part.state in
      let split = no_both (global_read table before g old).faults (members_read table members (before ++ member.Global g ∷ []) rest mid).faults none in
      let made = global_made table program.types types members before g old split.0 in
      let on : short (length mid.monitors) ≡ monitor = ap (λ (m : Made). short (length m.monitors)) made.is ∙ e in
      let there : members ≡ (before ++ member.Global g ∷ []) ++ rest = is ∙ sym (append_assoc before (member.Global g ∷ []) rest) in
      let hold = members_hold shapes program table types few kinds monitor world known members first heads (before ++ member.Global g ∷ []) rest mid there on split.1 in
      behind_global g before old mid _ made hold.kept_globals (members_keep (before ++ member.Global g ∷ []) rest mid there on split.1)
  members_keep before (member.Action a ∷ rest) old is e none =
      let mid = (action_read table members before a old).part.state in
      let split = no_both (action_read table members before a old).faults (members_read table members (before ++ member.Action a ∷ []) rest mid).faults none in
      let made = action_made table program.types types members before a old split.0 in
      let on : short (length mid.monitors) ≡ monitor = ap (λ (m : Made). short (length m.monitors)) made.is ∙ e in
      let there : members ≡ (before ++ member.Action a ∷ []) ++ rest = is ∙ sym (append_assoc before (member.Action a ∷ []) rest) in
      let hold = members_hold shapes program table types few kinds monitor world known members first heads (before ++ member.Action a ∷ []) rest mid there on split.1 in
      behind_action a before rest old mid _ is e split.0 made hold.kept_actions hold.sites (members_keep (before ++ member.Action a ∷ []) rest mid there on split.1)
