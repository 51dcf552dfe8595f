-- What a member makes where no fault is found in it.
use Rattle.std.proofs.Common.{◌≡◌, ◌≤◌, ◌∷◌, ◌++◌}
use Rattle.program_laws.proofs.Common.{ℕ, length, map, List, [], Some, None, true, Option, refl, ap, sym, subst, ◌∙◌, slice_get, arith, option_map, AllByRecursion, Shape, EventShape, Expr, TypeExpr, ActionDecl, GlobalDecl, Member, TypedExpr, Action, Global, Program, Site, action_so, global_so, stands, Table, told, event_of, type_found, expr_found, KnowsType, Made, action_read, action_of, actions_before, body_around, body_start, short, expr_names, global_codes, global_read, with_global, exactly, row_read, Reads}
use Rattle.typed_program.specs.Programs.{no_names, initial_so}
use Rattle.type_table.specs.Heads.{action_head}
use Rattle.type_table.specs.Scopes.{start_of}
use Rattle.stmt_check.specs.Actions.{action_codes, body_end, body_read, params_found}
use Rattle.stmt_check.specs.Members.{initial_read}
use Rattle.stmt_check.specs.Statements.{part_of}
use Rattle.stmt_check.specs.Steps.{◌>>=◌, pure, given, looks, tells, changes, reads_by, within, optional}
use Rattle.program_laws.proofs.Exprs.Accepted.{has_exact}
use Rattle.program_laws.proofs.Shapes.Bodies.{HeadsKnown, Acting, action_holds, body_sites}
use Rattle.program_laws.proofs.Shapes.Frames.{KnowsNamed, World, SitesHold}
use Rattle.program_laws.proofs.Shapes.Heads.{ParamsMade, params_made, ResultMade, result_made}
use Rattle.program_laws.proofs.Shapes.Lists.{Extends, both_true, no_both, no_told, none_isnt}
use Rattle.program_laws.proofs.Shapes.Rules.{Rules}

module _ (table : Table) (types : List EventShape) (same : table.types ≡ types) (members : List Member) where
  -- ---- actions

  -- an action that was read: its parameters and its result, its codes, and its body, none of which has a fault
  pub record ActionMade (before : List Member) (a : ActionDecl) (old new : Made) : Type 0 where
    pub params : List Shape
    pub result : Option Shape
    pub params_so : ParamsMade table types same members a.params params
    pub few : length params ≤ 64
    pub result_so : ResultMade table types same members a.result result
    pub codes : action_codes table before a old ≡ []
    pub body : (row_read (body_around table result old) (map part_of a.body) (body_start table before params old)).faults ≡ []
    pub is : new ≡ (body_end params result old (row_read (body_around table result old) (map part_of a.body) (body_start table before params old)).part).state

  acted : (before : List Member) (a : ActionDecl) (t : Option TypeExpr) → Reads Made (Unit {0})
  acted before a t = tells a.name.spot (action_codes table before a) >>= λ _. given (params_found table members a.params) >>= λ params. optional (option_map (λ t. given (type_found table t)) t) >>= λ result. body_read table before a.body params result

  acted_made : (before : List Member) (a : ActionDecl) (t : Option TypeExpr) (old : Made) → a.result ≡ t → (acted before a t old).faults ≡ [] → ActionMade before a old (acted before a t old).part.state
  unfolding acted ◌>>=◌ tells given reads_by within optional pure
  acted_made before a None old is none =
      let one = no_both (told a.name.spot (action_codes table before a old)) _ none in
      let two = no_both (params_found table members a.params).faults _ one.1 in
      let p = params_made table types same members a.params two.0 in
      record {
        params = (params_found table members a.params).part;
        result = None;
        params_so = p.0;
        few = p.1;
        result_so = subst (λ t. ResultMade table types same members t None) (sym is) (result_made table types same members None old refl);
        codes = no_told a.name.spot (action_codes table before a old) one.0;
        body = two.1;
        is = refl;
      }
  acted_made before a (Some t) old is none =
      let one = no_both (told a.name.spot (action_codes table before a old)) _ none in
      let two = no_both (params_found table members a.params).faults _ one.1 in
      let three = no_both ((type_found table t).faults ++ []) _ two.1 in
      let p = params_made table types same members a.params two.0 in
      let r : Option Shape = Some (type_found table t).part in
      record {
        params = (params_found table members a.params).part;
        result = r;
        params_so = p.0;
        few = p.1;
        result_so = subst (λ t. ResultMade table types same members t r) (sym is) (result_made table types same members (Some t) old three.0);
        codes = no_told a.name.spot (action_codes table before a old) one.0;
        body = three.1;
        is = refl;
      }

  pub action_made : (before : List Member) (a : ActionDecl) (old : Made) → (action_read table members before a old).faults ≡ [] → ActionMade before a old (action_read table members before a old).part.state
  unfolding acted
  action_made before a old none = acted_made before a a.result old refl none

  -- ---- globals

  -- what a global begins with
  abbrev pub InitialMade : ℕ → Shape → Option Expr → Option TypedExpr → Type 0
  InitialMade monitors s None initial = initial ≡ None
  InitialMade monitors s (Some e) initial = (initial ≡ Some (expr_found table (start_of table (short monitors) None) e (exactly s)).part) × ((expr_found table (start_of table (short monitors) None) e (exactly s)).faults ≡ [])

  pub record GlobalMade (before : List Member) (g : GlobalDecl) (old new : Made) : Type 0 where
    pub type : (type_found table g.shape).faults ≡ []
    pub codes : global_codes table before g.name.text ≡ []
    pub initial : Option TypedExpr
    pub initial_made : InitialMade (length old.monitors) (type_found table g.shape).part g.initial initial
    pub is : new ≡ with_global g.name.text (type_found table g.shape).part initial old

  globalled : (before : List Member) (g : GlobalDecl) (e : Option Expr) → Reads Made (Unit {0})
  globalled before g e = given (type_found table g.shape) >>= λ shape. tells g.name.spot (λ made. global_codes table before g.name.text) >>= λ _. optional (option_map (initial_read table shape) e) >>= λ initial. changes (λ made. record { part = tt; state = with_global g.name.text shape initial made })

  globalled_made : (before : List Member) (g : GlobalDecl) (e : Option Expr) (old : Made) → g.initial ≡ e → (globalled before g e old).faults ≡ [] → GlobalMade before g old (globalled before g e old).part.state
  unfolding globalled ◌>>=◌ tells given looks changes optional pure
  globalled_made before g None old is none =
      let one = no_both (type_found table g.shape).faults _ none in
      let two = no_both (told g.name.spot (global_codes table before g.name.text)) _ one.1 in
      record {
        type = one.0;
        codes = no_told g.name.spot (global_codes table before g.name.text) two.0;
        initial = None;
        initial_made = subst (λ e. InitialMade (length old.monitors) (type_found table g.shape).part e None) (sym is) refl;
        is = refl;
      }
  globalled_made before g (Some e) old is none =
      let s = (type_found table g.shape).part in
      let found = expr_found table (start_of table (short (length old.monitors)) None) e (exactly s) in
      let one = no_both (type_found table g.shape).faults _ none in
      let two = no_both (told g.name.spot (global_codes table before g.name.text)) _ one.1 in
      let three = no_both (found.faults ++ []) _ two.1 in
      let four = no_both found.faults [] three.0 in
      record {
        type = one.0;
        codes = no_told g.name.spot (global_codes table before g.name.text) two.0;
        initial = Some found.part;
        initial_made = subst (λ e. InitialMade (length old.monitors) (type_found table g.shape).part e (Some found.part)) (sym is) (refl, four.0);
        is = refl;
      }

  pub global_made : (before : List Member) (g : GlobalDecl) (old : Made) → (global_read table before g old).faults ≡ [] → GlobalMade before g old (global_read table before g old).part.state
  unfolding globalled
  global_made before g old none = globalled_made before g g.initial old refl none

-- ---- what a global begins with has its shape

module _ (rules : Rules) (program : Program) (table : Table) (types : table.types ≡ program.types) (few : length program.types ≤ 1000) (kinds : AllByRecursion (KnowsType program.types) program.types) where
  nothing_known : (monitor monitors : ℕ) (e : Expr) → KnowsNamed (expr_names e) table (no_names program monitor) (start_of table (short monitors) None)
  nothing_known monitor monitors e = record { types = types; few = omega arith; kinds = kinds; seen = tt; actions = λ name head found. none_isnt head found }

  initial_fits : (monitor monitors : ℕ) (g : Global) (e : Option Expr) (initial : Option TypedExpr) → stands program.types g.shape ≡ true → InitialMade table program.types types [] monitors g.shape e initial → initial_so program monitor g initial ≡ true
  initial_fits monitor monitors g None initial stand made = ap (initial_so program monitor g) made
  initial_fits monitor monitors g (Some e) initial stand made =
      ap (initial_so program monitor g) made.0
      ∙ has_exact (no_names program monitor) g.shape _ (rules.expressions table (no_names program monitor) (start_of table (short monitors) None) e (exactly g.shape) (nothing_known monitor monitors e) stand made.1)

  -- a global with its shape
  pub global_holds : (monitor monitors : ℕ) (g : Global) (e : Option Expr) → stands program.types g.shape ≡ true → InitialMade table program.types types [] monitors g.shape e g.initial → global_so program monitor g ≡ true
  global_holds monitor monitors g e stand made = both_true stand (initial_fits monitor monitors g e g.initial stand made)

-- ---- an action with its body, where its head stands for it

module _ (rules : Rules) (program : Program) (table : Table) (types : table.types ≡ program.types) (members : List Member) where
  -- where the program has what the action makes, it and its sites are as they should be
  pub made_holds : (before : List Member) (a : ActionDecl) (old new : Made) → ActionMade table program.types types members before a old new
      → (world : World program table (short (length old.monitors))) (known : HeadsKnown program table (short (length old.monitors)))
      → (n : ℕ) → slice_get known.head.actions (short (actions_before before)) ≡ Some (action_head (event_of table) n a)
      → ((i : ℕ) (x : Site) → length old.sites ≤ i → slice_get new.sites i ≡ Some x → slice_get program.sites i ≡ Some x)
      → (A : Action) × (new.actions ≡ old.actions ++ A ∷ []) × (new.monitors ≡ old.monitors) × (new.globals ≡ old.globals) × (action_so program A ≡ true) × SitesHold program (length old.sites) (length new.sites)
  made_holds before a old new made world known n at finished =
      let found = row_read (body_around table made.result old) (map part_of a.body) (body_start table before made.params old) in
      let acting : Acting program table (short (length old.monitors)) known (short (actions_before before)) made.params made.result = record {
        head = action_head (event_of table) n a;
        at = at;
        wants = made.params_so.wants;
        few = made.few;
        stand = made.params_so.stand;
        gives = made.result_so.stands;
      } in
      let holds = action_holds rules program table (short (length old.monitors)) world known (short (actions_before before)) made.params made.result acting
      (body_around table made.result old)
      (record { world = world; callbacks = refl; result = refl; stands = made.result_so.stands })
      a.body old.sites made.body
      (λ i x from at. finished i x from (ap (λ (m : Made). slice_get m.sites i) made.is ∙ at)) in (
        action_of old made.params made.result found.part,
        ap (λ (m : Made). m.actions) made.is,
        ap (λ (m : Made). m.monitors) made.is,
        ap (λ (m : Made). m.globals) made.is,
        holds.action,
        subst (λ (m : Made). SitesHold program (length old.sites) (length m.sites)) (sym made.is) holds.sites,
      )

  -- its sites are added to those before
  pub made_sites : (before : List Member) (a : ActionDecl) (old new : Made) → ActionMade table program.types types members before a old new
      → (world : World program table (short (length old.monitors))) (known : HeadsKnown program table (short (length old.monitors)))
      → (n : ℕ) → slice_get known.head.actions (short (actions_before before)) ≡ Some (action_head (event_of table) n a)
      → Extends old.sites new.sites
  made_sites before a old new made world known n at =
      let acting : Acting program table (short (length old.monitors)) known (short (actions_before before)) made.params made.result = record {
        head = action_head (event_of table) n a;
        at = at;
        wants = made.params_so.wants;
        few = made.few;
        stand = made.params_so.stand;
        gives = made.result_so.stands;
      } in
      let sites = body_sites rules program table (short (length old.monitors)) world known (short (actions_before before)) made.params made.result acting
      (body_around table made.result old)
      (record { world = world; callbacks = refl; result = refl; stands = made.result_so.stands })
      a.body old.sites in
      subst (λ (m : Made). Extends old.sites m.sites) (sym made.is) sites
