-- The members of a monitor in order: its globals and its actions are their declarations with names resolved.
use Rattle.std.proofs.Common.{◌≡◌, ℕ, zero, suc, ◌+◌, ◌<◌, ◌≤◌, nat_le, Bool, true, cond, ◌||◌, ◌&&◌, not, ◌==◌, if◌then◌else◌, is_some, List, [], ◌∷◌, ◌++◌, map, length, Option, Some, None, refl, sym, ap, subst, ◌∙◌, slice_get, position, arith, codes}
use Rattle.std.specs.Option.{option_map}
use Rattle.std.specs.Str.{bytes_eq}
use Rattle.std.proofs.lemmas.Bool.{or_parts, leb-false}
use Rattle.std.proofs.lemmas.List.{length-append}
use Rattle.std.proofs.lemmas.List.Sums.{sum_by-append}
use Rattle.epl_values.specs.declared.shape.EventShape.{EventShape}
use Rattle.epl_values.specs.declared.shape.Shape.{Shape}
use Rattle.epl_tree.specs.declared.expression.Expr.{Expr}
use Rattle.epl_tree.specs.declared.types.TypeExpr.{TypeExpr}
use Rattle.epl_tree.specs.declared.unit.ActionDecl.{ActionDecl}
use Rattle.epl_tree.specs.declared.unit.GlobalDecl.{GlobalDecl}
use Rattle.epl_tree.specs.declared.unit.Member.{Member}
use Rattle.epl_tree.specs.declared.unit.Member.TheVariants as member
use Rattle.epl_tree.specs.declared.unit.Param.{Param}
use Rattle.typed_program.specs.declared.expression.TypedExpr.{TypedExpr}
use Rattle.typed_program.specs.declared.program.Action.{Action}
use Rattle.typed_program.specs.declared.program.Global.{Global}
use Rattle.typed_program.specs.declared.program.Program.{Program}
use Rattle.typed_program.specs.declared.program.Site.{Site}
use Rattle.typed_program.specs.declared.statement.Stmt.{Stmt}
use Rattle.type_table.specs.declared.fault.Fault.{Fault}
use Rattle.type_table.specs.declared.scope.Scope.{Scope}
use Rattle.type_table.specs.declared.scope.Seen.{Seen}
use Rattle.type_table.specs.declared.table.ActionHead.{ActionHead}
use Rattle.type_table.specs.declared.table.GlobalHead.{GlobalHead}
use Rattle.type_table.specs.declared.table.MonitorHead.{MonitorHead}
use Rattle.type_table.specs.declared.table.Table.{Table}
use Rattle.type_table.specs.Found.{Found, told}
use Rattle.type_table.specs.Heads.{param_head, action_head, actions_from}
use Rattle.type_table.specs.Heads.{globals_in as heads_in}
use Rattle.type_table.specs.Scopes.{start_of, start_names, action_names, globals_after, params_from}
use Rattle.type_table.specs.Table.{event_of}
use Rattle.type_table.specs.Types.{type_by, type_found, known, known_shape}
use Rattle.expr_rules.specs.Calls.{action_named}
use Rattle.expr_rules.specs.Calls.{action_in as head_in}
use Rattle.expr_rules.specs.Names.{item_at}
use Rattle.expr_check.specs.Expressions.{expr_found}
use Rattle.stmt_check.specs.declared.made.Made.{Made}
use Rattle.stmt_check.specs.declared.state.State.{State}
use Rattle.stmt_check.specs.Actions.{is_global, actions_before, param_codes, param_read, params_found, action_codes, body_around, body_start, action_of, body_read, action_read, member_codes}
use Rattle.stmt_check.specs.Bodies.{short, when, is_special}
use Rattle.stmt_check.specs.Bodies.{action_named as spawned_named, action_in as spawned_in}
use Rattle.stmt_check.specs.Endings.{ends_with_return}
use Rattle.stmt_check.specs.Members.{global_codes, initial_read, global_read, members_read, with_global}
use Rattle.stmt_check.specs.Statements.{exactly, row_read, part_of}
use Rattle.stmt_check.specs.Steps.{After, Reads, ◌>>=◌, pure, given, looks, reads_by, tells, changes, within, each, before_all, optional}
use Rattle.name_resolution.specs.Names.{Around, held}
use Rattle.name_resolution.specs.Types.{TypeIs}
use Rattle.name_resolution.specs.Expressions.{ExprIs}
use Rattle.name_resolution.proofs.Seeing.{ActionsAgree, meant_by}
use Rattle.name_resolution.specs.Statements.{Here, MaybeIs, RowIs}
use Rattle.name_resolution.specs.Statements as stmts
use Rattle.name_resolution.proofs.Bodies.{Fit, Matches, every}
use Rattle.name_resolution.specs.Units.{globals_in, actions_in, names_of, global_names, param_names, ParamsAre, ResultIs, ActionIs, ActionsAre, GlobalIs, GlobalsAre}
use Rattle.name_resolution.specs.Units as rule
use Rattle.name_resolution.proofs.Sure.{no_both, no_told}
use Rattle.name_resolution.proofs.Through.{regroup, append_none}
use Rattle.name_resolution.proofs.TypesRead.{type_sure}
use Rattle.name_resolution.proofs.Claims.{is_called, first_by, seen_first, Extends, extends_same, extends_on}
use Rattle.name_resolution.proofs.Heads.{Heads, Shaped, start_means, action_is, none_some}
use Rattle.name_resolution.proofs.Accepted.{expressions, row_resolves, row_claim}
use Rattle.name_resolution.proofs.StatementsRead.{no_when}

-- ---- types, where no fault is found

type_known : (number_of : List ℕ → Option ℕ) (t : TypeExpr) → (type_by number_of t).faults ≡ [] → known (type_by number_of t) ≡ Some (type_by number_of t).part
type_known number_of t none = ap (λ (fs : List Fault). known_shape fs (type_by number_of t).part) none

pub extends_push : {A : Type 0} (xs : List A) (y : A) → Extends xs (xs ++ y ∷ [])
extends_push xs y = record { long = (let e = length-append xs (y ∷ []) in omega arith); at = λ i x h. front xs i x h }
  where
    front : (xs : List _) (i : ℕ) (x : _) → slice_get xs i ≡ Some x → slice_get (xs ++ y ∷ []) i ≡ Some x
    front [] i x h = absurd (none_some x h)
    front (z ∷ xs) zero x h = h
    front (z ∷ xs) (suc i) x h = front xs i x h

pub last_at : {A : Type 0} (xs : List A) (y : A) → slice_get (xs ++ y ∷ []) (length xs) ≡ Some y
last_at [] y = refl
last_at (x ∷ xs) y = last_at xs y

module _ (table : Table) (types : List EventShape) (same : table.types ≡ types) where
  type_is : (t : TypeExpr) → (type_found table t).faults ≡ [] → TypeIs types t (type_found table t).part
  type_is t none = subst (λ (ts : List EventShape). TypeIs ts t (type_found table t).part) same ((type_sure table t).where_clear none)

  -- ---- globals

  around_none : Around
  around_none = record { types = types; actions = []; first = 0 }

  -- a global that is read
  record GlobalSo (g : GlobalDecl) (old new : Made) : Type 0 where
    shape_clear : (type_found table g.shape).faults ≡ []
    initial : Option TypedExpr
    is : new ≡ with_global g.name.text (type_found table g.shape).part initial old
    initial_is : MaybeIs (record { types = types; actions = []; first = 0 }) [] g.initial initial

  initial_at : (monitor : ℕ) (e : Expr) (s : Shape) → (expr_found table (start_of table monitor None) e (exactly s)).faults ≡ [] → ExprIs (record { types = types; actions = []; first = 0 }) [] e (expr_found table (start_of table monitor None) e (exactly s)).part
  initial_at monitor e s none =
      expressions table (start_of table monitor None) (record { types = types; actions = []; first = 0 }) [] same
      (record { known = λ name head h. absurd (none_some head h) })
      e (record { same = λ name is. ap (λ (o : Option Seen). option_map meant_by o) (sym (seen_first (start_of table monitor None) name)) }) (exactly s) refl none

  abbrev global_as : GlobalDecl → List Member → Option Expr → Reads Made (Unit {0})
  global_as g before o = given (type_found table g.shape) >>= λ shape. tells g.name.spot (λ made. global_codes table before g.name.text) >>= λ _. optional (option_map (initial_read table shape) o) >>= λ initial. changes (λ made. record { part = tt; state = with_global g.name.text shape initial made })

  global_by : (g : GlobalDecl) (before : List Member) (o : Option Expr) (old : Made)
      → (global_as g before o old).faults ≡ []
      → (initial : Option TypedExpr) × ((global_as g before o old).part.state ≡ with_global g.name.text (type_found table g.shape).part initial old) × MaybeIs (record { types = types; actions = []; first = 0 }) [] o initial × ((type_found table g.shape).faults ≡ [])
  unfolding ◌>>=◌ given tells changes optional pure looks
  global_by g before None old none = (None, refl, stmts.no_expr, (no_both (type_found table g.shape).faults (told g.name.spot (global_codes table before g.name.text) ++ ([] ++ [])) none).0)
  global_by g before (Some e) old none =
      let monitor = short (length old.monitors) in
      let found = expr_found table (start_of table monitor None) e (exactly (type_found table g.shape).part) in
      let one = no_both (type_found table g.shape).faults (told g.name.spot (global_codes table before g.name.text) ++ ((found.faults ++ []) ++ [])) none in
      let two = no_both (told g.name.spot (global_codes table before g.name.text)) ((found.faults ++ []) ++ []) one.1 in
      let three = no_both (found.faults ++ []) [] two.1 in
      let four = no_both found.faults [] three.0 in
      (Some found.part, refl, stmts.an_expr (initial_at monitor e (type_found table g.shape).part four.0), one.0)

  global_so : (g : GlobalDecl) (before : List Member) (old : Made) → (global_read table before g old).faults ≡ [] → GlobalSo g old (global_read table before g old).part.state
  global_so g before old none = let r = global_by g before g.initial old none in record { shape_clear = r.3; initial = r.0; is = r.1; initial_is = r.2 }

  -- ---- parameters and results

  ParamsSo : List Param → List Shape → Type 0
  ParamsSo ps ss = ParamsAre types ps ss × Shaped (map (param_head (event_of table)) ps) ps ss

  params_by : (members : List Member) (ps : List Param) (before : List Param) → (each (map (param_read table members) ps) before).faults ≡ [] → ParamsSo ps (each (map (param_read table members) ps) before).part.part
  unfolding ParamsSo each pure ◌>>=◌ before_all given tells changes
  params_by members [] before none = (rule.no_params, tt)
  params_by members (p ∷ ps) before none =
      let rest = each (map (param_read table members) ps) (before ++ p ∷ []) in
      let codes = told p.name.spot (param_codes members before p.name.text) in
      let one = no_both ((type_found table p.shape).faults ++ (codes ++ [])) rest.faults none in
      let two = no_both (type_found table p.shape).faults (codes ++ []) one.0 in
      let more = params_by members ps (before ++ p ∷ []) one.1 in
      (rule.a_param (type_is p.shape two.0) more.0, ((refl, type_known (event_of table) p.shape two.0), more.1))

  params_so : (members : List Member) (ps : List Param) → (params_found table members ps).faults ≡ [] → ParamsSo ps (params_found table members ps).part
  unfolding params_found
  params_so members ps none = params_by members ps [] none

  params_long : (ps : List Param) (ss : List Shape) → ParamsAre types ps ss → length ss ≡ length ps
  params_long [] [] h = refl
  params_long [] (s ∷ ss) h = elim h [ ]
  params_long (p ∷ ps) [] h = elim h [ ]
  params_long (p ∷ ps) (s ∷ ss) (rule.a_param t h) = ap suc (params_long ps ss h)

  -- ---- actions

  -- an action that is read: its parameters, its result, and its body from where it begins
  record ActionSo (before : List Member) (a : ActionDecl) (old new : Made) : Type 0 where
    params : List Shape
    params_so_far : ParamsAre types a.params params
    shaped : Shaped (map (param_head (event_of table)) a.params) a.params params
    result : Option Shape
    result_is : ResultIs types a.result result
    few : actions_before before < 256
    clear : (row_read (body_around table result old) (map part_of a.body) (body_start table before params old)).faults ≡ []
    actions : new.actions ≡ old.actions ++ action_of old params result (row_read (body_around table result old) (map part_of a.body) (body_start table before params old)).part ∷ []
    sites_are : new.sites ≡ (row_read (body_around table result old) (map part_of a.body) (body_start table before params old)).part.state.sites
    monitors : new.monitors ≡ old.monitors
    globals : new.globals ≡ old.globals
    all_few : length old.actions < 65535

  few_of : (before : List Member) (a : ActionDecl) (made : Made) → action_codes table before a made ≡ [] → (actions_before before < 256) × (length made.actions < 65535)
  unfolding action_codes
  few_of before a made codes =
      let limit = nat_le 256 (actions_before before) || nat_le 65535 (length made.actions + length made.sites) in
      let one = no_both (member_codes table before a.name.text ++ when limit 4 ++ when (is_special a.name.text && (not (length a.params == 0) || is_some a.result)) 5) (when (is_some a.result && not (ends_with_return a.body)) 16) codes in
      let two = no_both (member_codes table before a.name.text ++ when limit 4) (when (is_special a.name.text && (not (length a.params == 0) || is_some a.result)) 5) one.0 in
      let three = no_both (member_codes table before a.name.text) (when limit 4) two.0 in
      let few = or_parts (nat_le 256 (actions_before before)) (nat_le 65535 (length made.actions + length made.sites)) (no_when limit 4 three.1) in
      let all = leb-false 65535 (length made.actions + length made.sites) few.1 in
      (leb-false 256 (actions_before before) few.0, omega (arith, all))

  action_by : (members before : List Member) (a : ActionDecl) (o : Option TypeExpr) (old : Made)
      → ((tells a.name.spot (action_codes table before a) >>= λ _. given (params_found table members a.params) >>= λ params. optional (option_map (λ t. given (type_found table t)) o) >>= λ result. body_read table before a.body params result) old).faults ≡ []
      → (result : Option Shape) × ResultIs types o result × (action_codes table before a old ≡ []) × ((params_found table members a.params).faults ≡ [])
      × ((row_read (body_around table result old) (map part_of a.body) (body_start table before (params_found table members a.params).part old)).faults ≡ [])
      × (((tells a.name.spot (action_codes table before a) >>= λ _. given (params_found table members a.params) >>= λ params. optional (option_map (λ t. given (type_found table t)) o) >>= λ result. body_read table before a.body params result) old).part.state ≡ record old { actions = old.actions ++ action_of old (params_found table members a.params).part result (row_read (body_around table result old) (map part_of a.body) (body_start table before (params_found table members a.params).part old)).part ∷ []; sites = (row_read (body_around table result old) (map part_of a.body) (body_start table before (params_found table members a.params).part old)).part.state.sites })
  unfolding ◌>>=◌ given tells optional pure reads_by within
  action_by members before a None old none =
      let params = params_found table members a.params in
      let row = row_read (body_around table None old) (map part_of a.body) (body_start table before params.part old) in
      let one = no_both (told a.name.spot (action_codes table before a old)) (params.faults ++ ([] ++ row.faults)) none in
      let two = no_both params.faults ([] ++ row.faults) one.1 in
      (None, rule.no_result, no_told a.name.spot (action_codes table before a old) one.0, two.0, two.1, refl)
  action_by members before a (Some t) old none =
      let params = params_found table members a.params in
      let found = type_found table t in
      let row = row_read (body_around table (Some found.part) old) (map part_of a.body) (body_start table before params.part old) in
      let one = no_both (told a.name.spot (action_codes table before a old)) (params.faults ++ ((found.faults ++ []) ++ row.faults)) none in
      let two = no_both params.faults ((found.faults ++ []) ++ row.faults) one.1 in
      let three = no_both (found.faults ++ []) row.faults two.1 in
      let four = no_both found.faults [] three.0 in
      (Some found.part, rule.a_result (type_is t four.0), no_told a.name.spot (action_codes table before a old) one.0, two.0, three.1, refl)

  action_so : (members before : List Member) (a : ActionDecl) (old : Made) → (action_read table members before a old).faults ≡ [] → ActionSo before a old (action_read table members before a old).part.state
  unfolding ParamsSo
  action_so members before a old none =
      let r = action_by members before a a.result old none in
      let few = few_of before a old r.2 in
      let params = params_so members a.params r.3 in
      record {
        params = (params_found table members a.params).part;
        params_so_far = params.0;
        shaped = params.1;
        result = r.0;
        result_is = r.1;
        few = few.0;
        clear = r.4;
        actions = ap (λ (m : Made). m.actions) r.5;
        sites_are = ap (λ (m : Made). m.sites) r.5;
        monitors = ap (λ (m : Made). m.monitors) r.5;
        globals = ap (λ (m : Made). m.globals) r.5;
        all_few = few.1;
      }

  -- the sites only grow
  abbrev body_after : List Member → ActionDecl → List Shape → Option Shape → Made → Found (After State (List Stmt))
  body_after before a params result old = row_read (body_around table result old) (map part_of a.body) (body_start table before params old)

  -- ---- the finished monitor

  -- the head of a monitor in the table, with the globals that are made of it
  pub record Head (members : List Member) (monitor first : ℕ) (globals : List Global) : Type 0 where
    pub head : MonitorHead
    pub at : slice_get table.monitors monitor ≡ Some head
    pub heads : head.globals ≡ heads_in (event_of table) members
    pub actions : head.actions ≡ actions_from (event_of table) first members
    pub known : Heads (heads_in (event_of table) members) globals

  module _ (members : List Member) (monitor first : ℕ) (globals : List Global) (head : Head members monitor first globals) where
    abbrev around : Around
    around = record { types = types; actions = names_of (actions_in members); first = first }

    seen_actions : (scope : Scope) → scope.monitor ≡ monitor → scope.actions ≡ true → ActionsAgree table scope (names_of (actions_in members)) first
    seen_actions scope own visible = record {
      known = λ name h found.
          let at_head : action_named table scope name ≡ item_at (actions_from (event_of table) first members) (position (λ (a : ActionHead). bytes_eq a.name name) (actions_from (event_of table) first members)) =
          ap (λ (b : Bool). if b then head_in (slice_get table.monitors scope.monitor) name else None) visible
          ∙ ap (λ (n : ℕ). head_in (slice_get table.monitors n) name) own
          ∙ ap (λ (o : Option MonitorHead). head_in o name) head.at
          ∙ ap (λ (l : List ActionHead). item_at l (position (λ (a : ActionHead). bytes_eq a.name name) l)) head.actions in
          action_is (event_of table) name first members h (sym at_head ∙ found);
    }

    spawned_same : (l : List ActionHead) (o : Option ℕ) → elim o [ None ↦ None | Some at ↦ slice_get l at ] ≡ item_at l o
    spawned_same l None = refl
    spawned_same l (Some n) = refl

    pub spawned_at : (name : List ℕ) → spawned_named table monitor name ≡ item_at (actions_from (event_of table) first members) (position (λ (a : ActionHead). bytes_eq a.name name) (actions_from (event_of table) first members))
    spawned_at name =
        ap (λ (o : Option MonitorHead). spawned_in o name) head.at
        ∙ spawned_same head.head.actions (position (λ (a : ActionHead). bytes_eq a.name name) head.head.actions)
        ∙ ap (λ (l : List ActionHead). item_at l (position (λ (a : ActionHead). bytes_eq a.name name) l)) head.actions

    fit : (result : Option Shape) (old : Made) → Fit (record { types = types; actions = names_of (actions_in members); first = first }) monitor 0 (body_around table result old)
    fit result old = record {
      types = same;
      acts = seen_actions;
      spawned = λ name h found. action_is (event_of table) name first members h (sym (spawned_at name) ∙ found);
      callbacks_are = refl;
    }

    -- an action of the monitor, behind others
    action_place : (before : List Member) (a : ActionDecl) (rest : List Member) (n : ℕ) → slice_get (actions_from (event_of table) n (before ++ member.Action a ∷ rest)) (length (actions_in before)) ≡ Some (action_head (event_of table) (n + length (actions_in before)) a)
    action_place [] a rest n = let z : n ≡ n + 0 = omega arith in ap (λ (m : ℕ). Some (action_head (event_of table) m a)) z
    action_place (member.Global g ∷ before) a rest n = action_place before a rest n
    action_place (member.Action b ∷ before) a rest n = action_place before a rest (n + 1) ∙ (let z : n + 1 + length (actions_in before) ≡ n + suc (length (actions_in before)) = omega arith in ap (λ (m : ℕ). Some (action_head (event_of table) m a)) z)

    start_at : (before : List Member) (a : ActionDecl) (rest : List Member) → members ≡ before ++ member.Action a ∷ rest → actions_before before ≡ length (actions_in before) → actions_before before < 256 → (start_of table monitor (Some (short (actions_before before)))).names ≡ globals_after [] 0 (heads_in (event_of table) members) ++ params_from 0 (map (param_head (event_of table)) a.params)
    start_at before a rest are counted few =
        let small : short (actions_before before) ≡ length (actions_in before) = omega (arith, counted) in
        ap (λ (o : Option MonitorHead). start_names o (short (actions_before before))) head.at
        ∙ ap (λ (o : Option ActionHead). action_names head.head o) (ap (slice_get head.head.actions) small ∙ ap (λ (l : List ActionHead). slice_get l (length (actions_in before))) head.actions ∙ ap (λ (l : List Member). slice_get (actions_from (event_of table) first l) (length (actions_in before))) are ∙ action_place before a rest first)
        ∙ ap (λ (l : List GlobalHead). globals_after [] 0 l ++ params_from 0 (map (param_head (event_of table)) a.params)) head.heads

    abbrev begin : List Param → List Shape → Here
    begin ps ss = record { names = global_names 0 globals ++ param_names 0 ps ss; next = held (length ps); locals = [] }

    body_matches : (before : List Member) (a : ActionDecl) (rest : List Member) (params : List Shape) (old : Made) → short (length old.monitors) ≡ monitor → members ≡ before ++ member.Action a ∷ rest → actions_before before ≡ length (actions_in before) → actions_before before < 256 → ParamsAre types a.params params → Shaped (map (param_head (event_of table)) a.params) a.params params → Matches every (begin a.params params) (body_start table before params old)
    body_matches before a rest params old own are counted few is shaped = record {
      names = record {
        same = λ name n.
            let scope = start_of table (short (length old.monitors)) (Some (short (actions_before before))) in
            start_means (heads_in (event_of table) members) globals (map (param_head (event_of table)) a.params) a.params params head.known shaped name
            ∙ ap (λ (o : Option Seen). option_map meant_by o) (ap (λ (l : List Seen). first_by (is_called name) l) (sym (ap (λ (m : ℕ). (start_of table m (Some (short (actions_before before)))).names) own ∙ start_at before a rest are counted few)) ∙ sym (seen_first scope name));
      };
      next = ap held (sym (params_long a.params params is));
      locals = refl;
    }

    action_whole : (sites : List Site) (before : List Member) (a : ActionDecl) (rest : List Member) (old new : Made) (so : ActionSo before a old new) → short (length old.monitors) ≡ monitor → members ≡ before ++ member.Action a ∷ rest → actions_before before ≡ length (actions_in before) → Extends new.sites sites
        → ActionIs (record { types = types; actions = names_of (actions_in members); first = first }) sites monitor globals a (action_of old so.params so.result (body_after before a so.params so.result old).part)
    action_whole sites before a rest old new so own are counted ext =
        let s = body_start table before so.params old in
        let whole : Around = record { types = types; actions = names_of (actions_in members); first = first } in
        let row = row_resolves whole sites monitor 0 (body_around table so.result old) (fit so.result old) a.body s (begin a.params so.params) so.clear
        (record { at = λ i x from e. let z : 0 + i ≡ i = omega arith in ap (slice_get sites) z ∙ ext.at i x (ap (λ (l : List Site). slice_get l i) so.sites_are ∙ e) })
        (record { own = own; actions = refl })
        (body_matches before a rest so.params old own are counted so.few so.params_so_far so.shaped) in
        let m = row.matches in
        record { own = own; params = so.params_so_far; result = so.result_is; end = row.end; body = row.row; locals = sym m.locals }

  -- ---- members in order

  pub record Went (members rest : List Member) (old new : Made) : Type 0 where
    pub monitors : new.monitors ≡ old.monitors
    pub actions : Extends old.actions new.actions
    pub many : length new.actions ≡ length old.actions + length (actions_in rest)
    pub few : length old.actions ≤ 65535 → length new.actions ≤ 65535
    pub more : List Global
    pub globals_are : new.globals ≡ old.globals ++ more
    pub globals_so : GlobalsAre types (globals_in rest) more
    pub heads_so : Heads (heads_in (event_of table) rest) more
    pub sites : (monitor first : ℕ) (globals : List Global) → Head members monitor first globals → Extends old.sites new.sites
    pub holds : (program : Program) (monitor first : ℕ) (globals : List Global) → Head members monitor first globals → short (length old.monitors) ≡ monitor → Extends new.actions program.actions → Extends new.sites program.sites → ActionsAre (record { types = types; actions = names_of (actions_in members); first = first }) program monitor globals (length old.actions) (actions_in rest)

  counted_global : (before : List Member) (g : GlobalDecl) → actions_before (before ++ member.Global g ∷ []) ≡ actions_before before
  unfolding is_global
  counted_global before g = let e = sum_by-append (λ (m : Member). cond (not (is_global m)) 1 0) before (member.Global g ∷ []) in omega (arith, e)

  counted_action : (before : List Member) (a : ActionDecl) → actions_before (before ++ member.Action a ∷ []) ≡ actions_before before + 1
  unfolding is_global
  counted_action before a = sum_by-append (λ (m : Member). cond (not (is_global m)) 1 0) before (member.Action a ∷ [])

  listed_global : (before : List Member) (g : GlobalDecl) → length (actions_in (before ++ member.Global g ∷ [])) ≡ length (actions_in before)
  listed_global [] g = refl
  listed_global (member.Global h ∷ before) g = listed_global before g
  listed_global (member.Action a ∷ before) g = ap suc (listed_global before g)

  listed_action : (before : List Member) (a : ActionDecl) → length (actions_in (before ++ member.Action a ∷ [])) ≡ length (actions_in before) + 1
  listed_action [] a = refl
  listed_action (member.Global h ∷ before) a = listed_action before a
  listed_action (member.Action b ∷ before) a = let e = listed_action before a in omega (arith, e)

  went_global : (members rest : List Member) (g : GlobalDecl) (old mid new : Made) → GlobalSo g old mid → Went members rest mid new → Went members (member.Global g ∷ rest) old new
  went_global members rest g old mid new so w =
      let G : Global = record { name = g.name.text; shape = (type_found table g.shape).part; initial = so.initial } in
      let actions : mid.actions ≡ old.actions = ap (λ (m : Made). m.actions) so.is in
      let sites : mid.sites ≡ old.sites = ap (λ (m : Made). m.sites) so.is in
      let monitors : mid.monitors ≡ old.monitors = ap (λ (m : Made). m.monitors) so.is in
      record {
        monitors = w.monitors ∙ monitors;
        actions = subst (λ (l : List Action). Extends l new.actions) actions w.actions;
        many = w.many ∙ ap (λ (l : List Action). length l + length (actions_in rest)) actions;
        few = λ le. w.few (subst (λ (l : List Action). length l ≤ 65535) (sym actions) le);
        more = G ∷ w.more;
        globals_are = w.globals_are ∙ ap (λ (m : Made). m.globals ++ w.more) so.is ∙ regroup old.globals G w.more;
        globals_so = rule.a_global (record { name = refl; shape = type_is g.shape so.shape_clear; initial = so.initial_is }) w.globals_so;
        heads_so = ((refl, type_known (event_of table) g.shape so.shape_clear), w.heads_so);
        sites = λ monitor first globals head. subst (λ (l : List Site). Extends l new.sites) sites (w.sites monitor first globals head);
        holds = λ program monitor first globals head own ea es. subst (λ (l : List Action). ActionsAre (record { types = types; actions = names_of (actions_in members); first = first }) program monitor globals (length l) (actions_in rest)) actions (w.holds program monitor first globals head (ap (λ (l : List _). short (length l)) monitors ∙ own) ea es);
      }

  went_action : (members before rest : List Member) (a : ActionDecl) (old mid new : Made) → ActionSo before a old mid → members ≡ before ++ member.Action a ∷ rest → actions_before before ≡ length (actions_in before) → Went members rest mid new → Went members (member.Action a ∷ rest) old new
  went_action members before rest a old mid new so are counted w =
      let A : Action = action_of old so.params so.result (body_after before a so.params so.result old).part in
      let more : length mid.actions ≡ length old.actions + 1 = ap length so.actions ∙ length-append old.actions (A ∷ []) in
      let many = w.many in
      record {
        monitors = w.monitors ∙ so.monitors;
        actions = extends_on (subst (λ (l : List Action). Extends old.actions l) (sym so.actions) (extends_push old.actions A)) w.actions;
        many = omega arith;
        few = λ le. w.few (let few = so.all_few in omega arith);
        more = w.more;
        globals_are = w.globals_are ∙ ap (λ (l : List Global). l ++ w.more) so.globals;
        globals_so = w.globals_so;
        heads_so = w.heads_so;
        sites = λ monitor first globals head. extends_on (grown members before a old mid so monitor first globals head) (w.sites monitor first globals head);
        holds = λ program monitor first globals head own ea es.
            let there : slice_get program.actions (length old.actions) ≡ Some A = ea.at (length old.actions) A (w.actions.at (length old.actions) A (ap (λ (l : List Action). slice_get l (length old.actions)) so.actions ∙ last_at old.actions A)) in
            let one = action_whole members monitor first globals head program.sites before a rest old mid so own are counted (extends_on (w.sites monitor first globals head) es) in
            rule.an_action there one (subst (λ (n : ℕ). ActionsAre (record { types = types; actions = names_of (actions_in members); first = first }) program monitor globals n (actions_in rest)) more (w.holds program monitor first globals head (ap (λ (l : List _). short (length l)) so.monitors ∙ own) ea es));
      }
    where
      grown : (members before : List Member) (a : ActionDecl) (old mid : Made) (so : ActionSo before a old mid) (monitor first : ℕ) (globals : List Global) → Head members monitor first globals → Extends old.sites mid.sites
      grown members before a old mid so monitor first globals head =
          let c = row_claim (record { types = types; actions = names_of (actions_in members); first = first }) [] monitor 0 (body_around table so.result old) (fit members monitor first globals head so.result old) a.body (body_start table before so.params old) in
          subst (λ (l : List Site). Extends old.sites l) (sym so.sites_are) c.sites

  pub went : (members before rest : List Member) (old : Made) → members ≡ before ++ rest → actions_before before ≡ length (actions_in before) → (members_read table members before rest old).faults ≡ [] → Went members rest old (members_read table members before rest old).part.state
  unfolding ◌>>=◌ pure
  went members before [] old are counted none = record {
    monitors = refl;
    actions = extends_same old.actions;
    many = omega arith;
    few = λ le. le;
    more = [];
    globals_are = sym (append_none old.globals);
    globals_so = rule.no_globals;
    heads_so = tt;
    sites = λ monitor first globals head. extends_same old.sites;
    holds = λ program monitor first globals head own ea es. rule.no_actions;
  }
  went members before (member.Global g ∷ rest) old are counted none =
      let mid = (global_read table before g old).part.state in
      let split = no_both (global_read table before g old).faults (members_read table members (before ++ member.Global g ∷ []) rest mid).faults none in
      went_global members rest g old mid _ (global_so g before old split.0)
      (went members (before ++ member.Global g ∷ []) rest mid (are ∙ sym (regroup before (member.Global g) rest)) (counted_global before g ∙ counted ∙ sym (listed_global before g)) split.1)
  went members before (member.Action a ∷ rest) old are counted none =
      let mid = (action_read table members before a old).part.state in
      let split = no_both (action_read table members before a old).faults (members_read table members (before ++ member.Action a ∷ []) rest mid).faults none in
      went_action members before rest a old mid _ (action_so members before a old split.0) are counted
      (went members (before ++ member.Action a ∷ []) rest mid (are ∙ sym (regroup before (member.Action a) rest)) (counted_action before a ∙ ap (λ (n : ℕ). n + 1) counted ∙ sym (listed_action before a)) split.1)
