-- The body of an action: what is visible where it begins, and that it holds.
use Rattle.std.proofs.Common.{◌≡◌, ◌+◌, ◌≤◌, ◌∷◌, ◌++◌, if◌then◌else◌, ◌&&◌}
use Rattle.program_laws.proofs.Common.{ℕ, suc, min, length, map, List, [], Some, None, Bool, true, false, cond, not, is_some, Option, refl, ap, sym, subst, ◌∙◌, slice_get, arith, filter, AllByRecursion, list_all, filter-append, and_parts, Shape, Program, Site, Stmt, names_in, global_shapes, is_there, action_so, stands, Seen, ActionHead, GlobalHead, MonitorHead, ParamHead, Table, global_seen, globals_after, params_from, param_wants, KnowsName, KnowsAction, KnowsType, result_stands, State, Around, short, action_in, row_read, After}
use Rattle.epl_tree.specs.declared.statement.Stmt.{Stmt as Tree}
use Rattle.type_table.specs.Scopes.{place_in, with_global, action_names, start_names, start_of}
use Rattle.type_table.specs.Table.{action_of}
use Rattle.stmt_check.specs.Bodies.{is_global}
use Rattle.stmt_check.specs.Captures.{Names as Named}
use Rattle.stmt_check.specs.Statements.{part_of}
use Rattle.program_laws.proofs.Shapes.Forms.{Good, Free}
use Rattle.program_laws.proofs.Shapes.Frames.{Frame, World, Before, Claim, SitesHold, body_of}
use Rattle.program_laws.proofs.Shapes.Lists.{Extends, both_true, none_isnt, get_front, get_behind, all_append, list_all_both}
use Rattle.program_laws.proofs.Shapes.Locals.{each_claim}
use Rattle.program_laws.proofs.Shapes.Made.{rows_hold}
use Rattle.program_laws.proofs.Shapes.Reading.{Fitting}
use Rattle.program_laws.proofs.Shapes.Rising.{Rising, rising_below}
use Rattle.program_laws.proofs.Shapes.Rules.{Rules}
use Rattle.program_laws.proofs.Shapes.Trees.{statement_so}

-- the head of a global, and the global of that number
pub record GlobalKnown (program : Program) (monitor n : ℕ) (g : GlobalHead) : Type 0 where
  pub few : n ≤ 65535
  pub shape : Shape
  pub known : g.shape ≡ Some shape
  pub stands : stands program.types shape ≡ true
  pub at : slice_get (global_shapes (slice_get program.monitors monitor)) n ≡ Some shape

-- the heads of a monitor, and what their numbers stand for
pub record HeadsKnown (program : Program) (table : Table) (monitor : ℕ) : Type 0 where
  pub head : MonitorHead
  pub at : slice_get table.monitors monitor ≡ Some head
  pub globals : (n : ℕ) (g : GlobalHead) → slice_get head.globals n ≡ Some g → GlobalKnown program monitor n g
  pub actions : (n : ℕ) (a : ActionHead) (locals : List Shape) → slice_get head.actions n ≡ Some a → KnowsAction (names_in program monitor locals) a

-- ---- the world of a monitor

head_at : (m : MonitorHead) (o : Option ℕ) (a : ActionHead) → elim o [ None ↦ None | Some n ↦ slice_get m.actions n ] ≡ Some a → (n : ℕ) × (slice_get m.actions n ≡ Some a)
head_at m None a h = none_isnt a h
head_at m (Some n) a h = (n, h)

named_at : (o : Option MonitorHead) (m : MonitorHead) (name : List ℕ) (a : ActionHead) → o ≡ Some m → action_in o name ≡ Some a → (n : ℕ) × (slice_get m.actions n ≡ Some a)
named_at o m name a is h = head_at m (action_of m name) a (ap (λ (p : Option MonitorHead). action_in p name) (sym is) ∙ h)

pub world_of : (program : Program) (table : Table) (monitor : ℕ) → is_there program monitor ≡ true → table.types ≡ program.types → length program.types ≤ 1000 → AllByRecursion (KnowsType program.types) program.types → HeadsKnown program table monitor → World program table monitor
world_of program table monitor there types few kinds known = record {
  there = there;
  types = types;
  few = few;
  kinds = kinds;
  actions = λ locals name head found.
      let n = named_at (slice_get table.monitors monitor) known.head name head known.at found in
      known.actions n.0 head locals n.1;
}

-- ---- the names that are visible where a body begins

module _ (program : Program) (monitor : ℕ) (all : List Shape) where
  abbrev Seens : List Seen → Type 0
  Seens xs = AllByRecursion (λ x. true ≡ true → KnowsName (names_in program monitor all) x) xs

  global_known : (n : ℕ) (g : GlobalHead) → GlobalKnown program monitor n g → KnowsName (names_in program monitor all) (global_seen n g)
  global_known n g k =
      let few = k.few in
      let e : min 65535 n ≡ n = omega arith in
      record { shape = k.shape; known = k.known; stands = k.stands; at = ap (slice_get (global_shapes (slice_get program.monitors monitor))) e ∙ k.at }

  with_global_known : (seens : List Seen) (n : ℕ) (g : GlobalHead) → Seens seens → GlobalKnown program monitor n g → Seens (with_global seens n g)
  with_global_known seens n g h k = by (is_some (place_in seens g.name))
    where
      by : (b : Bool) → Seens (if b then seens else seens ++ global_seen n g ∷ [])
      by true = h
      by false = all_append (λ x. true ≡ true → KnowsName (names_in program monitor all) x) seens (global_seen n g ∷ []) h ((λ e. global_known n g k), tt)

  globals_known : (seens : List Seen) (n : ℕ) (gs : List GlobalHead) → Seens seens → ((i : ℕ) (g : GlobalHead) → slice_get gs i ≡ Some g → GlobalKnown program monitor (n + i) g) → Seens (globals_after seens n gs)
  globals_known seens n [] h f = h
  globals_known seens n (g ∷ gs) h f = globals_known (with_global seens n g) (n + 1) gs
      (with_global_known seens n g h (let z : n + 0 ≡ n = omega arith in subst (λ (m : ℕ). GlobalKnown program monitor m g) z (f 0 g refl)))
      (λ i x at. let z : n + suc i ≡ n + 1 + i = omega arith in subst (λ (m : ℕ). GlobalKnown program monitor m x) z (f (suc i) x at))

  params_known : (n : ℕ) (ps : List ParamHead) (shapes : List Shape) → n + length ps ≤ 65535 → param_wants ps ≡ map (λ s. Some s) shapes → list_all (stands program.types) shapes ≡ true → ((i : ℕ) (s : Shape) → slice_get shapes i ≡ Some s → slice_get all (n + i) ≡ Some s) → Seens (params_from n ps)
  params_known n [] shapes few is stand f = tt
  params_known n (p ∷ ps) [] few is stand f = cc
  params_known n (p ∷ ps) (s ∷ shapes) few is stand f =
      let first : p.shape ≡ Some s = cc in
      let rest : param_wants ps ≡ map (λ s. Some s) shapes = cc in
      let both = and_parts (stands program.types s) (list_all (stands program.types) shapes) stand in
      let e : min 65535 n ≡ n + 0 = omega arith in (
        (λ t. record { shape = s; known = first; stands = both.0; at = ap (slice_get all) e ∙ f 0 s refl }),
        params_known (n + 1) ps shapes (omega arith) rest both.1 (λ i x at. let z : n + 1 + i ≡ n + suc i = omega arith in ap (slice_get all) z ∙ f (suc i) x at),
      )

-- every name counts in the body of an action
abbrev pub every : Named
every name = true

abbrev counts : Seen → Bool
counts x = not (is_global x.kind) && every x.name

only_globals : (seens : List Seen) → AllByRecursion (λ x. is_global x.kind ≡ true) seens → filter counts seens ≡ []
only_globals [] h = refl
only_globals (x ∷ seens) h = ap (λ (b : Bool). cond (not b && true) (x ∷ filter counts seens) (filter counts seens)) h.0 ∙ only_globals seens h.1

pub after_globals : (seens : List Seen) (n : ℕ) (gs : List GlobalHead) → AllByRecursion (λ x. is_global x.kind ≡ true) seens → AllByRecursion (λ x. is_global x.kind ≡ true) (globals_after seens n gs)
after_globals seens n [] h = h
after_globals seens n (g ∷ gs) h = after_globals (with_global seens n g) (n + 1) gs (by (is_some (place_in seens g.name)))
  where
    by : (b : Bool) → AllByRecursion (λ x. is_global x.kind ≡ true) (if b then seens else seens ++ global_seen n g ∷ [])
    by true = h
    by false = all_append (λ x. is_global x.kind ≡ true) seens (global_seen n g ∷ []) h (refl, tt)

params_rise : (n : ℕ) (ps : List ParamHead) → n + length ps ≤ 65535 → Rising n (filter counts (params_from n ps)) (n + length ps)
params_rise n [] few = omega arith
params_rise n (p ∷ ps) few = (
  omega arith,
  rising_below (n + 1) (suc (min 65535 n)) (filter counts (params_from (n + 1) ps)) (n + length (p ∷ ps)) (omega arith)
      (let z : n + 1 + length ps ≡ n + length (p ∷ ps) = omega arith in subst (λ (m : ℕ). Rising (n + 1) (filter counts (params_from (n + 1) ps)) m) z (params_rise (n + 1) ps (omega arith))),
)

pub wants_long : (ps : List ParamHead) (shapes : List Shape) → param_wants ps ≡ map (λ s. Some s) shapes → length ps ≡ length shapes
wants_long [] [] is = refl
wants_long [] (s ∷ shapes) is = cc
wants_long (p ∷ ps) [] is = cc
wants_long (p ∷ ps) (s ∷ shapes) is =
    let rest : param_wants ps ≡ map (λ s. Some s) shapes = cc in
    let e = wants_long ps shapes rest in omega (arith, e)

-- ---- the body

-- an action as it is read: its head, its parameters and its result
pub record Acting (program : Program) (table : Table) (monitor : ℕ) (known : HeadsKnown program table monitor) (place : ℕ) (params : List Shape) (result : Option Shape) : Type 0 where
  pub head : ActionHead
  pub at : slice_get known.head.actions place ≡ Some head
  pub wants : param_wants head.params ≡ map (λ s. Some s) params
  pub few : length params ≤ 64
  pub stand : list_all (stands program.types) params ≡ true
  pub gives : result_stands program.types result ≡ true

-- where the body begins
module _ (program : Program) (table : Table) (monitor : ℕ) (known : HeadsKnown program table monitor) (place : ℕ) (params : List Shape) (result : Option Shape) (acting : Acting program table monitor known place params result) where
  -- the body of the action
  abbrev pub frame : Frame
  frame = record { program = program; monitor = monitor; callbacks = 0; base = length params; result = result; named = every }

  -- where it begins, behind these sites
  abbrev pub start : List Site → State
  start sites = record { scope = start_of table monitor (Some place); locals = []; next = short (length params); whole = 0; sites = sites }

  pub start_is : start_names (slice_get table.monitors monitor) place ≡ globals_after [] 0 known.head.globals ++ params_from 0 acting.head.params
  start_is = ap (λ (o : Option MonitorHead). start_names o place) known.at ∙ ap (action_names known.head) acting.at

  -- what the state says there
  pub start_before : (locals : List Shape) (sites : List Site) → Before frame 0 (params ++ locals) (start sites)
  start_before locals sites =
      let few = acting.few in
      let long = wants_long acting.head.params params acting.wants in
      record {
        monitor = refl;
        visible = refl;
        seen = subst (λ xs. AllByRecursion (λ x. true ≡ true → KnowsName (names_in program monitor (params ++ locals)) x) xs) (sym start_is)
            (all_append (λ x. true ≡ true → KnowsName (names_in program monitor (params ++ locals)) x) (globals_after [] 0 known.head.globals) (params_from 0 acting.head.params)
            (globals_known program monitor (params ++ locals) [] 0 known.head.globals tt (λ i g at. let z : i ≡ 0 + i = omega arith in subst (λ (m : ℕ). GlobalKnown program monitor m g) z (known.globals i g at)))
            (params_known program monitor (params ++ locals) 0 acting.head.params params (omega (arith, long)) acting.wants acting.stand (λ i s at. let z : 0 + i ≡ i = omega arith in ap (slice_get (params ++ locals)) z ∙ get_front params locals i s at)));
        rises = subst (λ xs. Rising 0 (filter counts xs) (short (length params))) (sym start_is)
            (subst (λ xs. Rising 0 xs (short (length params))) (sym (filter-append counts (globals_after [] 0 known.head.globals) (params_from 0 acting.head.params) ∙ ap (λ (xs : List Seen). xs ++ filter counts (params_from 0 acting.head.params)) (only_globals (globals_after [] 0 known.head.globals) (after_globals [] 0 known.head.globals tt))))
            (let z : 0 + length acting.head.params ≡ short (length params) = omega (arith, long) in subst (λ (m : ℕ). Rising 0 (filter counts (params_from 0 acting.head.params)) m) z (params_rise 0 acting.head.params (omega (arith, long)))));
        next = omega arith;
        small = omega arith;
        room = omega arith;
        whole = omega arith;
        stand = refl;
      }

module _ (rules : Rules) (program : Program) (table : Table) (monitor : ℕ) (world : World program table monitor) (known : HeadsKnown program table monitor) (place : ℕ) (params : List Shape) (result : Option Shape) (acting : Acting program table monitor known place params result) where
  abbrev own : Frame
  own = frame program table monitor known place params result acting

  abbrev begins : List Site → State
  begins = start program table monitor known place params result acting

  trees_claim : (around : Around) → Fitting own around → (body : List Tree) → AllByRecursion (λ m. (s : State) → Claim own 0 0 Free (Good own) s (m s)) (map (λ p. p.reads around) (map part_of body))
  trees_claim around fitting [] = tt
  trees_claim around fitting (t ∷ body) = ((λ s. statement_so rules t own around fitting (λ name h. refl) 0 s), trees_claim around fitting body)

  body_claim : (around : Around) → Fitting own around → (body : List Tree) (s : State) → Claim own 0 0 Free (λ all xs. AllByRecursion (Good own all) xs) s (row_read around (map part_of body) s)
  body_claim around fitting body s = each_claim own 0 Free (Good own) (map (λ p. p.reads around) (map part_of body)) (trees_claim around fitting body) s

  -- the action and the sites that its body makes are as they should be
  pub record ActionHolds (after : After State (List Stmt)) (earlier : List Site) : Type 0 where
    pub action : action_so program (record { monitor = monitor; params = params; result = result; locals = after.state.locals; body = after.part }) ≡ true
    pub sites : SitesHold program (length earlier) (length after.state.sites)

  -- where the body has no fault, in a program that has what it makes
  pub action_holds : (around : Around) → Fitting own around → (body : List Tree) (sites : List Site) → (row_read around (map part_of body) (begins sites)).faults ≡ [] → ((i : ℕ) (x : Site) → length sites ≤ i → slice_get (row_read around (map part_of body) (begins sites)).part.state.sites i ≡ Some x → slice_get program.sites i ≡ Some x) → ActionHolds (row_read around (map part_of body) (begins sites)).part sites
  action_holds around fitting body sites none finished =
      let found = row_read around (map part_of body) (begins sites) in
      let after : After State (List Stmt) = found.part in
      let claim = body_claim around fitting body (begins sites) in
      let held = claim.holds (params ++ after.state.locals) tt none
      (record { locals = (λ i x at. get_behind params after.state.locals i ∙ at); sites = (λ i x from at. let z : 0 + i ≡ i = omega arith in ap (slice_get program.sites) z ∙ finished i x from at) })
      (start_before program table monitor known place params result acting after.state.locals sites) in
      record {
        action = both_true (both_true world.there (list_all_both (stands program.types) params after.state.locals acting.stand held.before.stand)) (rows_hold (body_of own (params ++ after.state.locals)) after.part held.part);
        sites = λ i x from to at. held.sites i x (omega arith) (omega arith) at;
      }

  -- its sites are added to those before
  pub body_sites : (around : Around) → Fitting own around → (body : List Tree) (sites : List Site) → Extends sites (row_read around (map part_of body) (begins sites)).part.state.sites
  body_sites around fitting body sites = (body_claim around fitting body (begins sites)).sites
