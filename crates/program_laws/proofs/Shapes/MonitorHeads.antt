-- The members of a monitor in order: each head stands for the action or the global that is made for it.
use Rattle.std.proofs.Common.{◌≡◌, ◌+◌, ◌<◌, ◌≤◌, ◌==◌, ◌∷◌, ◌++◌, ◌&&◌, ◌||◌}
use Rattle.program_laws.proofs.Common.{ℕ, zero, suc, min, length, map, List, [], Some, None, Bool, true, false, cond, not, nat_le, is_some, Option, refl, ap, sym, subst, ◌∙◌, slice_get, arith, list_all, nat_tests, sum_by-append, length-append, or_parts, leb-false, Shape, EventShape, TypeExpr, ActionDecl, GlobalDecl, Member, TypedExpr, Action, Global, stands, ActionHead, GlobalHead, Table, actions_from, globals_in, result_head, event_of, type_found, param_wants, result_given, gives_result, result_stands, Made, action_of, action_read, body_around, body_start, actions_before, member_codes, when, short, is_special, ends_with_return, global_codes, global_read, members_read, with_global, row_read}
use Rattle.epl_tree.specs.declared.unit.Member.TheVariants as member
use Rattle.type_table.specs.Heads.{action_head, global_head}
use Rattle.stmt_check.specs.Actions.{action_codes, globals_before, is_global}
use Rattle.stmt_check.specs.Statements.{part_of}
use Rattle.stmt_check.specs.Steps.{◌>>=◌, pure}
use Rattle.program_laws.proofs.Shapes.Heads.{type_known}
use Rattle.program_laws.proofs.Shapes.Lists.{Extends, extends_same, extends_on, extends_front, no_both, no_when, none_isnt, get_behind}
use Rattle.program_laws.proofs.Shapes.Members.{ActionMade, GlobalMade, action_made, global_made}
use Rattle.program_laws.proofs.Shapes.Types.{type_stands}

-- ---- counting members

globals_more : (before : List Member) (g : GlobalDecl) → globals_before (before ++ member.Global g ∷ []) ≡ globals_before before + 1
unfolding is_global
globals_more before g = sum_by-append (λ (m : Member). cond (is_global m) 1 0) before (member.Global g ∷ [])

globals_else : (before : List Member) (a : ActionDecl) → globals_before (before ++ member.Action a ∷ []) ≡ globals_before before
unfolding is_global
globals_else before a = let e = sum_by-append (λ (m : Member). cond (is_global m) 1 0) before (member.Action a ∷ []) in omega (arith, e)

-- ---- codes

global_few : (table : Table) (before : List Member) (name : List ℕ) → global_codes table before name ≡ [] → globals_before before < 256
global_few table before name codes = leb-false 256 (globals_before before) (no_when (nat_le 256 (globals_before before)) 4 (no_both (member_codes table before name) (when (nat_le 256 (globals_before before)) 4) codes).1)

-- what the codes of an action say: few actions, few actions and sites, and a plain head where its name is special
pub record ActionFew (before : List Member) (a : ActionDecl) (made : Made) : Type 0 where
  pub here : actions_before before < 256
  pub all : length made.actions + length made.sites < 65535
  pub plain : is_special a.name.text ≡ true → (length a.params ≡ 0) × (is_some a.result ≡ false)

is_zero : (n : ℕ) → not (n == 0) ≡ false → n ≡ 0
is_zero n h = grind (arith, nat_tests)

both_plain : (b : Bool) (n : ℕ) (c : Bool) → (b && (not (n == 0) || c)) ≡ false → b ≡ true → (n ≡ 0) × (c ≡ false)
both_plain true n c h k = let p = or_parts (not (n == 0)) c h in (is_zero n p.0, p.1)
both_plain false n c h k = cc

pub action_few : (table : Table) (before : List Member) (a : ActionDecl) (made : Made) → action_codes table before a made ≡ [] → ActionFew before a made
unfolding action_codes
action_few table before a made codes =
    let one = no_both (member_codes table before a.name.text ++ when (nat_le 256 (actions_before before) || nat_le 65535 (length made.actions + length made.sites)) 4 ++ when (is_special a.name.text && (not (length a.params == 0) || is_some a.result)) 5) (when (is_some a.result && not (ends_with_return a.body)) 16) codes in
    let two = no_both (member_codes table before a.name.text ++ when (nat_le 256 (actions_before before) || nat_le 65535 (length made.actions + length made.sites)) 4) (when (is_special a.name.text && (not (length a.params == 0) || is_some a.result)) 5) one.0 in
    let three = no_both (member_codes table before a.name.text) (when (nat_le 256 (actions_before before) || nat_le 65535 (length made.actions + length made.sites)) 4) two.0 in
    let few = or_parts (nat_le 256 (actions_before before)) (nat_le 65535 (length made.actions + length made.sites)) (no_when _ 4 three.1) in
    record {
      here = leb-false 256 (actions_before before) few.0;
      all = leb-false 65535 (length made.actions + length made.sites) few.1;
      plain = both_plain (is_special a.name.text) (length a.params) (is_some a.result) (no_when _ 5 two.1);
    }

-- ---- heads

module _ (table : Table) (types : List EventShape) (same : table.types ≡ types) (members : List Member) where
  -- the action that the head with this number stands for
  pub record HeadMade (monitor : ℕ) (actions : List Action) (n : ℕ) (h : ActionHead) : Type 0 where
    pub action : Action
    pub at : slice_get actions n ≡ Some action
    pub few : n < 65535
    pub own : action.monitor ≡ short monitor
    pub wants : param_wants h.params ≡ map (λ s. Some s) action.params
    pub result : result_given h.result ≡ gives_result action.result
    pub params_stand : list_all (stands types) action.params ≡ true
    pub result_stands : result_stands types action.result ≡ true
    pub plain : is_special h.name ≡ true → (length action.params ≡ 0) × (is_some action.result ≡ false)

  -- the global that the head with this number stands for
  pub record GlobalAt (globals : List Global) (n : ℕ) (h : GlobalHead) : Type 0 where
    pub global : Global
    pub at : slice_get globals n ≡ Some global
    pub few : n < 256
    pub known : h.shape ≡ Some global.shape
    pub stands : stands types global.shape ≡ true

  -- what members leave: nothing is lost, and each head stands for what was made for it
  pub record MembersMade (rest : List Member) (old new : Made) : Type 0 where
    pub monitors : new.monitors ≡ old.monitors
    pub actions : Extends old.actions new.actions
    pub globals : Extends old.globals new.globals
    pub many : (n : ℕ) → length new.actions ≡ length old.actions + length (actions_from (event_of table) n rest)
    pub few : length old.actions ≤ 65535 → length new.actions ≤ 65535
    pub heads : (n i : ℕ) (h : ActionHead) → slice_get (actions_from (event_of table) n rest) i ≡ Some h → HeadMade (length old.monitors) new.actions (length old.actions + i) h × (h.number ≡ min 65535 (n + i))
    pub shapes : (i : ℕ) (h : GlobalHead) → slice_get (globals_in (event_of table) rest) i ≡ Some h → GlobalAt new.globals (length old.globals + i) h

  plain_result : (t : Option TypeExpr) (r : Option Shape) → is_some t ≡ false → result_given (result_head (event_of table) t) ≡ gives_result r → is_some r ≡ false
  plain_result None None none h = refl
  plain_result None (Some s) none h = cc
  plain_result (Some t) r none h = cc

  head_of : (before : List Member) (a : ActionDecl) (old new : Made) (n : ℕ) → ActionMade table types same members before a old new → HeadMade (length old.monitors) new.actions (length old.actions + 0) (action_head (event_of table) n a)
  head_of before a old new n made =
      let few = action_few table before a old made.codes in
      let limit = few.all in
      let long = made.params_so.long in
      record {
        action = action_of old made.params made.result (row_read (body_around table made.result old) (map part_of a.body) (body_start table before made.params old)).part;
        at = ap (λ (m : Made). slice_get m.actions (length old.actions + 0)) made.is ∙ get_behind old.actions _ 0;
        few = omega arith;
        own = refl;
        wants = made.params_so.wants;
        result = made.result_so.head;
        params_stand = made.params_so.stand;
        result_stands = made.result_so.stands;
        plain = λ special. let p = few.plain special in (long ∙ p.0, plain_result a.result made.result p.1 made.result_so.head);
      }

  kept_head : (monitor : ℕ) (old new : List Action) (n : ℕ) (h : ActionHead) → Extends old new → HeadMade monitor old n h → HeadMade monitor new n h
  kept_head monitor old new n h e made = record { action = made.action; at = e.at n made.action made.at; few = made.few; own = made.own; wants = made.wants; result = made.result; params_stand = made.params_stand; result_stands = made.result_stands; plain = made.plain }

  kept_global : (old new : List Global) (n : ℕ) (h : GlobalHead) → Extends old new → GlobalAt old n h → GlobalAt new n h
  kept_global old new n h e made = record { global = made.global; at = e.at n made.global made.at; few = made.few; known = made.known; stands = made.stands }

  global_of : (before : List Member) (g : GlobalDecl) (old new : Made) → globals_before before ≡ length old.globals → GlobalMade table types same members before g old new → GlobalAt new.globals (length old.globals + 0) (global_head (event_of table) g)
  global_of before g old new counted made =
      let few = global_few table before g.name.text made.codes in
      record {
        global = record { name = g.name.text; shape = (type_found table g.shape).part; initial = made.initial };
        at = ap (λ (m : Made). slice_get m.globals (length old.globals + 0)) made.is ∙ get_behind old.globals _ 0;
        few = omega (arith, counted);
        known = type_known (event_of table) g.shape made.type;
        stands = type_stands table types same g.shape made.type;
      }

  -- ---- members in order

  move_head : {m m' n n' : ℕ} (actions : List Action) (h : ActionHead) → m ≡ m' → n ≡ n' → HeadMade m actions n h → HeadMade m' actions n' h
  move_head {m} {m'} {n} actions h e k made = subst (λ (j : ℕ). HeadMade m' actions j h) k (subst (λ (j : ℕ). HeadMade j actions n h) e made)

  behind_global : (g : GlobalDecl) (rest : List Member) (old mid new : Made) (initial : Option TypedExpr) → mid ≡ with_global g.name.text (type_found table g.shape).part initial old → GlobalAt mid.globals (length old.globals + 0) (global_head (event_of table) g) → MembersMade rest mid new → MembersMade (member.Global g ∷ rest) old new
  behind_global g rest old mid new initial is one made =
      let monitors : mid.monitors ≡ old.monitors = ap (λ (m : Made). m.monitors) is in
      let actions : mid.actions ≡ old.actions = ap (λ (m : Made). m.actions) is in
      let globals : mid.globals ≡ old.globals ++ _ = ap (λ (m : Made). m.globals) is in
      let more : length mid.globals ≡ length old.globals + 1 = ap length globals ∙ length-append old.globals _ in
      record {
        monitors = made.monitors ∙ monitors;
        actions = subst (λ (xs : List Action). Extends xs new.actions) actions made.actions;
        globals = extends_on (subst (λ (xs : List Global). Extends old.globals xs) (sym globals) (extends_front old.globals _)) made.globals;
        many = λ n. made.many n ∙ ap (λ (xs : List Action). length xs + length (actions_from (event_of table) n rest)) actions;
        few = λ le. made.few (subst (λ (xs : List Action). length xs ≤ 65535) (sym actions) le);
        heads = λ n i h at. (let p = made.heads n i h at in (move_head new.actions h (ap length monitors) (ap (λ (xs : List Action). length xs + i) actions) p.0, p.1));
        shapes = shapes_at more;
      }
    where
      shapes_at : length mid.globals ≡ length old.globals + 1 → (i : ℕ) (h : GlobalHead) → slice_get (globals_in (event_of table) (member.Global g ∷ rest)) i ≡ Some h → GlobalAt new.globals (length old.globals + i) h
      shapes_at more zero h at = let e : global_head (event_of table) g ≡ h = cc in subst (λ (x : GlobalHead). GlobalAt new.globals (length old.globals + 0) x) e (kept_global mid.globals new.globals (length old.globals + 0) (global_head (event_of table) g) made.globals one)
      shapes_at more (suc i) h at = let z : length mid.globals + i ≡ length old.globals + suc i = omega (arith, more) in subst (λ (j : ℕ). GlobalAt new.globals j h) z (made.shapes i h at)

  behind_action : (a : ActionDecl) (rest : List Member) (old mid new : Made) (A : Action) → mid.actions ≡ old.actions ++ A ∷ [] → mid.monitors ≡ old.monitors → mid.globals ≡ old.globals → ((n : ℕ) → HeadMade (length old.monitors) mid.actions (length old.actions + 0) (action_head (event_of table) n a)) → MembersMade rest mid new → MembersMade (member.Action a ∷ rest) old new
  behind_action a rest old mid new A actions monitors globals one made =
      let more : length mid.actions ≡ length old.actions + 1 = ap length actions ∙ length-append old.actions _ in
      record {
        monitors = made.monitors ∙ monitors;
        actions = extends_on (subst (λ (xs : List Action). Extends old.actions xs) (sym actions) (extends_front old.actions _)) made.actions;
        globals = subst (λ (xs : List Global). Extends xs new.globals) globals made.globals;
        many = λ n. (let e = made.many (n + 1) in omega (arith, e, more));
        few = λ le. made.few (let lt = (one 0).few in omega (arith, more));
        heads = heads_at more;
        shapes = λ i h at. subst (λ (xs : List Global). GlobalAt new.globals (length xs + i) h) globals (made.shapes i h at);
      }
    where
      heads_at : length mid.actions ≡ length old.actions + 1 → (n i : ℕ) (h : ActionHead) → slice_get (actions_from (event_of table) n (member.Action a ∷ rest)) i ≡ Some h → HeadMade (length old.monitors) new.actions (length old.actions + i) h × (h.number ≡ min 65535 (n + i))
      heads_at more n zero h at =
          let e : action_head (event_of table) n a ≡ h = cc in
          let z : min 65535 n ≡ min 65535 (n + 0) = omega arith in (
            subst (λ (x : ActionHead). HeadMade (length old.monitors) new.actions (length old.actions + 0) x) e (kept_head (length old.monitors) mid.actions new.actions (length old.actions + 0) (action_head (event_of table) n a) made.actions (one n)),
            ap (λ (x : ActionHead). x.number) (sym e) ∙ z,
          )
      heads_at more n (suc i) h at =
          let p = made.heads (n + 1) i h at in
          let z : length mid.actions + i ≡ length old.actions + suc i = omega (arith, more) in
          let k = p.1 in
          (move_head new.actions h (ap length monitors) z p.0, omega (arith, k))

  pub members_made : (before rest : List Member) (old : Made) → globals_before before ≡ length old.globals → (members_read table members before rest old).faults ≡ [] → MembersMade rest old (members_read table members before rest old).part.state
  unfolding ◌>>=◌ pure
  members_made before [] old counted none = record { monitors = refl; actions = extends_same old.actions; globals = extends_same old.globals; many = λ n. omega arith; few = λ le. le; heads = λ n i h at. none_isnt h at; shapes = λ i h at. none_isnt h at }
  members_made before (member.Global g ∷ rest) old counted none =
      let mid = (global_read table before g old).part.state in
      let split = no_both (global_read table before g old).faults (members_read table members (before ++ member.Global g ∷ []) rest mid).faults none in
      let made = global_made table types same members before g old split.0 in
      let more : globals_before (before ++ member.Global g ∷ []) ≡ length mid.globals = globals_more before g ∙ ap (λ (n : ℕ). n + 1) counted ∙ sym (ap (λ (m : Made). length m.globals) made.is ∙ length-append old.globals _) in
      behind_global g rest old mid _ made.initial made.is (global_of before g old mid counted made) (members_made (before ++ member.Global g ∷ []) rest mid more split.1)
  members_made before (member.Action a ∷ rest) old counted none =
      let mid = (action_read table members before a old).part.state in
      let split = no_both (action_read table members before a old).faults (members_read table members (before ++ member.Action a ∷ []) rest mid).faults none in
      let made = action_made table types same members before a old split.0 in
      let more : globals_before (before ++ member.Action a ∷ []) ≡ length mid.globals = globals_else before a ∙ counted ∙ sym (ap (λ (m : Made). length m.globals) made.is) in
      behind_action a rest old mid _ (action_of old made.params made.result (row_read (body_around table made.result old) (map part_of a.body) (body_start table before made.params old)).part) (ap (λ (m : Made). m.actions) made.is) (ap (λ (m : Made). m.monitors) made.is) (ap (λ (m : Made). m.globals) made.is) (λ n. head_of before a old mid n made) (members_made (before ++ member.Action a ∷ []) rest mid more split.1)
