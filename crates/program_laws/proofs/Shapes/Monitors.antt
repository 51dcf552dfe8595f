-- A monitor: its heads are known in the finished program, and it is as it should be.
use Rattle.program_laws.proofs.Common.{ℕ, zero, suc, min, length, List, [], Some, None, Bool, true, false, cond, not, is_some, Option, refl, ap, sym, ◌∙◌, slice_get, get_or, arith, codes, nat_lt, list_any, position_or_len, nat_tests, bytes_eq, position-Some, get_or_from_slice_get, eq-eqb, Shape, Member, MonitorDecl, Global, Monitor, Program, if_known, names_in, global_shapes, global_so, monitor_so, ActionHead, GlobalHead, MonitorHead, Table, actions_from, has_onload, event_of, KnowsAction, Made, short, action_in, is_special, action_number, or_zero, monitor_of}
use Rattle.std.proofs.Common.{◌≡◌, ◌+◌, ◌<◌, ◌==◌, ◌∷◌, if◌then◌else◌, ◌&&◌, ◌||◌, position}
use Rattle.std.proofs.lemmas.Bool.{ltb-true}
use Rattle.epl_tree.specs.declared.unit.Member.TheVariants as member
use Rattle.typed_program.specs.Programs.{is_plain, runs_plain, ends_plain}
use Rattle.type_table.specs.Heads.{monitor_head}
use Rattle.type_table.specs.Table.{action_of}
use Rattle.stmt_check.specs.Bodies.{action_named}
use Rattle.stmt_check.specs.Members.{number_of}
use Rattle.program_laws.proofs.Shapes.Bodies.{HeadsKnown, GlobalKnown}
use Rattle.program_laws.proofs.Shapes.Lists.{Extends, both_true, every_true, all_by_place, none_isnt}
use Rattle.program_laws.proofs.Shapes.MonitorBodies.{MembersHold}
use Rattle.program_laws.proofs.Shapes.MonitorHeads.{MembersMade, HeadMade, GlobalAt}
use Rattle.program_laws.proofs.Shapes.Outer.{get_map}

-- a monitor in the table and in the program: its declaration, the file and the first action of it, and what was made before
-- and behind its members
pub record Standing (program : Program) (table : Table) (m : MonitorDecl) (old mid : Made) : Type 0 where
  pub file : ℕ
  pub in_table : slice_get table.monitors (length old.monitors) ≡ Some (monitor_head (event_of table) file (length old.actions) m)
  pub in_program : slice_get program.monitors (length old.monitors) ≡ Some (monitor_of table m.name.text mid)
  pub none : length old.globals ≡ 0
  pub few : length old.monitors < 1000
  pub actions : Extends mid.actions program.actions
  pub monitors : mid.monitors ≡ old.monitors
  pub onload : has_onload m.members ≡ true

-- ---- an action that is declared is found

pub lt_more : (a b : ℕ) → nat_lt (1 + a) (suc b) ≡ nat_lt a b
lt_more a b = grind (arith, nat_tests)

pub zero_lt : (b : ℕ) → nat_lt 0 (suc b) ≡ true
zero_lt b = grind (arith, nat_tests)

some_if : (b : Bool) (n : ℕ) → b ≡ true → is_some (cond b (Some n) None) ≡ true
some_if true n h = refl
some_if false n h = cc

position_within : {A : Type 0} (p : A → Bool) (xs : List A) → list_any p xs ≡ true → nat_lt (position_or_len p xs) (length xs) ≡ true
position_within p [] h = cc
position_within p (x ∷ xs) h = at (p x) (position_within p xs) h
  where
    at : (b : Bool) → (list_any p xs ≡ true → nat_lt (position_or_len p xs) (length xs) ≡ true) → (b || list_any p xs) ≡ true → nat_lt (cond (not b) (1 + position_or_len p xs) 0) (suc (length xs)) ≡ true
    at true rest k = zero_lt (length xs)
    at false rest k = lt_more (position_or_len p xs) (length xs) ∙ rest k

found_some : {A : Type 0} (p : A → Bool) (xs : List A) → list_any p xs ≡ true → is_some (position p xs) ≡ true
found_some p xs h = some_if (nat_lt (position_or_len p xs) (length xs)) (position_or_len p xs) (position_within p xs h)

below_by : (b : Bool) (k n : ℕ) → cond b (Some k) None ≡ Some n → (b ≡ true) × (k ≡ n)
below_by true k n h = (refl, cc)
below_by false k n h = cc

position_below : {A : Type 0} (p : A → Bool) (xs : List A) (n : ℕ) → position p xs ≡ Some n → n < length xs
position_below p xs n h =
    let b = below_by (nat_lt (position_or_len p xs) (length xs)) (position_or_len p xs) n h in
    let lt = ltb-true (position_or_len p xs) (length xs) b.0 in
    let e = b.1 in
    omega arith

slice_some : {A : Type 0} (xs : List A) (n : ℕ) → n < length xs → is_some (slice_get xs n) ≡ true
slice_some [] n h = absurd (omega arith)
slice_some (x ∷ xs) zero h = refl
slice_some (x ∷ xs) (suc n) h = slice_some xs n (omega arith)

got : (m : MonitorHead) (name : List ℕ) (o : Option ℕ) → position (λ (a : ActionHead). bytes_eq a.name name) m.actions ≡ o → is_some o ≡ true → is_some (elim o [ None ↦ None | Some n ↦ slice_get m.actions n ]) ≡ true
got m name None is h = cc
got m name (Some n) is h = slice_some m.actions n (position_below (λ (a : ActionHead). bytes_eq a.name name) m.actions n is)

action_found : (m : MonitorHead) (name : List ℕ) → list_any (λ (a : ActionHead). bytes_eq a.name name) m.actions ≡ true → is_some (action_in (Some m) name) ≡ true
action_found m name h = got m name (action_of m name) refl (found_some (λ (a : ActionHead). bytes_eq a.name name) m.actions h)

declared : (table : Table) (n : ℕ) (ms : List Member) → has_onload ms ≡ true → list_any (λ (a : ActionHead). bytes_eq a.name (codes "onload")) (actions_from (event_of table) n ms) ≡ true
declared table n [] h = cc
declared table n (member.Global g ∷ ms) h = declared table n ms h
declared table n (member.Action a ∷ ms) h = at (bytes_eq a.name.text (codes "onload")) (declared table (n + 1) ms) h
  where
    at : (b : Bool) → (has_onload ms ≡ true → list_any (λ (x : ActionHead). bytes_eq x.name (codes "onload")) (actions_from (event_of table) (n + 1) ms) ≡ true) → (b || has_onload ms) ≡ true → (b || list_any (λ (x : ActionHead). bytes_eq x.name (codes "onload")) (actions_from (event_of table) (n + 1) ms)) ≡ true
    at true rest k = refl
    at false rest k = rest k

module _ (program : Program) (table : Table) (types : table.types ≡ program.types) (m : MonitorDecl) (old mid : Made) (standing : Standing program table m old mid) (made : MembersMade table program.types types m.members m.members old mid) where
  abbrev head : MonitorHead
  head = monitor_head (event_of table) standing.file (length old.actions) m

  global_at : (n : ℕ) (g : GlobalHead) → GlobalAt table program.types types m.members mid.globals (length old.globals + n) g → GlobalKnown program (length old.monitors) n g
  global_at n g at =
      let few = at.few in
      let none = standing.none in
      let z : length old.globals + n ≡ n = omega (arith, none) in
      record {
        few = omega arith;
        shape = at.global.shape;
        known = at.known;
        stands = at.stands;
        at = ap (λ (o : Option Monitor). slice_get (global_shapes o) n) standing.in_program
            ∙ get_map (λ (x : Global). x.shape) mid.globals n at.global (ap (slice_get mid.globals) (sym z) ∙ at.at);
      }

  action_at : (n : ℕ) (a : ActionHead) (locals : List Shape) → HeadMade table program.types types m.members (length old.monitors) mid.actions (length old.actions + n) a → a.number ≡ min 65535 (length old.actions + n) → KnowsAction (names_in program (length old.monitors) locals) a
  action_at n a locals h number =
      let few = h.few in
      let small = standing.few in
      let own = h.own in
      let z : a.number ≡ length old.actions + n = omega arith in
      record {
        action = h.action;
        at = ap (slice_get program.actions) z ∙ standing.actions.at (length old.actions + n) h.action h.at;
        own = omega arith;
        params = h.wants;
        result = h.result;
        params_stand = h.params_stand;
        result_stands = h.result_stands;
      }

  -- the heads of the monitor are known
  pub heads_known : HeadsKnown program table (length old.monitors)
  heads_known = record {
    head = head;
    at = standing.in_table;
    globals = λ n g at. global_at n g (made.shapes n g at);
    actions = λ n a locals at. (let p = made.heads (length old.actions) n a at in action_at n a locals p.0 p.1);
  }

  pub heads_actions : heads_known.head.actions ≡ actions_from (event_of table) (length old.actions) m.members
  unfolding heads_known
  heads_actions = refl

  -- ---- onload and ondie

  plain_at : (a : ActionHead) (n : ℕ) → HeadMade table program.types types m.members (length old.monitors) mid.actions (length old.actions + n) a → a.number ≡ min 65535 (length old.actions + n) → is_special a.name ≡ true → runs_plain program (length old.monitors) a.number ≡ true
  unfolding action_at
  plain_at a n h number special =
      let k = action_at n a [] h number in
      let p = h.plain special in
      let small = standing.few in
      let own = h.own in
      let mine : h.action.monitor ≡ length old.monitors = omega arith in
      ap (if_known (λ a. is_plain (length old.monitors) a.params a)) k.at ∙ plain h.action.params p.0 (both_true (eq-eqb h.action.monitor (length old.monitors) mine) (ap not p.1))
    where
      plain : (shapes : List Shape) → length shapes ≡ 0 → ((h.action.monitor == length old.monitors) && not (is_some h.action.result)) ≡ true → is_plain (length old.monitors) shapes h.action ≡ true
      plain [] z good = good
      plain (s ∷ shapes) z good = absurd (omega arith)

  -- the first action of a special name is plain
  named_plain : (name : List ℕ) → ((other : List ℕ) → bytes_eq other name ≡ true → is_special other ≡ true) → (o : Option ℕ) → position (λ (a : ActionHead). bytes_eq a.name name) head.actions ≡ o → (a : ActionHead) → elim o [ None ↦ None | Some at ↦ slice_get head.actions at ] ≡ Some a → runs_plain program (length old.monitors) a.number ≡ true
  named_plain name special None is a found = none_isnt a found
  named_plain name special (Some n) is a found =
      let p = position-Some (λ (x : ActionHead). bytes_eq x.name name) head.actions n a is in
      let same : get_or head.actions n a ≡ a = get_or_from_slice_get head.actions n a a found in
      let h = made.heads (length old.actions) n a found in
      plain_at a n h.0 h.1 (special a.name (ap (λ (x : ActionHead). bytes_eq x.name name) (sym same) ∙ p.1))

  from_head : (o : Option ActionHead) (name : List ℕ) → action_in (Some head) name ≡ o → ((a : ActionHead) → action_in (Some head) name ≡ Some a → runs_plain program (length old.monitors) a.number ≡ true) → ends_plain program (length old.monitors) (number_of o) ≡ true
  from_head None name is f = refl
  from_head (Some a) name is f = f a is

  pub by_head : (name : List ℕ) → action_named table (short (length mid.monitors)) name ≡ action_in (Some head) name
  by_head name =
      let small = standing.few in
      let z : short (length mid.monitors) ≡ length old.monitors = ap (λ (ms : List Monitor). short (length ms)) standing.monitors ∙ omega arith in
      ap (λ (n : ℕ). action_named table n name) z ∙ ap (λ (o : Option MonitorHead). action_in o name) standing.in_table

  named : (name : List ℕ) → ((other : List ℕ) → bytes_eq other name ≡ true → is_special other ≡ true) → (a : ActionHead) → action_in (Some head) name ≡ Some a → runs_plain program (length old.monitors) a.number ≡ true
  named name special a found = named_plain name special (action_of head name) refl a found

  ondie_plain : ends_plain program (length old.monitors) (action_number table mid (codes "ondie")) ≡ true
  ondie_plain =
      ap (λ (o : Option ActionHead). ends_plain program (length old.monitors) (number_of o)) (by_head (codes "ondie"))
      ∙ from_head (action_in (Some head) (codes "ondie")) (codes "ondie") refl (named (codes "ondie") special)
    where
      at : (b c : Bool) → c ≡ true → (if b then true else c) ≡ true
      at true c h = refl
      at false c h = h

      special : (other : List ℕ) → bytes_eq other (codes "ondie") ≡ true → is_special other ≡ true
      special other h = at (bytes_eq other (codes "onload")) (bytes_eq other (codes "ondie")) h

  onload_at : (o : Option ActionHead) → action_in (Some head) (codes "onload") ≡ o → is_some o ≡ true → runs_plain program (length old.monitors) (or_zero (number_of o)) ≡ true
  onload_at None is there = cc
  onload_at (Some a) is there = named (codes "onload") special a is
    where
      special : (other : List ℕ) → bytes_eq other (codes "onload") ≡ true → is_special other ≡ true
      special other h = ap (λ (b : Bool). if b then true else bytes_eq other (codes "ondie")) h

  onload_there : is_some (action_in (Some head) (codes "onload")) ≡ true
  onload_there = action_found head (codes "onload") (declared table (length old.actions) m.members standing.onload)

  onload_plain : runs_plain program (length old.monitors) (or_zero (action_number table mid (codes "onload"))) ≡ true
  onload_plain =
      ap (λ (o : Option ActionHead). runs_plain program (length old.monitors) (or_zero (number_of o))) (by_head (codes "onload"))
      ∙ onload_at (action_in (Some head) (codes "onload")) refl onload_there

  -- the monitor is as it should be
  pub monitor_holds : MembersHold program (length old.monitors) old mid → monitor_so program (length old.monitors) (monitor_of table m.name.text mid) ≡ true
  monitor_holds hold = both_true (both_true
      (every_true (global_so program (length old.monitors)) mid.globals (all_by_place mid.globals (λ i x at. hold.globals i x (let none = standing.none in omega arith) at)))
      onload_plain) ondie_plain
