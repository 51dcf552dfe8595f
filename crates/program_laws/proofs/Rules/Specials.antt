-- Actions of other names than `onload` and `ondie` have other numbers than those.
use Rattle.std.proofs.Common.{◌≡◌, ◌+◌, ◌==◌, ◌∷◌, ◌||◌}
use Rattle.program_laws.proofs.Common.{ℕ, length, List, [], Some, None, Bool, true, false, Option, refl, ap, sym, ◌∙◌, slice_get, arith, codes, list_any, bytes_eq, bytes_eq-Decides, or_parts, or_from, eqb-true, Member, MonitorDecl, Monitor, Program, special_in, ActionHead, MonitorHead, Table, actions_from, has_onload, event_of, is_callback, Made, action_in, action_number, or_zero}
use Rattle.epl_tree.specs.declared.unit.Member.TheVariants as member
use Rattle.typed_program.specs.Rules.{specials, list_of}
use Rattle.type_table.specs.Heads.{monitor_head}
use Rattle.stmt_check.specs.Bodies.{action_named}
use Rattle.stmt_check.specs.Members.{number_of}
use Rattle.program_laws.proofs.Rules.Lookups.{FirstAt, first_by, first_at, first_none, item_first, bytes_same}
use Rattle.program_laws.proofs.Shapes.MonitorHeads.{MembersMade}
use Rattle.program_laws.proofs.Shapes.Monitors.{Standing, by_head}
use Rattle.program_laws.proofs.Shapes.Reading.{same_head}

-- whether an action has this name
abbrev has_name : List ℕ → ActionHead → Bool
has_name name a = bytes_eq a.name name

-- an action is the first of its name
pub head_first : (m : MonitorHead) (name : List ℕ) → action_in (Some m) name ≡ first_by (has_name name) m.actions
head_first m name = sym (same_head (Some m) name) ∙ item_first (has_name name) m.actions

declared : (table : Table) (n : ℕ) (ms : List Member) → has_onload ms ≡ true → list_any (has_name (codes "onload")) (actions_from (event_of table) n ms) ≡ true
declared table n [] h = cc
declared table n (member.Global g ∷ ms) h = declared table n ms h
declared table n (member.Action a ∷ ms) h = at (bytes_eq a.name.text (codes "onload")) (declared table (n + 1) ms) h
  where
    at : (b : Bool) → (has_onload ms ≡ true → list_any (has_name (codes "onload")) (actions_from (event_of table) (n + 1) ms) ≡ true) → (b || has_onload ms) ≡ true → (b || list_any (has_name (codes "onload")) (actions_from (event_of table) (n + 1) ms)) ≡ true
    at true rest k = refl
    at false rest k = rest k

module _ (program : Program) (table : Table) (types : table.types ≡ program.types) (m : MonitorDecl) (old mid : Made) (standing : Standing program table m old mid) (made : MembersMade table program.types types m.members m.members old mid) where
  abbrev head : MonitorHead
  head = monitor_head (event_of table) standing.file (length old.actions) m

  found_at : (name : List ℕ) (a : ActionHead) → action_in (Some head) name ≡ Some a → FirstAt (has_name name) head.actions a
  found_at name a h = first_at (has_name name) head.actions a (sym (head_first head name) ∙ h)

  -- two actions of different names stand at different places
  other_number : (name other : List ℕ) (a b : ActionHead) → bytes_eq name other ≡ false → FirstAt (has_name name) head.actions a → FirstAt (has_name other) head.actions b → (b.number == a.number) ≡ false
  other_number name other a b differ one two = by (b.number == a.number) refl
    where
      by : (c : Bool) → (b.number == a.number) ≡ c → c ≡ false
      by false is = refl
      by true is =
          let p = made.heads (length old.actions) one.place a one.at in
          let q = made.heads (length old.actions) two.place b two.at in
          let few = p.0.few in
          let many = q.0.few in
          let here = p.1 in
          let there = q.1 in
          let same = eqb-true b.number a.number is in
          let place : one.place ≡ two.place = omega (arith, few, many, here, there, same) in
          let heads : Some a ≡ Some b = sym one.at ∙ ap (slice_get head.actions) place ∙ two.at in
          let e : a ≡ b = cc in
          let first : a.name ≡ name = (bytes_eq-Decides a.name name).0 one.passes in
          let second : b.name ≡ other = (bytes_eq-Decides b.name other).0 two.passes in
          let names : name ≡ other = sym first ∙ ap (λ (x : ActionHead). x.name) e ∙ second in
          let truth : bytes_eq name other ≡ true = ap (λ (x : List ℕ). bytes_eq x other) names ∙ bytes_same other in
          cc

  onload_by : (o : Option ActionHead) → action_in (Some head) (codes "onload") ≡ o → (name : List ℕ) (a : ActionHead) → bytes_eq name (codes "onload") ≡ false → FirstAt (has_name name) head.actions a → (or_zero (number_of o) == a.number) ≡ false
  onload_by None is name a differ at = let none = first_none (has_name (codes "onload")) head.actions (sym (head_first head (codes "onload")) ∙ is) in let some = declared table (length old.actions) m.members standing.onload in cc
  onload_by (Some b) is name a differ at = other_number name (codes "onload") a b differ at (found_at (codes "onload") b is)

  ondie_by : (o : Option ActionHead) → action_in (Some head) (codes "ondie") ≡ o → (name : List ℕ) (a : ActionHead) → bytes_eq name (codes "ondie") ≡ false → FirstAt (has_name name) head.actions a → list_any (λ n. n == a.number) (list_of (number_of o)) ≡ false
  ondie_by None is name a differ at = refl
  ondie_by (Some b) is name a differ at = or_from (b.number == a.number) false (other_number name (codes "ondie") a b differ at (found_at (codes "ondie") b is)) refl

  onload_apart : (name : List ℕ) (a : ActionHead) → bytes_eq name (codes "onload") ≡ false → FirstAt (has_name name) head.actions a → (or_zero (action_number table mid (codes "onload")) == a.number) ≡ false
  onload_apart name a differ at = ap (λ (o : Option ActionHead). or_zero (number_of o) == a.number) (by_head program table types m old mid standing made (codes "onload")) ∙ onload_by (action_in (Some head) (codes "onload")) refl name a differ at

  ondie_apart : (name : List ℕ) (a : ActionHead) → bytes_eq name (codes "ondie") ≡ false → FirstAt (has_name name) head.actions a → list_any (λ n. n == a.number) (list_of (action_number table mid (codes "ondie"))) ≡ false
  ondie_apart name a differ at = ap (λ (o : Option ActionHead). list_any (λ n. n == a.number) (list_of (number_of o))) (by_head program table types m old mid standing made (codes "ondie")) ∙ ondie_by (action_in (Some head) (codes "ondie")) refl name a differ at

  -- an action of another name has another number
  pub special_apart : (name : List ℕ) (a : ActionHead) → action_named table (length old.monitors) name ≡ Some a → is_callback name ≡ false → list_any (λ n. n == a.number) (special_in program (length old.monitors)) ≡ false
  special_apart name a found free =
      let p = or_parts (bytes_eq name (codes "onload")) (bytes_eq name (codes "ondie")) free in
      let at = found_at name a (ap (λ (o : Option MonitorHead). action_in o name) (sym standing.in_table) ∙ found) in
      ap (λ (o : Option Monitor). list_any (λ n. n == a.number) (specials o)) standing.in_program
      ∙ or_from (or_zero (action_number table mid (codes "onload")) == a.number) _ (onload_apart name a p.0 at) (ondie_apart name a p.1 at)
