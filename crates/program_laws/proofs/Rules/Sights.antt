-- What is visible while a body is read, in its text and by number, and what a part leaves visible.
use Rattle.std.proofs.Common.{◌≡◌, ◌+◌, ◌≤◌, ◌==◌, ◌∷◌, ◌++◌}
use Rattle.program_laws.proofs.Common.{ℕ, length, take, List, [], Some, Bool, true, false, refl, sym, ap, subst, ◌∙◌, slice_get, arith, append_assoc, AllByRecursion, list_any, bytes_eq-Decides, append-nil, Shape, Stmt, Reading, Mention, Visible, Sight, special_in, Scope, Seen, SeenKind, ActionHead, Table, is_callback, seen, KnowsName, KnowsTable, KnowsNamed, SeesName, SeesNamed, KeepsSpecial, Mentioned, is_barred, State, Around, left}
use Rattle.typed_program.specs.Courses.{reading_of}
use Rattle.typed_program.specs.Mentions.{stmt_mentions}
use Rattle.type_table.specs.declared.scope.SeenKind.TheVariants as kind
use Rattle.expr_rules.specs.Places.{is_global}
use Rattle.stmt_check.specs.Bodies.{action_named as head_named, is_global as is_global_kind}
use Rattle.stmt_check.specs.Captures.{Names as Named}
use Rattle.program_laws.proofs.Rules.Lookups.{first_by, is_called, first_at, first_front, seen_first, Differ, names_of, Below, below_more}
use Rattle.program_laws.proofs.Shapes.Frames.{Frame, Before, names_of as names_by}
use Rattle.program_laws.proofs.Shapes.Lists.{all_at}
use Rattle.program_laws.proofs.Shapes.Reading.{Fitting, Within, known_at, named_head}

-- ---- a body

-- the number from which on the sites of a body stand, and what is asked of actions other than `onload` and `ondie`
pub record Law (f : Frame) (table : Table) : Type 0 where
  pub low : ℕ
  pub apart : (name : List ℕ) (head : ActionHead) → head_named table f.monitor name ≡ Some head → is_callback name ≡ false → list_any (λ m. m == head.number) (special_in f.program f.monitor) ≡ false

-- what is visible in a body, with the actions that aren't called
abbrev pub sight_in : Frame → List Visible → Sight
sight_in f v = record { visible = v; special = special_in f.program f.monitor }

-- a statement in the finished body
abbrev pub reading : (f : Frame) → ℕ → List Shape → Stmt → Reading
reading f low all = reading_of (names_by f all) f.program.sites (special_in f.program f.monitor) low

-- what a statement mentions in the finished body
abbrev pub mentions_in : Frame → Stmt → Mention
mentions_in f = stmt_mentions f.program.sites

-- ---- what a state says

-- each name that is named and may be is visible by its number; numbers are used up, and names differ
pub record Sees (f : Frame) (low : ℕ) (v : List Visible) (s : State) : Type 0 where
  pub seen : AllByRecursion (λ x. f.named x.name ≡ true → is_global x.kind ≡ false → is_barred x ≡ false → SeesName v x) s.scope.names
  pub below : Below s.next v
  pub differ : Differ (names_of s.scope.names)
  pub from : low ≤ f.callbacks + length s.sites

-- two states with the same names
pub record Still (s t : State) : Type 0 where
  pub names : t.scope.names ≡ s.scope.names
  pub next : t.next ≡ s.next
  pub sites : length s.sites ≤ length t.sites

-- a state itself
pub still_same : (s : State) → Still s s
still_same s = record { names = refl; next = refl; sites = omega arith }

-- one behind another
pub still_on : {s t u : State} → Still s t → Still t u → Still s u
still_on {s} {t} {u} h k = record { names = k.names ∙ h.names; next = k.next ∙ h.next; sites = (let a = h.sites in let b = k.sites in omega arith) }

-- names are only added
pub record Behind (f : Frame) (low : ℕ) (s t : State) (w : List Visible) : Type 0 where
  pub sees : Sees f low w t
  pub more : List Seen
  pub names : t.scope.names ≡ s.scope.names ++ more
  pub next : s.next ≤ t.next

-- the same is visible by number
pub still_sees : {f : Frame} {low : ℕ} {v : List Visible} {s t : State} → Sees f low v s → Still s t → Sees f low v t
still_sees {f} {low} {v} {s} {t} h k = record {
  seen = subst (λ (xs : List Seen). AllByRecursion (λ x. f.named x.name ≡ true → is_global x.kind ≡ false → is_barred x ≡ false → SeesName v x) xs) (sym k.names) h.seen;
  below = subst (λ (n : ℕ). Below n v) (sym k.next) h.below;
  differ = subst (λ (xs : List Seen). Differ (names_of xs)) (sym k.names) h.differ;
  from = (let a = h.from in let b = k.sites in omega arith);
}

-- nothing is added
pub still_behind : {f : Frame} {low : ℕ} {v : List Visible} {s t : State} → Sees f low v s → Still s t → Behind f low s t v
still_behind {s = s} {t = t} h k = record { sees = still_sees h k; more = []; names = k.names ∙ sym (append-nil s.scope.names); next = (let e = k.next in omega arith) }

-- one behind another
pub behind_on : {f : Frame} {low : ℕ} {v w : List Visible} {s t u : State} → Behind f low s t v → Behind f low t u w → Behind f low s u w
behind_on {s = s} h k = record {
  sees = k.sees;
  more = h.more ++ k.more;
  names = k.names ∙ ap (λ (xs : List Seen). xs ++ k.more) h.names ∙ append_assoc s.scope.names h.more k.more;
  next = (let a = h.next in let b = k.next in omega arith);
}

take_front : {A : Type 0} (xs ys : List A) → take (length xs) (xs ++ ys) ≡ xs
take_front [] [] = refl
take_front [] (y ∷ ys) = refl
take_front (x ∷ xs) ys = ap (λ zs. x ∷ zs) (take_front xs ys)

-- behind a block what was visible is
pub left_behind : {f : Frame} {low : ℕ} {v w : List Visible} {s t : State} → Sees f low v s → Behind f low s t w → Behind f low s (left s t) v
left_behind {f} {low} {v} {w} {s} {t} h k =
    let names : take (length s.scope.names) t.scope.names ≡ s.scope.names = ap (take (length s.scope.names)) k.names ∙ take_front s.scope.names k.more in
    record {
      sees = record {
        seen = subst (λ (xs : List Seen). AllByRecursion (λ x. f.named x.name ≡ true → is_global x.kind ≡ false → is_barred x ≡ false → SeesName v x) xs) (sym names) h.seen;
        below = below_more s.next t.next v k.next h.below;
        differ = subst (λ (xs : List Seen). Differ (names_of xs)) (sym names) h.differ;
        from = k.sees.from;
      };
      more = [];
      names = names ∙ sym (append-nil s.scope.names);
      next = k.next;
    }

-- ---- what a text may use there

-- a global is one in expressions and in bodies
pub global_same : (k : SeenKind) → is_global k ≡ is_global_kind k
global_same kind.Global = refl
global_same kind.Param = refl
global_same kind.Local = refl
global_same kind.Loop = refl
global_same kind.OuterLocal = refl
global_same kind.OuterFixed = refl
global_same kind.Bound = refl

-- a name that is seen has a place
pub record SeenAt (scope : Scope) (name : List ℕ) (x : Seen) : Type 0 where
  pub place : ℕ
  pub at : slice_get scope.names place ≡ Some x
  pub called : x.name ≡ name

-- a name that is seen has a place and is called so
pub seen_place : (scope : Scope) (name : List ℕ) (x : Seen) → seen scope name ≡ Some x → SeenAt scope name x
seen_place scope name x h =
    let p = first_at _ scope.names x (sym (seen_first scope name) ∙ h) in
    record { place = p.place; at = p.at; called = (bytes_eq-Decides x.name name).0 p.passes }

-- what a text names is visible by number
pub sees_named : {f : Frame} {low : ℕ} {v : List Visible} {s : State} (named : Named) → Within named f.named → Sees f low v s → SeesNamed v s.scope named
sees_named {f} {low} {v} {s} named within h = record {
  sees_at = λ name x is at other free.
      let p = seen_place s.scope name x at in
      all_at (λ x. f.named x.name ≡ true → is_global x.kind ≡ false → is_barred x ≡ false → SeesName v x) s.scope.names p.place x h.seen p.at (within x.name (ap named p.called ∙ is)) other free;
}

-- a name that is seen is seen where there are more
pub seen_more : (s t : State) (more : List Seen) (name : List ℕ) (x : Seen) → t.scope.names ≡ s.scope.names ++ more → seen s.scope name ≡ Some x → seen t.scope name ≡ Some x
seen_more s t more name x names h =
    seen_first t.scope name
    ∙ ap (first_by (is_called name)) names
    ∙ first_front (is_called name) s.scope.names more x (sym (seen_first s.scope name) ∙ h)

-- what is mentioned where more is visible is mentioned here
pub mentioned_before : (s t : State) (more : List Seen) (named : Named) (m : Mention) → t.scope.names ≡ s.scope.names ++ more → Mentioned t.scope named m → Mentioned s.scope named m
mentioned_before s t more named m names h = record { mentioned = λ name x is at other. h.mentioned name x is (seen_more s t more name x names at) other }

-- the same names, and the same actions
pub known_table : (f : Frame) (around : Around) → Fitting f around → (k : ℕ) (all : List Shape) (s : State) → Before f k all s → KnowsTable around.table (names_by f all) s.scope
known_table f around fitting k all s before = let h = known_at f around fitting k all s before f.named (λ name is. is) in record { types = h.types; few = h.few; kinds = h.kinds; actions = h.actions }

-- the names that a text names are known
pub known_named : (f : Frame) (around : Around) → Fitting f around → (k : ℕ) (all : List Shape) (s : State) → Before f k all s → (named : Named) → Within named f.named → KnowsNamed (names_by f all) s.scope named
known_named f around fitting k all s before named within = record {
  known_at = λ name x is at.
      let p = seen_place s.scope name x at in
      all_at (λ x. f.named x.name ≡ true → KnowsName (names_by f all) x) s.scope.names p.place x before.seen p.at (within x.name (ap named p.called ∙ is));
}

-- actions other than `onload` and `ondie` have other numbers
pub keeps_special : (f : Frame) (table : Table) (law : Law f table) (k : ℕ) (all : List Shape) (s : State) → Before f k all s → KeepsSpecial table s.scope (special_in f.program f.monitor)
keeps_special f table law k all s before = record { apart = λ name head found free. law.apart name head (sym (named_head table s.scope f.monitor name before.visible before.monitor) ∙ found) free }

-- ---- statements

-- what holds of a part that is read: it keeps the rules where it stands, and mentions what its text names
pub record Kept (f : Frame) (low : ℕ) (looped : Bool) (named : Named) (v : List Visible) (s t : State) (r : Reading) (m : Mention) : Type 0 where
  pub lawful : (r v looped).lawful ≡ true
  pub behind : Behind f low s t (r v looped).visible
  pub mentioned : Mentioned s.scope named m
