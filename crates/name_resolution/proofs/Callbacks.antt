-- A listener: its site stands at its number, with its event expression and its callback.
use Rattle.std.proofs.Common.{◌≡◌, ℕ, zero, suc, ◌+◌, ◌<◌, ◌≤◌, ◌==◌, min, nat_lt, count_by, Bool, true, false, cond, ◌&&◌, ◌||◌, not, if◌then◌else◌, List, [], ◌∷◌, map, length, insert, Option, Some, None, refl, sym, ap, subst, ◌∙◌, slice_get, arith}
use Rattle.std.specs.List.{AllByRecursion, list_any, filter}
use Rattle.std.specs.Option.{option_map}
use Rattle.std.specs.Prelude.{fold}
use Rattle.std.specs.Str.{bytes_eq}
use Rattle.std.proofs.lemmas.Bool.{eq-eqb}
use Rattle.std.proofs.lemmas.List.{length-map}
use Rattle.std.proofs.lemmas.Slice.Eq.{bytes_eq-Decides}
use Rattle.epl_values.specs.declared.shape.Shape.{Shape}
use Rattle.typed_program.specs.declared.program.Local.{Local}
use Rattle.typed_program.specs.declared.statement.Variable.{Variable}
use Rattle.typed_program.specs.declared.statement.Variable.TheVariants as var
use Rattle.type_table.specs.declared.scope.Scope.{Scope}
use Rattle.type_table.specs.declared.scope.Seen.{Seen}
use Rattle.type_table.specs.declared.scope.SeenKind.{SeenKind}
use Rattle.type_table.specs.declared.scope.SeenKind.TheVariants as kind
use Rattle.stmt_check.specs.declared.state.State.{State}
use Rattle.stmt_check.specs.Bodies.{captured_in, outer_kind, place_among, outer_seen, bound_seen, callback_scope, callback_start, local_of, is_global}
use Rattle.stmt_check.specs.Captures.{Names}
use Rattle.listener_check.specs.Bound.{local_of as bound_local, local_shape}
use Rattle.name_resolution.specs.Names.{Named, Meant, held, meaning_of}
use Rattle.name_resolution.specs.Statements.{Here, shape_or_integer, is_captured, carry, carried, moved, moved_name, BoundAre}
use Rattle.name_resolution.specs.Statements.{callback_start as starts}
use Rattle.name_resolution.specs.Statements as rule
use Rattle.name_resolution.proofs.Agreeing.{Agrees, variable_by, meant_by}
use Rattle.name_resolution.proofs.Bound.{IsBound}
use Rattle.name_resolution.proofs.Claims.{is_called, first_by, seen_first, by_seen, meaning_mapped, agrees_more, Matches}

-- ---- what a carried name stands for

-- as it stands in the callback
abbrev shifted : List Local → Variable → Option Shape → Meant
shifted captured (var.Global g) s = record { variable = var.Global g; shape = s }
shifted captured (var.Local n) s = record { variable = var.Local (held (count_by (λ c. nat_lt c.number n) captured)); shape = s }

-- a variable that is there in the callback
abbrev Kept : List Local → Variable → Type 0
Kept captured (var.Global g) = Unit {0}
Kept captured (var.Local n) = is_captured captured n ≡ true

-- one before that is of another name
carry_other : (captured : List Local) (x : Named) (names : List Named) (name : List ℕ) (v : Variable) → bytes_eq x.name name ≡ false → meaning_of (carry captured x.name x.meant.shape v names) name ≡ meaning_of names name
carry_other captured x names name (var.Global g) other = ap (λ (c : Bool). cond c (Some (shifted captured (var.Global g) x.meant.shape)) (meaning_of names name)) other
carry_other captured x names name (var.Local n) other = by (is_captured captured n)
  where
    by : (c : Bool) → meaning_of (if c then record { name = x.name; meant = shifted captured (var.Local n) x.meant.shape } ∷ names else names) name ≡ meaning_of names name
    by true = ap (λ (c : Bool). cond c (Some (shifted captured (var.Local n) x.meant.shape)) (meaning_of names name)) other
    by false = refl

-- one of the name
carry_this : (captured : List Local) (x : Named) (names : List Named) (name : List ℕ) (v : Variable) → bytes_eq x.name name ≡ true → Kept captured v → meaning_of (carry captured x.name x.meant.shape v names) name ≡ Some (shifted captured v x.meant.shape)
carry_this captured x names name (var.Global g) this kept = ap (λ (c : Bool). cond c (Some (shifted captured (var.Global g) x.meant.shape)) (meaning_of names name)) this
carry_this captured x names name (var.Local n) this kept =
    ap (λ (c : Bool). meaning_of (if c then record { name = x.name; meant = shifted captured (var.Local n) x.meant.shape } ∷ names else names) name) kept
    ∙ ap (λ (c : Bool). cond c (Some (shifted captured (var.Local n) x.meant.shape)) (meaning_of names name)) this

-- what the name stands for in the callback, if it stands for something
abbrev Carried : List Local → Option Meant → Option Meant → Type 0
Carried captured None o = o ≡ None
Carried captured (Some m) o = Kept captured m.variable → o ≡ Some (shifted captured m.variable m.shape)

carried_by : (captured : List Local) (x : Named) (names : List Named) (name : List ℕ) (b : Bool) → bytes_eq x.name name ≡ b → Carried captured (meaning_of names name) (meaning_of (carried captured names) name) → Carried captured (cond b (Some x.meant) (meaning_of names name)) (meaning_of (carried captured (x ∷ names)) name)
carried_by captured x names name true is rest = λ kept. carry_this captured x (carried captured names) name x.meant.variable is kept
carried_by captured x names name false is rest = subst (λ (o : Option Meant). Carried captured (meaning_of names name) o) (sym (carry_other captured x (carried captured names) name x.meant.variable is)) rest

carried_is : (captured : List Local) (names : List Named) (name : List ℕ) → Carried captured (meaning_of names name) (meaning_of (carried captured names) name)
carried_is captured [] name = refl
carried_is captured (x ∷ names) name =
    subst (λ (b : Bool). Carried captured (cond b (Some x.meant) (meaning_of names name)) (meaning_of (carried captured (x ∷ names)) name)) refl
    (carried_by captured x names name (bytes_eq x.name name) refl (carried_is captured names name))

-- ---- what the checker sees in the callback

outer_name : (captured : List Seen) (s : Seen) (b : Bool) → (if b then s else record s { kind = outer_kind s.kind; number = min 65535 (place_among captured s.number) }).name ≡ s.name
outer_name captured s true = refl
outer_name captured s false = refl

outer_called : (captured : List Seen) (s : Seen) (name : List ℕ) → is_called name (outer_seen captured s) ≡ is_called name s
unfolding outer_seen
outer_called captured s name = ap (λ (n : List ℕ). bytes_eq n name) (outer_name captured s (is_global s.kind))

mapped_by : (f : Seen → Seen) (name : List ℕ) (x : Seen) (b c : Bool) (o r : Option Seen) → c ≡ b → r ≡ option_map f o → cond c (Some (f x)) r ≡ option_map f (cond b (Some x) o)
mapped_by f name x true c o r is h = ap (λ (d : Bool). cond d (Some (f x)) r) is
mapped_by f name x false c o r is h = ap (λ (d : Bool). cond d (Some (f x)) r) is ∙ h

first_mapped : (f : Seen → Seen) (name : List ℕ) → ((s : Seen) → is_called name (f s) ≡ is_called name s) → (xs : List Seen) → first_by (is_called name) (map f xs) ≡ option_map f (first_by (is_called name) xs)
first_mapped f name same [] = refl
first_mapped f name same (x ∷ xs) = mapped_by f name x (is_called name x) (is_called name (f x)) (first_by (is_called name) xs) (first_by (is_called name) (map f xs)) (same x) (first_mapped f name same xs)

fold_mapped : {A B D : Type 0} (g : D → B → D) (f : A → B) (xs : List A) (a : D) → fold g a (map f xs) ≡ fold (λ b x. g b (f x)) a xs
fold_mapped g f [] a = refl
fold_mapped g f (x ∷ xs) a = fold_mapped g f xs (g a (f x))

counted_same : (n : ℕ) (xs : List Seen) → count_by (λ (c : Local). nat_lt c.number n) (map local_of xs) ≡ place_among xs n
counted_same n xs = fold_mapped (λ (a : ℕ) (c : Local). a + cond (nat_lt c.number n) 1 0) local_of xs 0

-- what a visible name is in the callback
outer_meant : (captured : List Seen) (k : SeenKind) (name : List ℕ) (o : Option Shape) (n : ℕ) → meant_by (if is_global k then record { name = name; shape = o; kind = k; number = n } else record { name = name; shape = o; kind = outer_kind k; number = min 65535 (place_among captured n) }) ≡ shifted (map local_of captured) (variable_by k n) o
outer_meant captured kind.Global name o n = refl
outer_meant captured kind.Bound name o n = ap (λ (m : ℕ). let r : Meant = record { variable = var.Local (held m); shape = o } in r) (sym (counted_same n captured))
outer_meant captured kind.Local name o n = ap (λ (m : ℕ). let r : Meant = record { variable = var.Local (held m); shape = o } in r) (sym (counted_same n captured))
outer_meant captured kind.Param name o n = ap (λ (m : ℕ). let r : Meant = record { variable = var.Local (held m); shape = o } in r) (sym (counted_same n captured))
outer_meant captured kind.Loop name o n = ap (λ (m : ℕ). let r : Meant = record { variable = var.Local (held m); shape = o } in r) (sym (counted_same n captured))
outer_meant captured kind.OuterLocal name o n = ap (λ (m : ℕ). let r : Meant = record { variable = var.Local (held m); shape = o } in r) (sym (counted_same n captured))
outer_meant captured kind.OuterFixed name o n = ap (λ (m : ℕ). let r : Meant = record { variable = var.Local (held m); shape = o } in r) (sym (counted_same n captured))

outer_is : (captured : List Seen) (s : Seen) → meant_by (outer_seen captured s) ≡ shifted (map local_of captured) (variable_by s.kind s.number) s.shape
unfolding outer_seen
outer_is captured s = outer_meant captured s.kind s.name s.shape s.number

-- ---- what is named is captured

abbrev test : Names → Seen → Bool
test named s = not (is_global s.kind) && named s.name

any_filtered : (named : Names) (x : Seen) (xs : List Seen) (n : ℕ) (b : Bool) → test named x ≡ b → list_any (λ (c : Local). c.number == n) (map local_of (if b then x ∷ filter (test named) xs else filter (test named) xs)) ≡ ((b && (x.number == n)) || list_any (λ (c : Local). c.number == n) (map local_of (filter (test named) xs)))
any_filtered named x xs n true is = refl
any_filtered named x xs n false is = refl

none_some : {A : Type 0} (x : A) → None ≡ Some x → ⊥
none_some x h = cc

captured_here : (named : Names) (name : List ℕ) (x : Seen) (xs : List Seen) (s : Seen) (b : Bool) → is_called name x ≡ b → cond b (Some x) (first_by (is_called name) xs) ≡ Some s → test named s ≡ true → (first_by (is_called name) xs ≡ Some s → list_any (λ (c : Local). c.number == s.number) (map local_of (filter (test named) xs)) ≡ true) → list_any (λ (c : Local). c.number == s.number) (map local_of (filter (test named) (x ∷ xs))) ≡ true
captured_here named name x xs s true is h t rest =
    let e : x ≡ s = cc in
    any_filtered named x xs s.number (test named x) refl
    ∙ ap (λ (y : Seen). (test named y && (y.number == s.number)) || list_any (λ (c : Local). c.number == s.number) (map local_of (filter (test named) xs))) e
    ∙ or_left' (test named s && (s.number == s.number)) (list_any (λ (c : Local). c.number == s.number) (map local_of (filter (test named) xs))) (ap (λ (b : Bool). b && (s.number == s.number)) t ∙ eq-eqb s.number s.number refl)
  where
    or_left' : (a b : Bool) → a ≡ true → (a || b) ≡ true
    or_left' a b h = ap (λ (c : Bool). c || b) h
captured_here named name x xs s false is h t rest = any_filtered named x xs s.number (test named x) refl ∙ or_right' (test named x && (x.number == s.number)) (list_any (λ (c : Local). c.number == s.number) (map local_of (filter (test named) xs))) (rest h)
  where
    or_right' : (a b : Bool) → b ≡ true → (a || b) ≡ true
    or_right' true b h = refl
    or_right' false b h = h

captured_so : (named : Names) (name : List ℕ) (xs : List Seen) (s : Seen) → first_by (is_called name) xs ≡ Some s → test named s ≡ true → list_any (λ (c : Local). c.number == s.number) (map local_of (filter (test named) xs)) ≡ true
captured_so named name [] s h t = absurd (none_some s h)
captured_so named name (x ∷ xs) s h t = captured_here named name x xs s (is_called name x) refl h t (λ k. captured_so named name xs s k t)

-- the first passes
first_passes : (name : List ℕ) (xs : List Seen) (s : Seen) → first_by (is_called name) xs ≡ Some s → s.name ≡ name
first_passes name [] s h = absurd (none_some s h)
first_passes name (x ∷ xs) s h = by (is_called name x) refl h (λ k. first_passes name xs s k)
  where
    by : (b : Bool) → is_called name x ≡ b → cond b (Some x) (first_by (is_called name) xs) ≡ Some s → (first_by (is_called name) xs ≡ Some s → s.name ≡ name) → s.name ≡ name
    by true is k rest = let e : x ≡ s = cc in ap (λ (y : Seen). y.name) (sym e) ∙ (bytes_eq-Decides x.name name).0 is
    by false is k rest = rest k

kept_by : (named : Names) (name : List ℕ) (xs : List Seen) (s : Seen) (k : SeenKind) → s.kind ≡ k → named name ≡ true → first_by (is_called name) xs ≡ Some s → Kept (map local_of (captured_in named xs)) (variable_by k s.number)
kept_by named name xs s kind.Global is n h = tt
kept_by named name xs s k is n h = captured_so named name xs s h (ap (λ (j : SeenKind). not (is_global j) && named s.name) is ∙ ap (λ (m : List ℕ). named m) (first_passes name xs s h) ∙ n)

-- ---- the names agree

outer_by : (h : Here) (s : State) (named : Names) (name : List ℕ) (o : Option Seen) → first_by (is_called name) s.scope.names ≡ o → meaning_of h.names name ≡ option_map meant_by o → named name ≡ true
    → meaning_of (carried (map local_of (captured_in named s.scope.names)) h.names) name ≡ option_map meant_by (option_map (outer_seen (captured_in named s.scope.names)) o)
outer_by h s named name None first is n = subst (λ (m : Option Meant). Carried (map local_of (captured_in named s.scope.names)) m (meaning_of (carried (map local_of (captured_in named s.scope.names)) h.names) name)) is (carried_is (map local_of (captured_in named s.scope.names)) h.names name)
outer_by h s named name (Some x) first is n =
    subst (λ (m : Option Meant). Carried (map local_of (captured_in named s.scope.names)) m (meaning_of (carried (map local_of (captured_in named s.scope.names)) h.names) name)) is (carried_is (map local_of (captured_in named s.scope.names)) h.names name) (kept_by named name s.scope.names x x.kind refl n first)
    ∙ ap (λ (m : Meant). Some m) (sym (outer_is (captured_in named s.scope.names) x))

abbrev outer_scope : Names → Scope → Scope
outer_scope named scope = record scope { names = map (outer_seen (captured_in named scope.names)) scope.names }

outer_agrees : (h : Here) (s : State) (named : Names) → Agrees h.names s.scope named → Agrees (carried (map local_of (captured_in named s.scope.names)) h.names) (outer_scope named s.scope) named
outer_agrees h s named k = record {
  same = λ name n.
      let captured = captured_in named s.scope.names in
      outer_by h s named name (first_by (is_called name) s.scope.names) refl (k.same name n ∙ ap (λ (o : Option Seen). option_map meant_by o) (seen_first s.scope name)) n
      ∙ ap (λ (o : Option Seen). option_map meant_by o) (sym (first_mapped (outer_seen captured) name (λ x. outer_called captured x name) s.scope.names) ∙ sym (seen_first (outer_scope named s.scope) name));
}

moved_by : (count : ℕ) (captured : List Seen) (k : SeenKind) (n : ℕ) → count ≡ length captured → moved count (variable_by k n) ≡ variable_by k (min 65535 (length captured + n))
moved_by count captured kind.Global n is = ap (λ (m : ℕ). var.Global (held (m + n))) is
moved_by count captured k n is = ap (λ (m : ℕ). var.Local (held (m + n))) is

moved_names : (count : ℕ) (captured : List Seen) (xs : List Seen) → count ≡ length captured → map (moved_name count) (map by_seen xs) ≡ map by_seen (map (bound_seen captured) xs)
moved_names count captured [] is = refl
moved_names count captured (x ∷ xs) is =
    ap (λ (v : Variable). let n : Named = record { name = x.name; meant = record { variable = v; shape = x.shape } } in n ∷ map (moved_name count) (map by_seen xs)) (moved_by count captured x.kind x.number is)
    ∙ ap (λ (l : List Named). by_seen (bound_seen captured x) ∷ l) (moved_names count captured xs is)

-- where the callback begins
pub start_matches : (h : Here) (s : State) (named : Names) (bound : List Seen) → Agrees h.names s.scope named → Matches named (starts h.names (map local_of (captured_in named s.scope.names)) (map by_seen bound)) (callback_start (captured_in named s.scope.names) bound s)
start_matches h s named bound k =
    let captured = captured_in named s.scope.names in
    let long : length (map local_of captured) ≡ length captured = length-map captured local_of in
    record {
      names = agrees_more (carried (map local_of captured) h.names) (outer_scope named s.scope) (callback_scope s.scope captured bound) (map (bound_seen captured) bound) (map (moved_name (length (map local_of captured))) (map by_seen bound)) named refl
          (λ name. ap (λ (l : List Named). meaning_of l name) (moved_names (length (map local_of captured)) captured bound long) ∙ meaning_mapped (map (bound_seen captured) bound) name)
          (outer_agrees h s named k);
      next = ap (λ (n : ℕ). held (n + length (map by_seen bound))) long ∙ ap (λ (n : ℕ). held (length captured + n)) (length-map bound by_seen);
      locals = refl;
    }

-- ---- the bound names of a site

shape_same : (o : Option Shape) → shape_or_integer o ≡ local_shape o
shape_same (Some s) = refl
shape_same None = refl

bound_variable : (k : SeenKind) (n : ℕ) → k ≡ kind.Bound → variable_by k n ≡ var.Local n
bound_variable k n is = ap (λ (j : SeenKind). variable_by j n) is

pub bound_are : (xs : List Seen) → AllByRecursion IsBound xs → BoundAre (map by_seen xs) (map bound_local xs)
bound_are [] all = rule.none_bound
bound_are (x ∷ xs) all = rule.one_bound (bound_variable x.kind x.number all.0) (shape_same x.shape) (bound_are xs all.1)

-- ---- sites

pub insert_at : {A : Type 0} (n : ℕ) (xs : List A) (x : A) → n ≤ length xs → slice_get (insert xs n x) n ≡ Some x
insert_at zero [] x h = refl
insert_at zero (y ∷ xs) x h = refl
insert_at (suc n) [] x h = absurd (omega arith)
insert_at (suc n) (y ∷ xs) x h = insert_at n xs x (omega arith)

pub insert_above : {A : Type 0} (n : ℕ) (xs : List A) (x : A) (i : ℕ) → n ≤ i → n ≤ length xs → slice_get (insert xs n x) (suc i) ≡ slice_get xs i
insert_above zero [] x i h k = refl
insert_above zero (y ∷ xs) x i h k = refl
insert_above (suc n) [] x i h k = absurd (omega arith)
insert_above (suc n) (y ∷ xs) x zero h k = absurd (omega arith)
insert_above (suc n) (y ∷ xs) x (suc i) h k = insert_above n xs x i (omega arith) (omega arith)

pub insert_below : {A : Type 0} (n : ℕ) (xs : List A) (x : A) (i : ℕ) (y : A) → i < n → slice_get xs i ≡ Some y → slice_get (insert xs n x) i ≡ Some y
insert_below zero xs x i y h e = absurd (omega arith)
insert_below (suc n) [] x i y h e = absurd (cc)
insert_below (suc n) (z ∷ xs) x zero y h e = e
insert_below (suc n) (z ∷ xs) x (suc i) y h e = insert_below n xs x i y (omega arith) e
