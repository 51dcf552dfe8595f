-- Names are bound in order of the source, each once, and the names that an event expression binds are there behind those around it.
use Rattle.std.proofs.Common.{◌≡◌, ◌+◌, ◌<◌, ◌≤◌, ◌||◌, ◌∷◌, ◌++◌, if◌then◌else◌}
use Rattle.program_laws.proofs.Common.{ℕ, Bool, true, false, nat_le, List, [], map, drop, length, Option, Some, None, is_some, slice_get, refl, sym, ap, ◌∙◌, true≢false, arith, append_assoc, find, bytes_eq, drop-append_seam, nat_tests, length-append, length_push, append-nil, length-map, or_parts, Shape, Name, TemplateClause, Local, Names, Scope, Seen, Table, told, event_of, seen_of, Sofar, seen_bound, clause_binds, clauses_bind, is_among, bound_of, local_of, local_shape, is_full, is_taken, name_codes, with_name, went}
use Rattle.std.specs.Prelude.{cond}
use Rattle.epl_values.specs.declared.shape.Shape.TheVariants as shape
use Rattle.epl_tree.specs.declared.event.TemplateClause.TheVariants as clause
use Rattle.listener_check.specs.Bound.{with_bound, event_shape}
use Rattle.listener_check.specs.Limits.{short}
use Rattle.listener_check.specs.Templates.{name_read}
use Rattle.program_laws.proofs.Shapes.Lists.{no_both, no_told, no_if}
use Rattle.program_laws.proofs.Terms.Bounds.{widened, seen_there, seen_found_none, BoundAt, numbered_push}
use Rattle.program_laws.proofs.Terms.Roots.{shape_bound, shapes_twice}
use Rattle.program_laws.proofs.Terms.States.{State, Extends, extends_same}
use Rattle.program_laws.proofs.Terms.Thus.{Thus, thus_went, thus_behind}

-- ---- scopes only grow

pub record Grows (a b : Scope) : Type 0 where
  pub more : List Seen
  pub are : b.names ≡ a.names ++ more

pub grows_self : (a : Scope) → Grows a a
grows_self a = record { more = []; are = sym (append-nil a.names) }

pub grows_on : (a b c : Scope) → Grows a b → Grows b c → Grows a c
grows_on a b c g h = record { more = g.more ++ h.more; are = h.are ∙ ap (λ (l : List Seen). l ++ h.more) g.are ∙ append_assoc a.names g.more h.more }

module _ (table : Table) (outer : ℕ) where
  with_grows : (event name : List ℕ) (b : Scope) (t : Bool) → is_some (seen_of b name) ≡ t → Grows b (if t then b else record b { names = b.names ++ seen_bound table outer b event name ∷ [] })
  with_grows event name b true is = grows_self b
  with_grows event name b false is = record { more = seen_bound table outer b event name ∷ []; are = refl }

  pub clause_grows : (event : List ℕ) (c : TemplateClause) (b : Scope) → Grows b (clause_binds table outer event c b)
  clause_grows event (clause.As name) b = with_grows event name.text b (is_some (seen_of b name.text)) refl
  clause_grows event (clause.Within duration) b = grows_self b

  pub clauses_grow : (event : List ℕ) (cs : List TemplateClause) (b : Scope) → Grows b (clauses_bind table outer event cs b)
  clauses_grow event [] b = grows_self b
  clauses_grow event (c ∷ cs) b = grows_on b (clause_binds table outer event c b) (clauses_bind table outer event cs (clause_binds table outer event c b)) (clause_grows event c b) (clauses_grow event cs (clause_binds table outer event c b))

-- ---- a name that isn't bound yet

among_step : (name : List ℕ) (x : Seen) (xs : List Seen) (b : Bool) → (b || is_among (map (λ y. y.name) xs) name) ≡ false → (is_among (map (λ y. y.name) xs) name ≡ false → find (λ s. bytes_eq s.name name) xs ≡ None) → cond b (Some x) (find (λ s. bytes_eq s.name name) xs) ≡ None
among_step name x xs true h rest = absurd (true≢false h)
among_step name x xs false h rest = rest h

none_among : (name : List ℕ) (xs : List Seen) → is_among (map (λ y. y.name) xs) name ≡ false → find (λ s. bytes_eq s.name name) xs ≡ None
none_among name [] h = refl
none_among name (x ∷ xs) h = among_step name x xs (bytes_eq x.name name) h (none_among name xs)

names_push : (xs : List Seen) (x : Seen) → map (λ (y : Seen). y.name) (xs ++ x ∷ []) ≡ map (λ (y : Seen). y.name) xs ++ x.name ∷ []
names_push [] x = refl
names_push (y ∷ xs) x = ap (λ (l : List (List ℕ)). y.name ∷ l) (names_push xs x)

middle_at : (xs : List Seen) (x : Seen) (ys : List Seen) → slice_get (map shape_bound ((xs ++ x ∷ []) ++ ys)) (length xs) ≡ Some (shape_bound x)
middle_at [] x ys = refl
middle_at (y ∷ xs) x ys = middle_at xs x ys

module _ (table : Table) (names : Names) (scope inner : Scope) where
  abbrev outer : ℕ
  outer = length scope.names

  -- a name that a template binds, with its event type
  pub record Bound (event : ℕ) (b : Scope) (s : Sofar) (c : Scope) (place : ℕ) (t : Sofar) : Type 0 where
    pub state : State names scope inner c t
    pub grows : Extends s t
    pub at : Grows c inner → slice_get (map (λ (l : Local). l.shape) (bound_of scope inner)) place ≡ Some (shape.Event event)

  unseen : (bound : List Seen) (name : List ℕ) → is_some (seen_of scope name) ≡ false → is_among (map (λ y. y.name) bound) name ≡ false → is_some (seen_of (widened scope bound) name) ≡ false
  unseen bound name none apart = seen_there (widened scope bound) name ∙ ap is_some (seen_found_none scope bound name none (none_among name bound apart))

  at_place : (c : Scope) (bound : List Seen) (x : Seen) → c ≡ widened scope (bound ++ x ∷ []) → Grows c inner → slice_get (map (λ (l : Local). l.shape) (bound_of scope inner)) (length bound) ≡ Some (shape_bound x)
  at_place c bound x is g =
      let all : inner.names ≡ scope.names ++ ((bound ++ x ∷ []) ++ g.more) = g.are ∙ ap (λ (d : Scope). d.names ++ g.more) is ∙ append_assoc scope.names (bound ++ x ∷ []) g.more in
      ap (λ (l : List Seen). slice_get (map (λ (y : Local). y.shape) (map local_of (drop (length scope.names) l))) (length bound)) all
      ∙ ap (λ (l : List Seen). slice_get (map (λ (y : Local). y.shape) (map local_of l)) (length bound)) (drop-append_seam scope.names ((bound ++ x ∷ []) ++ g.more))
      ∙ ap (λ (l : List Shape). slice_get l (length bound)) (shapes_twice ((bound ++ x ∷ []) ++ g.more))
      ∙ middle_at bound x g.more

  -- the scope behind a new name
  abbrev pushed : List ℕ → List ℕ → Scope → Scope
  pushed event name b = record b { names = b.names ++ seen_bound table outer b event name ∷ [] }

  with_case : (event name : List ℕ) (b : Scope) (t : Bool) → t ≡ false → (if t then b else pushed event name b) ≡ pushed event name b
  with_case event name b true h = absurd (true≢false h)
  with_case event name b false h = refl

  with_new : (event name : List ℕ) (b : Scope) → is_some (seen_of b name) ≡ false → with_bound table outer event name b ≡ pushed event name b
  with_new event name b none = with_case event name b (is_some (seen_of b name)) none

  pushed_is : (event name : List ℕ) (bound : List Seen) (x : Seen) → x ≡ seen_bound table outer (widened scope bound) event name → pushed event name (widened scope bound) ≡ widened scope (bound ++ x ∷ [])
  pushed_is event name bound x is = ap (λ (l : List Seen). record scope { names = l }) (append_assoc scope.names bound (seen_bound table outer (widened scope bound) event name ∷ []) ∙ ap (λ (y : Seen). scope.names ++ (bound ++ y ∷ [])) (sym is))

  new_bound : (event name : List ℕ) (n : ℕ) (bound : List Seen) → length names.types ≤ 65535 → n < length names.types → event_of table event ≡ Some n → length bound ≤ 64 → BoundAt names (0 + length bound) (seen_bound table outer (widened scope bound) event name)
  new_bound event name n bound few_types there is few =
      let small : short n ≡ n = omega arith in
      let long = length-append scope.names bound in
      record {
        event = n;
        there = there;
        shaped = ap event_shape is ∙ ap (λ (m : ℕ). Some (shape.Event m)) small;
        is_bound = refl;
        numbered = omega arith;
      }

  -- what no code says of a name
  record Fresh (name : List ℕ) (s : Sofar) : Type 0 where
    unseen_so : is_some (seen_of scope name) ≡ false
    apart_so : is_among s.names name ≡ false
    fewer : length s.names < 64

  fresh : (under : Bool) (binds : Option ℕ) (name : List ℕ) (s : Sofar) → name_codes scope under binds s.names name ≡ [] → Fresh name s
  fresh under binds name s none =
      let a = no_both ((if is_taken scope s.names name then 1 ∷ [] else []) ++ (if under then 19 ∷ [] else [])) (if is_full binds s.names then 4 ∷ [] else []) none in
      let c = no_both (if is_taken scope s.names name then 1 ∷ [] else []) (if under then 19 ∷ [] else []) a.0 in
      let free = or_parts (is_some (seen_of scope name)) (is_among s.names name) (no_if (is_taken scope s.names name) 1 c.0) in
      let room = or_parts (is_some binds) (nat_le 64 (length s.names)) (no_if (is_full binds s.names) 4 a.1) in
      let few = room.1 in
      record { unseen_so = free.0; apart_so = free.1; fewer = grind (arith, nat_tests) }

  module _ (event name : List ℕ) (n : ℕ) (b : Scope) (s : Sofar) (few_types : length names.types ≤ 65535) (there : n < length names.types) (is : event_of table event ≡ Some n) (h : State names scope inner b s) (f : Fresh name s) where
    abbrev item : Seen
    item = seen_bound table outer (widened scope h.bound) event name

    as_many : length h.bound ≡ length s.names
    as_many = sym (length-map h.bound (λ (y : Seen). y.name)) ∙ ap length h.named

    now_is : with_bound table outer event name b ≡ widened scope (h.bound ++ item ∷ [])
    now_is =
        ap (λ (d : Scope). with_bound table outer event name d) h.is
        ∙ with_new event name (widened scope h.bound) (unseen h.bound name f.unseen_so (ap (λ (l : List (List ℕ)). is_among l name) h.named ∙ f.apart_so))
        ∙ pushed_is event name h.bound item refl

    state_now : State names scope inner (with_bound table outer event name b) (with_name name s)
    state_now =
        let many = as_many in let fewer = f.fewer in let long = length_push s.names name in
        record {
          bound = h.bound ++ item ∷ [];
          is = now_is;
          numbered = numbered_push names 0 h.bound item h.numbered (new_bound event name n h.bound few_types there is (omega arith));
          named = names_push h.bound item ∙ ap (λ (l : List (List ℕ)). l ++ name ∷ []) h.named;
          few = omega arith;
          room = h.room;
          sums = h.sums;
          leaves = h.leaves;
          hold = h.hold;
        }

    place_now : short (length s.names) ≡ length h.bound
    place_now = let many = as_many in let fewer = f.fewer in omega arith

    bound_now : Bound (short n) b s (with_bound table outer event name b) (short (length s.names)) (with_name name s)
    bound_now = record {
      state = state_now;
      grows = extends_same s (with_name name s) refl;
      at = λ g.
          ap (λ (m : ℕ). slice_get (map (λ (l : Local). l.shape) (bound_of scope inner)) m) place_now
          ∙ at_place (with_bound table outer event name b) h.bound item now_is g
          ∙ ap (λ (o : Option ℕ). Some (local_shape (event_shape o))) is;
    }

  pub name_thus : (under : Bool) (binds : Option ℕ) (name : Name) (event : List ℕ) (n : ℕ) (b : Scope) (s : Sofar) → length names.types ≤ 65535 → n < length names.types → event_of table event ≡ Some n → State names scope inner b s → Thus (Bound (short n) b s (with_bound table outer event name.text b)) (name_read scope under binds name s)
  unfolding name_read
  name_thus under binds name event n b s few_types there is h =
      thus_behind (Bound (short n) b s (with_bound table outer event name.text b)) (told name.spot (name_codes scope under binds s.names name.text)) (went (short (length s.names)) (with_name name.text s)) (λ none.
      thus_went (Bound (short n) b s (with_bound table outer event name.text b)) (short (length s.names)) (with_name name.text s)
      (bound_now event name.text n b s few_types there is h (fresh under binds name.text s (no_told name.spot (name_codes scope under binds s.names name.text) none))))
