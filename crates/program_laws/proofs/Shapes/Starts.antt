-- Where a callback begins: what its state says there, and what its site takes along.
use Rattle.program_laws.proofs.Common.{ℕ, suc, length, map, List, [], Some, None, Bool, true, false, not, Option, refl, ap, sym, subst, ◌∙◌, slice_get, arith, AllByRecursion, list_all, filter-append, not-true, and_parts, length-map, Shape, EventExpr, Site, TypedTerm, if_known, names_in, stands, same, Local, is_local, Seen, KnowsName, State, Around, short, captured_in, bound_in, callback_start, with_site, known_shape, bound_seen}
use Rattle.std.proofs.Common.{◌≡◌, ◌+◌, ◌≤◌, ◌∷◌, ◌++◌, ◌&&◌, length-append}
use Rattle.std.proofs.lemmas.List.Sums.{length-filter, count_by-le-length}
use Rattle.typed_program.specs.Statements.{captures}
use Rattle.stmt_check.specs.Bodies.{is_global, local_of, outer_seen}
use Rattle.stmt_check.specs.Captures.{Names as Named}
use Rattle.stmt_check.specs.Steps.{within}
use Rattle.program_laws.proofs.Exprs.Alike.{same_self}
use Rattle.program_laws.proofs.Shapes.Frames.{Frame, Before, Fits, names_of, body_of}
use Rattle.program_laws.proofs.Shapes.Lists.{both_true, insert_above, get_behind, all_of_same, all_pairs, all_append, all_map, all_by_place, all_filter, kept, every_true}
use Rattle.program_laws.proofs.Shapes.Outer.{outer_captured, outer_name, outer_rising, bound_rising, outer_known_by, bound_known, are_at, local_by}
use Rattle.program_laws.proofs.Shapes.Reading.{Within}
use Rattle.program_laws.proofs.Shapes.Rising.{Rising, places, rising_both, rising_filter, rising_less}
use Rattle.program_laws.proofs.Shapes.Rules.{AreBound, IsBound}

-- how the names of a callback are counted
abbrev counts : Named → Seen → Bool
counts named x = not (is_global x.kind) && named x.name

-- ---- the scope where a callback begins

module _ (f : Frame) (around : Around) (event : EventExpr) (names : Named) (s : State) where
  abbrev pub captured : List Seen
  captured = captured_in names s.scope.names

  abbrev pub bound : List Seen
  bound = bound_in around.table s.scope event

  -- the callback as a body of its own
  abbrev pub inner : Frame
  inner = record { program = f.program; monitor = f.monitor; callbacks = short (around.callbacks + 1); base = length captured + length bound; result = None; named = names }

  abbrev pub shapes_of : List Seen → List Shape
  shapes_of = map (λ x. known_shape x.shape)

  abbrev pub params : List Shape
  params = shapes_of captured ++ shapes_of bound

  captured_rises : (k : ℕ) (all : List Shape) → Within names f.named → Before f k all s → Rising 0 captured s.next
  captured_rises k all within before = rising_less (counts f.named) (counts names) (λ x h. let p = and_parts (not (is_global x.kind)) (names x.name) h in both_true p.0 (within x.name p.1)) s.scope.names 0 s.next before.rises

  pub captured_few : length captured ≤ length s.scope.names
  captured_few = let e = length-filter (counts names) s.scope.names in let c = count_by-le-length (counts names) s.scope.names in omega (arith, e, c)

  captured_local : AllByRecursion (λ x. is_global x.kind ≡ false) captured
  captured_local = all_of_same captured (λ x h. not-true (is_global x.kind) (and_parts (not (is_global x.kind)) (names x.name) h.1).0) (all_filter (λ x. Unit {0}) (counts names) s.scope.names (all_by_place s.scope.names (λ i x h. tt)))

  start_rises : (k : ℕ) (all : List Shape) → Within names f.named → Before f k all s → length captured + length bound ≤ 65064 → AreBound f.program.types 0 bound → Rising 0 (captured_in names (map (outer_seen captured) s.scope.names ++ map (bound_seen captured) bound)) (length captured + length bound)
  start_rises k all within before few are =
      let first : Rising 0 (captured_in names (map (outer_seen captured) s.scope.names)) (0 + length captured) =
      subst (λ xs. Rising 0 xs (0 + length captured)) (sym (outer_captured captured names s.scope.names)) (outer_rising captured 0 captured (places captured 0 s.next (captured_rises k all within before)) captured_local (omega arith)) in
      let second : Rising (length captured + 0) (map (bound_seen captured) bound) (length captured + 0 + length bound) = bound_rising f.program.types captured 0 bound (omega arith) are in
      let z : 0 + length captured ≡ length captured + 0 = omega arith in
      let e : length captured + 0 + length bound ≡ length captured + length bound = omega arith in
      subst (λ xs. Rising 0 xs (length captured + length bound)) (sym (filter-append (counts names) (map (outer_seen captured) s.scope.names) (map (bound_seen captured) bound)))
      (rising_both 0 _ (length captured + 0) _ (length captured + length bound)
      (subst (λ n. Rising 0 (captured_in names (map (outer_seen captured) s.scope.names)) n) z first)
      (rising_filter (counts names) (map (bound_seen captured) bound) (length captured + 0) (length captured + length bound) (subst (λ n. Rising (length captured + 0) (map (bound_seen captured) bound) n) e second)))

  outer_known : (k : ℕ) (all locals : List Shape) → Within names f.named → Before f k all s → length captured ≤ 65064 → AllByRecursion (λ x. names x.name ≡ true → KnowsName (names_in f.program f.monitor (params ++ locals)) x) (map (outer_seen captured) s.scope.names)
  outer_known k all locals within before few = all_map (λ x. names x.name ≡ true → KnowsName (names_in f.program f.monitor (params ++ locals)) x) (outer_seen captured) s.scope.names
      (all_of_same s.scope.names (λ x h named.
      let here : names x.name ≡ true = ap names (sym (outer_name captured x)) ∙ named in
      outer_known_by f.program f.monitor all captured bound locals x (is_global x.kind) refl (omega arith) (places captured 0 s.next (captured_rises k all within before)) (λ other. h.1 (both_true other here)) (h.0 (within x.name here)))
      (all_pairs (λ x. f.named x.name ≡ true → KnowsName (names_of f all) x) (λ x. counts names x ≡ true → (j : ℕ) × (slice_get captured j ≡ Some x)) s.scope.names before.seen (kept (counts names) s.scope.names)))

  bound_known_all : (locals : List Shape) → length captured + length bound ≤ 65064 → AreBound f.program.types 0 bound → AllByRecursion (λ x. names x.name ≡ true → KnowsName (names_in f.program f.monitor (params ++ locals)) x) (map (bound_seen captured) bound)
  bound_known_all locals few are = all_map (λ x. names x.name ≡ true → KnowsName (names_in f.program f.monitor (params ++ locals)) x) (bound_seen captured) bound
      (all_by_place bound (λ i b at named. bound_known f.program f.monitor (params ++ locals) captured bound locals i b (omega arith) at (subst (λ n. IsBound f.program.types n b) (let z : 0 + i ≡ i = omega arith in z) (are_at f.program.types 0 bound i b are at))))

  -- what the state says where the callback begins
  pub start_before : (k : ℕ) (all locals : List Shape) → Within names f.named → Before f k all s → length captured + length bound ≤ 65064 → AreBound f.program.types 0 bound → Before inner 0 (params ++ locals) (callback_start captured bound s)
  start_before k all locals within before few are = record {
    monitor = before.monitor;
    visible = before.visible;
    seen = all_append (λ x. names x.name ≡ true → KnowsName (names_in f.program f.monitor (params ++ locals)) x) (map (outer_seen captured) s.scope.names) (map (bound_seen captured) bound) (outer_known k all locals within before (omega arith)) (bound_known_all locals few are);
    rises = subst (λ n. Rising 0 (captured_in names (map (outer_seen captured) s.scope.names ++ map (bound_seen captured) bound)) n) (let z : length captured + length bound ≡ short (length captured + length bound) = omega arith in z) (start_rises k all within before few are);
    next = omega arith;
    small = few;
    room = omega arith;
    whole = before.whole;
    stand = refl;
  }

  -- the finished lists have what the callback makes
  pub start_fits : (all : List Shape) (after : State) (site : Site) → around.callbacks ≡ f.callbacks → f.callbacks ≤ 65534 → length s.sites ≤ length after.sites → Fits f all s (with_site site s after) → Fits inner (params ++ after.locals) (callback_start captured bound s) after
  start_fits all after site callbacks few le fits = record {
    locals = λ i x at.
        (let e : length captured + length bound + i ≡ length params + i =
        (let a = length-map captured (λ (y : Seen). known_shape y.shape) in let b = length-map bound (λ (y : Seen). known_shape y.shape) in let c = length-append (shapes_of captured) (shapes_of bound) in omega (arith, a, b, c)) in
        ap (slice_get (params ++ after.locals)) e ∙ get_behind params after.locals i ∙ at);
    sites = λ i x from at.
        (let e : short (around.callbacks + 1) + i ≡ f.callbacks + suc i = omega (arith, callbacks) in
        ap (slice_get f.program.sites) e ∙ fits.sites (suc i) x (omega arith) (insert_above (length s.sites) after.sites site i from le ∙ at));
  }

-- ---- the site

module _ (f : Frame) (around : Around) (event : EventExpr) (names : Named) (term : TypedTerm) (s : State) where
  abbrev taken : List Seen
  taken = captured_in names s.scope.names

  taken_known : (k : ℕ) (all : List Shape) → Within names f.named → Before f k all s → AllByRecursion (λ x. KnowsName (names_of f all) x × (counts names x ≡ true)) taken
  taken_known k all within before = all_of_same taken (λ x h. (h.0 (within x.name (and_parts (not (is_global x.kind)) (names x.name) h.1).1), h.1)) (all_filter (λ x. f.named x.name ≡ true → KnowsName (names_of f all) x) (counts names) s.scope.names before.seen)

  known_local : (all : List Shape) (x : Seen) → KnowsName (names_of f all) x → counts names x ≡ true → is_local (body_of f all) (known_shape x.shape) x.number ≡ true
  known_local all x knows counted =
      let other = not-true (is_global x.kind) (and_parts (not (is_global x.kind)) (names x.name) counted).0 in
      let e : known_shape x.shape ≡ knows.shape = ap known_shape knows.known in
      ap (if_known (same (known_shape x.shape))) (local_by (names_of f all) x.kind x.number (Some knows.shape) other knows.at)
      ∙ ap (λ (t : Shape). same t knows.shape) e
      ∙ same_self knows.shape

  pub taken_captured : (k : ℕ) (all : List Shape) → Within names f.named → Before f k all s → list_all (captures (body_of f all)) (map local_of taken) ≡ true
  taken_captured k all within before = every_true (captures (body_of f all)) (map local_of taken) (all_map (λ c. captures (body_of f all) c ≡ true) local_of taken (all_of_same taken (λ x h. known_local all x h.0 h.1) (taken_known k all within before)))

  pub taken_stand : (k : ℕ) (all : List Shape) → Within names f.named → Before f k all s → list_all (stands f.program.types) (map (λ c. c.shape) (map local_of taken)) ≡ true
  taken_stand k all within before = every_true (stands f.program.types) (map (λ c. c.shape) (map local_of taken))
      (all_map (λ t. stands f.program.types t ≡ true) (λ c. c.shape) (map local_of taken) (all_map (λ (c : Local). stands f.program.types c.shape ≡ true) local_of taken
      (all_of_same taken (λ x h. ap (λ (t : Option Shape). stands f.program.types (known_shape t)) h.0.known ∙ h.0.stands) (taken_known k all within before))))

  pub bounds_stand : (n : ℕ) (bs : List Seen) → AreBound f.program.types n bs → list_all (stands f.program.types) (map (λ x. known_shape x.shape) bs) ≡ true
  bounds_stand n [] are = refl
  bounds_stand n (b ∷ bs) are = both_true are.0.stands (bounds_stand (suc n) bs are.1)

  pub map_map : (xs : List Seen) → map (λ c. c.shape) (map local_of xs) ≡ map (λ x. known_shape x.shape) xs
  map_map [] = refl
  map_map (x ∷ xs) = ap (λ ys. known_shape x.shape ∷ ys) (map_map xs)
