-- Where a callback begins: the names that it takes along and those that are bound are visible by their places, and what it
-- names it takes along.
use Rattle.std.proofs.Common.{◌≡◌, ◌+◌, ◌≤◌, ◌==◌, ◌∷◌, ◌++◌, ◌&&◌}
use Rattle.program_laws.proofs.Common.{ℕ, length, map, List, [], Some, Bool, true, false, not, Option, refl, ap, sym, subst, ◌∙◌, slice_get, arith, AllByRecursion, list_any, slice_get_within, not-true, and_parts, length-map, out-Shape, Shape-F, Shape, EventExpr, Local, TypedTerm, captured_from, bound_from, kind_inside, if_known, Mention, Bound, Visible, visible_at, Seen, SeenKind, seen, is_known_reference, KnowsName, SeesName, Mentioned, bound_refers, kind_seen, is_outer, is_barred, State, Around, short, captured_in, bound_in, callback_start, known_shape, outer_kind, bound_seen, place_among}
use Rattle.epl_values.specs.declared.shape.Shape.TheOpen as layer
use Rattle.typed_program.specs.Courses.{may_take, takes}
use Rattle.typed_program.specs.Shapes.{is_reference, is_reference_layer, is_event, is_event_layer}
use Rattle.type_table.specs.declared.scope.SeenKind.TheVariants as kind
use Rattle.expr_rules.specs.Places.{is_global}
use Rattle.stmt_check.specs.Bodies.{is_global as is_global_kind, local_of, outer_seen}
use Rattle.stmt_check.specs.Captures.{Names as Named}
use Rattle.program_laws.proofs.Rules.Bindings.{bound_differ}
use Rattle.program_laws.proofs.Rules.Captured.{captured_below, captured_found, bound_below, bound_found, kind_there, may_be_taken, refers_there, free_outside, number_among}
use Rattle.program_laws.proofs.Rules.Lookups.{Differ, names_of, names_append, below_more, below_both, found_behind, seen_at}
use Rattle.program_laws.proofs.Rules.Sights.{Sees, seen_place, global_same}
use Rattle.program_laws.proofs.Shapes.Frames.{Frame, Before, names_of as names_by}
use Rattle.program_laws.proofs.Shapes.Lists.{both_true, get_front, all_at, all_of_same, all_pairs, all_append, all_map, all_by_place, all_filter, kept}
use Rattle.program_laws.proofs.Shapes.Outer.{outer_name, get_map, are_at, moved, outer_other, outer_global}
use Rattle.program_laws.proofs.Shapes.Reading.{Within}
use Rattle.program_laws.proofs.Shapes.Rising.{Rising, places, place_at, rising_less}
use Rattle.program_laws.proofs.Shapes.Rules.{TermAnswers, IsBound}
use Rattle.program_laws.proofs.Shapes.Starts.{inner, captured_few}

-- how the names of a callback are counted
abbrev counts : Named → Seen → Bool
counts named x = not (is_global_kind x.kind) && named x.name

-- ---- an outer name

stays_outer : (k : SeenKind) → is_global_kind k ≡ false → is_global (outer_kind k) ≡ false
stays_outer kind.Global h = cc
stays_outer kind.Param h = refl
stays_outer kind.Local h = refl
stays_outer kind.Loop h = refl
stays_outer kind.OuterLocal h = refl
stays_outer kind.OuterFixed h = refl
stays_outer kind.Bound h = refl

reference_same : (o : Option Shape) (s : Shape) → o ≡ Some s → is_known_reference o ≡ is_reference (known_shape o)
reference_same o s h = ap is_known_reference h ∙ ap (λ (t : Option Shape). is_reference (known_shape t)) (sym h)

event_layer_refers : (d : Shape-F Shape) → is_event_layer d ≡ true → is_reference_layer d ≡ true
event_layer_refers layer.Integer h = cc
event_layer_refers layer.Boolean h = cc
event_layer_refers layer.Text h = cc
event_layer_refers (layer.Sequence item) h = refl
event_layer_refers (layer.Dictionary key value) h = refl
event_layer_refers (layer.Event n) h = refl
event_layer_refers layer.Context h = cc
event_layer_refers layer.Listener h = cc

-- an event is of reference type
event_refers : (s : Shape) → is_event s ≡ true → is_reference s ≡ true
unfolding is_event is_reference
event_refers s h = event_layer_refers (out-Shape s) h

map_names : (g : Seen → Seen) → ((x : Seen) → (g x).name ≡ x.name) → (xs : List Seen) → names_of (map g xs) ≡ names_of xs
map_names g same [] = refl
map_names g same (x ∷ xs) = ap (λ (n : List ℕ). n ∷ names_of (map g xs)) (same x) ∙ ap (λ (ns : List (List ℕ)). x.name ∷ ns) (map_names g same xs)

module _ (f : Frame) (around : Around) (event : EventExpr) (names : Named) (within : Within names f.named) (term : TypedTerm) (s : State) (k : ℕ) (all : List Shape) (before : Before f k all s) (answers : TermAnswers (names_by f all) (bound_in around.table s.scope event) term) (few : length s.scope.names ≤ 65000) (low : ℕ) (v : List Visible) (sees : Sees f low v s) where
  -- the names that the callback takes along
  abbrev pub taken : List Seen
  taken = captured_in names s.scope.names

  abbrev bounds : List Seen
  bounds = bound_in around.table s.scope event

  abbrev locals : List Local
  locals = map local_of taken

  -- what is visible where the callback begins
  abbrev pub visible_inside : List Visible
  visible_inside = captured_from 0 locals ++ bound_from (length locals) term.bound

  -- they rise
  pub taken_rises : Rising 0 taken s.next
  taken_rises = rising_less (counts f.named) (counts names) (λ x h. let p = and_parts (not (is_global_kind x.kind)) (names x.name) h in both_true p.0 (within x.name p.1)) s.scope.names 0 s.next before.rises

  taken_few : length taken ≤ length s.scope.names
  taken_few = captured_few f around event names s

  taken_place : (j : ℕ) (x : Seen) → slice_get taken j ≡ Some x → short (place_among taken x.number) ≡ 0 + j
  taken_place j x at =
      let here = place_at (place_among taken) 0 taken j x (places taken 0 s.next taken_rises) at in
      let lt = slice_get_within taken j x at in
      let le = taken_few in
      omega (arith, here)

  moved_sees : (x : Seen) → KnowsName (names_by f all) x → SeesName v x → is_global_kind x.kind ≡ false → (j : ℕ) → slice_get taken j ≡ Some x → is_barred (moved taken x) ≡ false → SeesName visible_inside (moved taken x)
  moved_sees x knows at other j place free =
      let r : Bool = is_reference (known_shape x.shape) in
      let same : is_known_reference x.shape ≡ r = reference_same x.shape knows.shape knows.known in
      let other_so : is_global x.kind ≡ false = global_same x.kind ∙ other in
      let free_so : (is_outer (outer_kind x.kind) && r) ≡ false = ap (λ (b : Bool). is_outer (outer_kind x.kind) && b) (sym same) ∙ free in
      let refers_so : bound_refers x.kind r ≡ true = ap (bound_refers x.kind) (sym same) ∙ at.refers in
      record {
        at = record { number = 0 + j; kind = kind_inside (known_shape x.shape) };
        is_at = ap (visible_at visible_inside) (taken_place j x place) ∙ captured_found 0 locals (bound_from (length locals) term.bound) j (local_of x) (get_map local_of taken j x place);
        kind = kind_there x.kind r other_so refers_so free_so;
        refers = refers_there x.kind (is_known_reference x.shape) at.refers;
      }

  -- what is asked of a name where the callback begins
  abbrev Inside : Seen → Type 0
  Inside y = names y.name ≡ true → is_global y.kind ≡ false → is_barred y ≡ false → SeesName visible_inside y

  outer_by : (x : Seen) (b : Bool) → is_global_kind x.kind ≡ b → (f.named x.name ≡ true → KnowsName (names_by f all) x) → (f.named x.name ≡ true → is_global x.kind ≡ false → is_barred x ≡ false → SeesName v x) → (counts names x ≡ true → (j : ℕ) × (slice_get taken j ≡ Some x)) → Inside (outer_seen taken x)
  outer_by x true is knows at place = subst Inside (sym (outer_global taken x is)) (λ named other free. (let e : is_global x.kind ≡ true = global_same x.kind ∙ is in cc))
  outer_by x false is knows at place = subst Inside (sym (outer_other taken x is)) (λ named other free.
      let j = place (both_true (ap not is) named) in
      moved_sees x (knows (within x.name named)) (at (within x.name named) (global_same x.kind ∙ is) (free_outside x.kind (is_known_reference x.shape) free)) is j.0 j.1 free)

  outer_inside : AllByRecursion Inside (map (outer_seen taken) s.scope.names)
  outer_inside = all_map Inside (outer_seen taken) s.scope.names (all_of_same s.scope.names (λ x h. outer_by x (is_global_kind x.kind) refl h.0.0 h.0.1 h.1)
      (all_pairs (λ x. (f.named x.name ≡ true → KnowsName (names_by f all) x) × (f.named x.name ≡ true → is_global x.kind ≡ false → is_barred x ≡ false → SeesName v x)) (λ x. counts names x ≡ true → (j : ℕ) × (slice_get taken j ≡ Some x)) s.scope.names
      (all_pairs (λ x. f.named x.name ≡ true → KnowsName (names_by f all) x) (λ x. f.named x.name ≡ true → is_global x.kind ≡ false → is_barred x ≡ false → SeesName v x) s.scope.names before.seen sees.seen)
      (kept (counts names) s.scope.names)))

  long_locals : length locals ≡ length taken
  long_locals = length-map taken local_of

  long_bound : length term.bound ≡ length bounds
  long_bound = sym (length-map term.bound (λ (b : Local). b.shape)) ∙ ap length answers.same ∙ length-map bounds (λ (b : Seen). known_shape b.shape)

  bound_sees : (i : ℕ) (b : Seen) → slice_get bounds i ≡ Some b → SeesName visible_inside (bound_seen taken b)
  bound_sees i b at =
      let is : IsBound f.program.types (0 + i) b = are_at f.program.types 0 bounds i b answers.bound at in
      let here = is.number in
      let lt = slice_get_within bounds i b at in
      let le = taken_few in
      let many = answers.few in
      let long = long_bound in
      let same = long_locals in
      let number : short (length taken + b.number) ≡ length locals + i = omega (arith, here, same) in
      record {
        at = record { number = length locals + i; kind = Bound };
        is_at = ap (visible_at visible_inside) number
            ∙ found_behind (length locals + i) (captured_from 0 locals) (bound_from (length locals) term.bound) (below_more (0 + length locals) (length locals + i) (captured_from 0 locals) (omega arith) (captured_below 0 locals))
            ∙ bound_found (length locals) term.bound i (omega (arith, long));
        kind = ap kind_seen (sym is.kind);
        refers = ap (λ (k : SeenKind). bound_refers k (is_known_reference b.shape)) is.kind ∙ reference_same b.shape (known_shape b.shape) is.known ∙ event_refers (known_shape b.shape) is.event;
      }

  start_differ : Differ (names_of (map (outer_seen taken) s.scope.names ++ map (bound_seen taken) bounds))
  start_differ =
      let same : names_of (map (outer_seen taken) s.scope.names ++ map (bound_seen taken) bounds) ≡ names_of (s.scope.names ++ bounds)
      = names_append (map (outer_seen taken) s.scope.names) (map (bound_seen taken) bounds)
      ∙ ap (λ (ns : List (List ℕ)). ns ++ names_of (map (bound_seen taken) bounds)) (map_names (outer_seen taken) (outer_name taken) s.scope.names)
      ∙ ap (λ (ns : List (List ℕ)). names_of s.scope.names ++ ns) (map_names (bound_seen taken) (λ x. refl) bounds)
      ∙ sym (names_append s.scope.names bounds) in
      subst Differ (sym same) (bound_differ around.table s.scope event sees.differ)

  -- what is visible there
  pub start_sees : (from : ℕ) → from ≤ short (around.callbacks + 1) + length s.sites → Sees (inner f around event names s) from visible_inside (callback_start taken bounds s)
  start_sees from le = record {
    seen = all_append Inside (map (outer_seen taken) s.scope.names) (map (bound_seen taken) bounds) outer_inside (all_map Inside (bound_seen taken) bounds (all_by_place bounds (λ i b at named other free. bound_sees i b at)));
    below =
        let few_taken = taken_few in
        let many = answers.few in
        let long = long_bound in
        let same = long_locals in
        below_both (short (length taken + length bounds)) (captured_from 0 locals) (bound_from (length locals) term.bound)
        (below_more (0 + length locals) (short (length taken + length bounds)) (captured_from 0 locals) (omega (arith, same)) (captured_below 0 locals))
        (below_more (length locals + length term.bound) (short (length taken + length bounds)) (bound_from (length locals) term.bound) (omega (arith, same, long)) (bound_below (length locals) term.bound));
    differ = start_differ;
    from = le;
  }

  -- ---- what the callback names

  -- a name that is taken along is mentioned at its place, and may be taken along
  pub record TakenSo (m : Mention) (j : ℕ) (x : Seen) : Type 0 where
    pub mentioned : m (0 + j) ≡ true
    pub free : is_barred x ≡ false
    pub taken : takes v (local_of x) ≡ true

  -- what a name that is taken along is in the body around
  record Standing (x : Seen) : Type 0 where
    place : ℕ
    at : slice_get s.scope.names place ≡ Some x
    knows : f.named x.name ≡ true → KnowsName (names_by f all) x
    sees_so : f.named x.name ≡ true → is_global x.kind ≡ false → is_barred x ≡ false → SeesName v x

  taken_around : AllByRecursion (λ x. Standing x × (counts names x ≡ true)) taken
  taken_around = all_filter Standing (counts names) s.scope.names (all_by_place s.scope.names (λ i x at. record { place = i; at = at; knows = all_at (λ y. f.named y.name ≡ true → KnowsName (names_by f all) y) s.scope.names i x before.seen at; sees_so = all_at (λ y. f.named y.name ≡ true → is_global y.kind ≡ false → is_barred y ≡ false → SeesName v y) s.scope.names i x sees.seen at }))

  named_by : (m : Mention) → Mentioned (callback_start taken bounds s).scope names m → (j : ℕ) (x : Seen) → slice_get taken j ≡ Some x → Standing x → counts names x ≡ true → TakenSo m j x
  named_by m inside j x at a counted =
      let p = and_parts (not (is_global_kind x.kind)) (names x.name) counted in
      let other = not-true (is_global_kind x.kind) p.0 in
      let is = outer_other taken x other in
      let there : slice_get (map (outer_seen taken) s.scope.names ++ map (bound_seen taken) bounds) a.place ≡ Some (outer_seen taken x) = get_front (map (outer_seen taken) s.scope.names) (map (bound_seen taken) bounds) a.place (outer_seen taken x) (get_map (outer_seen taken) s.scope.names a.place x a.at) in
      let found : seen (callback_start taken bounds s).scope (outer_seen taken x).name ≡ Some (outer_seen taken x) = seen_at (callback_start taken bounds s).scope a.place (outer_seen taken x) start_differ there in
      let told = inside.mentioned (outer_seen taken x).name (outer_seen taken x) (ap names (outer_name taken x) ∙ p.1) found (ap (λ (y : Seen). is_global y.kind) is ∙ stays_outer x.kind other) in
      let inside_free : (is_outer (outer_kind x.kind) && is_known_reference x.shape) ≡ false = ap is_barred (sym is) ∙ told.1 in
      let free : is_barred x ≡ false = free_outside x.kind (is_known_reference x.shape) inside_free in
      let seen_so : SeesName v x = a.sees_so (within x.name p.1) (global_same x.kind ∙ other) free in
      let knows = a.knows (within x.name p.1) in
      let r : Bool = is_reference (known_shape x.shape) in
      let same : is_known_reference x.shape ≡ r = reference_same x.shape knows.shape knows.known in
      record {
        mentioned = ap m (sym (ap (λ (y : Seen). y.number) is ∙ taken_place j x at)) ∙ told.0;
        free = free;
        taken =
            ap (if_known (λ w. may_take r w.kind)) seen_so.is_at
            ∙ ap (may_take r) seen_so.kind
            ∙ may_be_taken x.kind r (global_same x.kind ∙ other) (ap (bound_refers x.kind) (sym same) ∙ seen_so.refers) (ap (λ (b : Bool). is_outer (outer_kind x.kind) && b) (sym same) ∙ inside_free);
      }

  -- each is mentioned in the callback, and may be taken along
  pub taken_named : (m : Mention) → Mentioned (callback_start taken bounds s).scope names m → (j : ℕ) (x : Seen) → slice_get taken j ≡ Some x → TakenSo m j x
  taken_named m inside j x at = let p = all_at (λ x. Standing x × (counts names x ≡ true)) taken j x taken_around at in named_by m inside j x at p.0 p.1

  -- the listener mentions what its callback names
  pub taken_mentioned : (m : Mention) → Mentioned (callback_start taken bounds s).scope names m → Mentioned s.scope names (λ n. list_any (λ (c : Local). c.number == n) locals)
  taken_mentioned m inside = record {
    mentioned = λ name x is at other.
        let p = seen_place s.scope name x at in
        let j = all_at (λ x. counts names x ≡ true → (j : ℕ) × (slice_get taken j ≡ Some x)) s.scope.names p.place x (kept (counts names) s.scope.names) p.at (both_true (ap not (sym (global_same x.kind) ∙ other)) (ap names p.called ∙ is)) in
        (number_among taken j.0 x j.1, (taken_named m inside j.0 x j.1).free);
  }
