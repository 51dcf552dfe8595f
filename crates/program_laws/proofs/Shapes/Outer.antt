-- The names that are visible where a callback begins: the captured ones at their places, and the bound ones behind them.
use Rattle.std.proofs.Common.{◌≡◌, ◌+◌, ◌≤◌, ◌∷◌, ◌++◌, if◌then◌else◌, ◌&&◌}
use Rattle.program_laws.proofs.Common.{ℕ, zero, suc, length, map, List, [], Some, Bool, true, false, cond, not, Option, refl, ap, sym, subst, ◌∙◌, slice_get, arith, filter, AllByRecursion, slice_get_within, length-map, Shape, EventShape, Program, Names, names_in, Seen, SeenKind, KnowsName, by_number, captured_in, outer_kind, bound_seen, place_among, short, known_shape}
use Rattle.type_table.specs.declared.scope.SeenKind.TheVariants as kind
use Rattle.stmt_check.specs.Bodies.{is_global, outer_seen}
use Rattle.stmt_check.specs.Captures.{Names as Named}
use Rattle.program_laws.proofs.Shapes.Lists.{get_front, get_behind, none_isnt}
use Rattle.program_laws.proofs.Shapes.Rising.{Rising, Places, place_at, rising_below, rising_above}
use Rattle.program_laws.proofs.Shapes.Rules.{AreBound, IsBound}

pub get_map : {A B : Type 0} (g : A → B) (xs : List A) (i : ℕ) (x : A) → slice_get xs i ≡ Some x → slice_get (map g xs) i ≡ Some (g x)
get_map g [] i x h = none_isnt x h
get_map g (y ∷ xs) zero x h = let e : y ≡ x = cc in ap (λ z. Some (g z)) e
get_map g (y ∷ xs) (suc i) x h = get_map g xs i x h

filter_map : {A B : Type 0} (p : B → Bool) (q : A → Bool) (g : A → B) → ((x : A) → p (g x) ≡ q x) → (xs : List A) → filter p (map g xs) ≡ map g (filter q xs)
filter_map p q g same [] = refl
filter_map p q g same (x ∷ xs) = ap (λ (b : Bool). cond b (g x ∷ filter p (map g xs)) (filter p (map g xs))) (same x) ∙ here (q x) (filter_map p q g same xs)
  where
    here : (b : Bool) → filter p (map g xs) ≡ map g (filter q xs) → cond b (g x ∷ filter p (map g xs)) (filter p (map g xs)) ≡ map g (cond b (x ∷ filter q xs) (filter q xs))
    here true rest = ap (λ ys. g x ∷ ys) rest
    here false rest = rest

-- ---- an outer name

abbrev pub moved : List Seen → Seen → Seen
moved captured s = record s { kind = outer_kind s.kind; number = short (place_among captured s.number) }

pub outer_other : (captured : List Seen) (s : Seen) → is_global s.kind ≡ false → outer_seen captured s ≡ moved captured s
unfolding outer_seen
outer_other captured s h = ap (λ (b : Bool). if b then s else moved captured s) h

pub outer_global : (captured : List Seen) (s : Seen) → is_global s.kind ≡ true → outer_seen captured s ≡ s
unfolding outer_seen
outer_global captured s h = ap (λ (b : Bool). if b then s else moved captured s) h

stays_outer : (k : SeenKind) → is_global k ≡ false → is_global (outer_kind k) ≡ false
stays_outer kind.Global h = cc
stays_outer kind.Param h = refl
stays_outer kind.Local h = refl
stays_outer kind.Loop h = refl
stays_outer kind.OuterLocal h = refl
stays_outer kind.OuterFixed h = refl
stays_outer kind.Bound h = refl

name_by : (captured : List Seen) (s : Seen) (b : Bool) → is_global s.kind ≡ b → (outer_seen captured s).name ≡ s.name
name_by captured s true is = ap (λ (x : Seen). x.name) (outer_global captured s is)
name_by captured s false is = ap (λ (x : Seen). x.name) (outer_other captured s is)

pub outer_name : (captured : List Seen) (s : Seen) → (outer_seen captured s).name ≡ s.name
outer_name captured s = name_by captured s (is_global s.kind) refl

-- it keeps its name, and is a global or isn't
outer_counts : (captured : List Seen) (named : Named) (s : Seen) (b : Bool) → is_global s.kind ≡ b → (not (is_global (outer_seen captured s).kind) && named (outer_seen captured s).name) ≡ (not (is_global s.kind) && named s.name)
outer_counts captured named s true is = ap (λ (x : Seen). not (is_global x.kind) && named x.name) (outer_global captured s is)
outer_counts captured named s false is =
    ap (λ (x : Seen). not (is_global x.kind) && named x.name) (outer_other captured s is)
    ∙ ap (λ (b : Bool). not b && named s.name) (stays_outer s.kind is ∙ sym is)

pub outer_captured : (captured : List Seen) (named : Named) (names : List Seen) → captured_in named (map (outer_seen captured) names) ≡ map (outer_seen captured) (captured_in named names)
outer_captured captured named names = filter_map (λ x. not (is_global x.kind) && named x.name) (λ x. not (is_global x.kind) && named x.name) (outer_seen captured) (λ x. outer_counts captured named x (is_global x.kind) refl) names

-- the captured names rise by one from 0
pub outer_rising : (captured : List Seen) (n : ℕ) (xs : List Seen) → Places (place_among captured) n xs → AllByRecursion (λ x. is_global x.kind ≡ false) xs → n + length xs ≤ 65535 → Rising n (map (outer_seen captured) xs) (n + length xs)
outer_rising captured n [] at others few = omega arith
outer_rising captured n (x ∷ xs) at others few =
    let here = at.0 in
    let number : (outer_seen captured x).number ≡ n = ap (λ (s : Seen). s.number) (outer_other captured x others.0) ∙ omega (arith, here) in
    let rest = outer_rising captured (suc n) xs at.1 others.1 (omega arith) in
    (omega (arith, number), rising_below (suc n) (suc (outer_seen captured x).number) (map (outer_seen captured) xs) (n + length (x ∷ xs)) (omega (arith, number)) (rising_above (suc n) (map (outer_seen captured) xs) (suc n + length xs) (n + length (x ∷ xs)) (omega arith) rest))

pub bound_rising : (types : List EventShape) (captured : List Seen) (n : ℕ) (bs : List Seen) → length captured + n + length bs ≤ 65535 → AreBound types n bs → Rising (length captured + n) (map (bound_seen captured) bs) (length captured + n + length bs)
bound_rising types captured n [] few are = omega arith
bound_rising types captured n (b ∷ bs) few are =
    let here = are.0.number in
    let number : short (length captured + b.number) ≡ length captured + n = omega (arith, here) in
    let rest = bound_rising types captured (suc n) bs (omega arith) are.1 in
    (omega (arith, number), rising_below (length captured + suc n) (suc (short (length captured + b.number))) (map (bound_seen captured) bs) (length captured + n + length (b ∷ bs)) (omega (arith, number)) (rising_above (length captured + suc n) (map (bound_seen captured) bs) (length captured + suc n + length bs) (length captured + n + length (b ∷ bs)) (omega arith) rest))

-- ---- what a number of a captured or bound name stands for

by_local : (names : Names) (k : SeenKind) (n : ℕ) → is_global k ≡ false → by_number names k n ≡ slice_get names.locals n
by_local names kind.Global n h = cc
by_local names kind.Param n h = refl
by_local names kind.Local n h = refl
by_local names kind.Loop n h = refl
by_local names kind.OuterLocal n h = refl
by_local names kind.OuterFixed n h = refl
by_local names kind.Bound n h = refl

pub local_by : (names : Names) (k : SeenKind) (n : ℕ) (o : Option Shape) → is_global k ≡ false → by_number names k n ≡ o → slice_get names.locals n ≡ o
local_by names k n o h e = sym (by_local names k n h) ∙ e

by_global : (program : Program) (monitor : ℕ) (all inside : List Shape) (k : SeenKind) (n : ℕ) → is_global k ≡ true → by_number (names_in program monitor inside) k n ≡ by_number (names_in program monitor all) k n
by_global program monitor all inside kind.Global n h = refl
by_global program monitor all inside kind.Param n h = cc
by_global program monitor all inside kind.Local n h = cc
by_global program monitor all inside kind.Loop n h = cc
by_global program monitor all inside kind.OuterLocal n h = cc
by_global program monitor all inside kind.OuterFixed n h = cc
by_global program monitor all inside kind.Bound n h = cc

module _ (program : Program) (monitor : ℕ) (all : List Shape) (captured bound : List Seen) (locals : List Shape) where
  abbrev outside : Names
  outside = names_in program monitor all

  -- the captured shapes, the bound ones, and the locals of the callback
  abbrev shapes_of : List Seen → List Shape
  shapes_of = map (λ x. known_shape x.shape)

  abbrev inside : Names
  inside = names_in program monitor ((shapes_of captured ++ shapes_of bound) ++ locals)

  pub captured_at : (i : ℕ) (x : Seen) → slice_get captured i ≡ Some x → slice_get ((shapes_of captured ++ shapes_of bound) ++ locals) i ≡ Some (known_shape x.shape)
  captured_at i x h = get_front (shapes_of captured ++ shapes_of bound) locals i _ (get_front (shapes_of captured) (shapes_of bound) i _ (get_map (λ (y : Seen). known_shape y.shape) captured i x h))

  pub bound_at : (i : ℕ) (x : Seen) → slice_get bound i ≡ Some x → slice_get ((shapes_of captured ++ shapes_of bound) ++ locals) (length captured + i) ≡ Some (known_shape x.shape)
  bound_at i x h = get_front (shapes_of captured ++ shapes_of bound) locals (length captured + i) _
      (ap (λ (n : ℕ). slice_get (shapes_of captured ++ shapes_of bound) (n + i)) (sym (length-map captured (λ (y : Seen). known_shape y.shape)))
      ∙ get_behind (shapes_of captured) (shapes_of bound) i
      ∙ get_map (λ (y : Seen). known_shape y.shape) bound i x h)

  pub outer_known_by : (x : Seen) (b : Bool) → is_global x.kind ≡ b → length captured ≤ 65535 → Places (place_among captured) 0 captured → (not (is_global x.kind) ≡ true → (j : ℕ) × (slice_get captured j ≡ Some x)) → KnowsName outside x → KnowsName inside (outer_seen captured x)
  outer_known_by x true is few at place knows = subst (λ (s : Seen). KnowsName inside s) (sym (outer_global captured x is)) (record { shape = knows.shape; known = knows.known; stands = knows.stands; at = by_global program monitor all ((shapes_of captured ++ shapes_of bound) ++ locals) x.kind x.number is ∙ knows.at })
  outer_known_by x false is few at place knows =
      let j = place (ap not is) in
      let lt = slice_get_within captured j.0 x j.1 in
      let here = place_at (place_among captured) 0 captured j.0 x at j.1 in
      let number : short (place_among captured x.number) ≡ j.0 = omega (arith, here, lt) in
      subst (λ (s : Seen). KnowsName inside s) (sym (outer_other captured x is)) (record {
        shape = knows.shape;
        known = knows.known;
        stands = knows.stands;
        at = by_local inside (outer_kind x.kind) (short (place_among captured x.number)) (stays_outer x.kind is) ∙ ap (slice_get inside.locals) number ∙ captured_at j.0 x j.1 ∙ ap (λ s. Some (known_shape s)) knows.known;
      })

  pub bound_known : (i : ℕ) (b : Seen) → length captured + length bound ≤ 65535 → slice_get bound i ≡ Some b → IsBound program.types i b → KnowsName inside (bound_seen captured b)
  bound_known i b few at is =
      let lt = slice_get_within bound i b at in
      let here = is.number in
      let number : short (length captured + b.number) ≡ length captured + i = omega (arith, here, lt) in
      record {
        shape = known_shape b.shape;
        known = is.known;
        stands = is.stands;
        at = by_local inside b.kind (short (length captured + b.number)) (ap is_global is.kind) ∙ ap (slice_get inside.locals) number ∙ bound_at i b at;
      }

pub are_at : (types : List EventShape) (n : ℕ) (bs : List Seen) (i : ℕ) (b : Seen) → AreBound types n bs → slice_get bs i ≡ Some b → IsBound types (n + i) b
are_at types n [] i b are h = none_isnt b h
are_at types n (x ∷ bs) zero b are h = let e : x ≡ b = cc in let z : n ≡ n + 0 = omega arith in subst (λ (m : ℕ). IsBound types m b) z (subst (λ (s : Seen). IsBound types n s) e are.0)
are_at types n (x ∷ bs) (suc i) b are h = let z : suc n + i ≡ n + suc i = omega arith in subst (λ (m : ℕ). IsBound types m b) z (are_at types (suc n) bs i b are.1 h)
