-- The names that a callback takes along and those that are bound: what is visible where it begins.
use Rattle.std.proofs.Common.{◌≡◌, ◌+◌, ◌<◌, ◌==◌, ◌∷◌, ◌++◌, ◌&&◌, if◌then◌else◌}
use Rattle.program_laws.proofs.Common.{ℕ, zero, suc, length, map, List, [], Some, Bool, true, false, not, refl, ap, sym, ◌∙◌, slice_get, arith, list_any, or_left, or_right, lt-ltb, eq-eqb, Local, captured_from, bound_from, kind_inside, Mention, Kind, Bound, Visible, visible_at, Seen, SeenKind, bound_refers, kind_seen, is_outer, outer_kind}
use Rattle.typed_program.specs.Courses.{ascend, may_take}
use Rattle.typed_program.specs.Mentions.{all_named}
use Rattle.typed_program.specs.Paths.{Free}
use Rattle.type_table.specs.declared.scope.SeenKind.TheVariants as kind
use Rattle.expr_rules.specs.Places.{is_global}
use Rattle.stmt_check.specs.Bodies.{local_of}
use Rattle.program_laws.proofs.Rules.Lookups.{Below, below_more, found_behind, found_here}
use Rattle.program_laws.proofs.Shapes.Lists.{both_true, none_isnt}
use Rattle.program_laws.proofs.Shapes.Rising.{Rising}

-- ---- names that are taken along

-- of reference type, or not
abbrev pub kind_of : Bool → Kind
kind_of r = if r then Bound else Free

-- their numbers are their places
pub captured_below : (at : ℕ) (cs : List Local) → Below (at + length cs) (captured_from at cs)
captured_below at [] = tt
captured_below at (c ∷ cs) = (omega arith, below_more (suc at + length cs) (at + length (c ∷ cs)) (captured_from (suc at) cs) (omega arith) (captured_below (suc at) cs))

-- the one at a place is found by it
pub captured_found : (at : ℕ) (cs : List Local) (rest : List Visible) (j : ℕ) (c : Local) → slice_get cs j ≡ Some c → visible_at (captured_from at cs ++ rest) (at + j) ≡ Some (record { number = at + j; kind = kind_inside c.shape })
captured_found at [] rest j c is = none_isnt c is
captured_found at (x ∷ cs) rest zero c is =
    let same : x ≡ c = cc in
    let z : at ≡ at + 0 = omega arith in
    found_here (at + 0) (record { number = at; kind = kind_inside x.shape }) (captured_from (suc at) cs ++ rest) z
    ∙ ap (λ (n : ℕ). Some (record { number = n; kind = kind_inside x.shape })) z
    ∙ ap (λ (d : Local). Some (record { number = at + 0; kind = kind_inside d.shape })) same
captured_found at (x ∷ cs) rest (suc j) c is =
    let z : suc at + j ≡ at + suc j = omega arith in
    found_behind (at + suc j) (record { number = at; kind = kind_inside x.shape } ∷ []) (captured_from (suc at) cs ++ rest) (omega arith, tt)
    ∙ ap (visible_at (captured_from (suc at) cs ++ rest)) (sym z)
    ∙ captured_found (suc at) cs rest j c is
    ∙ ap (λ (n : ℕ). Some (record { number = n; kind = kind_inside c.shape })) z

-- ---- names that are bound

-- their numbers are their places
pub bound_below : (at : ℕ) (bs : List Local) → Below (at + length bs) (bound_from at bs)
bound_below at [] = tt
bound_below at (b ∷ bs) = (omega arith, below_more (suc at + length bs) (at + length (b ∷ bs)) (bound_from (suc at) bs) (omega arith) (bound_below (suc at) bs))

-- the one at a place is found by it
pub bound_found : (at : ℕ) (bs : List Local) (i : ℕ) → i < length bs → visible_at (bound_from at bs) (at + i) ≡ Some (record { number = at + i; kind = Bound })
bound_found at [] i h = absurd (omega arith)
bound_found at (b ∷ bs) zero h =
    let z : at ≡ at + 0 = omega arith in
    found_here (at + 0) (record { number = at; kind = Bound }) (bound_from (suc at) bs) z ∙ ap (λ (n : ℕ). Some (record { number = n; kind = Bound })) z
bound_found at (b ∷ bs) (suc i) h =
    let z : suc at + i ≡ at + suc i = omega arith in
    found_behind (at + suc i) (record { number = at; kind = Bound } ∷ []) (bound_from (suc at) bs) (omega arith, tt)
    ∙ ap (visible_at (bound_from (suc at) bs)) (sym z)
    ∙ bound_found (suc at) bs i (omega arith)
    ∙ ap (λ (n : ℕ). Some (record { number = n; kind = Bound })) z

-- ---- kinds

-- a name that may be named in the callback is seen as it is there
pub kind_there : (k : SeenKind) (r : Bool) → is_global k ≡ false → bound_refers k r ≡ true → (is_outer (outer_kind k) && r) ≡ false → kind_of r ≡ kind_seen (outer_kind k)
kind_there kind.Global r other refers free = cc
kind_there kind.Bound r other refers free = ap kind_of refers
kind_there kind.Param r other refers free = ap kind_of free
kind_there kind.Local r other refers free = ap kind_of free
kind_there kind.Loop r other refers free = ap kind_of free
kind_there kind.OuterLocal r other refers free = ap kind_of free
kind_there kind.OuterFixed r other refers free = ap kind_of free

-- and may be taken along
pub may_be_taken : (k : SeenKind) (r : Bool) → is_global k ≡ false → bound_refers k r ≡ true → (is_outer (outer_kind k) && r) ≡ false → may_take r (kind_seen k) ≡ true
may_be_taken kind.Global r other refers free = cc
may_be_taken kind.Bound r other refers free = refers
may_be_taken kind.Param r other refers free = ap not free
may_be_taken kind.Local r other refers free = ap not free
may_be_taken kind.Loop r other refers free = ap not free
may_be_taken kind.OuterLocal r other refers free = ap not free
may_be_taken kind.OuterFixed r other refers free = ap not free

-- a co-assignment is one in the callback
pub refers_there : (k : SeenKind) (r : Bool) → bound_refers k r ≡ true → bound_refers (outer_kind k) r ≡ true
refers_there kind.Global r h = refl
refers_there kind.Bound r h = h
refers_there kind.Param r h = refl
refers_there kind.Local r h = refl
refers_there kind.Loop r h = refl
refers_there kind.OuterLocal r h = refl
refers_there kind.OuterFixed r h = refl

-- and may be named around it
pub free_outside : (k : SeenKind) (r : Bool) → (is_outer (outer_kind k) && r) ≡ false → (is_outer k && r) ≡ false
free_outside kind.Global r free = refl
free_outside kind.Bound r free = refl
free_outside kind.Param r free = refl
free_outside kind.Local r free = refl
free_outside kind.Loop r free = refl
free_outside kind.OuterLocal r free = free
free_outside kind.OuterFixed r free = free

-- ---- what a site says of the names that its callback takes along

-- names that rise are in ascending order
pub rising_ascend : (lo : ℕ) (xs : List Seen) (hi : ℕ) → Rising lo xs hi → ascend (map (λ (c : Local). c.number) (map local_of xs)) ≡ true
rising_ascend lo [] hi h = refl
rising_ascend lo (x ∷ []) hi h = refl
rising_ascend lo (x ∷ y ∷ xs) hi h = both_true (lt-ltb x.number y.number (let p = h.1.0 in omega arith)) (rising_ascend (suc x.number) (y ∷ xs) hi h.1)

-- names whose places are mentioned are each named
pub named_all : (mention : Mention) (at : ℕ) (xs : List Seen) → ((j : ℕ) (x : Seen) → slice_get xs j ≡ Some x → mention (at + j) ≡ true) → all_named mention at (map local_of xs) ≡ true
named_all mention at [] f = refl
named_all mention at (x ∷ xs) f = both_true
    (let z : at ≡ at + 0 = omega arith in ap mention z ∙ f 0 x refl)
    (named_all mention (suc at) xs (λ j y is. let z : suc at + j ≡ at + suc j = omega arith in ap mention z ∙ f (suc j) y is))

-- the number of a name that is taken along is among theirs
pub number_among : (xs : List Seen) (j : ℕ) (x : Seen) → slice_get xs j ≡ Some x → list_any (λ (c : Local). c.number == x.number) (map local_of xs) ≡ true
number_among [] j x is = none_isnt x is
number_among (y ∷ xs) zero x is = let e : y ≡ x = cc in or_left (y.number == x.number) _ (eq-eqb y.number x.number (ap (λ (z : Seen). z.number) e))
number_among (y ∷ xs) (suc j) x is = or_right (y.number == x.number) _ (number_among xs j x is)
