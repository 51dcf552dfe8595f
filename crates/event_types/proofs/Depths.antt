-- How deep event types nest, where none contains itself.
use Rattle.std.proofs.Common.{◌≡◌, ℕ, zero, suc, ◌+◌, ◌<◌, List, [], ◌∷◌, ◌++◌, length, true, false, sym, arith, inl, inr, eqb, add-one}
use Rattle.std.specs.List.{AllByRecursion, IsDistinct, flat_map, list_any}
use Rattle.std.proofs.lemmas.Bool.{ne_eqb, eqb-true, or_cases, false≢true}
use Rattle.std.proofs.lemmas.Map.Steps.{length-le_from_distinct_below}
use Rattle.epl_values.specs.declared.shape.Field.{Field}
use Rattle.epl_values.specs.declared.shape.EventShape.{EventShape}
use Rattle.event_types.specs.Types.{form_of, types_in, types_held, IsAmong, AreTypes, HasKnownFields, Holds, HasNoCycle}

-- these event types nest fewer than so many deep
abbrev pub Enough : ℕ → List EventShape → List ℕ → Type 0
Enough zero types ns = ⊥
Enough (suc depth) types ns = (n : ℕ) → IsAmong n ns → Enough depth types (types_held types n)

all-among : (P : ℕ → Type 0) (ns : List ℕ) (n : ℕ) → AllByRecursion P ns → IsAmong n ns → P n
all-among P [] n a h = absurd h
all-among P (m ∷ ms) n a (inl e) = rw e a.0
all-among P (m ∷ ms) n a (inr h) = all-among P ms n a.1 h

all-map : (P Q : ℕ → Type 0) (ns : List ℕ) → ((n : ℕ) → P n → Q n) → AllByRecursion P ns → AllByRecursion Q ns
all-map P Q [] f a = tt
all-map P Q (n ∷ ns) f a = (f n a.0, all-map P Q ns f a.1)

any-below : (most : ℕ) (ns : List ℕ) (q : ℕ) → AllByRecursion (λ p. p < most) ns → list_any (eqb q) ns ≡ true → q < most
any-below most [] q a e = absurd (false≢true e)
any-below most (n ∷ ns) q a e = elim (or_cases _ _ e) [ inl h ↦ (let k = eqb-true q n h in let l = a.0 in omega arith) | inr h ↦ any-below most ns q a.1 h ]

holds-then : (types : List EventShape) (depth p n k : ℕ) → Holds types depth p n → IsAmong k (types_held types n) → Holds types (suc depth) p k
holds-then types zero p n k h a = (n, h, a)
holds-then types (suc depth) p n k h a = (h.0, h.1, holds-then types depth h.0 n k h.2 a)

-- each of a path holds each of these
abbrev pub Reaches : List EventShape → List ℕ → ℕ → Type 0
Reaches types ns p = (k : ℕ) → IsAmong k ns → (depth : ℕ) × Holds types depth p k

apart : (types : List EventShape) → HasNoCycle types → (ns : List ℕ) (n p : ℕ) → IsAmong n ns → Reaches types ns p → eqb n p ≡ false
apart types none ns n p a r = ne_eqb n p (λ e. let h = r n a in none h.0 n (rw (sym e) at h.1))

distinct-front : (n : ℕ) (path : List ℕ) → AllByRecursion (λ p. eqb n p ≡ false) path → IsDistinct eqb path → IsDistinct eqb (n ∷ path)
unfolding IsDistinct
distinct-front n path a d = (a, d)

distinct-none : IsDistinct eqb []
unfolding IsDistinct
distinct-none = tt

pub enough : (types : List EventShape) → HasKnownFields types → HasNoCycle types → (depth : ℕ) (path ns : List ℕ) → length path + depth ≡ suc (length types) → IsDistinct eqb path
    → AllByRecursion (λ p. p < length types) path → AllByRecursion (Reaches types ns) path → AreTypes types ns → Enough depth types ns
enough types known none zero path ns e distinct below reaches are =
    absurd (let le = length-le_from_distinct_below path (length types) distinct (λ q h. any-below (length types) path q below h) in omega arith)
enough types known none (suc depth) path ns e distinct below reaches are = λ n a.
    enough types known none depth (n ∷ path) (types_held types n) (omega arith)
    (distinct-front n path (all-map (Reaches types ns) (λ p. eqb n p ≡ false) path (λ p r. apart types none ns n p a r) reaches) distinct)
    (all-among (λ m. m < length types) ns n are a, below)
    ((λ k h. (0, h)), all-map (Reaches types ns) (Reaches types (types_held types n)) path (λ p r k h. let s = r n a in (suc s.0, holds-then types s.0 p n k s.1 h)) reaches)
    (known n)

enough-part : (depth : ℕ) (types : List EventShape) (ms ns : List ℕ) → ((k : ℕ) → IsAmong k ms → IsAmong k ns) → Enough depth types ns → Enough depth types ms
enough-part zero types ms ns f e = e
enough-part (suc depth) types ms ns f e = λ n a. e n (f n a)

among-left : (xs ys : List ℕ) (k : ℕ) → IsAmong k xs → IsAmong k (xs ++ ys)
among-left [] ys k h = absurd h
among-left (x ∷ xs) ys k (inl e) = inl e
among-left (x ∷ xs) ys k (inr h) = inr (among-left xs ys k h)

among-right : (xs ys : List ℕ) (k : ℕ) → IsAmong k ys → IsAmong k (xs ++ ys)
among-right [] ys k h = h
among-right (x ∷ xs) ys k h = inr (among-right xs ys k h)

-- the types in each field nest as deep at most as those in all
pub fields-enough : (depth : ℕ) (types : List EventShape) (fields : List Field) → Enough depth types (flat_map (λ f. types_in (form_of f.shape)) fields)
    → AllByRecursion (λ f. Enough depth types (types_in (form_of f.shape))) fields
fields-enough depth types [] e = tt
fields-enough depth types (f ∷ fs) e =
    let here = types_in (form_of f.shape) in
    let more = flat_map (λ g. types_in (form_of g.shape)) fs in
    (enough-part depth types here (here ++ more) (among-left here more) e, fields-enough depth types fs (enough-part depth types more (here ++ more) (among-right here more) e))

-- one more than there are types is deep enough for all
pub deep-enough : (types : List EventShape) (ns : List ℕ) → HasKnownFields types → HasNoCycle types → AreTypes types ns → Enough (suc (length types)) types ns
deep-enough types ns known none are = enough types known none (suc (length types)) [] ns (omega arith) distinct-none tt tt are

-- the same, where the count is written the other way
pub deep-enough_one : (types : List EventShape) (ns : List ℕ) → HasKnownFields types → HasNoCycle types → AreTypes types ns → Enough (length types + 1) types ns
deep-enough_one types ns known none are = rw add-one (deep-enough types ns known none are)

-- each of these holds of the parts of a list that is cut into two
all-cut : (P : ℕ → Type 0) (xs ys : List ℕ) → AllByRecursion P (xs ++ ys) → AllByRecursion P xs × AllByRecursion P ys
all-cut P [] ys a = (tt, a)
all-cut P (x ∷ xs) ys a = let r = all-cut P xs ys a.1 in ((a.0, r.0), r.1)

-- the types in each field are there where those in all are
pub fields-known : (types : List EventShape) (fields : List Field) → AreTypes types (flat_map (λ f. types_in (form_of f.shape)) fields)
    → AllByRecursion (λ f. AreTypes types (types_in (form_of f.shape))) fields
fields-known types [] a = tt
fields-known types (f ∷ fs) a =
    let r = all-cut (λ n. n < length types) (types_in (form_of f.shape)) (flat_map (λ g. types_in (form_of g.shape)) fs) a in
    (r.0, fields-known types fs r.1)

-- without event types
pub none-known : HasKnownFields []
none-known n = tt

pub none-cycle : HasNoCycle []
none-cycle zero n h = h
none-cycle (suc depth) n h = h.1
