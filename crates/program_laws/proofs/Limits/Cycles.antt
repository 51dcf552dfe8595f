-- Where each event type's name leads to itself by no chain as long as there are event types, none contains itself at any depth.
use Rattle.program_laws.proofs.Common.{ℕ, zero, suc, length, map, List, [], Some, None, Bool, true, false, Option, refl, ap, sym, subst, ◌∙◌, slice_get, arith, inl, inr, option_map, AllByRecursion, flat_map, list_any, bytes_eq, cases_lt, eqb-true, or_cases, or_left, or_right, length-map, slice_get-map, slice_get_within, bytes_eq-Decides, EventShape, Field, EventDecl, FieldDecl, types_in, IsAmong, HasNoCycle, met, at_event, numbers, event_shape, names_of, found_at}
use Rattle.std.proofs.Common.{◌≡◌, ◌+◌, ◌<◌, ◌≤◌, ◌∷◌, ◌||◌, eqb}
use Rattle.std.specs.Prelude.{◌⊎◌}
use Rattle.std.specs.List.{IsDistinct}
use Rattle.std.proofs.lemmas.Bool.{ne_eqb, true≢false}
use Rattle.std.proofs.lemmas.Map.Steps.{length-le_from_distinct_below}
use Rattle.event_types.specs.Types.{form_of, types_held, fields_of, Holds}
use Rattle.type_table.specs.Chains.{any_field, leads}
use Rattle.type_table.specs.Gathers.{field_shape}
use Rattle.program_laws.proofs.Limits.Chains.{MetBy, among_met, among_both}
use Rattle.program_laws.proofs.Limits.Kinds.{KindFine}
use Rattle.program_laws.proofs.Limits.Names.{Differ, name_at, number_at}
use Rattle.program_laws.proofs.Shapes.Lists.{all_at, all_by_place}

-- ---- numbers in a list

any_below : (most : ℕ) (ns : List ℕ) (q : ℕ) → AllByRecursion (λ p. p < most) ns → list_any (eqb q) ns ≡ true → q < most
any_below most [] q all e = absurd (true≢false (sym e))
any_below most (n ∷ ns) q all e = elim (or_cases _ _ e) [ inl h ↦ (let k = eqb-true q n h in let l = all.0 in omega arith) | inr h ↦ any_below most ns q all.1 h ]

distinct_front : (n : ℕ) (path : List ℕ) → AllByRecursion (λ p. eqb n p ≡ false) path → IsDistinct eqb path → IsDistinct eqb (n ∷ path)
unfolding IsDistinct
distinct_front n path all distinct = (all, distinct)

distinct_none : IsDistinct eqb []
unfolding IsDistinct
distinct_none = tt

holds_then : (types : List EventShape) (depth p n k : ℕ) → Holds types depth p n → IsAmong k (types_held types n) → Holds types (suc depth) p k
holds_then types zero p n k h a = (n, h, a)
holds_then types (suc depth) p n k h a = (h.0, h.1, holds_then types depth h.0 n k h.2 a)

module _ (kinds : List EventDecl) (differ : Differ (names_of kinds)) (few : length kinds ≤ 65535) where
  abbrev types : List EventShape
  types = map (event_shape (numbers kinds)) kinds

  abbrev met_by : ℕ → (Bool → (List ℕ → Bool) → Type 0) → Type 0
  met_by k Met = MetBy (numbers kinds) k Met

  -- ---- what event types hold is met in their fields

  fields_meet : (fs : List FieldDecl) (k : ℕ) → IsAmong k (flat_map (λ f. types_in (form_of f.shape)) (map (field_shape (numbers kinds)) fs)) → met_by k (λ link event. list_any (λ f. met link event f.shape) fs ≡ true)
  fields_meet [] k h = absurd h
  fields_meet (f ∷ fs) k h = by (fields_meet fs k) (among_both k (types_in (form_of (field_shape (numbers kinds) f).shape)) (flat_map (λ (g : Field). types_in (form_of g.shape)) (map (field_shape (numbers kinds)) fs)) h)
    where
      by : (IsAmong k (flat_map (λ (g : Field). types_in (form_of g.shape)) (map (field_shape (numbers kinds)) fs)) → met_by k (λ link event. list_any (λ (g : FieldDecl). met link event g.shape) fs ≡ true)) → IsAmong k (types_in (form_of (field_shape (numbers kinds) f).shape)) ⊎ IsAmong k (flat_map (λ (g : Field). types_in (form_of g.shape)) (map (field_shape (numbers kinds)) fs)) → met_by k (λ link event. list_any (λ (g : FieldDecl). met link event g.shape) (f ∷ fs) ≡ true)
      by rest (inl a) = let one = among_met (numbers kinds) f.shape k a in record { name = one.name; number = one.number; found = one.found; is = one.is; met = λ link event yes. or_left _ _ (one.met link event yes) }
      by rest (inr b) = let one = rest b in record { name = one.name; number = one.number; found = one.found; is = one.is; met = λ link event yes. or_right _ _ (one.met link event yes) }

  record HeldBy (n k : ℕ) : Type 0 where
    event : EventDecl
    at : slice_get kinds n ≡ Some event
    by : met_by k (λ link events. any_field (met link events) event ≡ true)

  held_by : (n k : ℕ) → IsAmong k (types_held types n) → HeldBy n k
  held_by n k h = at (slice_get kinds n) refl (subst (λ (o : Option EventShape). IsAmong k (flat_map (λ (f : Field). types_in (form_of f.shape)) (fields_of o))) (slice_get-map (event_shape (numbers kinds)) kinds n) h)
    where
      at : (o : Option EventDecl) → slice_get kinds n ≡ o → IsAmong k (flat_map (λ (f : Field). types_in (form_of f.shape)) (fields_of (option_map (event_shape (numbers kinds)) o))) → HeldBy n k
      at None is h = absurd h
      at (Some e) is h = record { event = e; at = is; by = fields_meet e.fields k h }

  name_of : (n : ℕ) (e : EventDecl) → slice_get kinds n ≡ Some e → slice_get (names_of kinds) n ≡ Some e.name.text
  name_of n e at = slice_get-map (λ (d : EventDecl). d.name.text) kinds n ∙ ap (option_map (λ (d : EventDecl). d.name.text)) at

  number_below : (name : List ℕ) (n : ℕ) → numbers kinds name ≡ Some n → n < length kinds
  number_below name n found =
      let lt = slice_get_within (names_of kinds) n name (name_at (names_of kinds) name n found) in
      let long = length-map kinds (λ (d : EventDecl). d.name.text) in
      omega (arith, long)

  number_met : {Met : Bool → (List ℕ → Bool) → Type 0} (k : ℕ) (one : met_by k Met) → numbers kinds one.name ≡ Some k
  number_met k one =
      let lt = number_below one.name one.number one.found in
      let is = one.is in
      one.found ∙ ap Some (omega arith)

  -- ---- a chain of event types, and one of names

  module _ (start link : Bool) (aim : List ℕ → Bool) (m : ℕ) (aims : (name : List ℕ) → numbers kinds name ≡ Some m → aim name ≡ true) where
    leads_chain : (steps depth n : ℕ) (name : List ℕ) → depth < steps → numbers kinds name ≡ Some n → Holds types depth n m → leads kinds start link aim steps name ≡ true
    unfolding leads
    leads_chain zero depth n name lt is h = absurd (omega arith)
    leads_chain (suc steps) zero n name lt is h =
        let held = held_by n m h in
        let one = held.by in
        ap (at_event false (any_field (met link (λ n. aim n || leads kinds start link aim steps n)))) (ap (found_at kinds) is ∙ held.at)
        ∙ one.met link (λ n. aim n || leads kinds start link aim steps n) (or_left _ _ (aims one.name (number_met m one)))
    leads_chain (suc steps) (suc depth) n name lt is h =
        let held = held_by n h.0 h.1 in
        let one = held.by in
        ap (at_event false (any_field (met link (λ n. aim n || leads kinds start link aim steps n)))) (ap (found_at kinds) is ∙ held.at)
        ∙ one.met link (λ n. aim n || leads kinds start link aim steps n) (or_right _ _ (leads_chain steps depth h.0 one.name (omega arith) (number_met h.0 one) h.2))

  first_held : (depth n m : ℕ) → Holds types depth n m → (e : EventDecl) × (slice_get kinds n ≡ Some e)
  first_held zero n m h = let held = held_by n m h in (held.event, held.at)
  first_held (suc depth) n m h = let held = held_by n h.0 h.1 in (held.event, held.at)

  module _ (fine : AllByRecursion (λ e. KindFine kinds e) kinds) where
    -- no cycle is shorter than the list
    no_short : (depth n : ℕ) → depth < length kinds → Holds types depth n n → ⊥
    no_short depth n lt h =
        let first = first_held depth n n h in
        let e : EventDecl = first.0 in
        let named = name_of n e first.1 in
        let aims : (name : List ℕ) → numbers kinds name ≡ Some n → bytes_eq e.name.text name ≡ true =
        (λ name is. let same : Some e.name.text ≡ Some name = sym named ∙ name_at (names_of kinds) name n is in (bytes_eq-Decides e.name.text name).1 cc) in
        true≢false (sym (leads_chain false false (bytes_eq e.name.text) n aims (length kinds) depth n e.name.text lt (number_at (names_of kinds) differ e.name.text n named) h)
        ∙ (all_at (λ e. KindFine kinds e) kinds n e fine first.1).apart)

    -- each holds the one behind it, and the first of them this one
    abbrev Trail : List ℕ → ℕ → Type 0
    Trail [] n = Unit {0}
    Trail (p ∷ path) n = IsAmong n (types_held types p) × Trail path p

    trail_holds : (path : List ℕ) (n i p : ℕ) → Trail path n → slice_get path i ≡ Some p → Holds types i p n
    trail_holds [] n i p trail at = cc
    trail_holds (q ∷ path) n zero p trail at = let same : q ≡ p = cc in subst (λ r. IsAmong n (types_held types r)) same trail.0
    trail_holds (q ∷ path) n (suc i) p trail at = holds_then types i p q n (trail_holds path q i p trail.1 at) trail.0

    among_below : (n k : ℕ) → IsAmong k (types_held types n) → k < length kinds
    among_below n k h = let one = (held_by n k h).by in number_below one.name k (number_met k one)

    few_apart : (path : List ℕ) → IsDistinct eqb path → AllByRecursion (λ p. p < length kinds) path → length path ≤ length kinds
    few_apart path distinct below = length-le_from_distinct_below path (length kinds) distinct (λ q h. any_below (length kinds) path q below h)

    trail_apart : (path : List ℕ) (n : ℕ) → length path ≤ length kinds → Trail path n → AllByRecursion (λ p. eqb n p ≡ false) path
    trail_apart path n le trail = all_by_place path (λ i p at. ne_eqb n p (λ same.
        let lt = slice_get_within path i p at in
        no_short i n (omega arith) (subst (λ q. Holds types i q n) (sym same) (trail_holds path n i p trail at))))

    no_long : (depth : ℕ) (path : List ℕ) (n m : ℕ) → length kinds ≤ length path + depth → IsDistinct eqb (n ∷ path) → AllByRecursion (λ p. p < length kinds) (n ∷ path) → Trail path n → Holds types depth n m → ⊥
    no_long zero path n m le distinct below trail h = let few = few_apart (n ∷ path) distinct below in absurd (omega arith)
    no_long (suc depth) path n m le distinct below trail h =
        let k = h.0 in
        let next : Trail (n ∷ path) k = (h.1, trail) in
        no_long depth (n ∷ path) k m (omega arith)
        (distinct_front k (n ∷ path) (trail_apart (n ∷ path) k (few_apart (n ∷ path) distinct below) next) distinct)
        (among_below n k h.1, below) next h.2

    -- no event type contains itself
    pub none_contains : HasNoCycle types
    none_contains depth n h = elim (cases_lt depth (length kinds)) [
      | inl lt ↦ no_short depth n lt h
      | inr le ↦ no_long depth [] n n (omega arith) (distinct_front n [] tt distinct_none) (let first = first_held depth n n h in slice_get_within kinds n first.0 first.1, tt) tt h
    ]
