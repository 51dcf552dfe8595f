-- Event types that are settled one by one, each behind all that it names: none of them contains itself.
use Rattle.std.proofs.Common.{◌≡◌, ℕ, zero, suc, ◌<◌, arith, Bor, option_map, Bool, true, false, List, [], ◌∷◌, Option, Some, None, map, length, get_or, slice_get, set, refl, ap, sym, subst, ◌∙◌, inl, inr}
use Rattle.std.specs.Prelude.{◌||◌, ◌⊎◌}
use Rattle.std.specs.List.{list_any}
use Rattle.std.specs.Str.{bytes_eq}
use Rattle.std.proofs.lemmas.Bool.{or_parts, or_from, true≢false, cases_eq}
use Rattle.std.proofs.lemmas.List.{get_or-set_same, get_or-set_other}
use Rattle.std.proofs.lemmas.Option.{slice_get-map}
use Rattle.std.proofs.lemmas.Slice.Eq.{bytes_eq-Decides}
use Rattle.epl_tree.specs.declared.unit.EventDecl.{EventDecl}
use Rattle.epl_tree.specs.declared.unit.FieldDecl.{FieldDecl}
use Rattle.epl_tree.specs.declared.types.TypeExpr.{TypeExpr}
use Rattle.epl_tree.specs.declared.types.TypeNode.{TypeNode}
use Rattle.epl_tree.specs.declared.types.TypeNode.TheOpen.{TypeNode-F}
use Rattle.epl_tree.specs.declared.types.TypeNode.TheOpen as node
use Rattle.epl_tree.specs.declared.types.TypeNode.TheViews.{roll-TypeNode, roll-TypeExpr}
use Rattle.epl_tree.specs.declared.types.TypeNode.TheFolds.{fold-TypeNode, fold-roll-TypeNode, fold-roll-TypeExpr, ind-TypeExpr, map-TypeNode}
use Rattle.type_table.specs.Names.{number_in}
use Rattle.type_table.specs.Kinds.{names_of, trees, found_at, event_named}
use Rattle.type_table.specs.Chains.{met, met_node, met_step, at_event, any_field, at_number, leads, begins, contains_itself}
use Rattle.type_table.specs.Pending.{is_pending, ArePending}
use Rattle.type_table.proofs.Turned.{number_map}

-- ---- what isn't met by one test isn't met by a test that passes less

module _ (p q : List ℕ → Bool) (less : (n : List ℕ) → p n ≡ false → q n ≡ false) where
  abbrev met_at : (List ℕ → Bool) → TypeNode → Bool
  met_at event = fold-TypeNode Bool Bool (met_node false event) (met_step false event)

  abbrev NodeLess : TypeNode → Type 0
  NodeLess n = met_at p n ≡ false → met_at q n ≡ false

  abbrev TypeLess : TypeExpr → Type 0
  TypeLess t = met false p t ≡ false → met false q t ≡ false

  abbrev layer_met : (List ℕ → Bool) → TypeNode-F ((n : TypeNode) × NodeLess n) ((t : TypeExpr) × TypeLess t) → Bool
  layer_met event y = met_node false event (map-TypeNode TypeNode TypeExpr Bool Bool (met_at event) (met false event) (map-TypeNode ((n : TypeNode) × NodeLess n) ((t : TypeExpr) × TypeLess t) TypeNode TypeExpr (λ e. e.0) (λ e. e.0) y))

  layer_less : (y : TypeNode-F ((n : TypeNode) × NodeLess n) ((t : TypeExpr) × TypeLess t)) → layer_met p y ≡ false → layer_met q y ≡ false
  layer_less node.Integer h = refl
  layer_less node.Boolean h = refl
  layer_less node.Text h = refl
  layer_less node.Context h = refl
  layer_less node.Listener h = refl
  layer_less (node.Named name) h = less name h
  layer_less (node.Sequence item) h = item.1 h
  layer_less (node.Dictionary key value) h = let both = or_parts (met false p key.0) (met false p value.0) h in or_from (met false q key.0) (met false q value.0) (key.1 both.0) (value.1 both.1)

  type_less : (t : TypeExpr) → TypeLess t
  type_less = ind-TypeExpr NodeLess TypeLess
      (λ x y is. subst (λ d. NodeLess (roll-TypeNode d)) is (λ h.
      fold-roll-TypeNode Bool Bool (met_node false q) (met_step false q) _
      ∙ layer_less y (sym (fold-roll-TypeNode Bool Bool (met_node false p) (met_step false p) _) ∙ h)))
      (λ x y is. subst (λ d. TypeLess (roll-TypeExpr d)) is (λ h.
      fold-roll-TypeExpr Bool Bool (met_node false q) (met_step false q) _
      ∙ y.node.1 (sym (fold-roll-TypeExpr Bool Bool (met_node false p) (met_step false p) _) ∙ h)))

  fields_less : (fs : List FieldDecl) → list_any (λ f. met false p f.shape) fs ≡ false → list_any (λ f. met false q f.shape) fs ≡ false
  fields_less [] h = refl
  fields_less (f ∷ fs) h = let both = or_parts (met false p f.shape) (list_any (λ (g : FieldDecl). met false p g.shape) fs) h in or_from (met false q f.shape) (list_any (λ (g : FieldDecl). met false q g.shape) fs) (type_less f.shape both.0) (fields_less fs both.1)

  any_less : (e : EventDecl) → any_field (met false p) e ≡ false → any_field (met false q) e ≡ false
  any_less e h = fields_less e.fields h

-- ---- settled event types

no_event : (f : EventDecl → Bool) (o : Option EventDecl) → o ≡ None → at_event false f o ≡ false
no_event f o h = ap (at_event false f) h

never : (o : Option EventDecl) → at_event false (λ e. false) o ≡ false
never None = refl
never (Some e) = refl

there_or_not : (o : Option EventDecl) → at_event false (λ e. true) o ≡ false → o ≡ None
there_or_not None h = refl
there_or_not (Some e) h = absurd (true≢false h)

module _ (kinds : List EventDecl) where
  names_apart : (table : List Bool) (target name : List ℕ) → is_pending kinds table target ≡ true → is_pending kinds table name ≡ false → bytes_eq target name ≡ false
  names_apart table target name waits free = by (bytes_eq target name) refl
    where
      by : (b : Bool) → bytes_eq target name ≡ b → b ≡ false
      by false is = refl
      by true is = absurd (true≢false (sym waits ∙ ap (is_pending kinds table) ((bytes_eq-Decides target name).0 is) ∙ free))

  -- no chain leads from a settled event type to a pending one
  settled_leads : (table : List Bool) (are : ArePending kinds table) (target : List ℕ) → is_pending kinds table target ≡ true → (steps : ℕ) (name : List ℕ) → is_pending kinds table name ≡ false → leads kinds false false (bytes_eq target) steps name ≡ false
  unfolding leads
  settled_leads table are target waits zero name free = never (event_named kinds name)
  settled_leads table are target waits (suc steps) name free = by (settled_leads table are target waits steps) (event_named kinds name) refl
    where
      by : ((n : List ℕ) → is_pending kinds table n ≡ false → leads kinds false false (bytes_eq target) steps n ≡ false) → (o : Option EventDecl) → event_named kinds name ≡ o → at_event false (any_field (met false (λ n. bytes_eq target n || leads kinds false false (bytes_eq target) steps n))) o ≡ false
      by behind None is = refl
      by behind (Some e) is = any_less (is_pending kinds table) (λ n. bytes_eq target n || leads kinds false false (bytes_eq target) steps n) (λ n h. or_from (bytes_eq target n) (leads kinds false false (bytes_eq target) steps n) (names_apart table target n waits h) (behind n h)) e (are.closed name e is free)

  -- one that is pending and names none that is doesn't contain itself
  alone : (table : List Bool) (are : ArePending kinds table) (name : List ℕ) → is_pending kinds table name ≡ true → (e : EventDecl) → event_named kinds name ≡ Some e → any_field (met false (is_pending kinds table)) e ≡ false → (steps : ℕ) → leads kinds false false (bytes_eq name) steps name ≡ false
  unfolding leads
  alone table are name waits e is none zero = never (event_named kinds name)
  alone table are name waits e is none (suc steps) =
      ap (at_event false (any_field (met false (λ n. bytes_eq name n || leads kinds false false (bytes_eq name) steps n)))) is
      ∙ any_less (is_pending kinds table) (λ n. bytes_eq name n || leads kinds false false (bytes_eq name) steps n) (λ n h. or_from (bytes_eq name n) (leads kinds false false (bytes_eq name) steps n) (names_apart table name n waits h) (settled_leads table are name waits steps n h)) e none

  module _ (table : List Bool) (i : ℕ) (within : i < length table) where
    after : List Bool
    after = set table i false

    -- what is settled behind it is this one, or was settled before
    number_settled : (o : Option ℕ) → at_number false after o ≡ false → (o ≡ Some i) ⊎ (at_number false table o ≡ false)
    unfolding after
    number_settled None h = inr refl
    number_settled (Some k) h = elim (cases_eq k i) [
      | inl same ↦ inl (ap Some same)
      | inr other ↦ inr (sym (get_or-set_other table i k false false other) ∙ h)
    ]

    number_stays : (o : Option ℕ) → at_number false table o ≡ false → at_number false after o ≡ false
    unfolding after
    number_stays None h = refl
    number_stays (Some k) h = elim (cases_eq k i) [
      | inl same ↦ ap (λ (n : ℕ). get_or (set table i false) n false) same ∙ get_or-set_same table i false false within
      | inr other ↦ get_or-set_other table i k false false other ∙ h
    ]

    module _ (are : ArePending kinds table) (e : EventDecl) (at : slice_get kinds i ≡ Some e) (pending : get_or table i false ≡ true) (none : any_field (met false (is_pending kinds table)) e ≡ false) where
      stays : (n : List ℕ) → is_pending kinds table n ≡ false → is_pending kinds after n ≡ false
      stays n h = number_stays (number_in (names_of kinds) n) h

      found : (name : List ℕ) → number_in (names_of kinds) name ≡ Some i → event_named kinds name ≡ Some e
      found name is = ap (found_at kinds) is ∙ at

      closed_after : (name : List ℕ) (d : EventDecl) → event_named kinds name ≡ Some d → is_pending kinds after name ≡ false → any_field (met false (is_pending kinds after)) d ≡ false
      closed_after name d is free = elim (number_settled (number_in (names_of kinds) name) free) [
        | inl this ↦ (let same : Some e ≡ Some d = sym (found name this) ∙ is in any_less (is_pending kinds table) (is_pending kinds after) stays d (subst (λ (o : Option EventDecl). at_event false (any_field (met false (is_pending kinds table))) o ≡ false) same none))
        | inr before ↦ any_less (is_pending kinds table) (is_pending kinds after) stays d (are.closed name d is before)
      ]

      apart_after : (name : List ℕ) → is_pending kinds after name ≡ false → contains_itself kinds name ≡ false
      apart_after name free = elim (number_settled (number_in (names_of kinds) name) free) [
        | inl this ↦ alone table are name (ap (at_number false table) this ∙ pending) e (found name this) none (length kinds)
        | inr before ↦ are.apart name before
      ]

      settled_after : ArePending kinds after
      settled_after = record { closed = closed_after; apart = apart_after }

  -- one more is settled
  pub settled_more : (names : List (List ℕ)) (table : List Bool) (i : ℕ) (e : EventDecl) → names ≡ names_of kinds → ArePending kinds table → i < length table → slice_get kinds i ≡ Some e → get_or table i false ≡ true → begins false (λ n. false) names table e ≡ false → ArePending kinds (set table i false)
  unfolding begins after
  settled_more names table i e named are within at pending none =
      settled_after table i within are e at pending (subst (λ (ns : List (List ℕ)). any_field (met false (λ n. at_number false table (number_in ns n))) e ≡ false) named none)

  leads_nowhere : (steps : ℕ) (name : List ℕ) → event_named kinds name ≡ None → leads kinds false false (bytes_eq name) steps name ≡ false
  unfolding leads
  leads_nowhere zero name is = never (event_named kinds name)
  leads_nowhere (suc steps) name is = no_event _ (event_named kinds name) is

  -- all are pending
  pub all_pending : ArePending kinds (map (λ (e : EventDecl). true) kinds)
  all_pending = record {
    closed = λ name e is free. absurd (true≢false (sym (number_map false (λ (d : EventDecl). true) kinds (number_in (names_of kinds) name) ∙ ap (at_event false (λ (d : EventDecl). true)) is) ∙ free));
    apart = λ name free. leads_nowhere (length kinds) name (there_or_not (event_named kinds name) (sym (number_map false (λ (d : EventDecl). true) kinds (number_in (names_of kinds) name)) ∙ free));
  }

-- where a table says of each that it is pending, nothing is claimed yet
pub first_pending : (kinds : List EventDecl) (table : List Bool) → table ≡ map (λ (e : EventDecl). true) kinds → ArePending kinds table
first_pending kinds table is = subst (λ (t : List Bool). ArePending kinds t) (sym is) (all_pending kinds)

-- a place that is read as true is one of the list
within_where_true : (xs : List Bool) (i : ℕ) → get_or xs i false ≡ true → i < length xs
within_where_true [] i h = absurd (true≢false (sym h))
within_where_true (x ∷ xs) zero h = omega arith
within_where_true (x ∷ xs) (suc i) h = let n = within_where_true xs i h in omega (arith, n)

-- the event type at a place behind references
tree_at : (rs : List (Bor EventDecl)) (i : ℕ) (r : Bor EventDecl) → slice_get rs i ≡ Some r → slice_get (trees rs) i ≡ Some r.now
tree_at rs i r at = slice_get-map (λ (q : Bor EventDecl). q.now) rs i ∙ ap (option_map (λ (q : Bor EventDecl). q.now)) at

-- the same as the code has it: the tests that it made, and the table that it marks
pub settled_here : (rs : List (Bor EventDecl)) (names : List (List ℕ)) (table shown tested : List Bool) (i : ℕ) (r : Bor EventDecl) → names ≡ names_of (trees rs) → ArePending (trees rs) table → slice_get rs i ≡ Some r → shown ≡ table → tested ≡ table → true ≡ at_number false shown (Some i) → false ≡ begins false (λ n. false) names tested r.now → ArePending (trees rs) (set table i false)
settled_here rs names table shown tested i r named are at same alike waits free =
    let here : get_or table i false ≡ true = sym (waits ∙ ap (λ (t : List Bool). get_or t i false) same) in
    let none : begins false (λ n. false) names table r.now ≡ false = sym (free ∙ ap (λ (t : List Bool). begins false (λ n. false) names t r.now) alike) in
    settled_more (trees rs) names table i r.now named are (within_where_true table i here) (tree_at rs i r at) here none

pub ruleset first = (first_pending)
