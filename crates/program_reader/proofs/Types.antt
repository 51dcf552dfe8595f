-- The event types of a typed program whose names are spelled as names can be read in event files.
use Rattle.std.proofs.Common.{if◌then◌else◌, ◌≡◌, ℕ, zero, suc, ◌+◌, ◌<◌, ◌≤◌, List, [], ◌∷◌, ◌++◌, map, length, flat_map, Bool, true, false, ◌&&◌, not, Option, refl, sym, ◌∙◌, ap, subst, arith}
use Rattle.std.specs.Prelude.{nat_le}
use Rattle.std.specs.List.{AllByRecursion, list_all, slice_get}
use Rattle.std.proofs.lemmas.Bool.{and_parts, ltb-true, leb-true}
use Rattle.epl_values.specs.declared.shape.Shape.{Shape, Shape-F, roll-Shape, map-Shape, fold-Shape, fold-roll-Shape, ind-Shape}
use Rattle.epl_values.specs.declared.shape.Shape.TheOpen as layer
use Rattle.epl_values.specs.declared.shape.Field.{Field}
use Rattle.epl_values.specs.declared.shape.EventShape.{EventShape}
use Rattle.epl_tree.specs.declared.unit.Declaration.{Declaration}
use Rattle.epl_tree.specs.declared.unit.Declaration.TheVariants as declaration
use Rattle.epl_tree.specs.declared.unit.EventDecl.{EventDecl}
use Rattle.evt_text.specs.Forms.{IsName, HasNames, AreEventTypes}
use Rattle.event_types.specs.Types.{Form, form_step, form_of, types_in, fields_of, AreTypes, HasKnownFields}
use Rattle.typed_program.specs.declared.program.Program.{Program}
use Rattle.typed_program.specs.Shapes.{Standing, holds_link, standing_step, stands}
use Rattle.typed_program.specs.Limits.{are_narrow, has_few_params, within_limits}
use Rattle.typed_program.specs.Typed.{Typed}
use Rattle.type_table.specs.Names.{has_name}
use Rattle.type_table.specs.Gathers.{event_shape}
use Rattle.type_table.specs.Kinds.{names_of, with_kind, kind_step, kinds_after}
use Rattle.program_reader.proofs.Named.{IsNamed}

-- ---- the types that stand in shapes

all_joined : (P : ℕ → Type 0) (xs ys : List ℕ) → AllByRecursion P xs → AllByRecursion P ys → AllByRecursion P (xs ++ ys)
all_joined P [] ys h k = k
all_joined P (x ∷ xs) ys h k = (h.0, all_joined P xs ys h.1 k)

module _ (types : List EventShape) where
  abbrev standing : Shape → Standing
  standing = fold-Shape Standing (standing_step types)

  abbrev Knows : Shape → Type 0
  Knows s = stands types s ≡ true → AreTypes types (types_in (form_of s))

  abbrev Known : Type 0
  Known = (s : Shape) × Knows s

  abbrev shapes_in : Shape-F Known → Shape-F Shape
  shapes_in y = map-Shape Known Shape (λ e. e.0) y

  layer_known : (y : Shape-F Known) → (standing_step types (map-Shape Shape Standing standing (shapes_in y))).stands ≡ true → AreTypes types (types_in (form_step (map-Shape Shape Form form_of (shapes_in y))))
  layer_known layer.Integer h = tt
  layer_known layer.Boolean h = tt
  layer_known layer.Text h = tt
  layer_known (layer.Sequence item) h = item.1 h
  layer_known (layer.Dictionary key item) h =
      let b = and_parts ((standing key.0).scalar && stands types key.0) (stands types item.0) h in
      all_joined (λ n. n < length types) (types_in (form_of key.0)) (types_in (form_of item.0)) (key.1 (and_parts (standing key.0).scalar (stands types key.0) b.0).1) (item.1 b.1)
  layer_known (layer.Event n) h = (ltb-true n (length types) h, tt)
  layer_known layer.Context h = tt
  layer_known layer.Listener h = tt

  known_case : (x : Shape-F Shape) (y : Shape-F Known) → shapes_in y ≡ x → Knows (roll-Shape x)
  known_case x y is = subst (λ (z : Shape-F Shape). Knows (roll-Shape z)) is (λ h.
      subst (λ (f : Form). AreTypes types (types_in f)) (sym (fold-roll-Shape Form form_step (shapes_in y)))
      (layer_known y (sym (ap (λ (w : Standing). w.stands) (fold-roll-Shape Standing (standing_step types) (shapes_in y))) ∙ h)))

  -- each event type in a shape that stands is there
  stands_known : (s : Shape) → stands types s ≡ true → AreTypes types (types_in (form_of s))
  stands_known = ind-Shape Knows known_case

  abbrev field_so : Field → Bool
  field_so f = stands types f.shape && not (holds_link f.shape)

  fields_known : (fields : List Field) → list_all field_so fields ≡ true → AreTypes types (flat_map (λ f. types_in (form_of f.shape)) fields)
  fields_known [] h = tt
  fields_known (f ∷ fs) h =
      let b = and_parts (field_so f) (list_all field_so fs) h in
      all_joined (λ n. n < length types) (types_in (form_of f.shape)) (flat_map (λ g. types_in (form_of g.shape)) fs)
      (stands_known f.shape (and_parts (stands types f.shape) (not (holds_link f.shape)) b.0).0) (fields_known fs b.1)

  at_fields : (events : List EventShape) (n : ℕ) → list_all (λ event. list_all field_so event.fields) events ≡ true → list_all field_so (fields_of (slice_get events n)) ≡ true
  at_fields [] n h = refl
  at_fields (e ∷ es) zero h = (and_parts (list_all field_so e.fields) (list_all (λ event. list_all field_so event.fields) es) h).0
  at_fields (e ∷ es) (suc n) h = at_fields es n (and_parts (list_all field_so e.fields) (list_all (λ event. list_all field_so event.fields) es) h).1

-- the event types that fields name are there
known_fields : (program : Program) → Typed program → HasKnownFields program.types
known_fields program typed n = fields_known program.types (fields_of (slice_get program.types n)) (at_fields program.types program.types n typed.shapes.types)

-- ---- names

abbrev AreNamed : List EventDecl → Type 0
AreNamed kinds = AllByRecursion (λ e. IsName e.name.text) kinds

one_more : (kinds : List EventDecl) (e : EventDecl) → AreNamed kinds → IsName e.name.text → AreNamed (kinds ++ e ∷ [])
one_more [] e all name = (name, tt)
one_more (k ∷ ks) e all name = (all.0, one_more ks e all.1 name)

with_named : (kinds : List EventDecl) (e : EventDecl) → AreNamed kinds → IsName e.name.text → AreNamed (with_kind kinds e)
with_named kinds e all name = go (has_name (names_of kinds) e.name.text)
  where
    go : (b : Bool) → AreNamed (if b then kinds else kinds ++ e ∷ [])
    go true = all
    go false = one_more kinds e all name

step_named : (kinds : List EventDecl) (d : Declaration) → AreNamed kinds → IsNamed d → AreNamed (kind_step kinds d)
step_named kinds (declaration.Event e) all named = with_named kinds e all named
step_named kinds (declaration.Monitor m) all named = all

kinds_named : (kinds : List EventDecl) (ds : List Declaration) → AreNamed kinds → AllByRecursion IsNamed ds → AreNamed (kinds_after kinds ds)
kinds_named kinds [] all named = all
kinds_named kinds (d ∷ ds) all named = kinds_named (kind_step kinds d) ds (step_named kinds d all named.0) named.1

shapes_named : (number_of : List ℕ → Option ℕ) (kinds : List EventDecl) → AreNamed kinds → HasNames (map (event_shape number_of) kinds)
shapes_named number_of [] all = tt
shapes_named number_of (k ∷ ks) all = (all.0, shapes_named number_of ks all.1)

-- the event types of declarations whose names are spelled as names
pub types_named : (number_of : List ℕ → Option ℕ) (ds : List Declaration) → AllByRecursion IsNamed ds → HasNames (map (event_shape number_of) (kinds_after [] ds))
types_named number_of ds named = shapes_named number_of (kinds_after [] ds) (kinds_named [] ds tt named)

-- ---- limits

few_both : (program : Program) → within_limits program ≡ true → (length program.types ≤ 1000) × (length program.monitors ≤ 1001)
few_both program h =
    let types = nat_le (length program.types) 1000 in
    let monitors = nat_le (length program.monitors) 1001 in
    let narrow = are_narrow program.types 0 program.types in
    let params = list_all has_few_params program.actions in
    let a = and_parts (types && monitors && narrow && params) (nat_le (length program.actions + length program.sites) 65535) h in
    let b = and_parts (types && monitors && narrow) params a.0 in
    let c = and_parts (types && monitors) narrow b.0 in
    let d = and_parts types monitors c.0 in
    (leb-true (length program.types) 1000 d.0, leb-true (length program.monitors) 1001 d.1)

-- at most 1,001 monitors
pub few_monitors : (program : Program) → Typed program → length program.monitors ≤ 65535
few_monitors program typed = let few = few_both program typed.limits in omega arith

-- the event types of a typed program with names
pub are_event_types : (program : Program) → Typed program → HasNames program.types → AreEventTypes program.types
are_event_types program typed named =
    let few = few_both program typed.limits in
    record {
      few = omega arith;
      names = named;
      distinct = typed.distinct;
      fields = known_fields program typed;
      no_cycle = typed.no_cycle;
    }
