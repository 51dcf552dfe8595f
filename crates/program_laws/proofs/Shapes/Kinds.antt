-- The event types of files without a fault: there are few, their fields stand, and no context and no listener is in them.
use Rattle.std.proofs.Common.{◌≡◌, ◌+◌, ◌<◌, ◌≤◌, ◌∷◌, ◌++◌, ◌&&◌, ◌||◌, if◌then◌else◌}
use Rattle.program_laws.proofs.Common.{ℕ, min, length, map, List, [], Some, None, Bool, true, false, not, nat_le, nat_lt, Option, refl, ap, sym, subst, ◌∙◌, arith, AllByRecursion, list_all, bytes_eq, length-append, length-map, position-Some, or_parts, or_from, leb-false, Spot, Shape, EventShape, Field, fold-roll-Shape, TypeExpr, TypeNode, TypeNode-F, roll-TypeNode, roll-TypeExpr, fold-TypeNode, fold-roll-TypeNode, fold-roll-TypeExpr, ind-TypeExpr, map-TypeNode, Declaration, EventDecl, FieldDecl, Program, stands, holds_link, Gathered, met, met_node, met_step, contains_itself, Found, told, numbers, count_of, field_faults, fields_faults, event_faults, declaration_faults, faults_from, gathered_after, with_event, with_monitor, units_faults, none_gathered, event_shape, in_file, declarations_of, names_of, with_kind, kinds_after, kinds_of, has_name, Written, node_found, written_step, written_of, type_by, KnowsType}
use Rattle.epl_values.specs.declared.shape.Shape.TheVariants as shape
use Rattle.epl_values.specs.declared.shape.Shape.TheOpen as layer
use Rattle.epl_tree.specs.declared.types.TypeNode.TheOpen as node
use Rattle.epl_tree.specs.declared.unit.Declaration.TheVariants as declaration
use Rattle.epl_tree.specs.declared.unit.Unit.{Unit as File}
use Rattle.typed_program.specs.Programs.{type_so}
use Rattle.typed_program.specs.Shapes.{meets_step}
use Rattle.type_table.specs.Chains.{leads, holds}
use Rattle.type_table.specs.Gathers.{when, is_named, field_shape}
use Rattle.type_table.specs.Kinds.{kind_step}
use Rattle.type_table.specs.Types.{event_shape as found_shape}
use Rattle.program_laws.proofs.Shapes.Lists.{both_true, no_both, no_told, all_append, every_true, all_of_same, all_map, no_when, no_map}
use Rattle.program_laws.proofs.Shapes.Types.{type_by_stands}

-- ---- no link is in a type of which none is met

link_integer : holds_link shape.Integer ≡ false
link_integer = ap holds_link (sym shape.rolls-Integer) ∙ fold-roll-Shape Bool (meets_step true (λ n. false)) layer.Integer

link_boolean : holds_link shape.Boolean ≡ false
link_boolean = ap holds_link (sym shape.rolls-Boolean) ∙ fold-roll-Shape Bool (meets_step true (λ n. false)) layer.Boolean

link_text : holds_link shape.Text ≡ false
link_text = ap holds_link (sym shape.rolls-Text) ∙ fold-roll-Shape Bool (meets_step true (λ n. false)) layer.Text

link_event : (n : ℕ) → holds_link (shape.Event n) ≡ false
link_event n = ap holds_link (sym (shape.rolls-Event n)) ∙ fold-roll-Shape Bool (meets_step true (λ n. false)) (layer.Event n)

link_sequence : (s : Shape) → holds_link (shape.Sequence s) ≡ holds_link s
link_sequence s = ap holds_link (sym (shape.rolls-Sequence s)) ∙ fold-roll-Shape Bool (meets_step true (λ n. false)) (layer.Sequence s)

link_dictionary : (key value : Shape) → holds_link (shape.Dictionary key value) ≡ (holds_link key || holds_link value)
link_dictionary key value = ap holds_link (sym (shape.rolls-Dictionary key value)) ∙ fold-roll-Shape Bool (meets_step true (λ n. false)) (layer.Dictionary key value)

module _ (number_of : List ℕ → Option ℕ) (event : List ℕ → Bool) where
  abbrev node_at : TypeNode → Spot → Found Shape
  node_at = fold-TypeNode (Spot → Found Shape) Written (node_found number_of) (written_step number_of)

  abbrev met_at : TypeNode → Bool
  met_at = fold-TypeNode Bool Bool (met_node true event) (met_step true event)

  abbrev NodeFree : TypeNode → Type 0
  NodeFree n = (spot : Spot) → met_at n ≡ false → holds_link (node_at n spot).part ≡ false

  abbrev TypeFree : TypeExpr → Type 0
  TypeFree t = met true event t ≡ false → holds_link (written_of number_of t).found.part ≡ false

  event_free : (spot : Spot) (o : Option ℕ) → holds_link (found_shape spot o).part ≡ false
  event_free spot (Some n) = link_event (min 65535 n)
  event_free spot None = link_integer

  node_free : (y : TypeNode-F ((n : TypeNode) × NodeFree n) ((t : TypeExpr) × TypeFree t)) (spot : Spot) → met_node true event (map-TypeNode TypeNode TypeExpr Bool Bool met_at (met true event) (map-TypeNode ((n : TypeNode) × NodeFree n) ((t : TypeExpr) × TypeFree t) TypeNode TypeExpr (λ e. e.0) (λ e. e.0) y)) ≡ false → holds_link (node_found number_of (map-TypeNode TypeNode TypeExpr (Spot → Found Shape) Written node_at (written_of number_of) (map-TypeNode ((n : TypeNode) × NodeFree n) ((t : TypeExpr) × TypeFree t) TypeNode TypeExpr (λ e. e.0) (λ e. e.0) y)) spot).part ≡ false
  node_free node.Integer spot none = link_integer
  node_free node.Boolean spot none = link_boolean
  node_free node.Text spot none = link_text
  node_free node.Context spot none = cc
  node_free node.Listener spot none = cc
  node_free (node.Named name) spot none = event_free spot (number_of name)
  node_free (node.Sequence item) spot none = link_sequence _ ∙ item.1 none
  node_free (node.Dictionary key value) spot none = let p = or_parts (met true event key.0) (met true event value.0) none in link_dictionary _ _ ∙ or_from _ _ (key.1 p.0) (value.1 p.1)

  pub type_free : (t : TypeExpr) → TypeFree t
  type_free = ind-TypeExpr NodeFree TypeFree
      (λ x y is. subst (λ d. NodeFree (roll-TypeNode d)) is (λ spot none. ap (λ (g : Spot → Found Shape). holds_link (g spot).part) (fold-roll-TypeNode (Spot → Found Shape) Written (node_found number_of) (written_step number_of) _) ∙ node_free y spot (sym (fold-roll-TypeNode Bool Bool (met_node true event) (met_step true event) _) ∙ none)))
      (λ x y is. subst (λ d. TypeFree (roll-TypeExpr d)) is (λ none. ap (λ (w : Written). holds_link w.found.part) (fold-roll-TypeExpr (Spot → Found Shape) Written (node_found number_of) (written_step number_of) _) ∙ y.node.1 y.spot (sym (fold-roll-TypeExpr Bool Bool (met_node true event) (met_step true event) _) ∙ none)))

-- ---- fields

module _ (kinds : List EventDecl) where
  record FieldFine (f : FieldDecl) : Type 0 where
    type : (type_by (numbers kinds) f.shape).faults ≡ []
    free : holds kinds f.shape ≡ false

  field_fine : (before : List FieldDecl) (f : FieldDecl) → field_faults kinds before f ≡ [] → FieldFine f × (length before < 64)
  field_fine before f none =
      let one = no_both (type_by (numbers kinds) f.shape).faults (told f.name.spot (when (is_named f.name.text before) 1 ++ when (holds kinds f.shape) 3 ++ when (nat_le 64 (length before) || nat_lt 256 (count_of kinds (before ++ f ∷ []))) 4)) none in
      let codes = no_both (when (is_named f.name.text before) 1 ++ when (holds kinds f.shape) 3) (when (nat_le 64 (length before) || nat_lt 256 (count_of kinds (before ++ f ∷ []))) 4) (no_told f.name.spot _ one.1) in
      let two = no_both (when (is_named f.name.text before) 1) (when (holds kinds f.shape) 3) codes.0 in
      let few = or_parts (nat_le 64 (length before)) (nat_lt 256 (count_of kinds (before ++ f ∷ []))) (no_when _ 4 codes.1) in
      (record { type = one.0; free = no_when (holds kinds f.shape) 3 two.1 }, leb-false 64 (length before) few.0)

  fields_fine : (before fs : List FieldDecl) → length before ≤ 64 → fields_faults kinds before fs ≡ [] → AllByRecursion FieldFine fs × (length before + length fs ≤ 64)
  fields_fine before [] few none = (tt, omega arith)
  fields_fine before (f ∷ fs) few none =
      let split = no_both (field_faults kinds before f) (fields_faults kinds (before ++ f ∷ []) fs) none in
      let one = field_fine before f split.0 in
      let lt = one.1 in
      let long = length-append before (f ∷ []) in
      let rest = fields_fine (before ++ f ∷ []) fs (omega (arith, long)) split.1 in
      let k = rest.1 in
      ((one.0, rest.0), omega (arith, long, k))

  -- ---- event types in order

  abbrev EventFine : EventDecl → Type 0
  EventFine e = fields_faults kinds [] e.fields ≡ []

  record Counted (acc : List EventDecl) (g : Gathered) : Type 0 where
    fine : AllByRecursion EventFine acc
    long : length acc ≤ g.events
    few : g.events ≤ 1000

  counted_event : (acc : List EventDecl) (g : Gathered) (e : EventDecl) → Counted acc g → event_faults kinds g e ≡ [] → Counted (with_kind acc e) (with_event g e.name.text)
  counted_event acc g e c none = by (has_name (names_of acc) e.name.text)
    where
      by : (b : Bool) → Counted (if b then acc else acc ++ e ∷ []) (with_event g e.name.text)
      by b =
          let split = no_both (told e.name.spot (when (has_name g.names e.name.text) 1 ++ when (nat_le 1000 g.events || contains_itself kinds e.name.text) 4)) (fields_faults kinds [] e.fields) none in
          let codes = no_both (when (has_name g.names e.name.text) 1) (when (nat_le 1000 g.events || contains_itself kinds e.name.text) 4) (no_told e.name.spot _ split.0) in
          let few = leb-false 1000 g.events (or_parts (nat_le 1000 g.events) (contains_itself kinds e.name.text) (no_when _ 4 codes.1)).0 in
          added b split.1 few
        where
          added : (b : Bool) → EventFine e → g.events < 1000 → Counted (if b then acc else acc ++ e ∷ []) (with_event g e.name.text)
          added true fine few = let l = c.long in record { fine = c.fine; long = omega arith; few = omega arith }
          added false fine few = let l = c.long in let long = length-append acc (e ∷ []) in record { fine = all_append EventFine acc (e ∷ []) c.fine (fine, tt); long = omega (arith, long); few = omega arith }

  counted_declarations : (file : ℕ) (acc : List EventDecl) (g : Gathered) (ds : List Declaration) → Counted acc g → faults_from kinds file g ds ≡ [] → Counted (kinds_after acc ds) (gathered_after kinds file g ds)
  counted_declarations file acc g [] c none = c
  counted_declarations file acc g (declaration.Event e ∷ ds) c none =
      let split = no_both (event_faults kinds g e) (faults_from kinds file (with_event g e.name.text) ds) none in
      counted_declarations file (with_kind acc e) (with_event g e.name.text) ds (counted_event acc g e c split.0) split.1
  counted_declarations file acc g (declaration.Monitor m ∷ ds) c none =
      let split = no_both (declaration_faults kinds g (declaration.Monitor m)) (faults_from kinds file (with_monitor (numbers kinds) file g m) ds) none in
      counted_declarations file acc (with_monitor (numbers kinds) file g m) ds (record { fine = c.fine; long = c.long; few = c.few }) split.1

  after_both : (acc : List EventDecl) (ds es : List Declaration) → kinds_after acc (ds ++ es) ≡ kinds_after (kinds_after acc ds) es
  after_both acc [] es = refl
  after_both acc (d ∷ ds) es = after_both (kind_step acc d) ds es

  counted_files : (file : ℕ) (acc : List EventDecl) (g : Gathered) (units : List File) → Counted acc g → units_faults kinds file g units ≡ [] → AllByRecursion EventFine (kinds_after acc (declarations_of units)) × (length (kinds_after acc (declarations_of units)) ≤ 1000)
  counted_files file acc g [] c none = (c.fine, (let l = c.long in let f = c.few in omega arith))
  counted_files file acc g (u ∷ units) c none =
      let split = no_both (map (in_file file) (faults_from kinds file g u.declarations)) (units_faults kinds (file + 1) (gathered_after kinds file g u.declarations) units) none in
      let rest = counted_files (file + 1) (kinds_after acc u.declarations) (gathered_after kinds file g u.declarations) units (counted_declarations file acc g u.declarations c (no_map (in_file file) (faults_from kinds file g u.declarations) split.0)) split.1 in
      subst (λ (xs : List EventDecl). AllByRecursion EventFine xs × (length xs ≤ 1000)) (sym (after_both acc u.declarations (declarations_of units))) rest

  -- ---- what they become

  module _ (types : List EventShape) (is : types ≡ map (event_shape (numbers kinds)) kinds) where
    number_below : (name : List ℕ) (n : ℕ) → numbers kinds name ≡ Some n → n < length types
    number_below name n found =
        let lt = (position-Some (bytes_eq name) (names_of kinds) n [] found).0 in
        let a = length-map kinds (λ (e : EventDecl). e.name.text) in
        let b = length-map kinds (event_shape (numbers kinds)) in
        let c = ap length is in
        omega (arith, a, b, c)

    field_so : (f : FieldDecl) → FieldFine f → (stands types (field_shape (numbers kinds) f).shape ≡ true) × (not (holds_link (field_shape (numbers kinds) f).shape) ≡ true)
    field_so f fine = (type_by_stands types (numbers kinds) number_below f.shape fine.type, ap not (type_free (numbers kinds) (leads kinds false true (λ name. false) (length kinds)) f.shape fine.free))

    event_known : (e : EventDecl) → EventFine e → KnowsType types (event_shape (numbers kinds) e)
    event_known e none =
        let h = fields_fine [] e.fields (omega arith) none in
        let few = h.1 in
        let long = length-map e.fields (field_shape (numbers kinds)) in
        record {
          few = omega (arith, long);
          fields = every_true (λ (f : Field). stands types f.shape) (map (field_shape (numbers kinds)) e.fields) (all_map (λ (f : Field). stands types f.shape ≡ true) (field_shape (numbers kinds)) e.fields (all_of_same e.fields (λ f k. (field_so f k).0) h.0));
        }

    event_so : (program : Program) → types ≡ program.types → (e : EventDecl) → EventFine e → type_so program (event_shape (numbers kinds) e) ≡ true
    event_so program same e none =
        let h = fields_fine [] e.fields (omega arith) none in
        subst (λ (ts : List EventShape). list_all (λ (f : Field). stands ts f.shape && not (holds_link f.shape)) (map (field_shape (numbers kinds)) e.fields) ≡ true) same
        (every_true (λ (f : Field). stands types f.shape && not (holds_link f.shape)) (map (field_shape (numbers kinds)) e.fields) (all_map (λ (f : Field). (stands types f.shape && not (holds_link f.shape)) ≡ true) (field_shape (numbers kinds)) e.fields (all_of_same e.fields (λ f k. let p = field_so f k in both_true p.0 p.1) h.0)))

-- what the declarations of event types give
pub record KindsHold (program : Program) : Type 0 where
  pub few : length program.types ≤ 1000
  pub known : AllByRecursion (KnowsType program.types) program.types
  pub types : list_all (type_so program) program.types ≡ true

pub kinds_hold : (units : List File) (program : Program) → program.types ≡ map (event_shape (numbers (kinds_of units))) (kinds_of units) → units_faults (kinds_of units) 0 none_gathered units ≡ [] → KindsHold program
kinds_hold units program is none =
    let kinds = kinds_of units in
    let all = counted_files kinds 0 [] none_gathered units (record { fine = tt; long = omega arith; few = omega arith }) none in
    let few = all.1 in
    let long = length-map kinds (event_shape (numbers kinds)) in
    let e = ap length is in
    record {
      few = omega (arith, few, long, e);
      known = subst (λ (ts : List EventShape). AllByRecursion (KnowsType program.types) ts) (sym is) (all_map (λ (t : EventShape). KnowsType program.types t) (event_shape (numbers kinds)) kinds (all_of_same kinds (λ e fine. event_known kinds program.types is e fine) all.0));
      types = ap (list_all (type_so program)) is ∙ every_true (type_so program) (map (event_shape (numbers kinds)) kinds) (all_map (λ (t : EventShape). type_so program t ≡ true) (event_shape (numbers kinds)) kinds (all_of_same kinds (λ e fine. event_so kinds program.types is program refl e fine) all.0));
    }
