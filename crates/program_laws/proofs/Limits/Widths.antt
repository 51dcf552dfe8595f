-- The leaves of an event type by numbers are no more than those that are counted by names, so there are few.
use Rattle.std.proofs.Common.{◌≡◌, ◌+◌, ◌<◌, ◌≤◌, ◌∷◌}
use Rattle.program_laws.proofs.Common.{ℕ, zero, suc, min, length, map, List, [], Some, None, true, Option, refl, ap, sym, subst, ◌∙◌, slice_get, arith, nat_le, option_map, AllByRecursion, length-map, sum_by-cons, slice_get-map, slice_get_within, le-leb, Spot, EventShape, Field, Shape, Shape-F, out-Shape, TypeExpr, TypeNode, TypeNode-F, fold-TypeNode, map-TypeNode, EventDecl, FieldDecl, are_narrow, at_event, field_count, Found, numbers, event_shape, names_of, found_at, Written, node_found, written_step, written_of, type_by}
use Rattle.std.specs.List.{sum_by}
use Rattle.epl_values.specs.declared.shape.Shape.TheVariants as shape
use Rattle.epl_values.specs.declared.shape.Shape.TheOpen as layer
use Rattle.epl_tree.specs.declared.types.TypeExpr.{fold_out-TypeExpr}
use Rattle.epl_tree.specs.declared.types.TypeNode.{out-TypeNode}
use Rattle.epl_tree.specs.declared.types.TypeNode.TheOpen as node
use Rattle.epl_tree.specs.declared.types.TypeNode.TheFolds.{fold_out-TypeNode}
use Rattle.typed_program.specs.Expressions.{fields_at}
use Rattle.typed_program.specs.Limits.{field_width, width, is_narrow}
use Rattle.type_table.specs.Chains.{nested_layer, width as named_width}
use Rattle.type_table.specs.Gathers.{field_shape}
use Rattle.type_table.specs.Types.{event_shape as found_shape}
use Rattle.program_laws.proofs.Limits.Kinds.{KindFine}
use Rattle.program_laws.proofs.Limits.Names.{name_at}
use Rattle.program_laws.proofs.Shapes.Lists.{all_at, both_true, slice_some}

-- ---- a field

module _ (number_of : List ℕ → Option ℕ) (by_name : List ℕ → ℕ) (by_number : ℕ → ℕ) (less : (name : List ℕ) (n : ℕ) → number_of name ≡ Some n → by_name name ≤ 256 → by_number (min 65535 n) ≤ by_name name) where
  abbrev node_at : TypeNode → Spot → Found Shape
  node_at = fold-TypeNode (Spot → Found Shape) Written (node_found number_of) (written_step number_of)

  abbrev wide : Shape → ℕ
  wide s = field_width by_number (out-Shape s)

  wide_one : (s : Shape) (d : Shape-F Shape) → out-Shape s ≡ d → field_width by_number d ≡ 1 → wide s ≡ 1
  wide_one s d is one = ap (field_width by_number) is ∙ one

  event_wide : (spot : Spot) (name : List ℕ) (o : Option ℕ) → number_of name ≡ o → 1 + by_name name ≤ 256 → wide (found_shape spot o).part ≤ 1 + by_name name
  event_wide spot name (Some n) is few =
      let e : wide (shape.Event (min 65535 n)) ≡ 1 + by_number (min 65535 n) = ap (field_width by_number) (shape.outs-Event (min 65535 n)) in
      let le = less name n is (omega arith) in
      omega (arith, e, le)
  event_wide spot name None is few = let e = wide_one shape.Integer layer.Integer shape.outs-Integer refl in omega (arith, e)

  node_wide : (y : TypeNode-F TypeNode TypeExpr) (spot : Spot) → 1 + nested_layer by_name y ≤ 256 → wide (node_found number_of (map-TypeNode TypeNode TypeExpr (Spot → Found Shape) Written node_at (written_of number_of) y) spot).part ≤ 1 + nested_layer by_name y
  node_wide node.Integer spot few = let e = wide_one shape.Integer layer.Integer shape.outs-Integer refl in omega (arith, e)
  node_wide node.Boolean spot few = let e = wide_one shape.Boolean layer.Boolean shape.outs-Boolean refl in omega (arith, e)
  node_wide node.Text spot few = let e = wide_one shape.Text layer.Text shape.outs-Text refl in omega (arith, e)
  node_wide node.Context spot few = let e = wide_one shape.Context layer.Context shape.outs-Context refl in omega (arith, e)
  node_wide node.Listener spot few = let e = wide_one shape.Listener layer.Listener shape.outs-Listener refl in omega (arith, e)
  node_wide (node.Named name) spot few = event_wide spot name (number_of name) refl few
  node_wide (node.Sequence item) spot few =
      let s : Shape = (written_of number_of item).found.part in
      let e = wide_one (shape.Sequence s) (layer.Sequence s) (shape.outs-Sequence s) refl in
      omega (arith, e)
  node_wide (node.Dictionary key value) spot few =
      let k : Shape = (written_of number_of key).found.part in
      let v : Shape = (written_of number_of value).found.part in
      let e = wide_one (shape.Dictionary k v) (layer.Dictionary k v) (shape.outs-Dictionary k v) refl in
      omega (arith, e)

  type_wide : (t : TypeExpr) → field_count by_name t ≤ 256 → wide (type_by number_of t).part ≤ field_count by_name t
  type_wide t few =
      let is : wide (type_by number_of t).part ≡ wide (node_found number_of (map-TypeNode TypeNode TypeExpr (Spot → Found Shape) Written node_at (written_of number_of) (out-TypeNode t.node)) t.spot).part =
      ap (λ (w : Written). wide w.found.part) (fold_out-TypeExpr (Spot → Found Shape) Written (node_found number_of) (written_step number_of) t)
      ∙ ap (λ (g : Spot → Found Shape). wide (g t.spot).part) (fold_out-TypeNode (Spot → Found Shape) Written (node_found number_of) (written_step number_of) t.node) in
      let le = node_wide (out-TypeNode t.node) t.spot few in
      omega (arith, is, le)

  -- fields that are few by names are so by numbers
  fields_wide : (fs : List FieldDecl) → sum_by (λ f. field_count by_name f.shape) fs ≤ 256 → sum_by (λ f. wide f.shape) (map (field_shape number_of) fs) ≤ sum_by (λ f. field_count by_name f.shape) fs
  fields_wide [] few = omega arith
  fields_wide (f ∷ fs) few =
      let a = sum_by-cons (λ (f : FieldDecl). field_count by_name f.shape) f fs in
      let b = sum_by-cons (λ (f : Field). wide f.shape) (field_shape number_of f) (map (field_shape number_of) fs) in
      let one = type_wide f.shape (omega (arith, a)) in
      let rest = fields_wide fs (omega (arith, a)) in
      omega (arith, a, b, one, rest)

-- ---- event types

module _ (kinds : List EventDecl) (few : length kinds ≤ 65535) where
  abbrev types : List EventShape
  types = map (event_shape (numbers kinds)) kinds

  abbrev leaves : ℕ → FieldDecl → ℕ
  leaves steps f = field_count (named_width kinds steps) f.shape

  kind_there : (n : ℕ) → n < length kinds → (e : EventDecl) × (slice_get kinds n ≡ Some e)
  kind_there n lt = slice_some kinds n lt

  below : (name : List ℕ) (n : ℕ) → numbers kinds name ≡ Some n → n < length kinds
  below name n found =
      let lt = slice_get_within (names_of kinds) n name (name_at (names_of kinds) name n found) in
      let long = length-map kinds (λ (e : EventDecl). e.name.text) in
      omega (arith, long)

  -- an event type by its number, where its fields are few by names
  number_wide : (depth steps n : ℕ) (e : EventDecl) → slice_get kinds n ≡ Some e → ((name : List ℕ) (k : ℕ) → numbers kinds name ≡ Some k → named_width kinds steps name ≤ 256 → width depth types k ≤ named_width kinds steps name) → sum_by (leaves steps) e.fields ≤ 256 → width (suc depth) types n ≤ sum_by (leaves steps) e.fields
  unfolding width
  number_wide depth steps n e at less narrow =
      let here : slice_get types n ≡ Some (event_shape (numbers kinds) e) = slice_get-map (event_shape (numbers kinds)) kinds n ∙ ap (option_map (event_shape (numbers kinds))) at in
      let is : width (suc depth) types n ≡ sum_by (λ f. field_width (width depth types) (out-Shape f.shape)) (map (field_shape (numbers kinds)) e.fields) =
      ap (λ (o : Option EventShape). sum_by (λ f. field_width (width depth types) (out-Shape f.shape)) (fields_at o)) here in
      let small : (name : List ℕ) (k : ℕ) → numbers kinds name ≡ Some k → named_width kinds steps name ≤ 256 → width depth types (min 65535 k) ≤ named_width kinds steps name =
      (λ name k found le. let lt = below name k found in let same : k ≡ min 65535 k = omega arith in subst (λ (j : ℕ). width depth types j ≤ named_width kinds steps name) same (less name k found le)) in
      let le = fields_wide (numbers kinds) (named_width kinds steps) (width depth types) small e.fields narrow in
      omega (arith, is, le)

  name_wide : (steps n : ℕ) (name : List ℕ) (e : EventDecl) → numbers kinds name ≡ Some n → slice_get kinds n ≡ Some e → named_width kinds (suc steps) name ≡ min 257 (sum_by (leaves steps) e.fields)
  unfolding named_width
  name_wide steps n name e found at = ap (at_event 0 (λ (e : EventDecl). min 257 (sum_by (leaves steps) e.fields))) (ap (found_at kinds) found ∙ at)

  widths : (depth steps : ℕ) (name : List ℕ) (n : ℕ) → depth ≤ steps → numbers kinds name ≡ Some n → named_width kinds steps name ≤ 256 → width depth types n ≤ named_width kinds steps name
  unfolding width
  widths zero steps name n le found narrow = omega arith
  widths (suc depth) zero name n le found narrow = absurd (omega arith)
  widths (suc depth) (suc steps) name n le found narrow =
      let kind = kind_there n (below name n found) in
      let is = name_wide steps n name kind.0 found kind.1 in
      let most = number_wide depth steps n kind.0 kind.1 (λ name k found narrow. widths depth steps name k (omega arith) found narrow) (omega (arith, is)) in
      omega (arith, is, most)

  -- the leaves of each event type
  leaves_few : (n : ℕ) (e : EventDecl) → slice_get kinds n ≡ Some e → KindFine kinds e → width (length kinds) types n ≤ 256
  unfolding width
  leaves_few n e at fine = by (length kinds) refl
    where
      by : (long : ℕ) → length kinds ≡ long → width long types n ≤ 256
      by zero is = omega arith
      by (suc depth) is =
          let narrow = fine.leaves in
          let most = number_wide depth (length kinds) n e at (λ name k found le. widths depth (length kinds) name k (omega arith) found le) narrow in
          omega (arith, narrow, most)

  narrow_from : (n : ℕ) (events : List EventShape) → ((k : ℕ) (x : EventShape) → slice_get events k ≡ Some x → is_narrow types (n + k) x ≡ true) → are_narrow types n events ≡ true
  narrow_from n [] f = refl
  narrow_from n (event ∷ events) f = both_true
      (let z : n + 0 ≡ n = omega arith in subst (λ (j : ℕ). is_narrow types j event ≡ true) z (f 0 event refl))
      (narrow_from (suc n) events (λ k x at. let z : n + suc k ≡ suc n + k = omega arith in subst (λ (j : ℕ). is_narrow types j x ≡ true) z (f (suc k) x at)))

  event_narrow : (n : ℕ) (o : Option EventDecl) (x : EventShape) → slice_get kinds n ≡ o → ((e : EventDecl) → o ≡ Some e → KindFine kinds e) → option_map (event_shape (numbers kinds)) o ≡ Some x → is_narrow types n x ≡ true
  event_narrow n None x at fine is = cc
  event_narrow n (Some e) x at fine is =
      let same : event_shape (numbers kinds) e ≡ x = cc in
      let good = fine e refl in
      let fields = good.fields in
      let long = length-map e.fields (field_shape (numbers kinds)) in
      let leaves = leaves_few n e at good in
      let count = length-map kinds (event_shape (numbers kinds)) in
      subst (λ (y : EventShape). is_narrow types n y ≡ true) same (both_true (le-leb (length (map (field_shape (numbers kinds)) e.fields)) 64 (omega (arith, long, fields)))
      (ap (λ (l : ℕ). nat_le (width l types n) 256) count ∙ le-leb (width (length kinds) types n) 256 leaves))

  -- no event type has more than 64 fields and 256 leaves
  pub types_narrow : AllByRecursion (λ e. KindFine kinds e) kinds → are_narrow types 0 types ≡ true
  types_narrow fine = narrow_from 0 types (λ k x at.
      let z : k ≡ 0 + k = omega arith in
      subst (λ (j : ℕ). is_narrow types j x ≡ true) z (event_narrow k (slice_get kinds k) x refl (λ e is. all_at (λ e. KindFine kinds e) kinds k e fine is) (sym (slice_get-map (event_shape (numbers kinds)) kinds k) ∙ at)))
