-- A field, an element and a method answer behind a value that answers.
use Rattle.std.proofs.Common.{◌≡◌, ◌∷◌, if◌then◌else◌}
use Rattle.program_laws.proofs.Common.{ℕ, true, List, [], map, min, Option, Some, None, slice_get, refl, sym, ap, subst, ◌∙◌, arith, AllByRecursion, and_from, slice_get_within, Spot, Field, EventShape, Shape, Shape-F, out-Shape, TypedExpr, Method, same, stands, Signature, Names, checked, is_of, are_of, agrees, may_stand, if_known, field_shape, shape_in, Scope, Table, Found, Arguments, Called, MethodCall, Reach, Root, Judged, Walk, Demand, Value, Exactly, fields_at, arguments_found, count_code, wants_of_shapes, row_of, unknown_call, called_by, called_on, called_of, method_reach, Part, change_code, shape_given, reached, missing_field, field_reach, field_named, field_found, element_reach_layer, near, is_far, nearer, index_found, called_found, method_found, KnowsTable, KnowsType, gives_result}
use Rattle.epl_values.specs.declared.shape.Shape.TheVariants as shape
use Rattle.epl_values.specs.declared.shape.Shape.TheOpen as layer
use Rattle.typed_program.specs.declared.expression.TypedSuffixNode.TheVariants as suffix
use Rattle.typed_program.specs.declared.expression.TypedNode.TheOpen as typed
use Rattle.typed_program.specs.Methods.{signature}
use Rattle.typed_program.specs.Expressions.{field_leads, item_leads, key_leads, method_leads}
use Rattle.typed_program.specs.Expressions.{fields_at as typed_fields_at}
use Rattle.expr_rules.specs.declared.asked.Paths.TheVariants as paths
use Rattle.expr_rules.specs.Asked.{plain}
use Rattle.expr_rules.specs.Methods.{changes, method_named}
use Rattle.expr_rules.specs.Postfix.{field_at, place_of, field_in, field_of, index_wish_layer, index_wish, element_reach, element_step, method_stands}
use Rattle.expr_rules.specs.Then.{and_then}
use Rattle.program_laws.proofs.Exprs.Sure.{Sure, sure_then, sure_node}
use Rattle.program_laws.proofs.Exprs.Alike.{same_self}
use Rattle.program_laws.proofs.Exprs.Standing.{integer_stands, item_stands, entry_stands}
use Rattle.program_laws.proofs.Exprs.Holding.{step_checked, step_rolled}
use Rattle.program_laws.proofs.Exprs.Answering.{Answering, Answers, exact_is_of}
use Rattle.program_laws.proofs.Exprs.Arguments.{every_at, Taken, taken_start, taken_counted, arguments_sure}
use Rattle.program_laws.proofs.Exprs.Calls.{agrees_self, lower_none}
use Rattle.program_laws.proofs.Exprs.Methods.{row_from, signature_same, signature_stands, RowStands}
use Rattle.program_laws.proofs.Exprs.Steps.{Reaches, Next, Leads, reached_sure, reached_from, from_stands, result_known, result_shape}
use Rattle.program_laws.proofs.Shapes.Lists.{all_at}

module _ (names : Names) where
  -- ---- fields

  module _ (spot : Spot) (demand : Demand) (first : TypedExpr) (walk : Walk) (s : Shape) (n : ℕ) (r : Reaches names Value first walk) (is : walk.shape ≡ Some s) (at : out-Shape s ≡ layer.Event n) where
    missing_sure : Sure (Next names demand.wish first walk) (reached spot demand walk.root walk (missing_field (Some 7)))
    missing_sure = reached_sure names spot demand walk.root walk (missing_field (Some 7)) first s r is (λ none. absurd (cc))

    field_leads_on : (event : EventShape) (k : ℕ) (f : Field) → slice_get names.types n ≡ Some event → KnowsType names.types event → slice_get event.fields k ≡ Some f → step_checked names (suffix.Field (min 65535 k)) (Some f.shape) s ≡ true
    field_leads_on event k f there known found =
        let small : min 65535 k ≡ k = (let w = slice_get_within event.fields k f found in let few = known.few in omega arith) in
        step_rolled names (typed.Field (min 65535 k)) (suffix.Field (min 65535 k)) (Some f.shape) s (suffix.rolls-Field (min 65535 k))
        (ap (λ (d : Shape-F Shape). field_leads names.types (min 65535 k) (Some f.shape) d) at
        ∙ ap (λ (m : ℕ). if_known (λ t. if_known (same t) (Some f.shape)) (field_shape names.types n m)) small
        ∙ ap (λ (o : Option EventShape). if_known (λ t. if_known (same t) (Some f.shape)) (shape_in (slice_get (typed_fields_at o) k))) there
        ∙ ap (λ (o : Option Field). if_known (λ t. if_known (same t) (Some f.shape)) (shape_in o)) found
        ∙ same_self f.shape)

    numbered_sure : (event : EventShape) (k : ℕ) (o : Option Field) → slice_get names.types n ≡ Some event → KnowsType names.types event → slice_get event.fields k ≡ o → Sure (Next names demand.wish first walk) (reached spot demand walk.root walk (field_reach k o))
    numbered_sure event k None there known found = missing_sure
    numbered_sure event k (Some f) there known found = reached_sure names spot demand walk.root walk (field_reach k (Some f)) first s r is (λ none.
        record { known = tt; there = every_at (λ g. stands names.types g.shape) event.fields k f known.fields found; leads_on = field_leads_on event k f there known found })

    placed_sure : (event : EventShape) (o : Option ℕ) → slice_get names.types n ≡ Some event → KnowsType names.types event → Sure (Next names demand.wish first walk) (reached spot demand walk.root walk (field_at event.fields o))
    placed_sure event None there known = missing_sure
    placed_sure event (Some k) there known = numbered_sure event k (slice_get event.fields k) there known refl

    none_sure : (o : Option ℕ) → Sure (Next names demand.wish first walk) (reached spot demand walk.root walk (field_at [] o))
    none_sure None = missing_sure
    none_sure (Some k) = missing_sure

    typed_sure : (name : List ℕ) (o : Option EventShape) → AllByRecursion (KnowsType names.types) names.types → slice_get names.types n ≡ o → Sure (Next names demand.wish first walk) (reached spot demand walk.root walk (field_named (fields_at o) name))
    typed_sure name None kinds there = none_sure (place_of [] name)
    typed_sure name (Some event) kinds there = placed_sure event (place_of event.fields name) there (all_at (KnowsType names.types) names.types n event kinds there)

  unknown_field_sure : (spot : Spot) (demand : Demand) (first : TypedExpr) (walk : Walk) (s : Shape) → Reaches names Value first walk → walk.shape ≡ Some s → Sure (Next names demand.wish first walk) (reached spot demand walk.root walk (missing_field (Some 7)))
  unknown_field_sure spot demand first walk s r is = reached_sure names spot demand walk.root walk (missing_field (Some 7)) first s r is (λ none. absurd (cc))

  field_layer_sure : (table : Table) (scope : Scope) → KnowsTable table names scope → (name : List ℕ) (spot : Spot) (demand : Demand) (first : TypedExpr) (walk : Walk) (s : Shape) (d : Shape-F Shape) → Reaches names Value first walk → walk.shape ≡ Some s → out-Shape s ≡ d → Sure (Next names demand.wish first walk) (reached spot demand walk.root walk (field_in table d name))
  field_layer_sure table scope k name spot demand first walk s (layer.Event n) r is at =
      subst (λ (types : List EventShape). Sure (Next names demand.wish first walk) (reached spot demand walk.root walk (field_named (fields_at (slice_get types n)) name))) (sym k.types)
      (typed_sure spot demand first walk s n r is at name (slice_get names.types n) k.kinds refl)
  field_layer_sure table scope k name spot demand first walk s d r is at = unknown_field_sure spot demand first walk s r is

  pub field_sure : (table : Table) (scope : Scope) → KnowsTable table names scope → (name : List ℕ) (spot : Spot) (demand : Demand) (first : TypedExpr) (walk : Walk) → Reaches names Value first walk → Sure (Next names demand.wish first walk) (field_found table name spot demand walk)
  unfolding field_of
  field_sure table scope k name spot demand first walk r =
      let from = reached_from names first walk r in
      subst (λ (o : Option Shape). Sure (Next names demand.wish first walk) (reached spot demand walk.root walk (field_of table o name))) (sym from.1)
      (field_layer_sure table scope k name spot demand first walk from.0 (out-Shape from.0) r from.1 refl)

  -- ---- elements

  abbrev by_element : Spot → Spot → Demand → Walk → (TypedExpr → Reach) → Judged → Found Walk
  by_element own spot demand walk reach j = and_then (near own demand.changed walk.root) (λ (root : Option Root). reached spot demand root walk (reach j.typed))

  element_sure : (own spot : Spot) (demand : Demand) (first : TypedExpr) (walk : Walk) (s : Shape) (reach : TypedExpr → Reach) (j : Judged) → Reaches names Value first walk → walk.shape ≡ Some s → ((reach j.typed).own ≡ None → Leads names (reach j.typed).node s (reach j.typed).given) → Sure (Next names demand.wish first walk) (by_element own spot demand walk reach j)
  element_sure own spot demand first walk s reach j r is h =
      sure_then (λ (root : Option Root). Unit {0}) (Next names demand.wish first walk) (near own demand.changed walk.root) (λ (root : Option Root). reached spot demand root walk (reach j.typed))
      (sure_node (λ (root : Option Root). Unit {0}) own (if is_far demand.changed walk.root then 4 ∷ [] else []) (nearer walk.root) (λ none. tt))
      (λ root u. reached_sure names spot demand root walk (reach j.typed) first s r is h)

  item_leads_on : (s item : Shape) (e : TypedExpr) → out-Shape s ≡ layer.Sequence item → is_of shape.Integer (checked names e) ≡ true → step_checked names (suffix.Item e) (Some item) s ≡ true
  item_leads_on s item e at h = step_rolled names (typed.Item e) (suffix.Item e) (Some item) s (suffix.rolls-Item e)
      (ap (λ (d : Shape-F Shape). item_leads (checked names e) (Some item) d) at ∙ and_from (is_of shape.Integer (checked names e)) (same item item) h (same_self item))

  key_leads_on : (s key value : Shape) (e : TypedExpr) → out-Shape s ≡ layer.Dictionary key value → is_of key (checked names e) ≡ true → step_checked names (suffix.Key e) (Some value) s ≡ true
  key_leads_on s key value e at h = step_rolled names (typed.Key e) (suffix.Key e) (Some value) s (suffix.rolls-Key e)
      (ap (λ (d : Shape-F Shape). key_leads (checked names e) (Some value) d) at ∙ and_from (is_of key (checked names e)) (same value value) h (same_self value))

  index_layer_sure : (part : Part) (own spot : Spot) (demand : Demand) (first : TypedExpr) (walk : Walk) (s : Shape) (d : Shape-F Shape) → Answers names part → Reaches names Value first walk → walk.shape ≡ Some s → out-Shape s ≡ d → Sure (Next names demand.wish first walk) (and_then (part (plain (index_wish_layer d))) (by_element own spot demand walk (element_reach_layer d)))
  index_layer_sure part own spot demand first walk s (layer.Sequence item) p r is at =
      sure_then (Answering names (Exactly shape.Integer)) (Next names demand.wish first walk) (part (plain (Exactly shape.Integer))) (by_element own spot demand walk (element_reach_layer (layer.Sequence item)))
      (p.at_demand (plain (Exactly shape.Integer)) (integer_stands names.types))
      (λ j a. element_sure own spot demand first walk s (element_reach_layer (layer.Sequence item)) j r is (λ none.
      record { known = tt; there = item_stands names.types s item at (from_stands names first walk s r is); leads_on = item_leads_on s item j.typed at (exact_is_of names shape.Integer j a) }))
  index_layer_sure part own spot demand first walk s (layer.Dictionary key value) p r is at =
      let k = entry_stands names.types s key value at (from_stands names first walk s r is) in
      sure_then (Answering names (Exactly key)) (Next names demand.wish first walk) (part (plain (Exactly key))) (by_element own spot demand walk (element_reach_layer (layer.Dictionary key value)))
      (p.at_demand (plain (Exactly key)) k.key_stands)
      (λ j a. element_sure own spot demand first walk s (element_reach_layer (layer.Dictionary key value)) j r is (λ none.
      record { known = tt; there = k.value_stands; leads_on = key_leads_on s key value j.typed at (exact_is_of names key j a) }))
  index_layer_sure part own spot demand first walk s d p r is at =
      sure_then (Answering names Value) (Next names demand.wish first walk) (part (plain Value)) (by_element own spot demand walk (element_reach_layer d))
      (p.at_demand (plain Value) refl)
      (λ j a. element_sure own spot demand first walk s (element_reach_layer d) j r is (λ none. absurd (cc)))

  pub index_sure : (part : Part) (own spot : Spot) (demand : Demand) (first : TypedExpr) (walk : Walk) → Answers names part → Reaches names Value first walk → Sure (Next names demand.wish first walk) (index_found part own spot demand walk)
  unfolding element_step index_wish element_reach
  index_sure part own spot demand first walk p r =
      let from = reached_from names first walk r in
      subst (λ (o : Option Shape). Sure (Next names demand.wish first walk) (and_then (part (plain (index_wish o))) (by_element own spot demand walk (element_reach o)))) (sym from.1)
      (index_layer_sure part own spot demand first walk from.0 (out-Shape from.0) p r from.1 refl)

  -- ---- methods

  method_leads_on : (s : Shape) (m : Method) (row : Signature) (items : List TypedExpr) → signature s m ≡ Some row → are_of row.takes (map (checked names) items) ≡ true → step_checked names (suffix.Method m items) (shape_given (gives_result row.gives)) s ≡ true
  method_leads_on s m row items at h =
      subst (λ (o : Option Shape). step_checked names (suffix.Method m items) o s ≡ true) (sym (result_shape row.gives))
      (step_rolled names (typed.Method m items) (suffix.Method m items) row.gives s (suffix.rolls-Method m items)
      (ap (λ (o : Option Signature). if_known (method_leads (map (checked names) items) row.gives) o) at
      ∙ and_from (are_of row.takes (map (checked names) items)) (agrees row.gives row.gives) h (agrees_self row.gives)))

  method_stands_sure : (spot : Spot) (demand : Demand) (first : TypedExpr) (walk : Walk) (s : Shape) (called : Called) (a : Arguments) → Reaches names Value first walk → walk.shape ≡ Some s → ((method_reach called walk.root a).own ≡ None → Leads names (suffix.Method called.method a.items) s called.given) → Sure (Next names demand.wish first walk) (method_stands spot demand walk called a)
  unfolding method_stands
  method_stands_sure spot demand first walk s called a r is h = reached_sure names spot demand None walk (method_reach called walk.root a) first s r is h

  unknown_sure : (parts : List Part) (spot : Spot) (demand : Demand) (first : TypedExpr) (walk : Walk) (s : Shape) → AllByRecursion (Answers names) parts → Reaches names Value first walk → walk.shape ≡ Some s → Sure (Next names demand.wish first walk) (called_found (unknown_call (Some 7)) parts spot demand walk)
  unknown_sure parts spot demand first walk s all r is =
      sure_then (Taken names []) (Next names demand.wish first walk) (arguments_found (unknown_call (Some 7)).start parts) (method_stands spot demand walk (unknown_call (Some 7)).called)
      (arguments_sure names [] refl (unknown_call (Some 7)).start parts all (taken_start names [] paths.Refused [] refl))
      (λ a t. method_stands_sure spot demand first walk s (unknown_call (Some 7)).called a r is (λ none. absurd (cc)))

  row_sure : (m : Method) (row : Signature) (parts : List Part) (spot : Spot) (demand : Demand) (first : TypedExpr) (walk : Walk) (s : Shape) → signature s m ≡ Some row → RowStands names.types row → AllByRecursion (Answers names) parts → Reaches names Value first walk → walk.shape ≡ Some s → Sure (Next names demand.wish first walk) (called_found (row_of m (wants_of_shapes row.takes) (gives_result row.gives)) parts spot demand walk)
  row_sure m row parts spot demand first walk s at stood all r is =
      let call = row_of m (wants_of_shapes row.takes) (gives_result row.gives) in
      sure_then (Taken names row.takes) (Next names demand.wish first walk) (arguments_found call.start parts) (method_stands spot demand walk call.called)
      (arguments_sure names row.takes stood.takes_stand call.start parts all (taken_start names row.takes paths.Refused (wants_of_shapes row.takes) refl))
      (λ a t. method_stands_sure spot demand first walk s call.called a r is (λ none.
      record {
        known = result_known row.gives;
        there = ap (λ (o : Option Shape). may_stand names.types o) (result_shape row.gives) ∙ stood.gives_stand;
        leads_on = method_leads_on s m row a.items at (taken_counted names row.takes a t (lower_none (count_code a) (change_code (changes m) walk.root) none));
      }))

  called_sure : (m : Method) (o : Option Signature) (parts : List Part) (spot : Spot) (demand : Demand) (first : TypedExpr) (walk : Walk) (s : Shape) → signature s m ≡ o → AllByRecursion (Answers names) parts → Reaches names Value first walk → walk.shape ≡ Some s → Sure (Next names demand.wish first walk) (called_found (called_by (row_from m o)) parts spot demand walk)
  called_sure m None parts spot demand first walk s at all r is = unknown_sure parts spot demand first walk s all r is
  called_sure m (Some row) parts spot demand first walk s at all r is = row_sure m row parts spot demand first walk s at (signature_stands names.types s m row (from_stands names first walk s r is) at) all r is

  named_sure : (o : Option Method) (parts : List Part) (spot : Spot) (demand : Demand) (first : TypedExpr) (walk : Walk) (s : Shape) → AllByRecursion (Answers names) parts → Reaches names Value first walk → walk.shape ≡ Some s → Sure (Next names demand.wish first walk) (called_found (called_on s o) parts spot demand walk)
  named_sure None parts spot demand first walk s all r is = unknown_sure parts spot demand first walk s all r is
  named_sure (Some m) parts spot demand first walk s all r is =
      subst (λ (c : Option MethodCall). Sure (Next names demand.wish first walk) (called_found (called_by c) parts spot demand walk)) (sym (signature_same s m))
      (called_sure m (signature s m) parts spot demand first walk s refl all r is)

  pub method_sure : (name : List ℕ) (parts : List Part) (spot : Spot) (demand : Demand) (first : TypedExpr) (walk : Walk) → AllByRecursion (Answers names) parts → Reaches names Value first walk → Sure (Next names demand.wish first walk) (method_found name parts spot demand walk)
  method_sure name parts spot demand first walk all r =
      let from = reached_from names first walk r in
      subst (λ (o : Option Shape). Sure (Next names demand.wish first walk) (called_found (called_of o (method_named name)) parts spot demand walk)) (sym from.1)
      (named_sure (method_named name) parts spot demand first walk from.0 all r from.1)
