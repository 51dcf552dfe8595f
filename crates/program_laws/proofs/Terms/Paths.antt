-- A path of fields from a bound name reaches the shape that stands at it.
use Rattle.std.proofs.Common.{◌≡◌, ◌∷◌, ◌++◌}
use Rattle.program_laws.proofs.Common.{ℕ, min, Bool, true, false, List, [], length, Option, Some, None, slice_get, refl, sym, ap, subst, ◌∙◌, true≢false, arith, AllByRecursion, flat_map-append, slice_get_within, Spot, Field, EventShape, Shape, Shape-F, out-Shape, Expr, out-Expr, fold_out-Expr, ExprNode, ExprNode-F, map-ExprNode, fold-ExprNode, fold_out-ExprNode, Suffix, out-Suffix, fold_out-Suffix, SuffixNode, SuffixNode-F, out-SuffixNode, map-SuffixNode, fold-SuffixNode, fold_out-SuffixNode, Entry, Link, roll-TypedExpr, out-roll-TypedExpr, out-TypedNode, TypedSuffix, roll-TypedSuffix, TypedSuffixNode, Names, shape_of, field_shape, shape_in, Scope, Table, Reach, Judged, Root, Walk, Demand, fields_at, Pair, Part, Linked, shape_given, Step, walked, missing_field, field_reach, field_named, field_found, demand_before, walk_start, step_found, postfix_found, Node, StepNode, node_step, suffix_node_step, entry_step, expr_step, link_step, suffix_step, link_part, entry_part, KnowsTable, KnowsType, path_layer, Layer, layer_of, is_field_layer}
use Rattle.epl_values.specs.declared.shape.Shape.TheOpen as layer
use Rattle.epl_tree.specs.declared.expression.ExprNode.TheOpen as node
use Rattle.typed_program.specs.declared.expression.TypedNode.TheVariants as made
use Rattle.typed_program.specs.declared.expression.TypedSuffix.{out-roll-TypedSuffix}
use Rattle.typed_program.specs.declared.expression.TypedSuffixNode.{out-TypedSuffixNode}
use Rattle.typed_program.specs.declared.expression.TypedSuffixNode.TheVariants as suffix
use Rattle.typed_program.specs.Expressions.{fields_at as typed_fields_at}
use Rattle.typed_program.specs.Terms.{field_from, reached}
use Rattle.expr_rules.specs.declared.steps.StepKind.TheVariants as step
use Rattle.expr_rules.specs.Places.{placed}
use Rattle.expr_rules.specs.Postfix.{reached as step_reached, field_at, place_of as field_place, field_in as field_layer_in, field_of, postfix_of, walked_from, postfix_rest}
use Rattle.expr_rules.specs.Then.{through}
use Rattle.expr_check.specs.Expressions.{part_of, step_of}
use Rattle.listener_check.specs.Operands.{place_of, fields_in, field_in, field_layer, path_in}
use Rattle.listener_check.specs.Values.{is_field}
use Rattle.program_laws.proofs.Exprs.Sure.{Sure, sure_then, sure_sound}
use Rattle.program_laws.proofs.Exprs.Answering.{placed_sure}
use Rattle.program_laws.proofs.Shapes.Lists.{all_at}

-- ---- an expression by its node

module _ (table : Table) (scope : Scope) where
  abbrev node_of : ExprNode → Node
  node_of = fold-ExprNode Node StepNode Pair Part Linked Step (node_step table scope) (suffix_node_step table scope) (entry_step table scope) (expr_step table scope) (link_step table scope) (suffix_step table scope)

  abbrev step_node_of : SuffixNode → StepNode
  step_node_of = fold-SuffixNode Node StepNode Pair Part Linked Step (node_step table scope) (suffix_node_step table scope) (entry_step table scope) (expr_step table scope) (link_step table scope) (suffix_step table scope)

  abbrev pub parts_in : Layer → ExprNode-F Node StepNode Pair Part Linked Step
  parts_in x = map-ExprNode ExprNode SuffixNode Entry Expr Link Suffix Node StepNode Pair Part Linked Step node_of step_node_of (entry_part table scope) (part_of table scope) (link_part table scope) (step_of table scope) x

  pub part_at : (e : Expr) (d : Layer) → layer_of e ≡ d → part_of table scope e ≡ node_step table scope (parts_in d) (out-Expr e).spot
  part_at e d is =
      fold_out-Expr Node StepNode Pair Part Linked Step (node_step table scope) (suffix_node_step table scope) (entry_step table scope) (expr_step table scope) (link_step table scope) (suffix_step table scope) e
      ∙ ap (λ (n : Node). n (out-Expr e).spot) (fold_out-ExprNode Node StepNode Pair Part Linked Step (node_step table scope) (suffix_node_step table scope) (entry_step table scope) (expr_step table scope) (link_step table scope) (suffix_step table scope) (out-Expr e).node)
      ∙ ap (λ (x : Layer). node_step table scope (parts_in x) (out-Expr e).spot) is

  abbrev steps_in : SuffixNode-F ExprNode SuffixNode Entry Expr Link Suffix → SuffixNode-F Node StepNode Pair Part Linked Step
  steps_in x = map-SuffixNode ExprNode SuffixNode Entry Expr Link Suffix Node StepNode Pair Part Linked Step node_of step_node_of (entry_part table scope) (part_of table scope) (link_part table scope) (step_of table scope) x

  abbrev at_spot : Spot → StepNode → Step
  at_spot spot n = record { kind = n.kind; found = n.found spot }

  step_at : (s : Suffix) (d : SuffixNode-F ExprNode SuffixNode Entry Expr Link Suffix) → out-SuffixNode (out-Suffix s).node ≡ d → step_of table scope s ≡ at_spot (out-Suffix s).spot (suffix_node_step table scope (steps_in d))
  step_at s d is =
      fold_out-Suffix Node StepNode Pair Part Linked Step (node_step table scope) (suffix_node_step table scope) (entry_step table scope) (expr_step table scope) (link_step table scope) (suffix_step table scope) s
      ∙ ap (at_spot (out-Suffix s).spot) (fold_out-SuffixNode Node StepNode Pair Part Linked Step (node_step table scope) (suffix_node_step table scope) (entry_step table scope) (expr_step table scope) (link_step table scope) (suffix_step table scope) (out-Suffix s).node)
      ∙ ap (λ (x : SuffixNode-F ExprNode SuffixNode Entry Expr Link Suffix). at_spot (out-Suffix s).spot (suffix_node_step table scope (steps_in x))) is

  abbrev pub field_step : List ℕ → Step
  field_step name = record { kind = step.Inner; found = λ spot demand walk. field_found table name spot demand walk }

  -- a step that is a field
  field_at_layer : (s : Suffix) (d : SuffixNode-F ExprNode SuffixNode Entry Expr Link Suffix) → out-SuffixNode (out-Suffix s).node ≡ d → is_field_layer d ≡ true → (name : List ℕ) × (step_of table scope s ≡ field_step name)
  field_at_layer s (node.Field name) is h = (name, step_at s (node.Field name) is)
  field_at_layer s (node.Method name arguments) is h = absurd (true≢false (sym h))
  field_at_layer s (node.Index e) is h = absurd (true≢false (sym h))

  pub is_field_step : (s : Suffix) → is_field s ≡ true → (name : List ℕ) × (step_of table scope s ≡ field_step name)
  unfolding is_field
  is_field_step s h = field_at_layer s (out-SuffixNode (out-Suffix s).node) refl h

-- ---- fields

abbrev field_on : List EventShape → Option Shape → ℕ → Option Shape
field_on types None n = None
field_on types (Some s) n = field_from types n (out-Shape s)

reached_push : (types : List EventShape) (o : Option Shape) (fields : List ℕ) (n : ℕ) → reached types o (fields ++ n ∷ []) ≡ field_on types (reached types o fields) n
reached_push types None [] n = refl
reached_push types (Some s) [] n = refl
reached_push types None (f ∷ fields) n = refl
reached_push types (Some s) (f ∷ fields) n = reached_push types (field_from types f (out-Shape s)) fields n

module _ (table : Table) (names : Names) (outer : Scope) (k : KnowsTable table names outer) where
  -- a field leads on from the shape before it
  record Onto (o : Option Shape) (reach : Reach) : Type 0 where
    number : ℕ
    is_field_number : reach.node ≡ suffix.Field number
    leads_on : reach.own ≡ None → field_on names.types o number ≡ shape_given reach.given

  missing_onto : (o : Option Shape) → Onto o (missing_field (Some 7))
  missing_onto o = record { number = 0; is_field_number = refl; leads_on = λ none. absurd (cc) }

  field_is : (m n : ℕ) (event : EventShape) (f : Field) → slice_get names.types m ≡ Some event → slice_get event.fields n ≡ Some f → field_shape names.types m (min 65535 n) ≡ Some f.shape
  field_is m n event f there at =
      let known = all_at (KnowsType names.types) names.types m event k.kinds there in
      let few = known.few in
      let within = slice_get_within event.fields n f at in
      let small : min 65535 n ≡ n = omega arith in
      ap (λ (i : ℕ). field_shape names.types m i) small
      ∙ ap (λ (o : Option EventShape). shape_in (slice_get (typed_fields_at o) n)) there
      ∙ ap shape_in at

  reach_onto : (s : Shape) (m n : ℕ) (event : EventShape) (o : Option Field) → out-Shape s ≡ layer.Event m → slice_get names.types m ≡ Some event → slice_get event.fields n ≡ o → Onto (Some s) (field_reach n o)
  reach_onto s m n event None is there at = missing_onto (Some s)
  reach_onto s m n event (Some f) is there at = record { number = min 65535 n; is_field_number = refl; leads_on = λ none. ap (λ (d : Shape-F Shape). field_from names.types (min 65535 n) d) is ∙ field_is m n event f there at }

  place_onto : (s : Shape) (m : ℕ) (event : EventShape) (o : Option ℕ) → out-Shape s ≡ layer.Event m → slice_get names.types m ≡ Some event → Onto (Some s) (field_at event.fields o)
  place_onto s m event None is there = missing_onto (Some s)
  place_onto s m event (Some n) is there = reach_onto s m n event (slice_get event.fields n) is there refl

  none_onto : (s : Shape) (o : Option ℕ) → Onto (Some s) (field_at [] o)
  none_onto s None = missing_onto (Some s)
  none_onto s (Some n) = missing_onto (Some s)

  event_onto : (s : Shape) (m : ℕ) (name : List ℕ) (o : Option EventShape) → out-Shape s ≡ layer.Event m → slice_get names.types m ≡ o → Onto (Some s) (field_named (fields_at o) name)
  event_onto s m name None is there = none_onto s (field_place [] name)
  event_onto s m name (Some event) is there = place_onto s m event (field_place event.fields name) is there

  layer_onto : (s : Shape) (d : Shape-F Shape) (name : List ℕ) → out-Shape s ≡ d → Onto (Some s) (field_layer_in table d name)
  layer_onto s (layer.Event m) name is = event_onto s m name (slice_get table.types m) is (ap (λ (types : List EventShape). slice_get types m) (sym k.types))
  layer_onto s d name is = missing_onto (Some s)

  onto : (o : Option Shape) (name : List ℕ) → Onto o (field_of table o name)
  unfolding field_of
  onto None name = record { number = 0; is_field_number = refl; leads_on = λ none. refl }
  onto (Some s) name = layer_onto s (out-Shape s) name refl

  -- a walk from a place: what its fields reach is its shape
  record Along (place : ℕ) (start : Option Shape) (walk : Walk) : Type 0 where
    from : place_of walk.first ≡ place
    comes : reached names.types start (fields_in walk.suffixes) ≡ walk.shape

  field_in_made : (s : Option Shape) (n : TypedSuffixNode) (i : ℕ) → n ≡ suffix.Field i → field_in (roll-TypedSuffix record { shape = s; node = n }) ≡ i ∷ []
  unfolding field_in
  field_in_made s n i is =
      ap (λ d. field_layer (out-TypedSuffixNode d.node)) (out-roll-TypedSuffix (record { shape = s; node = n }))
      ∙ ap (λ (m : TypedSuffixNode). field_layer (out-TypedSuffixNode m)) is
      ∙ ap field_layer (suffix.outs-Field i)

  fields_push : (us : List TypedSuffix) (s : Option Shape) (n : TypedSuffixNode) (i : ℕ) → n ≡ suffix.Field i → fields_in (us ++ roll-TypedSuffix record { shape = s; node = n } ∷ []) ≡ fields_in us ++ i ∷ []
  fields_push us s n i is = flat_map-append field_in us (roll-TypedSuffix record { shape = s; node = n } ∷ []) ∙ ap (λ (l : List ℕ). fields_in us ++ (l ++ [])) (field_in_made s n i is)

  step_along : (place : ℕ) (start : Option Shape) (spot : Spot) (demand : Demand) (root : Option Root) (walk : Walk) (reach : Reach) → Onto walk.shape reach → Along place start walk → Sure (Along place start) (step_reached spot demand root walk reach)
  step_along place start spot demand root walk reach o a =
      sure_then (λ s. field_on names.types walk.shape o.number ≡ s) (Along place start) (placed spot demand reach.own root reach.given) (walked walk root reach.node)
      (placed_sure names (λ s. field_on names.types walk.shape o.number ≡ s) spot demand reach.own root reach.given (λ none clear. o.leads_on none))
      (λ s is. sure_sound (Along place start) (record { first = walk.first; suffixes = walk.suffixes ++ roll-TypedSuffix record { shape = s; node = reach.node } ∷ []; shape = s; root = root })
      (record {
        from = a.from;
        comes =
            ap (reached names.types start) (fields_push walk.suffixes s reach.node o.number o.is_field_number)
            ∙ reached_push names.types start (fields_in walk.suffixes) o.number
            ∙ ap (λ (x : Option Shape). field_on names.types x o.number) a.comes ∙ is;
      }))

  -- steps that are all fields
  abbrev pub IsFieldStep : Step → Type 0
  IsFieldStep s = (name : List ℕ) × (s ≡ field_step table outer name)

  steps_along : (place : ℕ) (start : Option Shape) (spot : Spot) (changed : Bool) (demand : Demand) (count : ℕ) (steps : List Step) (walk : Walk) → AllByRecursion IsFieldStep steps → Along place start walk → Sure (Along place start) (through (step_found spot changed demand count) walk steps)
  unfolding through
  steps_along place start spot changed demand count [] walk all a = sure_sound (Along place start) walk a
  steps_along place start spot changed demand count (s ∷ steps) walk all a =
      sure_then (Along place start) (Along place start) (step_found spot changed demand count walk s) (λ next. through (step_found spot changed demand count) next steps)
      (subst (λ (t : Step). Sure (Along place start) (step_found spot changed demand count walk t)) (sym all.0.1)
      (step_along place start spot _ walk.root walk (field_of table walk.shape all.0.0) (onto walk.shape all.0.0) a))
      (λ next b. steps_along place start spot changed demand count steps next all.1 b)

  -- what a path reaches, from the names that are bound
  abbrev pub Reaching : List Shape → Judged → Type 0
  Reaching bounds j = reached names.types (slice_get bounds (path_in j.typed).place) (path_in j.typed).fields ≡ shape_of j.typed

  path_made : (walk : Walk) → path_in (roll-TypedExpr record { shape = walk.shape; node = made.Postfix walk.first walk.suffixes }) ≡ record { place = place_of walk.first; fields = fields_in walk.suffixes }
  unfolding path_in
  path_made walk =
      ap (λ d. path_layer (out-TypedNode d.node)) (out-roll-TypedExpr (record { shape = walk.shape; node = made.Postfix walk.first walk.suffixes }))
      ∙ ap path_layer (made.outs-Postfix walk.first walk.suffixes)

  postfix_reaches : (bounds : List Shape) (place : ℕ) (walk : Walk) → Along place (slice_get bounds place) walk → Sure (Reaching bounds) (postfix_of walk)
  unfolding postfix_of
  postfix_reaches bounds place walk a =
      sure_sound (Reaching bounds) (record { typed = roll-TypedExpr record { shape = walk.shape; node = made.Postfix walk.first walk.suffixes }; root = walk.root; signed = false })
      (ap (λ r. reached names.types (slice_get bounds r.place) r.fields) (path_made walk)
      ∙ ap (λ (n : ℕ). reached names.types (slice_get bounds n) (fields_in walk.suffixes)) a.from
      ∙ a.comes
      ∙ sym (ap (λ d. d.shape) (out-roll-TypedExpr (record { shape = walk.shape; node = made.Postfix walk.first walk.suffixes }))))

  -- a root: a bound name at its place
  pub record Rooted (bounds : List Shape) (place : ℕ) (j : Judged) : Type 0 where
    pub numbered : place_of j.typed ≡ place
    pub shaped : slice_get bounds place ≡ shape_of j.typed

  rest_reaches : (bounds : List Shape) (place : ℕ) (changed : Bool) (steps : List Step) (spot : Spot) (demand : Demand) (j : Judged) → AllByRecursion IsFieldStep steps → Rooted bounds place j → Sure (Reaching bounds) (postfix_rest changed steps spot demand j)
  unfolding postfix_rest walked_from
  rest_reaches bounds place changed steps spot demand j all r =
      sure_then (Along place (slice_get bounds place)) (Reaching bounds) (walked_from spot changed demand steps j) postfix_of
      (steps_along place (slice_get bounds place) spot changed demand (length steps) steps (walk_start j) all (record { from = r.numbered; comes = r.shaped }))
      (λ walk a. postfix_reaches bounds place walk a)

  pub postfix_reaching : (bounds : List Shape) (place : ℕ) (changed : Bool) (part : Part) (steps : List Step) (spot : Spot) (demand : Demand) → AllByRecursion IsFieldStep steps → ((d : Demand) → Sure (Rooted bounds place) (part d)) → Sure (Reaching bounds) (postfix_found changed part steps spot demand)
  postfix_reaching bounds place changed part steps spot demand all root =
      sure_then (Rooted bounds place) (Reaching bounds) (part (demand_before changed demand (length steps))) (postfix_rest changed steps spot demand)
      (root (demand_before changed demand (length steps)))
      (λ j r. rest_reaches bounds place changed steps spot demand j all r)
