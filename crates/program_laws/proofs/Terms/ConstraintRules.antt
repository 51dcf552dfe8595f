-- Constraints without faults keep the rules: what may be asked of a field, and of each field once.
use Rattle.std.proofs.Common.{◌≡◌, ◌&&◌, ◌||◌, ◌==◌, ◌∷◌, ◌++◌, if◌then◌else◌}
use Rattle.program_laws.proofs.Common.{ℕ, min, Bool, true, false, not, List, [], length, Option, Some, None, slice_get, refl, sym, ap, ◌∙◌, true≢false, arith, append_assoc, list_all, list_any, and_from, and_parts, or_parts, not-true, not-false, nat_tests, list_all-append, slice_get_within, append-nil, Field, EventShape, Shape, Shape-F, out-Shape, Constraint, ConstraintNode, Range, Comparison, Expr, is_scalar_layer, is_ordered_layer, Names, if_known, field_shape, shape_in, asked_fields, differ, constraint_lawful, Scope, Table, told, KnowsTable, KnowsType, Done, Sofar, is_named, number_of, missing_code, field_codes, none_done, lies, missing_read, found_read, numbered_read, constraint_read, constraint_step, constraints_read, went}
use Rattle.epl_values.specs.declared.shape.Shape.TheOpen as layer
use Rattle.epl_tree.specs.declared.event.ConstraintNode.TheVariants as node
use Rattle.epl_tree.specs.declared.expression.Comparison.TheVariants as comparison
use Rattle.typed_program.specs.declared.term.Constraint.{Constraint as Typed}
use Rattle.typed_program.specs.declared.term.ConstraintNode.{ConstraintNode as TypedNode}
use Rattle.typed_program.specs.declared.term.ConstraintNode.TheVariants as made
use Rattle.typed_program.specs.Shapes.{is_scalar}
use Rattle.typed_program.specs.Shapes.{is_ordered as is_ordered_shape}
use Rattle.typed_program.specs.Expressions.{fields_at}
use Rattle.typed_program.specs.TermRules.{may_constrain, asks, is_equality}
use Rattle.listener_check.specs.Constraints.{is_any, orders, is_ordered, is_boolean, is_boolean_layer, asks_nothing, constrains, is_repeated, is_misordered, is_misused, is_unfit, is_refused, compares_read, lies_read, asked_read, placed_read}
use Rattle.listener_check.specs.Limits.{short}
use Rattle.listener_check.specs.Operands.{operand_read}
use Rattle.listener_check.specs.Went.{through, ◌>>=◌}
use Rattle.program_laws.proofs.Shapes.Lists.{all_at, no_told, no_if}
use Rattle.program_laws.proofs.Terms.Thus.{Thus, thus_went, thus_then, thus_behind}

-- ---- what may be asked of a shape

scalar_layer : (d : Shape-F Shape) → is_scalar_layer d ≡ true → is_boolean_layer d ≡ false → is_ordered_layer d ≡ true
scalar_layer layer.Integer h b = refl
scalar_layer layer.Text h b = refl
scalar_layer layer.Boolean h b = absurd (true≢false b)
scalar_layer d h b = absurd (true≢false (sym h))

scalar_orders : (s : Shape) → is_scalar s ≡ true → is_boolean s ≡ false → is_ordered_shape s ≡ true
unfolding is_scalar is_boolean is_ordered_shape
scalar_orders s h b = scalar_layer (out-Shape s) h b

-- a field that may be asked what is asked
record Fit (s : Shape) (n : ConstraintNode) : Type 0 where
  scalar : is_any n ≡ false → is_scalar s ≡ true
  ordered : is_ordered n ≡ true → is_boolean s ≡ false

both_no : (a b : Bool) → a ≡ true → (a && b) ≡ false → b ≡ false
both_no true b is h = h
both_no false b is h = absurd (true≢false (sym is))

-- what no code says of a constraint
record Clear (number : ℕ) (s : Shape) (done : List Typed) (n : ConstraintNode) : Type 0 where
  fit : Fit s n
  fresh : is_any n ≡ false → is_repeated number done ≡ false

any_not_ordered : (n : ConstraintNode) → is_any n ≡ true → is_ordered n ≡ false
any_not_ordered node.Any h = refl
any_not_ordered (node.Equals e) h = absurd (true≢false (sym h))
any_not_ordered (node.Compares c e) h = absurd (true≢false (sym h))
any_not_ordered (node.Lies r) h = absurd (true≢false (sym h))
any_not_ordered (node.NamedCompares name c e) h = absurd (true≢false (sym h))
any_not_ordered (node.NamedLies name r) h = absurd (true≢false (sym h))

clear_at : (number : ℕ) (s : Shape) (done : List Typed) (n : ConstraintNode) (any : Bool) → is_any n ≡ any → (not any && (not (is_scalar s) || is_misused number s done n)) ≡ false → Clear number s done n
clear_at number s done n true is h = record {
  fit = record { scalar = λ no. absurd (true≢false (sym is ∙ no)); ordered = λ yes. absurd (true≢false (sym yes ∙ any_not_ordered n is)) };
  fresh = λ no. absurd (true≢false (sym is ∙ no));
}
clear_at number s done n false is h =
    let a = or_parts (not (is_scalar s)) (is_misused number s done n) h in
    let c = or_parts (is_repeated number done) (is_misordered s n) a.1 in
    record { fit = record { scalar = λ no. not-false (is_scalar s) a.0; ordered = λ yes. both_no (is_ordered n) (is_boolean s) yes c.1 }; fresh = λ no. c.0 }

clear_codes : (number : ℕ) (s : Shape) (done : List Typed) (named : Bool) (n : ConstraintNode) → field_codes number s done named n ≡ [] → Clear number s done n
clear_codes number s done named n h =
    let a = or_parts (named && not (is_named n)) (is_unfit number s done n) (no_if (is_refused number s done named n) 17 h) in
    clear_at number s done n (is_any n) refl a.1

-- a comparison that may stand
abbrev may_compare_so : Shape → Comparison → Type 0
may_compare_so s c = (is_scalar s && (is_equality c || is_ordered_shape s)) ≡ true

equal_may : (s : Shape) → is_scalar s ≡ true → may_compare_so s comparison.Equal
equal_may s h = and_from (is_scalar s) true h refl

ordered_may : (s : Shape) → is_scalar s ≡ true → is_boolean s ≡ false → (is_scalar s && is_ordered_shape s) ≡ true
ordered_may s h b = and_from (is_scalar s) (is_ordered_shape s) h (scalar_orders s h b)

compare_may : (s : Shape) (c : Comparison) → is_scalar s ≡ true → (orders c ≡ true → is_boolean s ≡ false) → may_compare_so s c
compare_may s comparison.Equal h o = equal_may s h
compare_may s comparison.NotEqual h o = ordered_may s h (o refl)
compare_may s comparison.Less h o = ordered_may s h (o refl)
compare_may s comparison.LessEqual h o = ordered_may s h (o refl)
compare_may s comparison.Greater h o = ordered_may s h (o refl)
compare_may s comparison.GreaterEqual h o = ordered_may s h (o refl)

-- ---- each field once

apart_once : (m n : ℕ) → (n == m) ≡ false → (m == n || false) ≡ false
apart_once m n h = grind (arith, nat_tests)

alone : (b : Bool) → b ≡ false → (b || false) ≡ false
alone b h = ap (λ (c : Bool). c || false) h

both_yes : (a b : Bool) → b ≡ true → (a && b) ≡ false → a ≡ false
both_yes true b is h = absurd (true≢false (sym is ∙ h))
both_yes false b is h = refl

-- a constraint as it is read: it asks something where the source does, and may
record Lawful (s : Shape) (n : ConstraintNode) (x : TypedNode) : Type 0 where
  may : may_constrain s x ≡ true
  asking : asks x ≡ not (is_any n)

asks_is : (n : TypedNode) → asks n ≡ not (asks_nothing n)
asks_is made.Any = refl
asks_is (made.Compares c o) = refl
asks_is (made.Lies r) = refl

any_append : (p : ℕ → Bool) (xs ys : List ℕ) → list_any p xs ≡ false → list_any p ys ≡ false → list_any p (xs ++ ys) ≡ false
any_append p [] ys h k = k
any_append p (x ∷ xs) ys h k = let a = or_parts (p x) (list_any p xs) h in rw a.0 (any_append p xs ys a.1 k)

asked_push : (cs : List Typed) (c : Typed) → asked_fields (cs ++ c ∷ []) ≡ asked_fields cs ++ (if asks c.node then c.field ∷ [] else [])
asked_push [] c = append-nil (if asks c.node then c.field ∷ [] else [])
asked_push (d ∷ cs) c = ap (λ (l : List ℕ). (if asks d.node then d.field ∷ [] else []) ++ l) (asked_push cs c) ∙ sym (append_assoc (if asks d.node then d.field ∷ [] else []) (asked_fields cs) (if asks c.node then c.field ∷ [] else []))

differ_push : (ns : List ℕ) (m : ℕ) → differ ns ≡ true → list_any (λ x. x == m) ns ≡ false → differ (ns ++ m ∷ []) ≡ true
differ_push [] m d h = refl
differ_push (n ∷ ns) m d h =
    let a = or_parts (n == m) (list_any (λ x. x == m) ns) h in
    let b = and_parts (not (list_any (λ x. x == n) ns)) (differ ns) d in
    and_from (not (list_any (λ x. x == n) (ns ++ m ∷ []))) (differ (ns ++ m ∷ [])) (ap not (any_append (λ x. x == n) ns (m ∷ []) (not-true (list_any (λ x. x == n) ns) b.0) (apart_once m n a.0))) (differ_push ns m b.1 a.1)

asked_at : (m : ℕ) (c : Typed) (b : Bool) → asks c.node ≡ b → (c.field == m && not (asks_nothing c.node)) ≡ false → list_any (λ x. x == m) (if b then c.field ∷ [] else []) ≡ false
asked_at m c false is h = refl
asked_at m c true is h = alone (c.field == m) (both_yes (c.field == m) (not (asks_nothing c.node)) (sym (asks_is c.node) ∙ is) h)

unasked : (m : ℕ) (cs : List Typed) → list_any (constrains m) cs ≡ false → list_any (λ x. x == m) (asked_fields cs) ≡ false
unasked m [] h = refl
unasked m (c ∷ cs) h =
    let a = or_parts (constrains m c) (list_any (constrains m) cs) h in
    any_append (λ x. x == m) (if asks c.node then c.field ∷ [] else []) (asked_fields cs) (asked_at m c (asks c.node) refl a.0) (unasked m cs a.1)

differ_more : (cs : List Typed) (c : Typed) (b : Bool) → asks c.node ≡ b → differ (asked_fields cs) ≡ true → (b ≡ true → list_any (constrains c.field) cs ≡ false) → differ (asked_fields cs ++ (if b then c.field ∷ [] else [])) ≡ true
differ_more cs c true is d h = differ_push (asked_fields cs) c.field d (unasked c.field cs (h refl))
differ_more cs c false is d h = ap differ (append-nil (asked_fields cs)) ∙ d

module _ (table : Table) (names : Names) (scope inner : Scope) (k : KnowsTable table names scope) (left : List (List ℕ)) where
  compares_lawful : (s : Shape) (n : ConstraintNode) (c : Comparison) (e : Expr) (at : Sofar) → may_compare_so s c → is_any n ≡ false → Thus (λ x t. Lawful s n x) (compares_read table scope inner left s c e at)
  unfolding compares_read
  compares_lawful s n c e at may any = thus_then (λ o t. Unit {0}) (λ x t. Lawful s n x) (operand_read table scope inner left s e at) (λ o t. went (made.Compares c o) t) (record { where_clear = λ none. tt })
      (λ o t u. thus_went (λ x t. Lawful s n x) (made.Compares c o) t (record { may = may; asking = sym (ap not any) }))

  lies_lawful : (s : Shape) (n : ConstraintNode) (r : Range) (at : Sofar) → is_ordered_shape s ≡ true → is_any n ≡ false → Thus (λ x t. Lawful s n x) (lies_read table scope inner left s r at)
  unfolding lies_read
  lies_lawful s n r at may any = thus_then (λ o t. Unit {0}) (λ x t. Lawful s n x) (operand_read table scope inner left s r.low.bound at) (λ low t. operand_read table scope inner left s r.high.bound t >>= λ high u. went (lies table scope inner left r low high) u) (record { where_clear = λ none. tt })
      (λ low t u. thus_then (λ o t. Unit {0}) (λ x t. Lawful s n x) (operand_read table scope inner left s r.high.bound t) (λ high u. went (lies table scope inner left r low high) u) (record { where_clear = λ none. tt })
      (λ high v w. thus_went (λ x t. Lawful s n x) (lies table scope inner left r low high) v (record { may = may; asking = sym (ap not any) })))

  asked_lawful : (s : Shape) (n : ConstraintNode) (at : Sofar) → Fit s n → Thus (λ x t. Lawful s n x) (asked_read table scope inner left s n at)
  unfolding asked_read
  asked_lawful s node.Any at f = thus_went (λ x t. Lawful s node.Any x) made.Any at (record { may = refl; asking = refl })
  asked_lawful s (node.Equals e) at f = compares_lawful s (node.Equals e) comparison.Equal e at (equal_may s (f.scalar refl)) refl
  asked_lawful s (node.Compares c e) at f = compares_lawful s (node.Compares c e) c e at (compare_may s c (f.scalar refl) f.ordered) refl
  asked_lawful s (node.Lies r) at f = lies_lawful s (node.Lies r) r at (scalar_orders s (f.scalar refl) (f.ordered refl)) refl
  asked_lawful s (node.NamedCompares name c e) at f = compares_lawful s (node.NamedCompares name c e) c e at (compare_may s c (f.scalar refl) f.ordered) refl
  asked_lawful s (node.NamedLies name r) at f = lies_lawful s (node.NamedLies name r) r at (scalar_orders s (f.scalar refl) (f.ordered refl)) refl

  module _ (n : ℕ) (event : EventShape) (there : slice_get names.types n ≡ Some event) where
    field_is : (number : ℕ) (f : Field) → slice_get event.fields number ≡ Some f → field_shape names.types n (short number) ≡ Some f.shape
    field_is number f at =
        let type = all_at (KnowsType names.types) names.types n event k.kinds there in let few = type.few in
        let within = slice_get_within event.fields number f at in
        let small : min 65535 number ≡ number = omega arith in
        ap (λ (i : ℕ). field_shape names.types n i) small ∙ ap (λ (o : Option EventShape). shape_in (slice_get (fields_at o) number)) there ∙ ap shape_in at

    -- a constraint that keeps the rules behind those that are done
    record Joins (done : List Typed) (c : Typed) : Type 0 where
      lawful : constraint_lawful names.types n c ≡ true
      fresh : asks c.node ≡ true → list_any (constrains c.field) done ≡ false

    asked_source : (x : TypedNode) (m : ConstraintNode) → asks x ≡ not (is_any m) → asks x ≡ true → is_any m ≡ false
    asked_source x m is h = not-true (is_any m) (sym is ∙ h)

    placed_joins : (number : ℕ) (f : Field) (done : List Typed) (named : Bool) (c : Constraint) (at : Sofar) → slice_get event.fields number ≡ Some f → Thus (λ x t. Joins done x) (placed_read table scope inner left number f.shape done named c at)
    unfolding placed_read
    placed_joins number f done named c at found =
        thus_behind (λ x t. Joins done x) (told c.spot (field_codes number f.shape done named c.node)) (asked_read table scope inner left f.shape c.node at >>= λ x t. went (record { field = short number; node = x }) t) (λ none.
        let clear = clear_codes number f.shape done named c.node (no_told c.spot (field_codes number f.shape done named c.node) none) in
        thus_then (λ x t. Lawful f.shape c.node x) (λ x t. Joins done x) (asked_read table scope inner left f.shape c.node at) (λ x t. went (record { field = short number; node = x }) t)
        (asked_lawful f.shape c.node at clear.fit)
        (λ x t l. thus_went (λ y t. Joins done y) (record { field = short number; node = x }) t (record {
          lawful = ap (λ (o : Option Shape). if_known (λ s. may_constrain s x) o) (field_is number f found) ∙ l.may;
          fresh = λ yes. clear.fresh (asked_source x c.node l.asking yes);
        })))

    missing_joins : (done : List Typed) (c : Constraint) (at : Sofar) → Thus (λ x t. Joins done x) (missing_read table scope inner left c at)
    missing_joins done c at = thus_behind (λ x t. Joins done x) (told c.spot (missing_code c.node ∷ [])) (went (record { field = 0; node = made.Any }) at) (λ none. absurd (let e = no_told c.spot (missing_code c.node ∷ []) none in cc))

    found_joins : (number : ℕ) (o : Option Field) (done : List Typed) (named : Bool) (c : Constraint) (at : Sofar) → slice_get event.fields number ≡ o → Thus (λ x t. Joins done x) (found_read table scope inner left number o done named c at)
    found_joins number (Some f) done named c at is = placed_joins number f done named c at is
    found_joins number None done named c at is = missing_joins done c at

    numbered_joins : (o : Option ℕ) (done : List Typed) (named : Bool) (c : Constraint) (at : Sofar) → Thus (λ x t. Joins done x) (numbered_read table scope inner left event.fields o done named c at)
    numbered_joins (Some number) done named c at = found_joins number (slice_get event.fields number) done named c at refl
    numbered_joins None done named c at = missing_joins done c at

    -- constraints that keep the rules
    pub record Keep (d : Done) : Type 0 where
      pub lawful : list_all (constraint_lawful names.types n) d.constraints ≡ true
      pub apart : differ (asked_fields d.constraints) ≡ true

    kept : (d : Done) (x : Typed) (named : Bool) → Keep d → Joins d.constraints x → Keep (record { constraints = d.constraints ++ x ∷ []; named = named })
    kept d x named e j = record {
      lawful = list_all-append (constraint_lawful names.types n) d.constraints (x ∷ []) ∙ and_from (list_all (constraint_lawful names.types n) d.constraints) (constraint_lawful names.types n x && true) e.lawful (and_from (constraint_lawful names.types n x) true j.lawful refl);
      apart = ap differ (asked_push d.constraints x) ∙ differ_more d.constraints x (asks x.node) refl e.apart j.fresh;
    }

    step_keeps : (done : Done) (c : Constraint) (at : Sofar) → Keep done → Thus (λ d t. Keep d) (constraint_step table scope inner left event.fields done c at)
    step_keeps done c at e =
        thus_then (λ x t. Joins done.constraints x) (λ d t. Keep d) (constraint_read table scope inner left event.fields done.constraints done.named c at) (λ x t. went (record { constraints = done.constraints ++ x ∷ []; named = done.named || is_named c.node }) t)
        (numbered_joins (number_of event.fields (length done.constraints) c.node) done.constraints done.named c at)
        (λ x t j. thus_went (λ d t. Keep d) (record { constraints = done.constraints ++ x ∷ []; named = done.named || is_named c.node }) t (kept done x (done.named || is_named c.node) e j))

    steps_keep : (cs : List Constraint) (done : Done) (at : Sofar) → Keep done → Thus (λ d t. Keep d) (through (constraint_step table scope inner left event.fields) done cs at)
    unfolding through
    steps_keep [] done at e = thus_went (λ d t. Keep d) done at e
    steps_keep (c ∷ cs) done at e =
        thus_then (λ d t. Keep d) (λ d t. Keep d) (constraint_step table scope inner left event.fields done c at) (λ next t. through (constraint_step table scope inner left event.fields) next cs t)
        (step_keeps done c at e) (λ next t q. steps_keep cs next t q)

    -- for all constraints of a template
    pub constraints_keep_rules : (cs : List Constraint) (at : Sofar) → Thus (λ d t. Keep d) (constraints_read table scope inner left event.fields cs at)
    constraints_keep_rules cs at = steps_keep cs none_done at (record { lawful = refl; apart = refl })
