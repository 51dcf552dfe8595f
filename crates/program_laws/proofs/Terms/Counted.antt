-- What a part of an event expression counts: its operands and durations, its leaves, and the names that it binds.
use Rattle.std.proofs.Common.{◌≡◌, ◌+◌, ◌||◌, ◌∷◌, ◌++◌}
use Rattle.program_laws.proofs.Common.{ℕ, Bool, List, [], length, Option, Some, None, refl, sym, ap, subst, ◌∙◌, arith, flat_map, flat_map-append, length-append, Spot, Field, Shape, Constraint, ConstraintNode, Duration, Range, Comparison, Expr, out-Expr, TypedExpr, TypedLink, out-TypedLink, Operand, operands_in, Scope, Table, Found, told, Done, Reached, Sofar, Naming, is_named, number_of, missing_code, field_codes, none_done, lies, missing_read, found_read, numbered_read, constraint_read, constraint_step, constraints_read, sum_codes, with_sum, bound, sum_layer, naming_of, went}
use Rattle.epl_tree.specs.declared.event.ConstraintNode.TheVariants as node
use Rattle.epl_tree.specs.declared.expression.Comparison.TheVariants as comparison
use Rattle.typed_program.specs.declared.expression.TypedNode.TheOpen as typed
use Rattle.typed_program.specs.declared.term.Constraint.{Constraint as Typed}
use Rattle.typed_program.specs.declared.term.ConstraintNode.{ConstraintNode as TypedNode}
use Rattle.typed_program.specs.declared.term.ConstraintNode.TheVariants as made
use Rattle.typed_program.specs.declared.term.Operand.TheVariants as operand
use Rattle.typed_program.specs.Terms.{is_tenths}
use Rattle.listener_check.specs.declared.value.Naming.TheVariants as naming
use Rattle.listener_check.specs.Constraints.{compares_read, lies_read, asked_read, placed_read}
use Rattle.listener_check.specs.Durations.{length_found, timed, duration_read}
use Rattle.listener_check.specs.Limits.{short, sum_read}
use Rattle.listener_check.specs.Operands.{Layer, layer_of, path_in, placed, signed, last_of, added_operand, sum_operand, given_operand, operand_of, named_operand, operand_read, is_integer}
use Rattle.listener_check.specs.Values.{named_value}
use Rattle.listener_check.specs.Went.{given, went, ◌>>=◌}
use Rattle.program_laws.proofs.Terms.Thus.{Thus, thus_went, thus_then, thus_behind, thus_given, thus_through, thus_weaker}

-- so many operands and durations, and nothing else that is counted
pub record Used (n : ℕ) (s t : Sofar) : Type 0 where
  pub names : t.names ≡ s.names
  pub leaves : t.leaves ≡ s.leaves
  pub sums : t.sums ≡ s.sums + n

used_none : (s : Sofar) → Used 0 s s
used_none s = record { names = refl; leaves = refl; sums = omega arith }

used_on : (n m : ℕ) (s t u : Sofar) → Used n s t → Used m t u → Used (n + m) s u
used_on n m s t u a b = let x = a.sums in let y = b.sums in record { names = b.names ∙ a.names; leaves = b.leaves ∙ a.leaves; sums = omega arith }

used_as : (n m : ℕ) (s t : Sofar) → n ≡ m → Used n s t → Used m s t
used_as n m s t is a = subst (λ (k : ℕ). Used k s t) is a

sum_used : (spot : Spot) (s : Sofar) → Thus (λ u t. Used 1 s t) (sum_read spot s)
unfolding sum_read
sum_used spot s = thus_behind (λ u t. Used 1 s t) (told spot (sum_codes s)) (went tt (with_sum s)) (λ none. thus_went (λ u t. Used 1 s t) tt (with_sum s) (record { names = refl; leaves = refl; sums = refl }))

placed_used : (e : TypedExpr) (s : Sofar) → Thus (λ n t. Used 0 s t) (placed e s)
unfolding placed
placed_used e s = thus_went (λ n t. Used 0 s t) (short (length s.operands)) (record s { operands = s.operands ++ e ∷ [] }) (record { names = refl; leaves = refl; sums = omega arith })

given_used : {A : Type 0} (found : Found A) (s : Sofar) → Thus (λ x t. t ≡ s) (given found s)
given_used {A = A} found s = thus_given (λ x. Unit {0}) (λ x t. t ≡ s) found s (record { where_clear = λ none. tt }) (λ x u. refl)

-- ---- operands

added_used : (n : Naming) (r : Reached) (o : Option TypedLink) (s : Sofar) → Thus (λ x t. Used 0 s t) (added_operand n r o s)
unfolding added_operand
added_used n r (Some link) s = thus_then (λ m t. Used 0 s t) (λ x t. Used 0 s t) (placed (out-TypedLink link).operand s) (λ at t. went (signed n r at) t) (placed_used (out-TypedLink link).operand s) (λ at t u. thus_went (λ x v. Used 0 s v) (signed n r at) t u)
added_used n r None s = thus_went (λ x t. Used 0 s t) (bound r) s (used_none s)

layer_used : (n : Naming) (d : Layer) (s : Sofar) → Thus (λ x t. Used 0 s t) (sum_layer n d s)
layer_used n (typed.Sum first links) s = added_used n (path_in first) (last_of links) s
layer_used n d s = thus_went (λ x t. Used 0 s t) (bound (record { place = 0; fields = [] })) s (used_none s)

sum_operand_used : (n : Naming) (e : TypedExpr) (s : Sofar) → Thus (λ x t. Used 0 s t) (sum_operand n e s)
unfolding sum_operand
sum_operand_used n e s = layer_used n (layer_of e) s

given_operand_used : (e : TypedExpr) (s : Sofar) → Thus (λ x t. Used 0 s t) (given_operand e s)
unfolding given_operand
given_operand_used e s = thus_then (λ m t. Used 0 s t) (λ x t. Used 0 s t) (placed e s) (λ at t. went (operand.Given at) t) (placed_used e s) (λ at t u. thus_went (λ x v. Used 0 s v) (operand.Given at) t u)

operand_of_used : (n : Naming) (e : TypedExpr) (s : Sofar) → Thus (λ x t. Used 0 s t) (operand_of n e s)
unfolding operand_of
operand_of_used naming.Path e s = thus_went (λ x t. Used 0 s t) (bound (path_in e)) s (used_none s)
operand_of_used naming.Plus e s = sum_operand_used naming.Plus e s
operand_of_used naming.Minus e s = sum_operand_used naming.Minus e s
operand_of_used naming.Free e s = given_operand_used e s
operand_of_used naming.Astray e s = given_operand_used e s

module _ (table : Table) (scope inner : Scope) where
  named_used : (n : Naming) (shape : Shape) (e : Expr) (s : Sofar) → Thus (λ x t. Used 0 s t) (named_operand table scope inner n shape e s)
  unfolding named_operand
  named_used n shape e s = thus_then (λ x t. t ≡ s) (λ x t. Used 0 s t) (given (named_value table inner n shape e) s) (λ x t. operand_of n x t) (given_used (named_value table inner n shape e) s)
      (λ x t is. subst (λ (u : Sofar). Thus (λ y v. Used 0 s v) (operand_of n x u)) (sym is) (operand_of_used n x s))

  operand_used : (left : List (List ℕ)) (shape : Shape) (e : Expr) (s : Sofar) → Thus (λ x t. Used 1 s t) (operand_read table scope inner left shape e s)
  unfolding operand_read
  operand_used left shape e s =
      thus_then (λ u t. Used 1 s t) (λ x t. Used 1 s t) (sum_read (out-Expr e).spot s) (λ u t. named_operand table scope inner (naming_of scope inner left (is_integer shape) e) shape e t) (sum_used (out-Expr e).spot s)
      (λ u t a. thus_weaker (λ x v. Used 0 t v) (λ x v. Used 1 s v) (named_operand table scope inner (naming_of scope inner left (is_integer shape) e) shape e t) (named_used (naming_of scope inner left (is_integer shape) e) shape e t) (λ x v b. used_as (1 + 0) 1 s v (omega arith) (used_on 1 0 s t v a b)))

  timed_used : (x : TypedExpr) (s : Sofar) → Thus (λ y t. Used 0 s t) (timed x s)
  unfolding timed
  timed_used x s = thus_then (λ y t. Used 0 s t) (λ y t. Used 0 s t) (placed x s) (λ at t. went (record { operand = at; tenths = is_tenths x }) t) (placed_used x s) (λ at t u. thus_went (λ y t. Used 0 s t) (record { operand = at; tenths = is_tenths x }) t u)

  -- for every duration
  pub duration_used : (d : Duration) (s : Sofar) → Thus (λ x t. Used 1 s t) (duration_read table scope inner d s)
  unfolding duration_read
  duration_used d s =
      thus_then (λ u t. Used 1 s t) (λ x t. Used 1 s t) (sum_read d.spot s) (λ u t. given (length_found table scope inner d.spot d.node) t >>= λ x v. timed x v) (sum_used d.spot s)
      (λ u t a. thus_then (λ x v. v ≡ t) (λ x v. Used 1 s v) (given (length_found table scope inner d.spot d.node) t) (λ x v. timed x v) (given_used (length_found table scope inner d.spot d.node) t)
      (λ x v is. subst (λ (w : Sofar). Thus (λ y r. Used 1 s r) (timed x w)) (sym is)
      (thus_weaker (λ y r. Used 0 t r) (λ y r. Used 1 s r) (timed x t) (timed_used x t) (λ y r b. used_as (1 + 0) 1 s r (omega arith) (used_on 1 0 s t r a b)))))

  -- ---- constraints

  abbrev OfNode : Sofar → TypedNode → Sofar → Type 0
  OfNode s x t = Used (length (operands_in x)) s t

  compares_used : (left : List (List ℕ)) (shape : Shape) (c : Comparison) (e : Expr) (s : Sofar) → Thus (OfNode s) (compares_read table scope inner left shape c e s)
  unfolding compares_read
  compares_used left shape c e s = thus_then (λ x t. Used 1 s t) (OfNode s) (operand_read table scope inner left shape e s) (λ x t. went (made.Compares c x) t) (operand_used left shape e s) (λ x t a. thus_went (OfNode s) (made.Compares c x) t a)

  lies_used : (left : List (List ℕ)) (shape : Shape) (r : Range) (s : Sofar) → Thus (OfNode s) (lies_read table scope inner left shape r s)
  unfolding lies_read
  lies_used left shape r s =
      thus_then (λ x t. Used 1 s t) (OfNode s) (operand_read table scope inner left shape r.low.bound s) (λ low t. operand_read table scope inner left shape r.high.bound t >>= λ high u. went (lies table scope inner left r low high) u) (operand_used left shape r.low.bound s)
      (λ low t a. thus_then (λ x u. Used 1 t u) (OfNode s) (operand_read table scope inner left shape r.high.bound t) (λ high u. went (lies table scope inner left r low high) u) (operand_used left shape r.high.bound t)
      (λ high u b. thus_went (OfNode s) (lies table scope inner left r low high) u (used_as (1 + 1) 2 s u (omega arith) (used_on 1 1 s t u a b))))

  asked_used : (left : List (List ℕ)) (shape : Shape) (n : ConstraintNode) (s : Sofar) → Thus (OfNode s) (asked_read table scope inner left shape n s)
  unfolding asked_read
  asked_used left shape node.Any s = thus_went (OfNode s) made.Any s (used_none s)
  asked_used left shape (node.Equals e) s = compares_used left shape comparison.Equal e s
  asked_used left shape (node.Compares c e) s = compares_used left shape c e s
  asked_used left shape (node.Lies r) s = lies_used left shape r s
  asked_used left shape (node.NamedCompares name c e) s = compares_used left shape c e s
  asked_used left shape (node.NamedLies name r) s = lies_used left shape r s

  abbrev OfConstraint : Sofar → Typed → Sofar → Type 0
  OfConstraint s c t = Used (length (operands_in c.node)) s t

  placed_read_used : (left : List (List ℕ)) (number : ℕ) (shape : Shape) (done : List Typed) (named : Bool) (c : Constraint) (s : Sofar) → Thus (OfConstraint s) (placed_read table scope inner left number shape done named c s)
  unfolding placed_read
  placed_read_used left number shape done named c s =
      thus_behind (OfConstraint s) (told c.spot (field_codes number shape done named c.node)) (asked_read table scope inner left shape c.node s >>= λ n t. went (record { field = short number; node = n }) t) (λ none.
      thus_then (OfNode s) (OfConstraint s) (asked_read table scope inner left shape c.node s) (λ n t. went (record { field = short number; node = n }) t) (asked_used left shape c.node s) (λ n t a. thus_went (OfConstraint s) (record { field = short number; node = n }) t a))

  missing_used : (left : List (List ℕ)) (c : Constraint) (s : Sofar) → Thus (OfConstraint s) (missing_read table scope inner left c s)
  missing_used left c s = thus_behind (OfConstraint s) (told c.spot (missing_code c.node ∷ [])) (went (record { field = 0; node = made.Any }) s) (λ none. thus_went (OfConstraint s) (record { field = 0; node = made.Any }) s (used_none s))

  found_used : (left : List (List ℕ)) (number : ℕ) (o : Option Field) (done : List Typed) (named : Bool) (c : Constraint) (s : Sofar) → Thus (OfConstraint s) (found_read table scope inner left number o done named c s)
  found_used left number (Some f) done named c s = placed_read_used left number f.shape done named c s
  found_used left number None done named c s = missing_used left c s

  numbered_used : (left : List (List ℕ)) (fields : List Field) (o : Option ℕ) (done : List Typed) (named : Bool) (c : Constraint) (s : Sofar) → Thus (OfConstraint s) (numbered_read table scope inner left fields o done named c s)
  numbered_used left fields (Some number) done named c s = found_used left number _ done named c s
  numbered_used left fields None done named c s = missing_used left c s

  abbrev pub operands_all : List Typed → List Operand
  operands_all cs = flat_map (λ c. operands_in c.node) cs

  operands_push : (cs : List Typed) (c : Typed) → length (operands_all (cs ++ c ∷ [])) ≡ length (operands_all cs) + length (operands_in c.node)
  operands_push cs c =
      ap length (flat_map-append (λ d. operands_in d.node) cs (c ∷ [])) ∙ length-append (operands_all cs) (operands_in c.node ++ [])
      ∙ (let e = length-append (operands_in c.node) [] in omega arith)

  abbrev pub OfDone : Sofar → Done → Sofar → Type 0
  OfDone s d t = Used (length (operands_all d.constraints)) s t

  step_used : (left : List (List ℕ)) (fields : List Field) (start : Sofar) (done : Done) (c : Constraint) (s : Sofar) → OfDone start done s → Thus (OfDone start) (constraint_step table scope inner left fields done c s)
  step_used left fields start done c s a =
      thus_then (OfConstraint s) (OfDone start) (constraint_read table scope inner left fields done.constraints done.named c s) (λ x t. went (record { constraints = done.constraints ++ x ∷ []; named = done.named || is_named c.node }) t)
      (numbered_used left fields (number_of fields (length done.constraints) c.node) done.constraints done.named c s)
      (λ x t b. thus_went (OfDone start) (record { constraints = done.constraints ++ x ∷ []; named = done.named || is_named c.node }) t
      (used_as (length (operands_all done.constraints) + length (operands_in x.node)) (length (operands_all (done.constraints ++ x ∷ []))) start t (sym (operands_push done.constraints x)) (used_on (length (operands_all done.constraints)) (length (operands_in x.node)) start s t a b)))

  -- for all constraints of a template
  pub constraints_used : (left : List (List ℕ)) (fields : List Field) (cs : List Constraint) (s : Sofar) → Thus (OfDone s) (constraints_read table scope inner left fields cs s)
  constraints_used left fields cs s = thus_through (OfDone s) (constraint_step table scope inner left fields) (λ d c t a. step_used left fields s d c t a) none_done cs s (used_none s)
