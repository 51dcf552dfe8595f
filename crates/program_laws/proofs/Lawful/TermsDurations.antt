-- Durations of an event expression: what is evaluated at the `on` is plain, and names no bound name.
use Rattle.std.proofs.Common.{◌≡◌, ◌∷◌, ◌++◌, if◌then◌else◌}
use Rattle.program_laws.proofs.Common.{ℕ, Bool, true, false, List, [], Option, Some, None, refl, sym, ap, subst, ◌∙◌, true≢false, and_from, Spot, Duration, DurationNode, Expr, TypedExpr, fold-roll-TypedExpr, TypedNode, fold-TypedNode, fold-roll-TypedNode, Sight, Path, Going, path_of, node_path, step_path, entry_path, expr_path, link_path, suffix_path, Scope, Table, expr_found, Sofar, is_own, decimal_by, tenths, tenths_of, duration_names}
use Rattle.std.specs.Prelude.{pos}
use Rattle.epl_values.specs.declared.shape.Shape.TheVariants as shape
use Rattle.epl_tree.specs.declared.event.DurationNode.TheVariants as node
use Rattle.typed_program.specs.declared.expression.TypedNode.TheVariants as made
use Rattle.typed_program.specs.declared.expression.TypedNode.TheOpen as typed
use Rattle.typed_program.specs.Paths.{Node, Pair, plain}
use Rattle.typed_program.specs.Terms.{is_tenths}
use Rattle.listener_check.specs.declared.value.Naming.TheVariants as naming
use Rattle.listener_check.specs.Durations.{digits_found, point_in, length_found, timed, duration_read}
use Rattle.listener_check.specs.Limits.{sum_read}
use Rattle.listener_check.specs.Names.{mentions}
use Rattle.listener_check.specs.Operands.{placed}
use Rattle.listener_check.specs.Values.{exactly, named_value}
use Rattle.listener_check.specs.Went.{given, went, ◌>>=◌}
use Rattle.stmt_check.specs.Captures.{duration_node}
use Rattle.program_laws.proofs.Exprs.Sure.{Sure}
use Rattle.program_laws.proofs.Terms.Astray.{astray_is_told}
use Rattle.program_laws.proofs.Terms.Thus.{Thus, thus_went, thus_then, thus_given, thus_weaker}
use Rattle.program_laws.proofs.Lawful.TermsBound.{Widened, free_found}
use Rattle.program_laws.proofs.Lawful.TermsBrought.{ExpressionLaws, unnamed, brings_value}
use Rattle.program_laws.proofs.Lawful.TermsOperands.{Bring, sum_same, brings_from}

module _ (table : Table) (scope inner : Scope) (w : Widened scope inner) (sight : Sight) (laws : ExpressionLaws) where
  abbrev Brought : (List ℕ → Bool) → Sofar → Sofar → Type 0
  Brought named s t = Bring table scope inner w sight laws named s t

  -- a literal is plain
  tenths_plain : (n : ℕ) → plain (path_of sight (tenths n)) ≡ true
  tenths_plain n =
      ap plain
      (fold-roll-TypedExpr Node Going Pair Path Path Going (node_path sight) (step_path sight) (entry_path sight) (expr_path sight) (link_path sight) (suffix_path sight) (record { shape = Some shape.Integer; node = made.Tenths (pos n) })
      ∙ ap (λ (f : Node). f (Some shape.Integer))
      (ap (λ (m : TypedNode). fold-TypedNode Node Going Pair Path Path Going (node_path sight) (step_path sight) (entry_path sight) (expr_path sight) (link_path sight) (suffix_path sight) m) (sym (made.rolls-Tenths (pos n)))
      ∙ fold-roll-TypedNode Node Going Pair Path Path Going (node_path sight) (step_path sight) (entry_path sight) (expr_path sight) (link_path sight) (suffix_path sight) (typed.Tenths (pos n))))

  -- what a duration comes to brings what it names
  record Lasts (n : DurationNode) (x : TypedExpr) : Type 0 where
    brings : (s : Sofar) → Brought (duration_node n) s (record s { operands = s.operands ++ x ∷ [] })

  tenths_last : (text : List ℕ) (n : ℕ) → Lasts (node.Decimal text) (tenths n)
  tenths_last text n = record {
    brings = λ s. record {
      new = tenths n ∷ [];
      are = refl;
      plain_so = λ sees special. and_from (plain (path_of sight (tenths n))) true (tenths_plain n) refl;
      mention_so = unnamed table scope sight (duration_node (node.Decimal text)) (tenths n ∷ []) (λ name h. true≢false (sym h));
    };
  }

  digits_last : (spot : Spot) (text whole rest : List ℕ) → Sure (Lasts (node.Decimal text)) (digits_found spot whole rest)
  unfolding digits_found
  digits_last spot text whole rest = record { where_clear = λ none. tenths_last text (tenths_of whole rest) }

  decimal_last : (spot : Spot) (text : List ℕ) (o : Option ℕ) → Sure (Lasts (node.Decimal text)) (decimal_by spot text o)
  decimal_last spot text (Some at) = digits_last spot text _ _
  decimal_last spot text None = digits_last spot text text []

  seconds_last : (e : Expr) (m : Bool) → mentions (is_own scope inner) e ≡ m → Sure (Lasts (node.Seconds e)) (named_value table inner (if m then naming.Astray else naming.Free) shape.Integer e)
  unfolding named_value
  seconds_last e true is = record { where_clear = λ none. absurd (astray_is_told table inner e (exactly shape.Integer true) refl none) }
  seconds_last e false is = let same = free_found table scope inner w e (exactly shape.Integer false) is in record {
    where_clear = λ none. record {
      brings = λ s. brings_value table scope sight laws e (exactly shape.Integer false) (expr_found table inner e (exactly shape.Integer false)).part s refl (sym (ap (λ f. f.faults) same) ∙ none) (ap (λ f. f.part) same);
    };
  }

  length_lasts : (spot : Spot) (n : DurationNode) → Sure (Lasts n) (length_found table scope inner spot n)
  unfolding length_found
  length_lasts spot (node.Decimal text) = decimal_last spot text (point_in text)
  length_lasts spot (node.Seconds e) = seconds_last e (mentions (is_own scope inner) e) refl

  timed_is : (x : TypedExpr) (s : Sofar) → Thus (λ n t. t ≡ record s { operands = s.operands ++ x ∷ [] }) (timed x s)
  unfolding timed placed
  timed_is x s = thus_then (λ n t. t ≡ record s { operands = s.operands ++ x ∷ [] }) (λ n t. t ≡ record s { operands = s.operands ++ x ∷ [] }) (placed x s) (λ at t. went (record { operand = at; tenths = is_tenths x }) t)
      (thus_went (λ n t. t ≡ record s { operands = s.operands ++ x ∷ [] }) _ (record s { operands = s.operands ++ x ∷ [] }) refl)
      (λ at t is. thus_went (λ n t. t ≡ record s { operands = s.operands ++ x ∷ [] }) (record { operand = at; tenths = is_tenths x }) t is)

  -- for every duration
  pub duration_brings : (d : Duration) (s : Sofar) → Thus (λ n t. Brought (duration_names d) s t) (duration_read table scope inner d s)
  unfolding duration_read
  duration_brings d s =
      thus_then (λ u t. t.operands ≡ s.operands) (λ n t. Brought (duration_names d) s t) (sum_read d.spot s) (λ u t. given (length_found table scope inner d.spot d.node) t >>= λ x v. timed x v) (sum_same table scope inner w sight laws d.spot s)
      (λ u t same. thus_then (λ x v. Lasts d.node x × (v ≡ t)) (λ n v. Brought (duration_names d) s v) (given (length_found table scope inner d.spot d.node) t) (λ x v. timed x v)
      (thus_given (Lasts d.node) (λ x v. Lasts d.node x × (v ≡ t)) (length_found table scope inner d.spot d.node) t (length_lasts d.spot d.node) (λ x q. (q, refl)))
      (λ x v q. subst (λ (r : Sofar). Thus (λ n y. Brought (duration_names d) s y) (timed x r)) (sym q.1)
      (thus_weaker (λ n y. y ≡ record t { operands = t.operands ++ x ∷ [] }) (λ n y. Brought (duration_names d) s y) (timed x t) (timed_is x t)
      (λ n y is. subst (λ (z : Sofar). Brought (duration_names d) s z) (sym is) (brings_from table scope inner w sight laws (duration_names d) s t _ same (let l = q.0 in l.brings t))))))
