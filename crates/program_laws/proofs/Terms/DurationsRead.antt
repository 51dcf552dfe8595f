-- A duration without faults is an integer at its place.
use Rattle.std.proofs.Common.{◌≡◌, ◌++◌, if◌then◌else◌}
use Rattle.program_laws.proofs.Common.{ℕ, Bool, true, false, List, [], Option, Some, None, is_some, refl, sym, ap, subst, ◌∙◌, slice_get, and_from, Spot, Shape, Duration, DurationNode, Expr, TypedExpr, same, Names, holds, shape_of, if_known, given_is, Scope, Table, KnowsTable, KnowsNamed, Sofar, is_own, decimal_by, tenths, tenths_of, expr_names, duration_names}
use Rattle.std.specs.Prelude.{pos}
use Rattle.epl_values.specs.declared.shape.Shape.TheVariants as shape
use Rattle.epl_tree.specs.declared.event.DurationNode.TheVariants as node
use Rattle.typed_program.specs.declared.expression.TypedNode.TheVariants as made
use Rattle.typed_program.specs.declared.expression.TypedNode.TheOpen as typed
use Rattle.typed_program.specs.declared.term.Duration.{Duration as Timed}
use Rattle.typed_program.specs.Terms.{Around, as_said, is_tenths, lasts}
use Rattle.listener_check.specs.declared.value.Naming.TheVariants as naming
use Rattle.listener_check.specs.Durations.{digits_found, point_in, length_found, timed, duration_read}
use Rattle.listener_check.specs.Limits.{sum_read}
use Rattle.listener_check.specs.Names.{mentions}
use Rattle.listener_check.specs.Operands.{placed}
use Rattle.listener_check.specs.Values.{exactly, named_value}
use Rattle.listener_check.specs.Went.{given, went, ◌>>=◌}
use Rattle.stmt_check.specs.Captures.{duration_node}
use Rattle.program_laws.proofs.Exprs.Sure.{Sure}
use Rattle.program_laws.proofs.Exprs.Alike.{same_self}
use Rattle.program_laws.proofs.Exprs.Standing.{integer_stands}
use Rattle.program_laws.proofs.Exprs.Holding.{rolled, holds_made, shape_made}
use Rattle.program_laws.proofs.Terms.Astray.{astray_is_told}
use Rattle.program_laws.proofs.Terms.States.{Settled, State, Made, Placed, Roomy, around, sum_thus, placed_thus, extends_same, extends_on}
use Rattle.program_laws.proofs.Terms.Thus.{Thus, thus_then, thus_given, thus_went}
use Rattle.program_laws.proofs.Terms.Valued.{Good, Same, free_good}

module _ (table : Table) (names : Names) (scope inner : Scope) (k : KnowsTable table names scope) where
  abbrev pub Lasts : Timed → Around → Bool
  Lasts d a = lasts a d

  abbrev LengthSo : TypedExpr → Type 0
  LengthSo x = Settled names scope inner → Good table names scope inner k shape.Integer x

  said_same : (b : Bool) → as_said b b ≡ true
  said_same true = refl
  said_same false = refl

  -- an integer and whether it is a literal of tenths
  timed_thus : (b : Scope) (s t : Sofar) (x : TypedExpr) → Roomy names scope inner b s t → LengthSo x → Thus (Made names scope inner Lasts b s) (timed x t)
  unfolding timed around
  timed_thus b s t x r so = thus_then (Placed names scope inner b t x) (Made names scope inner Lasts b s) (placed x t) (λ at w. went (record { operand = at; tenths = is_tenths x }) w)
      (placed_thus names scope inner b t x r.state r.space (λ z. let g = so z in g.present_there))
      (λ at w p. thus_went (Made names scope inner Lasts b s) (record { operand = at; tenths = is_tenths x }) w (record {
        state = p.state;
        grows = extends_on s t w (extends_same s t r.same) p.grows;
        fit = λ z more. and_from (given_is (around names scope inner (w.operands ++ more)) shape.Integer at) (if_known (as_said (is_tenths x)) (slice_get (around names scope inner (w.operands ++ more)).tenths at))
            (ap (λ (o : Option (Option Shape)). if_known (if_known (same shape.Integer)) o) (p.there more) ∙ (let g = so z in g.shaped))
            (ap (λ (o : Option Bool). if_known (as_said (is_tenths x)) o) (p.told more) ∙ said_same (is_tenths x));
      }))

  tenths_good : (n : ℕ) → Good table names scope inner k shape.Integer (tenths n)
  tenths_good n =
      let shaped = shape_made names (Some shape.Integer) (made.Tenths (pos n)) in
      record {
        present_there = and_from (holds names (tenths n)) (is_some (shape_of (tenths n)))
            (holds_made names (Some shape.Integer) (made.Tenths (pos n)) (integer_stands names.types) (rolled names (typed.Tenths (pos n)) (made.Tenths (pos n)) (Some shape.Integer) (made.rolls-Tenths (pos n)) (same_self shape.Integer)))
            (ap is_some shaped);
        shaped = ap (λ (o : Option Shape). if_known (same shape.Integer) o) shaped ∙ same_self shape.Integer;
      }

  digits_good : (spot : Spot) (whole rest : List ℕ) → Sure LengthSo (digits_found spot whole rest)
  unfolding digits_found
  digits_good spot whole rest = record { where_clear = λ none z. tenths_good (tenths_of whole rest) }

  decimal_good : (spot : Spot) (text : List ℕ) (o : Option ℕ) → Sure LengthSo (decimal_by spot text o)
  decimal_good spot text (Some at) = digits_good spot _ _
  decimal_good spot text None = digits_good spot text []

  seconds_good : (e : Expr) → KnowsNamed names scope (expr_names e) → (m : Bool) → mentions (is_own scope inner) e ≡ m → Sure LengthSo (named_value table inner (if m then naming.Astray else naming.Free) shape.Integer e)
  unfolding named_value
  seconds_good e named true is = record { where_clear = λ none. absurd (astray_is_told table inner e (exactly shape.Integer true) refl none) }
  seconds_good e named false is = free_good table names scope inner k shape.Integer (integer_stands names.types) e named is

  length_good : (spot : Spot) (n : DurationNode) → KnowsNamed names scope (duration_node n) → Sure LengthSo (length_found table scope inner spot n)
  unfolding length_found
  length_good spot (node.Decimal text) named = decimal_good spot text (point_in text)
  length_good spot (node.Seconds e) named = seconds_good e named (mentions (is_own scope inner) e) refl

  -- for every duration
  pub duration_thus : (d : Duration) → KnowsNamed names scope (duration_names d) → (b : Scope) (at : Sofar) → State names scope inner b at → Thus (Made names scope inner Lasts b at) (duration_read table scope inner d at)
  unfolding duration_read around
  duration_thus d named b at h =
      thus_then (λ u t. Roomy names scope inner b at t) (Made names scope inner Lasts b at) (sum_read d.spot at) (λ u t. given (length_found table scope inner d.spot d.node) t >>= λ x v. timed x v)
      (sum_thus names scope inner d.spot b at h)
      (λ u t r. thus_then (Same table names scope inner k LengthSo t) (Made names scope inner Lasts b at) (given (length_found table scope inner d.spot d.node) t) (λ x v. timed x v)
      (thus_given LengthSo (Same table names scope inner k LengthSo t) (length_found table scope inner d.spot d.node) t (length_good d.spot d.node named) (λ x q. record { same = refl; so = q }))
      (λ x v q. subst (λ (w : Sofar). Thus (Made names scope inner Lasts b at) (timed x w)) (sym q.same) (timed_thus b at t x r q.so)))
