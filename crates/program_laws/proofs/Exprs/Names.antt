-- A visible name answers, and so does what a place begins with.
use Rattle.std.proofs.Common.{◌≡◌}
use Rattle.program_laws.proofs.Common.{ℕ, true, false, List, Option, Some, None, refl, sym, ap, subst, ◌∙◌, Spot, Shape, TypedExpr, out-TypedExpr, roll-TypedExpr, out-roll-TypedExpr, TypedNode, Names, shape_of, if_known, variable_shape, Scope, Seen, SeenKind, Judged, Demand, seen, outer_code, variable, root_of, name_found, known, judged, shape_given, variable_layer, variable_of, KnowsName, by_number}
use Rattle.typed_program.specs.declared.expression.TypedNode.TheVariants as made
use Rattle.typed_program.specs.declared.expression.TypedNode.TheOpen as typed
use Rattle.typed_program.specs.Expressions.{gives}
use Rattle.type_table.specs.declared.scope.SeenKind.TheVariants as kind
use Rattle.expr_rules.specs.declared.placed.Gives.TheVariants as gives_
use Rattle.expr_rules.specs.Places.{placed}
use Rattle.expr_rules.specs.Then.{and_then}
use Rattle.program_laws.proofs.Exprs.Sure.{Sure, sure_then}
use Rattle.program_laws.proofs.Exprs.Alike.{same_self}
use Rattle.program_laws.proofs.Exprs.Holding.{node_checked, rolled}
use Rattle.program_laws.proofs.Exprs.Answering.{Answering, Answers, IsGiven, placed_sure, stands_sure}

module _ (names : Names) where
  variable_holds : (k : SeenKind) (n : ℕ) (s : Shape) → by_number names k n ≡ Some s → node_checked names (variable k n) (Some s) ≡ true
  variable_holds kind.Global n s at = rolled names (typed.Global n) (made.Global n) (Some s) (made.rolls-Global n) (ap (λ (o : Option Shape). if_known (λ t. gives t (Some s)) o) at ∙ same_self s)
  variable_holds k n s at = rolled names (typed.Local n) (made.Local n) (Some s) (made.rolls-Local n) (ap (λ (o : Option Shape). if_known (λ t. gives t (Some s)) o) at ∙ same_self s)

  variable_known : (k : SeenKind) (n : ℕ) (s : Shape) → by_number names k n ≡ Some s → variable_shape names (variable_of (variable k n)) ≡ Some s
  variable_known kind.Global n s at = ap (λ d. variable_shape names (variable_layer d)) (made.outs-Global n) ∙ at
  variable_known k n s at = ap (λ d. variable_shape names (variable_layer d)) (made.outs-Local n) ∙ at

  -- an expression that is a variable, with the shape that its number has
  pub record IsVariable (e : TypedExpr) : Type 0 where
    pub numbered : variable_shape names (variable_of (out-TypedExpr e).node) ≡ shape_of e

  made_variable : (k : SeenKind) (n : ℕ) (s : Shape) (o : Option Shape) → by_number names k n ≡ Some s → o ≡ Some s → IsVariable (roll-TypedExpr record { shape = o; node = variable k n })
  made_variable k n s o at is = record {
    numbered =
        ap (λ (m : TypedNode). variable_shape names (variable_of m)) (ap (λ d. d.node) (out-roll-TypedExpr (record { shape = o; node = variable k n })))
        ∙ variable_known k n s at ∙ sym is
        ∙ sym (ap (λ d. d.shape) (out-roll-TypedExpr (record { shape = o; node = variable k n })));
  }

  shape_known : (o : Option Shape) (s : Shape) → o ≡ Some s → shape_given (known o) ≡ Some s
  shape_known None s is = is
  shape_known (Some t) s is = is

  name_sure : (spot : Spot) (demand : Demand) (s : Seen) → KnowsName names s → Sure (Answering names demand.wish) (name_found spot demand (Some s))
  name_sure spot demand s k = stands_sure names spot demand (outer_code s.kind s.shape) (Some (root_of s)) (known s.shape) (variable s.kind s.number)
      (λ none. subst (λ (o : Option Shape). IsGiven names (variable s.kind s.number) (known o)) (sym k.known) (record { there = k.stands; node_holds = variable_holds s.kind s.number k.shape k.at }))

  name_variable : (spot : Spot) (demand : Demand) (s : Seen) → KnowsName names s → IsVariable (name_found spot demand (Some s)).part.typed
  unfolding and_then placed
  name_variable spot demand s k = made_variable s.kind s.number k.shape (shape_given (known s.shape)) k.at (shape_known s.shape k.shape k.known)

  -- an expression that answers, and is a variable
  pub record Rooted (demand : Demand) (j : Judged) : Type 0 where
    pub answering : Answering names demand.wish j
    pub variable_there : IsVariable j.typed

  stands_absent : (spot : Spot) (demand : Demand) → Sure (λ j. ⊥) (name_found spot demand None)
  stands_absent spot demand = sure_then (λ s. ⊥) (λ j. ⊥) (placed spot demand (Some 6) None gives_.Unknown) (judged None (made.Boolean false)) (placed_sure names (λ s. ⊥) spot demand (Some 6) None gives_.Unknown (λ none clear. absurd (cc))) (λ s never. absurd never)

  absent_sure : (spot : Spot) (demand : Demand) (P : Judged → Type 0) → Sure P (name_found spot demand None)
  absent_sure spot demand P = record { where_clear = λ h. absurd ((stands_absent spot demand).where_clear h) }

  rooted_sure : (spot : Spot) (demand : Demand) (o : Option Seen) → ((s : Seen) → o ≡ Some s → KnowsName names s) → Sure (Rooted demand) (name_found spot demand o)
  rooted_sure spot demand None k = absent_sure spot demand (Rooted demand)
  rooted_sure spot demand (Some s) k = record { where_clear = λ h. record { answering = (name_sure spot demand s (k s refl)).where_clear h; variable_there = name_variable spot demand s (k s refl) } }

  plain_sure : (spot : Spot) (demand : Demand) (o : Option Seen) → ((s : Seen) → o ≡ Some s → KnowsName names s) → Sure (Answering names demand.wish) (name_found spot demand o)
  plain_sure spot demand None k = absent_sure spot demand (Answering names demand.wish)
  plain_sure spot demand (Some s) k = name_sure spot demand s (k s refl)

module _ (names : Names) (scope : Scope) (name : List ℕ) (k : (s : Seen) → seen scope name ≡ Some s → KnowsName names s) where
  pub name_answers : (spot : Spot) → Answers names (λ demand. name_found spot demand (seen scope name))
  name_answers spot = record { at_demand = λ demand wish. plain_sure names spot demand (seen scope name) k }

  pub root_sure : (spot : Spot) (demand : Demand) → Sure (Rooted names demand) (name_found spot demand (seen scope name))
  root_sure spot demand = rooted_sure names spot demand (seen scope name) k
