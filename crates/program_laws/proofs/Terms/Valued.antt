-- A value that names no bound name, and what is read of a value.
use Rattle.std.proofs.Common.{◌≡◌, ◌<◌}
use Rattle.program_laws.proofs.Common.{Bool, true, false, List, length, Option, Some, None, is_some, refl, sym, ap, subst, ◌∙◌, true≢false, and_parts, and_from, Shape, Expr, TypedExpr, Operand, same, stands, Names, holds, shape_of, if_known, operand_so, Scope, Seen, Table, Found, Exactly, Part, typed_of, expr_found, KnowsTable, KnowsNamed, wished, answers, Sofar, Naming, is_own, bound, went, expr_names}
use Rattle.typed_program.specs.declared.term.Operand.TheVariants as operand
use Rattle.typed_program.specs.Terms.{Around}
use Rattle.expr_rules.specs.Then.{and_then}
use Rattle.expr_check.specs.Expressions.{part_of}
use Rattle.listener_check.specs.declared.value.Naming.TheVariants as naming
use Rattle.listener_check.specs.Names.{mentions}
use Rattle.listener_check.specs.Operands.{placed, given_operand, operand_of, named_operand}
use Rattle.listener_check.specs.Values.{exactly, named_value}
use Rattle.listener_check.specs.Went.{given}
use Rattle.program_laws.proofs.Exprs.Sure.{Sure}
use Rattle.program_laws.proofs.Exprs.Accepted.{named_expression_answers}
use Rattle.program_laws.proofs.Terms.Apart.{Alike, apart}
use Rattle.program_laws.proofs.Terms.Astray.{astray_is_told}
use Rattle.program_laws.proofs.Terms.Bounds.{widened, seen_apart}
use Rattle.program_laws.proofs.Terms.States.{Settled, State, Made, Placed, present, around, placed_thus}
use Rattle.program_laws.proofs.Terms.Thus.{Thus, thus_went, thus_then, thus_given}

pub exact_fits : (s : Shape) (o : Option Shape) → wished (Exactly s) o ≡ true → (is_some o ≡ true) × (if_known (same s) o ≡ true)
exact_fits s None h = absurd (true≢false (sym h))
exact_fits s (Some t) h = (refl, (and_parts (same s t) true h).0)

pub sure_both : {A : Type 0} (P Q : A → Type 0) (found : Found A) → Sure P found → Sure Q found → Sure (λ x. P x × Q x) found
sure_both P Q found p q = record { where_clear = λ h. (p.where_clear h, q.where_clear h) }

module _ (table : Table) (names : Names) (scope inner : Scope) (k : KnowsTable table names scope) where
  abbrev pub So : Shape → Operand → Around → Bool
  So s o a = operand_so a s o

  -- ---- an expression that names no bound name

  alike : (bound : List Seen) → Alike (is_own scope (widened scope bound)) table (widened scope bound) scope
  alike bound = record { same_names = λ name h. seen_apart scope bound name h; same_actions = λ name. refl }

  pub free_same : Settled names scope inner → (e : Expr) → mentions (is_own scope inner) e ≡ false → part_of table inner e ≡ part_of table scope e
  free_same z e h =
      apart (is_own scope inner) table inner scope (subst (λ (i : Scope). Alike (is_own scope i) table i scope) (sym z.is) (alike z.bound)) e h

  -- a value of this shape
  pub record Good (s : Shape) (e : TypedExpr) : Type 0 where
    pub present_there : present names e ≡ true
    pub shaped : if_known (same s) (shape_of e) ≡ true

  good_answer : (s : Shape) (e : TypedExpr) → answers names (Exactly s) e ≡ true → Good s e
  good_answer s e h =
      let p = and_parts (holds names e) (wished (Exactly s) (shape_of e)) h in
      let f = exact_fits s (shape_of e) p.1 in
      record { present_there = and_from (holds names e) (is_some (shape_of e)) p.0 f.0; shaped = f.1 }

  pub free_good : (s : Shape) → stands names.types s ≡ true → (e : Expr) → KnowsNamed names scope (expr_names e) → mentions (is_own scope inner) e ≡ false → Sure (λ x. Settled names scope inner → Good s x) (expr_found table inner e (exactly s false))
  free_good s there e named h = record {
    where_clear = λ none z.
        let eq : expr_found table inner e (exactly s false) ≡ expr_found table scope e (exactly s false) = ap (λ (p : Part). and_then (p (exactly s false)) typed_of) (free_same z e h) in
        subst (λ (f : Found TypedExpr). Good s f.part) (sym eq) (good_answer s (expr_found table scope e (exactly s false)).part (named_expression_answers k e named (exactly s false) there (sym (ap (λ (f : Found TypedExpr). f.faults) eq) ∙ none)));
  }

  -- ---- operands by how they name

  pub given_thus : (s : Shape) (b : Scope) (at : Sofar) (e : TypedExpr) → State names scope inner b at → length at.operands < at.sums → (Settled names scope inner → Good s e) → Thus (Made names scope inner (So s) b at) (given_operand e at)
  unfolding given_operand around
  given_thus s b at e h space good =
      thus_then (Placed names scope inner b at e) (Made names scope inner (So s) b at) (placed e at) (λ n t. went (operand.Given n) t)
      (placed_thus names scope inner b at e h space (λ z. let g = good z in g.present_there))
      (λ n t p. thus_went (Made names scope inner (So s) b at) (operand.Given n) t (record { state = p.state; grows = p.grows; fit = λ z more. ap (λ (o : Option (Option Shape)). if_known (if_known (same s)) o) (p.there more) ∙ (let g = good z in g.shaped) }))

  -- what is found of a value, behind which nothing changes
  pub record Same (Q : TypedExpr → Type 0) (at : Sofar) (x : TypedExpr) (t : Sofar) : Type 0 where
    pub same : t ≡ at
    pub so : Q x

  pub valued_thus : (Q : TypedExpr → Type 0) (n : Naming) (s : Shape) (e : Expr) (b : Scope) (at : Sofar) → Sure Q (named_value table inner n s e) → ((x : TypedExpr) → Q x → Thus (Made names scope inner (So s) b at) (operand_of n x at)) → Thus (Made names scope inner (So s) b at) (named_operand table scope inner n s e at)
  unfolding named_operand
  valued_thus Q n s e b at sure next =
      thus_then (Same Q at) (Made names scope inner (So s) b at) (given (named_value table inner n s e) at) (λ typed t. operand_of n typed t)
      (thus_given Q (Same Q at) (named_value table inner n s e) at sure (λ x q. record { same = refl; so = q }))
      (λ x t q. subst (λ (u : Sofar). Thus (Made names scope inner (So s) b at) (operand_of n x u)) (sym q.same) (next x q.so))

  pub astray_thus : (s : Shape) (e : Expr) (b : Scope) (at : Sofar) → Thus (Made names scope inner (So s) b at) (named_operand table scope inner naming.Astray s e at)
  unfolding named_value
  astray_thus s e b at = valued_thus (λ x. ⊥) naming.Astray s e b at (record { where_clear = λ none. astray_is_told table inner e (exactly s true) refl none }) (λ x never. absurd never)

  pub free_thus : (s : Shape) → stands names.types s ≡ true → (e : Expr) → KnowsNamed names scope (expr_names e) → (b : Scope) (at : Sofar) → State names scope inner b at → length at.operands < at.sums → mentions (is_own scope inner) e ≡ false → Thus (Made names scope inner (So s) b at) (named_operand table scope inner naming.Free s e at)
  unfolding operand_of named_value
  free_thus s there e named b at h space apart_so = valued_thus (λ x. Settled names scope inner → Good s x) naming.Free s e b at (free_good s there e named apart_so) (λ x good. given_thus s b at x h space good)
