-- What stands in front of a part of an event expression, and what holds of a part behind it.
use Rattle.std.proofs.Common.{◌≡◌, ◌<◌, ◌≤◌, ◌&&◌, ◌∷◌, ◌++◌}
use Rattle.program_laws.proofs.Common.{ℕ, Bool, true, nat_le, List, [], map, length, Some, is_some, slice_get, refl, sym, ap, subst, ◌∙◌, arith, append_assoc, list_all, and_from, nat_tests, length_push, append-nil, list_all-append, Spot, TypedExpr, Names, holds, shape_of, Scope, Seen, told, Sofar, bound_of, leaf_codes, with_leaf, sum_codes, with_sum, went}
use Rattle.typed_program.specs.Terms.{Around, is_tenths}
use Rattle.listener_check.specs.Limits.{short, leaf_read, sum_read}
use Rattle.listener_check.specs.Operands.{placed}
use Rattle.program_laws.proofs.Shapes.Lists.{no_told, no_if}
use Rattle.program_laws.proofs.Terms.Thus.{Thus, thus_went, thus_behind}
use Rattle.program_laws.proofs.Terms.Bounds.{widened, Numbered}

-- a value that is evaluated at the `on`: it holds, and its shape is there
abbrev pub present : Names → TypedExpr → Bool
present names e = holds names e && is_some (shape_of e)

-- what stands in front only grows at its end
pub record Extends (s t : Sofar) : Type 0 where
  pub more : List TypedExpr
  pub are : t.operands ≡ s.operands ++ more

pub extends_same : (s t : Sofar) → t.operands ≡ s.operands → Extends s t
extends_same s t is = record { more = []; are = is ∙ sym (append-nil s.operands) }

pub extends_on : (s t u : Sofar) → Extends s t → Extends t u → Extends s u
extends_on s t u a b = record { more = a.more ++ b.more; are = b.are ∙ ap (λ (l : List TypedExpr). l ++ b.more) a.are ∙ append_assoc s.operands a.more b.more }

module _ (names : Names) (scope inner : Scope) where
  -- all the names that are bound
  pub record Settled : Type 0 where
    pub bound : List Seen
    pub is : inner ≡ widened scope bound
    pub numbered : Numbered names 0 bound

  -- what stands in front where these names are bound so far
  pub record State (b : Scope) (s : Sofar) : Type 0 where
    pub bound : List Seen
    pub is : b ≡ widened scope bound
    pub numbered : Numbered names 0 bound
    pub named : map (λ x. x.name) bound ≡ s.names
    pub few : length s.names ≤ 64
    pub room : length s.operands ≤ s.sums
    pub sums : s.sums ≤ 192
    pub leaves : s.leaves ≤ 64
    pub hold : Settled → list_all (present names) s.operands ≡ true

  unfoldable pub around : List TypedExpr → Around
  around ops = record { types = names.types; operands = map shape_of ops; tenths = map is_tenths ops; bound = map (λ l. l.shape) (bound_of scope inner) }

  -- a part that is as it should be behind what stands in front, and wherever more stands behind it
  pub record Made {A : Type 0} (good : A → Around → Bool) (b : Scope) (s : Sofar) (x : A) (t : Sofar) : Type 0 where
    pub state : State b t
    pub grows : Extends s t
    pub fit : Settled → (more : List TypedExpr) → good x (around (t.operands ++ more)) ≡ true

  -- it is so behind further parts
  pub fit_on : {A : Type 0} (good : A → Around → Bool) (x : A) (t u : Sofar) → ((more : List TypedExpr) → good x (around (t.operands ++ more)) ≡ true) → Extends t u → (more : List TypedExpr) → good x (around (u.operands ++ more)) ≡ true
  fit_on good x t u fit e more = subst (λ (l : List TypedExpr). good x (around l) ≡ true) (sym (ap (λ (l : List TypedExpr). l ++ more) e.are ∙ append_assoc t.operands e.more more)) (fit (e.more ++ more))

  -- ---- leaves and operands are counted

  pub record Kept (b : Scope) (s t : Sofar) : Type 0 where
    pub state : State b t
    pub grows : Extends s t

  pub leaf_thus : (spot : Spot) (b : Scope) (s : Sofar) → State b s → Thus (λ u t. Kept b s t) (leaf_read spot s)
  unfolding leaf_read
  leaf_thus spot b s h = thus_behind (λ u t. Kept b s t) (told spot (leaf_codes s)) (went tt (with_leaf s)) (λ none.
      let fewer = no_if (nat_le 64 s.leaves) 4 (no_told spot (leaf_codes s) none) in
      let less : s.leaves < 64 = grind (arith, nat_tests) in
      thus_went (λ u t. Kept b s t) tt (with_leaf s) (record {
        state = record { bound = h.bound; is = h.is; numbered = h.numbered; named = h.named; few = h.few; room = h.room; sums = h.sums; leaves = omega arith; hold = h.hold };
        grows = extends_same s (with_leaf s) refl;
      }))

  -- there is room for one operand
  pub record Roomy (b : Scope) (s t : Sofar) : Type 0 where
    pub state : State b t
    pub same : t.operands ≡ s.operands
    pub space : length t.operands < t.sums

  pub sum_thus : (spot : Spot) (b : Scope) (s : Sofar) → State b s → Thus (λ u t. Roomy b s t) (sum_read spot s)
  unfolding sum_read
  sum_thus spot b s h = thus_behind (λ u t. Roomy b s t) (told spot (sum_codes s)) (went tt (with_sum s)) (λ none.
      let fewer = no_if (nat_le 192 s.sums) 4 (no_told spot (sum_codes s) none) in
      let less : s.sums < 192 = grind (arith, nat_tests) in
      let room = h.room in
      thus_went (λ u t. Roomy b s t) tt (with_sum s) (record {
        state = record { bound = h.bound; is = h.is; numbered = h.numbered; named = h.named; few = h.few; room = omega arith; sums = omega arith; leaves = h.leaves; hold = h.hold };
        same = refl;
        space = omega arith;
      }))

  -- ---- operands

  at_end : {B : Type 0} (f : TypedExpr → B) (ops : List TypedExpr) (e : TypedExpr) (more : List TypedExpr) → slice_get (map f ((ops ++ e ∷ []) ++ more)) (length ops) ≡ Some (f e)
  at_end f [] e more = refl
  at_end f (o ∷ ops) e more = at_end f ops e more

  -- a value at its place among the operands of the site
  pub record Placed (b : Scope) (s : Sofar) (e : TypedExpr) (at : ℕ) (t : Sofar) : Type 0 where
    pub state : State b t
    pub grows : Extends s t
    pub there : (more : List TypedExpr) → slice_get (around (t.operands ++ more)).operands at ≡ Some (shape_of e)
    pub told : (more : List TypedExpr) → slice_get (around (t.operands ++ more)).tenths at ≡ Some (is_tenths e)

  pub placed_thus : (b : Scope) (s : Sofar) (e : TypedExpr) → State b s → length s.operands < s.sums → (Settled → present names e ≡ true) → Thus (Placed b s e) (placed e s)
  unfolding placed around
  placed_thus b s e h space good =
      let sums = h.sums in
      let small : short (length s.operands) ≡ length s.operands = omega arith in
      let t : Sofar = record s { operands = s.operands ++ e ∷ [] } in
      thus_went (Placed b s e) (short (length s.operands)) t (record {
        state = record {
          bound = h.bound;
          is = h.is;
          numbered = h.numbered;
          named = h.named;
          few = h.few;
          room = (let l = length_push s.operands e in omega arith);
          sums = h.sums;
          leaves = h.leaves;
          hold = λ z. list_all-append (present names) s.operands (e ∷ []) ∙ and_from (list_all (present names) s.operands) (present names e && true) (h.hold z) (and_from (present names e) true (good z) refl);
        };
        grows = record { more = e ∷ []; are = refl };
        there = λ more. ap (λ (n : ℕ). slice_get (map shape_of ((s.operands ++ e ∷ []) ++ more)) n) small ∙ at_end shape_of s.operands e more;
        told = λ more. ap (λ (n : ℕ). slice_get (map is_tenths ((s.operands ++ e ∷ []) ++ more)) n) small ∙ at_end is_tenths s.operands e more;
      })
