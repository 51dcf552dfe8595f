-- What an expression at its place is: the expression with its names resolved, or right behind a minus the literal with its sign.
use Rattle.std.proofs.Common.{◌≡◌, ℕ, pos, neg_ℤ, Bool, true, false, List, ◌++◌, Option, Some, None, refl, subst, sym}
use Rattle.span_text.specs.declared.spot.Spot.{Spot}
use Rattle.epl_values.specs.declared.shape.Shape.{Shape}
use Rattle.epl_tree.specs.declared.expression.Expr.{Expr}
use Rattle.epl_tree.specs.declared.expression.ExprNode.TheOpen as tree
use Rattle.typed_program.specs.declared.expression.TypedExpr.{TypedExpr, TypedExpr-F, roll-TypedExpr, out-roll-TypedExpr}
use Rattle.typed_program.specs.declared.expression.TypedNode.{TypedNode, out-TypedNode}
use Rattle.typed_program.specs.declared.expression.TypedNode.TheOpen as typed
use Rattle.typed_program.specs.declared.expression.TypedSuffix.{TypedSuffix}
use Rattle.typed_program.specs.declared.expression.TypedSuffixNode.{TypedSuffixNode}
use Rattle.typed_program.specs.declared.expression.TypedLink.{TypedLink}
use Rattle.typed_program.specs.declared.expression.TypedEntry.{TypedEntry}
use Rattle.expr_rules.specs.declared.operators.Sort.{Sort}
use Rattle.expr_rules.specs.declared.placed.Gives.{Gives}
use Rattle.expr_rules.specs.declared.placed.Root.{Root}
use Rattle.expr_rules.specs.declared.placed.Judged.{Judged}
use Rattle.expr_rules.specs.Asked.{Demand}
use Rattle.expr_rules.specs.Operators.{Part, operated, given_by}
use Rattle.expr_rules.specs.Places.{placed, stands, judged, place_codes, shape_given}
use Rattle.expr_rules.specs.Then.{codes_of}
use Rattle.name_resolution.specs.Names.{Named, Around}
use Rattle.name_resolution.specs.Expressions.{Form, TypedForm, form_of, typed_form, shape_of, number, ExprIs, FormIs, NodeIs}
use Rattle.name_resolution.specs.Expressions as rule
use Rattle.name_resolution.proofs.Sure.{Sure, sure_sound, sure_node, sure_then, sure_as, no_both, own_none}

-- a node's own code is none
pub placed_own : (spot : Spot) (demand : Demand) (own : Option ℕ) (root : Option Root) (g : Gives) → Sure (λ s. own ≡ None) (placed spot demand own root g)
unfolding placed
placed_own spot demand own root g = sure_node (λ s. own ≡ None) spot (codes_of own ++ place_codes demand root g) (shape_given g) (λ none. own_none own (no_both (codes_of own) (place_codes demand root g) none).0)

-- what is given is the shape
pub placed_shape : (spot : Spot) (demand : Demand) (own : Option ℕ) (root : Option Root) (g : Gives) → Sure (λ s. s ≡ shape_given g) (placed spot demand own root g)
unfolding placed
placed_shape spot demand own root g = sure_node (λ s. s ≡ shape_given g) spot (codes_of own ++ place_codes demand root g) (shape_given g) (λ none. refl)

-- both
pub placed_both : (spot : Spot) (demand : Demand) (own : Option ℕ) (root : Option Root) (g : Gives) → Sure (λ s. (own ≡ None) × (s ≡ shape_given g)) (placed spot demand own root g)
placed_both spot demand own root g = record { where_clear = λ h. ((placed_own spot demand own root g).where_clear h, (placed_shape spot demand own root g).where_clear h) }

module _ (around : Around) (names : List Named) where
  -- a literal with the sign before it
  pub record Negative (f : Form) (x : TypedExpr) : Type 0 where
    pub digits : List ℕ
    pub is : f ≡ tree.Integer digits
    pub value : typed_form x ≡ typed.Integer (neg_ℤ (pos (number digits)))

  pub record Judges (f : Form) (signed : Bool) (j : Judged) : Type 0 where
    pub plain : j.signed ≡ false → FormIs around names f j.typed
    pub negative : j.signed ≡ true → Negative f j.typed
    pub only : signed ≡ false → j.signed ≡ false

  -- how an expression of this form is read
  pub record Reads (f : Form) (part : Part) : Type 0 where
    pub at : (demand : Demand) → Sure (Judges f demand.signed) (part demand)

  abbrev pub Is : Expr → Judged → Type 0
  Is e j = ExprIs around names e j.typed

  -- where no minus stands right before it
  pub plain_at : (e : Expr) (part : Part) (demand : Demand) → demand.signed ≡ false → Reads (form_of e) part → Sure (Is e) (part demand)
  plain_at e part demand none r = sure_as (Judges (form_of e) demand.signed) (Is e) (part demand) (λ j is. rule.is (is.plain (is.only none))) (r.at demand)

  pub form_made : (f : Form) (s : Option Shape) (n : TypedNode) (d : TypedForm) → out-TypedNode n ≡ d → NodeIs around names f d → FormIs around names f (roll-TypedExpr record { shape = s; node = n })
  form_made f s n d is h = rule.form (subst (λ (e : TypedExpr-F TypedNode TypedSuffixNode TypedEntry TypedExpr TypedLink TypedSuffix). NodeIs around names f (out-TypedNode e.node)) (sym (out-roll-TypedExpr (record { shape = s; node = n }))) (subst (λ (t : TypedForm). NodeIs around names f t) (sym is) h))

  -- what isn't signed is a form
  pub judges : (f : Form) (signed : Bool) (x : TypedExpr) (root : Option Root) → FormIs around names f x → Judges f signed (record { typed = x; root = root; signed = false })
  judges f signed x root h = record { plain = λ none. h; negative = λ is. absurd (cc); only = λ none. refl }

  -- a form at its place
  pub stands_is : (f : Form) (signed : Bool) (spot : Spot) (demand : Demand) (own : Option ℕ) (root : Option Root) (g : Gives) (n : TypedNode) (d : TypedForm) → (own ≡ None → out-TypedNode n ≡ d) → (own ≡ None → NodeIs around names f d) → Sure (Judges f signed) (stands spot demand own root g n)
  stands_is f signed spot demand own root g n d is h =
      sure_then (λ s. own ≡ None) (Judges f signed) (placed spot demand own root g) (judged root n) (placed_own spot demand own root g)
      (λ s none. sure_sound (Judges f signed) (record { typed = roll-TypedExpr record { shape = s; node = n }; root = root; signed = false }) (judges f signed (roll-TypedExpr record { shape = s; node = n }) root (form_made f s n d (is none) (h none))))

  pub operated_is : (f : Form) (signed : Bool) (spot : Spot) (demand : Demand) (o : Option Sort) (n : TypedNode) (d : TypedForm) → out-TypedNode n ≡ d → NodeIs around names f d → Sure (Judges f signed) (operated spot demand o n)
  operated_is f signed spot demand (Some s) n d is h = stands_is f signed spot demand None None (given_by s) n d (λ none. is) (λ none. h)
  operated_is f signed spot demand None n d is h = stands_is f signed spot demand (Some 10) None _ n d (λ none. is) (λ none. h)
