-- Expressions in an event expression: what names a co-assignment of it may do so in a few forms alone.
use Rattle.std.specs.Prelude.{ℕ, Bool, true, false, ◌&&◌, not, if◌then◌else◌, List, [], ◌∷◌}
use Rattle.std.specs.List.{list_all}
use Rattle.epl_values.specs.declared.shape.Shape.{Shape}
use Rattle.epl_tree.specs.declared.expression.Expr.{Expr, out-Expr}
use Rattle.epl_tree.specs.declared.expression.ExprNode.{ExprNode, ExprNode-F, out-ExprNode}
use Rattle.epl_tree.specs.declared.expression.ExprNode.TheOpen as node
use Rattle.epl_tree.specs.declared.expression.SuffixNode.{SuffixNode, SuffixNode-F, out-SuffixNode}
use Rattle.epl_tree.specs.declared.expression.Suffix.{Suffix, out-Suffix}
use Rattle.epl_tree.specs.declared.expression.Entry.{Entry}
use Rattle.epl_tree.specs.declared.expression.Link.{Link, out-Link}
use Rattle.epl_tree.specs.declared.expression.Operator.{Operator}
use Rattle.epl_tree.specs.declared.expression.Operator.TheVariants as operator
use Rattle.typed_program.specs.declared.expression.TypedExpr.{TypedExpr}
use Rattle.type_table.specs.declared.scope.Scope.{Scope}
use Rattle.type_table.specs.declared.table.Table.{Table}
use Rattle.type_table.specs.Found.{Found}
use Rattle.expr_rules.specs.declared.asked.Paths.TheVariants as paths
use Rattle.expr_rules.specs.Asked.{Demand, Exactly}
use Rattle.expr_check.specs.Expressions.{expr_found}
use Rattle.listener_check.specs.declared.value.Naming.{Naming}
use Rattle.listener_check.specs.declared.value.Naming.TheVariants as naming
use Rattle.listener_check.specs.Bound.{is_own, is_among}
use Rattle.listener_check.specs.Names.{mentions}

abbrev pub Layer : Type 0
Layer = ExprNode-F ExprNode SuffixNode Entry Expr Link Suffix

abbrev pub layer_of : Expr → Layer
layer_of e = out-ExprNode (out-Expr e).node

abbrev pub is_field_layer : SuffixNode-F ExprNode SuffixNode Entry Expr Link Suffix → Bool
is_field_layer (node.Field name) = true
is_field_layer (node.Method name arguments) = false
is_field_layer (node.Index e) = false

unfoldable pub is_field : Suffix → Bool
is_field s = is_field_layer (out-SuffixNode (out-Suffix s).node)

abbrev pub sign_naming : Operator → Naming
sign_naming operator.Add = naming.Plus
sign_naming operator.Subtract = naming.Minus
sign_naming o = naming.Astray

module _ (scope : Scope) (inner : Scope) where
  -- whether a name is bound in a left side of an `->` around the operand
  abbrev pub is_left : List (List ℕ) → List ℕ → Bool
  is_left left name = is_own scope inner name && is_among left name

  abbrev pub is_root_layer : List (List ℕ) → Layer → Bool
  is_root_layer left (node.Name name) = is_left left name
  is_root_layer left layer = false

  unfoldable pub is_root : List (List ℕ) → Expr → Bool
  is_root left e = is_root_layer left (layer_of e)

  abbrev pub is_path_of : List (List ℕ) → Expr → List Suffix → Bool
  is_path_of left first suffixes = is_root left first && list_all is_field suffixes

  abbrev pub is_path_layer : List (List ℕ) → Layer → Bool
  is_path_layer left (node.Postfix first suffixes) = is_path_of left first suffixes
  is_path_layer left layer = false

  -- a path of fields from such a name
  unfoldable pub is_path : List (List ℕ) → Expr → Bool
  is_path left e = is_path_layer left (layer_of e)

  -- such a path plus or minus one product that names no co-assignment
  abbrev pub links_naming : List (List ℕ) → Expr → List Link → Naming
  links_naming left first (link ∷ []) = if is_path left first && not (mentions (is_own scope inner) (out-Link link).operand) then sign_naming (out-Link link).operator else naming.Astray
  links_naming left first links = naming.Astray

  abbrev pub form_layer : List (List ℕ) → Bool → Layer → Naming
  form_layer left integer (node.Postfix first suffixes) = if is_path_of left first suffixes then naming.Path else naming.Astray
  form_layer left integer (node.Sum first links) = if integer then links_naming left first links else naming.Astray
  form_layer left integer layer = naming.Astray

  unfoldable pub form_of : List (List ℕ) → Bool → Expr → Naming
  form_of left integer e = form_layer left integer (layer_of e)

  -- how an operand names co-assignments; a sum of texts is none of the forms
  abbrev pub naming_of : List (List ℕ) → Bool → Expr → Naming
  naming_of left integer e = if mentions (is_own scope inner) e then form_of left integer e else naming.Free

  -- a duration names none
  abbrev pub duration_naming : Expr → Naming
  duration_naming e = if mentions (is_own scope inner) e then naming.Astray else naming.Free

abbrev pub is_astray : Naming → Bool
is_astray naming.Astray = true
is_astray n = false

-- a value of exactly this shape, and no path of reference type; where it is astray 18 is a code of its outermost node
abbrev pub exactly : Shape → Bool → Demand
exactly shape astray = record { wish = Exactly shape; paths = paths.Refused; changed = false; signed = false; assigned = false; astray = astray }

module _ (table : Table) (inner : Scope) where
  unfoldable pub named_value : Naming → Shape → Expr → Found TypedExpr
  named_value n shape tree = expr_found table inner tree (exactly shape (is_astray n))
