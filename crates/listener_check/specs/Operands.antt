-- Operands of constraints. One that is evaluated at the `on` is an operand of the site; another is a path from a bound name,
-- maybe with such an operand added or subtracted.
use Rattle.std.specs.Prelude.{ℕ, Bool, true, false, List, [], ◌∷◌, ◌++◌, length, Option, Some, None}
use Rattle.std.specs.List.{flat_map}
use Rattle.epl_values.specs.declared.shape.Shape.{Shape, Shape-F, out-Shape}
use Rattle.epl_values.specs.declared.shape.Shape.TheOpen as layer
use Rattle.epl_tree.specs.declared.expression.Expr.{Expr, out-Expr}
use Rattle.typed_program.specs.declared.expression.TypedExpr.{TypedExpr, out-TypedExpr}
use Rattle.typed_program.specs.declared.expression.TypedNode.{TypedNode, TypedNode-F, out-TypedNode}
use Rattle.typed_program.specs.declared.expression.TypedNode.TheOpen as made
use Rattle.typed_program.specs.declared.expression.TypedEntry.{TypedEntry}
use Rattle.typed_program.specs.declared.expression.TypedLink.{TypedLink, out-TypedLink}
use Rattle.typed_program.specs.declared.expression.TypedSuffix.{TypedSuffix, out-TypedSuffix}
use Rattle.typed_program.specs.declared.expression.TypedSuffixNode.{TypedSuffixNode, TypedSuffixNode-F, out-TypedSuffixNode}
use Rattle.typed_program.specs.declared.term.Operand.{Operand}
use Rattle.typed_program.specs.declared.term.Operand.TheVariants as operand
use Rattle.type_table.specs.declared.scope.Scope.{Scope}
use Rattle.type_table.specs.declared.table.Table.{Table}
use Rattle.listener_check.specs.declared.operand.Reached.{Reached}
use Rattle.listener_check.specs.declared.sofar.Sofar.{Sofar}
use Rattle.listener_check.specs.declared.value.Naming.{Naming}
use Rattle.listener_check.specs.declared.value.Naming.TheVariants as naming
use Rattle.listener_check.specs.Limits.{short, sum_read}
use Rattle.listener_check.specs.Values.{naming_of, named_value}
use Rattle.listener_check.specs.Went.{Went, went, given, ◌>>=◌}

abbrev pub Layer : Type 0
Layer = TypedNode-F TypedNode TypedSuffixNode TypedEntry TypedExpr TypedLink TypedSuffix

abbrev pub layer_of : TypedExpr → Layer
layer_of e = out-TypedNode (out-TypedExpr e).node

abbrev pub place_layer : Layer → ℕ
place_layer (made.Local n) = n
place_layer l = 0

-- the place of a bound name among those of its event expression
unfoldable pub place_of : TypedExpr → ℕ
place_of e = place_layer (layer_of e)

abbrev pub field_layer : TypedSuffixNode-F TypedNode TypedSuffixNode TypedEntry TypedExpr TypedLink TypedSuffix → List ℕ
field_layer (made.Field n) = n ∷ []
field_layer l = []

unfoldable pub field_in : TypedSuffix → List ℕ
field_in s = field_layer (out-TypedSuffixNode (out-TypedSuffix s).node)

abbrev pub fields_in : List TypedSuffix → List ℕ
fields_in suffixes = flat_map field_in suffixes

abbrev pub path_layer : Layer → Reached
path_layer (made.Postfix first suffixes) = record { place = place_of first; fields = fields_in suffixes }
path_layer l = record { place = 0; fields = [] }

-- a path: the place of its bound name, and the numbers of its fields
unfoldable pub path_in : TypedExpr → Reached
path_in e = path_layer (layer_of e)

-- what is evaluated at the `on`, and its place among the operands of the site
unfoldable pub placed : TypedExpr → Sofar → Went ℕ
placed typed s = went (short (length s.operands)) (record s { operands = s.operands ++ typed ∷ [] })

abbrev pub bound : Reached → Operand
bound r = operand.Bound r.place r.fields

abbrev pub signed : Naming → Reached → ℕ → Operand
signed naming.Minus r n = operand.BoundMinus r.place r.fields n
signed m r n = operand.BoundPlus r.place r.fields n

abbrev pub last_of : List TypedLink → Option TypedLink
last_of [] = None
last_of (link ∷ []) = Some link
last_of (link ∷ next ∷ links) = last_of (next ∷ links)

unfoldable pub added_operand : Naming → Reached → Option TypedLink → Sofar → Went Operand
added_operand n r (Some link) s = placed (out-TypedLink link).operand s >>= λ at s. went (signed n r at) s
added_operand n r None s = went (bound r) s

abbrev pub links_operand : Naming → Reached → List TypedLink → Sofar → Went Operand
links_operand n r links s = added_operand n r (last_of links) s

abbrev pub sum_layer : Naming → Layer → Sofar → Went Operand
sum_layer n (made.Sum first links) s = links_operand n (path_in first) links s
sum_layer n l s = went (bound (record { place = 0; fields = [] })) s

unfoldable pub sum_operand : Naming → TypedExpr → Sofar → Went Operand
sum_operand n typed s = sum_layer n (layer_of typed) s

unfoldable pub given_operand : TypedExpr → Sofar → Went Operand
given_operand typed s = placed typed s >>= λ at s. went (operand.Given at) s

unfoldable pub operand_of : Naming → TypedExpr → Sofar → Went Operand
operand_of naming.Path typed s = went (bound (path_in typed)) s
operand_of naming.Plus typed s = sum_operand naming.Plus typed s
operand_of naming.Minus typed s = sum_operand naming.Minus typed s
operand_of n typed s = given_operand typed s

abbrev pub is_integer_layer : Shape-F Shape → Bool
is_integer_layer layer.Integer = true
is_integer_layer l = false

unfoldable pub is_integer : Shape → Bool
is_integer s = is_integer_layer (out-Shape s)

module _ (table : Table) (scope : Scope) (inner : Scope) where
  unfoldable pub named_operand : Naming → Shape → Expr → Sofar → Went Operand
  named_operand n shape tree s = given (named_value table inner n shape tree) s >>= λ typed s. operand_of n typed s

  -- an operand that is compared with a field of this shape
  unfoldable pub operand_read : List (List ℕ) → Shape → Expr → Sofar → Went Operand
  operand_read left shape tree s = sum_read (out-Expr tree).spot s >>= λ _ s. named_operand (naming_of scope inner left (is_integer shape) tree) shape tree s
