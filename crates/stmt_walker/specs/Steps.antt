-- Which steps lead on to a part of a value, and which methods change their object.
use Rattle.std.specs.Prelude.{Bool, true, false}
use Rattle.typed_program.specs.declared.expression.Method.{Method}
use Rattle.typed_program.specs.declared.expression.Method.TheVariants as method
use Rattle.typed_program.specs.declared.expression.TypedEntry.{TypedEntry}
use Rattle.typed_program.specs.declared.expression.TypedExpr.{TypedExpr}
use Rattle.typed_program.specs.declared.expression.TypedLink.{TypedLink}
use Rattle.typed_program.specs.declared.expression.TypedNode.{TypedNode}
use Rattle.typed_program.specs.declared.expression.TypedSuffix.{TypedSuffix, out-TypedSuffix}
use Rattle.typed_program.specs.declared.expression.TypedSuffixNode.{TypedSuffixNode, TypedSuffixNode-F, out-TypedSuffixNode}
use Rattle.typed_program.specs.declared.expression.TypedNode.TheOpen as layer

-- whether a method changes its object
abbrev pub changes : Method → Bool
changes method.Append = true
changes method.Remove = true
changes method.Clear = true
changes method.Add = true
changes m = false

-- a field, an element and an entry lead on to a part, a method doesn't
abbrev pub leads_on : TypedSuffixNode-F TypedNode TypedSuffixNode TypedEntry TypedExpr TypedLink TypedSuffix → Bool
leads_on (layer.Field n) = true
leads_on (layer.Item e) = true
leads_on (layer.Key e) = true
leads_on (layer.Method m es) = false

-- whether a step leads on to a part
abbrev pub is_move : TypedSuffix → Bool
is_move u = leads_on (out-TypedSuffixNode (out-TypedSuffix u).node)
