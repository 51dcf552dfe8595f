-- What a visible name stands for.
use Rattle.std.specs.Prelude.{ℕ, false, if◌then◌else◌, List, Option, Some, None, slice_get}
use Rattle.span_text.specs.declared.spot.Spot.{Spot}
use Rattle.epl_values.specs.declared.shape.Shape.{Shape}
use Rattle.typed_program.specs.declared.expression.TypedNode.{TypedNode}
use Rattle.typed_program.specs.declared.expression.TypedNode.TheVariants as made
use Rattle.type_table.specs.declared.scope.Scope.{Scope}
use Rattle.type_table.specs.declared.scope.Seen.{Seen}
use Rattle.type_table.specs.declared.scope.SeenKind.{SeenKind}
use Rattle.type_table.specs.declared.scope.SeenKind.TheVariants as kind
use Rattle.type_table.specs.Found.{Found}
use Rattle.type_table.specs.Table.{seen_of}
use Rattle.expr_rules.specs.declared.placed.Gives.TheVariants as gives
use Rattle.expr_rules.specs.declared.placed.Root.{Root}
use Rattle.expr_rules.specs.declared.placed.Judged.{Judged}
use Rattle.expr_rules.specs.Asked.{Demand}
use Rattle.expr_rules.specs.Places.{stands, known}
use Rattle.expr_rules.specs.Shapes.{is_known_reference}

abbrev pub item_at : {A : Type 0} → List A → Option ℕ → Option A
item_at items None = None
item_at items (Some n) = slice_get items n

-- the visible name of that text
abbrev pub seen : Scope → List ℕ → Option Seen
seen scope name = item_at scope.names (seen_of scope name)

-- 14: a callback names an outer name of reference type
abbrev pub outer_code : SeenKind → Option Shape → Option ℕ
outer_code kind.OuterLocal s = if is_known_reference s then Some 14 else None
outer_code kind.OuterFixed s = if is_known_reference s then Some 14 else None
outer_code k s = None

abbrev pub variable : SeenKind → ℕ → TypedNode
variable kind.Global n = made.Global n
variable k n = made.Local n

-- a variable from which 64 index steps may lead to what is changed
abbrev pub root_of : Seen → Root
root_of s = record { kind = s.kind; reference = is_known_reference s.shape; left = 64 }

-- a name in an expression; 6 where it isn't visible
abbrev pub name_found : Spot → Demand → Option Seen → Found Judged
name_found spot demand (Some s) = stands spot demand (outer_code s.kind s.shape) (Some (root_of s)) (known s.shape) (variable s.kind s.number)
name_found spot demand None = stands spot demand (Some 6) None gives.Unknown (made.Boolean false)
