-- The codes of a node at its place.
use Rattle.std.specs.Prelude.{ℕ, Bool, true, false, if◌then◌else◌, List, [], ◌∷◌, ◌++◌, Option, Some, None, not, ◌&&◌}
use Rattle.span_text.specs.declared.spot.Spot.{Spot}
use Rattle.epl_values.specs.declared.shape.Shape.{Shape}
use Rattle.typed_program.specs.declared.expression.TypedExpr.{TypedExpr, out-TypedExpr, roll-TypedExpr}
use Rattle.typed_program.specs.declared.expression.TypedNode.{TypedNode}
use Rattle.type_table.specs.declared.scope.SeenKind.{SeenKind}
use Rattle.type_table.specs.declared.scope.SeenKind.TheVariants as kind
use Rattle.type_table.specs.Found.{Found}
use Rattle.typed_program.specs.Shapes.{is_reference, is_scalar}
use Rattle.expr_rules.specs.declared.asked.Paths.{Paths}
use Rattle.expr_rules.specs.declared.asked.Paths.TheVariants as paths
use Rattle.expr_rules.specs.declared.placed.Gives.{Gives}
use Rattle.expr_rules.specs.declared.placed.Gives.TheVariants as gives
use Rattle.expr_rules.specs.declared.placed.Root.{Root}
use Rattle.expr_rules.specs.declared.placed.Judged.{Judged}
use Rattle.expr_rules.specs.Asked.{Demand, Wish, Statement, Value, Unknown, Exactly, Key, Event, Sequence, Channel}
use Rattle.typed_program.specs.Shapes.{same, is_event, is_sequence, is_channel}
use Rattle.expr_rules.specs.Then.{node, and_then, sound, codes_of}

-- whether a shape is one that is asked
abbrev pub fits : Wish → Shape → Bool
fits Statement s = true
fits Value s = true
fits Unknown s = true
fits (Exactly wanted) s = same wanted s
fits (Key None) s = true
fits (Key (Some wanted)) s = same wanted s
fits Event s = is_event s
fits Sequence s = is_sequence s
fits Channel s = is_channel s

abbrev pub is_key : Wish → Bool
is_key (Key wanted) = true
is_key wish = false

abbrev pub is_global : SeenKind → Bool
is_global kind.Global = true
is_global k = false

-- whether a path from that variable may stand
abbrev pub may_stand : Paths → Option Root → Bool
may_stand permitted None = true
may_stand paths.Free (Some root) = true
may_stand paths.NotOfGlobals (Some root) = not (is_global root.kind)
may_stand paths.Refused (Some root) = false

-- 3: a key that isn't scalar
abbrev pub key_codes : Wish → Shape → List ℕ
key_codes wish s = if is_key wish && not (is_scalar s) then 3 ∷ [] else []

-- 9: another shape than is asked
abbrev pub misfit_codes : Wish → Shape → List ℕ
misfit_codes wish s = if fits wish s then [] else 9 ∷ []

-- 13: a path of reference type
abbrev pub path_codes : Paths → Option Root → Shape → List ℕ
path_codes permitted root s = if may_stand permitted root then [] else (if is_reference s then 13 ∷ [] else [])

-- 9: no value where one is asked
abbrev pub void_codes : Wish → List ℕ
void_codes Statement = []
void_codes wish = 9 ∷ []

abbrev pub given_codes : Demand → Option Root → Gives → List ℕ
given_codes demand root gives.Nothing = void_codes demand.wish
given_codes demand root gives.Unknown = []
given_codes demand root (gives.Value s) = key_codes demand.wish s ++ misfit_codes demand.wish s ++ path_codes demand.paths root s

-- a co-assignment, or a parameter or loop variable of reference type, an outer one too: it and what is reached from it stay
abbrev pub kind_is_fixed : SeenKind → Bool → Bool
kind_is_fixed kind.Bound reference = true
kind_is_fixed kind.Global reference = false
kind_is_fixed kind.Local reference = false
kind_is_fixed kind.OuterLocal reference = false
kind_is_fixed k reference = reference

abbrev pub is_fixed : Root → Bool
is_fixed root = kind_is_fixed root.kind root.reference

-- 12: a change of what stays
abbrev pub change_code : Bool → Option Root → Option ℕ
change_code changes None = None
change_code changes (Some root) = if changes && is_fixed root then Some 12 else None

-- 18: a co-assignment is named where none may be
abbrev pub astray_code : Bool → Option ℕ
astray_code astray = if astray then Some 18 else None

abbrev pub place_codes : Demand → Option Root → Gives → List ℕ
place_codes demand root given = codes_of (change_code demand.assigned root) ++ (codes_of (astray_code demand.astray) ++ given_codes demand root given)

abbrev pub shape_given : Gives → Option Shape
shape_given gives.Nothing = None
shape_given gives.Unknown = None
shape_given (gives.Value s) = Some s

abbrev pub known : Option Shape → Gives
known (Some s) = gives.Value s
known None = gives.Unknown

-- a node at its place, with the lowest of its own codes; what it gives
unfoldable pub placed : Spot → Demand → Option ℕ → Option Root → Gives → Found (Option Shape)
placed spot demand own root given = node spot (codes_of own ++ place_codes demand root given) (shape_given given)

abbrev pub judged : Option Root → TypedNode → Option Shape → Found Judged
judged root made s = sound (record { typed = roll-TypedExpr record { shape = s; node = made }; root = root; signed = false })

-- an expression at its place
abbrev pub stands : Spot → Demand → Option ℕ → Option Root → Gives → TypedNode → Found Judged
stands spot demand own root given made = and_then (placed spot demand own root given) (judged root made)

-- what stands in brackets: its faults are told inside
unfoldable pub group_of : Spot → Demand → Judged → Found Judged
group_of spot demand j = node spot (codes_of (astray_code demand.astray)) j

abbrev pub shape_of_expr : TypedExpr → Option Shape
shape_of_expr e = (out-TypedExpr e).shape
