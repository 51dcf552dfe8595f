-- Durations: whole seconds, or seconds and tenths of a second.
use Rattle.std.specs.Prelude.{ℕ, pos, ◌+◌, ◌*◌, ◌-◌, ◌==◌, Bool, ◌||◌, not, if◌then◌else◌, nat_lt, List, [], ◌∷◌, length, take, drop, Option, Some, None}
use Rattle.std.specs.List.{list_any, position}
use Rattle.epl_values.specs.declared.shape.Shape.TheVariants as shape
use Rattle.epl_tree.specs.declared.event.Duration.{Duration}
use Rattle.epl_tree.specs.declared.event.DurationNode.{DurationNode}
use Rattle.epl_tree.specs.declared.event.DurationNode.TheVariants as node
use Rattle.typed_program.specs.declared.expression.TypedExpr.{TypedExpr, roll-TypedExpr}
use Rattle.typed_program.specs.declared.expression.TypedNode.TheVariants as made
use Rattle.typed_program.specs.declared.term.Duration.{Duration as Timed}
use Rattle.typed_program.specs.Terms.{is_tenths}
use Rattle.type_table.specs.declared.scope.Scope.{Scope}
use Rattle.type_table.specs.declared.table.Table.{Table}
use Rattle.span_text.specs.declared.spot.Spot.{Spot}
use Rattle.type_table.specs.Found.{Found, told}
use Rattle.listener_check.specs.declared.sofar.Sofar.{Sofar}
use Rattle.listener_check.specs.Limits.{sum_read}
use Rattle.listener_check.specs.Operands.{placed}
use Rattle.listener_check.specs.Values.{duration_naming, named_value}
use Rattle.listener_check.specs.Went.{Went, given, went, ◌>>=◌}

-- the number that digits write behind those of another
abbrev pub number_after : ℕ → List ℕ → ℕ
number_after n [] = n
number_after n (c ∷ cs) = number_after (n * 10 + (c - 48)) cs

-- the place of the point
unfoldable pub point_in : List ℕ → Option ℕ
point_in text = position (λ c. c == 46) text

abbrev pub first_digit : List ℕ → ℕ
first_digit [] = 0
first_digit (c ∷ cs) = c - 48

abbrev pub is_zero : ℕ → Bool
is_zero c = c == 48

-- 11 for more than 12 digits before the point, or another digit than 0 past the first one behind it
abbrev pub digit_codes : List ℕ → List ℕ → List ℕ
digit_codes whole rest = if nat_lt 12 (length whole) || list_any (λ c. not (is_zero c)) (drop 1 rest) then 11 ∷ [] else []

abbrev pub tenths_of : List ℕ → List ℕ → ℕ
tenths_of whole rest = number_after 0 whole * 10 + first_digit rest

abbrev pub tenths : ℕ → TypedExpr
tenths n = roll-TypedExpr record { shape = Some shape.Integer; node = made.Tenths (pos n) }

unfoldable pub digits_found : Spot → List ℕ → List ℕ → Found TypedExpr
digits_found spot whole rest = record { faults = told spot (digit_codes whole rest); part = tenths (tenths_of whole rest) }

-- with the digits before the point and those behind it
abbrev pub decimal_by : Spot → List ℕ → Option ℕ → Found TypedExpr
decimal_by spot text (Some at) = digits_found spot (take at text) (drop (at + 1) text)
decimal_by spot text None = digits_found spot text []

abbrev pub decimal_found : Spot → List ℕ → Found TypedExpr
decimal_found spot text = decimal_by spot text (point_in text)

-- its operand among those of the site, and whether that is a literal of tenths
unfoldable pub timed : TypedExpr → Sofar → Went Timed
timed typed s = placed typed s >>= λ at s. went (record { operand = at; tenths = is_tenths typed }) s

module _ (table : Table) (scope : Scope) (inner : Scope) where
  unfoldable pub length_found : Spot → DurationNode → Found TypedExpr
  length_found spot (node.Decimal text) = decimal_found spot text
  length_found spot (node.Seconds e) = named_value table inner (duration_naming scope inner e) shape.Integer e

  -- a duration, with its place among the operands of the site
  unfoldable pub duration_read : Duration → Sofar → Went Timed
  duration_read d s = sum_read d.spot s >>= λ _ s. given (length_found d.spot d.node) s >>= λ typed s. timed typed s
