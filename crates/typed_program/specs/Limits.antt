-- The limits of a program: event types, monitors, fields, parameters, bodies.
use Rattle.std.specs.Prelude.{◌+◌, ◌&&◌, ◌∷◌}
use Rattle.typed_program.specs.Common.{ℕ, zero, suc, Bool, true, false, nat_le, List, [], length, Option, Some, None, slice_get, list_all, Shape, Shape-F, out-Shape, EventShape}
use Rattle.std.specs.List.{sum_by}
use Rattle.epl_values.specs.declared.shape.Shape.TheOpen as layer
use Rattle.typed_program.specs.declared.program.Program.{Program}
use Rattle.typed_program.specs.declared.program.Action.{Action}
use Rattle.typed_program.specs.Expressions.{fields_at}

-- a field counts 1, and for an event type what its fields count
abbrev pub field_width : (ℕ → ℕ) → Shape-F Shape → ℕ
field_width width (layer.Event n) = 1 + width n
field_width width s = 1

-- the fields of an event type, nested ones counted through, as deep as event types nest without a cycle
unfoldable pub width : ℕ → List EventShape → ℕ → ℕ
width zero types n = 0
width (suc depth) types n = sum_by (λ f. field_width (width depth types) (out-Shape f.shape)) (fields_at (slice_get types n))

abbrev pub is_narrow : List EventShape → ℕ → EventShape → Bool
is_narrow types n event = nat_le (length event.fields) 64 && nat_le (width (length types) types n) 256

-- event types whose numbers begin with this one
abbrev pub are_narrow : List EventShape → ℕ → List EventShape → Bool
are_narrow types n [] = true
are_narrow types n (event ∷ events) = is_narrow types n event && are_narrow types (suc n) events

abbrev pub has_few_params : Action → Bool
has_few_params action = nat_le (length action.params) 64

-- 1,001 monitors, since one may be added to those that are written
abbrev pub within_limits : Program → Bool
within_limits program =
    nat_le (length program.types) 1000 && nat_le (length program.monitors) 1001
    && are_narrow program.types 0 program.types
    && list_all has_few_params program.actions
    && nat_le (length program.actions + length program.sites) 65535
