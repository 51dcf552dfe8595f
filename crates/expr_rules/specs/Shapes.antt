-- What the rules ask about shapes that may not be known.
use Rattle.std.specs.Prelude.{Bool, false, Option, Some, None}
use Rattle.epl_values.specs.declared.shape.Shape.{Shape}
use Rattle.typed_program.specs.Shapes.{is_reference}

abbrev pub is_known_reference : Option Shape → Bool
is_known_reference (Some s) = is_reference s
is_known_reference None = false
