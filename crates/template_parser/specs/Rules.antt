-- A further form, and its reader.
use Rattle.std.specs.Prelude.{ℕ, Option, Some, None}
use Rattle.grammar_forms.specs.Rule.{Form}

-- One where no tree of another form begins.
abbrev pub Unless : {A B : Type 0} → Form B → Form A → Form A
Unless {A} {B} Q P a at end = ((b : B) (stop : ℕ) → Q b at stop → ⊥) × P a at end

-- What was read, where none of the other was.
abbrev pub unless : {A B : Type 0} → Option (B × ℕ) → Option (A × ℕ) → Option (A × ℕ)
unless None o = o
unless (Some y) o = None
