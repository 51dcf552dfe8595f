-- Readers of further forms over tokens.
use Rattle.std.specs.Prelude.{ℕ, if◌then◌else◌, List, Option, Some, None, bytes_eq}
use Rattle.grammar_forms.specs.Rule.{Row, has}
use Rattle.grammar_forms.specs.Reader.{Reader, made, and_then, and_many, item_of}
use Rattle.epl_lexer.specs.declared.token.Token.{Token}
use Rattle.epl_tree.specs.declared.statement.Level.{Level}
use Rattle.epl_tree.specs.declared.statement.Level.TheVariants as level
use Rattle.primary_parser.specs.Words.{brace, closing_brace}
use Rattle.primary_parser.specs.Reader.{name}
use Rattle.command_parser.specs.Words.{crit_letters, fatal_letters, error_letters, warn_letters, info_letters, debug_letters, trace_letters}

-- One before an item of a class.
unfoldable pub before : {A : Type 0} → Row → List ℕ → Reader A → Reader A
before row set r at = made (λ x. x.0) (and_then (r at) (item_of row set))

-- As many as there are between braces.
unfoldable pub braced : {A : Type 0} → Row → Reader A → Reader (List A)
braced row r at = made (λ x. x.0.1) (and_then (and_many row.len (item_of row brace at) r) (item_of row closing_brace))

-- What was read, unless something else stands there.
abbrev pub unless : {A : Type 0} → Option (Unit {0} × ℕ) → Option (A × ℕ) → Option (A × ℕ)
unless None o = o
unless (Some x) o = None

-- What was read, unless something else stands behind it.
abbrev pub unfollowed : {A : Type 0} → Reader (Unit {0}) → Option (A × ℕ) → Option (A × ℕ)
unfollowed q None = None
unfollowed q (Some x) = unless (q x.1) (Some x)

-- The level that is written so.
unfoldable pub level_of : List ℕ → Option Level
level_of text =
    if bytes_eq text crit_letters then Some level.Crit
    else (if bytes_eq text fatal_letters then Some level.Fatal
    else (if bytes_eq text error_letters then Some level.Error
    else (if bytes_eq text warn_letters then Some level.Warn
    else (if bytes_eq text info_letters then Some level.Info
    else (if bytes_eq text debug_letters then Some level.Debug
    else (if bytes_eq text trace_letters then Some level.Trace else None))))))

-- A level with the place behind it.
abbrev pub with_end : ℕ → Option Level → Option (Level × ℕ)
with_end end None = None
with_end end (Some l) = Some (l, end)

-- The level that a name is.
abbrev pub level_by : Option (List ℕ × ℕ) → Option (Level × ℕ)
level_by None = None
level_by (Some x) = with_end x.1 (level_of x.0)

unfoldable pub level_at : List Token → Reader Level
level_at tokens at = level_by (name tokens at)
