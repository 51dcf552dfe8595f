-- The globals of the monitor that a body begins.
use Rattle.std.proofs.Common.{◌≡◌, ℕ, [], Option, Some, None, sym}
use Rattle.std.specs.Prelude.{◌==◌, MatchOption}
use Rattle.std.specs.List.{find}
use Rattle.std.specs.Option.{option_map}
use denote.Ref.{Bor}
use Rattle.typed_program.specs.declared.program.Program.{Program}
use Rattle.typed_program.specs.declared.program.Monitor.{Monitor}
use Rattle.body_meaning.specs.Acts.{begun_by}
use Rattle.walk_laws.proofs.Beginning.{begun_found, begun_none}

-- what is found by the number of a body
pub begun_seen : (program : Program) (body : ℕ) (o : Option (Bor Monitor)) → option_map (λ m. m.now) o ≡ find (λ (m : Monitor). m.onload == body) program.monitors → MatchOption o (begun_by program body program.monitors ≡ []) (λ m. begun_by program body program.monitors ≡ m.now.globals)
begun_seen program body None is = begun_none program body program.monitors (sym is)
begun_seen program body (Some m) is = begun_found program body program.monitors m.now (sym is)
