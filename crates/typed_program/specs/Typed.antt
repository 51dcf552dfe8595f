-- Typed programs: what each layer below the checker may count on.
use Rattle.std.specs.Prelude.{Some, slice_get, ◌≡◌, ℕ}
use Rattle.typed_program.specs.Common.{true}
use Rattle.typed_program.specs.declared.program.Program.{Program}
use Rattle.event_types.specs.Types.{HasDistinctNames, HasNoCycle}
use Rattle.typed_program.specs.Programs.{HasShapes}
use Rattle.typed_program.specs.Rules.{KeepsRules}
use Rattle.typed_program.specs.Sites.{LawfulSite}
use Rattle.typed_program.specs.declared.program.Site.{Site}
use Rattle.typed_program.specs.Limits.{within_limits}

-- numbers name what is there, and expressions, locals and globals have their shapes; names, paths, changes, ends and event
-- expressions keep the rules; each site is lawful by itself; event types have different names, and none contains itself; the
-- limits hold
pub record Typed (program : Program) : Type 0 where
  pub shapes : HasShapes program
  pub rules : KeepsRules program
  pub sites : (n : ℕ) (site : Site) → slice_get program.sites n ≡ Some site → LawfulSite program n site
  pub distinct : HasDistinctNames program.types
  pub no_cycle : HasNoCycle program.types
  pub limits : within_limits program ≡ true
