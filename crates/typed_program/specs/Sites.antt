-- Sites that are as they should be by themselves. That captured names are visible around an `on`, with these shapes, and that
-- operands keep the rules there, is asked of the body in which it stands.
use Rattle.std.specs.Prelude.{◌≡◌}
use Rattle.typed_program.specs.Common.{ℕ, suc, Bool, true, List, length, map, list_all, EventShape}
use Rattle.typed_program.specs.declared.expression.TypedExpr.{TypedExpr}
use Rattle.typed_program.specs.declared.program.Program.{Program}
use Rattle.typed_program.specs.declared.program.Site.{Site}
use Rattle.typed_program.specs.Shapes.{is_event, stands}
use Rattle.typed_program.specs.Expressions.{if_known, shape_of}
use Rattle.typed_program.specs.Programs.{callback_names, site_so}
use Rattle.typed_program.specs.Courses.{ascend, callback_sees, runs}
use Rattle.typed_program.specs.Rules.{special_in}
use Rattle.typed_program.specs.TermRules.{term_lawful}
use Rattle.typed_program.specs.Mentions.{names_captured}

-- an operand of a site gives a value, of a shape that is there
abbrev pub gives_value : List EventShape → TypedExpr → Bool
gives_value types e = if_known (stands types) (shape_of e)

-- the site with this number by itself
pub record LawfulSite (program : Program) (n : ℕ) (site : Site) : Type 0 where
  -- its monitor is there, and its event expression and its callback have their shapes
  pub shapes : site_so program site ≡ true
  -- its operands give values
  pub operands : list_all (gives_value program.types) site.operands ≡ true
  -- what it binds are events
  pub bound : list_all (λ b. is_event b.shape) site.bound ≡ true
  -- its event expression keeps the rules
  pub term : term_lawful program.types (length site.bound) site.term ≡ true
  -- captured names ascend by their numbers
  pub ascends : ascend (map (λ c. c.number) site.captured) ≡ true
  -- its callback names each of them
  pub named : names_captured program.sites site ≡ true
  -- its callback keeps the rules where it sees captured and bound names, and the sites in it stand behind this one
  pub callback : runs (callback_names program site) program.sites (special_in program site.monitor) (suc n) site.body (callback_sees site) ≡ true
