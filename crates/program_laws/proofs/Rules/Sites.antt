-- Sites that keep the rules by themselves.
use Rattle.std.proofs.Common.{◌≡◌, ◌<◌, ◌≤◌}
use Rattle.std.specs.Prelude.{◌⊎◌}
use Rattle.program_laws.proofs.Common.{ℕ, suc, length, map, Some, true, arith, slice_get, list_all, inl, inr, cases_lt, Program, Site, special_in, term_lawful}
use Rattle.typed_program.specs.Courses.{ascend, callback_sees, runs}
use Rattle.typed_program.specs.Mentions.{names_captured}
use Rattle.typed_program.specs.Programs.{callback_names}
use Rattle.typed_program.specs.Shapes.{is_event}
use Rattle.typed_program.specs.Sites.{gives_value}

-- the site with this number keeps the rules
pub record SiteKeeps (program : Program) (n : ℕ) (site : Site) : Type 0 where
  pub operands : list_all (gives_value program.types) site.operands ≡ true
  pub bound : list_all (λ b. is_event b.shape) site.bound ≡ true
  pub term : term_lawful program.types (length site.bound) site.term ≡ true
  pub ascends : ascend (map (λ c. c.number) site.captured) ≡ true
  pub named : names_captured program.sites site ≡ true
  pub callback : runs (callback_names program site) program.sites (special_in program site.monitor) (suc n) site.body (callback_sees site) ≡ true

-- the sites of the program with these numbers keep the rules
abbrev pub SitesKeep : Program → ℕ → ℕ → Type 0
SitesKeep program from to = (i : ℕ) (x : Site) → from ≤ i → i < to → slice_get program.sites i ≡ Some x → SiteKeeps program i x

keep_near : (program : Program) (a b c i : ℕ) (x : Site) → SitesKeep program a b → SitesKeep program b c → a ≤ i → i < c → slice_get program.sites i ≡ Some x → ((i < b) ⊎ (b ≤ i)) → SiteKeeps program i x
keep_near program a b c i x h k from to e (inl lt) = h i x from lt e
keep_near program a b c i x h k from to e (inr le) = k i x le to e

-- those of two parts
pub keep_both : (program : Program) (a b c : ℕ) → SitesKeep program a b → SitesKeep program b c → SitesKeep program a c
keep_both program a b c h k i x from to e = keep_near program a b c i x h k from to e (cases_lt i b)

-- where there are none
pub keep_none : (program : Program) (a : ℕ) → SitesKeep program a a
keep_none program a i x from to e = absurd (omega arith)
