-- An event expression under way: how it begins at its site, how a stimulus moves it, and what it shows.
use Rattle.term_meaning.specs.Common.{ℕ, ℤ, List, [], EventShape, Value, Site, Progress, Stepped, Stimulus}
use Rattle.term_meaning.specs.Operands.{Setting}
use Rattle.term_meaning.specs.Patterns.{pattern_of}
use Rattle.term_meaning.specs.Start.{start_of}
use Rattle.term_meaning.specs.Step.{step_of}

-- the operands over which it was started, what it has come to, and how many leaves began, which is the number of the next one
pub record UnderWay : Type 0 where
  pub operands : List Value
  pub progress : Progress
  pub next : ℕ

-- what the event expression of a site stands over, at a time
abbrev pub setting_of : List EventShape → Site → List Value → ℤ → Setting
setting_of types site operands now = record { types = types; site = site; operands = operands; now = now }

-- the event expression of the setting's site, as it begins
abbrev pub begun_in : Setting → UnderWay
begun_in s = let a = start_of s (pattern_of s.site.term) [] 0 in record { operands = s.operands; progress = a.progress; next = a.next }

-- what a stimulus does to it
abbrev pub stepped_in : Setting → Stimulus → UnderWay → Stepped
stepped_in s stimulus u = step_of s stimulus u.progress (pattern_of s.site.term) [] u.next

-- what is left of it then
abbrev pub left_of : UnderWay → Stepped → UnderWay
left_of u a = record u { progress = a.left; next = a.next }
