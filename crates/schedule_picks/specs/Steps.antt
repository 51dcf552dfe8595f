-- What the steps of reading a schedule file give.
use Rattle.std.specs.Prelude.{◌≡◌, ◌<◌, ℕ, ◌++◌, List, length, false, Option, Some, None, Result, Ok, Err, get_or}
use Rattle.std.specs.Option.{option_to_list}
use Rattle.schedule_picks.specs.Picks.{is_blank, words_of, pick_in}
use Rattle.schedule_picks.specs.declared.line.Pick.{Pick}
use Rattle.schedule_picks.specs.declared.fault.PicksFault.{PicksFault}
use Rattle.schedule_picks.specs.declared.fault.PicksFault.TheVariants as fault

-- a rest of a text with the same words, which begins with one where there is something
pub record Parts (rest text : List ℕ) : Type 0 where
  pub words : words_of text ≡ words_of rest
  pub begins : 0 < length rest → is_blank (get_or rest 0 0) ≡ false

-- the line's pick, if it has one, comes behind the picks so far, or the line isn't in its form
abbrev pub TakesLine : {T : Type 0} → ℕ → List ℕ → ℕ → List Pick → List Pick → Result T PicksFault → Type 0
TakesLine contexts line number old new (Ok x) = (meant : Option Pick) × (pick_in contexts line ≡ Some meant) × (new ≡ old ++ option_to_list meant)
TakesLine contexts line number old new (Err (fault.Line n)) = (n ≡ number) × (pick_in contexts line ≡ None)
TakesLine contexts line number old new (Err fault.Memory) = Unit {0}
