-- Schedule files: what their lines pick.
use Rattle.std.specs.Prelude.{◌≡◌, ℕ, ◌+◌, ◌++◌, List, [], ◌∷◌, length, map, Bool, true, false, ◌||◌, ◌==◌, Option, Some, None, Result, Ok, Err}
use Rattle.std.specs.List.{filter, flat_map, slice_split}
use Rattle.std.specs.Option.{option_to_list}
use Rattle.file_lines.specs.Lines.{lines_of}
use Rattle.schedule_picks.specs.Numbers.{number_in}
use Rattle.schedule_picks.specs.declared.line.Pick.{Pick}
use Rattle.schedule_picks.specs.declared.fault.PicksFault.{PicksFault}
use Rattle.schedule_picks.specs.declared.fault.PicksFault.TheVariants as fault

-- spaces and tabs
abbrev pub is_blank : ℕ → Bool
is_blank b = b == 32 || b == 9

-- something, and not nothing
abbrev pub is_word : List ℕ → Bool
is_word [] = false
is_word (b ∷ bs) = true

-- the words of a line: what stands between its blanks
abbrev pub words_of : List ℕ → List (List ℕ)
words_of line = filter is_word (slice_split is_blank line)

-- what the numbers of a line pick: nothing where there are none, else an actor, and the sender whose entry it handles, if one is named
abbrev pub picked : List (Option ℕ) → Option (Option Pick)
picked [] = Some None
picked (Some actor ∷ []) = Some (Some (record { actor = actor; sender = None }))
picked (Some actor ∷ Some sender ∷ []) = Some (Some (record { actor = actor; sender = Some sender }))
picked numbers = None

-- what a line picks, if it is in its form: its words are numbers up to that of the contexts, at most two
abbrev pub pick_in : ℕ → List ℕ → Option (Option Pick)
pick_in contexts line = picked (map (number_in contexts) (words_of line))

-- lines that are all in their form, and the picks of those that pick
abbrev pub ArePicks : ℕ → List (List ℕ) → List Pick → Type 0
ArePicks contexts lines picks = (meant : List (Option Pick)) × (map (pick_in contexts) lines ≡ map Some meant) × (picks ≡ flat_map option_to_list meant)

-- the line with this number, from 1, isn't in its form, and all lines before it are in theirs
pub record IsFirstWrong (contexts : ℕ) (lines : List (List ℕ)) (number : ℕ) : Type 0 where
  pub before : List (List ℕ)
  pub line : List ℕ
  pub behind : List (List ℕ)
  pub cut : lines ≡ before ++ line ∷ behind
  pub count : number ≡ length before + 1
  pub right : (picks : List Pick) × ArePicks contexts before picks
  pub wrong : pick_in contexts line ≡ None

-- the picks of a schedule file, or its first line that isn't in its form; want of memory is free
abbrev pub GivesPicks : ℕ → List ℕ → Result (List Pick) PicksFault → Type 0
GivesPicks contexts bytes (Ok picks) = ArePicks contexts (lines_of bytes) picks
GivesPicks contexts bytes (Err (fault.Line number)) = IsFirstWrong contexts (lines_of bytes) number
GivesPicks contexts bytes (Err fault.Memory) = Unit {0}
