-- The running copies of a `->`, of which some have been stepped at their places.
use Rattle.std.specs.Prelude.{◌++◌, ◌||◌, ℕ, List, [], length, drop, false, slice_set}
use Rattle.term_meaning.specs.declared.progress.Ran.{Ran}
use Rattle.term_meaning.specs.declared.progress.Running.{Running}
use Rattle.term_meaning.specs.declared.progress.Stepped.{Stepped}
use Rattle.term_meaning.specs.declared.stimulus.Binding.{Binding}
use Rattle.term_meaning.specs.Step.{behind, copy_of}

-- none of these copies has been stepped
abbrev pub fresh_ran : List Running → ℕ → Ran
fresh_ran copies next = record { completions = []; copies = copies; next = next; fitted = false }

-- the copy at this place has come to what its step left, and what it gave stands behind
abbrev pub ran_at : List Binding → Ran → ℕ → List Binding → Stepped → Ran
ran_at seen ran at bindings a = record {
  completions = ran.completions ++ behind (drop (length seen) bindings) a.completions;
  copies = slice_set ran.copies at (copy_of bindings a.left);
  next = a.next;
  fitted = ran.fitted || a.fitted;
}
