-- How an event expression begins: one case for each form.
use Rattle.term_meaning.specs.Common.{ℕ, List, [], None, TemplateShape, Binding, Leaf, Progress, Sides, Started}
use Rattle.std.specs.Prelude.{◌+◌}
use Rattle.std.specs.Option.{option_map}
use Rattle.term_meaning.specs.declared.progress.Progress.TheVariants as progress
use Rattle.term_meaning.specs.declared.progress.Sides.{roll-Sides}
use Rattle.term_meaning.specs.Operands.{Setting, time_after}
use Rattle.term_meaning.specs.Patterns.{Pattern}
use Rattle.term_meaning.specs.Patterns as pattern
use Rattle.term_meaning.specs.Spans.{template_spans}

-- a start, given what is bound so far and the number of the next leaf
abbrev pub Start : Type 0
Start = List Binding → ℕ → Started

abbrev pub begun : Progress → ℕ → Started
begun p next = record { progress = p; next = next }

-- what was started, inside a form
abbrev pub inside : (Progress → Progress) → Started → Started
inside form a = begun (form a.progress) a.next

abbrev pub sides_of : Progress → Progress → Sides
sides_of x y = roll-Sides (record { left = x; right = y })

-- two sides that were started, inside a form
abbrev pub inside_both : (Sides → Progress) → Started → Started → Started
inside_both form a b = begun (form (sides_of a.progress b.progress)) b.next

-- both sides are started, the left first
abbrev pub start_both : (Sides → Progress) → Start → Start → Start
start_both form x y seen next = let a = x seen next in inside_both form a (y seen a.next)

-- an active leaf of a template
abbrev pub leaf_of : Setting → TemplateShape → List Binding → ℕ → Leaf
leaf_of s t seen number = record {
  number = number;
  spans = template_spans s seen t;
  event = t.event;
  mode = t.mode;
  until = option_map (time_after s) t.within;
}

-- both sides of an `and` without a completion
abbrev pub and_sides : Sides → Progress
and_sides sides = progress.And sides None None

-- a start never completes
unfoldable pub start_of : Setting → Pattern → Start
start_of s (pattern.Template t) seen next = begun (progress.Template (leaf_of s t seen next)) (next + 1)
start_of s (pattern.Wait d) seen next = begun (progress.Wait next (time_after s d)) (next + 1)
start_of s (pattern.All x) seen next = inside progress.All (start_of s x seen next)
start_of s (pattern.Followed x y) seen next = inside (λ p. progress.Followed p []) (start_of s x seen next)
start_of s (pattern.And x y) seen next = start_both and_sides (start_of s x) (start_of s y) seen next
start_of s (pattern.AndNot x y) seen next = start_both progress.AndNot (start_of s x) (start_of s y) seen next
start_of s (pattern.NotAnd x y) seen next = start_both progress.NotAnd (start_of s x) (start_of s y) seen next
start_of s (pattern.Or x y) seen next = start_both progress.Or (start_of s x) (start_of s y) seen next
start_of s (pattern.Xor x y) seen next = start_both progress.Xor (start_of s x) (start_of s y) seen next
start_of s (pattern.Within x d) seen next = inside (progress.Within next (time_after s d)) (start_of s x seen (next + 1))
