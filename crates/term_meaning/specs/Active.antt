-- The active leaves of an event expression, and what waits for a stimulus.
use Rattle.term_meaning.specs.Common.{ℕ, ℤ, Bool, false, List, [], Some, Leaf, Progress, Running, Sides, Stimulus}
use Rattle.std.specs.Prelude.{◌≡◌, ◌∷◌, ◌++◌, ◌&&◌, IsPermutation}
use Rattle.std.specs.List.{flat_map, list_any}
use Rattle.std.specs.List.Sorted.{IsNonDecreasingBy}
use Rattle.epl_tree.specs.declared.event.Mode.TheVariants as mode
use Rattle.term_meaning.specs.declared.progress.Progress.TheOpen.{Progress-F, Running-F, Sides-F}
use Rattle.term_meaning.specs.declared.progress.Progress.TheFolds.{fold-Progress, fold-Running, fold-Sides}
use Rattle.term_meaning.specs.Step.{hears, is_late, is_ordinary}

-- a leaf of a wait or of the deadline of a group: it has no spans, and its event is none
abbrev pub timer_leaf : ℕ → ℕ → ℤ → Leaf
timer_leaf event number until = record { number = number; spans = []; event = event; mode = mode.Ordinary; until = Some until }

abbrev pub wait_leaf : ℕ → ℤ → Leaf
wait_leaf number due = timer_leaf 65535 number due

abbrev pub deadline_leaf : ℕ → ℤ → Leaf
deadline_leaf number until = timer_leaf 65534 number until

abbrev pub leaves_layer : Progress-F (List Leaf) (List Leaf) (List Leaf) → List Leaf
leaves_layer Progress-F.Gone = []
leaves_layer (Progress-F.Template leaf) = leaf ∷ []
leaves_layer (Progress-F.Wait number due) = wait_leaf number due ∷ []
leaves_layer (Progress-F.All x) = x
leaves_layer (Progress-F.Followed x copies) = x ++ flat_map (λ leaves. leaves) copies
leaves_layer (Progress-F.And sides left right) = sides
leaves_layer (Progress-F.AndNot sides) = sides
leaves_layer (Progress-F.NotAnd sides) = sides
leaves_layer (Progress-F.Or sides) = sides
leaves_layer (Progress-F.Xor sides) = sides
leaves_layer (Progress-F.Within number until x) = deadline_leaf number until ∷ x

abbrev pub sides_leaves : Sides-F (List Leaf) (List Leaf) (List Leaf) → List Leaf
sides_leaves r = r.left ++ r.right

abbrev pub running_leaves : Running-F (List Leaf) (List Leaf) (List Leaf) → List Leaf
running_leaves r = r.progress

-- the leaves in an expression that has come so far
unfoldable pub leaves_in : Progress → List Leaf
leaves_in = fold-Progress (List Leaf) (List Leaf) (List Leaf) leaves_layer running_leaves sides_leaves

unfoldable pub leaves_of_sides : Sides → List Leaf
leaves_of_sides = fold-Sides (List Leaf) (List Leaf) (List Leaf) leaves_layer running_leaves sides_leaves

unfoldable pub leaves_of_copy : Running → List Leaf
leaves_of_copy = fold-Running (List Leaf) (List Leaf) (List Leaf) leaves_layer running_leaves sides_leaves

-- the leaves of templates among them
abbrev pub templates_layer : Progress-F (List Leaf) (List Leaf) (List Leaf) → List Leaf
templates_layer Progress-F.Gone = []
templates_layer (Progress-F.Template leaf) = leaf ∷ []
templates_layer (Progress-F.Wait number due) = []
templates_layer (Progress-F.All x) = x
templates_layer (Progress-F.Followed x copies) = x ++ flat_map (λ leaves. leaves) copies
templates_layer (Progress-F.And sides left right) = sides
templates_layer (Progress-F.AndNot sides) = sides
templates_layer (Progress-F.NotAnd sides) = sides
templates_layer (Progress-F.Or sides) = sides
templates_layer (Progress-F.Xor sides) = sides
templates_layer (Progress-F.Within number until x) = x

unfoldable pub templates_in : Progress → List Leaf
templates_in = fold-Progress (List Leaf) (List Leaf) (List Leaf) templates_layer running_leaves sides_leaves

unfoldable pub templates_of_sides : Sides → List Leaf
templates_of_sides = fold-Sides (List Leaf) (List Leaf) (List Leaf) templates_layer running_leaves sides_leaves

unfoldable pub templates_of_copy : Running → List Leaf
templates_of_copy = fold-Running (List Leaf) (List Leaf) (List Leaf) templates_layer running_leaves sides_leaves

-- these are the active leaves, in order of their beginning
pub record Active (p : Progress) (leaves : List Leaf) : Type 0 where
  pub all : IsPermutation (leaves_in p) leaves
  pub in_order : IsNonDecreasingBy (λ leaf. leaf.number) leaves

-- an ordinary leaf fits the event
abbrev pub fits_ordinary : Stimulus → Leaf → Bool
fits_ordinary s leaf = hears s leaf && is_ordinary leaf.mode

-- an active ordinary leaf fits the event
abbrev pub fitted : Progress → Stimulus → Bool
fitted p s = list_any (fits_ordinary s) (templates_in p)

-- no active leaf fits, and no deadline and no due time is reached
pub record Idle (p : Progress) (s : Stimulus) : Type 0 where
  pub unheard : list_any (hears s) (templates_in p) ≡ false
  pub early : list_any (λ leaf. is_late s leaf.until) (leaves_in p) ≡ false
