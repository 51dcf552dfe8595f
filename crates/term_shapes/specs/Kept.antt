-- Event expressions whose bindings have the shapes of the names that they are bound to.
use Rattle.std.specs.Prelude.{◌≡◌, ◌==◌, ◌&&◌, ◌++◌, Bool, true, false, List, [], ◌∷◌, Some, slice_get}
use Rattle.std.specs.List.{All, flat_map, list_all}
use Rattle.std.specs.Option.{option_to_list}
use Rattle.epl_values.specs.declared.shape.EventShape.{EventShape}
use Rattle.epl_values.specs.declared.value.Value.{out-Value}
use Rattle.typed_program.specs.declared.program.Local.{Local}
use Rattle.typed_program.specs.declared.program.Site.{Site}
use Rattle.value_shapes.specs.Fits.{Fit, IsEvent}
use Rattle.term_meaning.specs.declared.leaf.Leaf.{Leaf}
use Rattle.term_meaning.specs.declared.progress.Progress.{Progress}
use Rattle.term_meaning.specs.declared.progress.Progress.TheOpen.{Progress-F, Running-F, Sides-F}
use Rattle.term_meaning.specs.declared.progress.Progress.TheFolds.{fold-Progress}
use Rattle.term_meaning.specs.declared.stimulus.Binding.{Binding}
use Rattle.term_meaning.specs.declared.stimulus.Stimulus.{Stimulus}
use Rattle.term_meaning.specs.declared.stimulus.Stimulus.TheVariants as stimulus
use Rattle.term_meaning.specs.Patterns.{Pattern, first_of, second_of, pattern_of}
use Rattle.term_meaning.specs.Patterns as pattern

-- ---- bindings

-- a bound event has the shape of the name that it is bound to
abbrev pub BindingFits : List EventShape → List Local → Binding → Type 0
BindingFits types bound b = (local : Local) → slice_get bound b.local ≡ Some local → Fit types b.event local.shape

abbrev pub CompletionFits : List EventShape → List Local → List Binding → Type 0
CompletionFits types bound completion = All (BindingFits types bound) completion

abbrev pub CompletionsFit : List EventShape → List Local → List (List Binding) → Type 0
CompletionsFit types bound completions = All (CompletionFits types bound) completions

-- what comes is a time, or an event of its type's shapes
abbrev pub HeardFits : List EventShape → Stimulus → Type 0
HeardFits types (stimulus.Event e) = IsEvent types e (out-Value e)
HeardFits types (stimulus.Unmatched e) = IsEvent types e (out-Value e)
HeardFits types (stimulus.Completed e) = IsEvent types e (out-Value e)
HeardFits types (stimulus.Time t) = Unit {0}

-- ---- what an expression keeps

abbrev pub kept_layer : Progress-F (List (List Binding)) (List (List Binding)) (List (List Binding)) → List (List Binding)
kept_layer Progress-F.Gone = []
kept_layer (Progress-F.Template leaf) = []
kept_layer (Progress-F.Wait number due) = []
kept_layer (Progress-F.All x) = x
kept_layer (Progress-F.Followed x copies) = x ++ flat_map (λ kept. kept) copies
kept_layer (Progress-F.And sides left right) = sides ++ option_to_list left ++ option_to_list right
kept_layer (Progress-F.AndNot sides) = sides
kept_layer (Progress-F.NotAnd sides) = sides
kept_layer (Progress-F.Or sides) = sides
kept_layer (Progress-F.Xor sides) = sides
kept_layer (Progress-F.Within number until x) = x

abbrev pub kept_sides : Sides-F (List (List Binding)) (List (List Binding)) (List (List Binding)) → List (List Binding)
kept_sides r = r.left ++ r.right

-- with what a copy was started, and what it keeps itself
abbrev pub kept_running : Running-F (List (List Binding)) (List (List Binding)) (List (List Binding)) → List (List Binding)
kept_running r = r.bindings ∷ r.progress

-- the completions that an expression keeps: last ones of `and`, and those with which copies of `->` were started
unfoldable pub kept_in : Progress → List (List Binding)
kept_in = fold-Progress (List (List Binding)) (List (List Binding)) (List (List Binding)) kept_layer kept_running kept_sides

-- ---- an expression of a pattern

-- whether it has the forms of a pattern
abbrev pub Test : Type 0
Test = Pattern → Bool

abbrev pub is_template_of : Leaf → Test
is_template_of leaf (pattern.Template t) = leaf.event == t.event
is_template_of leaf p = false

abbrev pub is_wait : Test
is_wait (pattern.Wait d) = true
is_wait p = false

abbrev pub is_all : Test
is_all (pattern.All x) = true
is_all p = false

abbrev pub is_followed : Test
is_followed (pattern.Followed x y) = true
is_followed p = false

abbrev pub is_and : Test
is_and (pattern.And x y) = true
is_and p = false

abbrev pub is_and_not : Test
is_and_not (pattern.AndNot x y) = true
is_and_not p = false

abbrev pub is_not_and : Test
is_not_and (pattern.NotAnd x y) = true
is_not_and p = false

abbrev pub is_or : Test
is_or (pattern.Or x y) = true
is_or p = false

abbrev pub is_xor : Test
is_xor (pattern.Xor x y) = true
is_xor p = false

abbrev pub is_within : Test
is_within (pattern.Within x d) = true
is_within p = false

abbrev pub on_first : Test → Test → Test
on_first form x p = form p && x (first_of p)

abbrev pub on_both : Test → Test → Test
on_both form sides p = form p && sides p

abbrev pub shaped_layer : Progress-F Test Test Test → Test
shaped_layer Progress-F.Gone = λ p. true
shaped_layer (Progress-F.Template leaf) = is_template_of leaf
shaped_layer (Progress-F.Wait number due) = is_wait
shaped_layer (Progress-F.All x) = on_first is_all x
shaped_layer (Progress-F.Followed x copies) = λ p. is_followed p && x (first_of p) && list_all (λ copy. copy (second_of p)) copies
shaped_layer (Progress-F.And sides left right) = on_both is_and sides
shaped_layer (Progress-F.AndNot sides) = on_both is_and_not sides
shaped_layer (Progress-F.NotAnd sides) = on_both is_not_and sides
shaped_layer (Progress-F.Or sides) = on_both is_or sides
shaped_layer (Progress-F.Xor sides) = on_both is_xor sides
shaped_layer (Progress-F.Within number until x) = on_first is_within x

abbrev pub shaped_sides : Sides-F Test Test Test → Test
shaped_sides r p = r.left (first_of p) && r.right (second_of p)

abbrev pub shaped_running : Running-F Test Test Test → Test
shaped_running r = r.progress

unfoldable pub is_of : Progress → Pattern → Bool
is_of = fold-Progress Test Test Test shaped_layer shaped_running shaped_sides

-- ---- the expression of a site

-- what an expression has come to, of a site whose bound names are these
pub record ProgressFits (types : List EventShape) (bound : List Local) (p : Pattern) (progress : Progress) : Type 0 where
  pub shaped : is_of progress p ≡ true
  pub kept : CompletionsFit types bound (kept_in progress)

abbrev pub ExpressionFits : List EventShape → Site → Progress → Type 0
ExpressionFits types site progress = ProgressFits types site.bound (pattern_of site.term) progress
