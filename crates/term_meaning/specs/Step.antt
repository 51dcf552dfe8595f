-- How a stimulus moves an event expression: one definition for each form, in the order of the table of forms.
use Rattle.term_meaning.specs.Common.{ℕ, ℤ, Bool, true, false, not, List, [], drop, filter, length, map, Option, Some, None, slice_get, Mode, Value, Value-F, out-Value, Binding, Both, Grown, Leaf, Progress, Ran, Running, Sides, Started, Stepped, Stimulus}
use Rattle.std.specs.Prelude.{◌∷◌, ◌++◌, ◌==◌, ◌&&◌, ◌||◌, ◌-◌, int_le, if◌then◌else◌}
use Rattle.epl_tree.specs.declared.event.Mode.TheVariants as mode
use Rattle.epl_values.specs.declared.value.Pair.{Pair}
use Rattle.epl_values.specs.declared.value.Value.TheOpen as value
use Rattle.term_meaning.specs.declared.progress.Progress.TheVariants as progress
use Rattle.term_meaning.specs.declared.progress.Progress.TheOpen.{Progress-F, Running-F, Sides-F}
use Rattle.term_meaning.specs.declared.progress.Progress.TheFolds.{fold-Progress, fold-Running, fold-Sides}
use Rattle.term_meaning.specs.declared.progress.Running.{roll-Running, out-Running}
use Rattle.term_meaning.specs.declared.stimulus.Stimulus.TheVariants as stimulus
use Rattle.term_meaning.specs.Operands.{Setting}
use Rattle.term_meaning.specs.Patterns.{Pattern, first_of, second_of, binds_of}
use Rattle.term_meaning.specs.Spans.{spans_fit}
use Rattle.term_meaning.specs.Start.{sides_of, start_of}

-- ---- what comes to a leaf

-- the event that a template of a mode hears
abbrev pub heard : Mode → Stimulus → Option Value
heard mode.Ordinary (stimulus.Event e) = Some e
heard mode.Unmatched (stimulus.Unmatched e) = Some e
heard mode.Completed (stimulus.Completed e) = Some e
heard m s = None

-- a time at or past this one
unfoldable pub is_due : Stimulus → ℤ → Bool
is_due (stimulus.Time now) at = int_le at now
is_due s at = false

abbrev pub is_late : Stimulus → Option ℤ → Bool
is_late s None = false
is_late s (Some until) = is_due s until

abbrev pub is_ordinary : Mode → Bool
is_ordinary mode.Ordinary = true
is_ordinary m = false

-- an event of this type whose fields fit
abbrev pub event_fits : Leaf → Value-F Value Pair → Bool
event_fits leaf (value.Event n fields) = (leaf.event == n) && spans_fit leaf.spans fields
event_fits leaf v = false

abbrev pub leaf_fits : Leaf → Option Value → Bool
leaf_fits leaf None = false
leaf_fits leaf (Some e) = event_fits leaf (out-Value e)

-- the leaf of a template hears an event, and it fits
unfoldable pub hears : Stimulus → Leaf → Bool
hears s leaf = leaf_fits leaf (heard leaf.mode s)

-- ---- what a step gives

-- no completion
abbrev pub still : Progress → ℕ → Stepped
still p next = record { completions = []; left = p; next = next; fitted = false }

-- no completion, and nothing left
abbrev pub lapsed : ℕ → Stepped
lapsed next = still progress.Gone next

-- one completion, and nothing left
abbrev pub completes : List Binding → ℕ → Bool → Stepped
completes bindings next fitted = record { completions = bindings ∷ []; left = progress.Gone; next = next; fitted = fitted }

unfoldable pub is_gone : Progress → Bool
is_gone progress.Gone = true
is_gone p = false

-- nothing is left where the form is over
abbrev pub unless : Bool → Progress → Progress
unless over p = if over then progress.Gone else p

abbrev pub any_of : List (List Binding) → Bool
any_of [] = false
any_of (c ∷ cs) = true

-- it gave a completion
abbrev pub completed : Stepped → Bool
completed a = any_of a.completions

-- ---- template

-- a completion binds the name of the template
abbrev pub bound : Option ℕ → Option Value → List Binding
bound (Some name) (Some e) = record { local = name; event = e } ∷ []
bound name e = []

abbrev pub template_step : Stimulus → Leaf → Option ℕ → ℕ → Stepped
template_step s leaf binds next =
    if hears s leaf
    then completes (bound binds (heard leaf.mode s)) next (is_ordinary leaf.mode)
    else (if is_late s leaf.until then lapsed next else still (progress.Template leaf) next)

-- ---- wait

abbrev pub wait_step : Stimulus → ℕ → ℤ → ℕ → Stepped
wait_step s number due next = if is_due s due then completes [] next false else still (progress.Wait number due) next

-- ---- all X

-- where X has nothing left, it is started anew
abbrev pub all_step : Stepped → Started → Stepped
all_step x again = if is_gone x.left then record x { left = progress.All again.progress; next = again.next } else record x { left = progress.All x.left }

-- ---- X -> Y

abbrev pub copy_of : List Binding → Progress → Running
copy_of bindings p = roll-Running (record { bindings = bindings; progress = p })

-- a step, given the expression, what is bound so far and the number of the next leaf
abbrev pub Step : Type 0
Step = Pattern → List Binding → ℕ → Stepped

-- a running copy: what was bound when it was started, and how it steps
abbrev pub Copy : Type 0
Copy = List Binding × Step

-- each completion of a copy, behind what `->` itself had bound when the copy was started
abbrev pub behind : List Binding → List (List Binding) → List (List Binding)
behind front completions = map (λ c. front ++ c) completions

-- what a copy gives, behind what those before it gave
abbrev pub ran_on : List Binding → Ran → List Binding → Stepped → Ran
ran_on seen ran bindings a = record {
  completions = ran.completions ++ behind (drop (length seen) bindings) a.completions;
  copies = ran.copies ++ copy_of bindings a.left ∷ [];
  next = a.next;
  fitted = ran.fitted || a.fitted;
}

abbrev pub run_copy : Pattern → List Binding → Ran → Copy → Ran
run_copy p seen ran copy = ran_on seen ran copy.0 (copy.1 p copy.0 ran.next)

-- each running copy is stepped, in order
unfoldable pub run_copies : Pattern → List Binding → Ran → List Copy → Ran
run_copies p seen ran [] = ran
run_copies p seen ran (copy ∷ copies) = run_copies p seen (run_copy p seen ran copy) copies

abbrev pub none_ran : ℕ → Ran
none_ran next = record { completions = []; copies = []; next = next; fitted = false }

-- something is left of a copy
unfoldable pub is_left : Running → Bool
is_left copy = not (is_gone (out-Running copy).progress)

-- copies with nothing left go
abbrev pub those_left : List Running → List Running
those_left copies = filter is_left copies

-- one more copy of Y, with all that is bound so far
abbrev pub grown : (List Binding → ℕ → Started) → List Binding → Grown → List Binding → Grown
grown begin seen g c = let a = begin (seen ++ c) g.next in record { copies = g.copies ++ copy_of (seen ++ c) a.progress ∷ []; next = a.next }

-- each completion of X starts a copy of Y, behind the others
unfoldable pub grow : (List Binding → ℕ → Started) → List Binding → Grown → List (List Binding) → Grown
grow begin seen g [] = g
grow begin seen g (c ∷ cs) = grow begin seen (grown begin seen g c) cs

abbrev pub no_copies : List Running → Bool
no_copies [] = true
no_copies (copy ∷ copies) = false

-- the copies' completions are given; nothing is left where X and all copies have nothing left
abbrev pub followed_step : Ran → Stepped → Grown → Stepped
followed_step ran x g = record {
  completions = ran.completions;
  left = unless (is_gone x.left && no_copies g.copies) (progress.Followed x.left g.copies);
  next = g.next;
  fitted = ran.fitted || x.fitted;
}

-- ---- X and Y

abbrev pub newer : Option (List Binding) → Option (List Binding) → Option (List Binding)
newer last None = last
newer last (Some c) = Some c

-- the last completion of a side, after those of a step
unfoldable pub last_of : Option (List Binding) → List (List Binding) → Option (List Binding)
last_of last completions = newer last (slice_get completions (length completions - 1))

-- each completion of the left completes with the last one of the right, where there is one
unfoldable pub with_right : Option (List Binding) → List (List Binding) → List (List Binding)
with_right None completions = []
with_right (Some right) completions = map (λ c. c ++ right) completions

-- each completion of the right completes with the last one of the left, where there is one
unfoldable pub with_left : Option (List Binding) → List (List Binding) → List (List Binding)
with_left None completions = []
with_left (Some left) completions = map (λ c. left ++ c) completions

-- a side has nothing left and never completed
unfoldable pub is_spent : Progress → Option (List Binding) → Bool
is_spent p None = is_gone p
is_spent p (Some last) = false

unfoldable pub and_over : Progress → Progress → Option (List Binding) → Option (List Binding) → Bool
and_over x y left right = (is_gone x && is_gone y) || (is_spent x left || is_spent y right)

-- the last completions as they are now, and what is given
unfoldable pub and_left : Stepped → Stepped → Option (List Binding) → Option (List Binding) → List (List Binding) → Stepped
and_left x y left right completions = record {
  completions = completions;
  left = unless (and_over x.left y.left left right) (progress.And (sides_of x.left y.left) left right);
  next = y.next;
  fitted = x.fitted || y.fitted;
}

abbrev pub and_step : Stepped → Stepped → Option (List Binding) → Option (List Binding) → Stepped
and_step x y left right =
    and_left x y (last_of left x.completions) (last_of right y.completions)
    (with_right right x.completions ++ with_left (last_of left x.completions) y.completions)

-- ---- X and not Y, not X and Y

-- `wanted` completes, and `unwanted` must not
abbrev pub not_step : (Sides → Progress) → Stepped → Stepped → Stepped → Stepped → Stepped
not_step form x y wanted unwanted = record {
  completions = if completed unwanted then [] else wanted.completions;
  left = unless (completed unwanted || is_gone wanted.left) (form (sides_of x.left y.left));
  next = y.next;
  fitted = x.fitted || y.fitted;
}

abbrev pub and_not_step : Stepped → Stepped → Stepped
and_not_step x y = not_step progress.AndNot x y x y

abbrev pub not_and_step : Stepped → Stepped → Stepped
not_and_step x y = not_step progress.NotAnd x y y x

-- ---- X or Y

-- a side that completed in this step has nothing left, or both have nothing left
unfoldable pub either_over : Stepped → Stepped → Bool
either_over x y = (completed x && is_gone x.left) || ((completed y && is_gone y.left) || (is_gone x.left && is_gone y.left))

abbrev pub or_step : Stepped → Stepped → Stepped
or_step x y = record {
  completions = if completed x then x.completions else y.completions;
  left = unless (either_over x y) (progress.Or (sides_of x.left y.left));
  next = y.next;
  fitted = x.fitted || y.fitted;
}

-- ---- X xor Y

-- as `or`, but with no completions where both sides complete in this step
abbrev pub xor_step : Stepped → Stepped → Stepped
xor_step x y = record {
  completions = if completed x then (if completed y then [] else x.completions) else y.completions;
  left = unless (either_over x y) (progress.Xor (sides_of x.left y.left));
  next = y.next;
  fitted = x.fitted || y.fitted;
}

-- ---- (X) within(d)

abbrev pub within_step : ℕ → ℤ → Stepped → Stepped
within_step number until x = record x { left = unless (is_gone x.left) (progress.Within number until x.left) }

-- ---- the forms, given how their parts step

-- how both sides step
abbrev pub Two : Type 0
Two = Step × Step

-- both are stepped, the left first
unfoldable pub both_sides : Two → Pattern → List Binding → ℕ → Both
both_sides two p seen next = let x = two.0 (first_of p) seen next in record { left = x; right = two.1 (second_of p) seen x.next }

unfoldable pub all_form : Setting → Step → Step
all_form s x p seen next = let a = x (first_of p) seen next in all_step a (start_of s (first_of p) seen a.next)

-- after the copies ran and X was stepped
unfoldable pub growing : Setting → Ran → Stepped → Pattern → List Binding → Stepped
growing s ran x p seen = followed_step ran x (grow (start_of s (second_of p)) seen (record { copies = those_left ran.copies; next = x.next }) x.completions)

unfoldable pub followed_form : Setting → Step → List Copy → Step
followed_form s x copies p seen next =
    let ran = run_copies (second_of p) seen (none_ran next) copies in growing s ran (x (first_of p) seen ran.next) p seen

unfoldable pub and_form : Two → Option (List Binding) → Option (List Binding) → Step
and_form two left right p seen next = let b = both_sides two p seen next in and_step b.left b.right left right

unfoldable pub and_not_form : Two → Step
and_not_form two p seen next = let b = both_sides two p seen next in and_not_step b.left b.right

unfoldable pub not_and_form : Two → Step
not_and_form two p seen next = let b = both_sides two p seen next in not_and_step b.left b.right

unfoldable pub or_form : Two → Step
or_form two p seen next = let b = both_sides two p seen next in or_step b.left b.right

unfoldable pub xor_form : Two → Step
xor_form two p seen next = let b = both_sides two p seen next in xor_step b.left b.right

-- at its deadline or past it X isn't stepped, and nothing is left
unfoldable pub within_form : Stimulus → ℕ → ℤ → Step → Step
within_form s number until x p seen next = if is_due s until then lapsed next else within_step number until (x (first_of p) seen next)

-- ---- the step

abbrev pub sides_layer : Sides-F Step Copy Two → Two
sides_layer r = (r.left, r.right)

abbrev pub running_layer : Running-F Step Copy Two → Copy
running_layer r = (r.bindings, r.progress)

module _ (setting : Setting) (s : Stimulus) where
  -- a side with nothing left isn't stepped again
  abbrev pub step_layer : Progress-F Step Copy Two → Step
  step_layer Progress-F.Gone = λ p seen next. lapsed next
  step_layer (Progress-F.Template leaf) = λ p seen next. template_step s leaf (binds_of p) next
  step_layer (Progress-F.Wait number due) = λ p seen next. wait_step s number due next
  step_layer (Progress-F.All x) = all_form setting x
  step_layer (Progress-F.Followed x copies) = followed_form setting x copies
  step_layer (Progress-F.And two left right) = and_form two left right
  step_layer (Progress-F.AndNot two) = and_not_form two
  step_layer (Progress-F.NotAnd two) = not_and_form two
  step_layer (Progress-F.Or two) = or_form two
  step_layer (Progress-F.Xor two) = xor_form two
  step_layer (Progress-F.Within number until x) = within_form s number until x

  unfoldable pub step_of : Progress → Step
  step_of = fold-Progress Step Copy Two step_layer running_layer sides_layer

  unfoldable pub step_sides : Sides → Two
  step_sides = fold-Sides Step Copy Two step_layer running_layer sides_layer

  unfoldable pub step_copy : Running → Copy
  step_copy = fold-Running Step Copy Two step_layer running_layer sides_layer
