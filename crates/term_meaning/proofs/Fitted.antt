-- A step tells exactly whether an active ordinary leaf fitted the event.
use Rattle.std.proofs.Common.{◌≡◌, ℕ, ℤ, Bool, true, false, ◌||◌, List, [], ◌∷◌, map, flat_map, Option, refl, sym, ap, ap₂, ◌∙◌, subst}
use Rattle.std.proofs.lemmas.Bool.{false≢true}
use Rattle.std.specs.List.{list_any}
use Rattle.epl_tree.specs.declared.event.Mode.{Mode}
use Rattle.epl_tree.specs.declared.event.Mode.TheVariants as mode
use Rattle.term_meaning.specs.declared.leaf.Leaf.{Leaf}
use Rattle.term_meaning.specs.declared.progress.Progress.{Progress, Progress-F, ind-Progress, roll-Progress, map-Progress}
use Rattle.term_meaning.specs.declared.progress.Progress.TheOpen as layer
use Rattle.term_meaning.specs.declared.progress.Progress.TheOpen.{Running-F, Sides-F}
use Rattle.term_meaning.specs.declared.progress.Ran.{Ran}
use Rattle.term_meaning.specs.declared.progress.Running.{Running, roll-Running, out-Running, out-roll-Running, map-Running}
use Rattle.term_meaning.specs.declared.progress.Sides.{Sides, roll-Sides, out-Sides, out-roll-Sides, map-Sides}
use Rattle.term_meaning.specs.declared.stimulus.Binding.{Binding}
use Rattle.term_meaning.specs.declared.stimulus.Stimulus.{Stimulus}
use Rattle.term_meaning.specs.declared.stimulus.Stimulus.TheVariants as stimulus
use Rattle.term_meaning.specs.Active.{fits_ordinary, fitted, templates_in, templates_layer, templates_of_copy, templates_of_sides}
use Rattle.term_meaning.specs.Operands.{Setting}
use Rattle.term_meaning.specs.Patterns.{Pattern, binds_of, first_of, second_of}
use Rattle.term_meaning.specs.Step.{Step, Two, Copy, all_form, and_form, and_left, and_not_form, both_sides, followed_form, growing, heard, hears, is_due, is_gone, is_late, is_ordinary, leaf_fits, none_ran, not_and_form, or_form, run_copies, run_copy, step_copy, step_layer, step_of, step_sides, template_step, wait_step, within_form, xor_form}
use Rattle.term_meaning.proofs.Idling.{any_append, copy_templates_is, sides_templates_is, templates_rolled}
use Rattle.term_meaning.proofs.Still.{Layer, copy_step, sides_step, steps_rolled}

-- ---- truths

or_false : (a : Bool) → (a || false) ≡ a
or_false true = refl
or_false false = refl

or_other : (a b : Bool) → (a || b) ≡ (b || a)
or_other true true = refl
or_other true false = refl
or_other false true = refl
or_other false false = refl

or_behind : (a b c : Bool) → ((a || b) || c) ≡ (a || (b || c))
or_behind true b c = refl
or_behind false b c = refl

-- ---- each form

-- both sides are told of
abbrev TellsBoth : Two → Step → Type 0
TellsBoth two form = (p : Pattern) (seen : List Binding) (next : ℕ) → (form p seen next).fitted ≡ ((two.0 (first_of p) seen next).fitted || (two.1 (second_of p) seen (two.0 (first_of p) seen next).next).fitted)

or_tells : (two : Two) → TellsBoth two (or_form two)
unfolding or_form both_sides
or_tells two p seen next = refl

xor_tells : (two : Two) → TellsBoth two (xor_form two)
unfolding xor_form both_sides
xor_tells two p seen next = refl

and_not_tells : (two : Two) → TellsBoth two (and_not_form two)
unfolding and_not_form both_sides
and_not_tells two p seen next = refl

not_and_tells : (two : Two) → TellsBoth two (not_and_form two)
unfolding not_and_form both_sides
not_and_tells two p seen next = refl

and_tells : (two : Two) (l r : Option (List Binding)) → TellsBoth two (and_form two l r)
unfolding and_form both_sides and_left
and_tells two l r p seen next = refl

all_tells : (setting : Setting) (step : Step) (p : Pattern) (seen : List Binding) (next : ℕ) → (all_form setting step p seen next).fitted ≡ (step (first_of p) seen next).fitted
unfolding all_form
all_tells setting step p seen next = go (is_gone (step (first_of p) seen next).left) refl where
  go : (a : Bool) → is_gone (step (first_of p) seen next).left ≡ a → (all_form setting step p seen next).fitted ≡ (step (first_of p) seen next).fitted
  go true e = rw e refl
  go false e = rw e refl

followed_tells : (setting : Setting) (step : Step) (copies : List Copy) (p : Pattern) (seen : List Binding) (next : ℕ) → (followed_form setting step copies p seen next).fitted
    ≡ ((run_copies (second_of p) seen (none_ran next) copies).fitted || (step (first_of p) seen (run_copies (second_of p) seen (none_ran next) copies).next).fitted)
unfolding followed_form growing
followed_tells setting step copies p seen next = refl

wait_tells : (s : Stimulus) (number : ℕ) (due : ℤ) (next : ℕ) → (wait_step s number due next).fitted ≡ false
wait_tells s number due next = go (is_due s due) refl where
  go : (a : Bool) → is_due s due ≡ a → (wait_step s number due next).fitted ≡ false
  go true e = rw e refl
  go false e = rw e refl

template_tells : (s : Stimulus) (leaf : Leaf) (binds : Option ℕ) (next : ℕ) → (template_step s leaf binds next).fitted ≡ (fits_ordinary s leaf || false)
template_tells s leaf binds next = go (hears s leaf) (is_late s leaf.until) refl refl where
  go : (a b : Bool) → hears s leaf ≡ a → is_late s leaf.until ≡ b → (template_step s leaf binds next).fitted ≡ (fits_ordinary s leaf || false)
  go true b e f = rw e (sym (or_false (is_ordinary leaf.mode)))
  go false true e f = rw (e, f) refl
  go false false e f = rw (e, f) refl

-- no template hears a time
deaf : (leaf : Leaf) (m : Mode) (now : ℤ) → leaf_fits leaf (heard m (stimulus.Time now)) ≡ false
deaf leaf mode.Ordinary now = refl
deaf leaf mode.Unmatched now = refl
deaf leaf mode.Completed now = refl

time_unheard : (now : ℤ) (leaf : Leaf) → hears (stimulus.Time now) leaf ≡ false
unfolding hears
time_unheard now leaf = deaf leaf leaf.mode now

time_fits : (now : ℤ) (leaves : List Leaf) → list_any (fits_ordinary (stimulus.Time now)) leaves ≡ false
time_fits now [] = refl
time_fits now (leaf ∷ leaves) = rw (time_unheard now leaf) (time_fits now leaves)

due_fits : (s : Stimulus) (at : ℤ) (leaves : List Leaf) → is_due s at ≡ true → list_any (fits_ordinary s) leaves ≡ false
unfolding is_due
due_fits (stimulus.Event e) at leaves h = absurd (false≢true h)
due_fits (stimulus.Unmatched e) at leaves h = absurd (false≢true h)
due_fits (stimulus.Completed e) at leaves h = absurd (false≢true h)
due_fits (stimulus.Time now) at leaves h = time_fits now leaves

within_tells : (s : Stimulus) (number : ℕ) (until : ℤ) (step : Step) (leaves : List Leaf) (p : Pattern) (seen : List Binding) (next : ℕ) → (step (first_of p) seen next).fitted ≡ list_any (fits_ordinary s) leaves
    → (within_form s number until step p seen next).fitted ≡ list_any (fits_ordinary s) leaves
unfolding within_form
within_tells s number until step leaves p seen next h = go (is_due s until) refl where
  go : (a : Bool) → is_due s until ≡ a → (within_form s number until step p seen next).fitted ≡ list_any (fits_ordinary s) leaves
  go true e = rw e (sym (due_fits s until leaves e))
  go false e = rw e h

-- ---- the induction

abbrev Leaves : Type 0
Leaves = List Leaf

module _ (setting : Setting) (s : Stimulus) where
  abbrev any : List Leaf → Bool
  any leaves = list_any (fits_ordinary s) leaves

  abbrev Told : Progress → Type 0
  Told x = (p : Pattern) (seen : List Binding) (next : ℕ) → (step_of setting s x p seen next).fitted ≡ any (templates_in x)

  abbrev CopyTold : Running → Type 0
  CopyTold r = Told (out-Running r).progress

  abbrev BothTold : Sides → Type 0
  BothTold r = Told (out-Sides r).left × Told (out-Sides r).right

  abbrev Known : Type 0
  Known = (p : Progress) × Told p

  abbrev KnownCopy : Type 0
  KnownCopy = (r : Running) × CopyTold r

  abbrev KnownSides : Type 0
  KnownSides = (r : Sides) × BothTold r

  abbrev named : Progress-F Known KnownCopy KnownSides → Layer
  named = map-Progress Known KnownCopy KnownSides Progress Running Sides (λ e. e.0) (λ e. e.0) (λ e. e.0)

  sides_told : (two : KnownSides) (p q : Pattern) (seen : List Binding) (m n : ℕ) → (((step_sides setting s two.0).0 p seen m).fitted || ((step_sides setting s two.0).1 q seen n).fitted) ≡ any (templates_of_sides two.0)
  sides_told two p q seen m n =
      let r = two.0 in
      ap₂ (λ (a b : Bool). a || b) (ap (λ (z : Two). (z.0 p seen m).fitted) (sides_step setting s r) ∙ two.1.0 p seen m) (ap (λ (z : Two). (z.1 q seen n).fitted) (sides_step setting s r) ∙ two.1.1 q seen n)
      ∙ sym (any_append (fits_ordinary s) (templates_in (out-Sides r).left) (templates_in (out-Sides r).right))
      ∙ ap any (sym (sides_templates_is r))

  form_told : (two : KnownSides) (form : Step) → TellsBoth (step_sides setting s two.0) form → (p : Pattern) (seen : List Binding) (next : ℕ) → (form p seen next).fitted ≡ any (templates_of_sides two.0)
  form_told two form tells p seen next = tells p seen next ∙ sides_told two (first_of p) (second_of p) seen next ((step_sides setting s two.0).0 (first_of p) seen next).next

  copies_told : (p : Pattern) (seen : List Binding) (ran : Ran) (cs : List KnownCopy) → (run_copies p seen ran (map (step_copy setting s) (map (λ (c : KnownCopy). c.0) cs))).fitted
      ≡ (ran.fitted || any (flat_map (λ leaves. leaves) (map templates_of_copy (map (λ (c : KnownCopy). c.0) cs))))
  unfolding run_copies
  copies_told p seen ran [] = sym (or_false ran.fitted)
  copies_told p seen ran (c ∷ cs) =
      let r = c.0 in
      let rest = flat_map (λ leaves. leaves) (map templates_of_copy (map (λ (c : KnownCopy). c.0) cs)) in
      let copy = step_copy setting s r in
      let own : (copy.1 p copy.0 ran.next).fitted ≡ any (templates_of_copy r) =
      ap (λ (z : Copy). (z.1 p z.0 ran.next).fitted) (copy_step setting s r) ∙ c.1 p (out-Running r).bindings ran.next ∙ ap any (sym (copy_templates_is r)) in
      copies_told p seen (run_copy p seen ran copy) cs
      ∙ ap (λ (b : Bool). (ran.fitted || b) || any rest) own
      ∙ or_behind ran.fitted (any (templates_of_copy r)) (any rest)
      ∙ ap (λ (b : Bool). ran.fitted || b) (sym (any_append (fits_ordinary s) (templates_of_copy r) rest))

  layer_told : (y : Progress-F Known KnownCopy KnownSides) (p : Pattern) (seen : List Binding) (next : ℕ)
      → (step_layer setting s (map-Progress Progress Running Sides Step Copy Two (step_of setting s) (step_copy setting s) (step_sides setting s) (named y)) p seen next).fitted
      ≡ any (templates_layer (map-Progress Progress Running Sides Leaves Leaves Leaves templates_in templates_of_copy templates_of_sides (named y)))
  layer_told layer.Gone p seen next = refl
  layer_told (layer.Template leaf) p seen next = template_tells s leaf (binds_of p) next
  layer_told (layer.Wait number due) p seen next = wait_tells s number due next
  layer_told (layer.All x) p seen next = all_tells setting (step_of setting s x.0) p seen next ∙ x.1 (first_of p) seen next
  layer_told (layer.Followed x cs) p seen next =
      let rs = map (λ (c : KnownCopy). c.0) cs in
      let rest = flat_map (λ leaves. leaves) (map templates_of_copy rs) in
      let ran = run_copies (second_of p) seen (none_ran next) (map (step_copy setting s) rs) in
      followed_tells setting (step_of setting s x.0) (map (step_copy setting s) rs) p seen next
      ∙ ap₂ (λ (a b : Bool). a || b) (copies_told (second_of p) seen (none_ran next) cs) (x.1 (first_of p) seen ran.next)
      ∙ or_other (any rest) (any (templates_in x.0))
      ∙ sym (any_append (fits_ordinary s) (templates_in x.0) rest)
  layer_told (layer.And two l r) p seen next = form_told two (and_form (step_sides setting s two.0) l r) (and_tells (step_sides setting s two.0) l r) p seen next
  layer_told (layer.AndNot two) p seen next = form_told two (and_not_form (step_sides setting s two.0)) (and_not_tells (step_sides setting s two.0)) p seen next
  layer_told (layer.NotAnd two) p seen next = form_told two (not_and_form (step_sides setting s two.0)) (not_and_tells (step_sides setting s two.0)) p seen next
  layer_told (layer.Or two) p seen next = form_told two (or_form (step_sides setting s two.0)) (or_tells (step_sides setting s two.0)) p seen next
  layer_told (layer.Xor two) p seen next = form_told two (xor_form (step_sides setting s two.0)) (xor_tells (step_sides setting s two.0)) p seen next
  layer_told (layer.Within number until x) p seen next = within_tells s number until (step_of setting s x.0) (templates_in x.0) p seen next (x.1 (first_of p) seen next)

  rolled_told : (y : Progress-F Known KnownCopy KnownSides) → Told (roll-Progress (named y))
  rolled_told y p seen next = ap (λ a. a.fitted) (steps_rolled setting s (named y) p seen next) ∙ layer_told y p seen next ∙ ap any (sym (templates_rolled (named y)))

  progress_case : (x : Layer) (y : Progress-F Known KnownCopy KnownSides) → named y ≡ x → Told (roll-Progress x)
  progress_case x y is = subst (λ (z : Layer). Told (roll-Progress z)) is (rolled_told y)

  running_case : (x : Running-F Progress Running Sides) (y : Running-F Known KnownCopy KnownSides) → map-Running Known KnownCopy KnownSides Progress Running Sides (λ e. e.0) (λ e. e.0) (λ e. e.0) y ≡ x → CopyTold (roll-Running x)
  running_case x y is = subst Told (ap (λ (z : Running-F Progress Running Sides). z.progress) (is ∙ sym (out-roll-Running x))) y.progress.1

  sides_case : (x : Sides-F Progress Running Sides) (y : Sides-F Known KnownCopy KnownSides) → map-Sides Known KnownCopy KnownSides Progress Running Sides (λ e. e.0) (λ e. e.0) (λ e. e.0) y ≡ x → BothTold (roll-Sides x)
  sides_case x y is = (
    subst Told (ap (λ (z : Sides-F Progress Running Sides). z.left) (is ∙ sym (out-roll-Sides x))) y.left.1,
    subst Told (ap (λ (z : Sides-F Progress Running Sides). z.right) (is ∙ sym (out-roll-Sides x))) y.right.1,
  )

  -- a step tells whether an active ordinary leaf fits
  pub tells_fitted : (x : Progress) → Told x
  tells_fitted = ind-Progress Told CopyTold BothTold progress_case running_case sides_case

pub fitted_told : (setting : Setting) (s : Stimulus) (x : Progress) (p : Pattern) (seen : List Binding) (next : ℕ) → (step_of setting s x p seen next).fitted ≡ fitted x s
fitted_told setting s x p seen next = tells_fitted setting s x p seen next
