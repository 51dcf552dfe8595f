-- A form whose parts stay, and that isn't over, stays itself.
use Rattle.std.proofs.Common.{◌≡◌, ℕ, ℤ, true, false, ◌&&◌, List, [], ◌∷◌, ◌++◌, Option, Some, None, refl, sym, ap, ◌∙◌, append_assoc, append-nil}
use Rattle.std.specs.List.{list_all}
use Rattle.term_meaning.specs.declared.leaf.Leaf.{Leaf}
use Rattle.term_meaning.specs.declared.progress.Progress.{Progress}
use Rattle.term_meaning.specs.declared.progress.Progress.TheVariants as progress
use Rattle.term_meaning.specs.declared.progress.Ran.{Ran}
use Rattle.term_meaning.specs.declared.progress.Running.{Running, roll-Running, out-Running, roll-out-Running}
use Rattle.term_meaning.specs.declared.stimulus.Binding.{Binding}
use Rattle.term_meaning.specs.declared.stimulus.Stimulus.{Stimulus}
use Rattle.term_meaning.specs.Operands.{Setting}
use Rattle.term_meaning.specs.Patterns.{Pattern, first_of, second_of}
use Rattle.term_meaning.specs.Start.{sides_of}
use Rattle.term_meaning.proofs.Bools.{and_parts}
use Rattle.term_meaning.specs.Step.{Step, Two, Copy, all_form, and_form, and_left, and_not_form, and_over, both_sides, either_over, followed_form, grow, growing, hears, is_due, is_gone, is_late, is_left, last_of, no_copies, not_and_form, or_form, run_copies, still, template_step, those_left, wait_step, with_left, with_right, within_form, xor_form}

-- a step that changes nothing
abbrev pub Stays : Step → Progress → Type 0
Stays step x = (p : Pattern) (seen : List Binding) (next : ℕ) → step p seen next ≡ still x next

pub template_stays : (s : Stimulus) (leaf : Leaf) (binds : Option ℕ) (next : ℕ) → hears s leaf ≡ false → is_late s leaf.until ≡ false → template_step s leaf binds next ≡ still (progress.Template leaf) next
template_stays s leaf binds next h k = rw (h, k) refl

pub wait_stays : (s : Stimulus) (number : ℕ) (due : ℤ) (next : ℕ) → is_due s due ≡ false → wait_step s number due next ≡ still (progress.Wait number due) next
wait_stays s number due next h = rw h refl

pub all_stays : (setting : Setting) (step : Step) (x : Progress) → Stays step x → is_gone x ≡ false → Stays (all_form setting step) (progress.All x)
unfolding all_form
all_stays setting step x k g p seen next = rw (k (first_of p) seen next, g) refl

pub within_stays : (s : Stimulus) (number : ℕ) (until : ℤ) (step : Step) (x : Progress) → Stays step x → is_due s until ≡ false → is_gone x ≡ false → Stays (within_form s number until step) (progress.Within number until x)
unfolding within_form
within_stays s number until step x k d g p seen next = rw (d, k (first_of p) seen next, g) refl

module _ (two : Two) (x y : Progress) (left : Stays two.0 x) (right : Stays two.1 y) where
  pub or_stays : is_gone x && is_gone y ≡ false → Stays (or_form two) (progress.Or (sides_of x y))
  unfolding or_form both_sides either_over
  or_stays g p seen next = rw (left (first_of p) seen next, right (second_of p) seen next, g) refl

  pub xor_stays : is_gone x && is_gone y ≡ false → Stays (xor_form two) (progress.Xor (sides_of x y))
  unfolding xor_form both_sides either_over
  xor_stays g p seen next = rw (left (first_of p) seen next, right (second_of p) seen next, g) refl

  pub and_not_stays : is_gone x ≡ false → Stays (and_not_form two) (progress.AndNot (sides_of x y))
  unfolding and_not_form both_sides
  and_not_stays g p seen next = rw (left (first_of p) seen next, right (second_of p) seen next, g) refl

  pub not_and_stays : is_gone y ≡ false → Stays (not_and_form two) (progress.NotAnd (sides_of x y))
  unfolding not_and_form both_sides
  not_and_stays g p seen next = rw (left (first_of p) seen next, right (second_of p) seen next, g) refl

  none_right : (o : Option (List Binding)) → with_right o [] ≡ []
  unfolding with_right
  none_right None = refl
  none_right (Some c) = refl

  none_left : (o : Option (List Binding)) → with_left o [] ≡ []
  unfolding with_left
  none_left None = refl
  none_left (Some c) = refl

  none_newer : (o : Option (List Binding)) → last_of o [] ≡ o
  unfolding last_of
  none_newer o = refl

  pub and_stays : (l r : Option (List Binding)) → and_over x y l r ≡ false → Stays (and_form two l r) (progress.And (sides_of x y) l r)
  unfolding and_form both_sides and_left
  and_stays l r g p seen next = rw (left (first_of p) seen next, right (second_of p) seen next, none_newer l, none_newer r, none_right r, none_left l, g) refl

-- ---- X -> Y

-- copies that stay
abbrev pub CopyStays : Copy → Running → Type 0
CopyStays copy r = (copy.0 ≡ (out-Running r).bindings) × Stays copy.1 (out-Running r).progress

abbrev pub ran_so : List Running → ℕ → Ran
ran_so copies next = record { completions = []; copies = copies; next = next; fitted = false }

again : (r : Running) → roll-Running (record { bindings = (out-Running r).bindings; progress = (out-Running r).progress }) ≡ r
again r = roll-out-Running r

-- every one of these steps leaves its copy as it is
abbrev pub AllStay : List Copy → List Running → Type 0
AllStay [] [] = Unit {0}
AllStay [] (r ∷ rs) = ⊥
AllStay (copy ∷ copies) [] = ⊥
AllStay (copy ∷ copies) (r ∷ rs) = CopyStays copy r × AllStay copies rs

pub copies_stay : (p : Pattern) (seen : List Binding) (next : ℕ) (copies : List Copy) (rs done : List Running) → AllStay copies rs → run_copies p seen (ran_so done next) copies ≡ ran_so (done ++ rs) next
unfolding run_copies
copies_stay p seen next [] [] done h = ap (λ c. ran_so c next) (sym (append-nil done))
copies_stay p seen next [] (r ∷ rs) done h = absurd h
copies_stay p seen next (copy ∷ copies) [] done h = absurd h
copies_stay p seen next (copy ∷ copies) (r ∷ rs) done h =
    rw (h.0.1 p copy.0 next, h.0.0, again r) (copies_stay p seen next copies rs (done ++ r ∷ []) h.1 ∙ ap (λ c. ran_so c next) (append_assoc done (r ∷ []) rs))

pub all_left : (rs : List Running) → list_all is_left rs ≡ true → those_left rs ≡ rs
all_left [] h = refl
all_left (r ∷ rs) h = let q = and_parts (is_left r) (list_all is_left rs) h in rw q.0 (ap (λ l. r ∷ l) (all_left rs q.1))

pub followed_stays : (setting : Setting) (step : Step) (x : Progress) (copies : List Copy) (rs : List Running) → Stays step x → AllStay copies rs → list_all is_left rs ≡ true → is_gone x && no_copies rs ≡ false
    → Stays (followed_form setting step copies) (progress.Followed x rs)
unfolding followed_form growing grow
followed_stays setting step x copies rs k h l g p seen next = rw (copies_stay (second_of p) seen next copies rs [] h, k (first_of p) seen next, all_left rs l, g) refl
