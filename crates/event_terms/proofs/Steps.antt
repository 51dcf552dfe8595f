-- How each form of an event expression steps, as an equation.
use Rattle.std.proofs.Common.{◌≡◌, ℕ, ℤ, List, map, Option, sym, ap, ◌∙◌}
use Rattle.term_meaning.specs.declared.leaf.Leaf.{Leaf}
use Rattle.term_meaning.specs.declared.progress.Progress.{Progress, roll-Progress, map-Progress}
use Rattle.term_meaning.specs.declared.progress.Progress.TheVariants as progress
use Rattle.term_meaning.specs.declared.progress.Running.{Running}
use Rattle.term_meaning.specs.declared.progress.Sides.{Sides, out-Sides}
use Rattle.term_meaning.specs.declared.stimulus.Binding.{Binding}
use Rattle.term_meaning.specs.declared.stimulus.Stimulus.{Stimulus}
use Rattle.term_meaning.specs.Operands.{Setting}
use Rattle.term_meaning.specs.Patterns.{Pattern, binds_of}
use Rattle.term_meaning.specs.Step.{Copy, Step, Two, all_form, and_form, and_not_form, followed_form, lapsed, not_and_form, or_form, step_copy, step_layer, step_of, step_sides, template_step, wait_step, within_form, xor_form}
use Rattle.term_meaning.proofs.Still.{Layer, sides_step, steps_rolled}

module _ (setting : Setting) (s : Stimulus) where
  rolled : {x : Progress} (d : Layer) → roll-Progress d ≡ x → (p : Pattern) (seen : List Binding) (next : ℕ) → step_of setting s x p seen next ≡ step_layer setting s (map-Progress Progress Running Sides Step Copy Two (step_of setting s) (step_copy setting s) (step_sides setting s) d) p seen next
  rolled d is p seen next = ap (λ x. step_of setting s x p seen next) (sym is) ∙ steps_rolled setting s d p seen next

  module _ (p : Pattern) (seen : List Binding) (next : ℕ) where
    pub step-gone : step_of setting s progress.Gone p seen next ≡ lapsed next
    step-gone = rolled _ progress.rolls-Gone p seen next

    pub step-template : (leaf : Leaf) → step_of setting s (progress.Template leaf) p seen next ≡ template_step s leaf (binds_of p) next
    step-template leaf = rolled _ (progress.rolls-Template leaf) p seen next

    pub step-wait : (number : ℕ) (due : ℤ) → step_of setting s (progress.Wait number due) p seen next ≡ wait_step s number due next
    step-wait number due = rolled _ (progress.rolls-Wait number due) p seen next

    pub step-all : (x : Progress) → step_of setting s (progress.All x) p seen next ≡ all_form setting (step_of setting s x) p seen next
    step-all x = rolled _ (progress.rolls-All x) p seen next

    pub step-followed : (x : Progress) (copies : List Running) → step_of setting s (progress.Followed x copies) p seen next ≡ followed_form setting (step_of setting s x) (map (step_copy setting s) copies) p seen next
    step-followed x copies = rolled _ (progress.rolls-Followed x copies) p seen next

    pub step-and : (two : Sides) (l r : Option (List Binding)) → step_of setting s (progress.And two l r) p seen next ≡ and_form (step_sides setting s two) l r p seen next
    step-and two l r = rolled _ (progress.rolls-And two l r) p seen next

    pub step-and_not : (two : Sides) → step_of setting s (progress.AndNot two) p seen next ≡ and_not_form (step_sides setting s two) p seen next
    step-and_not two = rolled _ (progress.rolls-AndNot two) p seen next

    pub step-not_and : (two : Sides) → step_of setting s (progress.NotAnd two) p seen next ≡ not_and_form (step_sides setting s two) p seen next
    step-not_and two = rolled _ (progress.rolls-NotAnd two) p seen next

    pub step-or : (two : Sides) → step_of setting s (progress.Or two) p seen next ≡ or_form (step_sides setting s two) p seen next
    step-or two = rolled _ (progress.rolls-Or two) p seen next

    pub step-xor : (two : Sides) → step_of setting s (progress.Xor two) p seen next ≡ xor_form (step_sides setting s two) p seen next
    step-xor two = rolled _ (progress.rolls-Xor two) p seen next

    pub step-within : (number : ℕ) (until : ℤ) (x : Progress) → step_of setting s (progress.Within number until x) p seen next ≡ within_form s number until (step_of setting s x) p seen next
    step-within number until x = rolled _ (progress.rolls-Within number until x) p seen next

  pub step_left : (r : Sides) → (step_sides setting s r).0 ≡ step_of setting s (out-Sides r).left
  step_left r = ap (λ (z : Two). z.0) (sides_step setting s r)

  pub step_right : (r : Sides) → (step_sides setting s r).1 ≡ step_of setting s (out-Sides r).right
  step_right r = ap (λ (z : Two). z.1) (sides_step setting s r)

pub ruleset stepping = (step-gone, step-template, step-wait, step-all, step-followed, step-and, step-and_not, step-not_and, step-or, step-xor, step-within)
