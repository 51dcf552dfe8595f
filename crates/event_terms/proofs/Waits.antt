-- What waits in each form of an event expression, as an equation.
use Rattle.std.proofs.Common.{◌≡◌, ℕ, ℤ, Bool, false, ◌||◌, List, map, Option, sym, ap, ◌∙◌}
use Rattle.std.specs.List.{list_any}
use Rattle.term_meaning.specs.declared.leaf.Leaf.{Leaf}
use Rattle.term_meaning.specs.declared.progress.Progress.{Progress, roll-Progress, map-Progress}
use Rattle.term_meaning.specs.declared.progress.Progress.TheVariants as progress
use Rattle.term_meaning.specs.declared.progress.Running.{Running, out-Running}
use Rattle.term_meaning.specs.declared.progress.Sides.{Sides, out-Sides}
use Rattle.term_meaning.specs.declared.stimulus.Binding.{Binding}
use Rattle.term_meaning.specs.declared.stimulus.Stimulus.{Stimulus}
use Rattle.term_meaning.specs.Step.{is_due}
use Rattle.term_meaning.specs.Waits.{leaf_waits, waits_in, waits_in_copy, waits_in_sides, waits_layer}
use Rattle.term_meaning.proofs.Still.{Layer, copy_wait, sides_wait, waits_rolled}

module _ (s : Stimulus) where
  rolled : {x : Progress} (d : Layer) → roll-Progress d ≡ x → waits_in s x ≡ waits_layer s (map-Progress Progress Running Sides Bool Bool Bool (waits_in s) (waits_in_copy s) (waits_in_sides s) d)
  rolled d is = ap (waits_in s) (sym is) ∙ waits_rolled s d

  pub waits-gone : waits_in s progress.Gone ≡ false
  waits-gone = rolled _ progress.rolls-Gone

  pub waits-template : (leaf : Leaf) → waits_in s (progress.Template leaf) ≡ leaf_waits s leaf
  waits-template leaf = rolled _ (progress.rolls-Template leaf)

  pub waits-wait : (number : ℕ) (due : ℤ) → waits_in s (progress.Wait number due) ≡ is_due s due
  waits-wait number due = rolled _ (progress.rolls-Wait number due)

  pub waits-all : (x : Progress) → waits_in s (progress.All x) ≡ waits_in s x
  waits-all x = rolled _ (progress.rolls-All x)

  pub waits-followed : (x : Progress) (copies : List Running) → waits_in s (progress.Followed x copies) ≡ (waits_in s x || list_any (λ c. c) (map (waits_in_copy s) copies))
  waits-followed x copies = rolled _ (progress.rolls-Followed x copies)

  pub waits-and : (two : Sides) (l r : Option (List Binding)) → waits_in s (progress.And two l r) ≡ waits_in_sides s two
  waits-and two l r = rolled _ (progress.rolls-And two l r)

  pub waits-and_not : (two : Sides) → waits_in s (progress.AndNot two) ≡ waits_in_sides s two
  waits-and_not two = rolled _ (progress.rolls-AndNot two)

  pub waits-not_and : (two : Sides) → waits_in s (progress.NotAnd two) ≡ waits_in_sides s two
  waits-not_and two = rolled _ (progress.rolls-NotAnd two)

  pub waits-or : (two : Sides) → waits_in s (progress.Or two) ≡ waits_in_sides s two
  waits-or two = rolled _ (progress.rolls-Or two)

  pub waits-xor : (two : Sides) → waits_in s (progress.Xor two) ≡ waits_in_sides s two
  waits-xor two = rolled _ (progress.rolls-Xor two)

  pub waits-within : (number : ℕ) (until : ℤ) (x : Progress) → waits_in s (progress.Within number until x) ≡ (is_due s until || waits_in s x)
  waits-within number until x = rolled _ (progress.rolls-Within number until x)

  pub sides_wait_is : (r : Sides) → waits_in_sides s r ≡ (waits_in s (out-Sides r).left || waits_in s (out-Sides r).right)
  sides_wait_is r = sides_wait s r

  pub copy_wait_is : (r : Running) → waits_in_copy s r ≡ waits_in s (out-Running r).progress
  copy_wait_is r = copy_wait s r

pub ruleset waiting = (waits-gone, waits-template, waits-wait, waits-all, waits-followed, waits-and, waits-and_not, waits-not_and, waits-or, waits-xor, waits-within)
