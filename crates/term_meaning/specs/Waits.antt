-- What in an event expression waits for a stimulus, and whether each form in it goes on.
use Rattle.term_meaning.specs.Common.{Bool, true, false, not, List, [], Option, Some, None, Binding, Leaf, Progress, Running, Sides, Stimulus}
use Rattle.std.specs.Prelude.{◌≡◌, ◌∷◌, ◌&&◌, ◌||◌}
use Rattle.std.specs.List.{list_all, list_any}
use Rattle.term_meaning.specs.declared.progress.Progress.TheOpen.{Progress-F, Running-F, Sides-F}
use Rattle.term_meaning.specs.declared.progress.Progress.TheFolds.{fold-Progress, fold-Running, fold-Sides}
use Rattle.term_meaning.specs.Step.{hears, is_due, is_late}

-- ---- what waits

abbrev pub copy_waits : Running-F Bool Bool Bool → Bool
copy_waits r = r.progress

abbrev pub either_waits : Sides-F Bool Bool Bool → Bool
either_waits r = r.left || r.right

module _ (s : Stimulus) where
  -- the leaf of a template hears this, or its deadline is reached
  abbrev pub leaf_waits : Leaf → Bool
  leaf_waits leaf = hears s leaf || is_late s leaf.until

  abbrev pub waits_layer : Progress-F Bool Bool Bool → Bool
  waits_layer Progress-F.Gone = false
  waits_layer (Progress-F.Template leaf) = leaf_waits leaf
  waits_layer (Progress-F.Wait number due) = is_due s due
  waits_layer (Progress-F.All x) = x
  waits_layer (Progress-F.Followed x copies) = x || list_any (λ c. c) copies
  waits_layer (Progress-F.And two left right) = two
  waits_layer (Progress-F.AndNot two) = two
  waits_layer (Progress-F.NotAnd two) = two
  waits_layer (Progress-F.Or two) = two
  waits_layer (Progress-F.Xor two) = two
  waits_layer (Progress-F.Within number until x) = is_due s until || x

  -- something in it waits for the stimulus
  unfoldable pub waits_in : Progress → Bool
  waits_in = fold-Progress Bool Bool Bool waits_layer copy_waits either_waits

  unfoldable pub waits_in_sides : Sides → Bool
  waits_in_sides = fold-Sides Bool Bool Bool waits_layer copy_waits either_waits

  unfoldable pub waits_in_copy : Running → Bool
  waits_in_copy = fold-Running Bool Bool Bool waits_layer copy_waits either_waits

-- ---- what goes on

-- a part: whether nothing is left of it, and whether no form in it is over
pub record Going : Type 0 where
  pub gone : Bool
  pub on : Bool

abbrev pub going : Bool → Going
going on = record { gone = false; on = on }

abbrev pub both_on : Going × Going → Bool
both_on two = two.0.on && two.1.on

-- of a copy something is left
abbrev pub copy_on : Going → Bool
copy_on c = not c.gone && c.on

abbrev pub none : List Going → Bool
none [] = true
none (c ∷ cs) = false

abbrev pub never_completed : Bool → Option (List Binding) → Bool
never_completed gone None = gone
never_completed gone (Some last) = false

abbrev pub goes_layer : Progress-F Going Going (Going × Going) → Going
goes_layer Progress-F.Gone = record { gone = true; on = true }
goes_layer (Progress-F.Template leaf) = going true
goes_layer (Progress-F.Wait number due) = going true
goes_layer (Progress-F.All x) = going (not x.gone && x.on)
goes_layer (Progress-F.Followed x copies) = going (not (x.gone && none copies) && (x.on && list_all copy_on copies))
goes_layer (Progress-F.And two left right) = going (not ((two.0.gone && two.1.gone) || (never_completed two.0.gone left || never_completed two.1.gone right)) && both_on two)
goes_layer (Progress-F.AndNot two) = going (not two.0.gone && both_on two)
goes_layer (Progress-F.NotAnd two) = going (not two.1.gone && both_on two)
goes_layer (Progress-F.Or two) = going (not (two.0.gone && two.1.gone) && both_on two)
goes_layer (Progress-F.Xor two) = going (not (two.0.gone && two.1.gone) && both_on two)
goes_layer (Progress-F.Within number until x) = going (not x.gone && x.on)

abbrev pub copy_goes : Running-F Going Going (Going × Going) → Going
copy_goes r = r.progress

abbrev pub both_go : Sides-F Going Going (Going × Going) → Going × Going
both_go r = (r.left, r.right)

unfoldable pub goes : Progress → Going
goes = fold-Progress Going Going (Going × Going) goes_layer copy_goes both_go

unfoldable pub sides_go : Sides → Going × Going
sides_go = fold-Sides Going Going (Going × Going) goes_layer copy_goes both_go

unfoldable pub running_goes : Running → Going
running_goes = fold-Running Going Going (Going × Going) goes_layer copy_goes both_go

-- no form in it is over
abbrev pub GoesOn : Progress → Type 0
GoesOn p = (goes p).on ≡ true
