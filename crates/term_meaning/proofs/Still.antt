-- A stimulus for which nothing waits changes nothing, where each form goes on.
use Rattle.std.proofs.Common.{◌≡◌, ℕ, Bool, true, false, not, ◌&&◌, ◌||◌, List, [], ◌∷◌, map, Option, Some, None, refl, sym, ap, ap₂, ◌∙◌, subst}
use Rattle.std.specs.List.{list_all, list_any}
use Rattle.term_meaning.specs.declared.progress.Progress.{Progress, Progress-F, ind-Progress, roll-Progress, out-Progress, roll-out-Progress, map-Progress, fold-roll-Progress}
use Rattle.term_meaning.specs.declared.progress.Progress.TheOpen as layer
use Rattle.term_meaning.specs.declared.progress.Progress.TheOpen.{Running-F, Sides-F}
use Rattle.term_meaning.specs.declared.progress.Progress.TheVariants as progress
use Rattle.term_meaning.specs.declared.progress.Running.{Running, roll-Running, out-Running, out-roll-Running, map-Running, fold_out-Running}
use Rattle.term_meaning.specs.declared.progress.Sides.{Sides, roll-Sides, out-Sides, roll-out-Sides, out-roll-Sides, map-Sides, fold_out-Sides}
use Rattle.term_meaning.specs.declared.stimulus.Binding.{Binding}
use Rattle.term_meaning.specs.declared.stimulus.Stimulus.{Stimulus}
use Rattle.term_meaning.specs.Operands.{Setting}
use Rattle.term_meaning.specs.Patterns.{Pattern, binds_of}
use Rattle.term_meaning.specs.Start.{sides_of}
use Rattle.term_meaning.specs.Step.{Step, Two, Copy, and_over, is_gone, is_left, is_spent, no_copies, running_layer, sides_layer, step_copy, step_layer, step_of, step_sides, still}
use Rattle.term_meaning.specs.Waits.{Going, GoesOn, both_go, both_on, copy_goes, copy_on, copy_waits, either_waits, goes, goes_layer, never_completed, none, running_goes, sides_go, waits_in, waits_in_copy, waits_in_sides, waits_layer}
use Rattle.term_meaning.proofs.Bools.{and_parts, not_true, or_parts}
use Rattle.term_meaning.proofs.Forms.{AllStay, Stays, all_stays, and_not_stays, and_stays, followed_stays, not_and_stays, or_stays, template_stays, wait_stays, within_stays, xor_stays}

-- ---- what goes on, layer by layer

abbrev pub Layer : Type 0
Layer = Progress-F Progress Running Sides

pub goes_rolled : (x : Layer) → goes (roll-Progress x) ≡ goes_layer (map-Progress Progress Running Sides Going Going (Going × Going) goes running_goes sides_go x)
unfolding goes running_goes sides_go
goes_rolled x = fold-roll-Progress Going Going (Going × Going) goes_layer copy_goes both_go x

pub sides_goes : (r : Sides) → sides_go r ≡ (goes (out-Sides r).left, goes (out-Sides r).right)
unfolding goes sides_go
sides_goes r = fold_out-Sides Going Going (Going × Going) goes_layer copy_goes both_go r

pub copy_goes_is : (r : Running) → running_goes r ≡ goes (out-Running r).progress
unfolding goes running_goes
copy_goes_is r = fold_out-Running Going Going (Going × Going) goes_layer copy_goes both_go r

gone_as : (x : Layer) (p : Progress) → roll-Progress x ≡ p → (goes_layer (map-Progress Progress Running Sides Going Going (Going × Going) goes running_goes sides_go x)).gone ≡ is_gone p → (goes (roll-Progress x)).gone ≡ is_gone (roll-Progress x)
gone_as x p is e = ap (λ (g : Going). g.gone) (goes_rolled x) ∙ e ∙ ap is_gone (sym is)

gone_rolled : (x : Layer) → (goes (roll-Progress x)).gone ≡ is_gone (roll-Progress x)
unfolding is_gone
gone_rolled layer.Gone = gone_as layer.Gone progress.Gone progress.rolls-Gone refl
gone_rolled (layer.Template leaf) = gone_as (layer.Template leaf) (progress.Template leaf) (progress.rolls-Template leaf) refl
gone_rolled (layer.Wait number due) = gone_as (layer.Wait number due) (progress.Wait number due) (progress.rolls-Wait number due) refl
gone_rolled (layer.All x) = gone_as (layer.All x) (progress.All x) (progress.rolls-All x) refl
gone_rolled (layer.Followed x copies) = gone_as (layer.Followed x copies) (progress.Followed x copies) (progress.rolls-Followed x copies) refl
gone_rolled (layer.And two l r) = gone_as (layer.And two l r) (progress.And two l r) (progress.rolls-And two l r) refl
gone_rolled (layer.AndNot two) = gone_as (layer.AndNot two) (progress.AndNot two) (progress.rolls-AndNot two) refl
gone_rolled (layer.NotAnd two) = gone_as (layer.NotAnd two) (progress.NotAnd two) (progress.rolls-NotAnd two) refl
gone_rolled (layer.Or two) = gone_as (layer.Or two) (progress.Or two) (progress.rolls-Or two) refl
gone_rolled (layer.Xor two) = gone_as (layer.Xor two) (progress.Xor two) (progress.rolls-Xor two) refl
gone_rolled (layer.Within number until x) = gone_as (layer.Within number until x) (progress.Within number until x) (progress.rolls-Within number until x) refl

pub gone_is : (p : Progress) → (goes p).gone ≡ is_gone p
gone_is p = subst (λ q. (goes q).gone ≡ is_gone q) (roll-out-Progress p) (gone_rolled (out-Progress p))

pub left_is : (r : Running) → is_left r ≡ not (running_goes r).gone
unfolding is_left
left_is r = ap not (sym (gone_is (out-Running r).progress) ∙ ap (λ (g : Going). g.gone) (sym (copy_goes_is r)))

-- what is over of an `and` is told by whether its sides are gone
pub and_over_is : (x y : Progress) (l r : Option (List Binding)) → and_over x y l r ≡ (((goes x).gone && (goes y).gone) || (never_completed (goes x).gone l || never_completed (goes y).gone r))
unfolding and_over is_spent
and_over_is x y None None = rw (gone_is x, gone_is y) refl
and_over_is x y None (Some c) = rw (gone_is x, gone_is y) refl
and_over_is x y (Some c) None = rw (gone_is x, gone_is y) refl
and_over_is x y (Some c) (Some d) = rw (gone_is x, gone_is y) refl

module _ (s : Stimulus) where
  -- ---- what waits, layer by layer

  pub waits_rolled : (x : Layer) → waits_in s (roll-Progress x) ≡ waits_layer s (map-Progress Progress Running Sides Bool Bool Bool (waits_in s) (waits_in_copy s) (waits_in_sides s) x)
  unfolding waits_in waits_in_copy waits_in_sides
  waits_rolled x = fold-roll-Progress Bool Bool Bool (waits_layer s) copy_waits either_waits x

  pub sides_wait : (r : Sides) → waits_in_sides s r ≡ (waits_in s (out-Sides r).left || waits_in s (out-Sides r).right)
  unfolding waits_in waits_in_sides
  sides_wait r = fold_out-Sides Bool Bool Bool (waits_layer s) copy_waits either_waits r

  pub copy_wait : (r : Running) → waits_in_copy s r ≡ waits_in s (out-Running r).progress
  unfolding waits_in waits_in_copy
  copy_wait r = fold_out-Running Bool Bool Bool (waits_layer s) copy_waits either_waits r

module _ (setting : Setting) (s : Stimulus) where
  -- ---- steps, layer by layer

  pub steps_rolled : (x : Layer) (p : Pattern) (seen : List Binding) (next : ℕ) → step_of setting s (roll-Progress x) p seen next ≡ step_layer setting s (map-Progress Progress Running Sides Step Copy Two (step_of setting s) (step_copy setting s) (step_sides setting s) x) p seen next
  unfolding step_of step_copy step_sides
  steps_rolled x p seen next = ap (λ m. m p seen next) (fold-roll-Progress Step Copy Two (step_layer setting s) running_layer sides_layer x)

  pub sides_step : (r : Sides) → step_sides setting s r ≡ (step_of setting s (out-Sides r).left, step_of setting s (out-Sides r).right)
  unfolding step_of step_sides
  sides_step r = fold_out-Sides Step Copy Two (step_layer setting s) running_layer sides_layer r

  pub copy_step : (r : Running) → step_copy setting s r ≡ ((out-Running r).bindings, step_of setting s (out-Running r).progress)
  unfolding step_of step_copy
  copy_step r = fold_out-Running Step Copy Two (step_layer setting s) running_layer sides_layer r

  -- ---- the induction

  abbrev Still : Progress → Type 0
  Still p = GoesOn p → waits_in s p ≡ false → Stays (step_of setting s p) p

  abbrev CopyStill : Running → Type 0
  CopyStill r = Still (out-Running r).progress

  abbrev BothStill : Sides → Type 0
  BothStill r = Still (out-Sides r).left × Still (out-Sides r).right

  abbrev Known : Type 0
  Known = (p : Progress) × Still p

  abbrev KnownCopy : Type 0
  KnownCopy = (r : Running) × CopyStill r

  abbrev KnownSides : Type 0
  KnownSides = (r : Sides) × BothStill r

  abbrev named : Progress-F Known KnownCopy KnownSides → Layer
  named = map-Progress Known KnownCopy KnownSides Progress Running Sides (λ e. e.0) (λ e. e.0) (λ e. e.0)

  abbrev Gone : Layer → Going
  Gone x = goes_layer (map-Progress Progress Running Sides Going Going (Going × Going) goes running_goes sides_go x)

  -- both sides of a form that goes on stay
  record Parted (r : Sides) : Type 0 where
    left : Stays (step_sides setting s r).0 (out-Sides r).left
    right : Stays (step_sides setting s r).1 (out-Sides r).right

  parted : (two : KnownSides) → both_on (sides_go two.0) ≡ true → waits_in_sides s two.0 ≡ false → Parted two.0
  parted two g w =
      let r = two.0 in
      let on = and_parts (goes (out-Sides r).left).on (goes (out-Sides r).right).on (subst (λ (z : Going × Going). both_on z ≡ true) (sides_goes r) g) in
      let early = or_parts (waits_in s (out-Sides r).left) (waits_in s (out-Sides r).right) (sym (sides_wait s r) ∙ w) in
      record {
        left = subst (λ (z : Two). Stays z.0 (out-Sides r).left) (sym (sides_step r)) (two.1.0 on.0 early.0);
        right = subst (λ (z : Two). Stays z.1 (out-Sides r).right) (sym (sides_step r)) (two.1.1 on.1 early.1);
      }

  left_gone : (r : Sides) → (sides_go r).0.gone ≡ is_gone (out-Sides r).left
  left_gone r = ap (λ (z : Going × Going). z.0.gone) (sides_goes r) ∙ gone_is (out-Sides r).left

  right_gone : (r : Sides) → (sides_go r).1.gone ≡ is_gone (out-Sides r).right
  right_gone r = ap (λ (z : Going × Going). z.1.gone) (sides_goes r) ∙ gone_is (out-Sides r).right

  -- not both sides are gone
  one_left : (r : Sides) → not ((sides_go r).0.gone && (sides_go r).1.gone) ≡ true → is_gone (out-Sides r).left && is_gone (out-Sides r).right ≡ false
  one_left r h = ap₂ (λ a b. a && b) (sym (left_gone r)) (sym (right_gone r)) ∙ not_true _ h

  and_on : (r : Sides) (l m : Option (List Binding)) → not (((sides_go r).0.gone && (sides_go r).1.gone) || (never_completed (sides_go r).0.gone l || never_completed (sides_go r).1.gone m)) ≡ true → and_over (out-Sides r).left (out-Sides r).right l m ≡ false
  and_on r l m h = and_over_is (out-Sides r).left (out-Sides r).right l m
      ∙ subst (λ (z : Going × Going). ((z.0.gone && z.1.gone) || (never_completed z.0.gone l || never_completed z.1.gone m)) ≡ false) (sides_goes r) (not_true _ h)

  copies_still : (cs : List KnownCopy) → list_all copy_on (map running_goes (map (λ (e : KnownCopy). e.0) cs)) ≡ true → list_any (λ c. c) (map (waits_in_copy s) (map (λ (e : KnownCopy). e.0) cs)) ≡ false
      → AllStay (map (step_copy setting s) (map (λ (e : KnownCopy). e.0) cs)) (map (λ (e : KnownCopy). e.0) cs) × (list_all is_left (map (λ (e : KnownCopy). e.0) cs) ≡ true)
  copies_still [] g w = (tt, refl)
  copies_still (c ∷ cs) g w =
      let r = c.0 in
      let all = and_parts (copy_on (running_goes r)) _ g in
      let own = and_parts (not (running_goes r).gone) (running_goes r).on all.0 in
      let early = or_parts (waits_in_copy s r) _ w in
      let rest = copies_still cs all.1 early.1 in
      let first = c.1 (ap (λ (g : Going). g.on) (sym (copy_goes_is r)) ∙ own.1) (sym (copy_wait s r) ∙ early.0) in (
        (
          (
            ap (λ (z : Copy). z.0) (copy_step r),
            subst (λ (z : Copy). Stays z.1 (out-Running r).progress) (sym (copy_step r)) first,
          ),
          rest.0,
        ),
        rw (left_is r ∙ own.0) rest.1,
      )

  none_is : (cs : List KnownCopy) → none (map running_goes (map (λ (e : KnownCopy). e.0) cs)) ≡ no_copies (map (λ (e : KnownCopy). e.0) cs)
  none_is [] = refl
  none_is (c ∷ cs) = refl

  at : {x y : Progress} (next : ℕ) → x ≡ y → still y next ≡ still x next
  at next e = ap (λ p. still p next) (sym e)

  sided : (form : Sides → Progress) (r : Sides) (p : Progress) (next : ℕ) → p ≡ form r → still (form (sides_of (out-Sides r).left (out-Sides r).right)) next ≡ still p next
  sided form r p next is = ap (λ z. still (form z) next) (roll-out-Sides r) ∙ ap (λ z. still z next) (sym is)

  layer_still : (y : Progress-F Known KnownCopy KnownSides) → (Gone (named y)).on ≡ true → waits_layer s (map-Progress Progress Running Sides Bool Bool Bool (waits_in s) (waits_in_copy s) (waits_in_sides s) (named y)) ≡ false
      → (p : Pattern) (seen : List Binding) (next : ℕ) → step_layer setting s (map-Progress Progress Running Sides Step Copy Two (step_of setting s) (step_copy setting s) (step_sides setting s) (named y)) p seen next ≡ still (roll-Progress (named y)) next
  layer_still layer.Gone g w p seen next = at next progress.rolls-Gone
  layer_still (layer.Template leaf) g w p seen next = let q = or_parts _ _ w in template_stays s leaf (binds_of p) next q.0 q.1 ∙ at next (progress.rolls-Template leaf)
  layer_still (layer.Wait number due) g w p seen next = wait_stays s number due next w ∙ at next (progress.rolls-Wait number due)
  layer_still (layer.All x) g w p seen next =
      let q = and_parts _ _ g in
      all_stays setting (step_of setting s x.0) x.0 (x.1 q.1 w) (sym (gone_is x.0) ∙ not_true _ q.0) p seen next ∙ at next (progress.rolls-All x.0)
  layer_still (layer.Followed x cs) g w p seen next =
      let rs = map (λ (e : KnownCopy). e.0) cs in
      let q = and_parts _ _ g in
      let on = and_parts _ _ q.1 in
      let early = or_parts _ _ w in
      let copies = copies_still cs on.1 early.1 in
      followed_stays setting (step_of setting s x.0) x.0 (map (step_copy setting s) rs) rs (x.1 on.0 early.0) copies.0 copies.1 (ap₂ (λ a b. a && b) (sym (gone_is x.0)) (sym (none_is cs)) ∙ not_true _ q.0) p seen next
      ∙ at next (progress.rolls-Followed x.0 rs)
  layer_still (layer.And two l r) g w p seen next =
      let q = and_parts _ _ g in
      let both = parted two q.1 w in
      and_stays (step_sides setting s two.0) (out-Sides two.0).left (out-Sides two.0).right both.left both.right l r (and_on two.0 l r q.0) p seen next ∙ sided (λ z. progress.And z l r) two.0 _ next (progress.rolls-And two.0 l r)
  layer_still (layer.AndNot two) g w p seen next =
      let q = and_parts _ _ g in
      let both = parted two q.1 w in
      and_not_stays (step_sides setting s two.0) (out-Sides two.0).left (out-Sides two.0).right both.left both.right (sym (left_gone two.0) ∙ not_true _ q.0) p seen next ∙ sided progress.AndNot two.0 _ next (progress.rolls-AndNot two.0)
  layer_still (layer.NotAnd two) g w p seen next =
      let q = and_parts _ _ g in
      let both = parted two q.1 w in
      not_and_stays (step_sides setting s two.0) (out-Sides two.0).left (out-Sides two.0).right both.left both.right (sym (right_gone two.0) ∙ not_true _ q.0) p seen next ∙ sided progress.NotAnd two.0 _ next (progress.rolls-NotAnd two.0)
  layer_still (layer.Or two) g w p seen next =
      let q = and_parts _ _ g in
      let both = parted two q.1 w in
      or_stays (step_sides setting s two.0) (out-Sides two.0).left (out-Sides two.0).right both.left both.right (one_left two.0 q.0) p seen next ∙ sided progress.Or two.0 _ next (progress.rolls-Or two.0)
  layer_still (layer.Xor two) g w p seen next =
      let q = and_parts _ _ g in
      let both = parted two q.1 w in
      xor_stays (step_sides setting s two.0) (out-Sides two.0).left (out-Sides two.0).right both.left both.right (one_left two.0 q.0) p seen next ∙ sided progress.Xor two.0 _ next (progress.rolls-Xor two.0)
  layer_still (layer.Within number until x) g w p seen next =
      let q = and_parts _ _ g in
      let early = or_parts _ _ w in
      within_stays s number until (step_of setting s x.0) x.0 (x.1 q.1 early.1) early.0 (sym (gone_is x.0) ∙ not_true _ q.0) p seen next ∙ at next (progress.rolls-Within number until x.0)

  rolled_still : (y : Progress-F Known KnownCopy KnownSides) → Still (roll-Progress (named y))
  rolled_still y g w p seen next =
      steps_rolled (named y) p seen next
      ∙ layer_still y (sym (ap (λ (g : Going). g.on) (goes_rolled (named y))) ∙ g) (sym (waits_rolled s (named y)) ∙ w) p seen next

  progress_case : (x : Layer) (y : Progress-F Known KnownCopy KnownSides) → named y ≡ x → Still (roll-Progress x)
  progress_case x y is = subst (λ (z : Layer). Still (roll-Progress z)) is (rolled_still y)

  running_case : (x : Running-F Progress Running Sides) (y : Running-F Known KnownCopy KnownSides) → map-Running Known KnownCopy KnownSides Progress Running Sides (λ e. e.0) (λ e. e.0) (λ e. e.0) y ≡ x → CopyStill (roll-Running x)
  running_case x y is = subst Still (ap (λ (z : Running-F Progress Running Sides). z.progress) (is ∙ sym (out-roll-Running x))) y.progress.1

  sides_case : (x : Sides-F Progress Running Sides) (y : Sides-F Known KnownCopy KnownSides) → map-Sides Known KnownCopy KnownSides Progress Running Sides (λ e. e.0) (λ e. e.0) (λ e. e.0) y ≡ x → BothStill (roll-Sides x)
  sides_case x y is = (
    subst Still (ap (λ (z : Sides-F Progress Running Sides). z.left) (is ∙ sym (out-roll-Sides x))) y.left.1,
    subst Still (ap (λ (z : Sides-F Progress Running Sides). z.right) (is ∙ sym (out-roll-Sides x))) y.right.1,
  )

  -- where nothing waits for the stimulus, the step changes nothing
  pub nothing_moves : (p : Progress) → Still p
  nothing_moves = ind-Progress Still CopyStill BothStill progress_case running_case sides_case

pub nothing_stepped : (setting : Setting) (s : Stimulus) (x : Progress) (p : Pattern) (seen : List Binding) (next : ℕ) → GoesOn x → waits_in s x ≡ false → step_of setting s x p seen next ≡ still x next
nothing_stepped setting s x p seen next g w = nothing_moves setting s x g w p seen next
