-- Each form of an event expression steps to what fits, where its parts do.
use Rattle.std.proofs.Common.{◌≡◌, ◌-◌, ◌∷◌, ◌++◌}
use Rattle.std.specs.Prelude.{if◌then◌else◌}
use Rattle.std.proofs.lemmas.List.Elements.{All-drop, All-filter, All-head, All-map, All-weaker, recursion_from_All}
use Rattle.term_meaning.specs.declared.progress.Both.{Both}
use Rattle.term_meaning.specs.declared.progress.Grown.{Grown}
use Rattle.term_meaning.specs.declared.progress.Progress.TheVariants as progress
use Rattle.term_meaning.specs.declared.progress.Ran.{Ran}
use Rattle.term_meaning.specs.declared.progress.Stepped.{Stepped}
use Rattle.term_meaning.specs.Patterns.{binds_of, first_of, second_of}
use Rattle.term_meaning.specs.Start.{sides_of, start_of}
use Rattle.term_meaning.specs.Step.{Copy, Step, Two, all_form, and_form, and_left, and_not_form, behind, both_sides, bound as bound_by, completed, completes, copy_of, followed_form, grow, growing, grown, heard, hears, is_due, is_gone, is_late, is_left, is_ordinary, lapsed, last_of, newer, none_ran, not_and_form, or_form, run_copies, run_copy, still, template_step, those_left, wait_step, with_left, with_right, within_form, within_step, xor_form}
use Rattle.term_shapes.specs.Kept.{is_all, is_and, is_and_not, is_followed, is_not_and, is_or, is_template_of, is_wait, is_within, is_xor}
use Rattle.term_shapes.proofs.Common.{ℕ, ℤ, All, Bool, List, Option, Some, None, [], drop, length, map, refl, slice_get, true, cond_both, AllByRecursion, All-append, All-cons, All-nil, All-push, EventShape, Local, Leaf, Progress, Binding, Stimulus, Setting, Pattern, BindingFits, CompletionFits, CompletionsFit, HeardFits, ProgressFits}
use Rattle.term_shapes.proofs.Lists.{all_at}
use Rattle.term_shapes.proofs.Binding.{AllBind}
use Rattle.term_shapes.proofs.Fitting.{CopyFits, LastFits, SidesFit, all_fits, and_fits, and_not_fits, copies_in, copy_in, followed_fits, gone_fits, not_and_fits, or_fits, sides_in, template_fits, unless_fits, wait_fits, within_fits, xor_fits}
use Rattle.term_shapes.proofs.Starting.{start_fits}
use Rattle.term_shapes.proofs.Hearing.{heard_binds}

module _ (types : List EventShape) (bound : List Local) where
  -- ---- what a step gives

  -- what is left and what is given
  pub record SteppedFits (p : Pattern) (a : Stepped) : Type 0 where
    pub left : ProgressFits types bound p a.left
    pub completions : CompletionsFit types bound a.completions

  -- a step of a pattern, whatever fits was bound before
  pub record Good (p : Pattern) (step : Step) : Type 0 where
    pub from : (seen : List Binding) → CompletionFits types bound seen → (next : ℕ) → SteppedFits p (step p seen next)

  -- the steps of both sides
  pub record BothGood (p : Pattern) (two : Two) : Type 0 where
    pub left : Good (first_of p) two.0
    pub right : Good (second_of p) two.1

  -- a copy, with what it was started with
  pub record CopyGood (p : Pattern) (copy : Copy) : Type 0 where
    pub bindings : CompletionFits types bound copy.0
    pub step : Good p copy.1

  -- no completions
  abbrev no_completions : CompletionsFit types bound []
  no_completions = All-nil (CompletionFits types bound)

  -- one that stays
  still_fits : (p : Pattern) (x : Progress) (next : ℕ) → ProgressFits types bound p x → SteppedFits p (still x next)
  still_fits p x next h = record { left = h; completions = no_completions }

  -- one that lapses
  lapsed_fits : (p : Pattern) (next : ℕ) → SteppedFits p (lapsed next)
  lapsed_fits p next = still_fits p progress.Gone next (gone_fits types bound p)

  -- one that completes
  completes_fits : (p : Pattern) (bindings : List Binding) (next : ℕ) (fitted : Bool) → CompletionFits types bound bindings → SteppedFits p (completes bindings next fitted)
  completes_fits p bindings next fitted h = record { left = gone_fits types bound p; completions = All-cons (CompletionFits types bound) bindings [] h no_completions }

  -- completions, each with more in front of it
  each_behind : (front : List Binding) (cs : List (List Binding)) → CompletionFits types bound front → CompletionsFit types bound cs → CompletionsFit types bound (map (λ c. front ++ c) cs)
  each_behind front cs h k =
      All-map (CompletionFits types bound) (λ c. front ++ c) cs
      (All-weaker (CompletionFits types bound) (λ c. CompletionFits types bound (front ++ c)) (λ c it. All-append (BindingFits types bound) front c h it) cs k)

  -- completions, each with more behind it
  each_before : (end : List Binding) (cs : List (List Binding)) → CompletionFits types bound end → CompletionsFit types bound cs → CompletionsFit types bound (map (λ c. c ++ end) cs)
  each_before end cs h k =
      All-map (CompletionFits types bound) (λ c. c ++ end) cs
      (All-weaker (CompletionFits types bound) (λ c. CompletionFits types bound (c ++ end)) (λ c it. All-append (BindingFits types bound) c end it h) cs k)

  -- ---- leaves and groups

  -- nothing
  pub gone_good : (p : Pattern) → Good p (λ p seen next. lapsed next)
  gone_good p = record { from = λ seen h next. lapsed_fits p next }

  -- a template
  pub template_good : (s : Stimulus) (p : Pattern) (leaf : Leaf) → HeardFits types s → AllBind bound p → is_template_of leaf p ≡ true → Good p (λ p seen next. template_step s leaf (binds_of p) next)
  template_good s p leaf f binds is = record {
    from = λ seen h next.
        cond_both (hears s leaf) (completes (bound_by (binds_of p) (heard leaf.mode s)) next (is_ordinary leaf.mode)) _ (SteppedFits p)
        (λ hearing. completes_fits p (bound_by (binds_of p) (heard leaf.mode s)) next (is_ordinary leaf.mode) (heard_binds types bound p leaf s is binds f hearing))
        (λ _. cond_both (is_late s leaf.until) (lapsed next) (still (progress.Template leaf) next) (SteppedFits p) (λ _. lapsed_fits p next) (λ _. still_fits p (progress.Template leaf) next (template_fits types bound p leaf is)));
  }

  -- a wait
  pub wait_good : (s : Stimulus) (p : Pattern) (number : ℕ) (due : ℤ) → is_wait p ≡ true → Good p (λ p seen next. wait_step s number due next)
  wait_good s p number due is = record {
    from = λ seen h next.
        cond_both (is_due s due) (completes [] next _) (still (progress.Wait number due) next) (SteppedFits p)
        (λ _. completes_fits p [] next _ (All-nil (BindingFits types bound)))
        (λ _. still_fits p (progress.Wait number due) next (wait_fits types bound p number due is));
  }

  -- a group with a deadline
  pub within_good : (s : Stimulus) (p : Pattern) (number : ℕ) (until : ℤ) (x : Step) → is_within p ≡ true → Good (first_of p) x → Good p (within_form s number until x)
  unfolding within_form
  within_good s p number until x is good = record {
    from = λ seen h next.
        let a = good.from seen h next in
        cond_both (is_due s until) (lapsed next) (within_step number until (x (first_of p) seen next)) (SteppedFits p) (λ _. lapsed_fits p next)
        (λ _. record { left = unless_fits types bound p _ _ (within_fits types bound p number until (x (first_of p) seen next).left is a.left); completions = a.completions });
  }

  -- ---- all

  -- where X has nothing left, it begins anew
  pub all_good : (setting : Setting) (p : Pattern) (x : Step) → is_all p ≡ true → Good (first_of p) x → Good p (all_form setting x)
  unfolding all_form
  all_good setting p x is good = record {
    from = λ seen h next.
        let a = x (first_of p) seen next in
        let fits = good.from seen h next in
        let again = start_of setting (first_of p) seen a.next in
        cond_both (is_gone a.left) (record a { left = progress.All again.progress; next = again.next }) (record a { left = progress.All a.left }) (SteppedFits p)
        (λ _. record { left = all_fits types bound p again.progress is (start_fits types bound setting seen (first_of p) a.next); completions = fits.completions })
        (λ _. record { left = all_fits types bound p a.left is fits.left; completions = fits.completions });
  }

  -- ---- ->

  -- what copies gave, and have come to
  record RanFits (p : Pattern) (ran : Ran) : Type 0 where
    completions : CompletionsFit types bound ran.completions
    copies : All (CopyFits types bound p) ran.copies

  -- one more copy is stepped
  copy_runs : (p : Pattern) (seen : List Binding) (ran : Ran) (copy : Copy) → RanFits p ran → CopyGood p copy → RanFits p (run_copy p seen ran copy)
  copy_runs p seen ran copy h good =
      let a = copy.1 p copy.0 ran.next in
      let fits = good.step.from copy.0 good.bindings ran.next in
      let front = drop (length seen) copy.0 in
      record {
        completions = All-append (CompletionFits types bound) ran.completions (behind front a.completions) h.completions (each_behind front a.completions (All-drop (BindingFits types bound) (length seen) copy.0 good.bindings) fits.completions);
        copies = All-push (CopyFits types bound p) ran.copies (copy_of copy.0 a.left) h.copies (copy_in types bound p copy.0 a.left good.bindings fits.left);
      }

  -- copies are stepped
  copies_run : (p : Pattern) (seen : List Binding) (ran : Ran) (copies : List Copy) → RanFits p ran → AllByRecursion (CopyGood p) copies → RanFits p (run_copies p seen ran copies)
  unfolding run_copies
  copies_run p seen ran [] h good = h
  copies_run p seen ran (copy ∷ copies) h good = copies_run p seen (run_copy p seen ran copy) copies (copy_runs p seen ran copy h good.0) good.1

  -- completions of X start copies of Y
  copies_grow : (setting : Setting) (p : Pattern) (seen : List Binding) (g : Grown) (cs : List (List Binding)) → CompletionFits types bound seen → All (CopyFits types bound p) g.copies → AllByRecursion (CompletionFits types bound) cs → All (CopyFits types bound p) (grow (start_of setting p) seen g cs).copies
  unfolding grow
  copies_grow setting p seen g [] h copies k = copies
  copies_grow setting p seen g (c ∷ cs) h copies k =
      let all = All-append (BindingFits types bound) seen c h k.0 in
      let a = start_of setting p (seen ++ c) g.next in
      copies_grow setting p seen (grown (start_of setting p) seen g c) cs h (All-push (CopyFits types bound p) g.copies (copy_of (seen ++ c) a.progress) copies (copy_in types bound p (seen ++ c) a.progress all (start_fits types bound setting (seen ++ c) p g.next))) k.1

  -- `X -> Y`
  pub followed_good : (setting : Setting) (p : Pattern) (x : Step) (copies : List Copy) → is_followed p ≡ true → Good (first_of p) x → AllByRecursion (CopyGood (second_of p)) copies → Good p (followed_form setting x copies)
  unfolding followed_form growing
  followed_good setting p x copies is good each = record {
    from = λ seen h next.
        let ran = run_copies (second_of p) seen (none_ran next) copies in
        let a = x (first_of p) seen ran.next in
        let fits = good.from seen h ran.next in
        let runs = copies_run (second_of p) seen (none_ran next) copies (record { completions = no_completions; copies = All-nil (CopyFits types bound (second_of p)) }) each in
        let begin : Grown = record { copies = those_left ran.copies; next = a.next } in
        let g = grow (start_of setting (second_of p)) seen begin a.completions in
        let grows = copies_grow setting (second_of p) seen begin a.completions h (All-filter is_left (CopyFits types bound (second_of p)) ran.copies runs.copies) (recursion_from_All (CompletionFits types bound) a.completions fits.completions) in
        record {
          left = unless_fits types bound p _ _ (followed_fits types bound p a.left g.copies is fits.left (copies_in types bound (second_of p) g.copies grows));
          completions = runs.completions;
        };
  }

  -- ---- forms on two operands

  -- what both sides gave
  record BothFit (p : Pattern) (b : Both) : Type 0 where
    left : SteppedFits (first_of p) b.left
    right : SteppedFits (second_of p) b.right

  -- both sides are stepped
  both_fit : (p : Pattern) (two : Two) (seen : List Binding) (next : ℕ) → BothGood p two → CompletionFits types bound seen → BothFit p (both_sides two p seen next)
  unfolding both_sides
  both_fit p two seen next good h = record { left = good.left.from seen h next; right = good.right.from seen h (two.0 (first_of p) seen next).next }

  -- what is left of both sides
  sides_left : (p : Pattern) (b : Both) → BothFit p b → SidesFit types bound p (sides_of b.left.left b.right.left)
  sides_left p b h = sides_in types bound p b.left.left b.right.left h.left.left h.right.left

  -- completions that are given or not
  either : (first : Bool) (cs ds : List (List Binding)) → CompletionsFit types bound cs → CompletionsFit types bound ds → CompletionsFit types bound (if first then cs else ds)
  either first cs ds h k = cond_both first cs ds (CompletionsFit types bound) (λ _. h) (λ _. k)

  -- the newer of two completions
  newer_fits : (last o : Option (List Binding)) → LastFits types bound last → LastFits types bound o → LastFits types bound (newer last o)
  newer_fits last None h k = h
  newer_fits last (Some c) h k = k

  -- a completion at a place, where there is one
  found_fits : (cs : List (List Binding)) (n : ℕ) (o : Option (List Binding)) → slice_get cs n ≡ o → CompletionsFit types bound cs → LastFits types bound o
  found_fits cs n None at h = no_completions
  found_fits cs n (Some c) at h = All-cons (CompletionFits types bound) c [] (all_at (CompletionFits types bound) cs n c h at) no_completions

  -- the last completion of a side after a step
  last_fits : (last : Option (List Binding)) (cs : List (List Binding)) → LastFits types bound last → CompletionsFit types bound cs → LastFits types bound (last_of last cs)
  unfolding last_of
  last_fits last cs h k = newer_fits last (slice_get cs (length cs - 1)) h (found_fits cs (length cs - 1) (slice_get cs (length cs - 1)) refl k)

  -- completions with the last one of the right
  right_fits : (last : Option (List Binding)) (cs : List (List Binding)) → LastFits types bound last → CompletionsFit types bound cs → CompletionsFit types bound (with_right last cs)
  unfolding with_right
  right_fits None cs h k = no_completions
  right_fits (Some c) cs h k = each_before c cs (All-head (CompletionFits types bound) c [] h) k

  -- completions with the last one of the left
  left_fits : (last : Option (List Binding)) (cs : List (List Binding)) → LastFits types bound last → CompletionsFit types bound cs → CompletionsFit types bound (with_left last cs)
  unfolding with_left
  left_fits None cs h k = no_completions
  left_fits (Some c) cs h k = each_behind c cs (All-head (CompletionFits types bound) c [] h) k

  -- `X and Y`
  pub and_good : (p : Pattern) (two : Two) (left right : Option (List Binding)) → is_and p ≡ true → BothGood p two → LastFits types bound left → LastFits types bound right → Good p (and_form two left right)
  unfolding and_form and_left
  and_good p two left right is good l r = record {
    from = λ seen h next.
        let b = both_sides two p seen next in
        let fits = both_fit p two seen next good h in
        let x = last_fits left b.left.completions l fits.left.completions in
        let y = last_fits right b.right.completions r fits.right.completions in
        record {
          left = unless_fits types bound p _ _ (and_fits types bound p (sides_of b.left.left b.right.left) (last_of left b.left.completions) (last_of right b.right.completions) is (sides_left p b fits) x y);
          completions = All-append (CompletionFits types bound) (with_right right b.left.completions) (with_left (last_of left b.left.completions) b.right.completions) (right_fits right b.left.completions r fits.left.completions) (left_fits (last_of left b.left.completions) b.right.completions x fits.right.completions);
        };
  }

  -- `X and not Y`
  pub and_not_good : (p : Pattern) (two : Two) → is_and_not p ≡ true → BothGood p two → Good p (and_not_form two)
  unfolding and_not_form
  and_not_good p two is good = record {
    from = λ seen h next.
        let b = both_sides two p seen next in
        let fits = both_fit p two seen next good h in
        record {
          left = unless_fits types bound p _ _ (and_not_fits types bound p (sides_of b.left.left b.right.left) is (sides_left p b fits));
          completions = either (completed b.right) [] b.left.completions no_completions fits.left.completions;
        };
  }

  -- `not X and Y`
  pub not_and_good : (p : Pattern) (two : Two) → is_not_and p ≡ true → BothGood p two → Good p (not_and_form two)
  unfolding not_and_form
  not_and_good p two is good = record {
    from = λ seen h next.
        let b = both_sides two p seen next in
        let fits = both_fit p two seen next good h in
        record {
          left = unless_fits types bound p _ _ (not_and_fits types bound p (sides_of b.left.left b.right.left) is (sides_left p b fits));
          completions = either (completed b.left) [] b.right.completions no_completions fits.right.completions;
        };
  }

  -- `X or Y`
  pub or_good : (p : Pattern) (two : Two) → is_or p ≡ true → BothGood p two → Good p (or_form two)
  unfolding or_form
  or_good p two is good = record {
    from = λ seen h next.
        let b = both_sides two p seen next in
        let fits = both_fit p two seen next good h in
        record {
          left = unless_fits types bound p _ _ (or_fits types bound p (sides_of b.left.left b.right.left) is (sides_left p b fits));
          completions = either (completed b.left) b.left.completions b.right.completions fits.left.completions fits.right.completions;
        };
  }

  -- `X xor Y`
  pub xor_good : (p : Pattern) (two : Two) → is_xor p ≡ true → BothGood p two → Good p (xor_form two)
  unfolding xor_form
  xor_good p two is good = record {
    from = λ seen h next.
        let b = both_sides two p seen next in
        let fits = both_fit p two seen next good h in
        record {
          left = unless_fits types bound p _ _ (xor_fits types bound p (sides_of b.left.left b.right.left) is (sides_left p b fits));
          completions = either (completed b.left) (if completed b.right then [] else b.left.completions) b.right.completions (either (completed b.right) [] b.left.completions no_completions fits.left.completions) fits.right.completions;
        };
  }
