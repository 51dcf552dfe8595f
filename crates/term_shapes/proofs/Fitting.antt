-- What an event expression keeps, form by form: put together and taken apart.
use Rattle.std.proofs.Common.{◌≡◌, ◌&&◌, ◌∷◌, ◌++◌}
use Rattle.std.proofs.lemmas.List.Elements.{recursion_from_All}
use Rattle.std.specs.List.{flat_map}
use Rattle.std.specs.Option.{option_to_list}
use Rattle.term_meaning.specs.declared.progress.Progress.{fold-roll-Progress}
use Rattle.term_meaning.specs.declared.progress.Progress.TheFolds.{fold-Running, fold-Sides}
use Rattle.term_meaning.specs.declared.progress.Progress.TheVariants as progress
use Rattle.term_meaning.specs.declared.progress.Running.{out-roll-Running, fold_out-Running}
use Rattle.term_meaning.specs.declared.progress.Sides.{fold-roll-Sides, fold_out-Sides}
use Rattle.term_meaning.specs.Patterns.{first_of, second_of}
use Rattle.term_meaning.specs.Start.{sides_of}
use Rattle.term_meaning.specs.Step.{copy_of, unless}
use Rattle.term_shapes.specs.Kept.{is_all, is_and, is_and_not, is_followed, is_not_and, is_of, is_or, is_template_of, is_wait, is_within, is_xor, kept_in, kept_layer, kept_running, kept_sides, shaped_layer, shaped_running, shaped_sides}
use Rattle.term_shapes.proofs.Common.{ℕ, ℤ, All, Bool, List, Option, [], ap, map, refl, subst, sym, true, ◌∙◌, and_from, and_parts, cond_both, list_all, AllByRecursion, All-append, All-cons, All-head, All-nil, All-tail, EventShape, Local, Leaf, Progress, Progress-F, Running-F, Sides-F, Running, Sides, map-Progress, roll-Progress, out-Running, out-Sides, Binding, Pattern, CompletionFits, CompletionsFit, ProgressFits, Test}
use Rattle.term_shapes.proofs.Lists.{all_first, all_second}

-- completions
abbrev pub Kept : Type 0
Kept = List (List Binding)

-- those that a copy keeps
abbrev pub kept_of_copy : Running → Kept
kept_of_copy = fold-Running Kept Kept Kept kept_layer kept_running kept_sides

-- and those that both sides keep
abbrev pub kept_of_sides : Sides → Kept
kept_of_sides = fold-Sides Kept Kept Kept kept_layer kept_running kept_sides

-- whether a copy has the forms of a pattern
abbrev pub test_of_copy : Running → Test
test_of_copy = fold-Running Test Test Test shaped_layer shaped_running shaped_sides

-- and both sides
abbrev pub test_of_sides : Sides → Test
test_of_sides = fold-Sides Test Test Test shaped_layer shaped_running shaped_sides

-- of a layer, what its parts keep, and their tests
abbrev pub kept_parts : Progress-F Progress Running Sides → Progress-F Kept Kept Kept
kept_parts d = map-Progress Progress Running Sides Kept Kept Kept kept_in kept_of_copy kept_of_sides d

-- and the tests of its parts
abbrev pub tests : Progress-F Progress Running Sides → Progress-F Test Test Test
tests d = map-Progress Progress Running Sides Test Test Test is_of test_of_copy test_of_sides d

module _ (types : List EventShape) (bound : List Local) where
  -- ---- layers

  -- a layer of an expression of a pattern that keeps what fits
  pub record LayerFits (p : Pattern) (d : Progress-F Progress Running Sides) : Type 0 where
    pub shaped : shaped_layer (tests d) p ≡ true
    pub kept : CompletionsFit types bound (kept_layer (kept_parts d))

  -- an expression from its layer
  rolled : (p : Pattern) (d : Progress-F Progress Running Sides) → LayerFits p d → ProgressFits types bound p (roll-Progress d)
  unfolding is_of kept_in
  rolled p d h = record {
    shaped = ap (λ (f : Test). f p) (fold-roll-Progress Test Test Test shaped_layer shaped_running shaped_sides d) ∙ h.shaped;
    kept = subst (CompletionsFit types bound) (sym (fold-roll-Progress Kept Kept Kept kept_layer kept_running kept_sides d)) h.kept;
  }

  -- an expression of a form, from its layer
  pub as_form : (p : Pattern) (d : Progress-F Progress Running Sides) (x : Progress) → roll-Progress d ≡ x → LayerFits p d → ProgressFits types bound p x
  as_form p d x is h = subst (ProgressFits types bound p) is (rolled p d h)

  -- the layer of an expression
  pub layer_of : (p : Pattern) (d : Progress-F Progress Running Sides) → ProgressFits types bound p (roll-Progress d) → LayerFits p d
  unfolding is_of kept_in
  layer_of p d h = record {
    shaped = sym (ap (λ (f : Test). f p) (fold-roll-Progress Test Test Test shaped_layer shaped_running shaped_sides d)) ∙ h.shaped;
    kept = subst (CompletionsFit types bound) (fold-roll-Progress Kept Kept Kept kept_layer kept_running kept_sides d) h.kept;
  }

  -- ---- both sides

  -- both sides of a form on two operands
  pub record SidesFit (p : Pattern) (sides : Sides) : Type 0 where
    pub shaped : test_of_sides sides p ≡ true
    pub kept : CompletionsFit types bound (kept_of_sides sides)

  -- two that fit, as both sides
  pub sides_in : (p : Pattern) (x y : Progress) → ProgressFits types bound (first_of p) x → ProgressFits types bound (second_of p) y → SidesFit p (sides_of x y)
  unfolding is_of kept_in
  sides_in p x y h k =
      let both : Sides-F Progress Running Sides = record { left = x; right = y } in
      record {
        shaped = ap (λ (f : Test). f p) (fold-roll-Sides Test Test Test shaped_layer shaped_running shaped_sides both) ∙ and_from (is_of x (first_of p)) (is_of y (second_of p)) h.shaped k.shaped;
        kept = subst (CompletionsFit types bound) (sym (fold-roll-Sides Kept Kept Kept kept_layer kept_running kept_sides both)) (All-append (CompletionFits types bound) (kept_in x) (kept_in y) h.kept k.kept);
      }

  -- each of both sides
  pub sides_out : (p : Pattern) (sides : Sides) → SidesFit p sides → ProgressFits types bound (first_of p) (out-Sides sides).left × ProgressFits types bound (second_of p) (out-Sides sides).right
  unfolding is_of kept_in
  sides_out p sides h =
      let both = and_parts (is_of (out-Sides sides).left (first_of p)) (is_of (out-Sides sides).right (second_of p)) (sym (ap (λ (f : Test). f p) (fold_out-Sides Test Test Test shaped_layer shaped_running shaped_sides sides)) ∙ h.shaped) in
      let kept = subst (CompletionsFit types bound) (fold_out-Sides Kept Kept Kept kept_layer kept_running kept_sides sides) h.kept in (
        record { shaped = both.0; kept = all_first (CompletionFits types bound) (kept_in (out-Sides sides).left) (kept_in (out-Sides sides).right) kept },
        record { shaped = both.1; kept = all_second (CompletionFits types bound) (kept_in (out-Sides sides).left) (kept_in (out-Sides sides).right) kept },
      )

  -- ---- copies

  -- a copy of a pattern, started with what fits
  pub record CopyLayer (p : Pattern) (r : Running-F Progress Running Sides) : Type 0 where
    pub bindings : CompletionFits types bound r.bindings
    pub progress : ProgressFits types bound p r.progress

  -- the same of the copy itself
  abbrev pub CopyFits : Pattern → Running → Type 0
  CopyFits p copy = CopyLayer p (out-Running copy)

  -- a copy of what fits
  pub copy_in : (p : Pattern) (bindings : List Binding) (x : Progress) → CompletionFits types bound bindings → ProgressFits types bound p x → CopyFits p (copy_of bindings x)
  copy_in p bindings x h k = subst (CopyLayer p) (sym (out-roll-Running (record { bindings = bindings; progress = x }))) (record { bindings = h; progress = k })

  -- copies together
  pub record CopiesFit (p : Pattern) (copies : List Running) : Type 0 where
    pub shaped : list_all (λ (test : Test). test p) (map test_of_copy copies) ≡ true
    pub kept : CompletionsFit types bound (flat_map (λ kept. kept) (map kept_of_copy copies))

  -- the test of a copy is that of its expression
  copy_test : (copy : Running) (p : Pattern) → test_of_copy copy p ≡ is_of (out-Running copy).progress p
  unfolding is_of
  copy_test copy p = ap (λ (f : Test). f p) (fold_out-Running Test Test Test shaped_layer shaped_running shaped_sides copy)

  -- a copy keeps what it was started with, and what its expression keeps
  copy_kept : (copy : Running) → kept_of_copy copy ≡ (out-Running copy).bindings ∷ kept_in (out-Running copy).progress
  unfolding kept_in
  copy_kept copy = fold_out-Running Kept Kept Kept kept_layer kept_running kept_sides copy

  -- copies that fit one by one fit together
  each_in : (p : Pattern) (copies : List Running) → AllByRecursion (CopyFits p) copies → CopiesFit p copies
  each_in p [] h = record { shaped = refl; kept = All-nil (CompletionFits types bound) }
  each_in p (copy ∷ copies) h =
      let rest = each_in p copies h.1 in
      record {
        shaped = and_from (test_of_copy copy p) _ (copy_test copy p ∙ h.0.progress.shaped) rest.shaped;
        kept = All-append (CompletionFits types bound) (kept_of_copy copy) _ (subst (CompletionsFit types bound) (sym (copy_kept copy)) (All-cons (CompletionFits types bound) (out-Running copy).bindings (kept_in (out-Running copy).progress) h.0.bindings h.0.progress.kept)) rest.kept;
      }

  -- the same, of all copies
  pub copies_in : (p : Pattern) (copies : List Running) → All (CopyFits p) copies → CopiesFit p copies
  copies_in p copies h = each_in p copies (recursion_from_All (CopyFits p) copies h)

  -- copies that fit together fit one by one
  pub copies_out : (p : Pattern) (copies : List Running) → CopiesFit p copies → AllByRecursion (CopyFits p) copies
  copies_out p [] h = tt
  copies_out p (copy ∷ copies) h =
      let both = and_parts (test_of_copy copy p) (list_all (λ (test : Test). test p) (map test_of_copy copies)) h.shaped in
      let own = subst (CompletionsFit types bound) (copy_kept copy) (all_first (CompletionFits types bound) (kept_of_copy copy) (flat_map (λ kept. kept) (map kept_of_copy copies)) h.kept) in (
        record {
          bindings = All-head (CompletionFits types bound) (out-Running copy).bindings (kept_in (out-Running copy).progress) own;
          progress = record { shaped = sym (copy_test copy p) ∙ both.0; kept = All-tail (CompletionFits types bound) (out-Running copy).bindings (kept_in (out-Running copy).progress) own };
        },
        copies_out p copies (record { shaped = both.1; kept = all_second (CompletionFits types bound) (kept_of_copy copy) (flat_map (λ kept. kept) (map kept_of_copy copies)) h.kept }),
      )

  -- the last completion of a side fits, where there is one
  abbrev pub LastFits : Option (List Binding) → Type 0
  LastFits last = CompletionsFit types bound (option_to_list last)

  -- ---- forms

  -- nothing is left
  pub gone_fits : (p : Pattern) → ProgressFits types bound p progress.Gone
  gone_fits p = as_form p Progress-F.Gone progress.Gone progress.rolls-Gone (record { shaped = refl; kept = All-nil (CompletionFits types bound) })

  -- an expression, unless it is over
  pub unless_fits : (p : Pattern) (over : Bool) (x : Progress) → ProgressFits types bound p x → ProgressFits types bound p (unless over x)
  unless_fits p over x h = cond_both over progress.Gone x (ProgressFits types bound p) (λ _. gone_fits p) (λ _. h)

  -- a template
  pub template_fits : (p : Pattern) (leaf : Leaf) → is_template_of leaf p ≡ true → ProgressFits types bound p (progress.Template leaf)
  template_fits p leaf is = as_form p (Progress-F.Template leaf) (progress.Template leaf) (progress.rolls-Template leaf) (record { shaped = is; kept = All-nil (CompletionFits types bound) })

  -- a wait
  pub wait_fits : (p : Pattern) (number : ℕ) (due : ℤ) → is_wait p ≡ true → ProgressFits types bound p (progress.Wait number due)
  wait_fits p number due is = as_form p (Progress-F.Wait number due) (progress.Wait number due) (progress.rolls-Wait number due) (record { shaped = is; kept = All-nil (CompletionFits types bound) })

  -- `all X`
  pub all_fits : (p : Pattern) (x : Progress) → is_all p ≡ true → ProgressFits types bound (first_of p) x → ProgressFits types bound p (progress.All x)
  all_fits p x is h = as_form p (Progress-F.All x) (progress.All x) (progress.rolls-All x) (record { shaped = and_from (is_all p) (is_of x (first_of p)) is h.shaped; kept = h.kept })

  -- a group with a deadline
  pub within_fits : (p : Pattern) (number : ℕ) (until : ℤ) (x : Progress) → is_within p ≡ true → ProgressFits types bound (first_of p) x → ProgressFits types bound p (progress.Within number until x)
  within_fits p number until x is h = as_form p (Progress-F.Within number until x) (progress.Within number until x) (progress.rolls-Within number until x) (record { shaped = and_from (is_within p) (is_of x (first_of p)) is h.shaped; kept = h.kept })

  -- `X -> Y`
  pub followed_fits : (p : Pattern) (x : Progress) (copies : List Running) → is_followed p ≡ true → ProgressFits types bound (first_of p) x → CopiesFit (second_of p) copies → ProgressFits types bound p (progress.Followed x copies)
  followed_fits p x copies is h k =
      as_form p (Progress-F.Followed x copies) (progress.Followed x copies) (progress.rolls-Followed x copies)
      (record { shaped = and_from (is_followed p && is_of x (first_of p)) _ (and_from (is_followed p) (is_of x (first_of p)) is h.shaped) k.shaped; kept = All-append (CompletionFits types bound) (kept_in x) _ h.kept k.kept })

  -- `X and Y`
  pub and_fits : (p : Pattern) (sides : Sides) (left right : Option (List Binding)) → is_and p ≡ true → SidesFit p sides → LastFits left → LastFits right → ProgressFits types bound p (progress.And sides left right)
  and_fits p sides left right is h l r =
      as_form p (Progress-F.And sides left right) (progress.And sides left right) (progress.rolls-And sides left right)
      (record {
        shaped = and_from (is_and p) (test_of_sides sides p) is h.shaped;
        kept = All-append (CompletionFits types bound) (kept_of_sides sides ++ option_to_list left) (option_to_list right) (All-append (CompletionFits types bound) (kept_of_sides sides) (option_to_list left) h.kept l) r;
      })

  -- `X and not Y`
  pub and_not_fits : (p : Pattern) (sides : Sides) → is_and_not p ≡ true → SidesFit p sides → ProgressFits types bound p (progress.AndNot sides)
  and_not_fits p sides is h = as_form p (Progress-F.AndNot sides) (progress.AndNot sides) (progress.rolls-AndNot sides) (record { shaped = and_from (is_and_not p) (test_of_sides sides p) is h.shaped; kept = h.kept })

  -- `not X and Y`
  pub not_and_fits : (p : Pattern) (sides : Sides) → is_not_and p ≡ true → SidesFit p sides → ProgressFits types bound p (progress.NotAnd sides)
  not_and_fits p sides is h = as_form p (Progress-F.NotAnd sides) (progress.NotAnd sides) (progress.rolls-NotAnd sides) (record { shaped = and_from (is_not_and p) (test_of_sides sides p) is h.shaped; kept = h.kept })

  -- `X or Y`
  pub or_fits : (p : Pattern) (sides : Sides) → is_or p ≡ true → SidesFit p sides → ProgressFits types bound p (progress.Or sides)
  or_fits p sides is h = as_form p (Progress-F.Or sides) (progress.Or sides) (progress.rolls-Or sides) (record { shaped = and_from (is_or p) (test_of_sides sides p) is h.shaped; kept = h.kept })

  -- `X xor Y`
  pub xor_fits : (p : Pattern) (sides : Sides) → is_xor p ≡ true → SidesFit p sides → ProgressFits types bound p (progress.Xor sides)
  xor_fits p sides is h = as_form p (Progress-F.Xor sides) (progress.Xor sides) (progress.rolls-Xor sides) (record { shaped = and_from (is_xor p) (test_of_sides sides p) is h.shaped; kept = h.kept })
