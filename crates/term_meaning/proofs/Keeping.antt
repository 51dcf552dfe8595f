-- A start and a step leave each form going on.
use Rattle.std.proofs.Common.{◌≡◌, ℕ, ◌+◌, ℤ, Bool, true, false, not, ◌&&◌, ◌||◌, List, [], ◌∷◌, ◌++◌, map, Option, None, refl, sym, ap, ap₂, ◌∙◌, subst}
use Rattle.std.specs.List.{list_all}
use Rattle.term_meaning.specs.declared.leaf.Leaf.{Leaf}
use Rattle.term_meaning.specs.declared.progress.Grown.{Grown}
use Rattle.term_meaning.specs.declared.progress.Progress.{Progress, Progress-F, ind-Progress, roll-Progress, map-Progress}
use Rattle.term_meaning.specs.declared.progress.Progress.TheOpen as layer
use Rattle.term_meaning.specs.declared.progress.Progress.TheOpen.{Running-F, Sides-F}
use Rattle.term_meaning.specs.declared.progress.Progress.TheVariants as progress
use Rattle.term_meaning.specs.declared.progress.Ran.{Ran}
use Rattle.term_meaning.specs.declared.progress.Running.{Running, roll-Running, out-Running, out-roll-Running, map-Running}
use Rattle.term_meaning.specs.declared.progress.Sides.{Sides, roll-Sides, out-Sides, out-roll-Sides, map-Sides}
use Rattle.term_meaning.specs.declared.progress.Stepped.{Stepped}
use Rattle.term_meaning.specs.declared.stimulus.Binding.{Binding}
use Rattle.term_meaning.specs.declared.stimulus.Stimulus.{Stimulus}
use Rattle.term_meaning.specs.Operands.{Setting}
use Rattle.term_meaning.specs.Patterns.{Pattern, binds_of, first_of, second_of}
use Rattle.term_meaning.specs.Patterns as pattern
use Rattle.term_meaning.specs.Start.{sides_of, start_of}
use Rattle.term_meaning.specs.Step.{Step, Two, Copy, all_form, and_form, and_left, and_not_form, and_not_step, and_over, both_sides, completed, copy_of, either_over, followed_form, followed_step, grow, grown, growing, hears, is_due, is_gone, is_late, is_left, last_of, no_copies, none_ran, not_and_form, not_and_step, or_form, or_step, ran_on, run_copies, step_copy, step_layer, step_of, step_sides, template_step, those_left, unless, wait_step, within_form, with_left, with_right, xor_form, xor_step}
use Rattle.term_meaning.specs.Waits.{Going, GoesOn, both_on, copy_on, going, goes, goes_layer, never_completed, none, running_goes, sides_go}
use Rattle.term_meaning.proofs.Bools.{and_parts, both_true, or_parts}
use Rattle.term_meaning.proofs.Still.{Layer, and_over_is, copy_goes_is, copy_step, gone_is, goes_rolled, left_is, sides_goes, sides_step, steps_rolled}

-- ---- each form

abbrev Goes : Layer → Going
Goes x = goes_layer (map-Progress Progress Running Sides Going Going (Going × Going) goes running_goes sides_go x)

at : (x : Layer) (p : Progress) → roll-Progress x ≡ p → goes p ≡ Goes x
at x p is = ap goes (sym is) ∙ goes_rolled x

two_go : (x y : Progress) → sides_go (sides_of x y) ≡ (goes x, goes y)
two_go x y = sides_goes (sides_of x y) ∙ ap (λ (z : Sides-F Progress Running Sides). (goes z.left, goes z.right)) (out-roll-Sides (record { left = x; right = y }))

pub gone_goes : GoesOn progress.Gone
gone_goes = ap (λ (g : Going). g.on) (at layer.Gone progress.Gone progress.rolls-Gone)

template_goes : (leaf : Leaf) → goes (progress.Template leaf) ≡ going true
template_goes leaf = at (layer.Template leaf) _ (progress.rolls-Template leaf)

wait_goes : (number : ℕ) (due : ℤ) → goes (progress.Wait number due) ≡ going true
wait_goes number due = at (layer.Wait number due) _ (progress.rolls-Wait number due)

all_goes : (x : Progress) → goes (progress.All x) ≡ going (not (goes x).gone && (goes x).on)
all_goes x = at (layer.All x) _ (progress.rolls-All x)

within_goes : (number : ℕ) (until : ℤ) (x : Progress) → goes (progress.Within number until x) ≡ going (not (goes x).gone && (goes x).on)
within_goes number until x = at (layer.Within number until x) _ (progress.rolls-Within number until x)

followed_goes : (x : Progress) (copies : List Running) → goes (progress.Followed x copies) ≡ going (not ((goes x).gone && none (map running_goes copies)) && ((goes x).on && list_all copy_on (map running_goes copies)))
followed_goes x copies = at (layer.Followed x copies) _ (progress.rolls-Followed x copies)

module _ (x y : Progress) where
  abbrev two : Sides
  two = sides_of x y

  or_goes : goes (progress.Or two) ≡ going (not ((goes x).gone && (goes y).gone) && ((goes x).on && (goes y).on))
  or_goes = at (layer.Or two) _ (progress.rolls-Or two) ∙ ap (λ (z : Going × Going). going (not (z.0.gone && z.1.gone) && both_on z)) (two_go x y)

  xor_goes : goes (progress.Xor two) ≡ going (not ((goes x).gone && (goes y).gone) && ((goes x).on && (goes y).on))
  xor_goes = at (layer.Xor two) _ (progress.rolls-Xor two) ∙ ap (λ (z : Going × Going). going (not (z.0.gone && z.1.gone) && both_on z)) (two_go x y)

  and_not_goes : goes (progress.AndNot two) ≡ going (not (goes x).gone && ((goes x).on && (goes y).on))
  and_not_goes = at (layer.AndNot two) _ (progress.rolls-AndNot two) ∙ ap (λ (z : Going × Going). going (not z.0.gone && both_on z)) (two_go x y)

  not_and_goes : goes (progress.NotAnd two) ≡ going (not (goes y).gone && ((goes x).on && (goes y).on))
  not_and_goes = at (layer.NotAnd two) _ (progress.rolls-NotAnd two) ∙ ap (λ (z : Going × Going). going (not z.1.gone && both_on z)) (two_go x y)

  and_goes : (l r : Option (List Binding)) → goes (progress.And two l r) ≡ going (not (((goes x).gone && (goes y).gone) || (never_completed (goes x).gone l || never_completed (goes y).gone r)) && ((goes x).on && (goes y).on))
  and_goes l r = at (layer.And two l r) _ (progress.rolls-And two l r) ∙ ap (λ (z : Going × Going). going (not ((z.0.gone && z.1.gone) || (never_completed z.0.gone l || never_completed z.1.gone r)) && both_on z)) (two_go x y)

-- ---- a start

module _ (s : Setting) where
  -- what was started is there, and each form in it goes on
  pub start_goes : (p : Pattern) (seen : List Binding) (next : ℕ) → goes (start_of s p seen next).progress ≡ going true
  unfolding start_of
  start_goes (pattern.Template t) seen next = template_goes _
  start_goes (pattern.Wait d) seen next = wait_goes _ _
  start_goes (pattern.All x) seen next = all_goes _ ∙ ap (λ (g : Going). going (not g.gone && g.on)) (start_goes x seen next)
  start_goes (pattern.Followed x y) seen next = followed_goes _ [] ∙ ap (λ (g : Going). going (not (g.gone && true) && (g.on && true))) (start_goes x seen next)
  start_goes (pattern.And x y) seen next = and_goes _ _ None None ∙ ap₂ (λ (g h : Going). going (not ((g.gone && h.gone) || (g.gone || h.gone)) && (g.on && h.on))) (start_goes x seen next) (start_goes y seen (start_of s x seen next).next)
  start_goes (pattern.AndNot x y) seen next = and_not_goes _ _ ∙ ap₂ (λ (g h : Going). going (not g.gone && (g.on && h.on))) (start_goes x seen next) (start_goes y seen (start_of s x seen next).next)
  start_goes (pattern.NotAnd x y) seen next = not_and_goes _ _ ∙ ap₂ (λ (g h : Going). going (not h.gone && (g.on && h.on))) (start_goes x seen next) (start_goes y seen (start_of s x seen next).next)
  start_goes (pattern.Or x y) seen next = or_goes _ _ ∙ ap₂ (λ (g h : Going). going (not (g.gone && h.gone) && (g.on && h.on))) (start_goes x seen next) (start_goes y seen (start_of s x seen next).next)
  start_goes (pattern.Xor x y) seen next = xor_goes _ _ ∙ ap₂ (λ (g h : Going). going (not (g.gone && h.gone) && (g.on && h.on))) (start_goes x seen next) (start_goes y seen (start_of s x seen next).next)
  start_goes (pattern.Within x d) seen next = within_goes _ _ _ ∙ ap (λ (g : Going). going (not g.gone && g.on)) (start_goes x seen (next + 1))

-- ---- steps of forms

-- a step that leaves each form going on
abbrev pub Keeps : Step → Type 0
Keeps step = (p : Pattern) (seen : List Binding) (next : ℕ) → GoesOn (step p seen next).left

unless_goes : (over : Bool) (p : Progress) → (over ≡ false → GoesOn p) → GoesOn (unless over p)
unless_goes true p h = gone_goes
unless_goes false p h = h refl

-- one side that goes on, and is there
on_here : (x : Progress) → is_gone x ≡ false → GoesOn x → not (goes x).gone && (goes x).on ≡ true
on_here x g o = rw (gone_is x, g, o) refl

pub template_keeps : (s : Stimulus) (leaf : Leaf) (binds : Option ℕ) (next : ℕ) → GoesOn (template_step s leaf binds next).left
template_keeps s leaf binds next = go (hears s leaf) (is_late s leaf.until) refl refl where
  go : (a b : Bool) → hears s leaf ≡ a → is_late s leaf.until ≡ b → GoesOn (template_step s leaf binds next).left
  go true b e f = rw e gone_goes
  go false true e f = rw (e, f) gone_goes
  go false false e f = rw (e, f) (ap (λ (g : Going). g.on) (template_goes leaf))

pub wait_keeps : (s : Stimulus) (number : ℕ) (due : ℤ) (next : ℕ) → GoesOn (wait_step s number due next).left
wait_keeps s number due next = go (is_due s due) refl where
  go : (a : Bool) → is_due s due ≡ a → GoesOn (wait_step s number due next).left
  go true e = rw e gone_goes
  go false e = rw e (ap (λ (g : Going). g.on) (wait_goes number due))

pub all_keeps : (setting : Setting) (step : Step) → Keeps step → Keeps (all_form setting step)
unfolding all_form
all_keeps setting step k p seen next = go (is_gone (step (first_of p) seen next).left) refl where
  go : (a : Bool) → is_gone (step (first_of p) seen next).left ≡ a → GoesOn (all_form setting step p seen next).left
  go true e = rw e (ap (λ (g : Going). g.on) (all_goes _ ∙ ap (λ (g : Going). going (not g.gone && g.on)) (start_goes setting (first_of p) seen (step (first_of p) seen next).next)))
  go false e = rw e (ap (λ (g : Going). g.on) (all_goes _) ∙ on_here _ e (k (first_of p) seen next))

pub within_keeps : (s : Stimulus) (number : ℕ) (until : ℤ) (step : Step) → Keeps step → Keeps (within_form s number until step)
unfolding within_form
within_keeps s number until step k p seen next = go (is_due s until) refl where
  go : (a : Bool) → is_due s until ≡ a → GoesOn (within_form s number until step p seen next).left
  go true e = rw e gone_goes
  go false e = rw e (unless_goes _ _ (λ here. ap (λ (g : Going). g.on) (within_goes number until _) ∙ on_here _ here (k (first_of p) seen next)))

both_here : (x y : Progress) → is_gone x && is_gone y ≡ false → GoesOn x → GoesOn y → not ((goes x).gone && (goes y).gone) && ((goes x).on && (goes y).on) ≡ true
both_here x y g a b = rw (gone_is x, gone_is y, g, a, b) refl

one_here : (x y : Progress) → is_gone x ≡ false → GoesOn x → GoesOn y → not (goes x).gone && ((goes x).on && (goes y).on) ≡ true
one_here x y g a b = rw (gone_is x, g, a, b) refl

other_here : (x y : Progress) → is_gone y ≡ false → GoesOn x → GoesOn y → not (goes y).gone && ((goes x).on && (goes y).on) ≡ true
other_here x y g a b = rw (gone_is y, g, a, b) refl

and_here : (x y : Progress) (l r : Option (List Binding)) → and_over x y l r ≡ false → GoesOn x → GoesOn y
    → not (((goes x).gone && (goes y).gone) || (never_completed (goes x).gone l || never_completed (goes y).gone r)) && ((goes x).on && (goes y).on) ≡ true
and_here x y l r h a b = rw (sym (and_over_is x y l r) ∙ h, a, b) refl

module _ (a b : Stepped) (left : GoesOn a.left) (right : GoesOn b.left) where
  here_of : either_over a b ≡ false → is_gone a.left && is_gone b.left ≡ false
  unfolding either_over
  here_of h = (or_parts (completed b && is_gone b.left) (is_gone a.left && is_gone b.left) (or_parts (completed a && is_gone a.left) _ h).1).1

  or_on : GoesOn (or_step a b).left
  or_on = unless_goes (either_over a b) (progress.Or (sides_of a.left b.left)) (λ h. ap (λ (g : Going). g.on) (or_goes a.left b.left) ∙ both_here a.left b.left (here_of h) left right)

  xor_on : GoesOn (xor_step a b).left
  xor_on = unless_goes (either_over a b) (progress.Xor (sides_of a.left b.left)) (λ h. ap (λ (g : Going). g.on) (xor_goes a.left b.left) ∙ both_here a.left b.left (here_of h) left right)

  and_not_on : GoesOn (and_not_step a b).left
  and_not_on = unless_goes (completed b || is_gone a.left) (progress.AndNot (sides_of a.left b.left))
      (λ h. ap (λ (g : Going). g.on) (and_not_goes a.left b.left) ∙ one_here a.left b.left (or_parts (completed b) (is_gone a.left) h).1 left right)

  not_and_on : GoesOn (not_and_step a b).left
  not_and_on = unless_goes (completed a || is_gone b.left) (progress.NotAnd (sides_of a.left b.left))
      (λ h. ap (λ (g : Going). g.on) (not_and_goes a.left b.left) ∙ other_here a.left b.left (or_parts (completed a) (is_gone b.left) h).1 left right)

  and_on : (l r : Option (List Binding)) (all : List (List Binding)) → GoesOn (and_left a b l r all).left
  unfolding and_left
  and_on l r all = unless_goes (and_over a.left b.left l r) (progress.And (sides_of a.left b.left) l r) (λ h. ap (λ (g : Going). g.on) (and_goes a.left b.left l r) ∙ and_here a.left b.left l r h left right)

module _ (two : Two) (left : Keeps two.0) (right : Keeps two.1) (p : Pattern) (seen : List Binding) (next : ℕ) where
  abbrev a : Stepped
  a = two.0 (first_of p) seen next

  abbrev b : Stepped
  b = two.1 (second_of p) seen a.next

  pub or_keeps : GoesOn (or_form two p seen next).left
  unfolding or_form both_sides
  or_keeps = or_on a b (left (first_of p) seen next) (right (second_of p) seen a.next)

  pub xor_keeps : GoesOn (xor_form two p seen next).left
  unfolding xor_form both_sides
  xor_keeps = xor_on a b (left (first_of p) seen next) (right (second_of p) seen a.next)

  pub and_not_keeps : GoesOn (and_not_form two p seen next).left
  unfolding and_not_form both_sides
  and_not_keeps = and_not_on a b (left (first_of p) seen next) (right (second_of p) seen a.next)

  pub not_and_keeps : GoesOn (not_and_form two p seen next).left
  unfolding not_and_form both_sides
  not_and_keeps = not_and_on a b (left (first_of p) seen next) (right (second_of p) seen a.next)

  pub and_keeps : (l r : Option (List Binding)) → GoesOn (and_form two l r p seen next).left
  unfolding and_form both_sides
  and_keeps l r = and_on a b (left (first_of p) seen next) (right (second_of p) seen a.next) (last_of l a.completions) (last_of r b.completions) (with_right r a.completions ++ with_left (last_of l a.completions) b.completions)

-- ---- X -> Y

abbrev AllOn : List Running → Type 0
AllOn rs = list_all (λ (g : Going). g.on) (map running_goes rs) ≡ true

abbrev AllGo : List Running → Type 0
AllGo rs = list_all copy_on (map running_goes rs) ≡ true

more_on : (rs : List Running) (r : Running) → AllOn rs → (running_goes r).on ≡ true → AllOn (rs ++ r ∷ [])
more_on [] r h o = rw o refl
more_on (x ∷ rs) r h o = let q = and_parts _ _ h in both_true _ _ q.0 (more_on rs r q.1 o)

more_go : (rs : List Running) (r : Running) → AllGo rs → copy_on (running_goes r) ≡ true → AllGo (rs ++ r ∷ [])
more_go [] r h o = rw o refl
more_go (x ∷ rs) r h o = let q = and_parts _ _ h in both_true _ _ q.0 (more_go rs r q.1 o)

made_goes : (bindings : List Binding) (p : Progress) → running_goes (copy_of bindings p) ≡ goes p
made_goes bindings p = copy_goes_is (copy_of bindings p) ∙ ap (λ (z : Running-F Progress Running Sides). goes z.progress) (out-roll-Running (record { bindings = bindings; progress = p }))

abbrev pub AllKeep : List Copy → Type 0
AllKeep [] = Unit {0}
AllKeep (copy ∷ copies) = Keeps copy.1 × AllKeep copies

run_keeps : (p : Pattern) (seen : List Binding) (ran : Ran) (copies : List Copy) → AllKeep copies → AllOn ran.copies → AllOn (run_copies p seen ran copies).copies
unfolding run_copies
run_keeps p seen ran [] k h = h
run_keeps p seen ran (copy ∷ copies) k h =
    let a = copy.1 p copy.0 ran.next in
    run_keeps p seen (ran_on seen ran copy.0 a) copies k.1 (more_on ran.copies (copy_of copy.0 a.left) h (ap (λ (g : Going). g.on) (made_goes copy.0 a.left) ∙ k.0 p copy.0 ran.next))

those_go : (rs : List Running) → AllOn rs → AllGo (those_left rs)
those_go [] h = refl
those_go (r ∷ rs) h = let q = and_parts _ _ h in go (is_left r) refl q.0 (those_go rs q.1) where
  go : (a : Bool) → is_left r ≡ a → (running_goes r).on ≡ true → AllGo (those_left rs) → AllGo (those_left (r ∷ rs))
  go true e o t = rw e (both_true _ _ (both_true _ _ (sym (left_is r) ∙ e) o) t)
  go false e o t = rw e t

grow_keeps : (s : Setting) (y : Pattern) (seen : List Binding) (g : Grown) (cs : List (List Binding)) → AllGo g.copies → AllGo (grow (start_of s y) seen g cs).copies
unfolding grow
grow_keeps s y seen g [] h = h
grow_keeps s y seen g (c ∷ cs) h =
    grow_keeps s y seen (grown (start_of s y) seen g c) cs
    (more_go g.copies _ h (ap copy_on (made_goes (seen ++ c) (start_of s y (seen ++ c) g.next).progress ∙ start_goes s y (seen ++ c) g.next)))

none_copies : (rs : List Running) → none (map running_goes rs) ≡ no_copies rs
none_copies [] = refl
none_copies (r ∷ rs) = refl

followed_on : (ran : Ran) (x : Stepped) (g : Grown) → GoesOn x.left → AllGo g.copies → GoesOn (followed_step ran x g).left
followed_on ran x g o c = unless_goes (is_gone x.left && no_copies g.copies) (progress.Followed x.left g.copies) (λ h. ap (λ (g : Going). g.on) (followed_goes x.left g.copies)
    ∙ both_true _ _ (ap not (ap₂ (λ a b. a && b) (gone_is x.left) (none_copies g.copies) ∙ h)) (both_true (goes x.left).on (list_all copy_on (map running_goes g.copies)) o c))

pub followed_keeps : (setting : Setting) (step : Step) (copies : List Copy) → Keeps step → AllKeep copies → Keeps (followed_form setting step copies)
unfolding followed_form growing
followed_keeps setting step copies k c p seen next =
    let ran = run_copies (second_of p) seen (none_ran next) copies in
    let x = step (first_of p) seen ran.next in
    let g : Grown = record { copies = those_left ran.copies; next = x.next } in
    followed_on ran x (grow (start_of setting (second_of p)) seen g x.completions) (k (first_of p) seen ran.next)
    (grow_keeps setting (second_of p) seen g x.completions (those_go ran.copies (run_keeps (second_of p) seen (none_ran next) copies c refl)))

-- ---- the induction

module _ (setting : Setting) (s : Stimulus) where
  abbrev Kept : Progress → Type 0
  Kept p = GoesOn p → Keeps (step_of setting s p)

  abbrev CopyKept : Running → Type 0
  CopyKept r = Kept (out-Running r).progress

  abbrev BothKept : Sides → Type 0
  BothKept r = Kept (out-Sides r).left × Kept (out-Sides r).right

  abbrev Known : Type 0
  Known = (p : Progress) × Kept p

  abbrev KnownCopy : Type 0
  KnownCopy = (r : Running) × CopyKept r

  abbrev KnownSides : Type 0
  KnownSides = (r : Sides) × BothKept r

  abbrev named : Progress-F Known KnownCopy KnownSides → Layer
  named = map-Progress Known KnownCopy KnownSides Progress Running Sides (λ e. e.0) (λ e. e.0) (λ e. e.0)

  record Parted (r : Sides) : Type 0 where
    left : Keeps (step_sides setting s r).0
    right : Keeps (step_sides setting s r).1

  parted : (two : KnownSides) → both_on (sides_go two.0) ≡ true → Parted two.0
  parted two g =
      let r = two.0 in
      let on = and_parts (goes (out-Sides r).left).on (goes (out-Sides r).right).on (subst (λ (z : Going × Going). both_on z ≡ true) (sides_goes r) g) in
      record {
        left = subst (λ (z : Two). Keeps z.0) (sym (sides_step setting s r)) (two.1.0 on.0);
        right = subst (λ (z : Two). Keeps z.1) (sym (sides_step setting s r)) (two.1.1 on.1);
      }

  copies_keep : (cs : List KnownCopy) → list_all copy_on (map running_goes (map (λ (e : KnownCopy). e.0) cs)) ≡ true → AllKeep (map (step_copy setting s) (map (λ (e : KnownCopy). e.0) cs))
  copies_keep [] g = tt
  copies_keep (c ∷ cs) g =
      let r = c.0 in
      let all = and_parts (copy_on (running_goes r)) _ g in
      let own = and_parts (not (running_goes r).gone) (running_goes r).on all.0 in (
        subst (λ (z : Copy). Keeps z.1) (sym (copy_step setting s r)) (c.1 (ap (λ (g : Going). g.on) (sym (copy_goes_is r)) ∙ own.1)),
        copies_keep cs all.1,
      )

  layer_keeps : (y : Progress-F Known KnownCopy KnownSides) → (Goes (named y)).on ≡ true
      → Keeps (step_layer setting s (map-Progress Progress Running Sides Step Copy Two (step_of setting s) (step_copy setting s) (step_sides setting s) (named y)))
  layer_keeps layer.Gone g p seen next = gone_goes
  layer_keeps (layer.Template leaf) g p seen next = template_keeps s leaf (binds_of p) next
  layer_keeps (layer.Wait number due) g p seen next = wait_keeps s number due next
  layer_keeps (layer.All x) g p seen next = all_keeps setting (step_of setting s x.0) (x.1 (and_parts _ _ g).1) p seen next
  layer_keeps (layer.Followed x cs) g p seen next =
      let on = and_parts _ _ (and_parts _ _ g).1 in
      followed_keeps setting (step_of setting s x.0) (map (step_copy setting s) (map (λ (e : KnownCopy). e.0) cs)) (x.1 on.0) (copies_keep cs on.1) p seen next
  layer_keeps (layer.And two l r) g p seen next = let both = parted two (and_parts _ _ g).1 in and_keeps (step_sides setting s two.0) both.left both.right p seen next l r
  layer_keeps (layer.AndNot two) g p seen next = let both = parted two (and_parts _ _ g).1 in and_not_keeps (step_sides setting s two.0) both.left both.right p seen next
  layer_keeps (layer.NotAnd two) g p seen next = let both = parted two (and_parts _ _ g).1 in not_and_keeps (step_sides setting s two.0) both.left both.right p seen next
  layer_keeps (layer.Or two) g p seen next = let both = parted two (and_parts _ _ g).1 in or_keeps (step_sides setting s two.0) both.left both.right p seen next
  layer_keeps (layer.Xor two) g p seen next = let both = parted two (and_parts _ _ g).1 in xor_keeps (step_sides setting s two.0) both.left both.right p seen next
  layer_keeps (layer.Within number until x) g p seen next = within_keeps s number until (step_of setting s x.0) (x.1 (and_parts _ _ g).1) p seen next

  rolled_keeps : (y : Progress-F Known KnownCopy KnownSides) → Kept (roll-Progress (named y))
  rolled_keeps y g p seen next =
      ap (λ (a : Stepped). (goes a.left).on) (steps_rolled setting s (named y) p seen next)
      ∙ layer_keeps y (sym (ap (λ (g : Going). g.on) (goes_rolled (named y))) ∙ g) p seen next

  progress_case : (x : Layer) (y : Progress-F Known KnownCopy KnownSides) → named y ≡ x → Kept (roll-Progress x)
  progress_case x y is = subst (λ (z : Layer). Kept (roll-Progress z)) is (rolled_keeps y)

  running_case : (x : Running-F Progress Running Sides) (y : Running-F Known KnownCopy KnownSides) → map-Running Known KnownCopy KnownSides Progress Running Sides (λ e. e.0) (λ e. e.0) (λ e. e.0) y ≡ x → CopyKept (roll-Running x)
  running_case x y is = subst Kept (ap (λ (z : Running-F Progress Running Sides). z.progress) (is ∙ sym (out-roll-Running x))) y.progress.1

  sides_case : (x : Sides-F Progress Running Sides) (y : Sides-F Known KnownCopy KnownSides) → map-Sides Known KnownCopy KnownSides Progress Running Sides (λ e. e.0) (λ e. e.0) (λ e. e.0) y ≡ x → BothKept (roll-Sides x)
  sides_case x y is = (
    subst Kept (ap (λ (z : Sides-F Progress Running Sides). z.left) (is ∙ sym (out-roll-Sides x))) y.left.1,
    subst Kept (ap (λ (z : Sides-F Progress Running Sides). z.right) (is ∙ sym (out-roll-Sides x))) y.right.1,
  )

  -- what a step leaves goes on, where the expression did
  pub goes_on : (p : Progress) → Kept p
  goes_on = ind-Progress Kept CopyKept BothKept progress_case running_case sides_case

-- what a start makes goes on, and what a step leaves
pub begun_goes : (s : Setting) (p : Pattern) (seen : List Binding) (next : ℕ) → GoesOn (start_of s p seen next).progress
begun_goes s p seen next = ap (λ (g : Going). g.on) (start_goes s p seen next)

pub steps_go : (setting : Setting) (s : Stimulus) (x : Progress) (p : Pattern) (seen : List Binding) (next : ℕ) → GoesOn x → GoesOn (step_of setting s x p seen next).left
steps_go setting s x p seen next h = goes_on setting s x h p seen next
