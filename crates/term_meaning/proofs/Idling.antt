-- Where no active leaf fits, and no deadline and no due time is reached, nothing waits.
use Rattle.std.proofs.Common.{◌≡◌, Bool, true, false, ◌||◌, List, [], ◌∷◌, ◌++◌, map, flat_map, refl, sym, ap, ◌∙◌, subst}
use Rattle.std.specs.List.{list_any}
use Rattle.term_meaning.specs.declared.leaf.Leaf.{Leaf}
use Rattle.term_meaning.specs.declared.progress.Progress.{Progress, Progress-F, ind-Progress, roll-Progress, map-Progress, fold-roll-Progress}
use Rattle.term_meaning.specs.declared.progress.Progress.TheOpen as layer
use Rattle.term_meaning.specs.declared.progress.Progress.TheOpen.{Running-F, Sides-F}
use Rattle.term_meaning.specs.declared.progress.Running.{Running, roll-Running, out-Running, out-roll-Running, map-Running, fold_out-Running}
use Rattle.term_meaning.specs.declared.progress.Sides.{Sides, roll-Sides, out-Sides, out-roll-Sides, map-Sides, fold_out-Sides}
use Rattle.term_meaning.specs.declared.stimulus.Stimulus.{Stimulus}
use Rattle.term_meaning.specs.Active.{Idle, leaves_in, leaves_layer, leaves_of_copy, leaves_of_sides, running_leaves, sides_leaves, templates_in, templates_layer, templates_of_copy, templates_of_sides}
use Rattle.term_meaning.specs.Step.{hears, is_due, is_late}
use Rattle.term_meaning.specs.Waits.{waits_in, waits_in_copy, waits_in_sides, waits_layer}
use Rattle.term_meaning.proofs.Bools.{both_false, or_parts}
use Rattle.term_meaning.proofs.Still.{Layer, copy_wait, sides_wait, waits_rolled}

-- ---- one of a list

pub any_append : {A : Type 0} (f : A → Bool) (xs ys : List A) → list_any f (xs ++ ys) ≡ (list_any f xs || list_any f ys)
any_append f [] ys = refl
any_append f (x ∷ xs) ys = go (f x) (list_any f xs) (list_any f ys) (list_any f (xs ++ ys)) (any_append f xs ys) where
  go : (a b c d : Bool) → d ≡ (b || c) → (a || d) ≡ ((a || b) || c)
  go true b c d e = refl
  go false b c d e = e

pub any_parts : {A : Type 0} (f : A → Bool) (xs ys : List A) → list_any f (xs ++ ys) ≡ false → (list_any f xs ≡ false) × (list_any f ys ≡ false)
any_parts f xs ys h = or_parts (list_any f xs) (list_any f ys) (sym (any_append f xs ys) ∙ h)

-- ---- leaves, layer by layer

abbrev Leaves : Type 0
Leaves = List Leaf

pub leaves_rolled : (x : Layer) → leaves_in (roll-Progress x) ≡ leaves_layer (map-Progress Progress Running Sides Leaves Leaves Leaves leaves_in leaves_of_copy leaves_of_sides x)
unfolding leaves_in leaves_of_copy leaves_of_sides
leaves_rolled x = fold-roll-Progress Leaves Leaves Leaves leaves_layer running_leaves sides_leaves x

pub sides_leaves_is : (r : Sides) → leaves_of_sides r ≡ leaves_in (out-Sides r).left ++ leaves_in (out-Sides r).right
unfolding leaves_in leaves_of_sides
sides_leaves_is r = fold_out-Sides Leaves Leaves Leaves leaves_layer running_leaves sides_leaves r

pub copy_leaves_is : (r : Running) → leaves_of_copy r ≡ leaves_in (out-Running r).progress
unfolding leaves_in leaves_of_copy
copy_leaves_is r = fold_out-Running Leaves Leaves Leaves leaves_layer running_leaves sides_leaves r

pub templates_rolled : (x : Layer) → templates_in (roll-Progress x) ≡ templates_layer (map-Progress Progress Running Sides Leaves Leaves Leaves templates_in templates_of_copy templates_of_sides x)
unfolding templates_in templates_of_copy templates_of_sides
templates_rolled x = fold-roll-Progress Leaves Leaves Leaves templates_layer running_leaves sides_leaves x

pub sides_templates_is : (r : Sides) → templates_of_sides r ≡ templates_in (out-Sides r).left ++ templates_in (out-Sides r).right
unfolding templates_in templates_of_sides
sides_templates_is r = fold_out-Sides Leaves Leaves Leaves templates_layer running_leaves sides_leaves r

pub copy_templates_is : (r : Running) → templates_of_copy r ≡ templates_in (out-Running r).progress
unfolding templates_in templates_of_copy
copy_templates_is r = fold_out-Running Leaves Leaves Leaves templates_layer running_leaves sides_leaves r

module _ (s : Stimulus) where
  abbrev Unheard : List Leaf → Type 0
  Unheard leaves = list_any (hears s) leaves ≡ false

  abbrev Early : List Leaf → Type 0
  Early leaves = list_any (λ (leaf : Leaf). is_late s leaf.until) leaves ≡ false

  abbrev Rests : Progress → Type 0
  Rests p = Unheard (templates_in p) → Early (leaves_in p) → waits_in s p ≡ false

  abbrev CopyRests : Running → Type 0
  CopyRests r = Rests (out-Running r).progress

  abbrev BothRest : Sides → Type 0
  BothRest r = Rests (out-Sides r).left × Rests (out-Sides r).right

  abbrev Known : Type 0
  Known = (p : Progress) × Rests p

  abbrev KnownCopy : Type 0
  KnownCopy = (r : Running) × CopyRests r

  abbrev KnownSides : Type 0
  KnownSides = (r : Sides) × BothRest r

  abbrev named : Progress-F Known KnownCopy KnownSides → Layer
  named = map-Progress Known KnownCopy KnownSides Progress Running Sides (λ e. e.0) (λ e. e.0) (λ e. e.0)

  sides_rest : (two : KnownSides) → Unheard (templates_of_sides two.0) → Early (leaves_of_sides two.0) → waits_in_sides s two.0 ≡ false
  sides_rest two u e =
      let r = two.0 in
      let heard = any_parts (hears s) (templates_in (out-Sides r).left) (templates_in (out-Sides r).right) (subst Unheard (sides_templates_is r) u) in
      let late = any_parts (λ (leaf : Leaf). is_late s leaf.until) (leaves_in (out-Sides r).left) (leaves_in (out-Sides r).right) (subst Early (sides_leaves_is r) e) in
      sides_wait s r ∙ both_false _ _ (two.1.0 heard.0 late.0) (two.1.1 heard.1 late.1)

  copies_rest : (cs : List KnownCopy) → Unheard (flat_map (λ leaves. leaves) (map templates_of_copy (map (λ (c : KnownCopy). c.0) cs))) → Early (flat_map (λ leaves. leaves) (map leaves_of_copy (map (λ (c : KnownCopy). c.0) cs)))
      → list_any (λ c. c) (map (waits_in_copy s) (map (λ (c : KnownCopy). c.0) cs)) ≡ false
  copies_rest [] u e = refl
  copies_rest (c ∷ cs) u e =
      let r = c.0 in
      let heard = any_parts (hears s) (templates_of_copy r) (flat_map (λ leaves. leaves) (map templates_of_copy (map (λ (c : KnownCopy). c.0) cs))) u in
      let late = any_parts (λ (leaf : Leaf). is_late s leaf.until) (leaves_of_copy r) (flat_map (λ leaves. leaves) (map leaves_of_copy (map (λ (c : KnownCopy). c.0) cs))) e in
      both_false _ _ (copy_wait s r ∙ c.1 (subst Unheard (copy_templates_is r) heard.0) (subst Early (copy_leaves_is r) late.0)) (copies_rest cs heard.1 late.1)

  layer_rests : (y : Progress-F Known KnownCopy KnownSides) → Unheard (templates_layer (map-Progress Progress Running Sides Leaves Leaves Leaves templates_in templates_of_copy templates_of_sides (named y)))
      → Early (leaves_layer (map-Progress Progress Running Sides Leaves Leaves Leaves leaves_in leaves_of_copy leaves_of_sides (named y)))
      → waits_layer s (map-Progress Progress Running Sides Bool Bool Bool (waits_in s) (waits_in_copy s) (waits_in_sides s) (named y)) ≡ false
  layer_rests layer.Gone u e = refl
  layer_rests (layer.Template leaf) u e = both_false _ _ (or_parts (hears s leaf) false u).0 (or_parts (is_late s leaf.until) false e).0
  layer_rests (layer.Wait number due) u e = (or_parts (is_due s due) false e).0
  layer_rests (layer.All x) u e = x.1 u e
  layer_rests (layer.Followed x cs) u e =
      let heard = any_parts (hears s) (templates_in x.0) (flat_map (λ leaves. leaves) (map templates_of_copy (map (λ (c : KnownCopy). c.0) cs))) u in
      let late = any_parts (λ (leaf : Leaf). is_late s leaf.until) (leaves_in x.0) (flat_map (λ leaves. leaves) (map leaves_of_copy (map (λ (c : KnownCopy). c.0) cs))) e in
      both_false _ _ (x.1 heard.0 late.0) (copies_rest cs heard.1 late.1)
  layer_rests (layer.And two l r) u e = sides_rest two u e
  layer_rests (layer.AndNot two) u e = sides_rest two u e
  layer_rests (layer.NotAnd two) u e = sides_rest two u e
  layer_rests (layer.Or two) u e = sides_rest two u e
  layer_rests (layer.Xor two) u e = sides_rest two u e
  layer_rests (layer.Within number until x) u e = let late = or_parts (is_due s until) (list_any (λ (leaf : Leaf). is_late s leaf.until) (leaves_in x.0)) e in both_false _ _ late.0 (x.1 u late.1)

  rolled_rests : (y : Progress-F Known KnownCopy KnownSides) → Rests (roll-Progress (named y))
  rolled_rests y u e = waits_rolled s (named y) ∙ layer_rests y (subst Unheard (templates_rolled (named y)) u) (subst Early (leaves_rolled (named y)) e)

  progress_case : (x : Layer) (y : Progress-F Known KnownCopy KnownSides) → named y ≡ x → Rests (roll-Progress x)
  progress_case x y is = subst (λ (z : Layer). Rests (roll-Progress z)) is (rolled_rests y)

  running_case : (x : Running-F Progress Running Sides) (y : Running-F Known KnownCopy KnownSides) → map-Running Known KnownCopy KnownSides Progress Running Sides (λ e. e.0) (λ e. e.0) (λ e. e.0) y ≡ x → CopyRests (roll-Running x)
  running_case x y is = subst Rests (ap (λ (z : Running-F Progress Running Sides). z.progress) (is ∙ sym (out-roll-Running x))) y.progress.1

  sides_case : (x : Sides-F Progress Running Sides) (y : Sides-F Known KnownCopy KnownSides) → map-Sides Known KnownCopy KnownSides Progress Running Sides (λ e. e.0) (λ e. e.0) (λ e. e.0) y ≡ x → BothRest (roll-Sides x)
  sides_case x y is = (
    subst Rests (ap (λ (z : Sides-F Progress Running Sides). z.left) (is ∙ sym (out-roll-Sides x))) y.left.1,
    subst Rests (ap (λ (z : Sides-F Progress Running Sides). z.right) (is ∙ sym (out-roll-Sides x))) y.right.1,
  )

  rests : (p : Progress) → Rests p
  rests = ind-Progress Rests CopyRests BothRest progress_case running_case sides_case

-- where the expression is idle, nothing in it waits
pub nothing_waits : (p : Progress) (s : Stimulus) → Idle p s → waits_in s p ≡ false
nothing_waits p s h = rests s p h.unheard h.early
