-- The leaves in each form of an event expression, as an equation.
use Rattle.std.proofs.Common.{◌≡◌, ◌+◌, ℕ, ℤ, List, [], ◌∷◌, ◌++◌, map, flat_map, drop, Option, sym, ap, ◌∙◌, append_assoc, append-nil}
use Rattle.term_meaning.specs.declared.leaf.Leaf.{Leaf}
use Rattle.term_meaning.specs.declared.progress.Progress.{Progress, roll-Progress, map-Progress}
use Rattle.term_meaning.specs.declared.progress.Progress.TheVariants as progress
use Rattle.term_meaning.specs.declared.progress.Running.{Running, out-Running}
use Rattle.term_meaning.specs.declared.progress.Sides.{Sides, out-Sides}
use Rattle.term_meaning.specs.declared.stimulus.Binding.{Binding}
use Rattle.term_meaning.specs.Active.{deadline_leaf, leaves_in, leaves_layer, leaves_of_copy, leaves_of_sides, wait_leaf}
use Rattle.term_meaning.proofs.Idling.{copy_leaves_is, leaves_rolled, sides_leaves_is}
use Rattle.term_meaning.proofs.Still.{Layer}

rolled : {x : Progress} (d : Layer) → roll-Progress d ≡ x → leaves_in x ≡ leaves_layer (map-Progress Progress Running Sides (List Leaf) (List Leaf) (List Leaf) leaves_in leaves_of_copy leaves_of_sides d)
rolled d is = ap leaves_in (sym is) ∙ leaves_rolled d

pub leaves-gone : leaves_in progress.Gone ≡ []
leaves-gone = rolled _ progress.rolls-Gone

pub leaves-template : (leaf : Leaf) → leaves_in (progress.Template leaf) ≡ leaf ∷ []
leaves-template leaf = rolled _ (progress.rolls-Template leaf)

pub leaves-wait : (number : ℕ) (due : ℤ) → leaves_in (progress.Wait number due) ≡ wait_leaf number due ∷ []
leaves-wait number due = rolled _ (progress.rolls-Wait number due)

pub leaves-all : (x : Progress) → leaves_in (progress.All x) ≡ leaves_in x
leaves-all x = rolled _ (progress.rolls-All x)

pub leaves-followed : (x : Progress) (copies : List Running) → leaves_in (progress.Followed x copies) ≡ leaves_in x ++ flat_map (λ leaves. leaves) (map leaves_of_copy copies)
leaves-followed x copies = rolled _ (progress.rolls-Followed x copies)

pub leaves-and : (two : Sides) (l r : Option (List Binding)) → leaves_in (progress.And two l r) ≡ leaves_of_sides two
leaves-and two l r = rolled _ (progress.rolls-And two l r)

pub leaves-and_not : (two : Sides) → leaves_in (progress.AndNot two) ≡ leaves_of_sides two
leaves-and_not two = rolled _ (progress.rolls-AndNot two)

pub leaves-not_and : (two : Sides) → leaves_in (progress.NotAnd two) ≡ leaves_of_sides two
leaves-not_and two = rolled _ (progress.rolls-NotAnd two)

pub leaves-or : (two : Sides) → leaves_in (progress.Or two) ≡ leaves_of_sides two
leaves-or two = rolled _ (progress.rolls-Or two)

pub leaves-xor : (two : Sides) → leaves_in (progress.Xor two) ≡ leaves_of_sides two
leaves-xor two = rolled _ (progress.rolls-Xor two)

pub leaves-within : (number : ℕ) (until : ℤ) (x : Progress) → leaves_in (progress.Within number until x) ≡ deadline_leaf number until ∷ leaves_in x
leaves-within number until x = rolled _ (progress.rolls-Within number until x)

pub sides_leaves : (r : Sides) → leaves_of_sides r ≡ leaves_in (out-Sides r).left ++ leaves_in (out-Sides r).right
sides_leaves r = sides_leaves_is r

pub copy_leaves : (r : Running) → leaves_of_copy r ≡ leaves_in (out-Running r).progress
copy_leaves r = copy_leaves_is r

-- ---- behind other leaves

pub behind-gone : (front : List Leaf) → front ++ leaves_in progress.Gone ≡ front
behind-gone front = ap (λ ls. front ++ ls) leaves-gone ∙ append-nil front

pub behind-followed : (front : List Leaf) (x : Progress) (copies : List Running) → front ++ leaves_in (progress.Followed x copies) ≡ (front ++ leaves_in x) ++ flat_map (λ leaves. leaves) (map leaves_of_copy copies)
behind-followed front x copies = ap (λ ls. front ++ ls) (leaves-followed x copies) ∙ sym (append_assoc front (leaves_in x) (flat_map (λ leaves. leaves) (map leaves_of_copy copies)))

pub behind-within : (front : List Leaf) (number : ℕ) (until : ℤ) (x : Progress) → front ++ leaves_in (progress.Within number until x) ≡ (front ++ deadline_leaf number until ∷ []) ++ leaves_in x
behind-within front number until x = ap (λ ls. front ++ ls) (leaves-within number until x) ∙ sym (append_assoc front (deadline_leaf number until ∷ []) (leaves_in x))

pub behind_sides : (front : List Leaf) (r : Sides) → front ++ leaves_of_sides r ≡ (front ++ leaves_in (out-Sides r).left) ++ leaves_in (out-Sides r).right
behind_sides front r = ap (λ ls. front ++ ls) (sides_leaves r) ∙ sym (append_assoc front (leaves_in (out-Sides r).left) (leaves_in (out-Sides r).right))

-- one more copy's leaves
pub behind-copy : (all : List Leaf) (copies : List Running) (i : ℕ) (copy : Running) → drop i copies ≡ copy ∷ drop (i + 1) copies
    → (all ++ leaves_of_copy copy) ++ flat_map (λ leaves. leaves) (map leaves_of_copy (drop (i + 1) copies)) ≡ all ++ flat_map (λ leaves. leaves) (map leaves_of_copy (drop i copies))
behind-copy all copies i copy is = append_assoc all (leaves_of_copy copy) (flat_map (λ leaves. leaves) (map leaves_of_copy (drop (i + 1) copies))) ∙ ap (λ cs. all ++ flat_map (λ leaves. leaves) (map leaves_of_copy cs)) (sym is)

pub ruleset leaving = (behind-gone, leaves-template, leaves-wait, leaves-all, behind-followed, leaves-and, leaves-and_not, leaves-not_and, leaves-or, leaves-xor, behind-within)
