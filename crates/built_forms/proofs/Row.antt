-- Parts in a row: what is found in one stands before all that is behind it.
use Rattle.std.proofs.Common.{◌≡◌, ℕ, suc, ◌+◌, ◌<◌, ◌≤◌, List, [], ◌∷◌, ◌++◌, length, drop, map, get_or, Option, Some, None, refl, ap, sym, ◌∙◌, arith, drop-cons}
use Rattle.std.proofs.lemmas.List.{drop_all}
use Rattle.span_text.specs.declared.spot.Spot.{Spot}
use Rattle.epl_tree.specs.declared.unit.Unit.{Unit as Tree}
use Rattle.built_forms.specs.Rows.{joined, first_of, behind}
use Rattle.built_forms.specs.Units.{in_file, missing_in_unit, missing_from}

-- behind the first of a list stands the first of the next
behind-append : (o : Option Spot) (xs ys : List Spot) → behind (behind o xs) ys ≡ behind o (xs ++ ys)
behind-append None [] ys = refl
behind-append None (x ∷ xs) ys = refl
behind-append (Some s) xs ys = refl

-- two parts in a row behind what is found
pub in_row : (found first before : Option Spot) (xs ys : List Spot) → found ≡ behind first ys → first ≡ behind before xs → found ≡ behind before (xs ++ ys)
in_row found first before xs ys is at = is ∙ ap (λ (o : Option Spot). behind o ys) at ∙ behind-append before xs ys

-- two parts in a row
pub in_pair : (found first : Option Spot) (xs ys : List Spot) → found ≡ behind first ys → first ≡ first_of xs → found ≡ first_of (xs ++ ys)
in_pair found first xs ys is at = in_row found first None xs ys is at

-- three parts in a row
pub in_three : (found second first : Option Spot) (xs ys zs : List Spot) → found ≡ behind second zs → second ≡ behind first ys → first ≡ first_of xs → found ≡ first_of (xs ++ (ys ++ zs))
in_three found second first xs ys zs is at from = in_pair found first xs (ys ++ zs) (in_row found second first ys zs is at) from

-- the item at a place, and what is behind it
item_drop : {A : Type 0} (xs : List A) (i : ℕ) (x : A) → i < length xs → x ≡ get_or xs i x → drop i xs ≡ x ∷ drop (i + 1) xs
item_drop xs i x lt is = let d = drop-cons xs i x lt in let e : i + 1 ≡ suc i = omega arith in cc

-- one more part of a list
pub next_part : {A : Type 0} (f : A → List Spot) (next found total : Option Spot) (xs : List A) (i : ℕ) (x : A) → i < length xs → x ≡ get_or xs i x → next ≡ behind found (f x) → behind found (joined (map f (drop i xs))) ≡ total → behind next (joined (map f (drop (i + 1) xs))) ≡ total
next_part {A = A} f next found total xs i x lt is at h =
    ap (λ (o : Option Spot). behind o (joined (map f (drop (i + 1) xs)))) at
    ∙ behind-append found (f x) (joined (map f (drop (i + 1) xs)))
    ∙ ap (λ (l : List A). behind found (joined (map f l))) (sym (item_drop xs i x lt is))
    ∙ h

-- behind what is found an empty list adds nothing
behind_none : (o : Option Spot) → behind o [] ≡ o
behind_none None = refl
behind_none (Some s) = refl

-- no form is found in what has no parts
pub no_part : (found : Option Spot) → found ≡ behind found []
no_part found = sym (behind_none found)

-- no part of a list is left
pub all_parts : {A : Type 0} (f : A → List Spot) (found total : Option Spot) (xs : List A) (i : ℕ) → length xs ≤ i → behind found (joined (map f (drop i xs))) ≡ total → found ≡ total
all_parts {A = A} f found total xs i past h =
    sym (behind_none found)
    ∙ ap (λ (l : List A). behind found (joined (map f l))) (sym (drop_all i xs past))
    ∙ h

pub ruleset rows = (in_row, in_pair, in_three, next_part, all_parts, no_part)

-- the first form of a file is the first of all
first_here : (place : ℕ) (spot : Spot) (xs : List Spot) (ys : List (ℕ × Spot)) → Some spot ≡ first_of xs → first_of (map (in_file place) xs ++ ys) ≡ Some (place, spot)
first_here place spot [] ys h = cc
first_here place spot (x ∷ xs) ys h = cc

-- a file without such forms adds nothing
none_here : (place : ℕ) (xs : List Spot) (ys : List (ℕ × Spot)) → None ≡ first_of xs → first_of (map (in_file place) xs ++ ys) ≡ first_of ys
none_here place [] ys h = refl
none_here place (x ∷ xs) ys h = cc

-- the file at a place, and those behind it
from_item : (units : List Tree) (place : ℕ) (unit : Tree) → place < length units → unit ≡ get_or units place unit → missing_from place (drop place units) ≡ map (in_file place) (missing_in_unit unit) ++ missing_from (place + 1) (drop (place + 1) units)
from_item units place unit lt is = ap (λ (l : List Tree). missing_from place l) (item_drop units place unit lt is)

-- the file at a place has a form that isn't built
pub file_stops : (found : Option Spot) (spot : Spot) (total : Option (ℕ × Spot)) (units : List Tree) (place : ℕ) (unit : Tree) → place < length units → unit ≡ get_or units place unit → found ≡ first_of (missing_in_unit unit) → found ≡ Some spot → first_of (missing_from place (drop place units)) ≡ total → Some (place, spot) ≡ total
file_stops found spot total units place unit lt is at here h =
    sym (first_here place spot (missing_in_unit unit) (missing_from (place + 1) (drop (place + 1) units)) (sym here ∙ at))
    ∙ ap (λ (l : List (ℕ × Spot)). first_of l) (sym (from_item units place unit lt is))
    ∙ h

-- the file at a place has none
pub file_passes : (found : Option Spot) (total : Option (ℕ × Spot)) (units : List Tree) (place : ℕ) (unit : Tree) → place < length units → unit ≡ get_or units place unit → found ≡ first_of (missing_in_unit unit) → found ≡ None → first_of (missing_from place (drop place units)) ≡ total → first_of (missing_from (place + 1) (drop (place + 1) units)) ≡ total
file_passes found total units place unit lt is at none h =
    sym (none_here place (missing_in_unit unit) (missing_from (place + 1) (drop (place + 1) units)) (sym none ∙ at))
    ∙ ap (λ (l : List (ℕ × Spot)). first_of l) (sym (from_item units place unit lt is))
    ∙ h

-- no file is left
pub all_files : (total : Option (ℕ × Spot)) (units : List Tree) (place : ℕ) → length units ≤ place → first_of (missing_from place (drop place units)) ≡ total → None ≡ total
all_files total units place past h = ap (λ (l : List Tree). first_of (missing_from place l)) (sym (drop_all place units past)) ∙ h

pub ruleset files = (file_stops, file_passes, all_files)
