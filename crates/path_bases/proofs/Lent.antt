-- Locals by number, seen as their values.
use Rattle.std.proofs.Common.{◌≡◌, ℕ, zero, suc, ◌≤◌, List, [], ◌∷◌, length, map, Some, None, refl, sym, ap, subst, ◌∙◌, arith}
use Rattle.std.specs.Prelude.{slice_get, slice_set}
use Rattle.epl_values.specs.declared.value.Value.{Value}
use Rattle.epl_values.specs.declared.value.Value.TheVariants as value
use Rattle.body_meaning.specs.Paths.{or_none}
use Rattle.value_steps.specs.Orderly.{AreOrderly, IsOrderly}
use Rattle.value_steps.proofs.Kept.{all_get, all_set}
use Rattle.path_bases.specs.declared.locals.Got.{Got}
use Rattle.path_bases.specs.declared.locals.Got.TheVariants as got
use Rattle.path_bases.specs.Locals.{got_value, values_in, local_in}

-- ---- one of several

pub get_mapped : {A B : Type 0} (f : A → B) (xs : List A) (n : ℕ) (x : A) → slice_get xs n ≡ Some x → slice_get (map f xs) n ≡ Some (f x)
get_mapped f [] n x e = cc
get_mapped f (y ∷ ys) zero x e = let same : y ≡ x = cc in ap (λ z. Some (f z)) same
get_mapped f (y ∷ ys) (suc n) x e = get_mapped f ys n x e

pub get_past : {A B : Type 0} (f : A → B) (xs : List A) (n : ℕ) → length xs ≤ n → slice_get (map f xs) n ≡ None
get_past f [] n past = refl
get_past f (x ∷ xs) zero past = absurd (omega arith)
get_past f (x ∷ xs) (suc n) past = get_past f xs n (omega arith)

pub get_missing : {A B : Type 0} (f : A → B) (xs : List A) (n : ℕ) → slice_get xs n ≡ None → slice_get (map f xs) n ≡ None
get_missing f [] n e = refl
get_missing f (x ∷ xs) zero e = cc
get_missing f (x ∷ xs) (suc n) e = get_missing f xs n e

pub set_mapped : {A B : Type 0} (f : A → B) (xs : List A) (n : ℕ) (x : A) → map f (slice_set xs n x) ≡ slice_set (map f xs) n (f x)
set_mapped f [] n x = refl
set_mapped f (y ∷ ys) zero x = refl
set_mapped f (y ∷ ys) (suc n) x = ap (λ zs. f y ∷ zs) (set_mapped f ys n x)

pub set_past : {A : Type 0} (xs : List A) (n : ℕ) (x : A) → length xs ≤ n → slice_set xs n x ≡ xs
set_past [] n x past = refl
set_past (y ∷ ys) zero x past = absurd (omega arith)
set_past (y ∷ ys) (suc n) x past = ap (λ zs. y ∷ zs) (set_past ys n x (omega arith))

pub length_set : {A : Type 0} (xs : List A) (n : ℕ) (x : A) → length (slice_set xs n x) ≡ length xs
length_set [] n x = refl
length_set (y ∷ ys) zero x = refl
length_set (y ∷ ys) (suc n) x = ap suc (length_set ys n x)

pub set_again : {A : Type 0} (xs : List A) (n : ℕ) (x y : A) → slice_set (slice_set xs n x) n y ≡ slice_set xs n y
set_again [] n x y = refl
set_again (z ∷ zs) zero x y = refl
set_again (z ∷ zs) (suc n) x y = ap (λ ys. z ∷ ys) (set_again zs n x y)

pub set_same : {A : Type 0} (xs : List A) (n : ℕ) (x : A) → slice_get xs n ≡ Some x → slice_set xs n x ≡ xs
set_same [] n x e = refl
set_same (z ∷ zs) zero x e = let first : z ≡ x = cc in ap (λ y. y ∷ zs) (sym first)
set_same (z ∷ zs) (suc n) x e = ap (λ ys. z ∷ ys) (set_same zs n x e)

length_mapped : {A B : Type 0} (f : A → B) (xs : List A) → length (map f xs) ≡ length xs
length_mapped f [] = refl
length_mapped f (x ∷ xs) = ap suc (length_mapped f xs)

-- ---- locals

pub local_found : (gots : List Got) (n : ℕ) (g : Got) → slice_get gots n ≡ Some g → local_in gots n ≡ got_value g
local_found gots n g e = ap or_none (get_mapped got_value gots n g e)

pub local_missing : (gots : List Got) (n : ℕ) → slice_get gots n ≡ None → local_in gots n ≡ value.NoContext
local_missing gots n e = ap or_none (get_missing got_value gots n e)

-- a local of a body whose locals are in order
pub local_orderly : (gots : List Got) (n : ℕ) (g : Got) → AreOrderly (values_in gots) → slice_get gots n ≡ Some g → IsOrderly (got_value g)
local_orderly gots n g all e = all_get IsOrderly (values_in gots) n (got_value g) all (get_mapped got_value gots n g e)

-- a local that is given a value
pub values_set : (gots new : List Got) (n : ℕ) (v : Value) → new ≡ slice_set gots n (got.Own v) → values_in new ≡ slice_set (values_in gots) n v
values_set gots new n v e = ap values_in e ∙ set_mapped got_value gots n (got.Own v)

pub values_past : (gots : List Got) (n : ℕ) (v : Value) → length gots ≤ n → values_in gots ≡ slice_set (values_in gots) n v
values_past gots n v past = let same : length (values_in gots) ≡ length gots = length_mapped got_value gots in sym (set_past (values_in gots) n v (omega arith))

pub set_orderly : (values new : List Value) (n : ℕ) (v : Value) → new ≡ slice_set values n v → AreOrderly values → IsOrderly v → AreOrderly new
set_orderly values new n v e all o = subst AreOrderly (sym e) (all_set IsOrderly values n v all o)

-- what was taken from a place is put back there
pub values_back : (old mid new : List Got) (n : ℕ) (g h k : Got) → slice_get old n ≡ Some g → mid ≡ slice_set old n h → new ≡ slice_set mid n k → got_value k ≡ got_value g → values_in new ≡ values_in old
values_back old mid new n g h k there left back same =
    ap values_in back
    ∙ set_mapped got_value mid n k
    ∙ ap (λ xs. slice_set (values_in xs) n (got_value k)) left
    ∙ ap (λ xs. slice_set xs n (got_value k)) (set_mapped got_value old n h)
    ∙ set_again (values_in old) n (got_value h) (got_value k)
    ∙ ap (slice_set (values_in old) n) same
    ∙ set_same (values_in old) n (got_value g) (get_mapped got_value old n g there)

-- a place that was emptied, and then given a value in order
pub order_left : (old mid new : List Value) (n : ℕ) (hole v : Value) → mid ≡ slice_set old n hole → new ≡ slice_set mid n v → AreOrderly old → IsOrderly v → AreOrderly new
order_left old mid new n hole v left back all o = set_orderly old new n v (back ∙ ap (λ xs. slice_set xs n v) left ∙ set_again old n hole v) all o
