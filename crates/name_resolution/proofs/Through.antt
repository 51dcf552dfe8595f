-- Lists that are read in order: each item is put behind those before it, and is what its tree asks.
use Rattle.std.proofs.Common.{◌≡◌, List, [], ◌∷◌, ◌++◌, map, refl, sym, ap, ◌∙◌}
use Rattle.std.specs.List.{AllByRecursion}
use Rattle.type_table.specs.Found.{Found}
use Rattle.expr_rules.specs.Then.{through}
use Rattle.name_resolution.proofs.Sure.{Sure, sure_sound, sure_then, sure_as}

-- items beside each other
abbrev pub Along : {T X : Type 0} → (T → X → Type 0) → List T → List X → Type 0
Along R [] [] = Unit {0}
Along R (t ∷ ts) (x ∷ xs) = R t x × Along R ts xs
Along R ts xs = ⊥

pub append_none : {A : Type 0} (xs : List A) → xs ++ [] ≡ xs
append_none [] = refl
append_none {A = A} (x ∷ xs) = ap (λ (l : List A). x ∷ l) (append_none xs)

pub regroup : {A : Type 0} (xs : List A) (x : A) (ys : List A) → (xs ++ x ∷ []) ++ ys ≡ xs ++ (x ∷ ys)
regroup [] x ys = refl
regroup {A = A} (z ∷ xs) x ys = ap (λ (l : List A). z ∷ l) (regroup xs x ys)

-- the trees of which something is known
pub held_all : {T : Type 0} (P : T → Type 0) (hs : List ((t : T) × P t)) → AllByRecursion P (map (λ h. h.0) hs)
held_all P [] = tt
held_all P (h ∷ hs) = (h.1, held_all P hs)

pub all_as : {T : Type 0} (P Q : T → Type 0) (ts : List T) → ((t : T) → P t → Q t) → AllByRecursion P ts → AllByRecursion Q ts
all_as P Q [] f all = tt
all_as P Q (t ∷ ts) f all = (f t all.0, all_as P Q ts f all.1)

-- one item more
pub record One {T C X K : Type 0} (items : C → List X) (keep : C → K) (R : T → X → Type 0) (t : T) (c d : C) : Type 0 where
  pub item : X
  pub behind : items d ≡ items c ++ item ∷ []
  pub kept : keep d ≡ keep c
  pub good : R t item

-- an item for each tree
pub record More {T C X K : Type 0} (items : C → List X) (keep : C → K) (R : T → X → Type 0) (ts : List T) (c d : C) : Type 0 where
  pub found : List X
  pub behind : items d ≡ items c ++ found
  pub kept : keep d ≡ keep c
  pub good : Along R ts found

more_after : {T C X K : Type 0} (items : C → List X) (keep : C → K) (R : T → X → Type 0) (t : T) (ts : List T) (c d e : C) → One items keep R t c d → More items keep R ts d e → More items keep R (t ∷ ts) c e
more_after {X = X} items keep R t ts c d e o m = record {
  found = o.item ∷ m.found;
  behind = m.behind ∙ ap (λ (l : List X). l ++ m.found) o.behind ∙ regroup (items c) o.item m.found;
  kept = m.kept ∙ o.kept;
  good = (o.good, m.good);
}

pub through_more : {T B C X K : Type 0} (made : T → B) (items : C → List X) (keep : C → K) (R : T → X → Type 0) (step : C → B → Found C) (ts : List T)
    → AllByRecursion (λ t. (c : C) → Sure (One items keep R t c) (step c (made t))) ts → (c : C) → Sure (More items keep R ts c) (through step c (map made ts))
unfolding through
through_more made items keep R step [] all c = sure_sound (More items keep R [] c) c (record { found = []; behind = sym (append_none (items c)); kept = refl; good = tt })
through_more {B = B} made items keep R step (t ∷ ts) all c =
    sure_then (One items keep R t c) (More items keep R (t ∷ ts) c) (step c (made t)) (λ d. through step d (map made ts)) (all.0 c)
    (λ d o. sure_as (More items keep R ts d) (More items keep R (t ∷ ts) c) (through step d (map made ts)) (λ e m. more_after items keep R t ts c d e o m) (through_more made items keep R step ts all.1 d))
