-- Lists in order: what a loop has made so far, and what is made of the rest. `seen` is the list that the loop goes over.
use Rattle.std.proofs.Common.{◌≡◌, ℕ, suc, ◌+◌, ◌<◌, ◌≤◌, List, [], ◌∷◌, ◌++◌, length, drop, map, get_or, Ok, Err, Result, refl, ap, sym, subst, ◌∙◌, arith, drop-cons}
use Rattle.std.specs.Result.{IsErrAnd}
use Rattle.std.proofs.lemmas.List.{drop_all}
use Rattle.type_table.specs.declared.fault.Fault.{Fault}
use Rattle.type_table.specs.declared.fault.Refusal.{Refusal}
use Rattle.type_table.specs.Found.{Found, Finds, Refuses}
use Rattle.expr_rules.specs.Then.{and_then, through, sound}
use Rattle.expr_rules.proofs.Then.{finds_stop}

item_drop : {A : Type 0} (xs : List A) (i : ℕ) (x : A) → i < length xs → x ≡ get_or xs i x → drop i xs ≡ x ∷ drop (i + 1) xs
item_drop xs i x lt is = let d = drop-cons xs i x lt in let e : i + 1 ≡ suc i = omega arith in cc

same_drop : {A : Type 0} (seen xs : List A) (i : ℕ) (x : A) → seen ≡ xs → i < length seen → x ≡ get_or seen i x → drop i xs ≡ x ∷ drop (i + 1) xs
same_drop {A = A} seen xs i x same lt is = ap (λ (l : List A). drop i l) (sym same) ∙ item_drop seen i x lt is ∙ ap (λ (l : List A). x ∷ drop (i + 1) l) same

and_then_ok : {A B : Type 0} (found : Found A) (made : A → Found B) (x : A) → Finds {A = A} (Ok x) found → and_then found made ≡ made x
unfolding and_then
and_then_ok {A = A} {B = B} found made x h =
    let g : List Fault → A → Found B = λ l a. record { faults = l ++ (made a).faults; part = (made a).part } in
    ap (λ (l : List Fault). g l found.part) h.0 ∙ ap (λ (a : A). g [] a) h.1

-- a refusal that is handed on
pub finds_err : {A : Type 0} (result : Result A Refusal) (e : Refusal) (found : Found A) → IsErrAnd result (λ x. x ≡ e) → Refuses e found.faults → Finds result found
finds_err (Ok x) e found h k = absurd h
finds_err (Err y) e found h k = subst (λ (v : Refusal). Refuses v found.faults) (sym h) k

module _ {A B C : Type 0} (step : C → B → Found C) (f : A → B) where
  -- the first of the rest, and what is behind it
  through_item : (c : C) (seen xs : List A) (i : ℕ) (x : A) → seen ≡ xs → i < length seen → x ≡ get_or seen i x → through step c (map f (drop i xs)) ≡ and_then (step c (f x)) (λ d. through step d (map f (drop (i + 1) xs)))
  unfolding through
  through_item c seen xs i x same lt is = ap (λ (l : List A). through step c (map f l)) (same_drop seen xs i x same lt is)

  -- an item that stands
  pub through_next : (c d : C) (seen xs : List A) (i : ℕ) (x : A) (total : Found C) → seen ≡ xs → i < length seen → x ≡ get_or seen i x → through step c (map f (drop i xs)) ≡ total → Finds {A = C} (Ok d) (step c (f x)) → through step d (map f (drop (i + 1) xs)) ≡ total
  through_next c d seen xs i x total same lt is h found = sym (and_then_ok (step c (f x)) (λ d. through step d (map f (drop (i + 1) xs))) d found) ∙ sym (through_item c seen xs i x same lt is) ∙ h

  -- an item that is refused
  pub through_stop : (e : Refusal) (c : C) (seen xs : List A) (i : ℕ) (x : A) (total : Found C) (result : Result C Refusal) → IsErrAnd result (λ y. y ≡ e) → seen ≡ xs → i < length seen → x ≡ get_or seen i x → through step c (map f (drop i xs)) ≡ total → Refuses e (step c (f x)).faults → Finds result total
  through_stop e c seen xs i x total result err same lt is h found = finds_err result e total err (subst (λ (t : Found C). Finds {A = C} (Err e) t) (sym (through_item c seen xs i x same lt is) ∙ h) (finds_stop e (step c (f x)) (λ d. through step d (map f (drop (i + 1) xs))) found))

  -- no item is left
  pub through_done : (c : C) (seen xs : List A) (i : ℕ) (total : Found C) → seen ≡ xs → length seen ≤ i → through step c (map f (drop i xs)) ≡ total → Finds {A = C} (Ok c) total
  unfolding through
  through_done c seen xs i total same past h =
      let none : drop i xs ≡ [] = ap (λ (l : List A). drop i l) (sym same) ∙ drop_all i seen past in
      let e : through step c (map f (drop i xs)) ≡ sound c = ap (λ (l : List A). through step c (map f l)) none in
      subst (λ (t : Found C). Finds {A = C} (Ok c) t) (sym e ∙ h) (refl, refl)

-- the same of the list itself, as `search` finds it
pub next_item : {A B C : Type 0} (step : C → B → Found C) (f : A → B) (c d : C) (xs : List A) (i : ℕ) (x : A) (total : Found C) → i < length xs → x ≡ get_or xs i x → Finds {A = C} (Ok d) (step c (f x)) → through step c (map f (drop i xs)) ≡ total → through step d (map f (drop (i + 1) xs)) ≡ total
next_item step f c d xs i x total lt is found h = through_next step f c d xs xs i x total refl lt is h found

pub all_items : {A B C : Type 0} (step : C → B → Found C) (f : A → B) (c : C) (xs : List A) (i : ℕ) (total : Found C) → length xs ≤ i → through step c (map f (drop i xs)) ≡ total → Finds {A = C} (Ok c) total
all_items step f c xs i total past h = through_done step f c xs xs i total refl past h

pub ruleset rows = (next_item, all_items)
