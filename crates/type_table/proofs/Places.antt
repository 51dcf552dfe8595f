-- Places in a list, and in the list of what its items show.
use Rattle.std.proofs.Common.{◌≡◌, ℕ, ◌+◌, Bool, true, false, cond, not, List, [], ◌∷◌, ◌++◌, map, length, refl, ap, ap₂, sym, ◌∙◌, arith}
use Rattle.std.specs.List.{position, list_any, prefix_len}
use Rattle.std.specs.Prelude.{Some, None, is_some, nat_lt, if◌then◌else◌}
use Rattle.std.proofs.lemmas.Grind.{common_steps}
use Rattle.std.specs.Str.{bytes_eq}
use Rattle.type_table.specs.Names.{number_in, with_name}

pub prefix_len-map : {X Y : Type 0} (p : Y → Bool) (f : X → Y) (xs : List X) → prefix_len p (map f xs) ≡ prefix_len (λ x. p (f x)) xs
prefix_len-map p f [] = refl
prefix_len-map p f (x ∷ xs) = ap (λ n. cond (p (f x)) (1 + n) 0) (prefix_len-map p f xs)

length-shown : {X Y : Type 0} (f : X → Y) (xs : List X) → length (map f xs) ≡ length xs
length-shown f [] = refl
length-shown f (x ∷ xs) = grind (arith, length-shown f xs)

pub position-map : {X Y : Type 0} (p : Y → Bool) (f : X → Y) (xs : List X) → position p (map f xs) ≡ position (λ x. p (f x)) xs
position-map p f xs = ap₂ (λ i n. cond (nat_lt i n) (Some i) None) (prefix_len-map (λ y. not (p y)) f xs) (length-shown f xs)

pub map-append : {X Y : Type 0} (f : X → Y) (xs ys : List X) → map f (xs ++ ys) ≡ map f xs ++ map f ys
map-append f [] ys = refl
map-append f (x ∷ xs) ys = ap (λ l. f x ∷ l) (map-append f xs ys)

-- a place is found where the test passes somewhere
pub position-some : {X : Type 0} (p : X → Bool) (xs : List X) → is_some (position p xs) ≡ list_any p xs
position-some p [] = refl
position-some p (x ∷ xs) = grind (arith, common_steps, position-some p xs)

-- the list after a key is put in
abbrev pub put_in : {X : Type 0} → (X → Bool) → List X → X → List X
put_in e keys k = if list_any e keys then keys else keys ++ k ∷ []

cond-map : {X Y : Type 0} (f : X → Y) (b : Bool) (xs : List X) (k : X) → map f (if b then xs else xs ++ k ∷ []) ≡ (if b then map f xs else map f xs ++ f k ∷ [])
cond-map f true xs k = refl
cond-map f false xs k = map-append f xs (k ∷ [])

pub names-put_in : {X : Type 0} (f : X → List ℕ) (keys : List X) (k : X) → map f (put_in (λ x. bytes_eq (f k) (f x)) keys k) ≡ with_name (map f keys) (f k)
names-put_in f keys k =
    cond-map f (list_any (λ x. bytes_eq (f k) (f x)) keys) keys k
    ∙ ap (λ b. if b then map f keys else map f keys ++ f k ∷ [])
    (sym (position-some (λ x. bytes_eq (f k) (f x)) keys) ∙ ap is_some (sym (position-map (bytes_eq (f k)) f keys)))
