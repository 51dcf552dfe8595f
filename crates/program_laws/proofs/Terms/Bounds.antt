-- The names that an event expression binds, behind those around it: events with their places, in order.
use Rattle.std.proofs.Common.{◌≡◌, ◌+◌, ◌<◌, ◌&&◌, ◌∷◌, ◌++◌}
use Rattle.program_laws.proofs.Common.{ℕ, zero, suc, Bool, true, false, not, List, [], length, Option, Some, None, is_some, slice_get, refl, sym, ap, subst, ◌∙◌, true≢false, arith, position, find, bytes_eq, position_or_len, nat_tests, Names, Scope, Seen, seen_of, seen, item_at, is_own}
use Rattle.std.proofs.lemmas.List.Folds.{find_at}
use Rattle.std.proofs.lemmas.Option.{slice_get_past}
use Rattle.std.specs.Prelude.{nat_lt, cond}
use Rattle.epl_values.specs.declared.shape.Shape.TheVariants as shape
use Rattle.type_table.specs.declared.scope.SeenKind.TheVariants as kind
use Rattle.program_laws.proofs.Shapes.Lists.{slice_some}

-- ---- the first that passes

module _ {A : Type 0} (p : A → Bool) where
  item_here : (xs : List A) (b : Bool) → nat_lt (position_or_len p xs) (length xs) ≡ b → item_at xs (cond b (Some (position_or_len p xs)) None) ≡ find p xs
  item_here xs true is = sym (find_at p xs)
  item_here xs false is = sym (find_at p xs ∙ slice_get_past xs (position_or_len p xs) (grind (arith, nat_tests)))

  item_found : (xs : List A) → item_at xs (position p xs) ≡ find p xs
  item_found xs = item_here xs (nat_lt (position_or_len p xs) (length xs)) refl

  there_here : (xs : List A) (b : Bool) → nat_lt (position_or_len p xs) (length xs) ≡ b → is_some (cond b (Some (position_or_len p xs)) None) ≡ is_some (find p xs)
  there_here xs true is = let some = slice_some xs (position_or_len p xs) (grind (arith, nat_tests)) in sym (ap is_some (find_at p xs ∙ some.1))
  there_here xs false is = sym (ap is_some (find_at p xs ∙ slice_get_past xs (position_or_len p xs) (grind (arith, nat_tests))))

  there_found : (xs : List A) → is_some (position p xs) ≡ is_some (find p xs)
  there_found xs = there_here xs (nat_lt (position_or_len p xs) (length xs)) refl

  front_step : (x : A) (xs ys : List A) (b : Bool) → p x ≡ b → is_some (cond b (Some x) (find p xs)) ≡ true → (is_some (find p xs) ≡ true → find p (xs ++ ys) ≡ find p xs) → cond b (Some x) (find p (xs ++ ys)) ≡ cond b (Some x) (find p xs)
  front_step x xs ys true is h rest = refl
  front_step x xs ys false is h rest = rest h

  find_front : (xs ys : List A) → is_some (find p xs) ≡ true → find p (xs ++ ys) ≡ find p xs
  find_front [] ys h = absurd (true≢false (sym h))
  find_front (x ∷ xs) ys h = front_step x xs ys (p x) refl h (find_front xs ys)

  behind_step : (x : A) (xs ys : List A) (b : Bool) → is_some (cond b (Some x) (find p xs)) ≡ false → (is_some (find p xs) ≡ false → find p (xs ++ ys) ≡ find p ys) → cond b (Some x) (find p (xs ++ ys)) ≡ find p ys
  behind_step x xs ys true h rest = absurd (true≢false h)
  behind_step x xs ys false h rest = rest h

  find_behind : (xs ys : List A) → is_some (find p xs) ≡ false → find p (xs ++ ys) ≡ find p ys
  find_behind [] ys h = refl
  find_behind (x ∷ xs) ys h = behind_step x xs ys (p x) h (find_behind xs ys)

-- ---- names

abbrev pub widened : Scope → List Seen → Scope
widened scope bound = record scope { names = scope.names ++ bound }

-- what a name stands for is the first of that name
pub seen_is : (scope : Scope) (name : List ℕ) → seen scope name ≡ find (λ s. bytes_eq s.name name) scope.names
seen_is scope name = item_found (λ s. bytes_eq s.name name) scope.names

pub seen_there : (scope : Scope) (name : List ℕ) → is_some (seen_of scope name) ≡ is_some (seen scope name)
seen_there scope name = there_found (λ s. bytes_eq s.name name) scope.names ∙ sym (ap is_some (seen_is scope name))

seen_front : (scope : Scope) (bound : List Seen) (name : List ℕ) → is_some (seen_of scope name) ≡ true → seen (widened scope bound) name ≡ seen scope name
seen_front scope bound name h = seen_is (widened scope bound) name ∙ find_front (λ s. bytes_eq s.name name) scope.names bound (sym (there_found (λ s. bytes_eq s.name name) scope.names) ∙ h) ∙ sym (seen_is scope name)

pub seen_behind : (scope : Scope) (bound : List Seen) (name : List ℕ) → is_some (seen_of scope name) ≡ false → seen (widened scope bound) name ≡ item_at bound (position (λ s. bytes_eq s.name name) bound)
seen_behind scope bound name h = seen_is (widened scope bound) name ∙ find_behind (λ s. bytes_eq s.name name) scope.names bound (sym (there_found (λ s. bytes_eq s.name name) scope.names) ∙ h) ∙ sym (item_found (λ s. bytes_eq s.name name) bound)

pub seen_found_none : (scope : Scope) (bound : List Seen) (name : List ℕ) → is_some (seen_of scope name) ≡ false → find (λ s. bytes_eq s.name name) bound ≡ None → seen (widened scope bound) name ≡ None
seen_found_none scope bound name h none = seen_is (widened scope bound) name ∙ find_behind (λ s. bytes_eq s.name name) scope.names bound (sym (there_found (λ s. bytes_eq s.name name) scope.names) ∙ h) ∙ none

none_there : {A : Type 0} (o q : Option A) → is_some o ≡ false → is_some q ≡ false → o ≡ q
none_there None None h k = refl
none_there None (Some x) h k = absurd (true≢false k)
none_there (Some x) q h k = absurd (true≢false h)

apart_here : (scope : Scope) (bound : List Seen) (name : List ℕ) (b : Bool) → is_some (seen_of scope name) ≡ b → (not b && is_some (seen_of (widened scope bound) name)) ≡ false → seen (widened scope bound) name ≡ seen scope name
apart_here scope bound name true is h = seen_front scope bound name is
apart_here scope bound name false is h = none_there (seen (widened scope bound) name) (seen scope name) (sym (seen_there (widened scope bound) name) ∙ h) (sym (seen_there scope name) ∙ is)

-- a name that isn't bound stands for what it does around
pub seen_apart : (scope : Scope) (bound : List Seen) (name : List ℕ) → is_own scope (widened scope bound) name ≡ false → seen (widened scope bound) name ≡ seen scope name
seen_apart scope bound name h = apart_here scope bound name (is_some (seen_of scope name)) refl h

-- a name that is bound, at its place
pub record Own (scope : Scope) (bound : List Seen) (name : List ℕ) : Type 0 where
  pub item : Seen
  pub place : ℕ
  pub at : slice_get bound place ≡ Some item
  pub seen_so : seen (widened scope bound) name ≡ Some item

own_at : (scope : Scope) (bound : List Seen) (name : List ℕ) (n : ℕ) (o : Option Seen) → seen (widened scope bound) name ≡ slice_get bound n → slice_get bound n ≡ o → is_some (seen (widened scope bound) name) ≡ true → Own scope bound name
own_at scope bound name n None is at h = absurd (true≢false (sym (sym (ap is_some (is ∙ at)) ∙ h)))
own_at scope bound name n (Some x) is at h = record { item = x; place = n; at = at; seen_so = is ∙ at }

own_item : (scope : Scope) (bound : List Seen) (name : List ℕ) (o : Option ℕ) → seen (widened scope bound) name ≡ item_at bound o → is_some (seen (widened scope bound) name) ≡ true → Own scope bound name
own_item scope bound name None is h = absurd (true≢false (sym (sym (ap is_some is) ∙ h)))
own_item scope bound name (Some n) is h = own_at scope bound name n (slice_get bound n) is refl h

own_here : (scope : Scope) (bound : List Seen) (name : List ℕ) (b : Bool) → is_some (seen_of scope name) ≡ b → (not b && is_some (seen_of (widened scope bound) name)) ≡ true → Own scope bound name
own_here scope bound name true is h = absurd (true≢false (sym h))
own_here scope bound name false is h = own_item scope bound name (position (λ s. bytes_eq s.name name) bound) (seen_behind scope bound name is) (sym (seen_there (widened scope bound) name) ∙ h)

pub own_found : (scope : Scope) (bound : List Seen) (name : List ℕ) → is_own scope (widened scope bound) name ≡ true → Own scope bound name
own_found scope bound name h = own_here scope bound name (is_some (seen_of scope name)) refl h

-- ---- places

module _ (names : Names) where
  -- an event of a type that is there, with its place
  pub record BoundAt (n : ℕ) (x : Seen) : Type 0 where
    pub event : ℕ
    pub there : event < length names.types
    pub shaped : x.shape ≡ Some (shape.Event event)
    pub is_bound : x.kind ≡ kind.Bound
    pub numbered : x.number ≡ n

  abbrev pub Numbered : ℕ → List Seen → Type 0
  Numbered n [] = Unit {0}
  Numbered n (x ∷ xs) = BoundAt n x × Numbered (suc n) xs

  pub numbered_at : (n : ℕ) (xs : List Seen) (i : ℕ) (x : Seen) → Numbered n xs → slice_get xs i ≡ Some x → BoundAt (n + i) x
  numbered_at n [] i x all h = absurd (cc)
  numbered_at n (y ∷ xs) zero x all h = let e : y ≡ x = cc in subst (λ (m : ℕ). BoundAt m x) (omega arith) (subst (BoundAt n) e all.0)
  numbered_at n (y ∷ xs) (suc i) x all h = let found = numbered_at (suc n) xs i x all.1 h in subst (λ (m : ℕ). BoundAt m x) (omega arith) found

  pub numbered_push : (n : ℕ) (xs : List Seen) (x : Seen) → Numbered n xs → BoundAt (n + length xs) x → Numbered n (xs ++ x ∷ [])
  numbered_push n [] x all h = (subst (λ (m : ℕ). BoundAt m x) (omega arith) h, tt)
  numbered_push n (y ∷ xs) x all h = (all.0, numbered_push (suc n) xs x all.1 (subst (λ (m : ℕ). BoundAt m x) (omega arith) h))
