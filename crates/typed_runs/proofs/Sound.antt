-- Parts that are as they should be keep the shapes of variables, and give values of their shapes.
use Rattle.std.proofs.Common.{◌≡◌, ◌&&◌, ◌∷◌}
use Rattle.typed_runs.proofs.Common.{ℕ, Bool, true, List, [], Option, Some, None, refl, sym, ap, subst, AllByRecursion, AllZip, Shape, Value, Program, same, Checked, if_known, is_of, all_of, are_of, agrees, M, all, Meant, values_of, Fit, AllFit, MayFit, same_is, fit_nil, fit_cons, Keeps}
use Rattle.std.proofs.lemmas.Bool.{and_parts}
use Rattle.typed_runs.proofs.Keeping.{keeps_as, keeps_all}
use Rattle.typed_runs.proofs.Stepping.{KeepsExpr}

-- ---- shapes that are told to be the same

-- a shape that is this one
pub known_is : (s : Shape) (o : Option Shape) → if_known (same s) o ≡ true → o ≡ Some s
known_is s None h = cc
known_is s (Some t) h = ap Some (sym (same_is s t h))

-- what passes a test is there
pub known_some : {A : Type 0} (test : A → Bool) (o : Option A) → if_known test o ≡ true → (x : A) × (o ≡ Some x) × (test x ≡ true)
known_some test None h = cc
known_some test (Some x) h = (x, refl, h)

-- two that agree are one
pub agrees_is : (o p : Option Shape) → agrees o p ≡ true → o ≡ p
agrees_is None None h = refl
agrees_is None (Some t) h = cc
agrees_is (Some s) None h = cc
agrees_is (Some s) (Some t) h = ap Some (same_is s t h)

-- of two that hold, each
pub left : (a b : Bool) → (a && b) ≡ true → a ≡ true
left a b h = (and_parts a b h).0

-- the second of two that hold
pub right : (a b : Bool) → (a && b) ≡ true → b ≡ true
right a b h = (and_parts a b h).1

-- ---- values one by one

-- values that fit one by one
pub zip_fit : (program : Program) (ss : List Shape) (vs : List Value) → AllZip (λ s v. Fit program.types v s) ss vs → AllFit program.types vs ss
zip_fit program [] [] h = fit_nil program.types
zip_fit program [] (v ∷ vs) h = absurd h
zip_fit program (s ∷ ss) [] h = absurd h
zip_fit program (s ∷ ss) (v ∷ vs) h = fit_cons program.types v vs s ss h.0 (zip_fit program ss vs h.1)

-- values each of which fits
pub zip_each : {A : Type 0} (P : Value → Type 0) (xs : List A) (vs : List Value) → AllZip (λ x v. P v) xs vs → AllByRecursion P vs
zip_each P [] [] h = tt
zip_each P [] (v ∷ vs) h = absurd h
zip_each P (x ∷ xs) [] h = absurd h
zip_each P (x ∷ xs) (v ∷ vs) h = (h.0, zip_each P xs vs h.1)

module _ (program : Program) (monitor : ℕ) (room : List Shape) where
  -- where the part is as it should be, its value is of its shape
  abbrev pub SoundValue : Checked → M Value → Type 0
  SoundValue c m = c.holds ≡ true → Keeps program monitor room (λ v. MayFit program.types v c.shape) m

  -- and its place and what it does as a statement
  abbrev pub Sound : Checked → Meant → Type 0
  Sound c m = c.holds ≡ true → KeepsExpr program monitor room m c.shape

  -- the value of an expression that is as it should be
  pub sound_value : (c : Checked) (m : Meant) → Sound c m → SoundValue c m.value
  sound_value c m h holds = (h holds).told

  -- the values of several
  pub sound_values : (cs : List Checked) (ms : List Meant) → AllZip Sound cs ms → AllZip SoundValue cs (values_of ms)
  sound_values [] [] h = tt
  sound_values [] (m ∷ ms) h = absurd h
  sound_values (c ∷ cs) [] h = absurd h
  sound_values (c ∷ cs) (m ∷ ms) h = (sound_value c m h.0, sound_values cs ms h.1)

  -- a part of this shape
  pub told_of : (s : Shape) (c : Checked) (m : M Value) → SoundValue c m → is_of s c ≡ true → Keeps program monitor room (λ v. Fit program.types v s) m
  told_of s c m sound h = subst (λ (o : Option Shape). Keeps program monitor room (λ v. MayFit program.types v o) m) (known_is s c.shape (right c.holds (if_known (same s) c.shape) h)) (sound (left c.holds (if_known (same s) c.shape) h))

  -- parts of one shape
  pub all_told : (s : Shape) (cs : List Checked) (ms : List (M Value)) → AllZip SoundValue cs ms → all_of s cs ≡ true → AllByRecursion (Keeps program monitor room (λ v. Fit program.types v s)) ms
  all_told s [] [] h k = tt
  all_told s [] (m ∷ ms) h k = absurd h
  all_told s (c ∷ cs) [] h k = absurd h
  all_told s (c ∷ cs) (m ∷ ms) h k = (told_of s c m h.0 (left (is_of s c) (all_of s cs) k), all_told s cs ms h.1 (right (is_of s c) (all_of s cs) k))

  -- parts one by one of these shapes
  pub are_told : (ss : List Shape) (cs : List Checked) (ms : List (M Value)) → AllZip SoundValue cs ms → are_of ss cs ≡ true → AllZip (λ s m. Keeps program monitor room (λ v. Fit program.types v s) m) ss ms
  are_told [] [] [] h k = tt
  are_told [] [] (m ∷ ms) h k = absurd h
  are_told [] (c ∷ cs) ms h k = cc
  are_told (s ∷ ss) [] ms h k = cc
  are_told (s ∷ ss) (c ∷ cs) [] h k = absurd h
  are_told (s ∷ ss) (c ∷ cs) (m ∷ ms) h k = (told_of s c m h.0 (left (is_of s c) (are_of ss cs) k), are_told ss cs ms h.1 (right (is_of s c) (are_of ss cs) k))

  -- all of them
  pub keeps_values : (ss : List Shape) (cs : List Checked) (ms : List (M Value)) → AllZip SoundValue cs ms → are_of ss cs ≡ true → Keeps program monitor room (λ vs. AllFit program.types vs ss) (all ms)
  keeps_values ss cs ms h k = keeps_as (zip_fit program ss) (keeps_all (λ s v. Fit program.types v s) ss ms (are_told ss cs ms h k))

  -- parts of one shape, one by one
  each_zip : (s : Shape) (cs : List Checked) (ms : List (M Value)) → AllZip SoundValue cs ms → all_of s cs ≡ true → AllZip (λ c m. Keeps program monitor room (λ v. Fit program.types v s) m) cs ms
  each_zip s [] [] h k = tt
  each_zip s [] (m ∷ ms) h k = absurd h
  each_zip s (c ∷ cs) [] h k = absurd h
  each_zip s (c ∷ cs) (m ∷ ms) h k = (told_of s c m h.0 (left (is_of s c) (all_of s cs) k), each_zip s cs ms h.1 (right (is_of s c) (all_of s cs) k))

  -- all of one shape
  pub keeps_each : (s : Shape) (cs : List Checked) (ms : List (M Value)) → AllZip SoundValue cs ms → all_of s cs ≡ true → Keeps program monitor room (λ vs. AllByRecursion (λ v. Fit program.types v s) vs) (all ms)
  keeps_each s cs ms h k = keeps_as (zip_each (λ v. Fit program.types v s) cs) (keeps_all (λ c v. Fit program.types v s) cs ms (each_zip s cs ms h k))
