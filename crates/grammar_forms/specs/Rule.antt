-- What a rule of a grammar may be made of. A form says which trees span the places from one up to before another.
use Rattle.std.specs.Prelude.{◌≡◌, ℕ, ◌+◌, ◌<◌, ◌≤◌, ◌||◌, ◌&&◌, not, ◌==◌, Bool, true, false, List, [], ◌∷◌, ◌⊎◌, Option, Some, None}

-- What stands in a row, such as bytes or tokens: how many, and the class of each, with a class of its own past the end.
pub record Row : Type 0 where
  pub class : ℕ → ℕ
  pub len : ℕ

-- Whether a class is in a set of classes.
abbrev pub contains : ℕ → List ℕ → Bool
contains c [] = false
contains c (x ∷ xs) = x == c || contains c xs

-- Whether two sets have no class in common.
abbrev pub apart : List ℕ → List ℕ → Bool
apart [] ys = true
apart (x ∷ xs) ys = not (contains x ys) && apart xs ys

-- Whether the one set is within the other.
abbrev pub all_in : List ℕ → List ℕ → Bool
all_in [] ys = true
all_in (x ∷ xs) ys = contains x ys && all_in xs ys

-- Whether what stands at a place is of one of the classes.
unfoldable pub has : Row → List ℕ → ℕ → Bool
has row set i = contains (row.class i) set

-- Nothing of the classes stands past the end of the row.
abbrev pub LiesInside : Row → List ℕ → Type 0
LiesInside row set = (i : ℕ) → has row set i ≡ true → i < row.len

-- A form: which trees span the places from one up to before another.
abbrev pub Form : Type 0 → Type 1
Form A = A → ℕ → ℕ → Type 0

-- No tree at all.
abbrev pub Nothing : {A : Type 0} → Form A
Nothing a at end = ⊥

-- What a rule makes of the tree of its parts.
abbrev pub Made : {A B : Type 0} → (A → B) → Form A → Form B
Made {A} f P b at end = (a : A) × (b ≡ f a) × P a at end

-- One after the other.
abbrev pub Then : {A B : Type 0} → Form A → Form B → Form (A × B)
Then P Q x at end = (mid : ℕ) × P x.0 at mid × Q x.1 mid end

-- Any number of them, one after the other.
abbrev pub Many : {A : Type 0} → Form A → Form (List A)
Many P [] at end = end ≡ at
Many P (x ∷ xs) at end = (mid : ℕ) × P x at mid × Many P xs mid end

-- One or the other.
abbrev pub Either : {A : Type 0} → Form A → Form A → Form A
Either P Q x at end = P x at end ⊎ Q x at end

-- One, or none.
abbrev pub Optional : {A : Type 0} → Form A → Form (Option A)
Optional P None at end = end ≡ at
Optional P (Some a) at end = P a at end

-- One where a class comes next, and else none.
abbrev pub Where : {A : Type 0} → Row → List ℕ → Form A → Form (Option A)
Where row set P None at end = (has row set at ≡ false) × (end ≡ at)
Where row set P (Some a) at end = (has row set at ≡ true) × P a at end

-- One that passes a test.
abbrev pub Such : {A : Type 0} → (A → Bool) → Form A → Form A
Such test P a at end = (test a ≡ true) × P a at end

-- One that begins with a class.
abbrev pub Starting : {A : Type 0} → Row → List ℕ → Form A → Form A
Starting row set P a at end = (has row set at ≡ true) × P a at end

-- One item of a class.
abbrev pub IsOf : Row → List ℕ → Form (Unit {0})
IsOf row set _ at end = (has row set at ≡ true) × (end ≡ at + 1)

-- Items of these classes, at least one.
pub record IsRun (row : Row) (set : List ℕ) (at end : ℕ) : Type 0 where
  pub some : at < end
  pub within : end ≤ row.len
  pub each : (i : ℕ) → at ≤ i → i < end → has row set i ≡ true

-- One behind an item of a class, as behind a sign.
abbrev pub Behind : {A : Type 0} → Row → List ℕ → Form A → Form A
Behind row set P = Made (λ x. x.1) (Then (IsOf row set) P)

-- One between an item that opens and one that closes.
abbrev pub Within : {A : Type 0} → Row → List ℕ → List ℕ → Form A → Form A
Within row opening closing P = Made (λ x. x.1.0) (Then (IsOf row opening) (Then P (IsOf row closing)))

-- One or more, with a separator between any two.
abbrev pub Separated : {A : Type 0} → Row → List ℕ → Form A → Form (List A)
Separated row separator P = Made (λ x. x.0 ∷ x.1) (Then P (Many (Behind row separator P)))
