-- What a reader may be made of. A reader answers the tree at a place and the place behind it, or none.
use Rattle.std.specs.Prelude.{ℕ, zero, suc, ◌+◌, ◌-◌, Bool, if◌then◌else◌, nat_lt, List, [], ◌∷◌, ◌++◌, Option, Some, None}
use Rattle.grammar_forms.specs.Rule.{Row, has}

-- A reader: the tree that begins at a place and the place behind it, or none.
abbrev pub Reader : Type 0 → Type 0
Reader A = ℕ → Option (A × ℕ)

-- Reads nothing.
abbrev pub none : {A : Type 0} → Reader A
none at = None

-- What a rule makes of the tree that was read.
abbrev pub made : {A B : Type 0} → (A → B) → Option (A × ℕ) → Option (B × ℕ)
made f None = None
made f (Some x) = Some (f x.0, x.1)

-- A tree beside the one that was read behind it.
abbrev pub with : {A B : Type 0} → A → Option (B × ℕ) → Option ((A × B) × ℕ)
with a None = None
with a (Some y) = Some ((a, y.0), y.1)

-- One after the other.
abbrev pub and_then : {A B : Type 0} → Option (A × ℕ) → Reader B → Option ((A × B) × ℕ)
and_then None s = None
and_then (Some x) s = with x.0 (s x.1)

-- The one, or else the other.
abbrev pub or_else : {A : Type 0} → Option (A × ℕ) → Option (A × ℕ) → Option (A × ℕ)
or_else None o = o
or_else (Some x) o = Some x

-- A turn of `many`: it ends where none was read.
abbrev pub more : {A : Type 0} → Option (A × ℕ) → ℕ → List A → (ℕ → List A → List A × ℕ) → List A × ℕ
more None at found go = (found, at)
more (Some x) at found go = go x.1 (found ++ x.0 ∷ [])

-- As many as there are, one after the other, and the place behind them, in at most so many turns.
unfoldable pub many : {A : Type 0} → Reader A → ℕ → ℕ → List A → List A × ℕ
many r zero at found = (found, at)
many r (suc turns) at found = more (r at) at found (many r turns)

-- One, and then as many of another as there are.
abbrev pub and_many : {A B : Type 0} → ℕ → Option (A × ℕ) → Reader B → Option ((A × List B) × ℕ)
and_many len None s = None
and_many len (Some x) s = Some ((x.0, (many s (len - x.1) x.1 []).0), (many s (len - x.1) x.1 []).1)

-- A tree, and another behind it where one was read.
abbrev pub or_none : {A B : Type 0} → A → ℕ → Option (B × ℕ) → Option ((A × Option B) × ℕ)
or_none a at None = Some ((a, None), at)
or_none a at (Some y) = Some ((a, Some y.0), y.1)

-- One, and then another or none.
abbrev pub and_optional : {A B : Type 0} → Option (A × ℕ) → Reader B → Option ((A × Option B) × ℕ)
and_optional None s = None
and_optional (Some x) s = or_none x.0 x.1 (s x.1)

-- A tree, and another that has to stand behind it.
abbrev pub with_some : {A B : Type 0} → A → Option (B × ℕ) → Option ((A × Option B) × ℕ)
with_some a None = None
with_some a (Some y) = Some ((a, Some y.0), y.1)

-- One, and then another where a class comes next.
abbrev pub and_where : {A B : Type 0} → Row → List ℕ → Option (A × ℕ) → Reader B → Option ((A × Option B) × ℕ)
and_where row set None s = None
and_where row set (Some x) s = if has row set x.1 then with_some x.0 (s x.1) else Some ((x.0, None), x.1)

-- What passes a test.
abbrev pub such : {A : Type 0} → (A → Bool) → Option (A × ℕ) → Option (A × ℕ)
such test None = None
such test (Some x) = if test x.0 then Some x else None

-- What begins with a class.
abbrev pub starting : {A : Type 0} → Row → List ℕ → ℕ → Option (A × ℕ) → Option (A × ℕ)
starting row set at o = if has row set at then o else None

-- One item of a class.
unfoldable pub item_of : Row → List ℕ → Reader (Unit {0})
item_of row set at = if has row set at then Some (tt, at + 1) else None

-- Where a run of these classes ends, in at most so many turns.
unfoldable pub run_end : Row → List ℕ → ℕ → ℕ → ℕ
run_end row set zero at = at
run_end row set (suc turns) at = if has row set at then run_end row set turns (at + 1) else at

-- A run of these classes, at least one item long.
unfoldable pub run_at : Row → List ℕ → Reader (Unit {0})
run_at row set at = if nat_lt at (run_end row set (row.len - at) at) then Some (tt, run_end row set (row.len - at) at) else None

-- One behind an item of a class.
unfoldable pub behind : {A : Type 0} → Row → List ℕ → Reader A → Reader A
behind row set r at = made (λ x. x.1) (and_then (item_of row set at) r)

-- One between an item that opens and one that closes.
unfoldable pub within : {A : Type 0} → Row → List ℕ → List ℕ → Reader A → Reader A
within row opening closing r at =
    made (λ x. x.1.0) (and_then (item_of row opening at) (λ i. and_then (r i) (item_of row closing)))

-- One or more, with a separator between any two.
unfoldable pub separated : {A : Type 0} → Row → List ℕ → Reader A → Reader (List A)
separated row separator r at = made (λ x. x.0 ∷ x.1) (and_many row.len (r at) (behind row separator r))
