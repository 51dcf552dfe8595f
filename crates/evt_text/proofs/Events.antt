-- The spellings of events at one place.
use Rattle.evt_text.proofs.Common.{ℕ, zero, suc, List, [], length, false, Some, refl, sym, ◌∙◌, ap, arith, append_assoc, inl, inr, slice_get, or_cases, none-some, EventShape, Event, Value, is_letter, is_digit, HasNames, EventForm, HasKnownFields, HasNoCycle, AreBlanks, SpellsWithin}
use Rattle.std.proofs.Common.{◌≡◌, ◌+◌, ◌<◌, ◌∷◌, ◌++◌, ◌||◌, ◌==◌, eqb-true}
use Rattle.evt_text.specs.Spelling.{Spells}
use Rattle.evt_text.specs.Reading.{value_from}
use Rattle.evt_text.proofs.Cases.{pair-some}
use Rattle.evt_text.proofs.Nesting.{form_of-event}
use Rattle.evt_text.proofs.Renested.{value-whole}

pub get-below : (types : List EventShape) (n : ℕ) (event : EventShape) → slice_get types n ≡ Some event → n < length types
get-below [] n event e = absurd (none-some _ e)
get-below (t ∷ ts) zero event e = omega arith
get-below (t ∷ ts) (suc n) event e = let k = get-below ts n event e in omega arith

event-within : (types : List EventShape) (n : ℕ) (x : Value) (spelling : List ℕ) → Spells types (Event n) x spelling → (depth : ℕ) × SpellsWithin depth types (EventForm n) x spelling
event-within types n x spelling h = (h.0, rw form_of-event at h.1)

event-read-again : (types : List EventShape) → HasNames types → (limit n : ℕ) (x : Value) (spelling rest : List ℕ) → length spelling < limit → Spells types (Event n) x spelling
    → value_from limit types (EventForm n) (spelling ++ rest) ≡ Some (x, rest)
event-read-again types names limit n x spelling rest lt h =
    let s = event-within types n x spelling h in value-whole types names limit s.0 (EventForm n) x spelling rest tt lt s.1

-- two events of one type that are spelled at one place are the same
pub event-alike : (types : List EventShape) → HasNames types → (n : ℕ) (x y : Value) (spelling rest spelling' rest' : List ℕ)
    → Spells types (Event n) x spelling → Spells types (Event n) y spelling' → spelling ++ rest ≡ spelling' ++ rest' → (x ≡ y) × (rest ≡ rest')
event-alike types names n x y spelling rest spelling' rest' h k e =
    let limit = suc (length spelling + length spelling') in
    let first : length spelling < suc (length spelling + length spelling') = omega arith in
    let second : length spelling' < suc (length spelling + length spelling') = omega arith in
    pair-some _ _ _ _ (sym (event-read-again types names limit n x spelling rest first h) ∙ ap (value_from limit types (EventForm n)) e ∙ event-read-again types names limit n y spelling' rest' second k)

pub event-same : (types : List EventShape) → HasNames types → HasKnownFields types → HasNoCycle types → (n : ℕ) (x y : Value) (spelling rest spelling' rest' : List ℕ)
    → Spells types (Event n) x spelling → Spells types (Event n) y spelling' → spelling ++ rest ≡ spelling' ++ rest' → (x ≡ y) × (rest ≡ rest')
event-same types names known none n x y spelling rest spelling' rest' h k e = event-alike types names n x y spelling rest spelling' rest' h k e

-- a byte that can't go on with a name is in front
abbrev pub EndsName : List ℕ → Type 0
EndsName [] = ⊥
EndsName (b ∷ bs) = (is_letter b || is_digit b) ≡ false

blank-ends : (blanks rest : List ℕ) → AreBlanks blanks → EndsName (blanks ++ (40 ∷ rest))
blank-ends [] rest h = refl
blank-ends (b ∷ bs) rest h = elim (or_cases (b == 32) (b == 9) h.0) [ inl g ↦ rw (eqb-true b 32 g) refl | inr g ↦ rw (eqb-true b 9 g) refl ]

name-within : (types : List EventShape) (depth n : ℕ) (x : Value) (spelling : List ℕ) → SpellsWithin depth types (EventForm n) x spelling
    → (event : EventShape) × (tail : List ℕ) × (slice_get types n ≡ Some event) × (spelling ≡ event.name ++ tail) × EndsName tail
name-within types zero n x spelling h = absurd h
name-within types (suc depth) n x spelling (event, xs, found, is, s) =
    (event, s.0 ++ (40 ∷ (s.1 ++ (s.2 ++ (41 ∷ [])))), found, s.3 ∙ simp append_assoc, blank-ends s.0 (s.1 ++ (s.2 ++ (41 ∷ []))) s.4)

-- an event begins with the name of its type
pub event-name : (types : List EventShape) (n : ℕ) (x : Value) (spelling : List ℕ) → Spells types (Event n) x spelling
    → (event : EventShape) × (tail : List ℕ) × (slice_get types n ≡ Some event) × (spelling ≡ event.name ++ tail) × EndsName tail
event-name types n x spelling h = let s = event-within types n x spelling h in name-within types s.0 n x spelling s.1

opens-within : (types : List EventShape) (depth n : ℕ) (x : Value) (spelling : List ℕ) → SpellsWithin depth types (EventForm n) x spelling
    → (event : EventShape) × (blanks more : List ℕ) × (slice_get types n ≡ Some event) × (spelling ≡ event.name ++ (blanks ++ (40 ∷ more))) × AreBlanks blanks
opens-within types zero n x spelling h = absurd h
opens-within types (suc depth) n x spelling (event, xs, found, is, s) = (event, s.0, s.1 ++ (s.2 ++ (41 ∷ [])), found, s.3 ∙ simp append_assoc, s.4)

-- behind the name of its type come blanks and a bracket
pub event-opens : (types : List EventShape) (n : ℕ) (x : Value) (spelling : List ℕ) → Spells types (Event n) x spelling
    → (event : EventShape) × (blanks more : List ℕ) × (slice_get types n ≡ Some event) × (spelling ≡ event.name ++ (blanks ++ (40 ∷ more))) × AreBlanks blanks
event-opens types n x spelling h = let s = event-within types n x spelling h in opens-within types s.0 n x spelling s.1
