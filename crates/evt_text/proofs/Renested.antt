-- What is spelled as a value is read again.
use Rattle.std.proofs.Common.{◌≡◌, ◌+◌, ◌<◌, ◌≤◌, ◌∷◌, ◌++◌, ◌||◌, ◌&&◌, ◌==◌}
use Rattle.evt_text.proofs.Common.{ℕ, ℤ, zero, suc, List, [], length, Bool, true, false, nat_le, Option, Some, None, refl, ap, ◌∙◌, arith, append_assoc, length-append, inl, inr, slice_get, IsNumeral, or_cases, and_parts, leb-true, ne_eqb, eqb-true, digit_from_value, none-some, same_Some, Field, EventShape, Value, Pair, out-Pair, is_letter, is_digit, IsName, HasNames, Form, IntegerForm, BooleanForm, TextForm, SequenceForm, DictionaryForm, EventForm, ContextForm, ListenerForm, AreBlanks, is_blank, IsLead, SpellsInteger, SpellsFields, SpellsEvent, SpellsWithin, behind_blanks, behind_sign, fields_from, form_at}
use Rattle.std.proofs.lemmas.Bool.{or_from}
use Rattle.epl_values.specs.declared.value.Pair.{roll-out-Pair}
use Rattle.epl_values.specs.declared.value.Value.TheVariants as value
use Rattle.event_types.specs.Types.{form_of}
use Rattle.value_rules.specs.Texts.{truth_text}
use Rattle.evt_text.specs.Entries.{entered}
use Rattle.evt_text.specs.Spelling.{SpellsEntry, SpellsForm, SpellsItems, SpellsList}
use Rattle.evt_text.specs.Reading.{behind_lead, behind_opening, truth_at, integer_at, string_at, item_at, items_from, list_at, entry_at, event_at, value_from}
use Rattle.evt_text.proofs.Fronts.{behind_name-at, behind_sign-at}
use Rattle.evt_text.proofs.Respelled.{EndsNumber, integer-again, integer-covers, string-again, blanks-again}
use Rattle.evt_text.proofs.Nested.{Reader, Speller}

-- the first byte is below 128, no blank and no bracket that closes a list
abbrev pub Opens : List ℕ → Type 0
Opens [] = ⊥
Opens (b ∷ bs) = (is_blank b ≡ false) × (b < 128) × ((b == 93) ≡ false) × ((b == 125) ≡ false)

unblank : (b : ℕ) → 33 ≤ b → is_blank b ≡ false
unblank b le = or_from _ _ (ne_eqb b 32 (λ e. omega arith)) (ne_eqb b 9 (λ e. omega arith))

opens-at : (b : ℕ) (bs : List ℕ) → 33 ≤ b → b < 128 → (b ≡ 93 → ⊥) → (b ≡ 125 → ⊥) → Opens (b ∷ bs)
opens-at b bs le lt f g = (unblank b le, lt, ne_eqb b 93 f, ne_eqb b 125 g)

letter-opens : (b : ℕ) (bs : List ℕ) → is_letter b ≡ true → Opens (b ∷ bs)
letter-opens b bs e = elim (or_cases (nat_le 65 b && nat_le b 90 || nat_le 97 b && nat_le b 122) (b == 95) e) [
  | inl h ↦ elim (or_cases (nat_le 65 b && nat_le b 90) (nat_le 97 b && nat_le b 122) h) [
    | inl g ↦ (let p = and_parts _ _ g in let low = leb-true 65 b p.0 in let high = leb-true b 90 p.1 in opens-at b bs (omega arith) (omega arith) (λ k. omega arith) (λ k. omega arith))
    | inr g ↦ (let p = and_parts _ _ g in let low = leb-true 97 b p.0 in let high = leb-true b 122 p.1 in opens-at b bs (omega arith) (omega arith) (λ k. omega arith) (λ k. omega arith))
  ]
  | inr h ↦ (let k = eqb-true b 95 h in opens-at b bs (omega arith) (omega arith) (λ j. omega arith) (λ j. omega arith))
]

name-opens : (name rest : List ℕ) → IsName name → Opens (name ++ rest)
name-opens [] rest h = absurd h
name-opens (b ∷ bs) rest h = letter-opens b (bs ++ rest) h.0

numeral-opens : (digits : List ℕ) → IsNumeral 10 digits → Opens digits
numeral-opens [] h = absurd (let some = h.0 in omega arith)
numeral-opens (d ∷ ds) h = let r = digit_from_value d h.1.0 in opens-at d ds (omega arith) (omega arith) (λ k. omega arith) (λ k. omega arith)

integer-opens : (z : ℤ) (spelling : List ℕ) → SpellsInteger z spelling → Opens spelling
integer-opens z spelling (inl h) = numeral-opens spelling h.0
integer-opens z spelling (inr h) = rw h.1 (refl, omega arith, refl, refl)

truth-opens : (truth : Bool) → Opens (truth_text truth)
truth-opens true = (refl, omega arith, refl, refl)
truth-opens false = (refl, omega arith, refl, refl)

pub name-of : (types : List EventShape) (n : ℕ) (event : EventShape) → HasNames types → slice_get types n ≡ Some event → IsName event.name
name-of [] n event h e = absurd (none-some _ e)
name-of (t ∷ ts) zero event h e = rw (same_Some _ _ e) at h.0
name-of (t ∷ ts) (suc n) event h e = name-of ts n event h.1 e

event-spelling : (spelling name before behind inner rest : List ℕ) → spelling ≡ name ++ before ++ 40 ∷ behind ++ inner ++ 41 ∷ [] → spelling ++ rest ≡ name ++ (before ++ (40 ∷ (behind ++ (inner ++ (41 ∷ rest)))))
event-spelling spelling name before behind inner rest e = rw e (simp append_assoc)

opens-front : (spelling name tail : List ℕ) → spelling ≡ name ++ tail → IsName name → Opens spelling
opens-front spelling name tail e h = rw e (name-opens name tail h)

-- each spelling begins so
pub value-opens : (types : List EventShape) → HasNames types → (depth : ℕ) (form : Form) (x : Value) (spelling : List ℕ) → SpellsWithin depth types form x spelling → Opens spelling
value-opens types names zero form x spelling h = absurd h
value-opens types names (suc depth) IntegerForm x spelling h = integer-opens h.0 spelling h.2
value-opens types names (suc depth) BooleanForm x spelling h = rw h.2 (truth-opens h.0)
value-opens types names (suc depth) TextForm x spelling h = rw h.2.1 (refl, omega arith, refl, refl)
value-opens types names (suc depth) (SequenceForm f) x spelling (items, is, s) = rw s.2 (refl, omega arith, refl, refl)
value-opens types names (suc depth) (DictionaryForm f g) x spelling (entries, is, s) = rw s.2 (refl, omega arith, refl, refl)
value-opens types names (suc depth) (EventForm n) x spelling (event, xs, found, is, s) =
    opens-front spelling event.name (s.0 ++ (40 ∷ (s.1 ++ (s.2 ++ (41 ∷ []))))) (s.3 ∙ simp append_assoc) (name-of types n event names found)
value-opens types names (suc depth) ContextForm x spelling h = absurd h
value-opens types names (suc depth) ListenerForm x spelling h = absurd h

-- what is spelled in fewer bytes than the limit is read again, where no digit follows
abbrev pub IsCompleteAt : {X : Type 0} → (List ℕ → Option (X × List ℕ)) → (X → List ℕ → Type 0) → ℕ → Type 0
IsCompleteAt {X = X} one Q limit = (x : X) (spelling rest : List ℕ) → length spelling < limit → Q x spelling → EndsNumber rest → one (spelling ++ rest) ≡ Some (x, rest)

abbrev pub IsComplete : Reader → Speller → ℕ → Type 0
IsComplete one P limit = (form : Form) → IsCompleteAt (one form) (P form) limit

abbrev pub IsOpeningAt : {X : Type 0} → (X → List ℕ → Type 0) → Type 0
IsOpeningAt {X = X} Q = (x : X) (spelling : List ℕ) → Q x spelling → Opens spelling

abbrev pub IsOpening : Speller → Type 0
IsOpening P = (form : Form) → IsOpeningAt (P form)

pub unblanked : (spelling rest : List ℕ) → Opens spelling → behind_blanks (spelling ++ rest) ≡ spelling ++ rest
unblanked [] rest h = absurd h
unblanked (b ∷ bs) rest h = rw h.0 refl

opens-more : (spelling rest : List ℕ) → Opens spelling → Opens (spelling ++ rest)
opens-more [] rest h = absurd h
opens-more (b ∷ bs) rest h = h

opens-some : (spelling : List ℕ) → Opens spelling → 1 ≤ length spelling
opens-some [] h = absurd h
opens-some (b ∷ bs) h = omega arith

-- a sign that is neither a blank nor a digit
abbrev pub IsSign : ℕ → Type 0
IsSign b = (is_blank b ≡ false) × (is_digit b ≡ false)

-- such a sign is in front
abbrev pub IsEdge : List ℕ → Type 0
IsEdge [] = ⊥
IsEdge (b ∷ bs) = IsSign b

edge-unblank : (text : List ℕ) → IsEdge text → behind_blanks text ≡ text
edge-unblank [] h = absurd h
edge-unblank (b ∷ bs) h = rw h.0 refl

blank-digit : (b : ℕ) → is_blank b ≡ true → is_digit b ≡ false
blank-digit b e = elim (or_cases (b == 32) (b == 9) e) [ inl h ↦ rw (eqb-true b 32 h) refl | inr h ↦ rw (eqb-true b 9 h) refl ]

edge-ends : (blanks text : List ℕ) → AreBlanks blanks → IsEdge text → EndsNumber (blanks ++ text)
edge-ends [] [] h e = absurd e
edge-ends [] (b ∷ bs) h e = e.1
edge-ends (b ∷ bs) text h e = blank-digit b h.0

lead-again : (first : Bool) (lead text : List ℕ) → IsLead first lead → behind_blanks text ≡ text → behind_lead first (lead ++ text) ≡ Some text
unfolding behind_lead
lead-again true lead text h e = rw h refl
lead-again false lead text h e = rw (h.1, blanks-again h.0 text h.2, e) refl

opening-again : (sign : ℕ) (blanks tail : List ℕ) → AreBlanks blanks → behind_blanks tail ≡ tail → behind_opening sign (sign ∷ (blanks ++ tail)) ≡ Some tail
unfolding behind_opening
opening-again sign blanks tail a u = rw (behind_sign-at sign (blanks ++ tail), blanks-again blanks tail a, u) refl

-- the lengths of an item's parts
parts-shorter : (inner lead spelling blanks rest : List ℕ) → inner ≡ lead ++ spelling ++ blanks ++ rest → length inner ≡ length lead + (length spelling + (length blanks + length rest))
parts-shorter inner lead spelling blanks rest e =
    let whole : inner ≡ lead ++ (spelling ++ (blanks ++ rest)) = e ∙ simp append_assoc in
    omega (arith, ap length whole, length-append lead (spelling ++ (blanks ++ rest)), length-append spelling (blanks ++ rest), length-append blanks rest)

module _ {X : Type 0} (one : List ℕ → Option (X × List ℕ)) (Q : X → List ℕ → Type 0) (limit : ℕ) (complete : IsCompleteAt one Q limit) (opening : IsOpeningAt Q) where
  item-step : (first : Bool) (text lead spelling blanks tail : List ℕ) (x : X) → text ≡ lead ++ (spelling ++ (blanks ++ tail))
      → behind_lead first (lead ++ (spelling ++ (blanks ++ tail))) ≡ Some (spelling ++ (blanks ++ tail)) → one (spelling ++ (blanks ++ tail)) ≡ Some (x, blanks ++ tail)
      → behind_blanks (blanks ++ tail) ≡ tail → item_at one first text ≡ Some (x, tail)
  unfolding item_at
  item-step first text lead spelling blanks tail x t l v b = rw (t, l, v, b) refl

  pub item-again : (first : Bool) (text lead spelling blanks tail : List ℕ) (x : X) → text ≡ lead ++ (spelling ++ (blanks ++ tail)) → IsLead first lead → Q x spelling → AreBlanks blanks → IsEdge tail
      → length spelling < limit → item_at one first text ≡ Some (x, tail)
  item-again first text lead spelling blanks tail x t l s b edge lt =
      item-step first text lead spelling blanks tail x t (lead-again first lead (spelling ++ (blanks ++ tail)) l (unblanked spelling (blanks ++ tail) (opening x spelling s)))
      (complete x spelling (blanks ++ tail) lt s (edge-ends blanks tail b edge)) (blanks-again blanks tail b ∙ edge-unblank tail edge)

  -- a list that ends by this sign, which opens no item
  module _ (right : ℕ) (sign : IsSign right) (comma : (44 == right) ≡ false) (other : (b : ℕ) (bs : List ℕ) → Opens (b ∷ bs) → (b == right) ≡ false) where
    items-edge : (xs : List X) (inner more : List ℕ) → SpellsItems Q false xs inner → IsEdge (inner ++ right ∷ more)
    items-edge [] inner more h = rw h sign
    items-edge (x ∷ xs) inner more (lead, spelling, blanks, rest, e, l, s, b, h) = rw (e, l.1) (refl, refl)

    not-closed : (text rest : List ℕ) → Opens text → behind_sign right (text ++ rest) ≡ None
    not-closed [] rest h = absurd h
    not-closed (b ∷ bs) rest h = rw (other b bs h) refl

    open-still : (first : Bool) (text lead spelling tail : List ℕ) → text ≡ lead ++ (spelling ++ tail) → IsLead first lead → Opens spelling → behind_sign right text ≡ None
    open-still true text lead spelling tail t l o = rw (t, l) (not-closed spelling tail o)
    open-still false text lead spelling tail t l o = rw (t, l.1, comma) refl

    items-step : (n : ℕ) (first : Bool) (text tail more : List ℕ) (x : X) (xs : List X) → behind_sign right text ≡ None → item_at one first text ≡ Some (x, tail) → items_from one right n false tail ≡ Some (xs, more)
        → items_from one right (suc n) first text ≡ Some (x ∷ xs, more)
    items-step n first text tail more x xs c i m = rw (c, i, m) refl

    items-again : (n : ℕ) (first : Bool) (xs : List X) (inner more : List ℕ) → length inner < n → length inner < limit → SpellsItems Q first xs inner → items_from one right n first (inner ++ right ∷ more) ≡ Some (xs, more)
    items-again zero first xs inner more lt le h = absurd (omega arith)
    items-again (suc n) first [] inner more lt le h = rw (h, behind_sign-at right more) refl
    items-again (suc n) first (x ∷ xs) inner more lt le (lead, spelling, blanks, rest, e, l, s, b, h) =
        let tail = rest ++ right ∷ more in
        let sizes = parts-shorter inner lead spelling blanks rest e in
        let some = opens-some spelling (opening x spelling s) in
        let whole : inner ++ right ∷ more ≡ lead ++ (spelling ++ (blanks ++ tail)) = rw e (simp append_assoc) in
        items-step n first (inner ++ right ∷ more) tail more x xs (open-still first (inner ++ right ∷ more) lead spelling (blanks ++ tail) whole l (opening x spelling s))
        (item-again first (inner ++ right ∷ more) lead spelling blanks tail x whole l s b (items-edge xs rest more h) (omega arith))
        (items-again n false xs rest more (omega arith) (omega arith) h)

    inner-unblank : (xs : List X) (inner more : List ℕ) → SpellsItems Q true xs inner → behind_blanks (inner ++ right ∷ more) ≡ inner ++ right ∷ more
    inner-unblank [] inner more h = rw (h, sign.0) refl
    inner-unblank (x ∷ xs) inner more (lead, spelling, blanks, rest, e, l, s, b, h) =
        let whole : inner ++ right ∷ more ≡ spelling ++ (blanks ++ (rest ++ right ∷ more)) = rw (e, l) (simp append_assoc) in
        rw whole (unblanked spelling (blanks ++ (rest ++ right ∷ more)) (opening x spelling s))

    list-step : (left : ℕ) (text tail more : List ℕ) (xs : List X) → behind_opening left text ≡ Some tail → items_from one right limit true tail ≡ Some (xs, more) → list_at one left right limit text ≡ Some (xs, more)
    unfolding list_at
    list-step left text tail more xs o i = rw (o, i) refl

    -- a list is read again, whatever follows
    pub list-again : (left : ℕ) (xs : List X) (spelling rest : List ℕ) → length spelling < suc limit → SpellsList Q left right xs spelling → list_at one left right limit (spelling ++ rest) ≡ Some (xs, rest)
    list-again left xs spelling rest lt (blanks, inner, e, a, s) =
        let whole : spelling ≡ left ∷ (blanks ++ (inner ++ right ∷ [])) = e ∙ simp append_assoc in
        let size : length inner < limit = omega (arith, ap length whole, length-append blanks (inner ++ right ∷ []), length-append inner (right ∷ [])) in
        let more : spelling ++ rest ≡ left ∷ (blanks ++ (inner ++ right ∷ rest)) = rw e (simp append_assoc) in
        list-step left (spelling ++ rest) (inner ++ right ∷ rest) rest xs
        (ap (behind_opening left) more ∙ opening-again left blanks (inner ++ right ∷ rest) a (inner-unblank xs inner rest s))
        (items-again limit true xs inner rest size size s)

-- ---- entries

entry-opens : (K V : Value → List ℕ → Type 0) → IsOpeningAt K → IsOpeningAt (SpellsEntry K V)
entry-opens K V opening pair spelling (key, before, behind, item, e, a, b, k, v) =
    let whole : spelling ≡ key ++ (before ++ (58 ∷ (behind ++ item))) = e ∙ simp append_assoc in
    rw whole (opens-more key (before ++ (58 ∷ (behind ++ item))) (opening (out-Pair pair).key key k))

entry-step : (one other : List ℕ → Option (Value × List ℕ)) (pair : Pair) (text k r behind v rest : List ℕ) → one text ≡ Some ((out-Pair pair).key, k) → behind_blanks k ≡ 58 ∷ r → behind_blanks r ≡ v → other v ≡ Some ((out-Pair pair).value, rest)
    → entry_at one other text ≡ Some (pair, rest)
unfolding entry_at
entry-step one other pair text k r behind v rest e1 e2 e3 e4 = rw (e1, e2, e3, e4) (ap (λ p. Some (p, rest)) (roll-out-Pair pair))

entry-again : (one other : List ℕ → Option (Value × List ℕ)) (K V : Value → List ℕ → Type 0) (limit : ℕ) → IsCompleteAt one K limit → IsCompleteAt other V limit → IsOpeningAt V → IsCompleteAt (entry_at one other) (SpellsEntry K V) limit
entry-again one other K V limit complete_key complete_item opening pair spelling rest lt (key, before, behind, item, e, a, b, k, v) ends =
    let whole : spelling ≡ key ++ (before ++ (58 ∷ (behind ++ item))) = e ∙ simp append_assoc in
    let sizes : length spelling ≡ length key + (length before + suc (length behind + length item)) = omega (arith, ap length whole, length-append key (before ++ (58 ∷ (behind ++ item))), length-append before (58 ∷ (behind ++ item)), length-append behind item) in
    let more : spelling ++ rest ≡ key ++ (before ++ (58 ∷ (behind ++ (item ++ rest)))) = rw e (simp append_assoc) in
    let short_key : length key < limit = omega arith in
    let short_item : length item < limit = omega arith in
    entry-step one other pair (spelling ++ rest) (before ++ (58 ∷ (behind ++ (item ++ rest)))) (behind ++ (item ++ rest)) behind (item ++ rest) rest
    (ap one more ∙ complete_key (out-Pair pair).key key (before ++ (58 ∷ (behind ++ (item ++ rest)))) short_key k (edge-ends before (58 ∷ (behind ++ (item ++ rest))) a (refl, refl)))
    (blanks-again before (58 ∷ (behind ++ (item ++ rest))) a) (blanks-again behind (item ++ rest) b ∙ unblanked item rest (opening (out-Pair pair).value item v))
    (complete_item (out-Pair pair).value item rest short_item v ends)

-- ---- events

fields-edge : (P : Speller) (fields : List Field) (xs : List Value) (inner more : List ℕ) → SpellsFields P false fields xs inner → IsEdge (inner ++ 41 ∷ more)
fields-edge P [] [] inner more h = rw h (refl, refl)
fields-edge P [] (x ∷ xs) inner more h = absurd h
fields-edge P (f ∷ fs) [] inner more h = absurd h
fields-edge P (f ∷ fs) (x ∷ xs) inner more (lead, spelling, blanks, rest, e, l, s, b, h) = rw (e, l.1) (refl, refl)

fields-step : (one : Reader) (field : Field) (fields : List Field) (first : Bool) (text tail rest : List ℕ) (x : Value) (xs : List Value) → item_at (one (form_of field.shape)) first text ≡ Some (x, tail)
    → fields_from one false fields tail ≡ Some (xs, rest) → fields_from one first (field ∷ fields) text ≡ Some (x ∷ xs, rest)
fields-step one field fields first text tail rest x xs e m = rw (e, m) refl

pub fields-again : (one : Reader) (P : Speller) (limit : ℕ) → IsComplete one P limit → IsOpening P → (first : Bool) (fields : List Field) (xs : List Value) (inner more : List ℕ)
    → length inner < limit → SpellsFields P first fields xs inner → fields_from one first fields (inner ++ 41 ∷ more) ≡ Some (xs, 41 ∷ more)
fields-again one P limit complete opening first [] [] inner more lt h = rw h refl
fields-again one P limit complete opening first [] (x ∷ xs) inner more lt h = absurd h
fields-again one P limit complete opening first (f ∷ fs) [] inner more lt h = absurd h
fields-again one P limit complete opening first (f ∷ fs) (x ∷ xs) inner more lt (lead, spelling, blanks, rest, e, l, s, b, h) =
    let tail = rest ++ 41 ∷ more in
    let sizes = parts-shorter inner lead spelling blanks rest e in
    fields-step one f fs first (inner ++ 41 ∷ more) tail (41 ∷ more) x xs
    (item-again (one (form_of f.shape)) (P (form_of f.shape)) limit (complete (form_of f.shape)) (opening (form_of f.shape)) first (inner ++ 41 ∷ more) lead spelling blanks tail x (rw e (simp append_assoc)) l s b
    (fields-edge P fs xs rest more h) (omega arith))
    (fields-again one P limit complete opening false fs xs rest more (omega arith) h)

fields-unblank : (P : Speller) → IsOpening P → (fields : List Field) (xs : List Value) (inner more : List ℕ) → SpellsFields P true fields xs inner → behind_blanks (inner ++ 41 ∷ more) ≡ inner ++ 41 ∷ more
fields-unblank P opening [] [] inner more h = rw h refl
fields-unblank P opening [] (x ∷ xs) inner more h = absurd h
fields-unblank P opening (f ∷ fs) [] inner more h = absurd h
fields-unblank P opening (f ∷ fs) (x ∷ xs) inner more (lead, spelling, blanks, rest, e, l, s, b, h) =
    let whole : inner ++ 41 ∷ more ≡ spelling ++ (blanks ++ (rest ++ 41 ∷ more)) = rw (e, l) (simp append_assoc) in
    rw whole (unblanked spelling (blanks ++ (rest ++ 41 ∷ more)) (opening (form_of f.shape) x spelling s))

event-step : (one : Reader) (event : EventShape) (text before behind inner rest : List ℕ) (xs : List Value) → text ≡ event.name ++ (before ++ (40 ∷ (behind ++ (inner ++ 41 ∷ rest))))
    → AreBlanks before → behind_opening 40 (40 ∷ (behind ++ (inner ++ 41 ∷ rest))) ≡ Some (inner ++ 41 ∷ rest) → fields_from one true event.fields (inner ++ 41 ∷ rest) ≡ Some (xs, 41 ∷ rest)
    → event_at one event text ≡ Some (xs, rest)
unfolding event_at
event-step one event text before behind inner rest xs t a o f =
    rw (t, behind_name-at event.name (before ++ (40 ∷ (behind ++ (inner ++ 41 ∷ rest)))), blanks-again before (40 ∷ (behind ++ (inner ++ 41 ∷ rest))) a, o, f) refl

pub event-again : (one : Reader) (P : Speller) (limit : ℕ) → IsComplete one P limit → IsOpening P → (event : EventShape) (xs : List Value) (spelling rest : List ℕ)
    → length spelling < suc limit → SpellsEvent P event xs spelling → event_at one event (spelling ++ rest) ≡ Some (xs, rest)
event-again one P limit complete opening event xs spelling rest lt (before, behind, inner, e, h, g, s) =
    let whole : spelling ≡ event.name ++ (before ++ (40 ∷ (behind ++ (inner ++ 41 ∷ [])))) = e ∙ simp append_assoc in
    let size : length inner < limit = omega (arith, ap length whole, length-append event.name (before ++ (40 ∷ (behind ++ (inner ++ 41 ∷ [])))), length-append before (40 ∷ (behind ++ (inner ++ 41 ∷ []))), length-append behind (inner ++ 41 ∷ []), length-append inner (41 ∷ [])) in
    event-step one event (spelling ++ rest) before behind inner rest xs (event-spelling spelling event.name before behind inner rest e) h
    (opening-again 40 behind (inner ++ 41 ∷ rest) g (fields-unblank P opening event.fields xs inner rest s)) (fields-again one P limit complete opening true event.fields xs inner rest size s)

-- ---- values

typed-again : (one : Reader) (limit : ℕ) (types : List EventShape) (n : ℕ) (event : EventShape) (xs : List Value) (text rest : List ℕ) → slice_get types n ≡ Some event → event_at one event text ≡ Some (xs, rest)
    → form_at one limit types (EventForm n) text ≡ Some (value.Event n xs, rest)
typed-again one limit types n event xs text rest found e = rw (found, e) refl

truth-again : (truth : Bool) (rest : List ℕ) → truth_at (truth_text truth ++ rest) ≡ Some (truth, rest)
unfolding truth_at
truth-again true rest = refl
truth-again false rest = refl

module _ (one : Reader) (limit : ℕ) (types : List EventShape) (text rest : List ℕ) where
  string-step : (bytes : List ℕ) → string_at text ≡ Some (bytes, rest) → form_at one limit types TextForm text ≡ Some (value.Text bytes, rest)
  string-step bytes e = rw e refl

  integer-step : (z : ℤ) → integer_at text ≡ Some (z, rest) → form_at one limit types IntegerForm text ≡ Some (value.Integer z, rest)
  integer-step z e = rw e refl

  truth-step : (truth : Bool) → truth_at text ≡ Some (truth, rest) → form_at one limit types BooleanForm text ≡ Some (value.Boolean truth, rest)
  truth-step truth e = rw e refl

  sequence-step : (element : Form) (items : List Value) → list_at (one element) 91 93 limit text ≡ Some (items, rest) → form_at one limit types (SequenceForm element) text ≡ Some (value.Sequence items, rest)
  sequence-step element items e = rw e refl

  dictionary-step : (key item : Form) (entries : List Pair) → list_at (entry_at (one key) (one item)) 123 125 limit text ≡ Some (entries, rest)
      → form_at one limit types (DictionaryForm key item) text ≡ Some (value.Dictionary (entered entries), rest)
  dictionary-step key item entries e = rw e refl

-- what follows an integer can belong to it; all else is whole
abbrev pub IsWhole : Form → Type 0
IsWhole IntegerForm = ⊥
IsWhole form = Unit {0}

-- what is whole is read again whatever follows
form-whole : (one : Reader) (P : Speller) (limit : ℕ) → IsComplete one P limit → IsOpening P → (types : List EventShape) (form : Form) (x : Value) (spelling rest : List ℕ) → IsWhole form → length spelling < suc limit
    → SpellsForm P types form x spelling → form_at one limit types form (spelling ++ rest) ≡ Some (x, rest)
form-whole one P limit complete opening types IntegerForm x spelling rest w lt h = absurd w
form-whole one P limit complete opening types BooleanForm x spelling rest w lt (truth, is, e) =
    rw is (truth-step one limit types (spelling ++ rest) rest truth (ap (λ t. truth_at (t ++ rest)) e ∙ truth-again truth rest))
form-whole one P limit complete opening types TextForm x spelling rest w lt h = rw h.1 (string-step one limit types (spelling ++ rest) rest h.0 (string-again h.0 spelling rest h.2))
form-whole one P limit complete opening types (SequenceForm f) x spelling rest w lt (items, is, s) =
    rw is (sequence-step one limit types (spelling ++ rest) rest f items (list-again (one f) (P f) limit (complete f) (opening f) 93 (refl, refl) refl (λ b bs o. o.2) 91 items spelling rest lt s))
form-whole one P limit complete opening types (DictionaryForm f g) x spelling rest w lt (entries, is, s) =
    rw is (dictionary-step one limit types (spelling ++ rest) rest f g entries
    (list-again (entry_at (one f) (one g)) (SpellsEntry (P f) (P g)) limit (entry-again (one f) (one g) (P f) (P g) limit (complete f) (complete g) (opening g)) (entry-opens (P f) (P g) (opening f)) 125 (refl, refl) refl (λ b bs o. o.3) 123 entries spelling rest lt s))
form-whole one P limit complete opening types (EventForm n) x spelling rest w lt (event, xs, found, is, s) =
    rw is (typed-again one limit types n event xs (spelling ++ rest) rest found (event-again one P limit complete opening event xs spelling rest lt s))
form-whole one P limit complete opening types ContextForm x spelling rest w lt h = absurd h
form-whole one P limit complete opening types ListenerForm x spelling rest w lt h = absurd h

pub value-again : (types : List EventShape) → HasNames types → (limit inside : ℕ) → IsComplete (value_from limit types) (SpellsWithin inside types) limit
unfolding value_from
value-again types names zero inside form x spelling rest lt h ends = absurd (omega arith)
value-again types names (suc limit) zero form x spelling rest lt h ends = absurd h
value-again types names (suc limit) (suc inside) IntegerForm x spelling rest lt h ends =
    rw h.1 (integer-step (value_from limit types) limit types (spelling ++ rest) rest h.0 (integer-again h.0 spelling rest h.2 ends))
value-again types names (suc limit) (suc inside) BooleanForm x spelling rest lt h ends =
    form-whole (value_from limit types) (SpellsWithin inside types) limit (value-again types names limit inside) (value-opens types names inside) types BooleanForm x spelling rest tt lt h
value-again types names (suc limit) (suc inside) TextForm x spelling rest lt h ends =
    form-whole (value_from limit types) (SpellsWithin inside types) limit (value-again types names limit inside) (value-opens types names inside) types TextForm x spelling rest tt lt h
value-again types names (suc limit) (suc inside) (SequenceForm f) x spelling rest lt h ends =
    form-whole (value_from limit types) (SpellsWithin inside types) limit (value-again types names limit inside) (value-opens types names inside) types (SequenceForm f) x spelling rest tt lt h
value-again types names (suc limit) (suc inside) (DictionaryForm f g) x spelling rest lt h ends =
    form-whole (value_from limit types) (SpellsWithin inside types) limit (value-again types names limit inside) (value-opens types names inside) types (DictionaryForm f g) x spelling rest tt lt h
value-again types names (suc limit) (suc inside) (EventForm n) x spelling rest lt h ends =
    form-whole (value_from limit types) (SpellsWithin inside types) limit (value-again types names limit inside) (value-opens types names inside) types (EventForm n) x spelling rest tt lt h
value-again types names (suc limit) (suc inside) ContextForm x spelling rest lt h ends = absurd h
value-again types names (suc limit) (suc inside) ListenerForm x spelling rest lt h ends = absurd h

-- a value that isn't an integer is read again whatever follows
pub value-whole : (types : List EventShape) → HasNames types → (limit inside : ℕ) (form : Form) (x : Value) (spelling rest : List ℕ) → IsWhole form → length spelling < limit → SpellsWithin inside types form x spelling
    → value_from limit types form (spelling ++ rest) ≡ Some (x, rest)
unfolding value_from
value-whole types names zero inside form x spelling rest w lt h = absurd (omega arith)
value-whole types names (suc limit) zero form x spelling rest w lt h = absurd h
value-whole types names (suc limit) (suc inside) form x spelling rest w lt h =
    form-whole (value_from limit types) (SpellsWithin inside types) limit (value-again types names limit inside) (value-opens types names inside) types form x spelling rest w lt h

-- what is read is as long as any spelling
abbrev pub Covers : Option (Value × List ℕ) → List ℕ → Type 0
Covers read rest = (x : Value) × (q : List ℕ) × (read ≡ Some (x, q)) × (length q ≤ length rest)

integer-long : (types : List EventShape) (limit inside : ℕ) (x : Value) (spelling rest : List ℕ) → length spelling < limit → SpellsWithin inside types IntegerForm x spelling → Covers (value_from limit types IntegerForm (spelling ++ rest)) rest
unfolding value_from
integer-long types zero inside x spelling rest lt h = absurd (omega arith)
integer-long types (suc limit) zero x spelling rest lt h = absurd h
integer-long types (suc limit) (suc inside) x spelling rest lt h =
    let c = integer-covers h.0 spelling rest h.2 in
    (value.Integer c.0, c.1, integer-step (value_from limit types) limit types (spelling ++ rest) c.1 c.0 c.2, c.3)

whole-covers : (types : List EventShape) → HasNames types → (limit inside : ℕ) (form : Form) (x : Value) (spelling rest : List ℕ) → IsWhole form → length spelling < limit → SpellsWithin inside types form x spelling
    → Covers (value_from limit types form (spelling ++ rest)) rest
whole-covers types names limit inside form x spelling rest w lt h = (x, rest, value-whole types names limit inside form x spelling rest w lt h, omega arith)

pub value-covers : (types : List EventShape) → HasNames types → (limit inside : ℕ) (form : Form) (x : Value) (spelling rest : List ℕ) → length spelling < limit → SpellsWithin inside types form x spelling
    → Covers (value_from limit types form (spelling ++ rest)) rest
value-covers types names limit inside IntegerForm x spelling rest lt h = integer-long types limit inside x spelling rest lt h
value-covers types names limit inside BooleanForm x spelling rest lt h = whole-covers types names limit inside BooleanForm x spelling rest tt lt h
value-covers types names limit inside TextForm x spelling rest lt h = whole-covers types names limit inside TextForm x spelling rest tt lt h
value-covers types names limit inside (SequenceForm f) x spelling rest lt h = whole-covers types names limit inside (SequenceForm f) x spelling rest tt lt h
value-covers types names limit inside (DictionaryForm f g) x spelling rest lt h = whole-covers types names limit inside (DictionaryForm f g) x spelling rest tt lt h
value-covers types names limit inside (EventForm n) x spelling rest lt h = whole-covers types names limit inside (EventForm n) x spelling rest tt lt h
value-covers types names limit inside ContextForm x spelling rest lt h = whole-covers types names limit inside ContextForm x spelling rest tt lt h
value-covers types names limit inside ListenerForm x spelling rest lt h = whole-covers types names limit inside ListenerForm x spelling rest tt lt h
