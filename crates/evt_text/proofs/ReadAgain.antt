-- The text of an event is read again as that event.
use Rattle.std.proofs.Common.{◌≡◌, ◌+◌, ◌<◌, ◌≤◌, ◌++◌, ◌-◌, Ok, Err, length-drop}
use Rattle.evt_text.proofs.Common.{ℕ, suc, List, length, drop, take, true, refl, sym, ap, ◌∙◌, arith, length-append, inl, inr, take_at, EventShape, Event, Value, HasNames}
use Rattle.std.specs.List.{slice_range}
use Rattle.std.proofs.lemmas.List.{drop_at}
use Rattle.std.proofs.lemmas.List.Folds.{drop_split}
use Rattle.value_rules.specs.Shapes.{has}
use Rattle.value_rules.specs.Texts.{text_in}
use Rattle.evt_text.specs.declared.fault.TextFault.TheVariants.{NoValue, Memory}
use Rattle.evt_text.specs.Readable.{HasText, HaveTexts, IsReadable, IsReadAgain}
use Rattle.event_types.specs.Types.{form_of}
use Rattle.evt_text.specs.Spelling.{Spells, SpellsAt}
use Rattle.evt_text.proofs.Events.{event-alike}
use Rattle.evt_text.proofs.Nesting.{form_of-event}
use Rattle.evt_text.proofs.Written.{value_written}

pub event_written : (types : List EventShape) (n : ℕ) (x : Value) → HaveTexts types → has types x (Event n) ≡ true → IsReadable x → Spells types (Event n) x (text_in types x)
event_written types n x texts h a =
    let size : length (text_in types x) < suc (length (text_in types x)) = omega arith in
    let plain : HasText (form_of (Event n)) = rw form_of-event tt in
    (suc (length (text_in types x)), value_written types texts x (Event n) (suc (length (text_in types x))) h plain a size)

spelled_there : (types : List EventShape) (n : ℕ) (x : Value) (before text rest : List ℕ) → Spells types (Event n) x text → SpellsAt types (Event n) (before ++ (text ++ rest)) (length before) x (length before + length text)
spelled_there types n x before text rest s =
    let behind : drop (length before) (before ++ (text ++ rest)) ≡ text ++ rest = drop_at before (text ++ rest) _ refl in
    let size : length before + length text - length before ≡ length text = omega arith in
    let part : slice_range (before ++ (text ++ rest)) (length before) (length before + length text) ≡ text = ap (take (length before + length text - length before)) behind ∙ take_at text rest _ (sym size) in
    let low : length before ≤ length before + length text = omega arith in
    let high : length before + length text ≤ length (before ++ (text ++ rest)) = omega (arith, length-append before (text ++ rest), length-append text rest) in
    (low, high, rw part s)

-- what is found there is the event
found_same : (types : List EventShape) (n : ℕ) (x y : Value) (before text rest : List ℕ) (end : ℕ) → HasNames types → Spells types (Event n) x text
    → SpellsAt types (Event n) (before ++ (text ++ rest)) (length before) y end → (y ≡ x) × (end ≡ length before + length text)
found_same types n x y before text rest end names s h =
    let whole = before ++ (text ++ rest) in
    let behind : drop (length before) whole ≡ text ++ rest = drop_at before (text ++ rest) _ refl in
    let split : drop (length before) whole ≡ slice_range whole (length before) end ++ drop end whole = drop_split whole (length before) end h.0 in
    let same = event-alike types names n y x (slice_range whole (length before) end) (drop end whole) text rest h.2 s (sym split ∙ behind) in
    let sizes : length whole ≡ length before + (length text + length rest) = length-append before (text ++ rest) ∙ ap (λ k. length before + k) (length-append text rest) in
    let left : length (drop end whole) ≡ length rest = ap length same.1 in
    let high : end ≤ length whole = h.1 in
    (same.0, omega (arith, length-drop end whole))

pub read_again : (types : List EventShape) (n : ℕ) (x : Value) (before text rest : List ℕ) → HasNames types → Spells types (Event n) x text → IsReadAgain types n x before text rest
read_again types n x before text rest names s (Ok found) h =
    let same = found_same types n x found.0 before text rest found.1 names s h.0 in inl (ap Ok (λ i. (same.0 i, same.1 i)))
read_again types n x before text rest names s (Err NoValue) h = absurd (h x (length before + length text) (spelled_there types n x before text rest s))
read_again types n x before text rest names s (Err Memory) h = inr refl
