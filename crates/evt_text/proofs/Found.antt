-- The longest spelling at a place of a text.
use Rattle.evt_text.proofs.Common.{ℕ, List, [], length, take, drop, get_or, Some, None, sym, ◌∙◌, ap, arith, length-append, IsCharBoundary, take_at, none-some, Shape, EventShape, Value, HasNames}
use Rattle.std.proofs.Common.{◌≡◌, ◌+◌, ◌-◌, ◌<◌, ◌≤◌, ◌∷◌, ◌++◌, Result, Ok, Err, length-drop, add-zero}
use Rattle.std.specs.List.{slice_range}
use Rattle.std.proofs.lemmas.List.{get_or-drop}
use Rattle.std.proofs.lemmas.List.Folds.{drop_split}
use Rattle.std.specs.Result.{IsErrAnd}
use Rattle.std.proofs.lemmas.Result.{err_from_is_err_and}
use Rattle.event_types.specs.Types.{form_of}
use Rattle.evt_text.specs.Spelling.{SpellsAt, FindsValue}
use Rattle.evt_text.specs.Reading.{Reads, value_from}
use Rattle.evt_text.specs.declared.fault.TextFault.{TextFault}
use Rattle.evt_text.specs.declared.fault.TextFault.TheVariants.{NoValue, Memory}
use Rattle.evt_text.proofs.Cases.{pair-some}
use Rattle.evt_text.proofs.Nested.{value-read}
use Rattle.evt_text.proofs.Renested.{Opens, Covers, value-opens, value-covers}

-- each spelling at a place is covered by what is read there
covered : (types : List EventShape) (shape : Shape) (text : List ℕ) (at limit : ℕ) → HasNames types → length (drop at text) < limit
    → (y : Value) (end : ℕ) → SpellsAt types shape text at y end → Covers (value_from limit types (form_of shape) (drop at text)) (drop end text)
covered types shape text at limit names lt y end h =
    let split : drop at text ≡ slice_range text at end ++ drop end text = drop_split text at end h.0 in
    let size : length (slice_range text at end) < limit = omega (arith, ap length split, length-append (slice_range text at end) (drop end text)) in
    rw split (value-covers types names limit h.2.0 (form_of shape) y (slice_range text at end) (drop end text) size h.2.1)

part-is : (text spelling rest : List ℕ) (at : ℕ) → at ≤ length text → drop at text ≡ spelling ++ rest
    → (at ≤ length text - length rest) × (length text - length rest ≤ length text) × (slice_range text at (length text - length rest) ≡ spelling)
part-is text spelling rest at le e =
    let size : length text - at ≡ length spelling + length rest = sym (length-drop at text) ∙ ap length e ∙ length-append spelling rest in
    (omega arith, omega arith, ap (take (length text - length rest - at)) e ∙ take_at spelling rest _ (let same : length spelling ≡ length text - length rest - at = omega arith in same))

pub rest-within : (types : List EventShape) (shape : Shape) (text : List ℕ) (at limit : ℕ) (x : Value) (rest : List ℕ) → value_from limit types (form_of shape) (drop at text) ≡ Some (x, rest)
    → length rest ≤ length text
rest-within types shape text at limit x rest e =
    let s = value-read limit types (form_of shape) (drop at text) x rest e in
    omega (arith, ap length s.1, length-append s.0 rest, length-drop at text)

pub finds-value : (types : List EventShape) (shape : Shape) (text : List ℕ) (at limit : ℕ) (x : Value) (rest : List ℕ) (end : ℕ) → HasNames types → length (drop at text) < limit
    → at ≤ length text → value_from limit types (form_of shape) (drop at text) ≡ Some (x, rest) → end ≡ length text - length rest → FindsValue types shape text at (Ok (x, end))
finds-value types shape text at limit x rest end names lt le e is =
    let s = value-read limit types (form_of shape) (drop at text) x rest e in
    let p = part-is text s.0 rest at le s.1 in
    rw is (
      (p.0, p.1, (limit, rw p.2 s.2)),
      (λ y stop h. let c = covered types shape text at limit names lt y stop h in
          let q = pair-some _ _ _ _ (sym e ∙ c.2) in
          let fits : stop ≤ length text = h.1 in
          let more : length c.1 ≤ length (drop stop text) = c.3 in
          omega (arith, ap length q.1, length-drop stop text)),
    )

pub finds-none : (types : List EventShape) (shape : Shape) (text : List ℕ) (at limit : ℕ) → HasNames types → length (drop at text) < limit
    → value_from limit types (form_of shape) (drop at text) ≡ None → FindsValue types shape text at (Err NoValue)
finds-none types shape text at limit names lt e = λ y end h.
    let c = covered types shape text at limit names lt y end h in none-some _ (sym e ∙ c.2)

opened : (text part rest : List ℕ) (at : ℕ) → drop at text ≡ part ++ rest → Opens part → get_or text at 0 < 128
opened text [] rest at e h = absurd h
opened text (b ∷ bs) rest at e h =
    let first : get_or text at 0 ≡ b = ap (λ i. get_or text i 0) (sym (add-zero at)) ∙ sym (get_or-drop at text 0 0) ∙ ap (λ xs. get_or xs 0 0) e in
    let small : b < 128 = h.1 in omega arith

-- none is spelled within a character
pub finds-no_boundary : (types : List EventShape) (shape : Shape) (text : List ℕ) (at : ℕ) → HasNames types → at ≤ length text → (IsCharBoundary text at → ⊥) → FindsValue types shape text at (Err NoValue)
finds-no_boundary types shape text at names le no-boundary = λ y end h.
    let small = opened text (slice_range text at end) (drop end text) at (drop_split text at end h.0) (value-opens types names h.2.0 (form_of shape) y (slice_range text at end) h.2.1) in
    no-boundary (le, λ lt high. omega arith)

pub finds-fault : (types : List EventShape) (shape : Shape) (text : List ℕ) (at limit : ℕ) (f : TextFault) (rest : List ℕ) (r : Result (Value × ℕ) TextFault) → HasNames types → length (drop at text) < limit
    → Reads {X = Value} (Err f) rest (value_from limit types (form_of shape) (drop at text)) → IsErrAnd r (λ e. e ≡ f) → FindsValue types shape text at r
finds-fault types shape text at limit NoValue rest r names lt reads h = let p = err_from_is_err_and r h in rw (p.1, p.2) (finds-none types shape text at limit names lt reads)
finds-fault types shape text at limit Memory rest r names lt reads h = let p = err_from_is_err_and r h in rw (p.1, p.2) tt
