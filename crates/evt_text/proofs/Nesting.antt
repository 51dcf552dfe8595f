-- Values inside values.
use Rattle.evt_text.proofs.Common.{ℕ, zero, suc, List, Option, None, refl, arith, length, EventShape, Shape, Event, Value, Form, EventForm, form_at}
use Rattle.std.proofs.Common.{◌≡◌, ◌-◌, ◌<◌, ◌≤◌, sub-one, rules}
use Rattle.epl_values.specs.declared.shape.Shape.{the_lemmas}
use Rattle.std.proofs.lemmas.Option.{slice_get_past}
use Rattle.event_types.specs.Types.{form_of}
use Rattle.evt_text.specs.Reading.{value_from}

pub value_from-zero : (depth : ℕ) (types : List EventShape) (form : Form) (text : List ℕ) → depth ≡ 0 → value_from depth types form text ≡ None
unfolding value_from
value_from-zero zero types form text e = refl
value_from-zero (suc depth) types form text e = absurd (omega arith)

pub value_from-suc : (depth : ℕ) (types : List EventShape) (form : Form) (text : List ℕ) → 0 < depth → value_from depth types form text ≡ form_at (value_from (depth - 1) types) (depth - 1) types form text
unfolding value_from
value_from-suc zero types form text lt = absurd (omega arith)
value_from-suc (suc depth) types form text lt = rw sub-one refl

pub form_of-event : (n : ℕ) → form_of (Event n) ≡ EventForm n
form_of-event n = search (rules, the_lemmas)

pub past-types : (one : Form → List ℕ → Option (Value × List ℕ)) (limit : ℕ) (types : List EventShape) (shape : Shape) (n : ℕ) (text : List ℕ) → shape ≡ Event n → length types ≤ n
    → form_at one limit types (form_of shape) text ≡ None
past-types one limit types shape n text e le = rw (e, form_of-event, slice_get_past types n le) refl
