-- The event types up to a place.
use Rattle.std.proofs.Common.{◌≡◌, ◌+◌, ◌<◌, ◌≤◌}
use Rattle.evt_reader.proofs.Common.{ℕ, List, length, Some, slice_get, sym, ◌∙◌, ap, arith, inl, inr, same_Some, EventShape, HasName, LacksName}
use Rattle.std.proofs.lemmas.Bool.{cases_eq}
use Rattle.epl_values.specs.declared.shape.Shape.TheVariants.{Event}
use Rattle.event_types.specs.Types.{form_of, types_in, AreTypes}
use Rattle.evt_text.proofs.Nesting.{form_of-event}
use Rattle.evt_text.proofs.Events.{get-below}

pub lacks-more : (types : List EventShape) (name : List ℕ) (at k : ℕ) (event : EventShape) → ((j : ℕ) → j < at → HasName types name j → ⊥) → slice_get types at ≡ Some event → (event.name ≡ name → ⊥)
    → k < at + 1 → HasName types name k → ⊥
lacks-more types name at k event before found differs lt h = elim (cases_eq k at) [
  | inl e ↦ differs (ap (λ (v : EventShape). v.name) (same_Some _ _ (sym found ∙ ap (slice_get types) (sym e) ∙ h.1)) ∙ h.2)
  | inr ne ↦ before k (omega arith) h
]

pub lacks-all : (types : List EventShape) (name : List ℕ) (at : ℕ) → ((j : ℕ) → j < at → HasName types name j → ⊥) → length types ≤ at → LacksName types name
lacks-all types name at before le = λ n h. before n (let k = get-below types n h.0 h.1 in omega arith) h

pub event-shape : (types : List EventShape) (n : ℕ) → n < length types → AreTypes types (types_in (form_of (Event n)))
event-shape types n lt = rw form_of-event (lt, tt)
