-- No event type, or one whose fields name no event types.
use Rattle.std.proofs.Common.{◌≡◌, ◌∷◌}
use Rattle.evt_text.proofs.Common.{ℕ, zero, suc, List, [], refl, arith, AllByRecursion, none-some, Field, EventShape, IsName, types_in, types_held, HasNoCycle}
use Rattle.std.specs.List.{flat_map}
use Rattle.event_types.proofs.Depths.{none-known, none-cycle}
use Rattle.evt_text.specs.Forms.{AreEventTypes}
use Rattle.event_types.specs.Types.{form_of, IsAmong, HasDistinctNames}

abbrev pub ArePlain : List Field → Type 0
ArePlain fields = AllByRecursion (λ f. types_in (form_of f.shape) ≡ []) fields

fields-none : (fields : List Field) → ArePlain fields → flat_map (λ f. types_in (form_of f.shape)) fields ≡ []
fields-none [] a = refl
fields-none (f ∷ fs) a = rw (a.0, fields-none fs a.1) refl

held-none : (event : EventShape) (n : ℕ) → ArePlain event.fields → types_held (event ∷ []) n ≡ []
held-none event zero a = fields-none event.fields a
held-none event (suc n) a = refl

not-held : (event : EventShape) (n m : ℕ) → ArePlain event.fields → IsAmong m (types_held (event ∷ []) n) → ⊥
not-held event n m a h = rw (held-none event n a) at h

one-cycle : (event : EventShape) → ArePlain event.fields → HasNoCycle (event ∷ [])
one-cycle event a zero n h = not-held event n n a h
one-cycle event a (suc depth) n h = not-held event n h.0 a h.1

one-distinct : (event : EventShape) → HasDistinctNames (event ∷ [])
one-distinct event zero zero a b e f g = refl
one-distinct event zero (suc j) a b e f g = absurd (none-some _ f)
one-distinct event (suc i) j a b e f g = absurd (none-some _ e)

pub one-type : (event : EventShape) → IsName event.name → ArePlain event.fields → AreEventTypes (event ∷ [])
one-type event name a = record {
  few = omega arith;
  names = (name, tt);
  distinct = one-distinct event;
  fields = λ n. rw (held-none event n a) tt;
  no_cycle = one-cycle event a;
}

none-distinct : HasDistinctNames []
none-distinct i j a b e f g = absurd (none-some _ e)

pub no-type : AreEventTypes []
no-type = record {
  few = omega arith;
  names = tt;
  distinct = none-distinct;
  fields = none-known;
  no_cycle = none-cycle;
}
