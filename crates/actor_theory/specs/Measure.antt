-- A measure of contexts and a reader, by those of each alone.
use Rattle.std.specs.Prelude.{◌≡◌, ◌+◌, ◌<◌, ◌⊎◌}
use Rattle.actor_theory.specs.Common.{ℕ, List, map, false}
use Rattle.std.proofs.Common.{inl, inr}
use Rattle.actor_theory.specs.declared.entry.Entry.{Entry}
use Rattle.actor_theory.specs.declared.entry.ReaderStep.{ReaderStep}
use Rattle.actor_theory.specs.Language.{number_after, number_along}
use Rattle.actor_theory.specs.Potential.{total, entry_cost}
use Rattle.actor_theory.specs.Joined.{Slots, Reader, lifted, carrying, slots_only, slot_after, reader_after, step_entry}

-- a log of actor d: a slot has no items, and the reader's own entries are items
pub record IsJoinedLog {C I : Type 0} (contexts d : ℕ) (log : List (Entry (C ⊎ I))) : Type 0 where
  pub slot : (d ≡ contexts → ⊥) → (entries : List (Entry C)) × (log ≡ map lifted entries)
  pub reader : d ≡ contexts → (steps : List (ReaderStep I C)) × (log ≡ map (step_entry contexts) steps)

-- a slot in this state pays for all that its handling of e sends
abbrev pub PaysSlot : {S C : Type 0} → Slots S C → (S → ℕ) → (ℕ → Entry C → ℕ) → ℕ → S → ℕ → Entry C → Type 0
PaysSlot A weight cost d s number e = weight (A.handle s number e) + total (entry_cost cost d number) (A.sent s number e) < weight s + cost d e

-- each slot pays, after any log that did not spend it
pub record IsSlotMeasure {S C : Type 0} (contexts : ℕ) (A : Slots S C) (weight : S → ℕ) (cost : ℕ → Entry C → ℕ) : Type 0 where
  pub pays : (d : ℕ) (log : List (Entry C)) (e : Entry C) → d < contexts → A.is_spent (slot_after A (A.start d) 0 log) ≡ false → PaysSlot A weight cost d (slot_after A (A.start d) 0 log) (number_after (number_along 0 log) e) e

-- the reader pays for an entry, and for an item with all that it sends
pub record IsReaderMeasure {R C I : Type 0} (contexts : ℕ) (B : Reader R C I) (weight : R → ℕ) (cost : ℕ → Entry C → ℕ) (item_cost : I → ℕ) : Type 0 where
  pub entry : (steps : List (ReaderStep I C)) (e : Entry C) → weight (B.entry (reader_after B B.start steps) e) < weight (reader_after B B.start steps) + cost contexts e
  pub item : (steps : List (ReaderStep I C)) (i : I) (number : ℕ)
      → weight (B.item (reader_after B B.start steps) i) + total (entry_cost cost contexts number) (slots_only contexts (B.item_sent (reader_after B B.start steps) i)) < weight (reader_after B B.start steps) + item_cost i

-- the weight of a context, or of the reader
abbrev pub joined_weight : {S R : Type 0} → (S → ℕ) → (R → ℕ) → (S ⊎ R) → ℕ
joined_weight slot_weight reader_weight (inl s) = slot_weight s
joined_weight slot_weight reader_weight (inr r) = reader_weight r

-- the cost of an entry at d, or of an item
abbrev pub cargo_cost : {C I : Type 0} → (ℕ → Entry C → ℕ) → (I → ℕ) → ℕ → Entry (C ⊎ I) → C ⊎ I → ℕ
cargo_cost cost item_cost d e (inl cargo) = cost d (carrying e cargo)
cargo_cost cost item_cost d e (inr item) = item_cost item

-- the cost of what waits at d
abbrev pub joined_cost : {C I : Type 0} → (ℕ → Entry C → ℕ) → (I → ℕ) → ℕ → Entry (C ⊎ I) → ℕ
joined_cost cost item_cost d e = cargo_cost cost item_cost d e e.cargo
