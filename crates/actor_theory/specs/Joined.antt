-- Contexts and a reader, as one language. The reader's number is that of contexts, and its items are entries that it sends itself.
use Rattle.std.specs.Prelude.{◌≡◌, ◌⊎◌, ◌∷◌, ◌==◌, if◌then◌else◌}
use Rattle.actor_theory.specs.Common.{ℕ, List, [], Bool, false, nat_le, nat_lt, map, filter}
use Rattle.std.proofs.Common.{inl, inr}
use Rattle.actor_theory.specs.declared.entry.Entry.{Entry}
use Rattle.actor_theory.specs.declared.entry.ReaderStep.{ReaderStep}
use Rattle.actor_theory.specs.declared.entry.ReaderStep.TheVariants.{Item, Entry as Taken}
use Rattle.actor_theory.specs.Language.{Language, Sent, number_after}
use Rattle.actor_theory.specs.World.{own}

-- contexts: how the one of a slot begins, and its state and sends after it has handled an entry under a number. Where handlers draw numbers, those still to come stand in the state
pub record Slots (S C : Type 0) : Type 0 where
  pub start : ℕ → S
  pub handle : S → ℕ → Entry C → S
  pub sent : S → ℕ → Entry C → List (Sent C)
  pub is_spent : S → Bool

-- a reader: its state after an item and after an entry, what an item sends, and what it has sent before
pub record Reader (R C I : Type 0) : Type 0 where
  pub start : R
  pub item : R → I → R
  pub entry : R → Entry C → R
  pub item_sent : R → I → List (Sent C)
  pub loads : List (Sent C)

-- an entry that carries a cargo, among those that carry a cargo or an item
abbrev pub lifted : {C I : Type 0} → Entry C → Entry (C ⊎ I)
lifted e = record { sender = e.sender; stamp = e.stamp; cargo = inl e.cargo }

-- a send of a cargo, among those of a cargo or an item
abbrev pub lifted_sent : {C I : Type 0} → Sent C → Sent (C ⊎ I)
lifted_sent x = record { target = x.target; cargo = inl x.cargo }

-- the sends to actors; there are no others
abbrev pub to_actors : {C I : Type 0} → ℕ → List (Sent C) → List (Sent (C ⊎ I))
to_actors contexts sent = map lifted_sent (filter (λ x. nat_le x.target contexts) sent)

-- the sends to slots; the reader makes no others
abbrev pub slots_only : {C : Type 0} → ℕ → List (Sent C) → List (Sent C)
slots_only contexts sent = filter (λ x. nat_lt x.target contexts) sent

-- the sends to slots, among those that carry a cargo or an item
abbrev pub to_slots : {C I : Type 0} → ℕ → List (Sent C) → List (Sent (C ⊎ I))
to_slots contexts sent = map lifted_sent (slots_only contexts sent)

-- the entry, with this cargo
abbrev pub carrying : {C I : Type 0} → Entry (C ⊎ I) → C → Entry C
carrying e cargo = record { sender = e.sender; stamp = e.stamp; cargo = cargo }

-- a context gets no items
abbrev pub slot_next : {S C I : Type 0} → Slots S C → S → ℕ → Entry (C ⊎ I) → (C ⊎ I) → S
slot_next A s number e (inl cargo) = A.handle s number (carrying e cargo)
slot_next A s number e (inr item) = s

-- what a context sends goes to actors
abbrev pub slot_sent : {S C I : Type 0} → ℕ → Slots S C → S → ℕ → Entry (C ⊎ I) → (C ⊎ I) → List (Sent (C ⊎ I))
slot_sent contexts A s number e (inl cargo) = to_actors contexts (A.sent s number (carrying e cargo))
slot_sent contexts A s number e (inr item) = []

-- the reader handles an entry, or takes an item
abbrev pub reader_next : {R C I : Type 0} → Reader R C I → R → Entry (C ⊎ I) → (C ⊎ I) → R
reader_next B r e (inl cargo) = B.entry r (carrying e cargo)
reader_next B r e (inr item) = B.item r item

-- only an item makes the reader send anything, and it sends to slots
abbrev pub reader_sent : {R C I : Type 0} → ℕ → Reader R C I → R → (C ⊎ I) → List (Sent (C ⊎ I))
reader_sent contexts B r (inl cargo) = []
reader_sent contexts B r (inr item) = to_slots contexts (B.item_sent r item)

-- the state of a context, or of the reader, after an entry
abbrev pub actor_next : {S R C I : Type 0} → Slots S C → Reader R C I → (S ⊎ R) → ℕ → Entry (C ⊎ I) → S ⊎ R
actor_next A B (inl s) number e = inl (slot_next A s number e e.cargo)
actor_next A B (inr r) number e = inr (reader_next B r e e.cargo)

-- what a context, or the reader, sends then
abbrev pub actor_sent : {S R C I : Type 0} → ℕ → Slots S C → Reader R C I → (S ⊎ R) → ℕ → Entry (C ⊎ I) → List (Sent (C ⊎ I))
actor_sent contexts A B (inl s) number e = slot_sent contexts A s number e e.cargo
actor_sent contexts A B (inr r) number e = reader_sent contexts B r e.cargo

-- a reader is never spent
abbrev pub actor_spent : {S R C : Type 0} → Slots S C → (S ⊎ R) → Bool
actor_spent A (inl s) = A.is_spent s
actor_spent A (inr r) = false

-- so many contexts and a reader
abbrev pub joined : {S R C I : Type 0} → ℕ → Slots S C → Reader R C I → Language (S ⊎ R) (C ⊎ I)
joined contexts A B = record {
  contexts = contexts;
  start = λ d. if d == contexts then inr B.start else inl (A.start d);
  handle = actor_next A B;
  sent = actor_sent contexts A B;
  is_spent = actor_spent A;
  loads = to_slots contexts B.loads;
}

-- a context alone, after these entries
abbrev pub slot_after : {S C : Type 0} → Slots S C → S → ℕ → List (Entry C) → S
slot_after A s number [] = s
slot_after A s number (e ∷ es) = slot_after A (A.handle s (number_after number e) e) (number_after number e) es

-- each of these entries is handled by a context that isn't spent
abbrev pub IsUnspentSlot : {S C : Type 0} → Slots S C → S → ℕ → List (Entry C) → Type 0
IsUnspentSlot A s number [] = Unit {0}
IsUnspentSlot A s number (e ∷ es) = (A.is_spent s ≡ false) × IsUnspentSlot A (A.handle s (number_after number e) e) (number_after number e) es

-- a reader alone, after these steps
abbrev pub reader_after : {R C I : Type 0} → Reader R C I → R → List (ReaderStep I C) → R
reader_after B r [] = r
reader_after B r (Item i n ∷ steps) = reader_after B (B.item r i) steps
reader_after B r (Taken e n ∷ steps) = reader_after B (B.entry r e) steps

-- a step's entry: an item is one that the reader has sent itself
abbrev pub step_entry : {I C : Type 0} → ℕ → ReaderStep I C → Entry (C ⊎ I)
step_entry reader (Item i n) = own reader (inr i)
step_entry reader (Taken e n) = lifted e

-- a step's number
abbrev pub step_number : {I C : Type 0} → ReaderStep I C → ℕ
step_number (Item i n) = n
step_number (Taken e n) = n

-- the items in a reader's steps
abbrev pub items_of : {I C : Type 0} → List (ReaderStep I C) → List I
items_of [] = []
items_of (Item i n ∷ steps) = i ∷ items_of steps
items_of (Taken e n ∷ steps) = items_of steps
