-- What handlings leave: an empty row, no more fuel, and the same slot and slots.
use Rattle.std.proofs.Common.{◌≡◌, ◌+◌, ◌*◌, ◌≤◌, ◌∷◌}
use Rattle.context_meaning.proofs.Common.{ℕ, zero, suc, List, [], nat_lt, refl, ◌∙◌, arith, cond_both, Program, Cargo, Waiting, Context, row_in_front, spend, unless_spent, with_front, cargo_handled, drained, first_handled, front_handled, front_weight, handle, last_number, load_handled, marks_of, met, settled, thing_handled, timed}
use Rattle.record_book.specs.declared.cargo.Cargo.TheVariants as cargo
use Rattle.context_meaning.specs.declared.context.Waiting.TheVariants as waiting
use Rattle.context_meaning.proofs.Choosing.{unless_both}
use Rattle.context_meaning.proofs.Changing.{load_carries, timed_carries}
use Rattle.context_meaning.proofs.Falling.{Falls, falls_carries, met_falls}
use Rattle.context_meaning.proofs.Settling.{first_row}

-- fuel doesn't grow, and the slot and the slots stay
pub record Stays (c d : Context) : Type 0 where
  pub slot : d.slot ≡ c.slot
  pub slots : d.slots ≡ c.slots
  pub fuel : d.fuel ≤ c.fuel

-- nothing is done
pub stays_same : (c : Context) → Stays c c
stays_same c = record { slot = refl; slots = refl; fuel = omega arith }

-- one behind another
pub stays_then : (c d e : Context) → Stays c d → Stays d e → Stays c e
stays_then c d e a b = record { slot = b.slot ∙ a.slot; slots = b.slots ∙ a.slots; fuel = let x = a.fuel in let y = b.fuel in omega (arith, x, y) }

-- behind what doesn't grow, with its row and marks in front
row_stays : (marks : List Waiting) (c d : Context) → Falls c d → Stays c (row_in_front marks d)
row_stays marks c d falls = record { slot = falls.slot; slots = falls.slots; fuel = falls.fuel }

module _ (program : Program) where
  -- ---- the row

  -- behind a thing
  pub thing_row : (w : Waiting) (c : Context) → (thing_handled program w c).row ≡ []
  thing_row w c = refl

  -- behind what an entry carries
  pub cargo_row : (load : Cargo) (c : Context) → (cargo_handled program load c).row ≡ []
  cargo_row (cargo.Load monitor) c = refl
  cargo_row (cargo.Event e) c = refl
  cargo_row (cargo.Time now) c = refl

  -- behind the first in front, as often as this
  pub drained_row : (n : ℕ) (c : Context) → c.row ≡ [] → (drained program n c).row ≡ []
  drained_row zero c empty = empty
  drained_row (suc n) c empty = drained_row n (unless_spent (first_handled program) c) (unless_both (λ d. d.row ≡ []) (first_handled program) c empty (first_row program c empty))

  -- behind what waits
  pub settled_row : (c : Context) → c.row ≡ [] → (settled program c).row ≡ []
  settled_row c empty = drained_row (2 * c.fuel + front_weight c.front) c empty

  -- behind a handling under a number
  pub handle_row : (c : Context) (number : ℕ) (load : Cargo) → c.row ≡ [] → (handle program c number load).row ≡ []
  handle_row c number load empty = cond_both (nat_lt last_number number) (spend c) (settled program (cargo_handled program load c)) (λ d. d.row ≡ []) (λ _. empty) (λ _. settled_row (cargo_handled program load c) (cargo_row load c))

  -- ---- fuel, slot and slots

  -- behind a thing
  pub thing_stays : (w : Waiting) (c : Context) → Stays c (thing_handled program w c)
  thing_stays w c = row_stays (marks_of w) c (met program w c) (met_falls program w c)

  -- behind what an entry carries
  pub cargo_stays : (load : Cargo) (c : Context) → Stays c (cargo_handled program load c)
  cargo_stays (cargo.Load monitor) c = row_stays [] c (load_handled program monitor c) (load_carries program Falls (falls_carries program) monitor c)
  cargo_stays (cargo.Event e) c = thing_stays (waiting.Event e) c
  cargo_stays (cargo.Time now) c = row_stays [] c (timed program now c) (timed_carries program Falls (falls_carries program) now c)

  -- behind the first of these
  front_stays : (ws : List Waiting) (c : Context) → Stays c (front_handled program ws c)
  front_stays [] c = stays_same c
  front_stays (w ∷ ws) c = let stays = thing_stays w (with_front ws c) in record { slot = stays.slot; slots = stays.slots; fuel = stays.fuel }

  -- behind the first in front
  pub first_stays : (c : Context) → Stays c (first_handled program c)
  first_stays c = front_stays c.front c

  -- as often as this
  pub drained_stays : (n : ℕ) (c : Context) → Stays c (drained program n c)
  drained_stays zero c = stays_same c
  drained_stays (suc n) c =
      let next = unless_spent (first_handled program) c in
      stays_then c next (drained program n next) (unless_both (Stays c) (first_handled program) c (stays_same c) (first_stays c)) (drained_stays n next)

  -- behind what waits
  pub settled_stays : (c : Context) → Stays c (settled program c)
  settled_stays c = drained_stays (2 * c.fuel + front_weight c.front) c

  -- behind a handling under a number
  pub handle_stays : (c : Context) (number : ℕ) (load : Cargo) → Stays c (handle program c number load)
  handle_stays c number load =
      let done = cargo_handled program load c in
      cond_both (nat_lt last_number number) (spend c) (settled program done) (Stays c) (λ _. record { slot = refl; slots = refl; fuel = omega arith }) (λ _. stays_then c done (settled program done) (cargo_stays load c) (settled_stays done))

  -- its fuel
  pub handle_fuel : (c : Context) (number : ℕ) (load : Cargo) → (handle program c number load).fuel ≤ c.fuel
  handle_fuel c number load = (handle_stays c number load).fuel

  -- its slot and the slots
  pub handle_slot : (c : Context) (number : ℕ) (load : Cargo) → ((handle program c number load).slot ≡ c.slot) × ((handle program c number load).slots ≡ c.slots)
  handle_slot c number load = let stays = handle_stays c number load in (stays.slot, stays.slots)
