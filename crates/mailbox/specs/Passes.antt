-- What clauses say of a mailbox and of its passes.
use Rattle.std.specs.Prelude.{◌≡◌, ℕ, true, List, [], ◌++◌, slice_get, Option, Some, None}
use Rattle.crossbeam_queue.specs.Passes.{view, Pass, IsPassOf, ruled_capacity}
use Rattle.crossbeam_queue.specs.declared.array_queue.Doing.{Doing}
use Rattle.crossbeam_queue.specs.declared.array_queue.Slotted.{Slotted}
use Rattle.mailbox.specs.Rule.{of}
use Rattle.mailbox.specs.declared.rule.View.{View}
use Rattle.mailbox.specs.declared.passes.SendPass.{SendPass}
use Rattle.mailbox.specs.declared.passes.TakePass.{TakePass}
use Rattle.mailbox.specs.declared.mailbox.Mailbox.{Mailbox}

module _ {E : Type 0} where
  -- what the pass of a sender knows
  abbrev pub sender_view : SendPass E → View E
  sender_view p = view p.pass

  -- what the taker's pass knows
  abbrev pub taker_view : TakePass E → View E
  taker_view t = view t.pass

  -- the number of a sender
  abbrev pub number_of : SendPass E → ℕ
  number_of p = (view p.pass).number

  -- what was posted with a pass, in order
  abbrev pub posted_by : SendPass E → List E
  posted_by p = (view p.pass).entries

  -- what was taken, in order
  abbrev pub taken_by : TakePass E → List E
  taken_by t = (view t.pass).entries

  -- what the pass at a place has posted, and nothing where there is no pass
  abbrev pub posted_in : Option (SendPass E) → List E
  posted_in None = []
  posted_in (Some p) = posted_by p

  -- how many entries a mailbox holds at most
  abbrev pub capacity_of : Mailbox E → ℕ
  capacity_of m = ruled_capacity m.queue

module _ {E Q A : Type 0} where
  -- the pass of a sender, of this queue
  abbrev pub IsSender : Slotted (Option E) (Doing E (View E)) Q A → Pass E (View E) → Type 0
  IsSender q p = IsPassOf q p × ((view p).sends ≡ true)

  -- the taker's pass of this queue
  abbrev pub IsTaker : Slotted (Option E) (Doing E (View E)) Q A → Pass E (View E) → Type 0
  IsTaker q p = IsPassOf q p × ((view p).takes ≡ true)

  -- the pass of the sender with this number
  abbrev pub IsOwn : Slotted (Option E) (Doing E (View E)) Q A → ℕ → Pass E (View E) → Type 0
  IsOwn q k p = IsSender q p × ((view p).number ≡ k)

  -- each is the pass of the sender whose number is its place
  abbrev pub Own : Slotted (Option E) (Doing E (View E)) Q A → List (SendPass E) → Type 0
  Own q passes = (k : ℕ) (p : SendPass E) → slice_get passes k ≡ Some p → IsOwn q k p.pass

  -- and nothing was posted with it
  abbrev pub Fresh : Slotted (Option E) (Doing E (View E)) Q A → List (SendPass E) → Type 0
  Fresh q passes = (k : ℕ) (p : SendPass E) → slice_get passes k ≡ Some p → IsOwn q k p.pass × (posted_by p ≡ [])

module _ {E : Type 0} where
  -- the pass of a sender, of this mailbox
  abbrev pub IsSenderOf : Mailbox E → SendPass E → Type 0
  IsSenderOf m p = IsSender m.queue p.pass

  -- the taker's pass of this mailbox
  abbrev pub IsTakerOf : Mailbox E → TakePass E → Type 0
  IsTakerOf m t = IsTaker m.queue t.pass

  -- the taker's pass of this mailbox, which has opened so many senders' passes and taken none in
  abbrev pub IsOpenTaker : Mailbox E → ℕ → TakePass E → Type 0
  IsOpenTaker m opened t = IsTakerOf m t × ((taker_view t).handed ≡ []) × ((taker_view t).opened ≡ opened)

  -- each is this mailbox's pass of the sender whose number is its place
  abbrev pub OwnPasses : Mailbox E → List (SendPass E) → Type 0
  OwnPasses m passes = Own m.queue passes

  -- and nothing was posted with it
  abbrev pub FreshPasses : Mailbox E → List (SendPass E) → Type 0
  FreshPasses m passes = Fresh m.queue passes

  -- of each number, its entries in what was taken and then in the rest are what its pass has posted, in order; a number without a pass has none
  abbrev pub AllDelivered : (E → ℕ) → List E → List (SendPass E) → List E → Type 0
  AllDelivered sender_of taken passes rest = (k : ℕ) → of sender_of k (taken ++ rest) ≡ posted_in (slice_get passes k)
