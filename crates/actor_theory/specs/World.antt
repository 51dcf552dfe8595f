-- The machine of one thread: logs and queues, steps and rounds.
use Rattle.std.specs.Prelude.{◌≡◌, ℕ, zero, suc, ◌+◌, List, [], ◌∷◌, ◌++◌, Bool, not, ◌&&◌, ◌==◌, nat_le, if◌then◌else◌, Option, Some, None, true, map}
use Rattle.actor_theory.specs.declared.entry.Entry.{Entry}
use Rattle.actor_theory.specs.Language.{Language, naive, reply, mail, loaded}

-- each actor's log, and its queue in order of arrival
pub record World (C : Type 0) : Type 0 where
  pub log : ℕ → List (Entry C)
  pub queue : ℕ → List (Entry C)

-- an item, as an entry that the reader has sent itself
abbrev pub own : {C : Type 0} → ℕ → C → Entry C
own reader i = record { sender = reader; stamp = 0; cargo = i }

-- items come to the reader, before what others sent it
abbrev pub given : {S C : Type 0} → Language S C → List C → World C → World C
given L items w = record { log = w.log; queue = λ k. (if k == L.contexts then map (own L.contexts) items else []) ++ w.queue k }

-- at the start the items and the loads are queued
abbrev pub start : {S C : Type 0} → Language S C → List C → World C
start L items = record { log = λ k. []; queue = λ k. mail L.contexts 0 k (loaded L items) }

-- what was found, with one more entry before the others
abbrev pub with_front : {C : Type 0} → Entry C → Option (Entry C × List (Entry C)) → Option (Entry C × List (Entry C))
with_front e None = None
with_front e (Some p) = Some (p.0, e ∷ p.1)

-- the oldest entry of a sender, and the others
abbrev pub first_from : {C : Type 0} → ℕ → List (Entry C) → Option (Entry C × List (Entry C))
first_from s [] = None
first_from s (e ∷ es) = if e.sender == s then Some (e, es) else with_front e (first_from s es)

-- an actor may handle something: it is one, and isn't spent
abbrev pub is_open : {S C : Type 0} → Language S C → World C → ℕ → Bool
is_open L w d = nat_le d L.contexts && not (L.is_spent (naive L d (w.log d)).state)

-- d handles e, the rest stays queued, and what d sends arrives
abbrev pub handled : {S C : Type 0} → Language S C → World C → ℕ → Entry C → List (Entry C) → World C
handled L w d e rest = record {
  log = λ k. if k == d then w.log d ++ e ∷ [] else w.log k;
  queue = λ k. (if k == d then rest else w.queue k) ++ reply L d k (naive L d (w.log d)) e;
}

-- the world after d has handled what was found, if anything was
abbrev pub found : {S C : Type 0} → Language S C → World C → ℕ → Option (Entry C × List (Entry C)) → World C
found L w d None = w
found L w d (Some p) = handled L w d p.0 p.1

-- the oldest entry of s in the queue of d, if d may handle it
abbrev pub finds : {S C : Type 0} → Language S C → World C → ℕ → ℕ → Option (Entry C × List (Entry C))
finds L w d s = if is_open L w d then first_from s (w.queue d) else None

-- a step (d, s); one that finds nothing is skipped
abbrev pub step : {S C : Type 0} → Language S C → World C → ℕ × ℕ → World C
step L w p = found L w p.0 (finds L w p.0 p.1)

-- one step after another
abbrev pub steps : {S C : Type 0} → Language S C → World C → List (ℕ × ℕ) → World C
steps L w [] = w
steps L w (p ∷ ps) = steps L (step L w p) ps

-- the sender of the oldest entry that isn't from this actor, or else the given one
abbrev pub other_sender : {C : Type 0} → ℕ → ℕ → List (Entry C) → ℕ
other_sender d s [] = s
other_sender d s (e ∷ es) = if e.sender == d then other_sender d s es else e.sender

-- the sender of the oldest entry, if there is one
abbrev pub head_sender : {C : Type 0} → ℕ → List (Entry C) → ℕ
head_sender s [] = s
head_sender s (e ∷ es) = e.sender

-- whose entry an actor takes in its turn: the reader takes what others sent, and else an item, if it may. No actor has the number contexts + 1
abbrev pub turn_sender : {C : Type 0} → ℕ → Bool → ℕ → List (Entry C) → ℕ
turn_sender contexts takes d queue = if d == contexts then other_sender d (if takes then d else contexts + 1) queue else head_sender (contexts + 1) queue

-- an actor's turn, as a step
abbrev pub turn_of : {S C : Type 0} → Language S C → Bool → World C → ℕ → ℕ × ℕ
turn_of L takes w d = (d, turn_sender L.contexts takes d (w.queue d))

-- the sender that a pick names, or else that of the actor's turn
abbrev pub named_sender : Option ℕ → ℕ → ℕ
named_sender None turn = turn
named_sender (Some s) turn = s

-- a pick as a step: an actor, and the sender whose oldest entry it handles, for the reader itself its next item
abbrev pub picked : {S C : Type 0} → Language S C → World C → ℕ × Option ℕ → ℕ × ℕ
picked L w p = (p.0, named_sender p.1 (turn_sender L.contexts true p.0 (w.queue p.0)))

-- the steps of the picks
abbrev pub follow : {S C : Type 0} → Language S C → World C → List (ℕ × Option ℕ) → World C
follow L w [] = w
follow L w (p ∷ ps) = follow L (step L w (picked L w p)) ps

-- the turns of the actors from the first, this many
abbrev pub turns : {S C : Type 0} → Language S C → Bool → ℕ → ℕ → World C → World C
turns L takes d zero w = w
turns L takes d (suc n) w = turns L takes (d + 1) n (step L w (turn_of L takes w d))

-- the slots, and then the reader
abbrev pub round : {S C : Type 0} → Language S C → Bool → World C → World C
round L takes w = turns L takes 0 (suc L.contexts) w

-- one round after another, this many
abbrev pub rounds : {S C : Type 0} → Language S C → Bool → ℕ → World C → World C
rounds L takes zero w = w
rounds L takes (suc n) w = rounds L takes n (round L takes w)

-- a round handles nothing here: no turn finds anything
abbrev pub IsQuiet : {S C : Type 0} → Language S C → Bool → World C → Type 0
IsQuiet L takes w = (d : ℕ) → finds L w d (turn_of L takes w d).1 ≡ None

-- rounds until one handles nothing
pub record IsFinished {S C : Type 0} (L : Language S C) (takes : Bool) (from to : World C) : Type 0 where
  pub count : ℕ
  pub reached : to ≡ rounds L takes count from
  pub quiet : IsQuiet L takes to
