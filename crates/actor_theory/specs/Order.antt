-- The order of the numbers, as a run of the machine of one thread.
use Rattle.actor_theory.specs.Common.{ℕ, zero, suc, List, [], Bool, false, nat_lt, nat_le, map, filter, AllByRecursion}
use Rattle.std.specs.Prelude.{◌≡◌, ◌≤◌, ◌<◌, ◌⊎◌, ◌∷◌, ◌++◌, ◌&&◌, ◌==◌, if◌then◌else◌, ◌||◌, IsSome}
use Rattle.actor_theory.specs.declared.entry.Entry.{Entry}
use Rattle.actor_theory.specs.Language.{Language, Moment, first, next, number_after, by}
use Rattle.actor_theory.specs.World.{World, start, finds, step, steps}

-- one handling
pub record Handling (C : Type 0) : Type 0 where
  pub number : ℕ
  pub actor : ℕ
  pub entry : Entry C

-- the handlings of an actor from this moment on
abbrev pub handlings_from : {S C : Type 0} → Language S C → ℕ → Moment S → List (Entry C) → List (Handling C)
handlings_from L d m [] = []
handlings_from L d m (e ∷ es) = record { number = number_after m.number e; actor = d; entry = e } ∷ handlings_from L d (next L m e) es

-- the handlings of an actor, in order of its log
abbrev pub handlings : {S C : Type 0} → Language S C → ℕ → List (Entry C) → List (Handling C)
handlings L d log = handlings_from L d (first L d) log

-- g doesn't come before h
abbrev pub IsBefore : {C : Type 0} → Handling C → Handling C → Type 0
IsBefore h g = (h.number < g.number) ⊎ ((h.number ≡ g.number) × (h.actor ≤ g.actor))

-- none comes before one that stands before it
abbrev pub IsAscending : {C : Type 0} → List (Handling C) → Type 0
IsAscending [] = Unit {0}
IsAscending (h ∷ hs) = AllByRecursion (IsBefore h) hs × IsAscending hs

-- it is a handling of this actor
abbrev pub is_at : {C : Type 0} → ℕ → Handling C → Bool
is_at d h = h.actor == d

-- the handlings of this actor among these
abbrev pub at : {C : Type 0} → ℕ → List (Handling C) → List (Handling C)
at d hs = filter (is_at d) hs

-- all handlings, in ascending order of number, then of actor, then of place
pub record IsOrder {S C : Type 0} (L : Language S C) (w : World C) (hs : List (Handling C)) : Type 0 where
  pub ascending : IsAscending hs
  pub each : (d : ℕ) → at d hs ≡ handlings L d (w.log d)

-- each as a step: its actor and the sender
abbrev pub pick_of : {C : Type 0} → Handling C → ℕ × ℕ
pick_of h = (h.actor, h.entry.sender)

-- each of the steps finds an entry
abbrev pub FindsEach : {S C : Type 0} → Language S C → World C → List (ℕ × ℕ) → Type 0
FindsEach L w [] = Unit {0}
FindsEach L w (p ∷ ps) = IsSome (finds L w p.0 p.1) × FindsEach L (step L w p) ps

-- the entries of the senders below n, in ascending order of senders
abbrev pub ordered : {C : Type 0} → ℕ → List (Entry C) → List (Entry C)
ordered zero queue = []
ordered (suc n) queue = ordered n queue ++ by n queue

-- what is left of an actor's queue
abbrev pub left_of : {S C : Type 0} → Language S C → World C → ℕ → List (Entry C)
left_of L w d = ordered (suc L.contexts) (w.queue d)

-- the same logs, and the same left
pub record IsSame {S C : Type 0} (L : Language S C) (v w : World C) : Type 0 where
  pub logs : (d : ℕ) → v.log d ≡ w.log d
  pub lefts : (d : ℕ) → left_of L v d ≡ left_of L w d

-- the run along the order finds an entry at each step, and gives the same record
pub record IsReplayed {S C : Type 0} (L : Language S C) (items : List C) (w : World C) (hs : List (Handling C)) : Type 0 where
  pub finds : FindsEach L (start L items) (map pick_of hs)
  pub same : IsSame L (steps L (start L items) (map pick_of hs)) w

-- h comes before g, or they are alike
abbrev pub is_before : {C : Type 0} → Handling C → Handling C → Bool
is_before h g = nat_lt h.number g.number || (h.number == g.number && nat_le h.actor g.actor)

-- h in its place, before those that are alike
abbrev pub insert : {C : Type 0} → Handling C → List (Handling C) → List (Handling C)
insert h [] = h ∷ []
insert h (g ∷ gs) = if is_before h g then h ∷ g ∷ gs else g ∷ insert h gs

-- these, each in its place
abbrev pub insert_all : {C : Type 0} → List (Handling C) → List (Handling C) → List (Handling C)
insert_all [] hs = hs
insert_all (x ∷ xs) hs = insert x (insert_all xs hs)

-- the handlings of the actors below n, in ascending order of number, then of actor, then of place
abbrev pub merged : {C : Type 0} → (ℕ → List (Handling C)) → ℕ → List (Handling C)
merged handlings_at zero = []
merged handlings_at (suc n) = insert_all (handlings_at n) (merged handlings_at n)

-- the handlings of the actors below n, in order
abbrev pub order_below : {S C : Type 0} → Language S C → World C → ℕ → List (Handling C)
order_below L w n = merged (λ d. handlings L d (w.log d)) n

-- the handlings of the actors below n, the last actor's first
abbrev pub laid : {C : Type 0} → (ℕ → List (Handling C)) → ℕ → List (Handling C)
laid handlings_at zero = []
laid handlings_at (suc n) = handlings_at n ++ laid handlings_at n

-- none is less than one before it
abbrev pub IsAscendingBy : {X : Type 0} → (X → X → Bool) → List X → Type 0
IsAscendingBy lt [] = Unit {0}
IsAscendingBy lt (x ∷ xs) = AllByRecursion (λ y. lt y x ≡ false) xs × IsAscendingBy lt xs

-- all handlings, in order
abbrev pub order_of : {S C : Type 0} → Language S C → World C → List (Handling C)
order_of L w = order_below L w (suc L.contexts)
