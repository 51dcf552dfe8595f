-- How actors handle entries, over any type of states: the slots from 0, and the reader, whose number is that of slots.
use Rattle.std.specs.Prelude.{ℕ, ◌+◌, max, List, [], ◌∷◌, ◌++◌, Bool, ◌==◌, if◌then◌else◌, map, filter}
use Rattle.actor_theory.specs.declared.entry.Entry.{Entry}

-- what a handling sends: an actor, and what it gets
pub record Sent (C : Type 0) : Type 0 where
  pub target : ℕ
  pub cargo : C

-- a language of handlers: how an actor begins, its state after an entry that it handles under a number, and what it sends then
pub record Language (S C : Type 0) : Type 0 where
  pub contexts : ℕ
  pub start : ℕ → S
  pub handle : S → ℕ → Entry C → S
  pub sent : S → ℕ → Entry C → List (Sent C)
  pub is_spent : S → Bool
  -- what the reader has sent before it handles anything
  pub loads : List (Sent C)

-- an actor at some moment: its state, and the number of its last handling
pub record Moment (S : Type 0) : Type 0 where
  pub state : S
  pub number : ℕ

-- a handling's number: one more than the last number and than the entry's stamp
abbrev pub number_after : {C : Type 0} → ℕ → Entry C → ℕ
number_after previous e = 1 + max previous e.stamp

-- the moment after an entry
abbrev pub next : {S C : Type 0} → Language S C → Moment S → Entry C → Moment S
next L m e = record { state = L.handle m.state (number_after m.number e) e; number = number_after m.number e }

-- the moment before any
abbrev pub first : {S C : Type 0} → Language S C → ℕ → Moment S
first L d = record { state = L.start d; number = 0 }

-- the moment after these entries
abbrev pub after_all : {S C : Type 0} → Language S C → Moment S → List (Entry C) → Moment S
after_all L m [] = m
after_all L m (e ∷ es) = after_all L (next L m e) es

-- naive evaluation of a log
abbrev pub naive : {S C : Type 0} → Language S C → ℕ → List (Entry C) → Moment S
naive L d log = after_all L (first L d) log

-- the numbers of the handlings of a log
abbrev pub numbers_along : {C : Type 0} → ℕ → List (Entry C) → List ℕ
numbers_along previous [] = []
numbers_along previous (e ∷ es) = number_after previous e ∷ numbers_along (number_after previous e) es

-- the last number of a log
abbrev pub number_along : {C : Type 0} → ℕ → List (Entry C) → ℕ
number_along previous [] = previous
number_along previous (e ∷ es) = number_along (number_after previous e) es

-- an entry of actor s, under this number
abbrev pub stamped : {C : Type 0} → ℕ → ℕ → Sent C → Entry C
stamped s number x = record { sender = s; stamp = number; cargo = x.cargo }

-- it goes to this actor
abbrev pub is_for : {C : Type 0} → ℕ → Sent C → Bool
is_for k x = x.target == k

-- what actor s sends to k, under this number
abbrev pub mail : {C : Type 0} → ℕ → ℕ → ℕ → List (Sent C) → List (Entry C)
mail s number k sent = map (stamped s number) (filter (is_for k) sent)

-- what the handling of one entry sends to k
abbrev pub reply : {S C : Type 0} → Language S C → ℕ → ℕ → Moment S → Entry C → List (Entry C)
reply L s k m e = mail s (number_after m.number e) k (L.sent m.state (number_after m.number e) e)

-- what the handlings of these entries send to k
abbrev pub replies : {S C : Type 0} → Language S C → ℕ → ℕ → Moment S → List (Entry C) → List (Entry C)
replies L s k m [] = []
replies L s k m (e ∷ es) = reply L s k m e ++ replies L s k (next L m e) es

-- an item, which the reader sends itself
abbrev pub to_self : {C : Type 0} → ℕ → C → Sent C
to_self reader i = record { target = reader; cargo = i }

-- what the reader has sent before it handles anything: to itself the items, and the loads
abbrev pub loaded : {S C : Type 0} → Language S C → List C → List (Sent C)
loaded L items = map (to_self L.contexts) items ++ L.loads

-- what an actor has sent before it handles anything
abbrev pub before : {S C : Type 0} → Language S C → List C → ℕ → List (Sent C)
before L items s = if s == L.contexts then loaded L items else []

-- all that s sends to k, while it handles this log
abbrev pub sends : {S C : Type 0} → Language S C → List C → ℕ → ℕ → List (Entry C) → List (Entry C)
sends L items s k log = mail s 0 k (before L items s) ++ replies L s k (first L s) log

-- it comes from this actor
abbrev pub is_of : {C : Type 0} → ℕ → Entry C → Bool
is_of s e = e.sender == s

-- the entries of a sender
abbrev pub by : {C : Type 0} → ℕ → List (Entry C) → List (Entry C)
by s entries = filter (is_of s) entries
