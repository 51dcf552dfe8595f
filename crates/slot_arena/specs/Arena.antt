-- What a store of values under keys holds, and how it changes.
use Rattle.std.specs.Prelude.{◌≡◌, ◌≢◌, ℕ, ◌+◌, ◌≤◌, List, Option, Some, None, is_some, count_by, slice_index_or, if◌then◌else◌, ◌==◌, refl}
use Rattle.std.specs.Coded.{Coded, code_by, coded×, coded_ℕ, coded_list, coded_option}
use Rattle.slot_arena.specs.declared.key.Key.{Key}

-- the generation and the value, or nothing, at each slot from 0 on; how many values were taken in and how many given back
pub record Arena (T : Type 0) : Type 0 where
  pub held : List (Option (ℕ × T))
  pub taken : ℕ
  pub returned : ℕ

-- a store is coded as the tuple of its fields
abbrev pub arena_code : {T : Type 0} → Coded T → Coded (Arena T)
arena_code {T} code =
    code_by
    (List (Option (ℕ × T)) × (ℕ × ℕ))
    (coded× (coded_list (coded_option (coded× coded_ℕ code))) (coded× coded_ℕ coded_ℕ))
    (λ a. (a.held, (a.taken, a.returned)))
    (λ p. record { held = p.0; taken = p.1.0; returned = p.1.1 })
    (λ _. refl)

module _ {T : Type 0} where
  -- a value, where it was taken in at this generation
  abbrev pub of_generation : ℕ → Option (ℕ × T) → Option T
  of_generation generation None = None
  of_generation generation (Some e) = if e.0 == generation then Some e.1 else None

  -- the value that a key names: nothing where the slot holds nothing, or a value of another generation
  abbrev pub found : Arena T → Key → Option T
  found a key = of_generation key.generation (slice_index_or a.held key.slot None)

  -- how many values are held
  abbrev pub held_count : Arena T → ℕ
  held_count a = count_by is_some a.held

  -- a value is taken in under a key whose generation is the number of takes with this one; all other keys name what they did
  pub record Takes (old new : Arena T) (key : Key) (value : T) : Type 0 where
    pub generation : key.generation ≡ old.taken + 1
    pub unknown : found old key ≡ None
    pub stands : found new key ≡ Some value
    pub others : (other : Key) → other ≢ key → found new other ≡ found old other
    pub taken : new.taken ≡ old.taken + 1
    pub returned : new.returned ≡ old.returned

  -- the value of a key is given back: it names nothing, and all other keys name what they did
  pub record Returns (old new : Arena T) (key : Key) : Type 0 where
    pub past : key.generation ≤ new.taken
    pub gone : found new key ≡ None
    pub others : (other : Key) → other ≢ key → found new other ≡ found old other
    pub taken : new.taken ≡ old.taken
    pub returned : new.returned ≡ old.returned + 1

  -- no generation is past the last take, and what was taken in is held or was given back
  pub record IsSound (held : List (Option (ℕ × T))) (taken returned : ℕ) : Type 0 where
    pub earlier : (slot generation : ℕ) (value : T) → slice_index_or held slot None ≡ Some (generation, value) → generation ≤ taken
    pub counted : count_by is_some held + returned ≡ taken
    pub few : taken ≤ 4294967295
