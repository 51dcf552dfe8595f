-- What befalls a store in the course of time.
use Rattle.std.specs.Prelude.{◌≡◌, ◌⊎◌, ◌≤◌, List, [], ◌∷◌, Some, None, IsSome, slice_set}
use Rattle.slot_arena.specs.declared.key.Key.{Key}
use Rattle.slot_arena.specs.Arena.{Arena, found, Takes, Returns}

module _ {T : Type 0} where
  -- the key names another value
  abbrev pub with_value : Arena T → Key → T → Arena T
  with_value a key value = record a { held = slice_set a.held key.slot (Some (key.generation, value)) }

  -- the take of a key is past, and it names nothing
  pub record IsOver (key : Key) (a : Arena T) : Type 0 where
    pub past : key.generation ≤ a.taken
    pub gone : found a key ≡ None

  -- a value is taken in, or one that is held is given back or changed
  abbrev pub Steps : Arena T → Arena T → Type 0
  Steps old new =
      ((key : Key) × (value : T) × Takes old new key value)
      ⊎ (((key : Key) × IsSome (found old key) × Returns old new key)
      ⊎ ((key : Key) × (value : T) × IsSome (found old key) × (new ≡ with_value old key value)))

  -- each of these comes of the one before by a step
  abbrev pub Leads : Arena T → List (Arena T) → Type 0
  Leads a [] = Unit {0}
  Leads a (b ∷ later) = Steps a b × Leads b later
