-- Parts in a row: the faults of one, and then those of what is made of it.
use Rattle.std.specs.Prelude.{ℕ, List, [], ◌∷◌, ◌++◌, Option, Some, None, nat_le, if◌then◌else◌}
use Rattle.span_text.specs.declared.spot.Spot.{Spot}
use Rattle.type_table.specs.Found.{Found, told, least}

-- a part without faults
abbrev pub sound : {A : Type 0} → A → Found A
sound part = record { faults = []; part = part }

-- a part, and what is made of it
unfoldable pub and_then : {A B : Type 0} → Found A → (A → Found B) → Found B
and_then found made = record { faults = found.faults ++ (made found.part).faults; part = (made found.part).part }

-- the items of a list in order, each with what was made of those before it
unfoldable pub through : {A C : Type 0} → (C → A → Found C) → C → List A → Found C
through step made [] = sound made
through step made (item ∷ items) = and_then (step made item) (λ next. through step next items)

-- a node: the least of its codes, if it has one
abbrev pub node : {A : Type 0} → Spot → List ℕ → A → Found A
node spot codes part = record { faults = told spot codes; part = part }

-- the least of a node's codes, if it has one
abbrev pub lowest : List ℕ → Option ℕ
lowest [] = None
lowest (code ∷ codes) = Some (least code codes)

-- the lower of two codes, if they are there
abbrev pub lower : Option ℕ → Option ℕ → Option ℕ
lower None other = other
lower (Some code) None = Some code
lower (Some code) (Some other) = Some (if nat_le other code then other else code)

-- a code, if it is there
abbrev pub codes_of : Option ℕ → List ℕ
codes_of None = []
codes_of (Some code) = code ∷ []
