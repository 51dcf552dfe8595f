-- Spots in the order of the source, and the first of them.
use Rattle.std.specs.Prelude.{List, [], ◌∷◌, ◌++◌, Option, Some, None}
use Rattle.span_text.specs.declared.spot.Spot.{Spot}

-- the spots of parts that stand in a row
abbrev pub joined : {A : Type 0} → List (List A) → List A
joined [] = []
joined (part ∷ parts) = part ++ joined parts

-- the first of a list
abbrev pub first_of : {A : Type 0} → List A → Option A
first_of [] = None
first_of (x ∷ xs) = Some x

-- what is found before, and else the first of a list
abbrev pub behind : Option Spot → List Spot → Option Spot
behind None spots = first_of spots
behind (Some spot) spots = Some spot
