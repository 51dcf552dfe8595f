-- The forms of program files that aren't built, each with the place of its file, and the first of them.
use Rattle.std.specs.Prelude.{ℕ, ◌+◌, List, [], ◌∷◌, ◌++◌, map, Option}
use Rattle.span_text.specs.declared.spot.Spot.{Spot}
use Rattle.epl_tree.specs.declared.unit.Declaration.{Declaration}
use Rattle.epl_tree.specs.declared.unit.Declaration.TheVariants as declaration
use Rattle.epl_tree.specs.declared.unit.Member.{Member}
use Rattle.epl_tree.specs.declared.unit.Member.TheVariants as member
use Rattle.epl_tree.specs.declared.unit.Unit.{Unit as Tree}
use Rattle.built_forms.specs.Rows.{joined, first_of}
use Rattle.built_forms.specs.Expressions.{Spots, missing_in_optional}
use Rattle.built_forms.specs.Statements.{missing_in_body}

-- in an initial value, or in the body of an action
abbrev pub missing_in_member : Member → Spots
missing_in_member (member.Global g) = missing_in_optional g.initial
missing_in_member (member.Action a) = missing_in_body a.body

-- event types are built
abbrev pub missing_in_declaration : Declaration → Spots
missing_in_declaration (declaration.Event e) = []
missing_in_declaration (declaration.Monitor m) = joined (map missing_in_member m.members)

-- in a file
abbrev pub missing_in_unit : Tree → Spots
missing_in_unit unit = joined (map missing_in_declaration unit.declarations)

-- a spot in the file at a place
abbrev pub in_file : ℕ → Spot → ℕ × Spot
in_file place spot = (place, spot)

-- of the files from a place on
abbrev pub missing_from : ℕ → List Tree → List (ℕ × Spot)
missing_from place [] = []
missing_from place (unit ∷ units) = map (in_file place) (missing_in_unit unit) ++ missing_from (place + 1) units

-- the place of a file and the spot in it of the first form that isn't built
abbrev pub unbuilt : List Tree → Option (ℕ × Spot)
unbuilt units = first_of (missing_from 0 units)
