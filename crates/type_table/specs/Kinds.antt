-- The event types of a program: of two of one name the first counts.
use Rattle.std.specs.Prelude.{ℕ, List, [], ◌∷◌, ◌++◌, Option, Some, None, map, slice_get, if◌then◌else◌}
use denote.Ref.{Bor}
use Rattle.epl_tree.specs.declared.unit.Unit.{Unit as File}
use Rattle.epl_tree.specs.declared.unit.EventDecl.{EventDecl}
use Rattle.epl_tree.specs.declared.unit.FieldDecl.{FieldDecl}
use Rattle.epl_tree.specs.declared.unit.Declaration.{Declaration}
use Rattle.epl_tree.specs.declared.unit.Declaration.TheVariants as declaration
use Rattle.type_table.specs.Names.{number_in, has_name}

-- the declarations of all files, in order
abbrev pub declarations_of : List File → List Declaration
declarations_of [] = []
declarations_of (u ∷ us) = u.declarations ++ declarations_of us

abbrev pub names_of : List EventDecl → List (List ℕ)
names_of = map (λ e. e.name.text)

-- event types with one more, if it is the first of its name
abbrev pub with_kind : List EventDecl → EventDecl → List EventDecl
with_kind kinds e = if has_name (names_of kinds) e.name.text then kinds else kinds ++ e ∷ []

abbrev pub kind_step : List EventDecl → Declaration → List EventDecl
kind_step kinds (declaration.Event e) = with_kind kinds e
kind_step kinds (declaration.Monitor m) = kinds

-- event types with those of declarations
abbrev pub kinds_after : List EventDecl → List Declaration → List EventDecl
kinds_after kinds [] = kinds
kinds_after kinds (d ∷ ds) = kinds_after (kind_step kinds d) ds

-- the event types of a program; the number of one is its place here
abbrev pub kinds_of : List File → List EventDecl
kinds_of units = kinds_after [] (declarations_of units)

abbrev pub found_at : List EventDecl → Option ℕ → Option EventDecl
found_at kinds None = None
found_at kinds (Some n) = slice_get kinds n

-- the event type of a name
abbrev pub event_named : List EventDecl → List ℕ → Option EventDecl
event_named kinds name = found_at kinds (number_in (names_of kinds) name)

-- the event types behind references
abbrev pub trees : List (Bor EventDecl) → List EventDecl
trees = map (λ r. r.now)
