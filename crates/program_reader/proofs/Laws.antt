-- What is so of each program that is told: it is well typed, its event types can be read in event files, and its monitors are few.
use Rattle.std.proofs.Common.{◌≡◌, ℕ, ◌≤◌, List, length, sym, ◌∙◌, ap, subst, Result, Ok, Err, IfOk}
use Rattle.epl_tree.specs.declared.unit.Unit.{Unit as Tree}
use Rattle.evt_text.specs.Forms.{HasNames, AreEventTypes}
use Rattle.type_table.specs.Gathers.{numbers}
use Rattle.type_table.specs.Kinds.{declarations_of, kinds_of}
use Rattle.typed_program.specs.declared.program.Program.{Program}
use Rattle.typed_program.specs.Typed.{Typed}
use Rattle.stmt_check.specs.Programs.{IsProgram as IsTyped}
use Rattle.program_reader.specs.declared.fault.ProgramFault.{ProgramFault}
use Rattle.epl_syntax.specs.Trees.{AreTrees}
use Rattle.program_reader.specs.Steps.{ProgramTold}
use Rattle.program_reader.proofs.Named.{units_named}
use Rattle.program_reader.proofs.Types.{types_named, few_monitors, are_event_types}

-- the names of the event types of files are spelled as names
named_types : (texts : List (List ℕ)) (trees : List Tree) (p : Program) → AreTrees texts trees → IsTyped trees p → HasNames p.types
named_types texts trees p are k =
    let types : p.types ≡ k.table.types = ap (λ (q : Program). q.types) k.program_is in
    subst HasNames (sym (types ∙ k.is_table.types)) (types_named (numbers (kinds_of trees)) (declarations_of trees) (units_named texts trees are))

pub told_typed : (trees : List Tree) (r : Result Program ProgramFault) → ProgramTold trees r → IfOk r Typed
told_typed trees (Ok p) t = t.1
told_typed trees (Err why) t = record {}

pub told_types : (texts : List (List ℕ)) (trees : List Tree) (r : Result Program ProgramFault) → AreTrees texts trees → ProgramTold trees r → IfOk r (λ p. AreEventTypes p.types)
told_types texts trees (Ok p) are t = are_event_types p t.1 (named_types texts trees p are t.0)
told_types texts trees (Err why) are t = record {}

pub told_monitors : (trees : List Tree) (r : Result Program ProgramFault) → ProgramTold trees r → IfOk r (λ p. length p.monitors ≤ 65535)
told_monitors trees (Ok p) t = few_monitors p t.1
told_monitors trees (Err why) t = record {}
