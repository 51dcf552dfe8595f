use Rattle.program_reader.proofs.Laws.{told_types, told_monitors, told_typed}
use Rattle.program_reader.proofs.Telling.{program_told, refused_told}
use Rattle.program_reader.proofs.program.program_from.Goals as goal

pub returns-clause-program : goal.returns-clause-program
returns-clause-program c = program_told c.args.texts.now c.in_ok-units.units c.in_ok-units.ensures.told c.program_of.result c.program_of.ensures

pub returns-clause-typed : goal.returns-clause-typed
returns-clause-typed c = told_typed c.in_ok-units.units c.program_of.result c.program_of.ensures

pub returns-clause-types : goal.returns-clause-types
returns-clause-types c = told_types c.args.texts.now c.in_ok-units.units c.program_of.result c.in_ok-units.ensures.told.0 c.program_of.ensures

pub returns-clause-monitors : goal.returns-clause-monitors
returns-clause-monitors c = told_monitors c.in_ok-units.units c.program_of.result c.program_of.ensures

pub returns-in_err-units-clause-program : goal.returns-in_err-units-clause-program
returns-in_err-units-clause-program c = refused_told c.args.texts.now _ _ c.from_residual.ensures.1 c.in_err-units.ensures.told
