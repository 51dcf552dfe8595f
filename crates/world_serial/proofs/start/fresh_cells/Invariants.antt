use Rattle.std.proofs.Common.{◌≡◌, All}
use Rattle.typed_program.specs.declared.program.Program.{Program}
use Rattle.context_core.specs.Cells.{Rests}
use Rattle.world_serial.specs.Serial.{fresh_parts}
use Rattle.world_serial.proofs.start.fresh_cells.Given as goal

abbrev pub invariant-slots : goal.invariant-slots
invariant-slots l = record {
  fresh : l.cells.items ≡ fresh_parts l.settings l.slot;
  rests : (p : Program) → All (Rests p) l.cells.items;
}
