use Rattle.value_steps.specs.Orderly.{AreOrderlyMoves}
use Rattle.part_rows.proofs.reader.Reader.moves.Given as goal

abbrev pub invariant-steps : goal.invariant-steps
invariant-steps l = AreOrderlyMoves l.moves
