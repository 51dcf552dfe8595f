use Rattle.std.proofs.Common.{◌≡◌}
use Rattle.value_steps.proofs.Cutting.{Cut}
use Rattle.value_steps.proofs.texts.start_of.Given as goal

abbrev pub invariant-loop-byte : goal.invariant-loop-byte
invariant-loop-byte l = record {
  place : l.at ≡ l.byte-index;
  cut : Cut l.text l.number l.byte-index l.before;
}
