use Rattle.std.proofs.Common.{◌≡◌, ◌+◌, ◌≤◌, drop}
use Rattle.body_meaning.specs.Values.{characters}
use Rattle.value_steps.proofs.texts.characters.Given as goal

abbrev pub invariant-loop-byte : goal.invariant-loop-byte
invariant-loop-byte l = record {
  count : l.count + characters (drop l.byte-index l.text) ≡ characters l.text;
  few : l.count ≤ l.byte-index;
}
