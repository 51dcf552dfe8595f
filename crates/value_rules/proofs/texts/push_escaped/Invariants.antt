use Rattle.std.proofs.Common.{◌≡◌, ◌≤◌, ◌++◌, length, slice_range, take}
use Rattle.std.specs.Str.{IsCharBoundary}
use Rattle.std.specs.List.{flat_map}
use Rattle.value_rules.specs.Texts.{escaped}
use Rattle.value_rules.proofs.texts.push_escaped.Given as goal

abbrev pub invariant-loop-at : goal.invariant-loop-at
invariant-loop-at l = record {
  behind : l.from ≤ l.at;
  within : l.at ≤ length l.text;
  edge : IsCharBoundary l.text l.from;
  made : l.out ++ slice_range l.text l.from l.at ≡ l.fn.out ++ flat_map escaped (take l.at l.text);
}
