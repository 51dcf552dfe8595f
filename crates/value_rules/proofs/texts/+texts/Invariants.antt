use Rattle.std.proofs.Common.{◌≡◌, ◌++◌, ◌==◌, map, take}
use Rattle.value_rules.specs.Texts.{pair_text, text_in, with_commas}
use Rattle.value_rules.proofs.texts.+texts.Given as goal

abbrev pub invariant-push_values-loop-value : goal.invariant-push_values-loop-value
invariant-push_values-loop-value l = record {
  made : l.out ≡ l.fn.out ++ with_commas (map (text_in l.types) (take l.value-index l.values));
  front : l.first ≡ (l.value-index == 0);
}

abbrev pub invariant-push_items-loop-at : goal.invariant-push_items-loop-at
invariant-push_items-loop-at l = record {
  made : l.out ≡ l.fn.out ++ with_commas (map (text_in l.types) (take l.at l.items));
  front : l.first ≡ (l.at == 0);
}

abbrev pub invariant-push_pairs-loop-at : goal.invariant-push_pairs-loop-at
invariant-push_pairs-loop-at l = record {
  made : l.out ≡ l.fn.out ++ with_commas (map (pair_text l.types) (take l.at l.pairs));
  front : l.first ≡ (l.at == 0);
}
