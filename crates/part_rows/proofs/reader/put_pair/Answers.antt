use Rattle.std.proofs.Common.{sym, subst}
use Rattle.epl_values.specs.Order.{KeysAscend}
use Rattle.value_steps.specs.Orderly.{AreOrderlyPairs}
use Rattle.value_steps.proofs.Ascending.{ascend_with}
use Rattle.value_steps.proofs.Kept.{with_orderly}
use Rattle.part_rows.proofs.reader.put_pair.Goals as goal

pub returns-clause-ascend : goal.returns-clause-ascend
returns-clause-ascend c = subst KeysAscend (sym c.in_ok-put_entry.ensures.ok) (ascend_with c.args.key c.args.value c.args.pairs.now c.requires.ascend)

pub returns-clause-orderly : goal.returns-clause-orderly
returns-clause-orderly c = subst AreOrderlyPairs (sym c.in_ok-put_entry.ensures.ok) (with_orderly c.args.key c.args.value c.args.pairs.now c.requires.orderly c.requires.of_key c.requires.of_value)
