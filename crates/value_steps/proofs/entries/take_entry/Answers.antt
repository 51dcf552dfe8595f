use Rattle.std.proofs.Common.{slice_set, subst, sym}
use Rattle.epl_values.specs.Order.{KeysAscend}
use Rattle.epl_values.specs.declared.value.Value.TheVariants.{NoContext}
use Rattle.body_meaning.specs.Paths.{entry}
use Rattle.value_steps.proofs.Ascending.{ascend_set}
use Rattle.value_steps.proofs.entries.take_entry.Goals as goal

pub set-requires-clause-order : goal.set-requires-clause-order
set-requires-clause-order c = subst (λ k. KeysAscend (slice_set c.args.pairs.now c.args.at (entry k NoContext))) (sym c.in_ok-key.ensures) (ascend_set c.args.pairs.now c.args.at c.get.result.now NoContext c.get.ensures.item c.requires.order)
