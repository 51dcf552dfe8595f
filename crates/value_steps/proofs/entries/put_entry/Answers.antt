use Rattle.std.proofs.Common.{◌≡◌, OnOk, subst}
use Rattle.epl_values.specs.declared.value.Value.TheVariants.{NoContext}
use Rattle.value_steps.proofs.Ascending.{ascend_inserted, with_inserted}
use Rattle.value_steps.proofs.Left.{order_back, put_back}
use Rattle.value_steps.proofs.entries.put_entry.Goals as goal

pub set-hole-requires-clause-order : goal.set-hole-requires-clause-order
set-hole-requires-clause-order c = order_back c.args.pairs.now c.take_entry.new.pairs c.in-Ok.at c.in_ok-key-in-Ok.field-0 NoContext c.args.value c.in_ok-key-in-Ok.ensures.taken c.in_ok-key-in-Ok.ensures.left c.requires

pub insert-requires-clause-order : goal.insert-requires-clause-order
insert-requires-clause-order c = ascend_inserted c.args.key c.args.value c.args.pairs.now c.in-Err.at c.requires c.in-Err.ensures.value

pub returns-in_ok-key-in-Ok-clause-ok : goal.returns-in_ok-key-in-Ok-clause-ok
returns-in_ok-key-in-Ok-clause-ok c = put_back c.args.key c.args.pairs.now c.take_entry.new.pairs c.set-hole.new.self c.in-Ok.at c.in_ok-key-in-Ok.field-0 NoContext c.args.value c.in-Ok.ensures.value c.in_ok-key-in-Ok.ensures.taken c.in_ok-key-in-Ok.ensures.left c.set-hole.ensures.new

pub returns-in-Err-clause-ok : goal.returns-in-Err-clause-ok
returns-in-Err-clause-ok c = subst (λ xs. OnOk c.insert.result (c.insert.new.self ≡ xs)) (with_inserted c.args.key c.args.value c.args.pairs.now c.in-Err.at c.in-Err.ensures.value) c.insert.ensures.ok
