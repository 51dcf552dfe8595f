use Rattle.std.proofs.Common.{◌≡◌, ◌∙◌, ap, OnOk, subst}
use Rattle.evt_text.specs.Entries.{place_in}
use Rattle.evt_text.proofs.Ascending.{again_replaced, ascend_again, ascend_inserted, ordered_on_ok, with_inserted}
use Rattle.evt_text.proofs.entries.put_entry.Goals as goal

pub insert-requires-clause-order : goal.insert-requires-clause-order
insert-requires-clause-order c =
    ascend_again c.args.key c.args.value c.args.pairs.now c.remove-key.new.self c.in-Ok.at c.remove-key.result c.requires c.in-Ok.ensures.value c.remove-key.ensures.item c.remove-key.ensures.rest

pub insert-requires-in-Err-clause-order : goal.insert-requires-in-Err-clause-order
insert-requires-in-Err-clause-order c = ascend_inserted c.args.key c.args.value c.args.pairs.now c.in-Err.at c.requires c.in-Err.ensures.value

pub returns-in-Ok-clause-put : goal.returns-in-Ok-clause-put
returns-in-Ok-clause-put c =
    subst (λ xs. OnOk c.insert.result (c.insert.new.self ≡ xs))
    (again_replaced c.args.key c.args.value c.args.pairs.now c.remove-key.new.self c.in-Ok.at c.remove-key.result c.in-Ok.ensures.value c.remove-key.ensures.item c.remove-key.ensures.rest)
    c.insert.ensures.ok

pub returns-in-Ok-clause-order : goal.returns-in-Ok-clause-order
returns-in-Ok-clause-order c =
    ordered_on_ok c.insert.result c.insert.new.self _ c.insert.ensures.ok
    (ascend_again c.args.key c.args.value c.args.pairs.now c.remove-key.new.self c.in-Ok.at c.remove-key.result c.requires c.in-Ok.ensures.value c.remove-key.ensures.item c.remove-key.ensures.rest)

pub returns-in-Err-clause-put : goal.returns-in-Err-clause-put
returns-in-Err-clause-put c =
    subst (λ xs. OnOk c.insert-in-Err.result (c.insert-in-Err.new.self ≡ xs))
    (with_inserted c.args.key c.args.value c.args.pairs.now c.in-Err.at c.in-Err.ensures.value) c.insert-in-Err.ensures.ok

pub returns-in-Err-clause-order : goal.returns-in-Err-clause-order
returns-in-Err-clause-order c =
    ordered_on_ok c.insert-in-Err.result c.insert-in-Err.new.self _ c.insert-in-Err.ensures.ok
    (ascend_inserted c.args.key c.args.value c.args.pairs.now c.in-Err.at c.requires c.in-Err.ensures.value)
