use Rattle.std.proofs.Common.{◌≡◌, ◌-◌, arith, ap, [], ◌∙◌}
use Rattle.evt_text.specs.Reading.{put_in}
use Rattle.evt_text.proofs.Cases.{with_front-nil}
use Rattle.evt_text.proofs.Nesting.{value_from-zero, value_from-suc, past-types}
use Rattle.evt_text.proofs.Lists.{passes_err, reads_err, list-none, list-begun, items-stopped, items-end, more-made, all-made, none-made, none-put, more-put, all-put, none-ascend}
use Rattle.evt_text.proofs.values.+values.Goals as goal

pub formed-returns-then-at-len : goal.formed-returns-then-at-len
formed-returns-then-at-len t c = past-types _ _ _ _ _ _ c.in-Event.is (omega arith)

pub value-returns-then-limit-eq0 : goal.value-returns-then-limit-eq0
value-returns-then-limit-eq0 t c = value_from-zero _ _ _ _ c.if-limit-eq0.true

pub value-returns : goal.value-returns
value-returns t c = rw (value_from-suc c.args.limit c.args.types.now _ _ (omega arith)) c.formed.ensures

pub entries-returns-in_err-opens : goal.entries-returns-in_err-opens
entries-returns-in_err-opens t c = passes_err _ _ _ _ _ (λ e. ap (put_in []) (list-none _ _ _ _ _ e)) c.in_err-opens.ensures c.from_residual.ensures.1

pub entries-entries-init : goal.entries-entries-init
entries-entries-init t c = record {
  order = none-ascend _ c.new-pairs.ensures;
  reads = rw c.new-pairs.ensures (ap (put_in []) (list-begun _ _ _ _ _ _ c.in_ok-opens.ensures));
}

pub entries-returns-then-closes : goal.entries-returns-then-closes
entries-returns-then-closes t c = all-put _ _ _ _ _ _ _ _ _ c.entries-test.true c.if-closes.ensures c.entries.invariant.reads

pub entries-returns-in_err-key : goal.entries-returns-in_err-key
entries-returns-in_err-key t c =
    reads_err _ _ _ _ _ (λ e. none-put _ _ _ c.entries.invariant.reads (items-stopped _ _ _ _ _ _ _ c.entries-test.true c.if-closes.ensures e)) c.in_err-key.ensures c.from_residual-in_err-key.ensures.1

pub entries-put_entry-requires : goal.entries-put_entry-requires
entries-put_entry-requires t c = c.entries.invariant.order

pub entries-entries-preserved : goal.entries-entries-preserved
entries-entries-preserved t c = record {
  order = c.in_ok-put_entry.ensures.order;
  reads = more-put _ _ _ _ _ _ _ _ _ _ _ _ c.entries-test.true c.if-closes.ensures c.in_ok-key.ensures c.in_ok-put_entry.ensures.put c.entries.invariant.reads;
}

pub entries-returns : goal.entries-returns
entries-returns t c = let z : c.args.limit - c.entries._turn ≡ 0 = omega arith in none-put _ _ _ c.entries.invariant.reads (items-end _ _ _ _ _ _ z)

pub items-returns-in_err-opens : goal.items-returns-in_err-opens
items-returns-in_err-opens t c = passes_err _ _ _ _ _ (λ e. list-none _ _ _ _ _ e) c.in_err-opens.ensures c.from_residual.ensures.1

pub items-items-init : goal.items-items-init
items-items-init t c = rw c.new-values.ensures (with_front-nil _ ∙ list-begun _ _ _ _ _ _ c.in_ok-opens.ensures)

pub items-returns-then-closes : goal.items-returns-then-closes
items-returns-then-closes t c = all-made _ _ _ _ _ _ _ _ _ c.items-test.true c.if-closes.ensures c.items.invariant

pub items-returns-in_err-value : goal.items-returns-in_err-value
items-returns-in_err-value t c =
    reads_err _ _ _ _ _ (λ e. none-made _ _ _ c.items.invariant (items-stopped _ _ _ _ _ _ _ c.items-test.true c.if-closes.ensures e)) c.in_err-value.ensures c.from_residual-in_err-value.ensures.1

pub items-items-preserved : goal.items-items-preserved
items-items-preserved t c = more-made _ _ _ _ _ _ _ _ _ _ _ _ c.items-test.true c.if-closes.ensures c.in_ok-value.ensures c.in_ok-push.ensures.ok c.items.invariant

pub items-returns : goal.items-returns
items-returns t c = let z : c.args.limit - c.items._turn ≡ 0 = omega arith in none-made _ _ _ c.items.invariant (items-end _ _ _ _ _ _ z)
