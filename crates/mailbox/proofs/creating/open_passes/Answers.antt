use Rattle.std.proofs.Common.{◌+◌, ap, sym, ◌∙◌, subst, length, length-append}
use Rattle.mailbox.specs.Passes.{IsOwn, Fresh}
use Rattle.mailbox.specs.declared.passes.SendPass.{SendPass}
use Rattle.mailbox.proofs.PassLists.{fresh_more}
use Rattle.mailbox.proofs.creating.open_passes.Goals as goal

pub loop-sender-preserved : goal.loop-sender-preserved
loop-sender-preserved g c =
    let kept = c.loop-sender.invariant in
    let made = c.open_pass-pass.ensures in
    let pushed = c.in_ok-push.ensures.ok in
    let one : SendPass g.row.E.Denot = record { pass = c.open_pass-pass.result } in
    let own : IsOwn c.args.queue.now (length c.loop-sender.passes) one.pass = ((made.passes.1, ap (λ v. v.sends) made.views.1), ap (λ v. v.number) made.views.1 ∙ kept.1 ∙ sym kept.4) in (
      (made.passes.0, ap (λ v. v.takes) made.views.0 ∙ kept.0.1),
      ap (λ v. v.opened) made.views.0 ∙ ap (λ n. n + 1) kept.1,
      ap (λ v. v.entries) made.views.0 ∙ kept.2,
      ap (λ v. v.handed) made.views.0 ∙ kept.3,
      ap length pushed ∙ length-append _ _ ∙ ap (λ n. n + 1) kept.4,
      subst (λ l. Fresh c.args.queue.now l) (sym pushed) (fresh_more c.args.queue.now c.loop-sender.passes one kept.5 own (ap (λ v. v.entries) made.views.1)),
    )
