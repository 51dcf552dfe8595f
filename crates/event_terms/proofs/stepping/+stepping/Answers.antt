use Rattle.std.proofs.Common.{rules, ◌≡◌, ◌<◌, ◌≤◌, ◌+◌, length, slice_get, slice_index_or, Some, sym, ap, ◌∙◌, subst}
use Rattle.std.proofs.lemmas.Option.{get_or_from_slice_get}
use Rattle.term_meaning.specs.declared.progress.Progress.{the_lemmas}
use Rattle.term_meaning.specs.Step.{step_of}
use Rattle.event_terms.specs.Parts.{form_pattern}
use Rattle.event_terms.specs.Settings.{setting_at}
use Rattle.event_terms.proofs.Running.{Goes, at_same, goes_end, goes_more}
use Rattle.event_terms.proofs.stepping.+stepping.Goals as goal

pub run-step-requires : goal.run-step-requires
run-step-requires t c =
    let known : slice_get c.args.copies c.copies.at ≡ Some c.set-bindings.result =
    at_same c.copies.ran.copies c.args.copies c.copies.at c.set-bindings.result c.copies.invariant.rest c.set-bindings.ensures.old in
    let inside : c.copies.at < length c.args.copies = subst (λ n. c.copies.at < n) c.len-count.ensures.count c.copies-test.true in
    let item : slice_index_or c.args.copies c.copies.at c.set-bindings.result ≡ c.set-bindings.result =
    get_or_from_slice_get c.args.copies c.copies.at c.set-bindings.result c.set-bindings.result known in
    search (rules, the_lemmas)

pub run-copies-preserved : goal.run-copies-preserved
run-copies-preserved t c =
    subst (Goes (setting_at c.args.moment.now) c.args.moment.now.stimulus.now (form_pattern c.args.part) c.args.seen.now c.args.copies c.args.next (c.copies.at + 1)) (sym c.in_ok-ran.ensures)
    (
    goes_more (setting_at c.args.moment.now) c.args.moment.now.stimulus.now (form_pattern c.args.part) c.args.seen.now c.args.copies c.args.next c.copies.at c.copies.ran c.set-bindings.new.self
    c.set-bindings.result _ c.in_ok-a.a c.copies.invariant (subst (λ n. c.copies.at < n) c.len-count.ensures.count c.copies-test.true) c.set-bindings.ensures.old c.set-bindings.ensures.new
    (
    c.in_ok-a.ensures
    ∙ ap (λ b. step_of (setting_at c.args.moment.now) c.args.moment.now.stimulus.now c.set-bindings.result.progress (form_pattern c.args.part) b c.copies.ran.next) c.as_slice.ensures
    )
    )

pub run-returns : goal.run-returns
run-returns t c =
    goes_end (setting_at c.args.moment.now) c.args.moment.now.stimulus.now (form_pattern c.args.part) c.args.seen.now c.args.copies c.args.next c.copies.at c.copies.ran c.copies.invariant
    (subst (λ n. n ≤ c.copies.at) c.len-count.ensures.count c.copies-test.false)
