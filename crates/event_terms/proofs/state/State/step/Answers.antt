use Rattle.std.proofs.Common.{◌≡◌, false, refl, sym, ap, ◌∙◌, subst}
use Rattle.std.proofs.lemmas.Bool.{false≢true}
use Rattle.term_meaning.specs.declared.progress.Stepped.{Stepped}
use Rattle.term_meaning.specs.Active.{Idle, fitted}
use Rattle.term_meaning.specs.Waits.{GoesOn}
use Rattle.term_meaning.proofs.Fitted.{fitted_told}
use Rattle.term_meaning.proofs.Idling.{nothing_waits}
use Rattle.term_meaning.proofs.Keeping.{gone_goes, steps_go}
use Rattle.event_terms.specs.States.{SiteExpression, Steps}
use Rattle.event_terms.proofs.Told.{still_fitted, still_steps}
use Rattle.event_terms.proofs.state.State.step.Goals as goal

pub returns-then-not-waits_in-clause-steps : goal.returns-then-not-waits_in-clause-steps
returns-then-not-waits_in-clause-steps c =
    subst (λ (old : SiteExpression). Steps c.args.program.now c.args.stimulus.now c.args.now old (record { completions = c.new.result; ended = c.is_gone.result; fitted = false; begun = 0 }) old) c.self.view_is
    (
    still_steps c.args.program.now c.args.stimulus.now c.args.now
    (record { site = c.self.inside.site; expression = record { operands = c.self.inside.operands; progress = c.self.inside.progress; next = c.self.inside.next } })
    (record { completions = c.new.result; ended = c.is_gone.result; fitted = false; begun = 0 })
    c.self.invariant (sym c.waits_in.ensures ∙ c.if-not-waits_in.true) c.new.ensures c.is_gone.ensures refl refl
    )

pub returns-then-not-waits_in-clause-fitted : goal.returns-then-not-waits_in-clause-fitted
returns-then-not-waits_in-clause-fitted c =
    subst (λ (old : SiteExpression). false ≡ fitted old.expression.progress c.args.stimulus.now) c.self.view_is
    (
    still_fitted c.args.program.now c.args.stimulus.now c.args.now
    (record { site = c.self.inside.site; expression = record { operands = c.self.inside.operands; progress = c.self.inside.progress; next = c.self.inside.next } })
    c.get-found.result.now c.self.invariant (sym c.waits_in.ensures ∙ c.if-not-waits_in.true)
    )

pub invariant_of-self : goal.invariant_of-self
invariant_of-self c = subst GoesOn (sym c.replace-progress.ensures.after) gone_goes

pub invariant_of-self-in_default : goal.invariant_of-self-in_default
invariant_of-self-in_default c = subst GoesOn (sym c.replace-progress.ensures.after) gone_goes

pub invariant_of-self-2 : goal.invariant_of-self-2
invariant_of-self-2 c = subst (λ (a : Stepped). GoesOn a.left) (sym c.in_ok-stepped.ensures) (steps_go _ _ _ _ _ _ (subst GoesOn (sym c.replace-progress.ensures.value) c.self.invariant))

pub returns-clause-fitted : goal.returns-clause-fitted
returns-clause-fitted c =
    ap (λ (a : Stepped). a.fitted) c.in_ok-stepped.ensures
    ∙ fitted_told _ _ _ _ _ _
    ∙ ap (λ x. fitted x c.args.stimulus.now) c.replace-progress.ensures.value
    ∙ ap (λ (v : SiteExpression). fitted v.expression.progress c.args.stimulus.now) c.self.view_is

pub returns-clause-still : goal.returns-clause-still
returns-clause-still c = λ idle.
    absurd
    (
    false≢true
    (
    sym (nothing_waits c.self.inside.progress c.args.stimulus.now (subst (λ (v : SiteExpression). Idle v.expression.progress c.args.stimulus.now) (sym c.self.view_is) idle))
    ∙ sym c.waits_in.ensures
    ∙ c.if-not-waits_in.false
    )
    )

pub returns-clause-goes : goal.returns-clause-goes
returns-clause-goes c = subst (λ (a : Stepped). GoesOn a.left) (sym c.in_ok-stepped.ensures) (steps_go _ _ _ _ _ _ (subst GoesOn (sym c.replace-progress.ensures.value) c.self.invariant))
