use Rattle.std.proofs.Common.{sym, subst}
use Rattle.term_meaning.specs.declared.progress.Started.{Started}
use Rattle.term_meaning.specs.Waits.{GoesOn}
use Rattle.term_meaning.proofs.Keeping.{begun_goes}
use Rattle.event_terms.proofs.state.State.start.Goals as goal

pub invariant_of-result : goal.invariant_of-result
invariant_of-result c = subst GoesOn (sym c.into_inner.ensures) (subst (λ (b : Started). GoesOn b.progress) (sym c.in_ok-begun.ensures) (begun_goes _ _ _ _))

pub returns-clause-goes : goal.returns-clause-goes
returns-clause-goes c = subst GoesOn (sym c.into_inner.ensures) (subst (λ (b : Started). GoesOn b.progress) (sym c.in_ok-begun.ensures) (begun_goes _ _ _ _))
