use Rattle.std.proofs.Common.{◌≡◌, Some, None, ap, refl, subst, sym, ◌∙◌}
use Rattle.std.specs.Prelude.{slice_get}
use Rattle.std.proofs.lemmas.Option.{slice_get_past, slice_get_read}
use Rattle.value_steps.specs.Orderly.{IsOrderly}
use Rattle.value_steps.proofs.Called.{none_orderly}
use Rattle.path_bases.proofs.Lent.{local_missing, local_orderly}
use Rattle.path_bases.proofs.locals.local_base.Goals as goal

pub returns-in-Some-clause-order : goal.returns-in-Some-clause-order
returns-in-Some-clause-order c =
    let here : slice_get c.as_slice.result.now c.args.number ≡ Some c.in-Some.got.now = slice_get_read _ _ _ _ refl c.in-Some.ensures.lookup.3.0 c.in-Some.ensures.lookup.1 in
    let there : slice_get c.args.locals.now c.args.number ≡ Some c.in-Some.got.now = ap (λ xs. slice_get xs c.args.number) (sym c.as_slice.ensures) ∙ here in
    subst IsOrderly (sym c.seen.ensures) (local_orderly c.args.locals.now c.args.number c.in-Some.got.now c.requires there)

pub returns-in-None-clause-stands : goal.returns-in-None-clause-stands
returns-in-None-clause-stands c = λ globals.
    let there : slice_get c.args.locals.now c.args.number ≡ None = ap (λ xs. slice_get xs c.args.number) (sym c.as_slice.ensures) ∙ slice_get_past _ _ c.in-None.ensures.lookup.3 in
    local_missing c.args.locals.now c.args.number there

pub returns-in-None-clause-order : goal.returns-in-None-clause-order
returns-in-None-clause-order c = none_orderly
