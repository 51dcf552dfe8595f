use Rattle.std.proofs.Common.{arith, ◌≡◌, ◌-◌, None, Some, refl, sym, ap, subst, ◌∙◌}
use Rattle.std.specs.Prelude.{slice_get}
use Rattle.std.proofs.lemmas.Option.{slice_get_past, slice_get_read}
use Rattle.body_meaning.specs.Acts.{enter}
use Rattle.value_steps.proofs.Called.{none_orderly}
use Rattle.path_bases.specs.Locals.{values_in}
use Rattle.path_bases.specs.Tells.{Tells}
use Rattle.walk_laws.proofs.Telling.{tells_err}
use Rattle.walk_laws.proofs.Entering.{tells_too_deep, tells_enter_unpaid, tells_enter_none, tells_enter, tells_enter_err}
use Rattle.call_walker.proofs.calls.+enter.Goals as goal

pub returns-then-depth-eq0-clause-means : goal.returns-then-depth-eq0-clause-means
returns-then-depth-eq0-clause-means g t c = λ outer. rw c.from.ensures (tells_too_deep c.args.program.now c.args.depth c.args.number (values_in c.args.arguments) _ _ c.if-depth-eq0.true)

pub returns-in_err-pay-clause-means : goal.returns-in_err-pay-clause-means
returns-in_err-pay-clause-means g t c = λ outer. tells_err _ c.from_residual.ensures.1 (tells_enter_unpaid c.args.program.now c.args.depth c.args.number (values_in c.args.arguments) (omega arith) (c.in_err-pay.ensures.means _))

pub returns-in_default-clause-means : goal.returns-in_default-clause-means
returns-in_default-clause-means g t c = λ outer.
    let there : slice_get c.args.program.now.actions c.args.number ≡ None = ap (λ xs. slice_get xs c.args.number) (sym c.as_slice.ensures) ∙ slice_get_past _ _ c.in_default.ensures.lookup.3 in
    tells_enter_none c.args.program.now c.args.depth c.args.number (values_in c.args.arguments) (omega arith) there (c.in_ok-pay.ensures.means _)

pub returns-in_default-clause-order : goal.returns-in_default-clause-order
returns-in_default-clause-order g t c = none_orderly

pub over-requires-clause-calls : goal.over-requires-clause-calls
over-requires-clause-calls g t c = record {
  callable = λ alloc program n args globals host og oa. (omega arith, (λ a m. m, (og, oa)));
  does = λ alloc program n args globals globals' host host' r same met outer. subst (λ p. Tells (enter p (c.args.depth - 1) n (values_in args)) (g.H.Host.told host.now) (record { globals = globals.now; locals = outer }) (g.H.Host.told host'.now) (record { globals = globals'.now; locals = outer }) r) same (met.2.0 outer);
  keeps = λ alloc program n args globals globals' host host' r met. met.2.1;
}

pub returns-in_err-value-clause-means : goal.returns-in_err-value-clause-means
returns-in_err-value-clause-means g t c = λ outer.
    let here : slice_get c.as_slice.result.now c.args.number ≡ Some c.in-Some.action.now = slice_get_read _ _ _ _ refl c.in-Some.ensures.lookup.3.0 c.in-Some.ensures.lookup.1 in
    let there : slice_get c.args.program.now.actions c.args.number ≡ Some c.in-Some.action.now = ap (λ xs. slice_get xs c.args.number) (sym c.as_slice.ensures) ∙ here in
    tells_err _ c.from_residual-in_err-value.ensures.1 (tells_enter_err c.args.program.now c.args.depth c.args.number (values_in c.args.arguments) (omega arith) c.in-Some.action.now there (c.in_ok-pay.ensures.means _) (c.in_err-value.ensures.means outer))

pub returns-clause-means : goal.returns-clause-means
returns-clause-means g t c = λ outer.
    let here : slice_get c.as_slice.result.now c.args.number ≡ Some c.in-Some.action.now = slice_get_read _ _ _ _ refl c.in-Some.ensures.lookup.3.0 c.in-Some.ensures.lookup.1 in
    let there : slice_get c.args.program.now.actions c.args.number ≡ Some c.in-Some.action.now = ap (λ xs. slice_get xs c.args.number) (sym c.as_slice.ensures) ∙ here in
    rw c.or_none.ensures.is (tells_enter c.args.program.now c.args.depth c.args.number (values_in c.args.arguments) (omega arith) c.in-Some.action.now there (c.in_ok-pay.ensures.means _) (c.in_ok-value.ensures.means outer))
