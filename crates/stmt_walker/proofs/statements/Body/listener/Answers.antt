use Rattle.std.proofs.Common.{◌≡◌, Some, None, ap, refl, sym, ◌∙◌}
use Rattle.std.specs.Prelude.{slice_get}
use Rattle.std.proofs.lemmas.Option.{slice_get_past, slice_get_read}
use Rattle.epl_values.specs.declared.value.Value.TheVariants as value
use Rattle.body_meaning.specs.Acts.{enter}
use Rattle.value_steps.proofs.Called.{none_orderly}
use Rattle.walk_laws.proofs.Telling.{tells_as, tells_pure}
use Rattle.stmt_walker.proofs.Telling.{listener_is}
use Rattle.stmt_walker.proofs.statements.Body.listener.Goals as goal

pub returns-in-Some-clause-means : goal.returns-in-Some-clause-means
returns-in-Some-clause-means g c =
    let here : slice_get c.as_slice.result.now c.args.number ≡ Some c.in-Some.site.now = slice_get_read _ _ _ _ refl c.in-Some.ensures.lookup.3.0 c.in-Some.ensures.lookup.1 in
    let there : slice_get c.args.self.now.program.now.sites c.args.number ≡ Some c.in-Some.site.now = ap (λ xs. slice_get xs c.args.number) (sym c.as_slice.ensures) ∙ here in
    tells_as (listener_is c.args.self.now.program.now.types c.args.self.now.program.now.sites (enter c.args.self.now.program.now c.args.self.now.depth) c.args.number there) c.listen_at.ensures.means

pub returns-in-None-clause-means : goal.returns-in-None-clause-means
returns-in-None-clause-means g c =
    let there : slice_get c.args.self.now.program.now.sites c.args.number ≡ None = ap (λ xs. slice_get xs c.args.number) (sym c.as_slice.ensures) ∙ slice_get_past _ _ c.in-None.ensures.lookup.3 in
    tells_as (listener_is c.args.self.now.program.now.types c.args.self.now.program.now.sites (enter c.args.self.now.program.now c.args.self.now.depth) c.args.number there) (tells_pure value.NoContext _ _)

pub returns-in-None-clause-order : goal.returns-in-None-clause-order
returns-in-None-clause-order g c = none_orderly
