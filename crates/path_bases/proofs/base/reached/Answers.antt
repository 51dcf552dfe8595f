use Rattle.std.proofs.Common.{◌≡◌, Some, None, ap, refl, sym, ◌∙◌}
use Rattle.std.specs.Prelude.{slice_get}
use Rattle.std.proofs.lemmas.Option.{slice_get_past, slice_get_read}
use Rattle.value_steps.specs.Parts.{followed}
use Rattle.path_bases.specs.Bases.{followed_from}
use Rattle.path_bases.proofs.Reached.{shown_orderly}
use Rattle.path_bases.proofs.base.reached.Goals as goal

pub returns-in-Some-clause-order : goal.returns-in-Some-clause-order
returns-in-Some-clause-order c =
    let here : slice_get c.as_slice.result.now c.args.number ≡ Some c.in-Some.value.now = slice_get_read _ _ _ _ refl c.in-Some.ensures.lookup.3.0 c.in-Some.ensures.lookup.1 in
    let there : slice_get c.args.globals.now c.args.number ≡ Some c.in-Some.value.now = ap (λ xs. slice_get xs c.args.number) (sym c.as_slice.ensures) ∙ here in
    shown_orderly c.args.globals.now c.args.number c.args.moves.now c.follow.result c.requires (c.follow.ensures ∙ ap (λ ms. followed ms c.in-Some.value.now) c.as_slice-in-Some.ensures ∙ ap (followed_from c.args.moves.now) (sym there))

pub returns-in-None-clause-value : goal.returns-in-None-clause-value
returns-in-None-clause-value c =
    let there : slice_get c.args.globals.now c.args.number ≡ None = ap (λ xs. slice_get xs c.args.number) (sym c.as_slice.ensures) ∙ slice_get_past _ _ c.in-None.ensures.lookup.3 in
    sym (ap (followed_from c.args.moves.now) there)
