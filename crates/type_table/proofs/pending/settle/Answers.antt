use Rattle.std.proofs.Common.{refl, sym, ◌∙◌, ap, ◌≡◌, Some, slice_get}
use Rattle.std.proofs.lemmas.Option.{slice_get_read}
use Rattle.type_table.proofs.Settled.{settled_here}
use Rattle.type_table.proofs.pending.settle.Goals as goal

pub returns : goal.returns
returns c =
    let here : slice_get c.deref.result.now c.args.number ≡ Some c.in-Some.event.now = slice_get_read _ _ _ _ refl c.in-Some.ensures.lookup.3.0 c.in-Some.ensures.lookup.1 in
    let at : slice_get c.args.kinds.now.decls.items c.args.number ≡ Some c.in-Some.event.now = ap (λ xs. slice_get xs c.args.number) (sym c.deref.ensures.value) ∙ here in
    rw c.mark.ensures (settled_here c.args.kinds.now.decls.items c.args.kinds.now.names c.args.table.items _ _ c.args.number c.in-Some.event.now c.args.kinds.now.named c.requires at c.as_slice.ensures.value c.as_slice-else-not-entry.ensures.value c.if-not-entry.ensures c.if-begins.ensures)
