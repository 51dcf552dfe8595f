use Rattle.std.proofs.Common.{◌≡◌, None, slice_get, sym, ap, ◌∙◌}
use Rattle.std.specs.Option.{option_copied}
use Rattle.term_meaning.specs.Operands.{event_of}
use Rattle.term_meaning.specs.UnderWay.{setting_of}
use Rattle.term_operands.proofs.Reading.{from_none}
use Rattle.term_operands.proofs.operands.Origin.at_path.Goals as goal

pub returns-in-None-local_at-clause-is : goal.returns-in-None-local_at-clause-is
returns-in-None-local_at-clause-is c =
    let unbound : event_of c.args.name c.args.seen.now ≡ None = sym c.event_of.ensures ∙ ap option_copied c.in-None.is in
    let missing : slice_get c.args.self.now.site.now.bound c.args.name ≡ None =
    ap (λ xs. slice_get xs c.args.name) (sym c.as_slice-in-None.ensures) ∙ sym c.local_at.ensures ∙ ap option_copied c.in-None-local_at.is in
    sym (from_none (setting_of c.args.self.now.types.now c.args.self.now.site.now c.args.self.now.operands.now c.args.self.now.time) c.args.seen.now c.args.name c.args.fields.now unbound missing)
