use Rattle.std.proofs.Common.{rules, ◌∙◌, refl, sym, w64}
use Rattle.std.proofs.lemmas.Int.{to_z-of_z}
use Rattle.evt_text.proofs.Digits.{integer_at-plain}
use Rattle.evt_text.proofs.numbers.integer_at.Goals as goal

pub returns : goal.returns
returns c =
    integer_at-plain c.args.text.now (sym c.in_default.ensures)
    ∙ rw (c.in_ok-magnitude-2.ensures.read, to_z-of_z w64 c.positive.result (search rules), c.positive.ensures) refl
