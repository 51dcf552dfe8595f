use Rattle.std.proofs.Common.{◌∙◌, ap, length, sym}
use Rattle.evt_reader.proofs.Timing.{gap-none}
use Rattle.evt_reader.proofs.meaning.behind_gap.Goals as goal

pub returns-then-rest-text : goal.returns-then-rest-text
returns-then-rest-text c = sym (gap-none c.args.text.now (sym (ap length c.behind_blanks-rest.ensures) ∙ c.if-rest-text.true))
