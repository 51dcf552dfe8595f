use Rattle.span_text.proofs.Cuts.{lines_few}
use Rattle.span_text.proofs.laws.lines_are_few.Goals as goal

pub returns : goal.returns
returns c = lines_few
