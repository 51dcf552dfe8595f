use Rattle.std.proofs.Common.{ap}
use Rattle.std.specs.Str.Lines.{lines}
use Rattle.span_text.proofs.Cuts.{lines_some}
use Rattle.span_text.proofs.laws.no_line_where_nothing_is.Goals as goal

pub returns : goal.returns
returns c = λ text. (lines_some text, λ e. ap lines e)
