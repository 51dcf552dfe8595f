use Rattle.std.proofs.Common.{◌∙◌, ap}
use Rattle.std.specs.List.{position}
use Rattle.span_text.specs.Place.{is_newline}
use Rattle.span_text.proofs.Cuts.{newline_cuts}
use Rattle.span_text.proofs.lines.newline_in.Goals as goal

pub returns-clause-cuts : goal.returns-clause-cuts
returns-clause-cuts c = newline_cuts _ _ c.utf8.text (c.first_newline.ensures ∙ ap (position is_newline) c.as_bytes.ensures.value)
