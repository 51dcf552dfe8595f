use Rattle.std.proofs.Common.{sym, ◌∙◌}
use Rattle.std.proofs.lemmas.Bool.{eqb-false}
use Rattle.file_lines.proofs.Cut.{takes-first, takes-last}
use Rattle.file_lines.proofs.lines.FileLines.next.Goals as goal

pub returns-then-end-whole : goal.returns-then-end-whole
returns-then-end-whole c =
    takes-last c.args.self.now.rest.now c.line_len-end.result c.line_len-end.ensures.count c.if-end-whole.true (eqb-false _ _ (sym c.is_empty.ensures ∙ c.if-is_empty.false))

pub returns : goal.returns
returns c =
    takes-first c.args.self.now.rest.now c.strip_carriage_return.result.now c.line_len-end.result c.line_len-end.ensures.count c.line_len-end.ensures.within c.if-end-whole.false
    c.strip_carriage_return.ensures
