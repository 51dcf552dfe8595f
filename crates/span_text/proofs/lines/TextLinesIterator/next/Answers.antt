use Rattle.std.proofs.Common.{◌≡◌, ◌-◌, ◌∷◌, length, sym, ap, ◌∙◌, arith, rules, take}
use Rattle.std.specs.Str.Lines.{lines, strip_carriage_return}
use Rattle.std.proofs.lemmas.Grind.{common_steps}
use Rattle.span_text.proofs.Cuts.{at_newline, without_newline}
use Rattle.span_text.proofs.lines.TextLinesIterator.next.Goals as goal

pub returns-in_default-clause-steps : goal.returns-in_default-clause-steps
returns-in_default-clause-steps c =
    let some = c.is_empty.ensures in
    ap lines (sym c.self.view_is) ∙ without_newline c.self.inside.rest.now (grind (arith, common_steps)) (sym c.in_default.is ∙ c.newline_in.ensures.place)

pub returns-in_default-clause-goes : goal.returns-in_default-clause-goes
returns-in_default-clause-goes c = let e = ap length (returns-in_default-clause-steps c) in search rules

pub returns-clause-steps : goal.returns-clause-steps
returns-clause-steps c =
    let n = at_newline c.self.inside.rest.now c.in-Some.end (sym c.in-Some.is ∙ c.newline_in.ensures.place) in
    let all : c.in-Some.end - 0 ≡ c.in-Some.end = omega arith in
    let line = c.range.ensures.value ∙ ap (λ k. take k c.self.inside.rest.now) all in
    ap lines (sym c.self.view_is) ∙ n.2
    ∙ (λ i. sym (c.without_return.ensures ∙ ap strip_carriage_return line) i ∷ lines (sym c.range_from-self-inside.ensures.value i))

pub returns-clause-goes : goal.returns-clause-goes
returns-clause-goes c = let e = ap length (returns-clause-steps c) in search rules
