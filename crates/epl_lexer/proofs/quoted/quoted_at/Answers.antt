use Rattle.std.proofs.Common.{rules, ◌+◌, ◌<◌, ◌++◌, length, refl, sym, ap, ◌∙◌, subst, arith, Some}
use Rattle.grammar_forms.specs.Rule.{Many}
use Rattle.epl_lexer.specs.Bytes.{quote}
use Rattle.epl_lexer.specs.Spelling.{IsCharacter}
use Rattle.epl_lexer.proofs.Sets.{lies_inside}
use Rattle.epl_lexer.proofs.Cuts.{cut_before, cut_behind}
use Rattle.epl_lexer.proofs.Strings.{finished, broken, cut_off, turned, escape_cut, escape_behind}
use Rattle.epl_lexer.proofs.quoted.quoted_at.Goals as goal

pub overflow_add-from : goal.overflow_add-from
overflow_add-from c =
    let inside : c.args.at < length c.args.text.now = lies_inside _ quote refl _ c.requires in search rules

pub pieces-init : goal.pieces-init
pieces-init c =
    let inside : c.args.at < length c.args.text.now = lies_inside _ quote refl _ c.requires in
    (subst (λ v. Many (IsCharacter c.args.text.now) v (c.args.at + 1) (c.args.at + 1)) (sym c.new-value.ensures) refl, cut_behind _ quote _ refl c.utf8.text inside c.requires, omega arith, omega arith)

pub range-requires-clause-end_boundary : goal.range-requires-clause-end_boundary
range-requires-clause-end_boundary c =
    cut_before _ quote _ refl (c.if-is_at.ensures.inside refl) (sym c.is_at.ensures.set ∙ c.if-is_at.true)

pub returns-then-is_at-clause-value : goal.returns-then-is_at-clause-value
returns-then-is_at-clause-value c =
    ap (λ w. Some (w, c.past-end.result + 1)) (c.in_ok-push.ensures.ok ∙ ap (λ r. c.pieces.value ++ r) c.range.ensures.value)
    ∙ finished c.args.text.now c.pieces.value c.args.at c.pieces.from c.pieces.invariant.0 c.past-end.result c.pieces.invariant.3 c.requires c.past-end.ensures.end (sym c.if-is_at.ensures.set)

pub returns-in_default-clause-value : goal.returns-in_default-clause-value
returns-in_default-clause-value c =
    broken c.args.text.now c.pieces.value c.args.at c.pieces.from c.pieces.invariant.0 c.past-end.result c.pieces.invariant.3 c.past-end.ensures.end (sym c.if-is_at.ensures.set) c.in_default.ensures

pub range-requires-in-pieces-clause-end_boundary : goal.range-requires-in-pieces-clause-end_boundary
range-requires-in-pieces-clause-end_boundary c = escape_cut c.args.text.now _ _ _ c.in-Some.ensures.1

pub pieces-preserved : goal.pieces-preserved
pieces-preserved c =
    let text = c.args.text.now in
    let end = c.past-end.result in
    let escape = c.in-Some.ensures.1 in
    let low = c.past-end.ensures.inside.0 in
    let start = c.pieces.invariant.2 in
    let behind = escape_behind text _ _ _ c.utf8.text escape in
    let piece = c.in_ok-push-2.ensures.ok ∙ ap (λ r. c.pieces.value ++ r) c.range-in-pieces.ensures.value in
    let value = c.in_ok-push-3.ensures.ok ∙ (λ i. piece i ++ c.in-Some.ensures.2 i) in
    (subst (λ v. Many (IsCharacter text) v (c.args.at + 1) (end + 2)) (sym value) (turned text c.pieces.value c.args.at c.pieces.from c.pieces.invariant.0 end c.in-Some.ensures.0 c.pieces.invariant.3 c.past-end.ensures.end escape), behind.1, omega arith, behind.0)

pub returns-clause-value : goal.returns-clause-value
returns-clause-value c = cut_off _ _ _ _ c.pieces.invariant.0 c.pieces-test.false
