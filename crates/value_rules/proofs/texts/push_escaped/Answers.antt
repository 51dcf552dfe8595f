use Rattle.std.proofs.Common.{◌≡◌, ◌<◌, ◌++◌, length, get_or, slice_range, Some, None, refl, sym, ap, ◌∙◌, arith}
use Rattle.std.proofs.lemmas.Str.{IsCharBoundary-start, IsCharBoundary-after_ascii}
use Rattle.value_rules.specs.Texts.{escape_of}
use Rattle.value_rules.proofs.Escapes.{ascii, plain-step, escape-step}
use Rattle.value_rules.proofs.texts.push_escaped.Goals as goal
use Rattle.value_rules.proofs.texts.push_escaped.Goals.{in-Some+in_ok-push+in_ok-push-2, in_default}

pub loop-at-init : goal.loop-at-init
loop-at-init c = record { behind = omega arith; within = omega arith; edge = IsCharBoundary-start _ c.utf8.text; made = refl }

pub loop-at-preserved : goal.loop-at-preserved
loop-at-preserved c =
    let text = c.args.text.now in
    let at = c.loop-at.at in
    let from = c.loop-at.from in
    let out = c.loop-at.out in
    let kept = c.loop-at.invariant in
    let bytes = c.as_bytes-byte-items.ensures.value in
    let lt : at < length text = omega (arith, c.loop-at-test.true, ap length bytes) in
    elim c.match-escape_of.branch [
      | in-Some+in_ok-push+in_ok-push-2 w ↦ (
          let escape = w.in-Some.escape.now in
          let is : escape_of (get_or text at 0) ≡ Some escape = ap (λ xs. escape_of (get_or xs at 0)) (sym bytes) ∙ sym w.in-Some.ensures in
          let grown : c.match-escape_of.out ≡ (out ++ slice_range text from at) ++ escape =
          w.out-is ∙ w.in_ok-push-2.ensures.ok ∙ ap (λ x. x ++ escape) (w.in_ok-push.ensures.ok ∙ ap (λ x. out ++ x) w.range.ensures.value) in
          record {
            behind = omega arith;
            within = omega arith;
            edge = rw w.from-is (IsCharBoundary-after_ascii text at c.utf8.text lt (ascii _ _ is));
            made = rw (grown, w.from-is) (escape-step text out c.args.out.now escape from at lt is kept.made);
          })
      | in_default w ↦ (
          let is : escape_of (get_or text at 0) ≡ None = ap (λ xs. escape_of (get_or xs at 0)) (sym bytes) ∙ sym w.in_default.ensures in
          record {
            behind = omega arith;
            within = omega arith;
            edge = rw w.from-is kept.edge;
            made = rw (w.out-is, w.from-is) (plain-step text out c.args.out.now from at kept.behind lt is kept.made);
          })
    ]
