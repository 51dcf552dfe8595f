use Rattle.std.proofs.Common.{sym, ◌∙◌}
use Rattle.std.specs.List.{list_all}
use Rattle.typed_program.specs.declared.expression.TypedLink.{out-TypedLink}
use Rattle.calm_exprs.specs.Calm.{is_calm, is_calm_step, are_calm}
use Rattle.calm_exprs.proofs.Tested.{then_both, or_calm, xor_calm, and_calm, sum_calm, product_calm, postfix_calm, event_calm, sequence_calm, dictionary_calm, context_calm, method_calm}
use Rattle.calm_exprs.proofs.calmness.+calm.Goals as goal

pub calm-returns-then-calm : goal.calm-returns-then-calm
calm-returns-then-calm t c = then_both _ (is_calm c.in-Or.first) (are_calm c.in-Or.rest) _ (or_calm c.args.e.now c.in-Or.first c.in-Or.rest c.in-Or.is) (cc) (cc)

pub calm-returns-then-calm-2 : goal.calm-returns-then-calm-2
calm-returns-then-calm-2 t c = then_both _ (is_calm c.in-Xor.first) (are_calm c.in-Xor.rest) _ (xor_calm c.args.e.now c.in-Xor.first c.in-Xor.rest c.in-Xor.is) (cc) (cc)

pub calm-returns-then-calm-3 : goal.calm-returns-then-calm-3
calm-returns-then-calm-3 t c = then_both _ (is_calm c.in-And.first) (are_calm c.in-And.rest) _ (and_calm c.args.e.now c.in-And.first c.in-And.rest c.in-And.is) (cc) (cc)

pub calm-returns-then-calm-5 : goal.calm-returns-then-calm-5
calm-returns-then-calm-5 t c = then_both _ (is_calm c.in-Sum.first) (list_all (λ l. is_calm (out-TypedLink l).operand) c.in-Sum.links) _ (sum_calm c.args.e.now c.in-Sum.first c.in-Sum.links c.in-Sum.is) (cc) (cc)

pub calm-returns-then-calm-6 : goal.calm-returns-then-calm-6
calm-returns-then-calm-6 t c = then_both _ (is_calm c.in-Product.first) (list_all (λ l. is_calm (out-TypedLink l).operand) c.in-Product.links) _ (product_calm c.args.e.now c.in-Product.first c.in-Product.links c.in-Product.is) (cc) (cc)

pub calm-returns-then-calm-7 : goal.calm-returns-then-calm-7
calm-returns-then-calm-7 t c = then_both _ (is_calm c.in-Postfix.first) (list_all is_calm_step c.in-Postfix.steps) _ (postfix_calm c.args.e.now c.in-Postfix.first c.in-Postfix.steps c.in-Postfix.is) (cc) (cc)

pub calm-returns-in-Event : goal.calm-returns-in-Event
calm-returns-in-Event t c = (cc) ∙ sym (event_calm c.args.e.now c.in-Event.field-0 c.in-Event.arguments c.in-Event.is)

pub calm-returns-in-Sequence : goal.calm-returns-in-Sequence
calm-returns-in-Sequence t c = (cc) ∙ sym (sequence_calm c.args.e.now c.in-Sequence.items c.in-Sequence.is)

pub calm-returns-in-Dictionary : goal.calm-returns-in-Dictionary
calm-returns-in-Dictionary t c = (cc) ∙ sym (dictionary_calm c.args.e.now c.in-Dictionary.entries c.in-Dictionary.is)

pub calm-returns-in-Context : goal.calm-returns-in-Context
calm-returns-in-Context t c = (cc) ∙ sym (context_calm c.args.e.now c.in-Context.arguments c.in-Context.is)

pub step_calm-returns-in-Method : goal.step_calm-returns-in-Method
step_calm-returns-in-Method t c = (cc) ∙ sym (method_calm c.args.step.now c.in-Method.field-0 c.in-Method.arguments c.in-Method.is)
