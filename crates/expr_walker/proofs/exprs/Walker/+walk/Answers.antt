use Rattle.std.proofs.Common.{rules, ◌≡◌, ◌+◌, true, false, [], ◌∷◌, map, drop, Ok, refl, sym, ap, subst, ◌∙◌}
use Rattle.std.proofs.lemmas.Int.{to_z-of_z}
use Rattle.std.specs.Prelude.{not}
use mir.Val.{SFits, of_z, to_z}
use mir.Syntax.{w64}
use Rattle.epl_values.specs.declared.value.Value.TheVariants as value
use Rattle.epl_values.specs.Order.{KeysAscend}
use Rattle.typed_program.specs.declared.expression.TypedNode.TheVariants as tree
use Rattle.typed_program.specs.declared.expression.TypedSuffixNode.TheVariants as step
use Rattle.typed_program.specs.declared.statement.Variable.TheVariants as variable
use Rattle.body_meaning.specs.declared.run.Move.TheVariants as move
use Rattle.body_meaning.specs.Acts.{enter}
use Rattle.body_meaning.specs.Expressions.{Meant, Reach, item_move, key_move, xor_from, entries_behind}
use Rattle.body_meaning.specs.Paths.{part, variable_in}
use Rattle.body_meaning.specs.Runs.{pure, given, all_behind}
use Rattle.body_meaning.specs.Values.{compared, truth_of}
use Rattle.value_steps.specs.Orderly.{IsOrderly, AreOrderly, AreOrderlyPairs}
use Rattle.value_steps.proofs.Ascending.{ascend_with}
use Rattle.value_steps.proofs.Called.{integer_orderly, truth_orderly, text_orderly, event_orderly, sequence_orderly, dictionary_orderly}
use Rattle.value_steps.proofs.Kept.{all_joined, with_orderly}
use Rattle.walk_rules.proofs.Forms as form
use Rattle.walk_rules.proofs.Leading.{leads_start, leads_same, all_end}
use Rattle.walk_rules.proofs.Operating.{or_out, and_out, or_end, and_end, xor_end, links_end, entries_end}
use Rattle.path_bases.specs.Locals.{values_in, frame_of, global_in, local_in}
use Rattle.walk_laws.proofs.Telling.{tells_as, tells_err, tells_bind, tells_bind_err, tells_then_pure, tells_pure, tells_is, tells_given, tells_given_err, tells_look, tells_memory, tells_walks, tells_two, tells_left_err, leads_tells}
use Rattle.walk_laws.proofs.Finding.{finds_as, finds_err, finds_own, finds_mapped, finds_mapped_stop, finds_bind, founds_bind, founds_settle}
use Rattle.walk_laws.proofs.Reaching.{path_value_is, reaching_step, reaching_stop, reaching_end}
use Rattle.walk_laws.proofs.Holding.{held_value, held_mapped, held_values, unheld}
use Rattle.walk_laws.proofs.Looping.{all_told, all_told_stop, or_told, or_told_stop, and_told, and_told_stop, xor_told, xor_told_stop, links_told, links_told_operand_stop, links_told_stop, entries_told, entries_told_key_stop, entries_told_stop}
use Rattle.walk_laws.proofs.Lending.{all_lent}
use Rattle.expr_walker.specs.Leaving.{is_from_global}
use Rattle.expr_walker.specs.Means.{value_by, reach_by, link_by, entry_by, compared_by, element_by, found_by, called_by}
use Rattle.expr_walker.proofs.Orders.{variable_orderly, negated_orderly, compared_orderly, made_context_orderly, current_orderly}
use Rattle.expr_walker.proofs.Steps.{within_same, item_same, past_same, known_told, differ_told, lent_err, lent_orderly}
use Rattle.expr_walker.proofs.Walking.{walked_err, found_err, reached_err}
use Rattle.expr_walker.proofs.exprs.Walker.+walk.Goals as goal

pub value-returns-in-Integer : goal.value-returns-in-Integer
value-returns-in-Integer g t c = record { means = let fits : SFits w64 c.in-Integer.n = search rules in tells_as (form.value_by (form.integer_is c.args.self.now.program.now.types (enter c.args.self.now.program.now c.args.self.now.depth) c.args.e.now c.in-Integer.n c.in-Integer.is)) (tells_is (g.H.Host.told c.args.host.now) (frame_of c.args.globals.now c.args.self.now.locals.now) (ap (λ n. Ok (value.Integer n)) (to_z-of_z w64 c.in-Integer.n fits))); kept = c.requires.globals; order = integer_orderly (to_z w64 (of_z w64 c.in-Integer.n)) }

pub value-returns-in-Tenths : goal.value-returns-in-Tenths
value-returns-in-Tenths g t c = record { means = let fits : SFits w64 c.in-Tenths.n = search rules in tells_as (form.value_by (form.tenths_is c.args.self.now.program.now.types (enter c.args.self.now.program.now c.args.self.now.depth) c.args.e.now c.in-Tenths.n c.in-Tenths.is)) (tells_is (g.H.Host.told c.args.host.now) (frame_of c.args.globals.now c.args.self.now.locals.now) (ap (λ n. Ok (value.Integer n)) (to_z-of_z w64 c.in-Tenths.n fits))); kept = c.requires.globals; order = integer_orderly (to_z w64 (of_z w64 c.in-Tenths.n)) }

pub value-returns-in-Boolean : goal.value-returns-in-Boolean
value-returns-in-Boolean g t c = record { means = tells_as (form.value_by (form.boolean_is c.args.self.now.program.now.types (enter c.args.self.now.program.now c.args.self.now.depth) c.args.e.now c.in-Boolean.b c.in-Boolean.is)) (tells_pure _ _ _); kept = c.requires.globals; order = truth_orderly c.in-Boolean.b }

pub value-returns-in_err-of-in-Text : goal.value-returns-in_err-of-in-Text
value-returns-in_err-of-in-Text g t c = walked_err _ c.from_residual.ensures.1 c.requires.globals (tells_memory _ (g.H.Host.told c.args.host.now) (g.H.Host.told c.args.host.now) refl)

pub value-returns-in_ok-of-in-Text : goal.value-returns-in_ok-of-in-Text
value-returns-in_ok-of-in-Text g t c = record { means = let same : c.in_ok-of-in-Text.field-0 ≡ c.in-Text.text = c.in_ok-of-in-Text.ensures ∙ c.as_str.ensures in tells_as (form.value_by (form.text_is c.args.self.now.program.now.types (enter c.args.self.now.program.now c.args.self.now.depth) c.args.e.now c.in-Text.text c.in-Text.is)) (tells_is (g.H.Host.told c.args.host.now) (frame_of c.args.globals.now c.args.self.now.locals.now) (ap (λ x. Ok (value.Text x)) same)); kept = c.requires.globals; order = text_orderly c.in_ok-of-in-Text.field-0 }

pub value-returns-in_err-global-in-Global : goal.value-returns-in_err-global-in-Global
value-returns-in_err-global-in-Global g t c = walked_err _ c.from_residual-in_err-global-in-Global.ensures.1 c.requires.globals (tells_memory _ (g.H.Host.told c.args.host.now) (g.H.Host.told c.args.host.now) refl)

pub value-returns-in_ok-global-in-Global : goal.value-returns-in_ok-global-in-Global
value-returns-in_ok-global-in-Global g t c = record { means = tells_as (ap (λ (m : Meant). m.value) (form.global_is c.args.self.now.program.now.types (enter c.args.self.now.program.now c.args.self.now.depth) c.args.e.now c.in-Global.n c.in-Global.is)) (tells_look (variable_in (variable.Global c.in-Global.n)) _ c.in_ok-global-in-Global.ensures); kept = c.requires.globals; order = subst IsOrderly (sym c.in_ok-global-in-Global.ensures) (variable_orderly c.args.globals.now c.in-Global.n c.requires.globals) }

pub value-returns-in_err-local-in-Local : goal.value-returns-in_err-local-in-Local
value-returns-in_err-local-in-Local g t c = walked_err _ c.from_residual-in_err-local-in-Local.ensures.1 c.requires.globals (tells_memory _ (g.H.Host.told c.args.host.now) (g.H.Host.told c.args.host.now) refl)

pub value-returns-in_ok-local-in-Local : goal.value-returns-in_ok-local-in-Local
value-returns-in_ok-local-in-Local g t c = record { means = tells_as (ap (λ (m : Meant). m.value) (form.local_is c.args.self.now.program.now.types (enter c.args.self.now.program.now c.args.self.now.depth) c.args.e.now c.in-Local.n c.in-Local.is)) (tells_look (variable_in (variable.Local c.in-Local.n)) _ c.in_ok-local-in-Local.ensures); kept = c.requires.globals; order = subst IsOrderly (sym c.in_ok-local-in-Local.ensures) (variable_orderly (values_in c.args.self.now.locals.now) c.in-Local.n c.requires.ready.locals) }

pub value-returns-in_err-value-in-Or : goal.value-returns-in_err-value-in-Or
value-returns-in_err-value-in-Or g t c = walked_err _ c.from_residual-in_err-value-in-Or.ensures.1 c.in_err-value-in-Or.ensures.kept (tells_as (form.value_by (form.or_is c.args.self.now.program.now.types (enter c.args.self.now.program.now c.args.self.now.depth) c.args.e.now c.get.result.now c.in-Or.rest (c.in-Or.is ∙ ap (λ x. tree.Or x c.in-Or.rest) (sym c.get.ensures)))) (tells_bind_err _ c.in_err-value-in-Or.ensures.means))

pub value-returns-in_ok-value-in-Or : goal.value-returns-in_ok-value-in-Or
value-returns-in_ok-value-in-Or g t c = record { means = tells_as (form.value_by (form.or_is c.args.self.now.program.now.types (enter c.args.self.now.program.now c.args.self.now.depth) c.args.e.now c.get.result.now c.in-Or.rest (c.in-Or.is ∙ ap (λ x. tree.Or x c.in-Or.rest) (sym c.get.ensures)))) (tells_bind _ c.in_ok-value-in-Or.ensures.means c.or.ensures.means); kept = c.or.ensures.kept; order = c.or.ensures.order }

pub value-returns-in_err-value-in-Xor : goal.value-returns-in_err-value-in-Xor
value-returns-in_err-value-in-Xor g t c = walked_err _ c.from_residual-in_err-value-in-Xor.ensures.1 c.in_err-value-in-Xor.ensures.kept (tells_as (form.value_by (form.xor_is c.args.self.now.program.now.types (enter c.args.self.now.program.now c.args.self.now.depth) c.args.e.now c.get-in-Xor.result.now c.in-Xor.rest (c.in-Xor.is ∙ ap (λ x. tree.Xor x c.in-Xor.rest) (sym c.get-in-Xor.ensures)))) (tells_bind_err _ c.in_err-value-in-Xor.ensures.means))

pub value-returns-in_ok-value-in-Xor : goal.value-returns-in_ok-value-in-Xor
value-returns-in_ok-value-in-Xor g t c = record { means = tells_as (form.value_by (form.xor_is c.args.self.now.program.now.types (enter c.args.self.now.program.now c.args.self.now.depth) c.args.e.now c.get-in-Xor.result.now c.in-Xor.rest (c.in-Xor.is ∙ ap (λ x. tree.Xor x c.in-Xor.rest) (sym c.get-in-Xor.ensures)))) (tells_bind _ c.in_ok-value-in-Xor.ensures.means c.xor.ensures.means); kept = c.xor.ensures.kept; order = c.xor.ensures.order }

pub value-returns-in_err-value-in-And : goal.value-returns-in_err-value-in-And
value-returns-in_err-value-in-And g t c = walked_err _ c.from_residual-in_err-value-in-And.ensures.1 c.in_err-value-in-And.ensures.kept (tells_as (form.value_by (form.and_is c.args.self.now.program.now.types (enter c.args.self.now.program.now c.args.self.now.depth) c.args.e.now c.get-in-And.result.now c.in-And.rest (c.in-And.is ∙ ap (λ x. tree.And x c.in-And.rest) (sym c.get-in-And.ensures)))) (tells_bind_err _ c.in_err-value-in-And.ensures.means))

pub value-returns-in_ok-value-in-And : goal.value-returns-in_ok-value-in-And
value-returns-in_ok-value-in-And g t c = record { means = tells_as (form.value_by (form.and_is c.args.self.now.program.now.types (enter c.args.self.now.program.now c.args.self.now.depth) c.args.e.now c.get-in-And.result.now c.in-And.rest (c.in-And.is ∙ ap (λ x. tree.And x c.in-And.rest) (sym c.get-in-And.ensures)))) (tells_bind _ c.in_ok-value-in-And.ensures.means c.and.ensures.means); kept = c.and.ensures.kept; order = c.and.ensures.order }

pub value-returns-in_err-value-in-Sum : goal.value-returns-in_err-value-in-Sum
value-returns-in_err-value-in-Sum g t c = walked_err _ c.from_residual-in_err-value-in-Sum.ensures.1 c.in_err-value-in-Sum.ensures.kept (tells_as (form.value_by (form.sum_is c.args.self.now.program.now.types (enter c.args.self.now.program.now c.args.self.now.depth) c.args.e.now c.get-in-Sum.result.now c.in-Sum.links (c.in-Sum.is ∙ ap (λ x. tree.Sum x c.in-Sum.links) (sym c.get-in-Sum.ensures)))) (tells_bind_err _ c.in_err-value-in-Sum.ensures.means))

pub value-returns-in_ok-value-in-Sum : goal.value-returns-in_ok-value-in-Sum
value-returns-in_ok-value-in-Sum g t c = record { means = tells_as (form.value_by (form.sum_is c.args.self.now.program.now.types (enter c.args.self.now.program.now c.args.self.now.depth) c.args.e.now c.get-in-Sum.result.now c.in-Sum.links (c.in-Sum.is ∙ ap (λ x. tree.Sum x c.in-Sum.links) (sym c.get-in-Sum.ensures)))) (tells_bind _ c.in_ok-value-in-Sum.ensures.means c.links.ensures.means); kept = c.links.ensures.kept; order = c.links.ensures.order }

pub value-returns-in_err-value-in-Product : goal.value-returns-in_err-value-in-Product
value-returns-in_err-value-in-Product g t c = walked_err _ c.from_residual-in_err-value-in-Product.ensures.1 c.in_err-value-in-Product.ensures.kept (tells_as (form.value_by (form.product_is c.args.self.now.program.now.types (enter c.args.self.now.program.now c.args.self.now.depth) c.args.e.now c.get-in-Product.result.now c.in-Product.links (c.in-Product.is ∙ ap (λ x. tree.Product x c.in-Product.links) (sym c.get-in-Product.ensures)))) (tells_bind_err _ c.in_err-value-in-Product.ensures.means))

pub value-returns-in_ok-value-in-Product : goal.value-returns-in_ok-value-in-Product
value-returns-in_ok-value-in-Product g t c = record { means = tells_as (form.value_by (form.product_is c.args.self.now.program.now.types (enter c.args.self.now.program.now c.args.self.now.depth) c.args.e.now c.get-in-Product.result.now c.in-Product.links (c.in-Product.is ∙ ap (λ x. tree.Product x c.in-Product.links) (sym c.get-in-Product.ensures)))) (tells_bind _ c.in_ok-value-in-Product.ensures.means c.links-in-Product.ensures.means); kept = c.links-in-Product.ensures.kept; order = c.links-in-Product.ensures.order }

pub value-returns-in_err-value-in-Not : goal.value-returns-in_err-value-in-Not
value-returns-in_err-value-in-Not g t c = walked_err _ c.from_residual-in_err-value-in-Not.ensures.1 c.in_err-value-in-Not.ensures.kept (tells_as (form.value_by (form.not_is c.args.self.now.program.now.types (enter c.args.self.now.program.now c.args.self.now.depth) c.args.e.now c.get-in-Not.result.now (c.in-Not.is ∙ ap (λ x. tree.Not x) (sym c.get-in-Not.ensures)))) (tells_bind_err _ c.in_err-value-in-Not.ensures.means))

pub value-returns-in_ok-value-in-Not : goal.value-returns-in_ok-value-in-Not
value-returns-in_ok-value-in-Not g t c = record { means = tells_as (form.value_by (form.not_is c.args.self.now.program.now.types (enter c.args.self.now.program.now c.args.self.now.depth) c.args.e.now c.get-in-Not.result.now (c.in-Not.is ∙ ap (λ x. tree.Not x) (sym c.get-in-Not.ensures)))) (tells_bind _ c.in_ok-value-in-Not.ensures.means (tells_is _ _ (ap (λ b. Ok (value.Boolean (not b))) c.truth.ensures))); kept = c.in_ok-value-in-Not.ensures.kept; order = truth_orderly (not c.truth.result) }

pub value-returns-in_err-value-in-Minus : goal.value-returns-in_err-value-in-Minus
value-returns-in_err-value-in-Minus g t c = walked_err _ c.from_residual-in_err-value-in-Minus.ensures.1 c.in_err-value-in-Minus.ensures.kept (tells_as (form.value_by (form.minus_is c.args.self.now.program.now.types (enter c.args.self.now.program.now c.args.self.now.depth) c.args.e.now c.get-in-Minus.result.now (c.in-Minus.is ∙ ap (λ x. tree.Minus x) (sym c.get-in-Minus.ensures)))) (tells_bind_err _ c.in_err-value-in-Minus.ensures.means))

pub value-returns-in_err-negated-in-Minus : goal.value-returns-in_err-negated-in-Minus
value-returns-in_err-negated-in-Minus g t c = walked_err _ c.from_residual-in_err-negated-in-Minus.ensures.1 c.in_ok-value-in-Minus.ensures.kept (tells_as (form.value_by (form.minus_is c.args.self.now.program.now.types (enter c.args.self.now.program.now c.args.self.now.depth) c.args.e.now c.get-in-Minus.result.now (c.in-Minus.is ∙ ap (λ x. tree.Minus x) (sym c.get-in-Minus.ensures)))) (tells_bind _ c.in_ok-value-in-Minus.ensures.means (tells_given_err _ _ c.in_err-negated-in-Minus.ensures)))

pub value-returns-in_ok-negated-in-Minus : goal.value-returns-in_ok-negated-in-Minus
value-returns-in_ok-negated-in-Minus g t c = record { means = tells_as (form.value_by (form.minus_is c.args.self.now.program.now.types (enter c.args.self.now.program.now c.args.self.now.depth) c.args.e.now c.get-in-Minus.result.now (c.in-Minus.is ∙ ap (λ x. tree.Minus x) (sym c.get-in-Minus.ensures)))) (tells_bind _ c.in_ok-value-in-Minus.ensures.means (tells_given _ _ c.in_ok-negated-in-Minus.ensures)); kept = c.in_ok-value-in-Minus.ensures.kept; order = negated_orderly c.in_ok-value-in-Minus.value c.in_ok-negated-in-Minus.field-0 c.in_ok-negated-in-Minus.ensures }

pub value-returns-in_err-base-in-Compare : goal.value-returns-in_err-base-in-Compare
value-returns-in_err-base-in-Compare g t c = walked_err _ c.from_residual-in_err-base-in-Compare.ensures.1 c.in_err-base-in-Compare.ensures.kept (tells_as (form.value_by (form.compare_is c.args.self.now.program.now.types (enter c.args.self.now.program.now c.args.self.now.depth) c.args.e.now c.get-in-Compare.result.now c.in-Compare.comparison c.in-Compare.right (c.in-Compare.is ∙ ap (λ x. tree.Compare x c.in-Compare.comparison c.in-Compare.right) (sym c.get-in-Compare.ensures)))) (tells_left_err ((value_by c.args.self.now.program.now c.args.self.now.depth) c.in-Compare.right) (λ v w. pure (compared c.in-Compare.comparison v w)) c.in_err-base-in-Compare.ensures.means))

pub value-returns-in_ok-base-in-Compare : goal.value-returns-in_ok-base-in-Compare
value-returns-in_ok-base-in-Compare g t c = record { means = let a = c.in_ok-base-in-Compare.ensures.means in tells_as (form.value_by (form.compare_is c.args.self.now.program.now.types (enter c.args.self.now.program.now c.args.self.now.depth) c.args.e.now c.get-in-Compare.result.now c.in-Compare.comparison c.get-in-Compare-2.result.now (c.in-Compare.is ∙ ap (λ x. tree.Compare x c.in-Compare.comparison c.in-Compare.right) (sym c.get-in-Compare.ensures) ∙ ap (λ x. tree.Compare c.get-in-Compare.result.now c.in-Compare.comparison x) (sym c.get-in-Compare-2.ensures)))) (tells_two ((value_by c.args.self.now.program.now c.args.self.now.depth) c.get-in-Compare-2.result.now) (λ v w. pure (compared c.in-Compare.comparison v w)) a.tells (c.compared.ensures.means a.value a.stands)); kept = c.compared.ensures.kept; order = let a = c.in_ok-base-in-Compare.ensures.means in c.compared.ensures.order a.value a.stands }

pub value-returns-in_err-base-in-Postfix : goal.value-returns-in_err-base-in-Postfix
value-returns-in_err-base-in-Postfix g t c = walked_err _ c.from_residual-in_err-base-in-Postfix.ensures.1 c.in_err-base-in-Postfix.ensures.kept (tells_as (path_value_is c.args.self.now.program.now.types (enter c.args.self.now.program.now c.args.self.now.depth) c.args.e.now c.get-in-Postfix.result.now c.in-Postfix.steps (c.in-Postfix.is ∙ ap (λ x. tree.Postfix x c.in-Postfix.steps) (sym c.get-in-Postfix.ensures))) (tells_bind_err _ c.in_err-base-in-Postfix.ensures.means))

pub value-returns-in_err-base-in-Postfix-2 : goal.value-returns-in_err-base-in-Postfix-2
value-returns-in_err-base-in-Postfix-2 g t c = let a = c.in_ok-base-in-Postfix.ensures.means in walked_err _ c.from_residual-in_err-base-in-Postfix-2.ensures.1 c.in_err-base-in-Postfix-2.ensures.kept (tells_as (path_value_is c.args.self.now.program.now.types (enter c.args.self.now.program.now c.args.self.now.depth) c.args.e.now c.get-in-Postfix.result.now c.as_slice.result.now (c.in-Postfix.is ∙ ap (λ x. tree.Postfix x c.in-Postfix.steps) (sym c.get-in-Postfix.ensures) ∙ ap (λ x. tree.Postfix c.get-in-Postfix.result.now x) (sym c.as_slice.ensures))) (tells_bind _ a.tells (c.in_err-base-in-Postfix-2.ensures.means a.value a.stands)))

pub value-returns-in_ok-base-in-Postfix-2 : goal.value-returns-in_ok-base-in-Postfix-2
value-returns-in_ok-base-in-Postfix-2 g t c = record { means = let a = c.in_ok-base-in-Postfix.ensures.means in tells_as (path_value_is c.args.self.now.program.now.types (enter c.args.self.now.program.now c.args.self.now.depth) c.args.e.now c.get-in-Postfix.result.now c.as_slice.result.now (c.in-Postfix.is ∙ ap (λ x. tree.Postfix x c.in-Postfix.steps) (sym c.get-in-Postfix.ensures) ∙ ap (λ x. tree.Postfix c.get-in-Postfix.result.now x) (sym c.as_slice.ensures))) (founds_settle (finds_bind _ _ _ (Ok c.in_ok-base-in-Postfix-2.base) a (c.in_ok-base-in-Postfix-2.ensures.means a.value a.stands)) c.settle.ensures.means); kept = c.in_ok-base-in-Postfix-2.ensures.kept; order = c.settle.ensures.kept c.in_ok-base-in-Postfix-2.ensures.order }

pub value-returns-in_err-lent-in-Action : goal.value-returns-in_err-lent-in-Action
value-returns-in_err-lent-in-Action g t c = walked_err _ c.from_residual-in_err-lent-in-Action.ensures.1 c.in_err-lent-in-Action.ensures.kept (tells_as (form.value_by (form.action_is c.args.self.now.program.now.types (enter c.args.self.now.program.now c.args.self.now.depth) c.args.e.now c.in-Action.n c.as_slice-in-Action.result.now (c.in-Action.is ∙ ap (λ x. tree.Action c.in-Action.n x) (sym c.as_slice-in-Action.ensures)))) (tells_bind_err _ c.in_err-lent-in-Action.ensures.means))

pub value-returns-in_ok-lent-in-Action : goal.value-returns-in_ok-lent-in-Action
value-returns-in_ok-lent-in-Action g t c = record { means = tells_as (form.value_by (form.action_is c.args.self.now.program.now.types (enter c.args.self.now.program.now c.args.self.now.depth) c.args.e.now c.in-Action.n c.as_slice-in-Action.result.now (c.in-Action.is ∙ ap (λ x. tree.Action c.in-Action.n x) (sym c.as_slice-in-Action.ensures)))) (tells_bind _ c.in_ok-lent-in-Action.ensures.means (c.requires.ready.calls.does _ _ _ _ _ _ _ _ _ refl c.call.ensures (values_in c.args.self.now.locals.now))); kept = (c.requires.ready.calls.keeps _ _ _ _ _ _ _ _ _ c.call.ensures).0; order = (c.requires.ready.calls.keeps _ _ _ _ _ _ _ _ _ c.call.ensures).1 }

pub value-returns-in_err-values-in-Event : goal.value-returns-in_err-values-in-Event
value-returns-in_err-values-in-Event g t c = walked_err _ c.from_residual-in_err-values-in-Event.ensures.1 c.in_err-values-in-Event.ensures.kept (tells_as (form.value_by (form.event_is c.args.self.now.program.now.types (enter c.args.self.now.program.now c.args.self.now.depth) c.args.e.now c.in-Event.n c.as_slice-in-Event.result.now (c.in-Event.is ∙ ap (λ x. tree.Event c.in-Event.n x) (sym c.as_slice-in-Event.ensures)))) (tells_bind_err _ c.in_err-values-in-Event.ensures.means))

pub value-returns-in_ok-values-in-Event : goal.value-returns-in_ok-values-in-Event
value-returns-in_ok-values-in-Event g t c = record { means = tells_as (form.value_by (form.event_is c.args.self.now.program.now.types (enter c.args.self.now.program.now c.args.self.now.depth) c.args.e.now c.in-Event.n c.as_slice-in-Event.result.now (c.in-Event.is ∙ ap (λ x. tree.Event c.in-Event.n x) (sym c.as_slice-in-Event.ensures)))) (tells_then_pure (λ vs. value.Event c.in-Event.n vs) c.in_ok-values-in-Event.ensures.means); kept = c.in_ok-values-in-Event.ensures.kept; order = event_orderly c.in-Event.n c.in_ok-values-in-Event.values c.in_ok-values-in-Event.ensures.order }

pub value-returns-in_err-elements-in-Sequence : goal.value-returns-in_err-elements-in-Sequence
value-returns-in_err-elements-in-Sequence g t c = walked_err _ c.from_residual-in_err-elements-in-Sequence.ensures.1 c.in_err-elements-in-Sequence.ensures.kept (tells_as (form.value_by (form.sequence_is c.args.self.now.program.now.types (enter c.args.self.now.program.now c.args.self.now.depth) c.args.e.now c.as_slice-in-Sequence.result.now (c.in-Sequence.is ∙ ap (λ x. tree.Sequence x) (sym c.as_slice-in-Sequence.ensures)))) (tells_bind_err _ c.in_err-elements-in-Sequence.ensures.means))

pub value-returns-in_ok-elements-in-Sequence : goal.value-returns-in_ok-elements-in-Sequence
value-returns-in_ok-elements-in-Sequence g t c = record { means = tells_as (form.value_by (form.sequence_is c.args.self.now.program.now.types (enter c.args.self.now.program.now c.args.self.now.depth) c.args.e.now c.as_slice-in-Sequence.result.now (c.in-Sequence.is ∙ ap (λ x. tree.Sequence x) (sym c.as_slice-in-Sequence.ensures)))) (tells_then_pure (λ vs. value.Sequence vs) c.in_ok-elements-in-Sequence.ensures.means); kept = c.in_ok-elements-in-Sequence.ensures.kept; order = sequence_orderly c.in_ok-elements-in-Sequence.elements c.in_ok-elements-in-Sequence.ensures.order }

pub value-returns-in_err-pairs-in-Dictionary : goal.value-returns-in_err-pairs-in-Dictionary
value-returns-in_err-pairs-in-Dictionary g t c = walked_err _ c.from_residual-in_err-pairs-in-Dictionary.ensures.1 c.in_err-pairs-in-Dictionary.ensures.kept (tells_as (form.value_by (form.dictionary_is c.args.self.now.program.now.types (enter c.args.self.now.program.now c.args.self.now.depth) c.args.e.now c.as_slice-in-Dictionary.result.now (c.in-Dictionary.is ∙ ap (λ x. tree.Dictionary x) (sym c.as_slice-in-Dictionary.ensures)))) (tells_bind_err _ c.in_err-pairs-in-Dictionary.ensures.means))

pub value-returns-in_ok-pairs-in-Dictionary : goal.value-returns-in_ok-pairs-in-Dictionary
value-returns-in_ok-pairs-in-Dictionary g t c = record { means = tells_as (form.value_by (form.dictionary_is c.args.self.now.program.now.types (enter c.args.self.now.program.now c.args.self.now.depth) c.args.e.now c.as_slice-in-Dictionary.result.now (c.in-Dictionary.is ∙ ap (λ x. tree.Dictionary x) (sym c.as_slice-in-Dictionary.ensures)))) (tells_then_pure (λ pairs. value.Dictionary pairs) c.in_ok-pairs-in-Dictionary.ensures.means); kept = c.in_ok-pairs-in-Dictionary.ensures.kept; order = let o = c.in_ok-pairs-in-Dictionary.ensures.order in dictionary_orderly c.in_ok-pairs-in-Dictionary.pairs o.0 o.1 }

pub value-returns-in_err-values-in-Context : goal.value-returns-in_err-values-in-Context
value-returns-in_err-values-in-Context g t c = walked_err _ c.from_residual-in_err-values-in-Context.ensures.1 c.in_err-values-in-Context.ensures.kept (tells_as (form.value_by (form.context_is c.args.self.now.program.now.types (enter c.args.self.now.program.now c.args.self.now.depth) c.args.e.now c.as_slice-in-Context.result.now (c.in-Context.is ∙ ap (λ x. tree.Context x) (sym c.as_slice-in-Context.ensures)))) (tells_bind_err _ c.in_err-values-in-Context.ensures.means))

pub value-returns-in_ok-values-in-Context : goal.value-returns-in_ok-values-in-Context
value-returns-in_ok-values-in-Context g t c = record { means = tells_as (form.value_by (form.context_is c.args.self.now.program.now.types (enter c.args.self.now.program.now c.args.self.now.depth) c.args.e.now c.as_slice-in-Context.result.now (c.in-Context.is ∙ ap (λ x. tree.Context x) (sym c.as_slice-in-Context.ensures)))) (tells_bind _ c.in_ok-values-in-Context.ensures.means (tells_walks (c.make_context.ensures _))); kept = c.in_ok-values-in-Context.ensures.kept; order = made_context_orderly c.in_ok-values-in-Context.values c.make_context.result (c.make_context.ensures (frame_of c.args.globals.now c.args.self.now.locals.now)) }

pub value-returns-in-Default : goal.value-returns-in-Default
value-returns-in-Default g t c = record { means = tells_as (form.value_by (form.default_is c.args.self.now.program.now.types (enter c.args.self.now.program.now c.args.self.now.depth) c.args.e.now c.in-Default.is)) (known_told _ (g.H.Host.told c.args.host.now) (frame_of c.args.globals.now c.args.self.now.locals.now) c.default.result c.default.ensures.value c.default.ensures.memory); kept = c.requires.globals; order = c.default.ensures.order }

pub value-returns-in-ContextCurrent : goal.value-returns-in-ContextCurrent
value-returns-in-ContextCurrent g t c = record { means = tells_as (form.value_by (form.current_is c.args.self.now.program.now.types (enter c.args.self.now.program.now c.args.self.now.depth) c.args.e.now c.in-ContextCurrent.is)) (tells_walks (c.current.ensures _)); kept = c.requires.globals; order = current_orderly c.current.result (c.current.ensures (frame_of c.args.globals.now c.args.self.now.locals.now)) }

pub base-returns-in-Global : goal.base-returns-in-Global
base-returns-in-Global g t c = record { means = record { value = global_in c.args.globals.now c.in-Global.n; stands = c.global_base.ensures.stands; tells = tells_as (ap (λ (m : Meant). m.value) (form.global_is c.args.self.now.program.now.types (enter c.args.self.now.program.now c.args.self.now.depth) c.args.e.now c.in-Global.n c.in-Global.is)) (tells_look (variable_in (variable.Global c.in-Global.n)) _ refl) }; kept = c.requires.globals; order = c.global_base.ensures.order }

pub base-returns-in-Local : goal.base-returns-in-Local
base-returns-in-Local g t c = record { means = record { value = local_in c.args.self.now.locals.now c.in-Local.n; stands = c.local_base.ensures.stands c.args.globals.now; tells = tells_as (ap (λ (m : Meant). m.value) (form.local_is c.args.self.now.program.now.types (enter c.args.self.now.program.now c.args.self.now.depth) c.args.e.now c.in-Local.n c.in-Local.is)) (tells_look (variable_in (variable.Local c.in-Local.n)) _ refl) }; kept = c.requires.globals; order = c.local_base.ensures.order }

pub base-returns-in_err-base-in-Postfix : goal.base-returns-in_err-base-in-Postfix
base-returns-in_err-base-in-Postfix g t c = found_err _ c.from_residual.ensures.1 c.in_err-base-in-Postfix.ensures.kept (tells_as (path_value_is c.args.self.now.program.now.types (enter c.args.self.now.program.now c.args.self.now.depth) c.args.e.now c.get.result.now c.in-Postfix.steps (c.in-Postfix.is ∙ ap (λ x. tree.Postfix x c.in-Postfix.steps) (sym c.get.ensures))) (tells_bind_err _ c.in_err-base-in-Postfix.ensures.means))

pub base-returns-in_ok-base-in-Postfix : goal.base-returns-in_ok-base-in-Postfix
base-returns-in_ok-base-in-Postfix g t c = record { means = let a = c.in_ok-base-in-Postfix.ensures.means in finds_as _ _ _ _ _ (path_value_is c.args.self.now.program.now.types (enter c.args.self.now.program.now c.args.self.now.depth) c.args.e.now c.get.result.now c.as_slice.result.now (c.in-Postfix.is ∙ ap (λ x. tree.Postfix x c.in-Postfix.steps) (sym c.get.ensures) ∙ ap (λ x. tree.Postfix c.get.result.now x) (sym c.as_slice.ensures))) (finds_bind _ _ _ _ a (c.reached.ensures.means a.value a.stands)); kept = c.reached.ensures.kept; order = c.reached.ensures.order }

pub argument-returns-clause-means : goal.argument-returns-clause-means
argument-returns-clause-means g t c = founds_settle c.in_ok-base.ensures.means c.lend.ensures.means

pub compared-returns-in_err-left-clause-means : goal.compared-returns-in_err-left-clause-means
compared-returns-in_err-left-clause-means g t c = λ v s. tells_err _ c.from_residual.ensures.1 (unheld (compared_by c.args.self.now.program.now c.args.self.now.depth c.args.comparison v c.args.right.now) c.leaves.result c.args.globals.now v (g.H.Host.told c.args.host.now) (frame_of c.args.globals.now c.args.self.now.locals.now) (c.in_err-left.ensures.holds v s))

pub compared-returns-in_err-right-clause-means : goal.compared-returns-in_err-right-clause-means
compared-returns-in_err-right-clause-means g t c = λ v s. tells_err _ c.from_residual-in_err-right.ensures.1 (tells_bind_err _ c.in_err-right.ensures.means)

pub compared-returns-clause-means : goal.compared-returns-clause-means
compared-returns-clause-means g t c = λ v s. let a = c.in_ok-right.ensures.means in founds_bind (λ w. pure (compared c.args.comparison v w)) a (tells_is _ _ (c.compare.ensures v a.value (held_value c.args.self.now.program.now.types (enter c.args.self.now.program.now c.args.self.now.depth) c.args.right.now c.leaves.result (is_from_global c.args.left) v c.in_ok-left.left (c.in_ok-left.ensures.holds v s) c.leaves.ensures a.tells) a.stands))

pub compared-returns-clause-order : goal.compared-returns-clause-order
compared-returns-clause-order g t c = λ v s. let a = c.in_ok-right.ensures.means in compared_orderly c.args.comparison v a.value c.compare.result (c.compare.ensures v a.value (held_value c.args.self.now.program.now.types (enter c.args.self.now.program.now c.args.self.now.depth) c.args.right.now c.leaves.result (is_from_global c.args.left) v c.in_ok-left.left (c.in_ok-left.ensures.holds v s) c.leaves.ensures a.tells) a.stands)

pub element-returns-in_err-base : goal.element-returns-in_err-base
element-returns-in_err-base g t c = reached_err _ c.from_residual.ensures.1 c.requires.globals (λ v s. (unheld (element_by c.args.self.now.program.now c.args.self.now.depth v c.args.e.now) c.leaves.result c.args.globals.now v (g.H.Host.told c.args.host.now) (frame_of c.args.globals.now c.args.self.now.locals.now) (c.in_err-base.ensures.holds v s)))

pub element-returns-in_err-to : goal.element-returns-in_err-to
element-returns-in_err-to g t c = reached_err _ c.from_residual-in_err-to.ensures.1 c.in_err-to.ensures.kept (λ v s. (finds_mapped_stop ((value_by c.args.self.now.program.now c.args.self.now.depth) c.args.e.now) item_move (λ y. given (part y v)) c.in_err-to.ensures.means))

pub element-returns : goal.element-returns
element-returns g t c = record { means = λ v s. let a = c.in_ok-to.ensures.means in finds_mapped ((value_by c.args.self.now.program.now c.args.self.now.depth) c.args.e.now) item_move (λ y. given (part y v)) _ _ c.stepped.result a (c.stepped.ensures.means v (held_mapped c.args.self.now.program.now.types (enter c.args.self.now.program.now c.args.self.now.depth) c.args.e.now item_move c.leaves.result (is_from_global c.args.base) v c.in_ok-base.base (c.in_ok-base.ensures.holds v s) c.leaves.ensures a) _ (values_in c.args.self.now.locals.now)); kept = c.in_ok-to.ensures.kept; order = c.stepped.ensures.kept }

pub entry-returns-in_err-base : goal.entry-returns-in_err-base
entry-returns-in_err-base g t c = reached_err _ c.from_residual.ensures.1 c.requires.globals (λ v s. (unheld (found_by c.args.self.now.program.now c.args.self.now.depth v c.args.e.now) c.leaves.result c.args.globals.now v (g.H.Host.told c.args.host.now) (frame_of c.args.globals.now c.args.self.now.locals.now) (c.in_err-base.ensures.holds v s)))

pub entry-returns-in_err-to : goal.entry-returns-in_err-to
entry-returns-in_err-to g t c = reached_err _ c.from_residual-in_err-to.ensures.1 c.in_err-to.ensures.kept (λ v s. (finds_mapped_stop ((value_by c.args.self.now.program.now c.args.self.now.depth) c.args.e.now) key_move (λ y. given (part y v)) c.in_err-to.ensures.means))

pub entry-returns : goal.entry-returns
entry-returns g t c = record { means = λ v s. let a = c.in_ok-to.ensures.means in finds_mapped ((value_by c.args.self.now.program.now c.args.self.now.depth) c.args.e.now) key_move (λ y. given (part y v)) _ _ c.stepped.result a (c.stepped.ensures.means v (held_mapped c.args.self.now.program.now.types (enter c.args.self.now.program.now c.args.self.now.depth) c.args.e.now key_move c.leaves.result (is_from_global c.args.base) v c.in_ok-base.base (c.in_ok-base.ensures.holds v s) c.leaves.ensures a) _ (values_in c.args.self.now.locals.now)); kept = c.in_ok-to.ensures.kept; order = c.stepped.ensures.kept }

pub called-returns-in_err-base : goal.called-returns-in_err-base
called-returns-in_err-base g t c = reached_err _ c.from_residual.ensures.1 c.requires.globals (λ v s. (unheld ((called_by c.args.self.now.program.now c.args.self.now.depth c.args.name v) c.args.arguments.now) c.leave.result c.args.globals.now v (g.H.Host.told c.args.host.now) (frame_of c.args.globals.now c.args.self.now.locals.now) (c.in_err-base.ensures.holds v s)))

pub called-returns-in_err-values : goal.called-returns-in_err-values
called-returns-in_err-values g t c = reached_err _ c.from_residual-in_err-values.ensures.1 c.in_err-values.ensures.kept (λ v s. (tells_as (ap (called_by c.args.self.now.program.now c.args.self.now.depth c.args.name v) (sym c.as_slice-arguments.ensures)) (tells_bind_err _ c.in_err-values.ensures.means)))

pub called-returns-in_err-value : goal.called-returns-in_err-value
called-returns-in_err-value g t c = reached_err _ c.from_residual-in_err-value.ensures.1 c.in_ok-values.ensures.kept (λ v s. (tells_as (ap (called_by c.args.self.now.program.now c.args.self.now.depth c.args.name v) (sym c.as_slice-arguments.ensures)) (tells_bind _ c.in_ok-values.ensures.means (tells_walks (c.in_err-value.ensures.means v (held_values c.args.self.now.program.now.types (enter c.args.self.now.program.now c.args.self.now.depth) c.as_slice-arguments.result.now c.leave.result (is_from_global c.args.base) v c.in_ok-base.base (c.in_ok-base.ensures.holds v s) c.leave.ensures c.in_ok-values.ensures.means) _)))))

pub called-returns : goal.called-returns
called-returns g t c = record { means = λ v s. finds_own (tells_as (ap (called_by c.args.self.now.program.now c.args.self.now.depth c.args.name v) (sym c.as_slice-arguments.ensures)) (tells_bind _ c.in_ok-values.ensures.means (tells_walks (c.in_ok-value.ensures.means v (held_values c.args.self.now.program.now.types (enter c.args.self.now.program.now c.args.self.now.depth) c.as_slice-arguments.result.now c.leave.result (is_from_global c.args.base) v c.in_ok-base.base (c.in_ok-base.ensures.holds v s) c.leave.ensures c.in_ok-values.ensures.means) _)))); kept = c.in_ok-values.ensures.kept; order = c.in_ok-value.ensures.order }

pub item-returns-in_err-value : goal.item-returns-in_err-value
item-returns-in_err-value g t c = walked_err _ c.from_residual.ensures.1 c.in_err-value.ensures.kept (tells_bind_err _ c.in_err-value.ensures.means)

pub key-returns-in_err-value : goal.key-returns-in_err-value
key-returns-in_err-value g t c = walked_err _ c.from_residual.ensures.1 c.in_err-value.ensures.kept (tells_bind_err _ c.in_err-value.ensures.means)

pub item-returns : goal.item-returns
item-returns g t c = record { means = let fits : SFits w64 c.integer.result = search rules in tells_bind (λ i. pure (item_move i)) c.in_ok-value.ensures.means (tells_is _ _ (ap (λ n. Ok (move.Item n)) (to_z-of_z w64 c.integer.result fits ∙ c.integer.ensures))); kept = c.in_ok-value.ensures.kept; order = tt }

pub key-returns : goal.key-returns
key-returns g t c = record { means = tells_then_pure key_move c.in_ok-value.ensures.means; kept = c.in_ok-value.ensures.kept; order = c.in_ok-value.ensures.order }

pub reach-returns-in-Field : goal.reach-returns-in-Field
reach-returns-in-Field g t c = record { means = λ v s. finds_as _ _ _ _ _ (ap (λ (x : Reach). x.from v) (form.field_step_is c.args.self.now.program.now.types (enter c.args.self.now.program.now c.args.self.now.depth) c.args.step.now c.in-Field.n c.in-Field.is)) (c.stepped.ensures.means v s (g.H.Host.told c.args.host.now) (values_in c.args.self.now.locals.now)); kept = c.requires.globals; order = c.stepped.ensures.kept }

pub reach-returns-in-Item : goal.reach-returns-in-Item
reach-returns-in-Item g t c = record { means = λ v s. finds_as _ _ _ _ _ (ap (λ (x : Reach). x.from v) (form.item_step_is c.args.self.now.program.now.types (enter c.args.self.now.program.now c.args.self.now.depth) c.args.step.now c.get.result.now (c.in-Item.is ∙ ap step.Item (sym c.get.ensures)))) (c.element.ensures.means v s); kept = c.element.ensures.kept; order = c.element.ensures.order }

pub reach-returns-in-Key : goal.reach-returns-in-Key
reach-returns-in-Key g t c = record { means = λ v s. finds_as _ _ _ _ _ (ap (λ (x : Reach). x.from v) (form.key_step_is c.args.self.now.program.now.types (enter c.args.self.now.program.now c.args.self.now.depth) c.args.step.now c.get-in-Key.result.now (c.in-Key.is ∙ ap step.Key (sym c.get-in-Key.ensures)))) (c.entry.ensures.means v s); kept = c.entry.ensures.kept; order = c.entry.ensures.order }

pub reach-returns-in-Method : goal.reach-returns-in-Method
reach-returns-in-Method g t c = record { means = λ v s. finds_as _ _ _ _ _ (ap (λ (x : Reach). x.from v) (form.method_step_is c.args.self.now.program.now.types (enter c.args.self.now.program.now c.args.self.now.depth) c.args.step.now c.in-Method.name c.in-Method.arguments c.in-Method.is)) (c.called.ensures.means v s); kept = c.called.ensures.kept; order = c.called.ensures.order }

pub or-loop-e-init : goal.or-loop-e-init
or-loop-e-init g t c = (leads_start _ _ _, c.requires.globals, c.requires.order)

pub or-returns-then-truth : goal.or-returns-then-truth
or-returns-then-truth g t c = record { means = let decides : true ≡ truth_of c.loop-e.value = cc in tells_walks (or_out _ c.loop-e.value c.loop-e.invariant.0 decides); kept = c.loop-e.invariant.1; order = c.loop-e.invariant.2 }

pub or-returns-in_err-value : goal.or-returns-in_err-value
or-returns-in_err-value g t c = let open-yet : false ≡ truth_of c.loop-e.value = cc in walked_err _ c.from_residual.ensures.1 c.in_err-value.ensures.kept (or_told_stop (value_by c.args.self.now.program.now c.args.self.now.depth) c.args.rest.now c.loop-e.e-index c.e-item.result c.loop-e.value (within_same c.as_slice-e-items.result.now c.args.rest.now c.as_slice-e-items.ensures c.loop-e.e-index c.loop-e-test.true) (item_same c.as_slice-e-items.result.now c.args.rest.now c.as_slice-e-items.ensures c.loop-e.e-index c.e-item.result c.e-item.is) c.loop-e.invariant.0 open-yet c.in_err-value.ensures.means)

pub or-loop-e-preserved : goal.or-loop-e-preserved
or-loop-e-preserved g t c = let open-yet : false ≡ truth_of c.loop-e.value = cc in (or_told (value_by c.args.self.now.program.now c.args.self.now.depth) c.args.rest.now c.loop-e.e-index c.e-item.result c.loop-e.value (within_same c.as_slice-e-items.result.now c.args.rest.now c.as_slice-e-items.ensures c.loop-e.e-index c.loop-e-test.true) (item_same c.as_slice-e-items.result.now c.args.rest.now c.as_slice-e-items.ensures c.loop-e.e-index c.e-item.result c.e-item.is) c.loop-e.invariant.0 open-yet c.in_ok-value.ensures.means, c.in_ok-value.ensures.kept, c.in_ok-value.ensures.order)

pub or-returns : goal.or-returns
or-returns g t c = record { means = tells_walks (or_end (value_by c.args.self.now.program.now c.args.self.now.depth) c.args.rest.now c.loop-e.e-index c.loop-e.value (past_same c.as_slice-e-items.result.now c.args.rest.now c.as_slice-e-items.ensures c.loop-e.e-index c.loop-e-test.false) c.loop-e.invariant.0); kept = c.loop-e.invariant.1; order = c.loop-e.invariant.2 }

pub and-loop-e-init : goal.and-loop-e-init
and-loop-e-init g t c = (leads_start _ _ _, c.requires.globals, c.requires.order)

pub and-returns-then-not-truth : goal.and-returns-then-not-truth
and-returns-then-not-truth g t c = record { means = let decides : false ≡ truth_of c.loop-e.value = cc in tells_walks (and_out _ c.loop-e.value c.loop-e.invariant.0 decides); kept = c.loop-e.invariant.1; order = c.loop-e.invariant.2 }

pub and-returns-in_err-value : goal.and-returns-in_err-value
and-returns-in_err-value g t c = let open-yet : true ≡ truth_of c.loop-e.value = cc in walked_err _ c.from_residual.ensures.1 c.in_err-value.ensures.kept (and_told_stop (value_by c.args.self.now.program.now c.args.self.now.depth) c.args.rest.now c.loop-e.e-index c.e-item.result c.loop-e.value (within_same c.as_slice-e-items.result.now c.args.rest.now c.as_slice-e-items.ensures c.loop-e.e-index c.loop-e-test.true) (item_same c.as_slice-e-items.result.now c.args.rest.now c.as_slice-e-items.ensures c.loop-e.e-index c.e-item.result c.e-item.is) c.loop-e.invariant.0 open-yet c.in_err-value.ensures.means)

pub and-loop-e-preserved : goal.and-loop-e-preserved
and-loop-e-preserved g t c = let open-yet : true ≡ truth_of c.loop-e.value = cc in (and_told (value_by c.args.self.now.program.now c.args.self.now.depth) c.args.rest.now c.loop-e.e-index c.e-item.result c.loop-e.value (within_same c.as_slice-e-items.result.now c.args.rest.now c.as_slice-e-items.ensures c.loop-e.e-index c.loop-e-test.true) (item_same c.as_slice-e-items.result.now c.args.rest.now c.as_slice-e-items.ensures c.loop-e.e-index c.e-item.result c.e-item.is) c.loop-e.invariant.0 open-yet c.in_ok-value.ensures.means, c.in_ok-value.ensures.kept, c.in_ok-value.ensures.order)

pub and-returns : goal.and-returns
and-returns g t c = record { means = tells_walks (and_end (value_by c.args.self.now.program.now c.args.self.now.depth) c.args.rest.now c.loop-e.e-index c.loop-e.value (past_same c.as_slice-e-items.result.now c.args.rest.now c.as_slice-e-items.ensures c.loop-e.e-index c.loop-e-test.false) c.loop-e.invariant.0); kept = c.loop-e.invariant.1; order = c.loop-e.invariant.2 }

pub xor-loop-e-init : goal.xor-loop-e-init
xor-loop-e-init g t c = (leads_start _ _ _, c.requires.globals, c.requires.order)

pub xor-returns-in_err-other : goal.xor-returns-in_err-other
xor-returns-in_err-other g t c = walked_err _ c.from_residual.ensures.1 c.in_err-other.ensures.kept (xor_told_stop (value_by c.args.self.now.program.now c.args.self.now.depth) c.args.rest.now c.loop-e.e-index c.e-item.result c.loop-e.value (within_same c.as_slice-e-items.result.now c.args.rest.now c.as_slice-e-items.ensures c.loop-e.e-index c.loop-e-test.true) (item_same c.as_slice-e-items.result.now c.args.rest.now c.as_slice-e-items.ensures c.loop-e.e-index c.e-item.result c.e-item.is) c.loop-e.invariant.0 c.in_err-other.ensures.means)

pub xor-loop-e-preserved : goal.xor-loop-e-preserved
xor-loop-e-preserved g t c = let is = differ_told c.truth.result c.truth-in-loop-e.result (truth_of c.loop-e.value) (truth_of c.in_ok-other.other) c.truth.ensures c.truth-in-loop-e.ensures in (leads_same (ap (λ b. xor_from (map (value_by c.args.self.now.program.now c.args.self.now.depth) (drop (c.loop-e.e-index + 1) c.args.rest.now)) (value.Boolean b)) (sym is)) (xor_told (value_by c.args.self.now.program.now c.args.self.now.depth) c.args.rest.now c.loop-e.e-index c.e-item.result c.loop-e.value (within_same c.as_slice-e-items.result.now c.args.rest.now c.as_slice-e-items.ensures c.loop-e.e-index c.loop-e-test.true) (item_same c.as_slice-e-items.result.now c.args.rest.now c.as_slice-e-items.ensures c.loop-e.e-index c.e-item.result c.e-item.is) c.loop-e.invariant.0 c.in_ok-other.ensures.means), c.in_ok-other.ensures.kept, truth_orderly _)

pub xor-returns : goal.xor-returns
xor-returns g t c = record { means = tells_walks (xor_end (value_by c.args.self.now.program.now c.args.self.now.depth) c.args.rest.now c.loop-e.e-index c.loop-e.value (past_same c.as_slice-e-items.result.now c.args.rest.now c.as_slice-e-items.ensures c.loop-e.e-index c.loop-e-test.false) c.loop-e.invariant.0); kept = c.loop-e.invariant.1; order = c.loop-e.invariant.2 }

pub links-loop-link-init : goal.links-loop-link-init
links-loop-link-init g t c = (leads_start _ _ _, c.requires.globals, c.requires.order)

pub links-returns-in_err-other : goal.links-returns-in_err-other
links-returns-in_err-other g t c = walked_err _ c.from_residual.ensures.1 c.in_err-other.ensures.kept (links_told_operand_stop (link_by c.args.self.now.program.now c.args.self.now.depth) c.args.links.now c.loop-link.link-index c.link-item.result c.loop-link.value (within_same c.as_slice-link-items.result.now c.args.links.now c.as_slice-link-items.ensures c.loop-link.link-index c.loop-link-test.true) (item_same c.as_slice-link-items.result.now c.args.links.now c.as_slice-link-items.ensures c.loop-link.link-index c.link-item.result c.link-item.is) c.loop-link.invariant.0 c.in_err-other.ensures.means)

pub links-returns-in_err-value : goal.links-returns-in_err-value
links-returns-in_err-value g t c = walked_err _ c.from_residual-in_err-value.ensures.1 c.in_ok-other.ensures.kept (links_told_stop (link_by c.args.self.now.program.now c.args.self.now.depth) c.args.links.now c.loop-link.link-index c.link-item.result c.loop-link.value (within_same c.as_slice-link-items.result.now c.args.links.now c.as_slice-link-items.ensures c.loop-link.link-index c.loop-link-test.true) (item_same c.as_slice-link-items.result.now c.args.links.now c.as_slice-link-items.ensures c.loop-link.link-index c.link-item.result c.link-item.is) c.loop-link.invariant.0 c.in_ok-other.ensures.means (c.in_err-value.ensures.means _))

pub links-loop-link-preserved : goal.links-loop-link-preserved
links-loop-link-preserved g t c = (links_told (link_by c.args.self.now.program.now c.args.self.now.depth) c.args.links.now c.loop-link.link-index c.link-item.result c.loop-link.value (within_same c.as_slice-link-items.result.now c.args.links.now c.as_slice-link-items.ensures c.loop-link.link-index c.loop-link-test.true) (item_same c.as_slice-link-items.result.now c.args.links.now c.as_slice-link-items.ensures c.loop-link.link-index c.link-item.result c.link-item.is) c.loop-link.invariant.0 c.in_ok-other.ensures.means (c.in_ok-value.ensures.means _), c.in_ok-other.ensures.kept, c.in_ok-value.ensures.order)

pub links-returns : goal.links-returns
links-returns g t c = record { means = tells_walks (links_end (link_by c.args.self.now.program.now c.args.self.now.depth) c.args.links.now c.loop-link.link-index c.loop-link.value (past_same c.as_slice-link-items.result.now c.args.links.now c.as_slice-link-items.ensures c.loop-link.link-index c.loop-link-test.false) c.loop-link.invariant.0); kept = c.loop-link.invariant.1; order = c.loop-link.invariant.2 }

pub values-loop-e-init : goal.values-loop-e-init
values-loop-e-init g t c = (leads_same (ap (λ l. all_behind l (map (value_by c.args.self.now.program.now c.args.self.now.depth) c.args.es.now)) (sym c.new-values.ensures)) (leads_start _ _ _), c.requires.globals, subst AreOrderly (sym c.new-values.ensures) tt)

pub values-returns-in_err-value : goal.values-returns-in_err-value
values-returns-in_err-value g t c = walked_err _ c.from_residual.ensures.1 c.in_err-value.ensures.kept (all_told_stop (value_by c.args.self.now.program.now c.args.self.now.depth) c.loop-e.values c.args.es.now c.loop-e.e-index c.e-item.result c.loop-e-test.true c.e-item.is c.loop-e.invariant.0 c.in_err-value.ensures.means)

pub values-returns-in_err-push : goal.values-returns-in_err-push
values-returns-in_err-push g t c = walked_err _ c.from_residual-in_err-push.ensures.1 c.in_ok-value.ensures.kept (leads_tells (all_told (value_by c.args.self.now.program.now c.args.self.now.depth) c.loop-e.values c.args.es.now c.loop-e.e-index c.e-item.result c.loop-e-test.true c.e-item.is c.loop-e.invariant.0 c.in_ok-value.ensures.means) (tells_memory _ _ (g.H.Host.told c.value.new.host) refl))

pub values-loop-e-preserved : goal.values-loop-e-preserved
values-loop-e-preserved g t c = (leads_same (ap (λ l. all_behind l (map (value_by c.args.self.now.program.now c.args.self.now.depth) (drop (c.loop-e.e-index + 1) c.args.es.now))) (sym c.in_ok-push.ensures.ok)) (all_told (value_by c.args.self.now.program.now c.args.self.now.depth) c.loop-e.values c.args.es.now c.loop-e.e-index c.e-item.result c.loop-e-test.true c.e-item.is c.loop-e.invariant.0 c.in_ok-value.ensures.means), c.in_ok-value.ensures.kept, subst AreOrderly (sym c.in_ok-push.ensures.ok) (all_joined IsOrderly c.loop-e.values (c.in_ok-value.value ∷ []) c.loop-e.invariant.2 (c.in_ok-value.ensures.order, tt)))

pub values-returns : goal.values-returns
values-returns g t c = record { means = tells_walks (all_end (value_by c.args.self.now.program.now c.args.self.now.depth) c.loop-e.values c.args.es.now c.loop-e.e-index c.loop-e-test.false c.loop-e.invariant.0); kept = c.loop-e.invariant.1; order = c.loop-e.invariant.2 }

pub elements-loop-e-init : goal.elements-loop-e-init
elements-loop-e-init g t c = (leads_same (ap (λ l. all_behind l (map (value_by c.args.self.now.program.now c.args.self.now.depth) c.args.es.now)) (sym c.new-elements.ensures)) (leads_start _ _ _), c.requires.globals, subst AreOrderly (sym c.new-elements.ensures) tt)

pub elements-returns-in_err-value : goal.elements-returns-in_err-value
elements-returns-in_err-value g t c = walked_err _ c.from_residual.ensures.1 c.in_err-value.ensures.kept (all_told_stop (value_by c.args.self.now.program.now c.args.self.now.depth) c.loop-e.elements c.args.es.now c.loop-e.e-index c.e-item.result c.loop-e-test.true c.e-item.is c.loop-e.invariant.0 c.in_err-value.ensures.means)

pub elements-returns-in_err-push : goal.elements-returns-in_err-push
elements-returns-in_err-push g t c = walked_err _ c.from_residual-in_err-push.ensures.1 c.in_ok-value.ensures.kept (leads_tells (all_told (value_by c.args.self.now.program.now c.args.self.now.depth) c.loop-e.elements c.args.es.now c.loop-e.e-index c.e-item.result c.loop-e-test.true c.e-item.is c.loop-e.invariant.0 c.in_ok-value.ensures.means) (tells_memory _ _ (g.H.Host.told c.value.new.host) refl))

pub elements-loop-e-preserved : goal.elements-loop-e-preserved
elements-loop-e-preserved g t c = (leads_same (ap (λ l. all_behind l (map (value_by c.args.self.now.program.now c.args.self.now.depth) (drop (c.loop-e.e-index + 1) c.args.es.now))) (sym c.in_ok-push.ensures.ok)) (all_told (value_by c.args.self.now.program.now c.args.self.now.depth) c.loop-e.elements c.args.es.now c.loop-e.e-index c.e-item.result c.loop-e-test.true c.e-item.is c.loop-e.invariant.0 c.in_ok-value.ensures.means), c.in_ok-value.ensures.kept, subst AreOrderly (sym c.in_ok-push.ensures.ok) (all_joined IsOrderly c.loop-e.elements (c.in_ok-value.value ∷ []) c.loop-e.invariant.2 (c.in_ok-value.ensures.order, tt)))

pub elements-returns : goal.elements-returns
elements-returns g t c = record { means = tells_walks (all_end (value_by c.args.self.now.program.now c.args.self.now.depth) c.loop-e.elements c.args.es.now c.loop-e.e-index c.loop-e-test.false c.loop-e.invariant.0); kept = c.loop-e.invariant.1; order = c.loop-e.invariant.2 }

pub arguments-loop-e-init : goal.arguments-loop-e-init
arguments-loop-e-init g t c = (leads_same (ap (λ l. all_behind (values_in l) (map (value_by c.args.self.now.program.now c.args.self.now.depth) c.args.es.now)) (sym c.new-lent.ensures)) (leads_start _ _ _), c.requires.globals, subst (λ l. AreOrderly (values_in l)) (sym c.new-lent.ensures) tt)

pub arguments-returns-in_err-got-clause-means : goal.arguments-returns-in_err-got-clause-means
arguments-returns-in_err-got-clause-means g t c = lent_err _ c.from_residual.ensures.1 (all_told_stop (value_by c.args.self.now.program.now c.args.self.now.depth) (values_in c.loop-e.lent) c.args.es.now c.loop-e.e-index c.e-item.result c.loop-e-test.true c.e-item.is c.loop-e.invariant.0 c.in_err-got.ensures.means)

pub arguments-returns-in_err-push-clause-means : goal.arguments-returns-in_err-push-clause-means
arguments-returns-in_err-push-clause-means g t c = lent_err _ c.from_residual-in_err-push.ensures.1 (leads_tells (all_lent (value_by c.args.self.now.program.now c.args.self.now.depth) c.loop-e.lent c.args.es.now c.loop-e.e-index c.e-item.result c.loop-e-test.true c.e-item.is c.loop-e.invariant.0 c.in_ok-got.got c.in_ok-got.ensures.means) (tells_memory _ _ (g.H.Host.told c.argument.new.host) refl))

pub arguments-loop-e-preserved : goal.arguments-loop-e-preserved
arguments-loop-e-preserved g t c = (leads_same (ap (λ l. all_behind (values_in l) (map (value_by c.args.self.now.program.now c.args.self.now.depth) (drop (c.loop-e.e-index + 1) c.args.es.now))) (sym c.in_ok-push.ensures.ok)) (all_lent (value_by c.args.self.now.program.now c.args.self.now.depth) c.loop-e.lent c.args.es.now c.loop-e.e-index c.e-item.result c.loop-e-test.true c.e-item.is c.loop-e.invariant.0 c.in_ok-got.got c.in_ok-got.ensures.means), c.in_ok-got.ensures.kept, lent_orderly c.loop-e.lent c.push.new.self c.in_ok-got.got c.in_ok-push.ensures.ok c.loop-e.invariant.2 c.in_ok-got.ensures.order)

pub arguments-returns-clause-means : goal.arguments-returns-clause-means
arguments-returns-clause-means g t c = tells_walks (all_end (value_by c.args.self.now.program.now c.args.self.now.depth) (values_in c.loop-e.lent) c.args.es.now c.loop-e.e-index c.loop-e-test.false c.loop-e.invariant.0)

pub entries-loop-entry-init : goal.entries-loop-entry-init
entries-loop-entry-init g t c = (leads_same (ap (λ l. entries_behind l (map (entry_by c.args.self.now.program.now c.args.self.now.depth) c.args.entries.now)) (sym c.new-pairs.ensures)) (leads_start _ _ _), c.requires.globals, subst KeysAscend (sym c.new-pairs.ensures) tt, subst AreOrderlyPairs (sym c.new-pairs.ensures) tt)

pub entries-returns-in_err-key : goal.entries-returns-in_err-key
entries-returns-in_err-key g t c = walked_err _ c.from_residual.ensures.1 c.in_err-key.ensures.kept (entries_told_key_stop (entry_by c.args.self.now.program.now c.args.self.now.depth) c.loop-entry.pairs c.args.entries.now c.loop-entry.entry-index c.entry-item.result c.loop-entry-test.true c.entry-item.is c.loop-entry.invariant.0 c.in_err-key.ensures.means)

pub entries-returns-in_err-value : goal.entries-returns-in_err-value
entries-returns-in_err-value g t c = walked_err _ c.from_residual-in_err-value.ensures.1 c.in_err-value.ensures.kept (entries_told_stop (entry_by c.args.self.now.program.now c.args.self.now.depth) c.loop-entry.pairs c.args.entries.now c.loop-entry.entry-index c.entry-item.result c.loop-entry-test.true c.entry-item.is c.loop-entry.invariant.0 c.in_ok-key.ensures.means c.in_err-value.ensures.means)

pub entries-returns-in_err-put_entry : goal.entries-returns-in_err-put_entry
entries-returns-in_err-put_entry g t c = walked_err _ c.from_residual-in_err-put_entry.ensures.1 c.in_ok-value.ensures.kept (leads_tells (entries_told (entry_by c.args.self.now.program.now c.args.self.now.depth) c.loop-entry.pairs c.args.entries.now c.loop-entry.entry-index c.entry-item.result c.loop-entry-test.true c.entry-item.is c.loop-entry.invariant.0 c.in_ok-key.ensures.means c.in_ok-value.ensures.means) (tells_memory _ _ (g.H.Host.told c.value-in-loop-entry.new.host) refl))

pub entries-loop-entry-preserved : goal.entries-loop-entry-preserved
entries-loop-entry-preserved g t c = (leads_same (ap (λ l. entries_behind l (map (entry_by c.args.self.now.program.now c.args.self.now.depth) (drop (c.loop-entry.entry-index + 1) c.args.entries.now))) (sym c.in_ok-put_entry.ensures.ok)) (entries_told (entry_by c.args.self.now.program.now c.args.self.now.depth) c.loop-entry.pairs c.args.entries.now c.loop-entry.entry-index c.entry-item.result c.loop-entry-test.true c.entry-item.is c.loop-entry.invariant.0 c.in_ok-key.ensures.means c.in_ok-value.ensures.means), c.in_ok-value.ensures.kept, subst KeysAscend (sym c.in_ok-put_entry.ensures.ok) (ascend_with c.in_ok-key.key c.in_ok-value.value c.loop-entry.pairs c.loop-entry.invariant.2), subst AreOrderlyPairs (sym c.in_ok-put_entry.ensures.ok) (with_orderly c.in_ok-key.key c.in_ok-value.value c.loop-entry.pairs c.loop-entry.invariant.3 c.in_ok-key.ensures.order c.in_ok-value.ensures.order))

pub entries-returns : goal.entries-returns
entries-returns g t c = record { means = tells_walks (entries_end (entry_by c.args.self.now.program.now c.args.self.now.depth) c.loop-entry.pairs c.args.entries.now c.loop-entry.entry-index c.loop-entry-test.false c.loop-entry.invariant.0); kept = c.loop-entry.invariant.1; order = (c.loop-entry.invariant.2, c.loop-entry.invariant.3) }

pub reached-loop-step-init : goal.reached-loop-step-init
reached-loop-step-init g t c = (λ v s. record { value = v; stands = s; leads = leads_start _ _ _ }, c.requires.globals, c.requires.order)

pub reached-returns-in_err-base : goal.reached-returns-in_err-base
reached-returns-in_err-base g t c = reached_err _ c.from_residual.ensures.1 c.in_err-base.ensures.kept (λ v s. (reaching_stop (reach_by c.args.self.now.program.now c.args.self.now.depth) c.args.steps.now c.loop-step.step-index c.step-item.result c.loop-step-test.true c.step-item.is (c.loop-step.invariant.0 v s) c.in_err-base.ensures.means))

pub reached-loop-step-preserved : goal.reached-loop-step-preserved
reached-loop-step-preserved g t c = (λ v s. reaching_step (reach_by c.args.self.now.program.now c.args.self.now.depth) c.args.steps.now c.loop-step.step-index c.step-item.result c.loop-step-test.true c.step-item.is (c.loop-step.invariant.0 v s) c.in_ok-base.ensures.means, c.in_ok-base.ensures.kept, c.in_ok-base.ensures.order)

pub reached-returns : goal.reached-returns
reached-returns g t c = record { means = λ v s. reaching_end (reach_by c.args.self.now.program.now c.args.self.now.depth) c.args.steps.now c.loop-step.step-index c.loop-step-test.false (c.loop-step.invariant.0 v s); kept = c.loop-step.invariant.1; order = c.loop-step.invariant.2 }
