-- Which expressions call no action, form by form.
use Rattle.std.proofs.Common.{◌≡◌, ℕ, Bool, true, false, List, map, sym, ap, ◌∙◌}
use Rattle.std.specs.Prelude.{◌&&◌}
use Rattle.std.specs.List.{list_all}
use Rattle.std.proofs.lemmas.List.Folds.{list_all-map}
use Rattle.epl_tree.specs.declared.expression.Comparison.{Comparison}
use Rattle.typed_program.specs.declared.expression.Method.{Method}
use Rattle.typed_program.specs.declared.expression.TypedExpr.{TypedExpr, out-TypedExpr, fold_out-TypedExpr}
use Rattle.typed_program.specs.declared.expression.TypedNode.{TypedNode, TypedNode-F, map-TypedNode, out-TypedNode, fold-TypedNode, fold_out-TypedNode}
use Rattle.typed_program.specs.declared.expression.TypedNode.TheOpen as layer
use Rattle.typed_program.specs.declared.expression.TypedNode.TheVariants as tree
use Rattle.typed_program.specs.declared.expression.TypedLink.{TypedLink, out-TypedLink, fold-TypedLink, fold_out-TypedLink}
use Rattle.typed_program.specs.declared.expression.TypedEntry.{TypedEntry, out-TypedEntry, fold-TypedEntry, fold_out-TypedEntry}
use Rattle.typed_program.specs.declared.expression.TypedSuffix.{TypedSuffix, out-TypedSuffix, fold_out-TypedSuffix}
use Rattle.typed_program.specs.declared.expression.TypedSuffixNode.{TypedSuffixNode, TypedSuffixNode-F, map-TypedSuffixNode, out-TypedSuffixNode, fold-TypedSuffixNode, fold_out-TypedSuffixNode}
use Rattle.typed_program.specs.declared.expression.TypedSuffixNode.TheVariants as step
use Rattle.calm_exprs.specs.Calm.{all_so, node_calm, step_calm, entry_calm, expr_calm, link_calm, suffix_calm, is_calm, is_calm_step, are_calm}

-- the test of a node
node_test : TypedNode → Bool
node_test = fold-TypedNode Bool Bool Bool Bool Bool Bool node_calm step_calm entry_calm expr_calm link_calm suffix_calm

-- the test of a step
step_test : TypedSuffixNode → Bool
step_test = fold-TypedSuffixNode Bool Bool Bool Bool Bool Bool node_calm step_calm entry_calm expr_calm link_calm suffix_calm

-- the test of a link of a sum or a product
link_test : TypedLink → Bool
link_test = fold-TypedLink Bool Bool Bool Bool Bool Bool node_calm step_calm entry_calm expr_calm link_calm suffix_calm

-- the test of an entry
entry_test : TypedEntry → Bool
entry_test = fold-TypedEntry Bool Bool Bool Bool Bool Bool node_calm step_calm entry_calm expr_calm link_calm suffix_calm

-- whether the operand of a link is calm
abbrev calm_link : TypedLink → Bool
calm_link l = is_calm (out-TypedLink l).operand

-- whether the key and the value of an entry are calm
abbrev calm_entry : TypedEntry → Bool
calm_entry e = is_calm (out-TypedEntry e).key && is_calm (out-TypedEntry e).value

-- a link is tested by its operand
link_out : (l : TypedLink) → link_test l ≡ calm_link l
unfolding link_test is_calm
link_out l = fold_out-TypedLink Bool Bool Bool Bool Bool Bool node_calm step_calm entry_calm expr_calm link_calm suffix_calm l

-- an entry is tested by its key and its value
entry_out : (e : TypedEntry) → entry_test e ≡ calm_entry e
unfolding entry_test is_calm
entry_out e = fold_out-TypedEntry Bool Bool Bool Bool Bool Bool node_calm step_calm entry_calm expr_calm link_calm suffix_calm e

-- the layer of a node, its parts tested
folded : TypedNode-F TypedNode TypedSuffixNode TypedEntry TypedExpr TypedLink TypedSuffix → Bool
folded d = node_calm (map-TypedNode TypedNode TypedSuffixNode TypedEntry TypedExpr TypedLink TypedSuffix Bool Bool Bool Bool Bool Bool node_test step_test entry_test is_calm link_test is_calm_step d)

-- the layer of a step, its parts tested
folded_step : TypedSuffixNode-F TypedNode TypedSuffixNode TypedEntry TypedExpr TypedLink TypedSuffix → Bool
folded_step d = step_calm (map-TypedSuffixNode TypedNode TypedSuffixNode TypedEntry TypedExpr TypedLink TypedSuffix Bool Bool Bool Bool Bool Bool node_test step_test entry_test is_calm link_test is_calm_step d)

-- an expression by the layer of its node
node_at : (e : TypedExpr) (d : TypedNode-F TypedNode TypedSuffixNode TypedEntry TypedExpr TypedLink TypedSuffix) → out-TypedNode (out-TypedExpr e).node ≡ d → is_calm e ≡ folded d
unfolding node_test step_test link_test entry_test folded is_calm is_calm_step
node_at e d is =
    fold_out-TypedExpr Bool Bool Bool Bool Bool Bool node_calm step_calm entry_calm expr_calm link_calm suffix_calm e
    ∙ fold_out-TypedNode Bool Bool Bool Bool Bool Bool node_calm step_calm entry_calm expr_calm link_calm suffix_calm (out-TypedExpr e).node
    ∙ ap folded is

-- a step by its layer
step_at : (u : TypedSuffix) (d : TypedSuffixNode-F TypedNode TypedSuffixNode TypedEntry TypedExpr TypedLink TypedSuffix) → out-TypedSuffixNode (out-TypedSuffix u).node ≡ d → is_calm_step u ≡ folded_step d
unfolding node_test step_test link_test entry_test folded_step is_calm is_calm_step
step_at u d is =
    fold_out-TypedSuffix Bool Bool Bool Bool Bool Bool node_calm step_calm entry_calm expr_calm link_calm suffix_calm u
    ∙ fold_out-TypedSuffixNode Bool Bool Bool Bool Bool Bool node_calm step_calm entry_calm expr_calm link_calm suffix_calm (out-TypedSuffix u).node
    ∙ ap folded_step is

-- ---- several

-- several expressions
exprs_are : (es : List TypedExpr) → all_so (map is_calm es) ≡ are_calm es
exprs_are es = list_all-map (λ p. p) is_calm es

-- several links
links_are : (ls : List TypedLink) → all_so (map link_test ls) ≡ list_all calm_link ls
links_are ls = list_all-map (λ p. p) link_test ls ∙ (λ i. list_all (λ l. link_out l i) ls)

-- several entries
entries_are : (es : List TypedEntry) → all_so (map entry_test es) ≡ list_all calm_entry es
entries_are es = list_all-map (λ p. p) entry_test es ∙ (λ i. list_all (λ e. entry_out e i) es)

-- several steps
steps_are : (us : List TypedSuffix) → all_so (map is_calm_step us) ≡ list_all is_calm_step us
steps_are us = list_all-map (λ p. p) is_calm_step us

-- ---- two parts

-- where the first part is calm, the whole is as the second one is
pub then_both : (whole a b r : Bool) → whole ≡ (a && b) → a ≡ true → r ≡ b → r ≡ whole
then_both whole a b r is first second = second ∙ sym (is ∙ ap (λ x. x && b) first)

-- ---- expressions

-- an `or` by its operands
pub or_calm : (e first : TypedExpr) (rest : List TypedExpr) → (out-TypedExpr e).node ≡ tree.Or first rest → is_calm e ≡ (is_calm first && are_calm rest)
unfolding folded
or_calm e first rest is = node_at e (layer.Or first rest) (ap out-TypedNode is ∙ tree.outs-Or first rest) ∙ ap (λ b. is_calm first && b) (exprs_are rest)

-- an `xor` by its operands
pub xor_calm : (e first : TypedExpr) (rest : List TypedExpr) → (out-TypedExpr e).node ≡ tree.Xor first rest → is_calm e ≡ (is_calm first && are_calm rest)
unfolding folded
xor_calm e first rest is = node_at e (layer.Xor first rest) (ap out-TypedNode is ∙ tree.outs-Xor first rest) ∙ ap (λ b. is_calm first && b) (exprs_are rest)

-- an `and` by its operands
pub and_calm : (e first : TypedExpr) (rest : List TypedExpr) → (out-TypedExpr e).node ≡ tree.And first rest → is_calm e ≡ (is_calm first && are_calm rest)
unfolding folded
and_calm e first rest is = node_at e (layer.And first rest) (ap out-TypedNode is ∙ tree.outs-And first rest) ∙ ap (λ b. is_calm first && b) (exprs_are rest)

-- a `not` by its operand
pub not_calm : (e x : TypedExpr) → (out-TypedExpr e).node ≡ tree.Not x → is_calm e ≡ is_calm x
unfolding folded
not_calm e x is = node_at e (layer.Not x) (ap out-TypedNode is ∙ tree.outs-Not x)

-- a comparison by its two sides
pub compare_calm : (e left right : TypedExpr) (o : Comparison) → (out-TypedExpr e).node ≡ tree.Compare left o right → is_calm e ≡ (is_calm left && is_calm right)
unfolding folded
compare_calm e left right o is = node_at e (layer.Compare left o right) (ap out-TypedNode is ∙ tree.outs-Compare left o right)

-- a sum by its operands
pub sum_calm : (e first : TypedExpr) (ls : List TypedLink) → (out-TypedExpr e).node ≡ tree.Sum first ls → is_calm e ≡ (is_calm first && list_all (λ l. is_calm (out-TypedLink l).operand) ls)
unfolding folded
sum_calm e first ls is = node_at e (layer.Sum first ls) (ap out-TypedNode is ∙ tree.outs-Sum first ls) ∙ ap (λ b. is_calm first && b) (links_are ls)

-- a product by its operands
pub product_calm : (e first : TypedExpr) (ls : List TypedLink) → (out-TypedExpr e).node ≡ tree.Product first ls → is_calm e ≡ (is_calm first && list_all (λ l. is_calm (out-TypedLink l).operand) ls)
unfolding folded
product_calm e first ls is = node_at e (layer.Product first ls) (ap out-TypedNode is ∙ tree.outs-Product first ls) ∙ ap (λ b. is_calm first && b) (links_are ls)

-- a minus by its operand
pub minus_calm : (e x : TypedExpr) → (out-TypedExpr e).node ≡ tree.Minus x → is_calm e ≡ is_calm x
unfolding folded
minus_calm e x is = node_at e (layer.Minus x) (ap out-TypedNode is ∙ tree.outs-Minus x)

-- a path by its first part and its steps
pub postfix_calm : (e first : TypedExpr) (us : List TypedSuffix) → (out-TypedExpr e).node ≡ tree.Postfix first us → is_calm e ≡ (is_calm first && list_all is_calm_step us)
unfolding folded
postfix_calm e first us is = node_at e (layer.Postfix first us) (ap out-TypedNode is ∙ tree.outs-Postfix first us) ∙ ap (λ b. is_calm first && b) (steps_are us)

-- a call of an action is never calm
pub action_calm : (e : TypedExpr) (n : ℕ) (es : List TypedExpr) → (out-TypedExpr e).node ≡ tree.Action n es → is_calm e ≡ false
unfolding folded
action_calm e n es is = node_at e (layer.Action n es) (ap out-TypedNode is ∙ tree.outs-Action n es)

-- an event by its fields
pub event_calm : (e : TypedExpr) (n : ℕ) (es : List TypedExpr) → (out-TypedExpr e).node ≡ tree.Event n es → is_calm e ≡ are_calm es
unfolding folded
event_calm e n es is = node_at e (layer.Event n es) (ap out-TypedNode is ∙ tree.outs-Event n es) ∙ exprs_are es

-- a sequence by its items
pub sequence_calm : (e : TypedExpr) (es : List TypedExpr) → (out-TypedExpr e).node ≡ tree.Sequence es → is_calm e ≡ are_calm es
unfolding folded
sequence_calm e es is = node_at e (layer.Sequence es) (ap out-TypedNode is ∙ tree.outs-Sequence es) ∙ exprs_are es

-- a dictionary by its keys and values
pub dictionary_calm : (e : TypedExpr) (ps : List TypedEntry) → (out-TypedExpr e).node ≡ tree.Dictionary ps → is_calm e ≡ list_all (λ p. is_calm (out-TypedEntry p).key && is_calm (out-TypedEntry p).value) ps
unfolding folded
dictionary_calm e ps is = node_at e (layer.Dictionary ps) (ap out-TypedNode is ∙ tree.outs-Dictionary ps) ∙ entries_are ps

-- a context by its arguments
pub context_calm : (e : TypedExpr) (es : List TypedExpr) → (out-TypedExpr e).node ≡ tree.Context es → is_calm e ≡ are_calm es
unfolding folded
context_calm e es is = node_at e (layer.Context es) (ap out-TypedNode is ∙ tree.outs-Context es) ∙ exprs_are es

-- ---- steps

-- a field is calm
pub field_calm : (u : TypedSuffix) (n : ℕ) → (out-TypedSuffix u).node ≡ step.Field n → is_calm_step u ≡ true
unfolding folded_step
field_calm u n is = step_at u (layer.Field n) (ap out-TypedSuffixNode is ∙ step.outs-Field n)

-- an element by its index
pub item_calm : (u : TypedSuffix) (e : TypedExpr) → (out-TypedSuffix u).node ≡ step.Item e → is_calm_step u ≡ is_calm e
unfolding folded_step
item_calm u e is = step_at u (layer.Item e) (ap out-TypedSuffixNode is ∙ step.outs-Item e)

-- an entry by its key
pub key_calm : (u : TypedSuffix) (e : TypedExpr) → (out-TypedSuffix u).node ≡ step.Key e → is_calm_step u ≡ is_calm e
unfolding folded_step
key_calm u e is = step_at u (layer.Key e) (ap out-TypedSuffixNode is ∙ step.outs-Key e)

-- a method by its arguments
pub method_calm : (u : TypedSuffix) (m : Method) (es : List TypedExpr) → (out-TypedSuffix u).node ≡ step.Method m es → is_calm_step u ≡ are_calm es
unfolding folded_step
method_calm u m es is = step_at u (layer.Method m es) (ap out-TypedSuffixNode is ∙ step.outs-Method m es) ∙ exprs_are es
