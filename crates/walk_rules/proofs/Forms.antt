-- What each form of expression means, as an equation.
use Rattle.std.proofs.Common.{◌≡◌, ◌∷◌}
use Rattle.walk_rules.proofs.Common.{ℕ, Bool, List, [], map, refl, ap, ◌∙◌, EventShape, Value, TypedExpr, M, all, truth_of, Calls, Reach, Pairing, Linking, value_of, or_from, xor_from, and_from, links_from, entries_behind}
use Rattle.std.specs.Prelude.{ℤ, not}
use Rattle.epl_values.specs.declared.value.Value.TheVariants as value
use Rattle.epl_tree.specs.declared.expression.Comparison.{Comparison}
use Rattle.typed_program.specs.declared.expression.Method.{Method}
use Rattle.typed_program.specs.declared.expression.TypedExpr.{out-TypedExpr, fold_out-TypedExpr}
use Rattle.typed_program.specs.declared.expression.TypedNode.{TypedNode, TypedNode-F, map-TypedNode, out-TypedNode, fold-TypedNode, fold_out-TypedNode}
use Rattle.typed_program.specs.declared.expression.TypedNode.TheOpen as layer
use Rattle.typed_program.specs.declared.expression.TypedNode.TheVariants as tree
use Rattle.typed_program.specs.declared.expression.TypedLink.{TypedLink, fold-TypedLink, fold_out-TypedLink}
use Rattle.typed_program.specs.declared.expression.TypedEntry.{TypedEntry, fold-TypedEntry, fold_out-TypedEntry}
use Rattle.typed_program.specs.declared.expression.TypedSuffix.{TypedSuffix, out-TypedSuffix, fold_out-TypedSuffix}
use Rattle.typed_program.specs.declared.expression.TypedSuffixNode.{TypedSuffixNode, TypedSuffixNode-F, map-TypedSuffixNode, out-TypedSuffixNode, fold-TypedSuffixNode, fold_out-TypedSuffixNode}
use Rattle.typed_program.specs.declared.expression.TypedSuffixNode.TheVariants as step
use Rattle.typed_program.specs.declared.statement.Variable.TheVariants as variable
use Rattle.body_meaning.specs.Runs.{◌>>=◌, pure, given, two}
use Rattle.body_meaning.specs.Values.{negated, compared}
use Rattle.body_meaning.specs.Effects.{make_context, current}
use Rattle.body_meaning.specs.Expressions.{Meant, NodeMeant, node_meant, step_meant, entry_meant, expr_meant, link_meant, suffix_meant, meaning_of, reach_of, all_values, valued, read, postfix, default_by, reach_by, item_move, key_move}
use Rattle.walk_rules.specs.Parts.{link_of, entry_of, field_reach, method_reach}

fused : {A B C : Type 0} (g : B → C) (h : A → B) (xs : List A) → map g (map h xs) ≡ map (λ x. g (h x)) xs
fused g h [] = refl
fused g h (x ∷ xs) = ap (λ ys. g (h x) ∷ ys) (fused g h xs)

same_all : {A B : Type 0} (g h : A → B) → ((x : A) → g x ≡ h x) → (xs : List A) → map g xs ≡ map h xs
same_all g h is [] = refl
same_all g h is (x ∷ xs) = ap (λ y. y ∷ map g xs) (is x) ∙ ap (λ ys. h x ∷ ys) (same_all g h is xs)

-- the value of an expression that is nothing but a value
pub value_by : {e : Meant} {m : M Value} → e ≡ valued m → e.value ≡ m
value_by is = ap (λ (e : Meant). e.value) is

-- what it does as a statement
pub run_by : {e : Meant} {m : M Value} → e ≡ valued m → e.run ≡ m
run_by is = ap (λ (e : Meant). e.run) is

module _ (types : List EventShape) (call : Calls) where
  node_of : TypedNode → NodeMeant
  node_of = fold-TypedNode NodeMeant Reach Pairing Meant Linking Reach (node_meant types call) (step_meant types) (entry_meant types call) (expr_meant types call) (link_meant types call) (suffix_meant types call)

  step_of : TypedSuffixNode → Reach
  step_of = fold-TypedSuffixNode NodeMeant Reach Pairing Meant Linking Reach (node_meant types call) (step_meant types) (entry_meant types call) (expr_meant types call) (link_meant types call) (suffix_meant types call)

  linking_of : TypedLink → Linking
  linking_of = fold-TypedLink NodeMeant Reach Pairing Meant Linking Reach (node_meant types call) (step_meant types) (entry_meant types call) (expr_meant types call) (link_meant types call) (suffix_meant types call)

  pairing_of : TypedEntry → Pairing
  pairing_of = fold-TypedEntry NodeMeant Reach Pairing Meant Linking Reach (node_meant types call) (step_meant types) (entry_meant types call) (expr_meant types call) (link_meant types call) (suffix_meant types call)

  link_out : (l : TypedLink) → linking_of l ≡ link_of types call l
  unfolding linking_of meaning_of
  link_out l = fold_out-TypedLink NodeMeant Reach Pairing Meant Linking Reach (node_meant types call) (step_meant types) (entry_meant types call) (expr_meant types call) (link_meant types call) (suffix_meant types call) l

  entry_out : (e : TypedEntry) → pairing_of e ≡ entry_of types call e
  unfolding pairing_of meaning_of
  entry_out e = fold_out-TypedEntry NodeMeant Reach Pairing Meant Linking Reach (node_meant types call) (step_meant types) (entry_meant types call) (expr_meant types call) (link_meant types call) (suffix_meant types call) e

  folded : TypedNode-F TypedNode TypedSuffixNode TypedEntry TypedExpr TypedLink TypedSuffix → NodeMeant
  folded d = node_meant types call (map-TypedNode TypedNode TypedSuffixNode TypedEntry TypedExpr TypedLink TypedSuffix NodeMeant Reach Pairing Meant Linking Reach node_of step_of pairing_of (meaning_of types call) linking_of (reach_of types call) d)

  folded_step : TypedSuffixNode-F TypedNode TypedSuffixNode TypedEntry TypedExpr TypedLink TypedSuffix → Reach
  folded_step d = step_meant types (map-TypedSuffixNode TypedNode TypedSuffixNode TypedEntry TypedExpr TypedLink TypedSuffix NodeMeant Reach Pairing Meant Linking Reach node_of step_of pairing_of (meaning_of types call) linking_of (reach_of types call) d)

  -- an expression by the layer of its node
  node_at : (e : TypedExpr) (d : TypedNode-F TypedNode TypedSuffixNode TypedEntry TypedExpr TypedLink TypedSuffix) → out-TypedNode (out-TypedExpr e).node ≡ d → meaning_of types call e ≡ folded d (out-TypedExpr e).shape
  unfolding node_of step_of linking_of pairing_of folded meaning_of reach_of
  node_at e d is =
      fold_out-TypedExpr NodeMeant Reach Pairing Meant Linking Reach (node_meant types call) (step_meant types) (entry_meant types call) (expr_meant types call) (link_meant types call) (suffix_meant types call) e
      ∙ ap (λ (n : NodeMeant). n (out-TypedExpr e).shape) (fold_out-TypedNode NodeMeant Reach Pairing Meant Linking Reach (node_meant types call) (step_meant types) (entry_meant types call) (expr_meant types call) (link_meant types call) (suffix_meant types call) (out-TypedExpr e).node)
      ∙ ap (λ (x : TypedNode-F TypedNode TypedSuffixNode TypedEntry TypedExpr TypedLink TypedSuffix). folded x (out-TypedExpr e).shape) is

  step_at : (u : TypedSuffix) (d : TypedSuffixNode-F TypedNode TypedSuffixNode TypedEntry TypedExpr TypedLink TypedSuffix) → out-TypedSuffixNode (out-TypedSuffix u).node ≡ d → reach_of types call u ≡ folded_step d
  unfolding node_of step_of linking_of pairing_of folded_step meaning_of reach_of
  step_at u d is =
      fold_out-TypedSuffix NodeMeant Reach Pairing Meant Linking Reach (node_meant types call) (step_meant types) (entry_meant types call) (expr_meant types call) (link_meant types call) (suffix_meant types call) u
      ∙ fold_out-TypedSuffixNode NodeMeant Reach Pairing Meant Linking Reach (node_meant types call) (step_meant types) (entry_meant types call) (expr_meant types call) (link_meant types call) (suffix_meant types call) (out-TypedSuffix u).node
      ∙ ap folded_step is

  values_are : (es : List TypedExpr) → map (λ (m : Meant). m.value) (map (meaning_of types call) es) ≡ map (value_of types call) es
  values_are es = fused (λ (m : Meant). m.value) (meaning_of types call) es

  -- ---- expressions

  pub integer_is : (e : TypedExpr) (n : ℤ) → (out-TypedExpr e).node ≡ tree.Integer n → meaning_of types call e ≡ valued (pure (value.Integer n))
  unfolding folded
  integer_is e n is = node_at e (layer.Integer n) (ap out-TypedNode is ∙ tree.outs-Integer n)

  pub text_is : (e : TypedExpr) (t : List ℕ) → (out-TypedExpr e).node ≡ tree.Text t → meaning_of types call e ≡ valued (pure (value.Text t))
  unfolding folded
  text_is e t is = node_at e (layer.Text t) (ap out-TypedNode is ∙ tree.outs-Text t)

  pub boolean_is : (e : TypedExpr) (b : Bool) → (out-TypedExpr e).node ≡ tree.Boolean b → meaning_of types call e ≡ valued (pure (value.Boolean b))
  unfolding folded
  boolean_is e b is = node_at e (layer.Boolean b) (ap out-TypedNode is ∙ tree.outs-Boolean b)

  pub global_is : (e : TypedExpr) (n : ℕ) → (out-TypedExpr e).node ≡ tree.Global n → meaning_of types call e ≡ read (variable.Global n)
  unfolding folded
  global_is e n is = node_at e (layer.Global n) (ap out-TypedNode is ∙ tree.outs-Global n)

  pub local_is : (e : TypedExpr) (n : ℕ) → (out-TypedExpr e).node ≡ tree.Local n → meaning_of types call e ≡ read (variable.Local n)
  unfolding folded
  local_is e n is = node_at e (layer.Local n) (ap out-TypedNode is ∙ tree.outs-Local n)

  pub or_is : (e : TypedExpr) (first : TypedExpr) (rest : List TypedExpr) → (out-TypedExpr e).node ≡ tree.Or first rest → meaning_of types call e ≡ valued (value_of types call first >>= or_from (map (value_of types call) rest))
  unfolding folded
  or_is e first rest is = node_at e (layer.Or first rest) (ap out-TypedNode is ∙ tree.outs-Or first rest) ∙ ap (λ (ms : List (M Value)). valued (value_of types call first >>= or_from (ms))) (values_are rest)

  pub xor_is : (e : TypedExpr) (first : TypedExpr) (rest : List TypedExpr) → (out-TypedExpr e).node ≡ tree.Xor first rest → meaning_of types call e ≡ valued (value_of types call first >>= xor_from (map (value_of types call) rest))
  unfolding folded
  xor_is e first rest is = node_at e (layer.Xor first rest) (ap out-TypedNode is ∙ tree.outs-Xor first rest) ∙ ap (λ (ms : List (M Value)). valued (value_of types call first >>= xor_from (ms))) (values_are rest)

  pub and_is : (e : TypedExpr) (first : TypedExpr) (rest : List TypedExpr) → (out-TypedExpr e).node ≡ tree.And first rest → meaning_of types call e ≡ valued (value_of types call first >>= and_from (map (value_of types call) rest))
  unfolding folded
  and_is e first rest is = node_at e (layer.And first rest) (ap out-TypedNode is ∙ tree.outs-And first rest) ∙ ap (λ (ms : List (M Value)). valued (value_of types call first >>= and_from (ms))) (values_are rest)

  pub not_is : (e : TypedExpr) (operand : TypedExpr) → (out-TypedExpr e).node ≡ tree.Not operand → meaning_of types call e ≡ valued (value_of types call operand >>= (λ v. pure (value.Boolean (not (truth_of v)))))
  unfolding folded
  not_is e operand is = node_at e (layer.Not operand) (ap out-TypedNode is ∙ tree.outs-Not operand)

  pub compare_is : (e : TypedExpr) (left : TypedExpr) (c : Comparison) (right : TypedExpr) → (out-TypedExpr e).node ≡ tree.Compare left c right → meaning_of types call e ≡ valued (two (value_of types call left) (value_of types call right) >>= (λ p. pure (compared c p.0 p.1)))
  unfolding folded
  compare_is e left c right is = node_at e (layer.Compare left c right) (ap out-TypedNode is ∙ tree.outs-Compare left c right)

  pub sum_is : (e : TypedExpr) (first : TypedExpr) (links : List TypedLink) → (out-TypedExpr e).node ≡ tree.Sum first links → meaning_of types call e ≡ valued (value_of types call first >>= links_from (map (link_of types call) links))
  unfolding folded
  sum_is e first links is = node_at e (layer.Sum first links) (ap out-TypedNode is ∙ tree.outs-Sum first links) ∙ ap (λ (ms : List Linking). valued (value_of types call first >>= links_from (ms))) (same_all linking_of (link_of types call) link_out links)

  pub product_is : (e : TypedExpr) (first : TypedExpr) (links : List TypedLink) → (out-TypedExpr e).node ≡ tree.Product first links → meaning_of types call e ≡ valued (value_of types call first >>= links_from (map (link_of types call) links))
  unfolding folded
  product_is e first links is = node_at e (layer.Product first links) (ap out-TypedNode is ∙ tree.outs-Product first links) ∙ ap (λ (ms : List Linking). valued (value_of types call first >>= links_from (ms))) (same_all linking_of (link_of types call) link_out links)

  pub minus_is : (e : TypedExpr) (operand : TypedExpr) → (out-TypedExpr e).node ≡ tree.Minus operand → meaning_of types call e ≡ valued (value_of types call operand >>= (λ v. given (negated v)))
  unfolding folded
  minus_is e operand is = node_at e (layer.Minus operand) (ap out-TypedNode is ∙ tree.outs-Minus operand)

  pub postfix_is : (e : TypedExpr) (first : TypedExpr) (steps : List TypedSuffix) → (out-TypedExpr e).node ≡ tree.Postfix first steps → meaning_of types call e ≡ postfix (meaning_of types call first) (map (reach_of types call) steps)
  unfolding folded
  postfix_is e first steps is = node_at e (layer.Postfix first steps) (ap out-TypedNode is ∙ tree.outs-Postfix first steps)

  pub action_is : (e : TypedExpr) (n : ℕ) (arguments : List TypedExpr) → (out-TypedExpr e).node ≡ tree.Action n arguments → meaning_of types call e ≡ valued (all (map (value_of types call) arguments) >>= call n)
  unfolding folded
  action_is e n arguments is = node_at e (layer.Action n arguments) (ap out-TypedNode is ∙ tree.outs-Action n arguments) ∙ ap (λ (ms : List (M Value)). valued (all (ms) >>= call n)) (values_are arguments)

  pub event_is : (e : TypedExpr) (n : ℕ) (fields : List TypedExpr) → (out-TypedExpr e).node ≡ tree.Event n fields → meaning_of types call e ≡ valued (all (map (value_of types call) fields) >>= (λ vs. pure (value.Event n vs)))
  unfolding folded
  event_is e n fields is = node_at e (layer.Event n fields) (ap out-TypedNode is ∙ tree.outs-Event n fields) ∙ ap (λ (ms : List (M Value)). valued (all (ms) >>= (λ vs. pure (value.Event n vs)))) (values_are fields)

  pub sequence_is : (e : TypedExpr) (items : List TypedExpr) → (out-TypedExpr e).node ≡ tree.Sequence items → meaning_of types call e ≡ valued (all (map (value_of types call) items) >>= (λ vs. pure (value.Sequence vs)))
  unfolding folded
  sequence_is e items is = node_at e (layer.Sequence items) (ap out-TypedNode is ∙ tree.outs-Sequence items) ∙ ap (λ (ms : List (M Value)). valued (all (ms) >>= (λ vs. pure (value.Sequence vs)))) (values_are items)

  pub dictionary_is : (e : TypedExpr) (entries : List TypedEntry) → (out-TypedExpr e).node ≡ tree.Dictionary entries → meaning_of types call e ≡ valued (entries_behind [] (map (entry_of types call) entries) >>= (λ pairs. pure (value.Dictionary pairs)))
  unfolding folded
  dictionary_is e entries is = node_at e (layer.Dictionary entries) (ap out-TypedNode is ∙ tree.outs-Dictionary entries) ∙ ap (λ (ms : List Pairing). valued (entries_behind [] (ms) >>= (λ pairs. pure (value.Dictionary pairs)))) (same_all pairing_of (entry_of types call) entry_out entries)

  pub default_is : (e : TypedExpr) → (out-TypedExpr e).node ≡ tree.Default → meaning_of types call e ≡ valued (pure (default_by types (out-TypedExpr e).shape))
  unfolding folded
  default_is e is = node_at e layer.Default (ap out-TypedNode is ∙ tree.outs-Default)

  pub context_is : (e : TypedExpr) (arguments : List TypedExpr) → (out-TypedExpr e).node ≡ tree.Context arguments → meaning_of types call e ≡ valued (all (map (value_of types call) arguments) >>= make_context)
  unfolding folded
  context_is e arguments is = node_at e (layer.Context arguments) (ap out-TypedNode is ∙ tree.outs-Context arguments) ∙ ap (λ (ms : List (M Value)). valued (all (ms) >>= make_context)) (values_are arguments)

  pub current_is : (e : TypedExpr) → (out-TypedExpr e).node ≡ tree.ContextCurrent → meaning_of types call e ≡ valued current
  unfolding folded
  current_is e is = node_at e layer.ContextCurrent (ap out-TypedNode is ∙ tree.outs-ContextCurrent)

  pub tenths_is : (e : TypedExpr) (n : ℤ) → (out-TypedExpr e).node ≡ tree.Tenths n → meaning_of types call e ≡ valued (pure (value.Integer n))
  unfolding folded
  tenths_is e n is = node_at e (layer.Tenths n) (ap out-TypedNode is ∙ tree.outs-Tenths n)

  -- ---- steps

  pub field_step_is : (u : TypedSuffix) (n : ℕ) → (out-TypedSuffix u).node ≡ step.Field n → reach_of types call u ≡ field_reach n
  unfolding folded_step
  field_step_is u n is = step_at u (layer.Field n) (ap out-TypedSuffixNode is ∙ step.outs-Field n)

  pub item_step_is : (u : TypedSuffix) (e : TypedExpr) → (out-TypedSuffix u).node ≡ step.Item e → reach_of types call u ≡ reach_by (meaning_of types call e) item_move
  unfolding folded_step
  item_step_is u e is = step_at u (layer.Item e) (ap out-TypedSuffixNode is ∙ step.outs-Item e)

  pub key_step_is : (u : TypedSuffix) (e : TypedExpr) → (out-TypedSuffix u).node ≡ step.Key e → reach_of types call u ≡ reach_by (meaning_of types call e) key_move
  unfolding folded_step
  key_step_is u e is = step_at u (layer.Key e) (ap out-TypedSuffixNode is ∙ step.outs-Key e)

  pub method_step_is : (u : TypedSuffix) (method : Method) (es : List TypedExpr) → (out-TypedSuffix u).node ≡ step.Method method es → reach_of types call u ≡ method_reach types method (all_values types call es)
  unfolding folded_step
  method_step_is u method es is = step_at u (layer.Method method es) (ap out-TypedSuffixNode is ∙ step.outs-Method method es) ∙ ap (λ (ms : List (M Value)). method_reach types method (all ms)) (values_are es)

pub ruleset expression_forms = (integer_is, text_is, boolean_is, global_is, local_is, or_is, xor_is, and_is, not_is, compare_is, sum_is, product_is, minus_is, postfix_is, action_is, event_is, sequence_is, dictionary_is, default_is, context_is, current_is, tenths_is, value_by, run_by)

pub ruleset step_forms = (field_step_is, item_step_is, key_step_is, method_step_is)
