-- Which expressions are places, and which are values where they stand as statements.
use Rattle.std.proofs.Common.{◌≡◌, ℕ, true, false, List, [], ◌∷◌, ◌++◌, map, Option, Some, None, length, refl, sym, ap, ◌∙◌, arith}
use Rattle.std.specs.Prelude.{is_some, ◌&&◌}
use Rattle.std.specs.List.{list_all}
use Rattle.epl_values.specs.declared.shape.EventShape.{EventShape}
use Rattle.epl_values.specs.declared.value.Value.{Value}
use Rattle.typed_program.specs.declared.expression.Method.{Method}
use Rattle.typed_program.specs.declared.expression.Method.TheVariants as method
use Rattle.typed_program.specs.declared.expression.TypedEntry.{TypedEntry, fold-TypedEntry}
use Rattle.typed_program.specs.declared.expression.TypedExpr.{TypedExpr, out-TypedExpr, fold_out-TypedExpr}
use Rattle.typed_program.specs.declared.expression.TypedLink.{TypedLink, fold-TypedLink}
use Rattle.typed_program.specs.declared.expression.TypedNode.{TypedNode, TypedNode-F, map-TypedNode, out-TypedNode, roll-TypedNode, roll-out-TypedNode, fold-TypedNode, fold_out-TypedNode}
use Rattle.typed_program.specs.declared.expression.TypedNode.TheOpen as layer
use Rattle.typed_program.specs.declared.expression.TypedNode.TheVariants as tree
use Rattle.typed_program.specs.declared.expression.TypedSuffix.{TypedSuffix, out-TypedSuffix}
use Rattle.typed_program.specs.declared.expression.TypedSuffixNode.{TypedSuffixNode, TypedSuffixNode-F, out-TypedSuffixNode, roll-TypedSuffixNode, roll-out-TypedSuffixNode, fold-TypedSuffixNode}
use Rattle.typed_program.specs.declared.expression.TypedSuffixNode.TheVariants as step
use Rattle.typed_program.specs.declared.statement.Variable.{Variable}
use Rattle.typed_program.specs.declared.statement.Variable.TheVariants as variable
use Rattle.body_meaning.specs.Runs.{M}
use Rattle.body_meaning.specs.Expressions.{Calls, Meant, Reach, Place, Change, Pairing, Linking, NodeMeant, node_meant, step_meant, entry_meant, expr_meant, link_meant, suffix_meant, meaning_of, reach_of, all_values, moves_of, further, place_behind, change_at_end, but_last, change_by, change_place, run_at, postfix_value}
use Rattle.body_meaning.specs.Statements.{moves_in}
use Rattle.walk_rules.proofs.Forms.{postfix_is, field_step_is, item_step_is, key_step_is}
use Rattle.walk_laws.proofs.Changing.{moves_unfound, global_place, local_place, run_unchanged, run_methods, run_changes_at, run_stepless, postfix_place, placed_further, field_moves, item_moves, key_moves, method_unmoved, method_change}
use Rattle.stmt_walker.specs.Steps.{changes, leads_on, is_move}
use Rattle.stmt_walker.specs.Roots.{Roots, Begins}
use Rattle.stmt_walker.specs.declared.changing.ChangeIn.{ChangeIn}
use Rattle.stmt_walker.specs.Found.{ChangesAt}

-- a method that changes its object is the change of its step
pub changed_by_method : (m : Method) (arguments : M (List Value)) → changes m ≡ true → change_by m arguments ≡ Some (record { method = m; arguments = arguments })
changed_by_method method.ToString arguments h = cc
changed_by_method method.Length arguments h = cc
changed_by_method method.Substring arguments h = cc
changed_by_method method.Size arguments h = cc
changed_by_method method.IndexOf arguments h = cc
changed_by_method method.HasKey arguments h = cc
changed_by_method method.Keys arguments h = cc
changed_by_method method.Append arguments h = refl
changed_by_method method.Remove arguments h = refl
changed_by_method method.Clear arguments h = refl
changed_by_method method.Add arguments h = refl
changed_by_method method.Clone arguments h = cc
changed_by_method method.Quit arguments h = cc

-- any other method is none
pub unchanged_by_method : (m : Method) (arguments : M (List Value)) → changes m ≡ false → change_by m arguments ≡ None
unchanged_by_method method.ToString arguments h = refl
unchanged_by_method method.Length arguments h = refl
unchanged_by_method method.Substring arguments h = refl
unchanged_by_method method.Size arguments h = refl
unchanged_by_method method.IndexOf arguments h = refl
unchanged_by_method method.HasKey arguments h = refl
unchanged_by_method method.Keys arguments h = refl
unchanged_by_method method.Append arguments h = cc
unchanged_by_method method.Remove arguments h = cc
unchanged_by_method method.Clear arguments h = cc
unchanged_by_method method.Add arguments h = cc
unchanged_by_method method.Clone arguments h = refl
unchanged_by_method method.Quit arguments h = refl

-- without a place it is a value
placeless : (c : Option Change) (m : M Value) → run_at None c m ≡ m
placeless None m = refl
placeless (Some c) m = refl

-- behind a step that is none of a place there is no place
nowhere_behind : (p : Option Place) (rs : List Reach) → moves_of rs ≡ None → place_behind p rs ≡ None
nowhere_behind None rs h = refl
nowhere_behind (Some p) rs h = ap (further p) h

-- a meaning that is a value, under another name
value_as : (m n : Meant) → m ≡ n → n.run ≡ n.value → m.run ≡ m.value
value_as m n is same = ap (λ (x : Meant). x.run) is ∙ same ∙ sym (ap (λ (x : Meant). x.value) is)

-- a meaning that is no place, under another name
placeless_as : (m n : Meant) → m ≡ n → n.place ≡ None → m.place ≡ None
placeless_as m n is none = ap (λ (x : Meant). x.place) is ∙ none

module _ (types : List EventShape) (call : Calls) where
  -- what a node means
  node_of : TypedNode → NodeMeant
  node_of = fold-TypedNode NodeMeant Reach Pairing Meant Linking Reach (node_meant types call) (step_meant types) (entry_meant types call) (expr_meant types call) (link_meant types call) (suffix_meant types call)

  -- what a step means
  step_of : TypedSuffixNode → Reach
  step_of = fold-TypedSuffixNode NodeMeant Reach Pairing Meant Linking Reach (node_meant types call) (step_meant types) (entry_meant types call) (expr_meant types call) (link_meant types call) (suffix_meant types call)

  -- what an operator with its operand means
  linking_of : TypedLink → Linking
  linking_of = fold-TypedLink NodeMeant Reach Pairing Meant Linking Reach (node_meant types call) (step_meant types) (entry_meant types call) (expr_meant types call) (link_meant types call) (suffix_meant types call)

  -- what an entry means
  pairing_of : TypedEntry → Pairing
  pairing_of = fold-TypedEntry NodeMeant Reach Pairing Meant Linking Reach (node_meant types call) (step_meant types) (entry_meant types call) (expr_meant types call) (link_meant types call) (suffix_meant types call)

  -- what the layer of a node means
  folded : TypedNode-F TypedNode TypedSuffixNode TypedEntry TypedExpr TypedLink TypedSuffix → NodeMeant
  folded d = node_meant types call (map-TypedNode TypedNode TypedSuffixNode TypedEntry TypedExpr TypedLink TypedSuffix NodeMeant Reach Pairing Meant Linking Reach node_of step_of pairing_of (meaning_of types call) linking_of (reach_of types call) d)

  -- an expression by the layer of its node
  node_at : (e : TypedExpr) (d : TypedNode-F TypedNode TypedSuffixNode TypedEntry TypedExpr TypedLink TypedSuffix) → out-TypedNode (out-TypedExpr e).node ≡ d → meaning_of types call e ≡ folded d (out-TypedExpr e).shape
  unfolding node_of step_of linking_of pairing_of folded meaning_of reach_of
  node_at e d is =
      fold_out-TypedExpr NodeMeant Reach Pairing Meant Linking Reach (node_meant types call) (step_meant types) (entry_meant types call) (expr_meant types call) (link_meant types call) (suffix_meant types call) e
      ∙ ap (λ (n : NodeMeant). n (out-TypedExpr e).shape) (fold_out-TypedNode NodeMeant Reach Pairing Meant Linking Reach (node_meant types call) (step_meant types) (entry_meant types call) (expr_meant types call) (link_meant types call) (suffix_meant types call) (out-TypedExpr e).node)
      ∙ ap (λ (x : TypedNode-F TypedNode TypedSuffixNode TypedEntry TypedExpr TypedLink TypedSuffix). folded x (out-TypedExpr e).shape) is

  module _ (e : TypedExpr) (no_chain : (first : TypedExpr) (steps : List TypedSuffix) → (out-TypedExpr e).node ≡ tree.Postfix first steps → ⊥) where
    -- by the layer of the node
    value_at : (d : TypedNode-F TypedNode TypedSuffixNode TypedEntry TypedExpr TypedLink TypedSuffix) → out-TypedNode (out-TypedExpr e).node ≡ d → (meaning_of types call e).run ≡ (meaning_of types call e).value
    unfolding folded
    value_at (layer.Integer n) is = value_as _ _ (node_at e (layer.Integer n) is) refl
    value_at (layer.Text t) is = value_as _ _ (node_at e (layer.Text t) is) refl
    value_at (layer.Boolean b) is = value_as _ _ (node_at e (layer.Boolean b) is) refl
    value_at (layer.Global n) is = value_as _ _ (node_at e (layer.Global n) is) refl
    value_at (layer.Local n) is = value_as _ _ (node_at e (layer.Local n) is) refl
    value_at (layer.Or x es) is = value_as _ _ (node_at e (layer.Or x es) is) refl
    value_at (layer.Xor x es) is = value_as _ _ (node_at e (layer.Xor x es) is) refl
    value_at (layer.And x es) is = value_as _ _ (node_at e (layer.And x es) is) refl
    value_at (layer.Not x) is = value_as _ _ (node_at e (layer.Not x) is) refl
    value_at (layer.Compare x o y) is = value_as _ _ (node_at e (layer.Compare x o y) is) refl
    value_at (layer.Sum x ls) is = value_as _ _ (node_at e (layer.Sum x ls) is) refl
    value_at (layer.Product x ls) is = value_as _ _ (node_at e (layer.Product x ls) is) refl
    value_at (layer.Minus x) is = value_as _ _ (node_at e (layer.Minus x) is) refl
    value_at (layer.Postfix x us) is = absurd (no_chain x us (sym (roll-out-TypedNode (out-TypedExpr e).node) ∙ ap roll-TypedNode is ∙ tree.rolls-Postfix x us))
    value_at (layer.Action n es) is = value_as _ _ (node_at e (layer.Action n es) is) refl
    value_at (layer.Event n es) is = value_as _ _ (node_at e (layer.Event n es) is) refl
    value_at (layer.Sequence es) is = value_as _ _ (node_at e (layer.Sequence es) is) refl
    value_at (layer.Dictionary ps) is = value_as _ _ (node_at e (layer.Dictionary ps) is) refl
    value_at layer.Default is = value_as _ _ (node_at e layer.Default is) refl
    value_at (layer.Context es) is = value_as _ _ (node_at e (layer.Context es) is) refl
    value_at layer.ContextCurrent is = value_as _ _ (node_at e layer.ContextCurrent is) refl
    value_at (layer.Tenths n) is = value_as _ _ (node_at e (layer.Tenths n) is) refl

    -- what is no chain of steps is a value as a statement
    pub value_alone : (meaning_of types call e).run ≡ (meaning_of types call e).value
    value_alone = value_at (out-TypedNode (out-TypedExpr e).node) refl

    module _ (no_global : (n : ℕ) → (out-TypedExpr e).node ≡ tree.Global n → ⊥) (no_local : (n : ℕ) → (out-TypedExpr e).node ≡ tree.Local n → ⊥) where
      -- by the layer of the node
      placeless_at : (d : TypedNode-F TypedNode TypedSuffixNode TypedEntry TypedExpr TypedLink TypedSuffix) → out-TypedNode (out-TypedExpr e).node ≡ d → (meaning_of types call e).place ≡ None
      unfolding folded
      placeless_at (layer.Integer n) is = placeless_as _ _ (node_at e (layer.Integer n) is) refl
      placeless_at (layer.Text t) is = placeless_as _ _ (node_at e (layer.Text t) is) refl
      placeless_at (layer.Boolean b) is = placeless_as _ _ (node_at e (layer.Boolean b) is) refl
      placeless_at (layer.Global n) is = absurd (no_global n (sym (roll-out-TypedNode (out-TypedExpr e).node) ∙ ap roll-TypedNode is ∙ tree.rolls-Global n))
      placeless_at (layer.Local n) is = absurd (no_local n (sym (roll-out-TypedNode (out-TypedExpr e).node) ∙ ap roll-TypedNode is ∙ tree.rolls-Local n))
      placeless_at (layer.Or x es) is = placeless_as _ _ (node_at e (layer.Or x es) is) refl
      placeless_at (layer.Xor x es) is = placeless_as _ _ (node_at e (layer.Xor x es) is) refl
      placeless_at (layer.And x es) is = placeless_as _ _ (node_at e (layer.And x es) is) refl
      placeless_at (layer.Not x) is = placeless_as _ _ (node_at e (layer.Not x) is) refl
      placeless_at (layer.Compare x o y) is = placeless_as _ _ (node_at e (layer.Compare x o y) is) refl
      placeless_at (layer.Sum x ls) is = placeless_as _ _ (node_at e (layer.Sum x ls) is) refl
      placeless_at (layer.Product x ls) is = placeless_as _ _ (node_at e (layer.Product x ls) is) refl
      placeless_at (layer.Minus x) is = placeless_as _ _ (node_at e (layer.Minus x) is) refl
      placeless_at (layer.Postfix x us) is = absurd (no_chain x us (sym (roll-out-TypedNode (out-TypedExpr e).node) ∙ ap roll-TypedNode is ∙ tree.rolls-Postfix x us))
      placeless_at (layer.Action n es) is = placeless_as _ _ (node_at e (layer.Action n es) is) refl
      placeless_at (layer.Event n es) is = placeless_as _ _ (node_at e (layer.Event n es) is) refl
      placeless_at (layer.Sequence es) is = placeless_as _ _ (node_at e (layer.Sequence es) is) refl
      placeless_at (layer.Dictionary ps) is = placeless_as _ _ (node_at e (layer.Dictionary ps) is) refl
      placeless_at layer.Default is = placeless_as _ _ (node_at e layer.Default is) refl
      placeless_at (layer.Context es) is = placeless_as _ _ (node_at e (layer.Context es) is) refl
      placeless_at layer.ContextCurrent is = placeless_as _ _ (node_at e layer.ContextCurrent is) refl
      placeless_at (layer.Tenths n) is = placeless_as _ _ (node_at e (layer.Tenths n) is) refl

      -- what is no variable and no chain of steps is no place
      pub placeless_alone : (meaning_of types call e).place ≡ None
      placeless_alone = placeless_at (out-TypedNode (out-TypedExpr e).node) refl

  -- ---- steps

  -- a step leads on where it is one of a place, by its layer
  leads_at : (u : TypedSuffix) (d : TypedSuffixNode-F TypedNode TypedSuffixNode TypedEntry TypedExpr TypedLink TypedSuffix) → out-TypedSuffixNode (out-TypedSuffix u).node ≡ d → leads_on d ≡ is_some (reach_of types call u).move
  leads_at u (layer.Field n) is = sym (field_moves types call u n (sym (roll-out-TypedSuffixNode (out-TypedSuffix u).node) ∙ ap roll-TypedSuffixNode is ∙ step.rolls-Field n))
  leads_at u (layer.Item x) is = sym (item_moves types call u x (sym (roll-out-TypedSuffixNode (out-TypedSuffix u).node) ∙ ap roll-TypedSuffixNode is ∙ step.rolls-Item x))
  leads_at u (layer.Key x) is = sym (key_moves types call u x (sym (roll-out-TypedSuffixNode (out-TypedSuffix u).node) ∙ ap roll-TypedSuffixNode is ∙ step.rolls-Key x))
  leads_at u (layer.Method m es) is = sym (method_unmoved types call u m es (sym (roll-out-TypedSuffixNode (out-TypedSuffix u).node) ∙ ap roll-TypedSuffixNode is ∙ step.rolls-Method m es))

  -- a step leads on where it is one of a place
  step_leads : (u : TypedSuffix) → is_move u ≡ is_some (reach_of types call u).move
  step_leads u = leads_at u (out-TypedSuffixNode (out-TypedSuffix u).node) refl

  -- and so for several steps
  steps_lead : (us : List TypedSuffix) → list_all is_move us ≡ list_all (λ (r : Reach). is_some r.move) (map (reach_of types call) us)
  steps_lead [] = refl
  steps_lead (u ∷ us) = ap (λ b. b && list_all is_move us) (step_leads u) ∙ ap (λ b. is_some (reach_of types call u).move && b) (steps_lead us)

  module _ (u : TypedSuffix) (no_method : (m : Method) (es : List TypedExpr) → (out-TypedSuffix u).node ≡ step.Method m es → ⊥) where
    -- by the layer of the step
    leads_only : (d : TypedSuffixNode-F TypedNode TypedSuffixNode TypedEntry TypedExpr TypedLink TypedSuffix) → out-TypedSuffixNode (out-TypedSuffix u).node ≡ d → (reach_of types call u).change ≡ None
    leads_only (layer.Field n) is = ap (λ (r : Reach). r.change) (field_step_is types call u n (sym (roll-out-TypedSuffixNode (out-TypedSuffix u).node) ∙ ap roll-TypedSuffixNode is ∙ step.rolls-Field n))
    leads_only (layer.Item x) is = ap (λ (r : Reach). r.change) (item_step_is types call u x (sym (roll-out-TypedSuffixNode (out-TypedSuffix u).node) ∙ ap roll-TypedSuffixNode is ∙ step.rolls-Item x))
    leads_only (layer.Key x) is = ap (λ (r : Reach). r.change) (key_step_is types call u x (sym (roll-out-TypedSuffixNode (out-TypedSuffix u).node) ∙ ap roll-TypedSuffixNode is ∙ step.rolls-Key x))
    leads_only (layer.Method m es) is = absurd (no_method m es (sym (roll-out-TypedSuffixNode (out-TypedSuffix u).node) ∙ ap roll-TypedSuffixNode is ∙ step.rolls-Method m es))

    -- a step that is no method changes nothing
    pub no_change_in : (reach_of types call u).change ≡ None
    no_change_in = leads_only (out-TypedSuffixNode (out-TypedSuffix u).node) refl

  -- ---- where a path begins

  -- a global begins at itself
  pub root_global : (e : TypedExpr) (n : ℕ) → (out-TypedExpr e).node ≡ tree.Global n → Begins types call e (variable.Global n)
  root_global e n is = record { place = record { variable = variable.Global n; moves = [] }; is = global_place types call e n is; behind = refl }

  -- a local begins at itself
  pub root_local : (e : TypedExpr) (n : ℕ) → (out-TypedExpr e).node ≡ tree.Local n → Begins types call e (variable.Local n)
  root_local e n is = record { place = record { variable = variable.Local n; moves = [] }; is = local_place types call e n is; behind = refl }

  -- a chain of steps that lead on begins where its first part does
  pub root_further : (e first : TypedExpr) (steps : List TypedSuffix) (r : Option Variable) → (out-TypedExpr e).node ≡ tree.Postfix first steps → list_all is_move steps ≡ true → Roots types call first r → Roots types call e r
  root_further e first steps None is lead none = postfix_place types call e first steps is ∙ ap (λ p. place_behind p (map (reach_of types call) steps)) none
  root_further e first steps (Some x) is lead begins = record { place = record { variable = begins.place.variable; moves = begins.place.moves ++ moves_in (map (reach_of types call) steps) }; is = placed_further types call e first steps begins.place is begins.is (sym (steps_lead steps) ∙ lead); behind = begins.behind }

  -- a chain with a method in it is no place
  pub root_methods : (e first : TypedExpr) (steps : List TypedSuffix) → (out-TypedExpr e).node ≡ tree.Postfix first steps → list_all is_move steps ≡ false → (meaning_of types call e).place ≡ None
  root_methods e first steps is methods = postfix_place types call e first steps is ∙ nowhere_behind (meaning_of types call first).place (map (reach_of types call) steps) (moves_unfound (map (reach_of types call) steps) (sym (steps_lead steps) ∙ methods))

  -- ---- what a chain of steps does as a statement

  -- a chain whose first part is no place is a value
  pub value_unplaced : (e first : TypedExpr) (steps : List TypedSuffix) → (out-TypedExpr e).node ≡ tree.Postfix first steps → (meaning_of types call first).place ≡ None → (meaning_of types call e).run ≡ (meaning_of types call e).value
  value_unplaced e first steps is none =
      let rs = map (reach_of types call) steps in
      let m = meaning_of types call first in
      value_as _ _ (postfix_is types call e first steps is) (ap (λ p. run_at (place_behind p (but_last rs)) (change_at_end rs) (postfix_value m rs)) none ∙ placeless (change_at_end rs) (postfix_value m rs))

  -- a chain without steps is a value
  pub value_stepless : (e first : TypedExpr) (steps : List TypedSuffix) → (out-TypedExpr e).node ≡ tree.Postfix first steps → length steps ≡ 0 → (meaning_of types call e).run ≡ (meaning_of types call e).value
  value_stepless e first [] is none = run_stepless types call e first is
  value_stepless e first (u ∷ us) is none = absurd (omega arith)

  module _ (e first : TypedExpr) (steps before : List TypedSuffix) (last : TypedSuffix) (is : (out-TypedExpr e).node ≡ tree.Postfix first steps) (split : steps ≡ before ++ last ∷ []) where
    -- where the last step is no method, it is a value
    pub value_reached : ((m : Method) (es : List TypedExpr) → (out-TypedSuffix last).node ≡ step.Method m es → ⊥) → (meaning_of types call e).run ≡ (meaning_of types call e).value
    value_reached no_method = run_unchanged types call e first before last (is ∙ ap (tree.Postfix first) split) (no_change_in last no_method)

    module _ (m : Method) (es : List TypedExpr) (called : (out-TypedSuffix last).node ≡ step.Method m es) where
      -- where the method changes nothing, it is a value
      pub value_called : changes m ≡ false → (meaning_of types call e).run ≡ (meaning_of types call e).value
      value_called h = run_unchanged types call e first before last (is ∙ ap (tree.Postfix first) split) (method_change types call last m es called ∙ unchanged_by_method m (all_values types call es) h)

      -- where a step before it is a method, it is a value
      pub value_behind : list_all is_move before ≡ false → (meaning_of types call e).run ≡ (meaning_of types call e).value
      value_behind h = run_methods types call e first before last (is ∙ ap (tree.Postfix first) split) (moves_unfound (map (reach_of types call) before) (sym (steps_lead before) ∙ h))

      -- and else it changes the place that the path and the steps lead to
      pub change_there : (x : Variable) (begins : Begins types call first x) → changes m ≡ true → list_all is_move before ≡ true → (meaning_of types call e).run ≡ change_place (record { variable = begins.place.variable; moves = begins.place.moves ++ moves_in (map (reach_of types call) before) }) (record { method = m; arguments = all_values types call es })
      change_there x begins h lead = run_changes_at types call e first before last (is ∙ ap (tree.Postfix first) split) begins.place (record { method = m; arguments = all_values types call es }) begins.is (sym (steps_lead before) ∙ lead) (method_change types call last m es called ∙ changed_by_method m (all_values types call es) h)

  -- what is found where an expression is a change
  pub change_found : (e first : TypedExpr) (steps : List TypedSuffix) (last : TypedSuffix) (es : List TypedExpr) (to : ChangeIn) → (out-TypedExpr e).node ≡ tree.Postfix first steps → steps ≡ to.steps.now ++ last ∷ [] → (out-TypedSuffix last).node ≡ step.Method to.method es → to.path.now ≡ first → to.arguments.now ≡ es → Begins types call first to.variable → changes to.method ≡ true → list_all is_move to.steps.now ≡ true → ChangesAt types call e to
  change_found e first steps last es to is split called path arguments begins h lead = record {
    place = begins.place;
    is = ap (λ x. (meaning_of types call x).place) path ∙ begins.is;
    behind = begins.behind;
    run = change_there e first steps to.steps.now last is split to.method es called to.variable begins h lead
        ∙ ap (λ xs. change_place (record { variable = begins.place.variable; moves = begins.place.moves ++ moves_in (map (reach_of types call) to.steps.now) }) (record { method = to.method; arguments = all_values types call xs })) (sym arguments);
  }
