-- An expression that calls no action changes no variable: one induction over typed trees.
use Rattle.std.proofs.Common.{◌≡◌, Bool, true, false, List, [], ◌∷◌, map, Option, refl, sym, subst, ◌∙◌}
use Rattle.std.specs.Prelude.{◌&&◌}
use Rattle.std.specs.List.{AllByRecursion}
use Rattle.epl_values.specs.declared.shape.Shape.{Shape}
use Rattle.epl_values.specs.declared.shape.EventShape.{EventShape}
use Rattle.epl_values.specs.declared.value.Value.TheVariants as value
use Rattle.typed_program.specs.declared.expression.TypedExpr.{TypedExpr, TypedExpr-F, map-TypedExpr, roll-TypedExpr, fold-roll-TypedExpr}
use Rattle.typed_program.specs.declared.expression.TypedNode.{TypedNode, TypedNode-F, map-TypedNode, roll-TypedNode, fold-TypedNode, fold-roll-TypedNode}
use Rattle.typed_program.specs.declared.expression.TypedNode.TheOpen as node
use Rattle.typed_program.specs.declared.expression.TypedLink.{TypedLink, TypedLink-F, map-TypedLink, roll-TypedLink, fold-TypedLink, fold-roll-TypedLink}
use Rattle.typed_program.specs.declared.expression.TypedEntry.{TypedEntry, TypedEntry-F, map-TypedEntry, roll-TypedEntry, fold-TypedEntry, fold-roll-TypedEntry}
use Rattle.typed_program.specs.declared.expression.TypedSuffix.{TypedSuffix, TypedSuffix-F, map-TypedSuffix, roll-TypedSuffix, fold-roll-TypedSuffix}
use Rattle.typed_program.specs.declared.expression.TypedSuffixNode.{TypedSuffixNode, TypedSuffixNode-F, map-TypedSuffixNode, roll-TypedSuffixNode, fold-TypedSuffixNode, fold-roll-TypedSuffixNode}
use Rattle.typed_program.specs.declared.expression.TypedNode.TheFolds.{ind-TypedExpr, ind-TypedSuffix}
use Rattle.body_meaning.specs.Expressions.{Calls, Meant, Reach, Pairing, Linking, NodeMeant, node_meant, step_meant, entry_meant, expr_meant, link_meant, suffix_meant, postfix_value, meaning_of, reach_of, value_of}
use Rattle.calm_exprs.specs.Calm.{all_so, node_calm, step_calm, entry_calm, expr_calm, link_calm, suffix_calm, is_calm, is_calm_step}
use Rattle.walk_laws.proofs.Still.{Still, StillLink, StillEntry, StillStep, still_pure, still_given, still_look, still_bind, still_two, still_all, still_or, still_and, still_xor, still_links, still_entries, still_reach, still_called, still_context, still_current}

-- of two that hold, the first
pub both_left : (a b : Bool) → (a && b) ≡ true → a ≡ true
both_left true b h = refl
both_left false b h = cc

-- of two that hold, the second
pub both_right : (a b : Bool) → (a && b) ≡ true → b ≡ true
both_right true b h = h
both_right false b h = cc

-- what is claimed of each holds of all, where each passes its test
all_held : {A B : Type 0} (P : B → Type 0) (test : A → Bool) (made : A → B) (xs : List ((x : A) × (test x ≡ true → P (made x)))) → all_so (map test (map (λ e. e.0) xs)) ≡ true → AllByRecursion P (map made (map (λ e. e.0) xs))
all_held P test made [] h = tt
all_held P test made (x ∷ xs) h = (x.1 (both_left (test x.0) (all_so (map test (map (λ e. e.0) xs))) h), all_held P test made xs (both_right (test x.0) (all_so (map test (map (λ e. e.0) xs))) h))

module _ (types : List EventShape) (call : Calls) where
  abbrev node_of : TypedNode → NodeMeant
  node_of = fold-TypedNode NodeMeant Reach Pairing Meant Linking Reach (node_meant types call) (step_meant types) (entry_meant types call) (expr_meant types call) (link_meant types call) (suffix_meant types call)

  abbrev step_of : TypedSuffixNode → Reach
  step_of = fold-TypedSuffixNode NodeMeant Reach Pairing Meant Linking Reach (node_meant types call) (step_meant types) (entry_meant types call) (expr_meant types call) (link_meant types call) (suffix_meant types call)

  abbrev linking_of : TypedLink → Linking
  linking_of = fold-TypedLink NodeMeant Reach Pairing Meant Linking Reach (node_meant types call) (step_meant types) (entry_meant types call) (expr_meant types call) (link_meant types call) (suffix_meant types call)

  abbrev pairing_of : TypedEntry → Pairing
  pairing_of = fold-TypedEntry NodeMeant Reach Pairing Meant Linking Reach (node_meant types call) (step_meant types) (entry_meant types call) (expr_meant types call) (link_meant types call) (suffix_meant types call)

  abbrev node_test : TypedNode → Bool
  node_test = fold-TypedNode Bool Bool Bool Bool Bool Bool node_calm step_calm entry_calm expr_calm link_calm suffix_calm

  abbrev step_test : TypedSuffixNode → Bool
  step_test = fold-TypedSuffixNode Bool Bool Bool Bool Bool Bool node_calm step_calm entry_calm expr_calm link_calm suffix_calm

  abbrev link_test : TypedLink → Bool
  link_test = fold-TypedLink Bool Bool Bool Bool Bool Bool node_calm step_calm entry_calm expr_calm link_calm suffix_calm

  abbrev entry_test : TypedEntry → Bool
  entry_test = fold-TypedEntry Bool Bool Bool Bool Bool Bool node_calm step_calm entry_calm expr_calm link_calm suffix_calm

  -- what an expression means is no change of a variable
  record StillExpr (m : Meant) : Type 0 where
    pub value : Still m.value

  record StillNode (n : NodeMeant) : Type 0 where
    pub at_shape : (s : Option Shape) → StillExpr (n s)

  -- what is claimed of each kind of tree
  abbrev ForNode : TypedNode → Type 0
  ForNode n = node_test n ≡ true → StillNode (node_of n)

  abbrev ForStep : TypedSuffixNode → Type 0
  ForStep n = step_test n ≡ true → StillStep (step_of n)

  abbrev ForEntry : TypedEntry → Type 0
  ForEntry e = entry_test e ≡ true → StillEntry (pairing_of e)

  abbrev ForExpr : TypedExpr → Type 0
  ForExpr e = is_calm e ≡ true → StillExpr (meaning_of types call e)

  abbrev ForLink : TypedLink → Type 0
  ForLink l = link_test l ≡ true → StillLink (linking_of l)

  abbrev ForSuffix : TypedSuffix → Type 0
  ForSuffix u = is_calm_step u ≡ true → StillStep (reach_of types call u)

  abbrev HeldNode : Type 0
  HeldNode = (n : TypedNode) × ForNode n

  abbrev HeldStep : Type 0
  HeldStep = (n : TypedSuffixNode) × ForStep n

  abbrev HeldEntry : Type 0
  HeldEntry = (e : TypedEntry) × ForEntry e

  abbrev HeldExpr : Type 0
  HeldExpr = (e : TypedExpr) × ForExpr e

  abbrev HeldLink : Type 0
  HeldLink = (l : TypedLink) × ForLink l

  abbrev HeldSuffix : Type 0
  HeldSuffix = (u : TypedSuffix) × ForSuffix u

  values_still : (ms : List Meant) → AllByRecursion StillExpr ms → AllByRecursion Still (map (λ (m : Meant). m.value) ms)
  values_still [] h = tt
  values_still (m ∷ ms) h = (h.0.value, values_still ms h.1)

  exprs_still : (es : List HeldExpr) → all_so (map is_calm (map (λ e. e.0) es)) ≡ true → AllByRecursion Still (map (λ (m : Meant). m.value) (map (meaning_of types call) (map (λ e. e.0) es)))
  exprs_still es h = values_still _ (all_held StillExpr is_calm (meaning_of types call) es h)

  postfix_still : (m : Meant) (rs : List Reach) → StillExpr m → AllByRecursion StillStep rs → Still (postfix_value m rs)
  unfolding postfix_value
  postfix_still m rs first later = still_bind _ first.value (λ v. still_reach rs v later)

  -- ---- nodes

  abbrev node_trees : TypedNode-F HeldNode HeldStep HeldEntry HeldExpr HeldLink HeldSuffix → TypedNode-F TypedNode TypedSuffixNode TypedEntry TypedExpr TypedLink TypedSuffix
  node_trees y = map-TypedNode HeldNode HeldStep HeldEntry HeldExpr HeldLink HeldSuffix TypedNode TypedSuffixNode TypedEntry TypedExpr TypedLink TypedSuffix (λ e. e.0) (λ e. e.0) (λ e. e.0) (λ e. e.0) (λ e. e.0) (λ e. e.0) y

  abbrev node_parts : TypedNode-F TypedNode TypedSuffixNode TypedEntry TypedExpr TypedLink TypedSuffix → TypedNode-F NodeMeant Reach Pairing Meant Linking Reach
  node_parts x = map-TypedNode TypedNode TypedSuffixNode TypedEntry TypedExpr TypedLink TypedSuffix NodeMeant Reach Pairing Meant Linking Reach node_of step_of pairing_of (meaning_of types call) linking_of (reach_of types call) x

  abbrev node_tested : TypedNode-F TypedNode TypedSuffixNode TypedEntry TypedExpr TypedLink TypedSuffix → TypedNode-F Bool Bool Bool Bool Bool Bool
  node_tested x = map-TypedNode TypedNode TypedSuffixNode TypedEntry TypedExpr TypedLink TypedSuffix Bool Bool Bool Bool Bool Bool node_test step_test entry_test is_calm link_test is_calm_step x

  node_at : (y : TypedNode-F HeldNode HeldStep HeldEntry HeldExpr HeldLink HeldSuffix) → node_calm (node_tested (node_trees y)) ≡ true → (s : Option Shape) → Still (node_meant types call (node_parts (node_trees y)) s).value
  node_at (node.Integer n) h s = still_pure _
  node_at (node.Text t) h s = still_pure _
  node_at (node.Boolean b) h s = still_pure _
  node_at (node.Global n) h s = still_look _
  node_at (node.Local n) h s = still_look _
  node_at (node.Or first rest) h s =
      let later = exprs_still rest (both_right (is_calm first.0) _ h) in
      still_bind _ (first.1 (both_left (is_calm first.0) _ h)).value (λ v. still_or _ v later)
  node_at (node.Xor first rest) h s =
      let later = exprs_still rest (both_right (is_calm first.0) _ h) in
      still_bind _ (first.1 (both_left (is_calm first.0) _ h)).value (λ v. still_xor _ v later)
  node_at (node.And first rest) h s =
      let later = exprs_still rest (both_right (is_calm first.0) _ h) in
      still_bind _ (first.1 (both_left (is_calm first.0) _ h)).value (λ v. still_and _ v later)
  node_at (node.Not e) h s = still_bind _ (e.1 h).value (λ v. still_pure _)
  node_at (node.Compare left c right) h s = still_bind _ (still_two (left.1 (both_left (is_calm left.0) _ h)).value (right.1 (both_right (is_calm left.0) _ h)).value) (λ p. still_pure _)
  node_at (node.Sum first links) h s =
      let later = all_held StillLink link_test linking_of links (both_right (is_calm first.0) _ h) in
      still_bind _ (first.1 (both_left (is_calm first.0) _ h)).value (λ v. still_links _ v later)
  node_at (node.Product first links) h s =
      let later = all_held StillLink link_test linking_of links (both_right (is_calm first.0) _ h) in
      still_bind _ (first.1 (both_left (is_calm first.0) _ h)).value (λ v. still_links _ v later)
  node_at (node.Minus e) h s = still_bind _ (e.1 h).value (λ v. still_given _)
  node_at (node.Postfix first steps) h s =
      let later = all_held StillStep is_calm_step (reach_of types call) steps (both_right (is_calm first.0) _ h) in
      postfix_still _ _ (first.1 (both_left (is_calm first.0) _ h)) later
  node_at (node.Action n es) h s = cc
  node_at (node.Event n es) h s = still_bind _ (still_all _ (exprs_still es h)) (λ vs. still_pure _)
  node_at (node.Sequence es) h s = still_bind _ (still_all _ (exprs_still es h)) (λ vs. still_pure _)
  node_at (node.Dictionary ps) h s = still_bind _ (still_entries [] _ (all_held StillEntry entry_test pairing_of ps h)) (λ pairs. still_pure _)
  node_at node.Default h s = still_pure _
  node_at (node.Context es) h s = still_bind _ (still_all _ (exprs_still es h)) still_context
  node_at node.ContextCurrent h s = still_current
  node_at (node.Tenths n) h s = still_pure _

  node_case : (x : TypedNode-F TypedNode TypedSuffixNode TypedEntry TypedExpr TypedLink TypedSuffix) (y : TypedNode-F HeldNode HeldStep HeldEntry HeldExpr HeldLink HeldSuffix) → node_trees y ≡ x → ForNode (roll-TypedNode x)
  unfolding is_calm is_calm_step meaning_of reach_of
  node_case x y is = subst (λ (z : TypedNode-F TypedNode TypedSuffixNode TypedEntry TypedExpr TypedLink TypedSuffix). ForNode (roll-TypedNode z)) is
      (subst (λ (n : NodeMeant). node_test (roll-TypedNode (node_trees y)) ≡ true → StillNode n) (sym (fold-roll-TypedNode NodeMeant Reach Pairing Meant Linking Reach (node_meant types call) (step_meant types) (entry_meant types call) (expr_meant types call) (link_meant types call) (suffix_meant types call) (node_trees y)))
      (λ h. let told = sym (fold-roll-TypedNode Bool Bool Bool Bool Bool Bool node_calm step_calm entry_calm expr_calm link_calm suffix_calm (node_trees y)) ∙ h in record { at_shape = λ s. record { value = node_at y told s } }))

  -- ---- steps

  abbrev step_trees : TypedSuffixNode-F HeldNode HeldStep HeldEntry HeldExpr HeldLink HeldSuffix → TypedSuffixNode-F TypedNode TypedSuffixNode TypedEntry TypedExpr TypedLink TypedSuffix
  step_trees y = map-TypedSuffixNode HeldNode HeldStep HeldEntry HeldExpr HeldLink HeldSuffix TypedNode TypedSuffixNode TypedEntry TypedExpr TypedLink TypedSuffix (λ e. e.0) (λ e. e.0) (λ e. e.0) (λ e. e.0) (λ e. e.0) (λ e. e.0) y

  abbrev step_parts : TypedSuffixNode-F TypedNode TypedSuffixNode TypedEntry TypedExpr TypedLink TypedSuffix → TypedSuffixNode-F NodeMeant Reach Pairing Meant Linking Reach
  step_parts x = map-TypedSuffixNode TypedNode TypedSuffixNode TypedEntry TypedExpr TypedLink TypedSuffix NodeMeant Reach Pairing Meant Linking Reach node_of step_of pairing_of (meaning_of types call) linking_of (reach_of types call) x

  abbrev step_tested : TypedSuffixNode-F TypedNode TypedSuffixNode TypedEntry TypedExpr TypedLink TypedSuffix → TypedSuffixNode-F Bool Bool Bool Bool Bool Bool
  step_tested x = map-TypedSuffixNode TypedNode TypedSuffixNode TypedEntry TypedExpr TypedLink TypedSuffix Bool Bool Bool Bool Bool Bool node_test step_test entry_test is_calm link_test is_calm_step x

  step_at : (y : TypedSuffixNode-F HeldNode HeldStep HeldEntry HeldExpr HeldLink HeldSuffix) → step_calm (step_tested (step_trees y)) ≡ true → StillStep (step_meant types (step_parts (step_trees y)))
  step_at (node.Field n) h = record { from = λ v. still_given _ }
  step_at (node.Item e) h = record { from = λ v. still_bind _ (e.1 h).value (λ i. still_given _) }
  step_at (node.Key e) h = record { from = λ v. still_bind _ (e.1 h).value (λ i. still_given _) }
  step_at (node.Method m es) h = record { from = λ v. still_bind _ (still_all _ (exprs_still es h)) (λ arguments. still_called types m v arguments) }

  step_case : (x : TypedSuffixNode-F TypedNode TypedSuffixNode TypedEntry TypedExpr TypedLink TypedSuffix) (y : TypedSuffixNode-F HeldNode HeldStep HeldEntry HeldExpr HeldLink HeldSuffix) → step_trees y ≡ x → ForStep (roll-TypedSuffixNode x)
  unfolding is_calm meaning_of
  step_case x y is = subst (λ (z : TypedSuffixNode-F TypedNode TypedSuffixNode TypedEntry TypedExpr TypedLink TypedSuffix). ForStep (roll-TypedSuffixNode z)) is
      (subst (λ (r : Reach). step_test (roll-TypedSuffixNode (step_trees y)) ≡ true → StillStep r) (sym (fold-roll-TypedSuffixNode NodeMeant Reach Pairing Meant Linking Reach (node_meant types call) (step_meant types) (entry_meant types call) (expr_meant types call) (link_meant types call) (suffix_meant types call) (step_trees y)))
      (λ h. step_at y (sym (fold-roll-TypedSuffixNode Bool Bool Bool Bool Bool Bool node_calm step_calm entry_calm expr_calm link_calm suffix_calm (step_trees y)) ∙ h)))

  -- ---- what holds nodes

  abbrev entry_trees : TypedEntry-F HeldNode HeldStep HeldEntry HeldExpr HeldLink HeldSuffix → TypedEntry-F TypedNode TypedSuffixNode TypedEntry TypedExpr TypedLink TypedSuffix
  entry_trees y = map-TypedEntry HeldNode HeldStep HeldEntry HeldExpr HeldLink HeldSuffix TypedNode TypedSuffixNode TypedEntry TypedExpr TypedLink TypedSuffix (λ e. e.0) (λ e. e.0) (λ e. e.0) (λ e. e.0) (λ e. e.0) (λ e. e.0) y

  entry_case : (x : TypedEntry-F TypedNode TypedSuffixNode TypedEntry TypedExpr TypedLink TypedSuffix) (y : TypedEntry-F HeldNode HeldStep HeldEntry HeldExpr HeldLink HeldSuffix) → entry_trees y ≡ x → ForEntry (roll-TypedEntry x)
  unfolding meaning_of is_calm
  entry_case x y is = subst (λ (z : TypedEntry-F TypedNode TypedSuffixNode TypedEntry TypedExpr TypedLink TypedSuffix). ForEntry (roll-TypedEntry z)) is
      (subst (λ (p : Pairing). entry_test (roll-TypedEntry (entry_trees y)) ≡ true → StillEntry p) (sym (fold-roll-TypedEntry NodeMeant Reach Pairing Meant Linking Reach (node_meant types call) (step_meant types) (entry_meant types call) (expr_meant types call) (link_meant types call) (suffix_meant types call) (entry_trees y)))
      (λ h.
      let told : (is_calm y.key.0 && is_calm y.value.0) ≡ true = sym (fold-roll-TypedEntry Bool Bool Bool Bool Bool Bool node_calm step_calm entry_calm expr_calm link_calm suffix_calm (entry_trees y)) ∙ h in
      record { key = (y.key.1 (both_left (is_calm y.key.0) (is_calm y.value.0) told)).value; value = (y.value.1 (both_right (is_calm y.key.0) (is_calm y.value.0) told)).value }))

  abbrev expr_trees : TypedExpr-F HeldNode HeldStep HeldEntry HeldExpr HeldLink HeldSuffix → TypedExpr-F TypedNode TypedSuffixNode TypedEntry TypedExpr TypedLink TypedSuffix
  expr_trees y = map-TypedExpr HeldNode HeldStep HeldEntry HeldExpr HeldLink HeldSuffix TypedNode TypedSuffixNode TypedEntry TypedExpr TypedLink TypedSuffix (λ e. e.0) (λ e. e.0) (λ e. e.0) (λ e. e.0) (λ e. e.0) (λ e. e.0) y

  expr_case : (x : TypedExpr-F TypedNode TypedSuffixNode TypedEntry TypedExpr TypedLink TypedSuffix) (y : TypedExpr-F HeldNode HeldStep HeldEntry HeldExpr HeldLink HeldSuffix) → expr_trees y ≡ x → ForExpr (roll-TypedExpr x)
  unfolding meaning_of is_calm
  expr_case x y is = subst (λ (z : TypedExpr-F TypedNode TypedSuffixNode TypedEntry TypedExpr TypedLink TypedSuffix). ForExpr (roll-TypedExpr z)) is
      (subst (λ (m : Meant). is_calm (roll-TypedExpr (expr_trees y)) ≡ true → StillExpr m) (sym (fold-roll-TypedExpr NodeMeant Reach Pairing Meant Linking Reach (node_meant types call) (step_meant types) (entry_meant types call) (expr_meant types call) (link_meant types call) (suffix_meant types call) (expr_trees y)))
      (λ h. (y.node.1 (sym (fold-roll-TypedExpr Bool Bool Bool Bool Bool Bool node_calm step_calm entry_calm expr_calm link_calm suffix_calm (expr_trees y)) ∙ h)).at_shape y.shape))

  abbrev link_trees : TypedLink-F HeldNode HeldStep HeldEntry HeldExpr HeldLink HeldSuffix → TypedLink-F TypedNode TypedSuffixNode TypedEntry TypedExpr TypedLink TypedSuffix
  link_trees y = map-TypedLink HeldNode HeldStep HeldEntry HeldExpr HeldLink HeldSuffix TypedNode TypedSuffixNode TypedEntry TypedExpr TypedLink TypedSuffix (λ e. e.0) (λ e. e.0) (λ e. e.0) (λ e. e.0) (λ e. e.0) (λ e. e.0) y

  link_case : (x : TypedLink-F TypedNode TypedSuffixNode TypedEntry TypedExpr TypedLink TypedSuffix) (y : TypedLink-F HeldNode HeldStep HeldEntry HeldExpr HeldLink HeldSuffix) → link_trees y ≡ x → ForLink (roll-TypedLink x)
  unfolding meaning_of is_calm
  link_case x y is = subst (λ (z : TypedLink-F TypedNode TypedSuffixNode TypedEntry TypedExpr TypedLink TypedSuffix). ForLink (roll-TypedLink z)) is
      (subst (λ (l : Linking). link_test (roll-TypedLink (link_trees y)) ≡ true → StillLink l) (sym (fold-roll-TypedLink NodeMeant Reach Pairing Meant Linking Reach (node_meant types call) (step_meant types) (entry_meant types call) (expr_meant types call) (link_meant types call) (suffix_meant types call) (link_trees y)))
      (λ h. record { operand = (y.operand.1 (sym (fold-roll-TypedLink Bool Bool Bool Bool Bool Bool node_calm step_calm entry_calm expr_calm link_calm suffix_calm (link_trees y)) ∙ h)).value }))

  abbrev suffix_trees : TypedSuffix-F HeldNode HeldStep HeldEntry HeldExpr HeldLink HeldSuffix → TypedSuffix-F TypedNode TypedSuffixNode TypedEntry TypedExpr TypedLink TypedSuffix
  suffix_trees y = map-TypedSuffix HeldNode HeldStep HeldEntry HeldExpr HeldLink HeldSuffix TypedNode TypedSuffixNode TypedEntry TypedExpr TypedLink TypedSuffix (λ e. e.0) (λ e. e.0) (λ e. e.0) (λ e. e.0) (λ e. e.0) (λ e. e.0) y

  suffix_case : (x : TypedSuffix-F TypedNode TypedSuffixNode TypedEntry TypedExpr TypedLink TypedSuffix) (y : TypedSuffix-F HeldNode HeldStep HeldEntry HeldExpr HeldLink HeldSuffix) → suffix_trees y ≡ x → ForSuffix (roll-TypedSuffix x)
  unfolding reach_of is_calm_step
  suffix_case x y is = subst (λ (z : TypedSuffix-F TypedNode TypedSuffixNode TypedEntry TypedExpr TypedLink TypedSuffix). ForSuffix (roll-TypedSuffix z)) is
      (subst (λ (r : Reach). is_calm_step (roll-TypedSuffix (suffix_trees y)) ≡ true → StillStep r) (sym (fold-roll-TypedSuffix NodeMeant Reach Pairing Meant Linking Reach (node_meant types call) (step_meant types) (entry_meant types call) (expr_meant types call) (link_meant types call) (suffix_meant types call) (suffix_trees y)))
      (λ h. y.node.1 (sym (fold-roll-TypedSuffix Bool Bool Bool Bool Bool Bool node_calm step_calm entry_calm expr_calm link_calm suffix_calm (suffix_trees y)) ∙ h)))

  expr_still : (e : TypedExpr) → ForExpr e
  expr_still = ind-TypedExpr ForNode ForStep ForEntry ForExpr ForLink ForSuffix node_case step_case entry_case expr_case link_case suffix_case

  -- the value of an expression that calls no action
  pub calm_value : (e : TypedExpr) → is_calm e ≡ true → Still (value_of types call e)
  calm_value e h = (expr_still e h).value

  -- a step whose parts call no action, from any value
  pub calm_step : (u : TypedSuffix) → is_calm_step u ≡ true → StillStep (reach_of types call u)
  calm_step = ind-TypedSuffix ForNode ForStep ForEntry ForExpr ForLink ForSuffix node_case step_case entry_case expr_case link_case suffix_case
