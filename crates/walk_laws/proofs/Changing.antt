-- Where an expression as a statement changes a variable in place.
use Rattle.std.proofs.Common.{◌≡◌, ℕ, true, false, List, [], ◌∷◌, ◌++◌, map, Option, Some, None, refl, sym, ap, ◌∙◌}
use Rattle.std.specs.Prelude.{is_some, ◌&&◌}
use Rattle.std.specs.List.{list_all}
use Rattle.epl_values.specs.declared.shape.EventShape.{EventShape}
use Rattle.epl_values.specs.declared.value.Value.{Value}
use Rattle.typed_program.specs.declared.expression.Method.{Method}
use Rattle.typed_program.specs.declared.expression.TypedExpr.{TypedExpr, out-TypedExpr}
use Rattle.typed_program.specs.declared.expression.TypedNode.TheVariants as tree
use Rattle.typed_program.specs.declared.expression.TypedSuffix.{TypedSuffix, out-TypedSuffix}
use Rattle.typed_program.specs.declared.expression.TypedSuffixNode.TheVariants as step
use Rattle.typed_program.specs.declared.statement.Variable.{Variable}
use Rattle.typed_program.specs.declared.statement.Variable.TheVariants as variable
use Rattle.body_meaning.specs.declared.run.Move.{Move}
use Rattle.body_meaning.specs.Runs.{M}
use Rattle.body_meaning.specs.Expressions.{Calls, Meant, Reach, Place, Change, with_move, moves_of, further, place_behind, change_at_end, but_last, change_by, change_place, run_at, postfix_value, meaning_of, reach_of, all_values}
use Rattle.body_meaning.specs.Statements.{move_of, moves_in}
use Rattle.walk_rules.proofs.Forms.{global_is, local_is, postfix_is, field_step_is, item_step_is, key_step_is, method_step_is}
use Rattle.walk_laws.proofs.Calming.{both_left, both_right}

-- ---- steps before the last one

-- the change of the last step
pub change_at_last : (rs : List Reach) (r : Reach) → change_at_end (rs ++ r ∷ []) ≡ r.change
change_at_last [] r = refl
change_at_last (q ∷ []) r = refl
change_at_last (q ∷ s ∷ rs) r = change_at_last (s ∷ rs) r

-- the steps before the last one
pub before_last : (rs : List Reach) (r : Reach) → but_last (rs ++ r ∷ []) ≡ rs
before_last [] r = refl
before_last (q ∷ []) r = refl
before_last (q ∷ s ∷ rs) r = ap (λ l. q ∷ l) (before_last (s ∷ rs) r)

with_all : (o : Option (M Move)) (rs : List Reach) → is_some o ≡ true → moves_of rs ≡ Some (moves_in rs) → with_move o (moves_of rs) ≡ Some (move_of o ∷ moves_in rs)
with_all None rs some h = cc
with_all (Some m) rs some h = ap (λ ms. with_move (Some m) ms) h

-- where each step is one of a place, they are the steps of the place
pub moves_found : (rs : List Reach) → list_all (λ (r : Reach). is_some r.move) rs ≡ true → moves_of rs ≡ Some (moves_in rs)
moves_found [] h = refl
moves_found (r ∷ rs) h =
    let rest = list_all (λ (r : Reach). is_some r.move) rs in
    with_all r.move rs (both_left (is_some r.move) rest h) (moves_found rs (both_right (is_some r.move) rest h))

-- and where one isn't, there is no place
pub moves_unfound : (rs : List Reach) → list_all (λ (r : Reach). is_some r.move) rs ≡ false → moves_of rs ≡ None
moves_unfound [] h = cc
moves_unfound (r ∷ rs) h = by_first r.move rs h (λ k. moves_unfound rs k) where
  by_first : (o : Option (M Move)) (rs : List Reach) → (is_some o && list_all (λ (r : Reach). is_some r.move) rs) ≡ false → (list_all (λ (r : Reach). is_some r.move) rs ≡ false → moves_of rs ≡ None) → with_move o (moves_of rs) ≡ None
  by_first None rs h rest = refl
  by_first (Some m) rs h rest = ap (λ ms. with_move (Some m) ms) (rest h)

-- ---- a place behind a variable

no_place : (c : Option Change) (m : M Value) → run_at None c m ≡ m
no_place None m = refl
no_place (Some c) m = refl

no_change : (p : Option Place) (m : M Value) → run_at p None m ≡ m
no_change None m = refl
no_change (Some p) m = refl

behind_none : (p : Option Place) (rs : List Reach) → moves_of rs ≡ None → place_behind p rs ≡ None
behind_none None rs h = refl
behind_none (Some p) rs h = ap (further p) h

module _ (types : List EventShape) (call : Calls) where
  reaches_last : (us : List TypedSuffix) (u : TypedSuffix) → map (reach_of types call) (us ++ u ∷ []) ≡ map (reach_of types call) us ++ reach_of types call u ∷ []
  reaches_last [] u = refl
  reaches_last (q ∷ us) u = ap (λ l. reach_of types call q ∷ l) (reaches_last us u)

  -- a global is a place
  pub global_place : (e : TypedExpr) (n : ℕ) → (out-TypedExpr e).node ≡ tree.Global n → (meaning_of types call e).place ≡ Some (record { variable = variable.Global n; moves = [] })
  global_place e n is = ap (λ (m : Meant). m.place) (global_is types call e n is)

  -- a local is a place
  pub local_place : (e : TypedExpr) (n : ℕ) → (out-TypedExpr e).node ≡ tree.Local n → (meaning_of types call e).place ≡ Some (record { variable = variable.Local n; moves = [] })
  local_place e n is = ap (λ (m : Meant). m.place) (local_is types call e n is)

  -- what a chain of steps does as a statement
  pub postfix_run : (e first : TypedExpr) (before : List TypedSuffix) (last : TypedSuffix) → (out-TypedExpr e).node ≡ tree.Postfix first (before ++ last ∷ []) → (meaning_of types call e).run ≡ run_at (place_behind (meaning_of types call first).place (map (reach_of types call) before)) (reach_of types call last).change (meaning_of types call e).value
  postfix_run e first before last is =
      let all = postfix_is types call e first (before ++ last ∷ []) is in
      let rs = map (reach_of types call) before in
      let r = reach_of types call last in
      ap (λ (m : Meant). m.run) all
      ∙ ap (λ l. run_at (place_behind (meaning_of types call first).place (but_last l)) (change_at_end l) (postfix_value (meaning_of types call first) (map (reach_of types call) (before ++ last ∷ [])))) (reaches_last before last)
      ∙ ap (λ l. run_at (place_behind (meaning_of types call first).place l) (change_at_end (rs ++ r ∷ [])) (postfix_value (meaning_of types call first) (map (reach_of types call) (before ++ last ∷ [])))) (before_last rs r)
      ∙ ap (λ c. run_at (place_behind (meaning_of types call first).place rs) c (postfix_value (meaning_of types call first) (map (reach_of types call) (before ++ last ∷ [])))) (change_at_last rs r)
      ∙ ap (λ m. run_at (place_behind (meaning_of types call first).place rs) r.change m) (sym (ap (λ (m : Meant). m.value) all))

  module _ (e first : TypedExpr) (before : List TypedSuffix) (last : TypedSuffix) (is : (out-TypedExpr e).node ≡ tree.Postfix first (before ++ last ∷ [])) where
    -- where there is no place, it is a value
    pub run_unplaced : (meaning_of types call first).place ≡ None → (meaning_of types call e).run ≡ (meaning_of types call e).value
    run_unplaced none = postfix_run e first before last is ∙ ap (λ p. run_at (place_behind p (map (reach_of types call) before)) (reach_of types call last).change (meaning_of types call e).value) none ∙ no_place (reach_of types call last).change (meaning_of types call e).value

    -- where a step before the last one is none of a place, it is a value
    pub run_methods : moves_of (map (reach_of types call) before) ≡ None → (meaning_of types call e).run ≡ (meaning_of types call e).value
    run_methods none = postfix_run e first before last is ∙ ap (λ p. run_at p (reach_of types call last).change (meaning_of types call e).value) (behind_none (meaning_of types call first).place (map (reach_of types call) before) none) ∙ no_place (reach_of types call last).change (meaning_of types call e).value

    -- where the last step changes nothing, it is a value
    pub run_unchanged : (reach_of types call last).change ≡ None → (meaning_of types call e).run ≡ (meaning_of types call e).value
    run_unchanged none = postfix_run e first before last is ∙ ap (λ c. run_at (place_behind (meaning_of types call first).place (map (reach_of types call) before)) c (meaning_of types call e).value) none ∙ no_change (place_behind (meaning_of types call first).place (map (reach_of types call) before)) (meaning_of types call e).value

    -- a change of a variable in place, by the steps of the place that the first part is, and these behind them
    pub run_changes_at : (p : Place) (ch : Change) → (meaning_of types call first).place ≡ Some p → list_all (λ (r : Reach). is_some r.move) (map (reach_of types call) before) ≡ true → (reach_of types call last).change ≡ Some ch → (meaning_of types call e).run ≡ change_place (record { variable = p.variable; moves = p.moves ++ moves_in (map (reach_of types call) before) }) ch
    run_changes_at p ch at moves changed =
        let rs = map (reach_of types call) before in
        postfix_run e first before last is
        ∙ ap (λ p. run_at (place_behind p rs) (reach_of types call last).change (meaning_of types call e).value) at
        ∙ ap (λ ms. run_at (further p ms) (reach_of types call last).change (meaning_of types call e).value) (moves_found rs moves)
        ∙ ap (λ c. run_at (Some (record { variable = p.variable; moves = p.moves ++ moves_in rs })) c (meaning_of types call e).value) changed

    -- the same where the first part is a variable
    pub run_changes : (x : Variable) (ch : Change) → (meaning_of types call first).place ≡ Some (record { variable = x; moves = [] }) → list_all (λ (r : Reach). is_some r.move) (map (reach_of types call) before) ≡ true → (reach_of types call last).change ≡ Some ch → (meaning_of types call e).run ≡ change_place (record { variable = x; moves = moves_in (map (reach_of types call) before) }) ch
    run_changes x ch at moves changed = run_changes_at (record { variable = x; moves = [] }) ch at moves changed

  -- a path without steps is a value
  pub run_stepless : (e first : TypedExpr) → (out-TypedExpr e).node ≡ tree.Postfix first [] → (meaning_of types call e).run ≡ (meaning_of types call e).value
  run_stepless e first is =
      let all = postfix_is types call e first [] is in
      ap (λ (m : Meant). m.run) all ∙ no_change (place_behind (meaning_of types call first).place []) (postfix_value (meaning_of types call first) []) ∙ sym (ap (λ (m : Meant). m.value) all)

  -- the place of a path
  pub postfix_place : (e first : TypedExpr) (steps : List TypedSuffix) → (out-TypedExpr e).node ≡ tree.Postfix first steps → (meaning_of types call e).place ≡ place_behind (meaning_of types call first).place (map (reach_of types call) steps)
  postfix_place e first steps is = ap (λ (m : Meant). m.place) (postfix_is types call e first steps is)

  -- the steps of a path that is a place, behind another place
  pub placed_further : (e first : TypedExpr) (steps : List TypedSuffix) (p : Place) → (out-TypedExpr e).node ≡ tree.Postfix first steps → (meaning_of types call first).place ≡ Some p → list_all (λ (r : Reach). is_some r.move) (map (reach_of types call) steps) ≡ true → (meaning_of types call e).place ≡ Some (record { variable = p.variable; moves = p.moves ++ moves_in (map (reach_of types call) steps) })
  placed_further e first steps p is at moves =
      let rs = map (reach_of types call) steps in
      postfix_place e first steps is ∙ ap (λ p. place_behind p rs) at ∙ ap (further p) (moves_found rs moves)

  -- which steps are ones of a place
  pub field_moves : (u : TypedSuffix) (n : ℕ) → (out-TypedSuffix u).node ≡ step.Field n → is_some (reach_of types call u).move ≡ true
  field_moves u n is = ap (λ (r : Reach). is_some r.move) (field_step_is types call u n is)

  -- an element is a step of a place
  pub item_moves : (u : TypedSuffix) (e : TypedExpr) → (out-TypedSuffix u).node ≡ step.Item e → is_some (reach_of types call u).move ≡ true
  item_moves u e is = ap (λ (r : Reach). is_some r.move) (item_step_is types call u e is)

  -- an entry is a step of a place
  pub key_moves : (u : TypedSuffix) (e : TypedExpr) → (out-TypedSuffix u).node ≡ step.Key e → is_some (reach_of types call u).move ≡ true
  key_moves u e is = ap (λ (r : Reach). is_some r.move) (key_step_is types call u e is)

  -- a method is none
  pub method_unmoved : (u : TypedSuffix) (m : Method) (es : List TypedExpr) → (out-TypedSuffix u).node ≡ step.Method m es → is_some (reach_of types call u).move ≡ false
  method_unmoved u m es is = ap (λ (r : Reach). is_some r.move) (method_step_is types call u m es is)

  -- the change of a method
  pub method_change : (u : TypedSuffix) (m : Method) (es : List TypedExpr) → (out-TypedSuffix u).node ≡ step.Method m es → (reach_of types call u).change ≡ change_by m (all_values types call es)
  method_change u m es is = ap (λ (r : Reach). r.change) (method_step_is types call u m es is)

-- the steps of places behind one another
pub moves_in_append : (rs ss : List Reach) → moves_in (rs ++ ss) ≡ moves_in rs ++ moves_in ss
moves_in_append [] ss = refl
moves_in_append (r ∷ rs) ss = ap (λ ms. move_of r.move ∷ ms) (moves_in_append rs ss)
