-- Runs of expressions, one step at a time: what an arm or a turn of a loop owes.
use Rattle.std.proofs.Common.{◌≡◌, ℕ, Bool, true, false, ◌+◌, ◌≤◌, ◌<◌, List, [], ◌∷◌, ◌++◌, length, map, drop, get_or, Option, Some, None, Result, Ok, Err, refl, sym, ap, subst, ◌∙◌}
use Rattle.std.specs.Prelude.{IfOk, IfErr, IsErrAnd, not}
use Rattle.epl_values.specs.declared.shape.EventShape.{EventShape}
use Rattle.epl_values.specs.declared.value.Value.{Value}
use Rattle.typed_program.specs.declared.expression.TypedExpr.{TypedExpr, out-TypedExpr, fold_out-TypedExpr}
use Rattle.typed_program.specs.declared.expression.TypedNode.{TypedNode, TypedNode-F, map-TypedNode, out-TypedNode, roll-TypedNode, roll-out-TypedNode, fold-TypedNode, fold_out-TypedNode}
use Rattle.typed_program.specs.declared.expression.TypedNode.TheOpen as layer
use Rattle.typed_program.specs.declared.expression.TypedNode.TheVariants as tree
use Rattle.typed_program.specs.declared.expression.TypedLink.{TypedLink, fold-TypedLink}
use Rattle.typed_program.specs.declared.expression.TypedEntry.{TypedEntry, fold-TypedEntry}
use Rattle.typed_program.specs.declared.expression.TypedSuffix.{TypedSuffix}
use Rattle.typed_program.specs.declared.expression.TypedSuffixNode.{TypedSuffixNode, fold-TypedSuffixNode}
use Rattle.action_host.specs.Told.{Told}
use Rattle.body_meaning.specs.declared.run.Frame.{Frame}
use Rattle.body_meaning.specs.declared.run.Move.{Move}
use Rattle.body_meaning.specs.Runs.{M, ◌>>=◌, pure, all, all_behind}
use Rattle.body_meaning.specs.Expressions.{Calls, Meant, Reach, Pairing, Linking, NodeMeant, Place, node_meant, step_meant, entry_meant, expr_meant, link_meant, suffix_meant, meaning_of, reach_of, with_move, moves_of, further, place_behind}
use Rattle.body_meaning.specs.Statements.{move_of, moves_in}
use Rattle.walk_rules.specs.declared.stop.Stop.{Stop}
use Rattle.walk_rules.specs.declared.stop.Stop.TheVariants.{Memory}
use Rattle.walk_rules.specs.Ran.{Walks, Leads}
use Rattle.walk_rules.proofs.Forms.{postfix_is}
use Rattle.walk_rules.proofs.Leading.{leads_same}
use Rattle.walk_rules.proofs.Running.{walks_pure}
use Rattle.value_steps.specs.Orderly.{IsOrderly, AreOrderly, IsOrderlyMove, AreOrderlyMoves}
use Rattle.path_bases.specs.declared.base.Base.{Base}
use Rattle.path_bases.specs.declared.locals.Got.{Got}
use Rattle.path_bases.specs.Bases.{Stands}
use Rattle.path_bases.specs.Locals.{got_value, values_in}
use Rattle.path_bases.specs.Tells.{Tells}
use Rattle.walk_laws.proofs.Grouping.{pure_then, bind_grouped}
use Rattle.walk_laws.proofs.Placing.{moves_step, moves_stop}
use Rattle.walk_laws.proofs.Telling.{tells_as, tells_pure, tells_memory}
use Rattle.walk_laws.proofs.Lending.{values_push}
use Rattle.value_steps.proofs.Kept.{all_joined}
use Rattle.body_meaning.specs.Values.{differ}
use mathlib.Core.Bool.{beq}
use Rattle.expr_walker.specs.Means.{lent_value, lent_values}

-- ---- one list under two names

module _ {X : Type 0} (seen xs : List X) (same : seen ≡ xs) (i : ℕ) where
  -- a place in the list
  pub within_same : i < length seen → i < length xs
  within_same h = subst (λ l. i < length l) same h

  -- the item there
  pub item_same : (x : X) → x ≡ get_or seen i x → x ≡ get_or xs i x
  item_same x h = subst (λ l. x ≡ get_or l i x) same h

  -- a place past its end
  pub past_same : length seen ≤ i → length xs ≤ i
  past_same h = subst (λ l. length l ≤ i) same h

-- ---- values that are known

-- the value that is known, or want of memory
pub known_told : {A : Type 0} (x : A) (told : Told) (frame : Frame) (r : Result A Stop) → IfOk r (λ v. v ≡ x) → IfErr r (λ stop. stop ≡ Memory) → Tells (pure x) told frame told frame r
known_told x told frame (Ok v) same memory = subst (λ y. Tells (pure x) told frame told frame (Ok y)) (sym same) (tells_pure x told frame)
known_told x told frame (Err stop) same memory = subst (λ e. Tells (pure x) told frame told frame (Err e)) (sym memory) (tells_memory (pure x) told told refl)

-- a value that is known to be another
pub known_walks : {A : Type 0} (x y : A) (told : Told) (frame : Frame) → x ≡ y → Walks (pure x) told frame told frame (Ok y)
known_walks x y told frame same = subst (λ z. Walks (pure x) told frame told frame (Ok z)) same (walks_pure x told frame)

-- ---- steps of places

-- values behind others, and then further ones
pub all_split : {A : Type 0} (xs : List A) (ms ns : List (M A)) → all_behind xs (ms ++ ns) ≡ (all_behind xs ms >>= (λ ys. all_behind ys ns))
all_split xs [] ns = sym (pure_then xs (λ ys. all_behind ys ns))
all_split xs (m ∷ ms) ns = ap (λ h. m >>= h) (λ i x. all_split (xs ++ x ∷ []) ms ns i) ∙ sym (bind_grouped m (λ x. all_behind (xs ++ x ∷ []) ms) (λ ys. all_behind ys ns))

-- ---- places

-- one more step
one_more : (o : Option (M Move)) (rs : List Reach) (ms : List (M Move)) → ((ns : List (M Move)) → moves_of rs ≡ Some ns → ns ≡ moves_in rs) → with_move o (moves_of rs) ≡ Some ms → ms ≡ move_of o ∷ moves_in rs
one_more None rs ms rest is = cc
one_more (Some m) rs ms rest is = by_rest (moves_of rs) refl is where
  by_rest : (q : Option (List (M Move))) → moves_of rs ≡ q → with_move (Some m) q ≡ Some ms → ms ≡ m ∷ moves_in rs
  by_rest None e h = cc
  by_rest (Some ns) e h = let first : m ∷ ns ≡ ms = cc in sym first ∙ ap (λ l. m ∷ l) (rest ns e)

-- where the steps are those of a place, they are all of them
pub moves_are : (rs : List Reach) (ms : List (M Move)) → moves_of rs ≡ Some ms → ms ≡ moves_in rs
moves_are [] ms is = let none : [] ≡ ms = cc in sym none
moves_are (r ∷ rs) ms is = one_more r.move rs ms (λ ns e. moves_are rs ns e) is

-- a place behind another one
pub record Further (o : Option Place) (rs : List Reach) (p : Place) : Type 0 where
  pub before : Place
  pub is : o ≡ Some before
  pub moves : p.moves ≡ before.moves ++ moves_in rs

-- the steps behind a place are added to its own
with_steps : (q : Place) (rs : List Reach) (p : Place) (o : Option (List (M Move))) → moves_of rs ≡ o → further q o ≡ Some p → p.moves ≡ q.moves ++ moves_in rs
with_steps q rs p None e h = cc
with_steps q rs p (Some ms) e h =
    let made : record { variable = q.variable; moves = q.moves ++ ms } ≡ p = cc in
    ap (λ (z : Place). z.moves) (sym made) ∙ ap (λ l. q.moves ++ l) (moves_are rs ms e)

pub further_is : (o : Option Place) (rs : List Reach) (p : Place) → place_behind o rs ≡ Some p → Further o rs p
further_is None rs p h = cc
further_is (Some q) rs p h = record { before = q; is = refl; moves = with_steps q rs p (moves_of rs) refl h }

module _ (types : List EventShape) (call : Calls) where
  -- the place of a chain of steps
  pub place_of_steps : (e first : TypedExpr) (steps : List TypedSuffix) (p : Place) → (out-TypedExpr e).node ≡ tree.Postfix first steps → (meaning_of types call e).place ≡ Some p → Further (meaning_of types call first).place (map (reach_of types call) steps) p
  place_of_steps e first steps p is h = further_is _ _ p (ap (λ (m : Meant). m.place) (sym (postfix_is types call e first steps is)) ∙ h)

  -- what each kind of tree means
  abbrev node_of : TypedNode → NodeMeant
  node_of = fold-TypedNode NodeMeant Reach Pairing Meant Linking Reach (node_meant types call) (step_meant types) (entry_meant types call) (expr_meant types call) (link_meant types call) (suffix_meant types call)

  abbrev step_of : TypedSuffixNode → Reach
  step_of = fold-TypedSuffixNode NodeMeant Reach Pairing Meant Linking Reach (node_meant types call) (step_meant types) (entry_meant types call) (expr_meant types call) (link_meant types call) (suffix_meant types call)

  abbrev linking_of : TypedLink → Linking
  linking_of = fold-TypedLink NodeMeant Reach Pairing Meant Linking Reach (node_meant types call) (step_meant types) (entry_meant types call) (expr_meant types call) (link_meant types call) (suffix_meant types call)

  abbrev pairing_of : TypedEntry → Pairing
  pairing_of = fold-TypedEntry NodeMeant Reach Pairing Meant Linking Reach (node_meant types call) (step_meant types) (entry_meant types call) (expr_meant types call) (link_meant types call) (suffix_meant types call)

  -- what a node means by its parts
  folded : TypedNode-F TypedNode TypedSuffixNode TypedEntry TypedExpr TypedLink TypedSuffix → NodeMeant
  folded d = node_meant types call (map-TypedNode TypedNode TypedSuffixNode TypedEntry TypedExpr TypedLink TypedSuffix NodeMeant Reach Pairing Meant Linking Reach node_of step_of pairing_of (meaning_of types call) linking_of (reach_of types call) d)

  -- an expression by the layer of its node
  node_at : (e : TypedExpr) → meaning_of types call e ≡ folded (out-TypedNode (out-TypedExpr e).node) (out-TypedExpr e).shape
  unfolding folded meaning_of reach_of
  node_at e =
      fold_out-TypedExpr NodeMeant Reach Pairing Meant Linking Reach (node_meant types call) (step_meant types) (entry_meant types call) (expr_meant types call) (link_meant types call) (suffix_meant types call) e
      ∙ ap (λ (n : NodeMeant). n (out-TypedExpr e).shape) (fold_out-TypedNode NodeMeant Reach Pairing Meant Linking Reach (node_meant types call) (step_meant types) (entry_meant types call) (expr_meant types call) (link_meant types call) (suffix_meant types call) (out-TypedExpr e).node)

  module _ (e : TypedExpr) (p : Place) (not-steps : (first : TypedExpr) (steps : List TypedSuffix) → (out-TypedExpr e).node ≡ tree.Postfix first steps → ⊥) where
    -- a place that is known
    no_moves : (q : Place) → q.moves ≡ [] → Some q ≡ Some p → p.moves ≡ []
    no_moves q none h = let same : q ≡ p = cc in ap (λ (z : Place). z.moves) (sym same) ∙ none

    -- by the kind of node
    layer_moves : (d : TypedNode-F TypedNode TypedSuffixNode TypedEntry TypedExpr TypedLink TypedSuffix) → out-TypedNode (out-TypedExpr e).node ≡ d → (folded d (out-TypedExpr e).shape).place ≡ Some p → p.moves ≡ []
    unfolding folded
    layer_moves (layer.Integer n) is h = cc
    layer_moves (layer.Text t) is h = cc
    layer_moves (layer.Boolean b) is h = cc
    layer_moves (layer.Global n) is h = no_moves _ refl h
    layer_moves (layer.Local n) is h = no_moves _ refl h
    layer_moves (layer.Or first rest) is h = cc
    layer_moves (layer.Xor first rest) is h = cc
    layer_moves (layer.And first rest) is h = cc
    layer_moves (layer.Not operand) is h = cc
    layer_moves (layer.Compare left c right) is h = cc
    layer_moves (layer.Sum first links) is h = cc
    layer_moves (layer.Product first links) is h = cc
    layer_moves (layer.Minus operand) is h = cc
    layer_moves (layer.Postfix first steps) is h = absurd (not-steps first steps (sym (roll-out-TypedNode (out-TypedExpr e).node) ∙ ap roll-TypedNode is ∙ tree.rolls-Postfix first steps))
    layer_moves (layer.Action n arguments) is h = cc
    layer_moves (layer.Event n arguments) is h = cc
    layer_moves (layer.Sequence items) is h = cc
    layer_moves (layer.Dictionary entries) is h = cc
    layer_moves layer.Default is h = cc
    layer_moves (layer.Context arguments) is h = cc
    layer_moves layer.ContextCurrent is h = cc
    layer_moves (layer.Tenths n) is h = cc

    -- a variable is a place without steps, and what is no path is none
    pub place_unmoved : (meaning_of types call e).place ≡ Some p → p.moves ≡ []
    place_unmoved h = layer_moves (out-TypedNode (out-TypedExpr e).node) refl (ap (λ (m : Meant). m.place) (sym (node_at e)) ∙ h)

-- ---- lending

-- where a base can't be settled, nothing is lent
pub lent_stop : (globals : List Value) (b : Base) (r : Result Got Stop) (stop : Stop) → IsErrAnd r (λ e. e ≡ stop) → ((v : Value) → Stands globals b v → (told : Told) (frame : Frame) → Walks (pure v) told frame told frame (Err stop)) → ((v : Value) → Stands globals b v → (told : Told) (frame : Frame) → Walks (pure v) told frame told frame (lent_value r)) × IfOk r (λ got. IsOrderly (got_value got))
lent_stop globals b (Ok got) stop h means = absurd h
lent_stop globals b (Err e) stop h means = (λ v s told frame. subst (λ q. Walks (pure v) told frame told frame (Err q)) (sym h) (means v s told frame), tt)

-- the error that a `?` hands on, of what is lent
pub lent_err : {m : M (List Value)} {stop : Stop} {t t1 : Told} {f f1 : Frame} (r : Result (List Got) Stop) → IsErrAnd r (λ e. e ≡ stop) → Tells m t f t1 f1 (Err stop) → Tells m t f t1 f1 (lent_values r)
lent_err (Ok gots) h a = absurd h
lent_err {m} {stop} {t} {t1} {f} {f1} (Err e) h a = subst (λ q. Tells m t f t1 f1 (Err q)) (sym h) a

-- one more that is lent
pub lent_orderly : (gots new : List Got) (got : Got) → new ≡ gots ++ got ∷ [] → AreOrderly (values_in gots) → IsOrderly (got_value got) → AreOrderly (values_in new)
lent_orderly gots new got is all one = subst (λ l. AreOrderly (values_in l)) (sym is) (subst AreOrderly (sym (values_push gots got)) (all_joined IsOrderly (values_in gots) (got_value got ∷ []) all (one, tt)))

-- ---- truths

-- truths that are not the same
differ_is : (a b : Bool) → not (beq a b) ≡ differ a b
differ_is true true = refl
differ_is true false = refl
differ_is false true = refl
differ_is false false = refl

-- whether two truths differ
pub differ_told : (a b p q : Bool) → a ≡ p → b ≡ q → not (beq a b) ≡ differ p q
differ_told a b p q first second = differ_is a b ∙ ap (λ x. differ x b) first ∙ ap (differ p) second

-- ---- steps of a place, one after another

module _ {X : Type 0} (F : X → Reach) (moves : List Move) (items : List X) (i : ℕ) (x : X) (within : i < length items) (is : x ≡ get_or items i x) {m : M (List Move)} {t t1 : Told} {f f1 : Frame} (leads : Leads m t f (all_behind moves (moves_in (map F (drop i items)))) t1 f1) where
  -- the steps so far, with one more
  pub more_moves : (new : List Move) (to : Move) {t2 : Told} {f2 : Frame} → new ≡ moves ++ to ∷ [] → AreOrderlyMoves moves → IsOrderlyMove to → Tells (move_of (F x).move) t1 f1 t2 f2 (Ok to) → Leads m t f (all_behind new (moves_in (map F (drop (i + 1) items)))) t2 f2 × AreOrderlyMoves new
  more_moves new to more all one a = (leads_same (ap (λ l. all_behind l (moves_in (map F (drop (i + 1) items)))) (sym more)) (moves_step F moves items i x within is leads a), subst AreOrderlyMoves (sym more) (all_joined IsOrderlyMove moves (to ∷ []) all (one, tt)))

  -- where a step stops, all stop
  pub no_more_moves : {stop : Stop} {t2 : Told} {f2 : Frame} → Tells (move_of (F x).move) t1 f1 t2 f2 (Err stop) → Tells m t f t2 f2 (Err stop)
  no_more_moves a = moves_stop F moves items i x within is leads a

-- a place without steps
pub unmoved_told : (p : Place) (r : List Move) (told : Told) (frame : Frame) → r ≡ [] → p.moves ≡ [] → Tells (all p.moves) told frame told frame (Ok r)
unmoved_told p r told frame none unmoved = tells_as (ap all unmoved) (subst (λ l. Tells (pure []) told frame told frame (Ok l)) (sym none) (tells_pure [] told frame))
