-- Expressions pay for what their effects weigh: one induction over typed trees.
use Rattle.std.proofs.Common.{◌≡◌, ◌∷◌, ◌++◌}
use Rattle.context_meaning.proofs.Common.{ℕ, List, [], map, Option, Some, None, sym, subst, AllByRecursion, Shape, EventShape, Value, Pair, Method, TypedExpr, TypedSuffix, Move, M, Calls, Reach, value_of, Effect}
use Rattle.epl_values.specs.declared.value.Value.TheVariants as value
use Rattle.epl_tree.specs.declared.expression.Operator.{Operator}
use Rattle.typed_program.specs.declared.expression.Method.TheVariants as method
use Rattle.typed_program.specs.declared.statement.Variable.{Variable}
use Rattle.typed_program.specs.declared.statement.Variable.TheVariants as variable
use Rattle.typed_program.specs.declared.expression.TypedExpr.{TypedExpr-F, map-TypedExpr, roll-TypedExpr, fold-roll-TypedExpr}
use Rattle.typed_program.specs.declared.expression.TypedNode.{TypedNode, TypedNode-F, map-TypedNode, roll-TypedNode, fold-TypedNode, fold-roll-TypedNode}
use Rattle.typed_program.specs.declared.expression.TypedNode.TheOpen as node
use Rattle.typed_program.specs.declared.expression.TypedLink.{TypedLink, TypedLink-F, map-TypedLink, roll-TypedLink, fold-TypedLink, fold-roll-TypedLink}
use Rattle.typed_program.specs.declared.expression.TypedEntry.{TypedEntry, TypedEntry-F, map-TypedEntry, roll-TypedEntry, fold-TypedEntry, fold-roll-TypedEntry}
use Rattle.typed_program.specs.declared.expression.TypedSuffix.{TypedSuffix-F, map-TypedSuffix, roll-TypedSuffix, fold-roll-TypedSuffix}
use Rattle.typed_program.specs.declared.expression.TypedSuffixNode.{TypedSuffixNode, TypedSuffixNode-F, map-TypedSuffixNode, roll-TypedSuffixNode, fold-TypedSuffixNode, fold-roll-TypedSuffixNode}
use Rattle.typed_program.specs.declared.expression.TypedNode.TheFolds.{ind-TypedExpr, ind-TypedSuffix}
use Rattle.body_meaning.specs.Values.{calculated, is_text}
use Rattle.body_meaning.specs.Paths.{alter}
use Rattle.body_meaning.specs.Methods.{changed_by}
use Rattle.body_meaning.specs.Expressions.{Change, Meant, Place, Pairing, Linking, NodeMeant, or_from, and_from, xor_from, operate, links_from, entries_behind, reach_from, with_move, moves_of, further, place_behind, change_at_end, but_last, change_place, run_at, postfix_value, postfix, valued, read, values_of, change_by, reach_by, node_meant, step_meant, entry_meant, expr_meant, link_meant, suffix_meant, meaning_of, reach_of, all_values}
use Rattle.context_meaning.proofs.Paying.{Pays, pays_pure, pays_given, pays_look, pays_change, pays_bind, pays_seq, pays_choose, pays_all, pays_two}
use Rattle.context_meaning.proofs.Weighing.{Weighs}
use Rattle.context_meaning.proofs.PayingCalls.{pays_text, pays_called, pays_make_context, pays_current}

-- what is claimed of each holds of all
all_held : {A B : Type 0} (P : B → Type 0) (made : A → B) (xs : List ((x : A) × P (made x))) → AllByRecursion P (map made (map (λ e. e.0) xs))
all_held P made [] = tt
all_held P made (x ∷ xs) = (x.1, all_held P made xs)

module _ (weigh : Effect → ℕ) where
  -- all of them pay
  abbrev pub AllPay : {A : Type 0} → List (M A) → Type 0
  AllPay ms = AllByRecursion (Pays weigh) ms

  -- ---- operators and literals

  -- `or`
  pays_or : (ms : List (M Value)) (v : Value) → AllPay ms → Pays weigh (or_from ms v)
  pays_or [] v h = pays_pure v
  pays_or (m ∷ ms) v h = pays_choose _ (pays_pure v) (pays_bind _ h.0 (λ w. pays_or ms w h.1))

  -- `and`
  pays_and : (ms : List (M Value)) (v : Value) → AllPay ms → Pays weigh (and_from ms v)
  pays_and [] v h = pays_pure v
  pays_and (m ∷ ms) v h = pays_choose _ (pays_bind _ h.0 (λ w. pays_and ms w h.1)) (pays_pure v)

  -- `xor`
  pays_xor : (ms : List (M Value)) (v : Value) → AllPay ms → Pays weigh (xor_from ms v)
  pays_xor [] v h = pays_pure v
  pays_xor (m ∷ ms) v h = pays_bind _ h.0 (λ w. pays_xor ms _ h.1)

  -- an operator between two values
  operate_pays : (o : Operator) (v w : Value) → Pays weigh (operate o v w)
  unfolding operate
  operate_pays o v w = pays_choose (is_text v) (pays_text _) (pays_given (calculated o v w))

  -- the operand of an operator pays
  abbrev LinkPays : Linking → Type 0
  LinkPays l = Pays weigh l.operand

  -- operators with their operands
  pays_links : (ls : List Linking) (v : Value) → AllByRecursion LinkPays ls → Pays weigh (links_from ls v)
  pays_links [] v h = pays_pure v
  pays_links (l ∷ ls) v h = pays_bind _ h.0 (λ w. pays_bind _ (operate_pays l.operator v w) (λ x. pays_links ls x h.1))

  -- a key and its value pay
  abbrev EntryPays : Pairing → Type 0
  EntryPays p = Pays weigh p.key × Pays weigh p.value

  -- entries of a dictionary
  pays_entries : (ps : List Pairing) (pairs : List Pair) → AllByRecursion EntryPays ps → Pays weigh (entries_behind pairs ps)
  pays_entries [] pairs h = pays_pure pairs
  pays_entries (p ∷ ps) pairs h = pays_bind _ h.0.0 (λ key. pays_bind _ h.0.1 (λ v. pays_entries ps _ h.1))

  -- ---- paths

  -- a step of a path pays, where it is one
  abbrev pub MovePays : Option (M Move) → Type 0
  MovePays None = Unit {0}
  MovePays (Some m) = Pays weigh m

  -- so do the steps of a path
  abbrev pub MovesPay : Option (List (M Move)) → Type 0
  MovesPay None = Unit {0}
  MovesPay (Some ms) = AllPay ms

  -- the arguments of a change pay, where there is one
  abbrev ChangePays : Option Change → Type 0
  ChangePays None = Unit {0}
  ChangePays (Some c) = Pays weigh c.arguments

  -- the steps of a place pay, where there is one
  abbrev PlacePays : Option Place → Type 0
  PlacePays None = Unit {0}
  PlacePays (Some p) = AllPay p.moves

  -- a step behind a value pays
  pub record StepPays (r : Reach) : Type 0 where
    pub reaches : (v : Value) → Pays weigh (r.from v)
    pub moves : MovePays r.move
    pub changes : ChangePays r.change

  -- an expression pays
  pub record ExprPays (m : Meant) : Type 0 where
    pub told : Pays weigh m.value
    pub at : PlacePays m.place
    pub runs : Pays weigh m.run

  -- the values that steps reach
  pays_reach : (rs : List Reach) (v : Value) → AllByRecursion StepPays rs → Pays weigh (reach_from rs v)
  pays_reach [] v h = pays_pure v
  pays_reach (r ∷ rs) v h = pays_bind _ (h.0.reaches v) (λ w. pays_reach rs w h.1)

  -- a first step and those behind it
  with_pays : (m : Option (M Move)) (ms : Option (List (M Move))) → MovePays m → MovesPay ms → MovesPay (with_move m ms)
  with_pays None None h k = tt
  with_pays None (Some ms) h k = tt
  with_pays (Some m) None h k = tt
  with_pays (Some m) (Some ms) h k = (h, k)

  -- the steps of a path
  pays_moves : (rs : List Reach) → AllByRecursion StepPays rs → MovesPay (moves_of rs)
  pays_moves [] h = tt
  pays_moves (r ∷ rs) h = with_pays r.move (moves_of rs) h.0.moves (pays_moves rs h.1)

  -- runs behind runs
  join_pays : {A : Type 0} (ms ns : List (M A)) → AllPay ms → AllPay ns → AllPay (ms ++ ns)
  join_pays [] ns h k = k
  join_pays (m ∷ ms) ns h k = (h.0, join_pays ms ns h.1 k)

  -- a place with further steps
  further_pays : (p : Place) (ms : Option (List (M Move))) → AllPay p.moves → MovesPay ms → PlacePays (further p ms)
  further_pays p None h k = tt
  further_pays p (Some ms) h k = join_pays p.moves ms h k

  -- the place behind steps
  pays_place : (p : Option Place) (rs : List Reach) → PlacePays p → AllByRecursion StepPays rs → PlacePays (place_behind p rs)
  pays_place None rs h k = tt
  pays_place (Some p) rs h k = further_pays p (moves_of rs) h (pays_moves rs k)

  -- the change at the end of steps
  pays_end : (rs : List Reach) → AllByRecursion StepPays rs → ChangePays (change_at_end rs)
  pays_end [] h = tt
  pays_end (r ∷ []) h = h.0.changes
  pays_end (r ∷ q ∷ rs) h = pays_end (q ∷ rs) h.1

  -- the steps before the last
  pays_but_last : (rs : List Reach) → AllByRecursion StepPays rs → AllByRecursion StepPays (but_last rs)
  pays_but_last [] h = tt
  pays_but_last (r ∷ []) h = tt
  pays_but_last (r ∷ q ∷ rs) h = (h.0, pays_but_last (q ∷ rs) h.1)

  -- a change at a place
  change_pays : (p : Place) (c : Change) → AllPay p.moves → Pays weigh c.arguments → Pays weigh (change_place p c)
  unfolding change_place
  change_pays p c h k = pays_bind _ (pays_all p.moves h) (λ to. pays_bind _ k (λ vs. pays_seq (pays_change (alter p.variable to (changed_by c.method vs))) (pays_pure value.NoContext)))

  -- an expression as a statement
  pays_run : (p : Option Place) (c : Option Change) (m : M Value) → PlacePays p → ChangePays c → Pays weigh m → Pays weigh (run_at p c m)
  pays_run None None m h k n = n
  pays_run None (Some c) m h k n = n
  pays_run (Some p) None m h k n = n
  pays_run (Some p) (Some c) m h k n = change_pays p c h k

  -- the value of an expression with steps behind it
  postfix_value_pays : (e : Meant) (rs : List Reach) → ExprPays e → AllByRecursion StepPays rs → Pays weigh (postfix_value e rs)
  unfolding postfix_value
  postfix_value_pays e rs h k = pays_bind _ h.told (λ v. pays_reach rs v k)

  -- an expression with steps behind it
  pays_postfix : (e : Meant) (rs : List Reach) → ExprPays e → AllByRecursion StepPays rs → ExprPays (postfix e rs)
  pays_postfix e rs h k = record { told = postfix_value_pays e rs h k; at = pays_place e.place rs h.at k; runs = pays_run (place_behind e.place (but_last rs)) (change_at_end rs) (postfix_value e rs) (pays_place e.place (but_last rs) h.at (pays_but_last rs k)) (pays_end rs k) (postfix_value_pays e rs h k) }

  -- an expression that is only a value
  pays_valued : (m : M Value) → Pays weigh m → ExprPays (valued m)
  pays_valued m h = record { told = h; at = tt; runs = h }

  -- a variable that is read
  pays_read : (x : Variable) → ExprPays (read x)
  pays_read x = record { told = pays_look _; at = tt; runs = pays_look _ }

  -- the change of a method, where it is one
  change_by_pays : (m : Method) (arguments : M (List Value)) → Pays weigh arguments → ChangePays (change_by m arguments)
  change_by_pays method.Append arguments h = h
  change_by_pays method.Remove arguments h = h
  change_by_pays method.Clear arguments h = h
  change_by_pays method.Add arguments h = h
  change_by_pays m arguments h = tt

  -- a step with an index or a key
  by_pays : (e : Meant) (to : Value → Move) → ExprPays e → StepPays (reach_by e to)
  by_pays e to h = record { reaches = λ v. pays_bind _ h.told (λ i. pays_given _); moves = pays_bind _ h.told (λ i. pays_pure (to i)); changes = tt }

  -- the values of expressions that pay
  values_pay : (es : List Meant) → AllByRecursion ExprPays es → AllPay (values_of es)
  values_pay [] h = tt
  values_pay (e ∷ es) h = (h.0.told, values_pay es h.1)

  -- ---- the induction

  -- calls that pay
  abbrev pub CallsPay : Calls → Type 0
  CallsPay call = (n : ℕ) (vs : List Value) → Pays weigh (call n vs)

  module _ (weighs : Weighs weigh) (types : List EventShape) (call : Calls) (calls_pay : CallsPay call) where
    -- what a node means
    abbrev node_of : TypedNode → NodeMeant
    node_of = fold-TypedNode NodeMeant Reach Pairing Meant Linking Reach (node_meant types call) (step_meant types) (entry_meant types call) (expr_meant types call) (link_meant types call) (suffix_meant types call)

    -- what a step behind a value means
    abbrev step_of : TypedSuffixNode → Reach
    step_of = fold-TypedSuffixNode NodeMeant Reach Pairing Meant Linking Reach (node_meant types call) (step_meant types) (entry_meant types call) (expr_meant types call) (link_meant types call) (suffix_meant types call)

    -- what an operator with its operand means
    abbrev linking_of : TypedLink → Linking
    linking_of = fold-TypedLink NodeMeant Reach Pairing Meant Linking Reach (node_meant types call) (step_meant types) (entry_meant types call) (expr_meant types call) (link_meant types call) (suffix_meant types call)

    -- what an entry means
    abbrev pairing_of : TypedEntry → Pairing
    pairing_of = fold-TypedEntry NodeMeant Reach Pairing Meant Linking Reach (node_meant types call) (step_meant types) (entry_meant types call) (expr_meant types call) (link_meant types call) (suffix_meant types call)

    -- a node pays at each shape
    abbrev NodePays : NodeMeant → Type 0
    NodePays n = (s : Option Shape) → ExprPays (n s)

    -- what is claimed of a node
    abbrev ForNode : TypedNode → Type 0
    ForNode n = NodePays (node_of n)

    -- of a step
    abbrev ForStep : TypedSuffixNode → Type 0
    ForStep n = StepPays (step_of n)

    -- of an entry
    abbrev ForEntry : TypedEntry → Type 0
    ForEntry e = EntryPays (pairing_of e)

    -- of an expression
    abbrev ForExpr : TypedExpr → Type 0
    ForExpr e = ExprPays (meaning_of types call e)

    -- of an operator with its operand
    abbrev ForLink : TypedLink → Type 0
    ForLink l = LinkPays (linking_of l)

    -- of a step with its shape
    abbrev ForSuffix : TypedSuffix → Type 0
    ForSuffix u = StepPays (reach_of types call u)

    -- a node with what is claimed of it
    abbrev HeldNode : Type 0
    HeldNode = (t : TypedNode) × ForNode t

    -- a step
    abbrev HeldStep : Type 0
    HeldStep = (t : TypedSuffixNode) × ForStep t

    -- an entry
    abbrev HeldEntry : Type 0
    HeldEntry = (t : TypedEntry) × ForEntry t

    -- an expression
    abbrev HeldExpr : Type 0
    HeldExpr = (t : TypedExpr) × ForExpr t

    -- an operator with its operand
    abbrev HeldLink : Type 0
    HeldLink = (t : TypedLink) × ForLink t

    -- a step with its shape
    abbrev HeldSuffix : Type 0
    HeldSuffix = (t : TypedSuffix) × ForSuffix t

    -- expressions of which it is claimed
    exprs_pay : (es : List HeldExpr) → AllPay (values_of (map (meaning_of types call) (map (λ e. e.0) es)))
    exprs_pay es = values_pay _ (all_held ExprPays (meaning_of types call) es)

    -- ---- nodes

    -- the trees in a node
    abbrev node_trees : TypedNode-F HeldNode HeldStep HeldEntry HeldExpr HeldLink HeldSuffix → TypedNode-F TypedNode TypedSuffixNode TypedEntry TypedExpr TypedLink TypedSuffix
    node_trees y = map-TypedNode HeldNode HeldStep HeldEntry HeldExpr HeldLink HeldSuffix TypedNode TypedSuffixNode TypedEntry TypedExpr TypedLink TypedSuffix (λ e. e.0) (λ e. e.0) (λ e. e.0) (λ e. e.0) (λ e. e.0) (λ e. e.0) y

    -- what they mean
    abbrev node_parts : TypedNode-F TypedNode TypedSuffixNode TypedEntry TypedExpr TypedLink TypedSuffix → TypedNode-F NodeMeant Reach Pairing Meant Linking Reach
    node_parts x = map-TypedNode TypedNode TypedSuffixNode TypedEntry TypedExpr TypedLink TypedSuffix NodeMeant Reach Pairing Meant Linking Reach node_of step_of pairing_of (meaning_of types call) linking_of (reach_of types call) x

    -- a node whose parts pay
    node_at : (y : TypedNode-F HeldNode HeldStep HeldEntry HeldExpr HeldLink HeldSuffix) → NodePays (node_meant types call (node_parts (node_trees y)))
    node_at (node.Integer n) s = pays_valued _ (pays_pure _)
    node_at (node.Text t) s = pays_valued _ (pays_pure _)
    node_at (node.Boolean b) s = pays_valued _ (pays_pure _)
    node_at (node.Global n) s = pays_read (variable.Global n)
    node_at (node.Local n) s = pays_read (variable.Local n)
    node_at (node.Or first rest) s = pays_valued _ (pays_bind _ first.1.told (λ v. pays_or _ v (exprs_pay rest)))
    node_at (node.Xor first rest) s = pays_valued _ (pays_bind _ first.1.told (λ v. pays_xor _ v (exprs_pay rest)))
    node_at (node.And first rest) s = pays_valued _ (pays_bind _ first.1.told (λ v. pays_and _ v (exprs_pay rest)))
    node_at (node.Not e) s = pays_valued _ (pays_bind _ e.1.told (λ v. pays_pure _))
    node_at (node.Compare one comparison other) s = pays_valued _ (pays_bind _ (pays_two one.1.told other.1.told) (λ p. pays_pure _))
    node_at (node.Sum first links) s = pays_valued _ (pays_bind _ first.1.told (λ v. pays_links _ v (all_held LinkPays linking_of links)))
    node_at (node.Product first links) s = pays_valued _ (pays_bind _ first.1.told (λ v. pays_links _ v (all_held LinkPays linking_of links)))
    node_at (node.Minus e) s = pays_valued _ (pays_bind _ e.1.told (λ v. pays_given _))
    node_at (node.Postfix first steps) s = pays_postfix _ _ first.1 (all_held StepPays (reach_of types call) steps)
    node_at (node.Action n es) s = pays_valued _ (pays_bind _ (pays_all _ (exprs_pay es)) (λ vs. calls_pay n vs))
    node_at (node.Event n es) s = pays_valued _ (pays_bind _ (pays_all _ (exprs_pay es)) (λ vs. pays_pure _))
    node_at (node.Sequence es) s = pays_valued _ (pays_bind _ (pays_all _ (exprs_pay es)) (λ vs. pays_pure _))
    node_at (node.Dictionary ps) s = pays_valued _ (pays_bind _ (pays_entries _ [] (all_held EntryPays pairing_of ps)) (λ pairs. pays_pure _))
    node_at node.Default s = pays_valued _ (pays_pure _)
    node_at (node.Context es) s = pays_valued _ (pays_bind _ (pays_all _ (exprs_pay es)) (λ vs. pays_make_context weigh weighs vs))
    node_at node.ContextCurrent s = pays_valued _ (pays_current weigh weighs)
    node_at (node.Tenths n) s = pays_valued _ (pays_pure _)

    -- the step of the induction at a node
    node_case : (x : TypedNode-F TypedNode TypedSuffixNode TypedEntry TypedExpr TypedLink TypedSuffix) (y : TypedNode-F HeldNode HeldStep HeldEntry HeldExpr HeldLink HeldSuffix) → node_trees y ≡ x → ForNode (roll-TypedNode x)
    unfolding meaning_of reach_of
    node_case x y is = subst (λ (z : TypedNode-F TypedNode TypedSuffixNode TypedEntry TypedExpr TypedLink TypedSuffix). ForNode (roll-TypedNode z)) is
        (subst NodePays (sym (fold-roll-TypedNode NodeMeant Reach Pairing Meant Linking Reach (node_meant types call) (step_meant types) (entry_meant types call) (expr_meant types call) (link_meant types call) (suffix_meant types call) (node_trees y))) (node_at y))

    -- ---- steps

    -- the trees in a step
    abbrev step_trees : TypedSuffixNode-F HeldNode HeldStep HeldEntry HeldExpr HeldLink HeldSuffix → TypedSuffixNode-F TypedNode TypedSuffixNode TypedEntry TypedExpr TypedLink TypedSuffix
    step_trees y = map-TypedSuffixNode HeldNode HeldStep HeldEntry HeldExpr HeldLink HeldSuffix TypedNode TypedSuffixNode TypedEntry TypedExpr TypedLink TypedSuffix (λ e. e.0) (λ e. e.0) (λ e. e.0) (λ e. e.0) (λ e. e.0) (λ e. e.0) y

    -- what they mean
    abbrev step_parts : TypedSuffixNode-F TypedNode TypedSuffixNode TypedEntry TypedExpr TypedLink TypedSuffix → TypedSuffixNode-F NodeMeant Reach Pairing Meant Linking Reach
    step_parts x = map-TypedSuffixNode TypedNode TypedSuffixNode TypedEntry TypedExpr TypedLink TypedSuffix NodeMeant Reach Pairing Meant Linking Reach node_of step_of pairing_of (meaning_of types call) linking_of (reach_of types call) x

    -- a step whose parts pay
    step_at : (y : TypedSuffixNode-F HeldNode HeldStep HeldEntry HeldExpr HeldLink HeldSuffix) → StepPays (step_meant types (step_parts (step_trees y)))
    step_at (node.Field n) = record { reaches = λ v. pays_given _; moves = pays_pure _; changes = tt }
    step_at (node.Item e) = by_pays _ _ e.1
    step_at (node.Key e) = by_pays _ _ e.1
    step_at (node.Method m es) = record { reaches = λ v. pays_bind _ (pays_all _ (exprs_pay es)) (λ vs. pays_called weigh weighs types m v vs); moves = tt; changes = change_by_pays m _ (pays_all _ (exprs_pay es)) }

    -- the step of the induction at one
    step_case : (x : TypedSuffixNode-F TypedNode TypedSuffixNode TypedEntry TypedExpr TypedLink TypedSuffix) (y : TypedSuffixNode-F HeldNode HeldStep HeldEntry HeldExpr HeldLink HeldSuffix) → step_trees y ≡ x → ForStep (roll-TypedSuffixNode x)
    unfolding meaning_of reach_of
    step_case x y is = subst (λ (z : TypedSuffixNode-F TypedNode TypedSuffixNode TypedEntry TypedExpr TypedLink TypedSuffix). ForStep (roll-TypedSuffixNode z)) is
        (subst StepPays (sym (fold-roll-TypedSuffixNode NodeMeant Reach Pairing Meant Linking Reach (node_meant types call) (step_meant types) (entry_meant types call) (expr_meant types call) (link_meant types call) (suffix_meant types call) (step_trees y))) (step_at y))

    -- ---- what holds nodes

    -- the trees in an entry
    abbrev entry_trees : TypedEntry-F HeldNode HeldStep HeldEntry HeldExpr HeldLink HeldSuffix → TypedEntry-F TypedNode TypedSuffixNode TypedEntry TypedExpr TypedLink TypedSuffix
    entry_trees y = map-TypedEntry HeldNode HeldStep HeldEntry HeldExpr HeldLink HeldSuffix TypedNode TypedSuffixNode TypedEntry TypedExpr TypedLink TypedSuffix (λ e. e.0) (λ e. e.0) (λ e. e.0) (λ e. e.0) (λ e. e.0) (λ e. e.0) y

    -- the step of the induction at one
    entry_case : (x : TypedEntry-F TypedNode TypedSuffixNode TypedEntry TypedExpr TypedLink TypedSuffix) (y : TypedEntry-F HeldNode HeldStep HeldEntry HeldExpr HeldLink HeldSuffix) → entry_trees y ≡ x → ForEntry (roll-TypedEntry x)
    unfolding meaning_of reach_of
    entry_case x y is = subst (λ (z : TypedEntry-F TypedNode TypedSuffixNode TypedEntry TypedExpr TypedLink TypedSuffix). ForEntry (roll-TypedEntry z)) is
        (subst EntryPays (sym (fold-roll-TypedEntry NodeMeant Reach Pairing Meant Linking Reach (node_meant types call) (step_meant types) (entry_meant types call) (expr_meant types call) (link_meant types call) (suffix_meant types call) (entry_trees y))) (y.key.1.told, y.value.1.told))

    -- the trees in an expression
    abbrev expr_trees : TypedExpr-F HeldNode HeldStep HeldEntry HeldExpr HeldLink HeldSuffix → TypedExpr-F TypedNode TypedSuffixNode TypedEntry TypedExpr TypedLink TypedSuffix
    expr_trees y = map-TypedExpr HeldNode HeldStep HeldEntry HeldExpr HeldLink HeldSuffix TypedNode TypedSuffixNode TypedEntry TypedExpr TypedLink TypedSuffix (λ e. e.0) (λ e. e.0) (λ e. e.0) (λ e. e.0) (λ e. e.0) (λ e. e.0) y

    -- the step of the induction at one
    expr_case : (x : TypedExpr-F TypedNode TypedSuffixNode TypedEntry TypedExpr TypedLink TypedSuffix) (y : TypedExpr-F HeldNode HeldStep HeldEntry HeldExpr HeldLink HeldSuffix) → expr_trees y ≡ x → ForExpr (roll-TypedExpr x)
    unfolding meaning_of reach_of
    expr_case x y is = subst (λ (z : TypedExpr-F TypedNode TypedSuffixNode TypedEntry TypedExpr TypedLink TypedSuffix). ForExpr (roll-TypedExpr z)) is
        (subst ExprPays (sym (fold-roll-TypedExpr NodeMeant Reach Pairing Meant Linking Reach (node_meant types call) (step_meant types) (entry_meant types call) (expr_meant types call) (link_meant types call) (suffix_meant types call) (expr_trees y))) (y.node.1 y.shape))

    -- the trees in an operator with its operand
    abbrev link_trees : TypedLink-F HeldNode HeldStep HeldEntry HeldExpr HeldLink HeldSuffix → TypedLink-F TypedNode TypedSuffixNode TypedEntry TypedExpr TypedLink TypedSuffix
    link_trees y = map-TypedLink HeldNode HeldStep HeldEntry HeldExpr HeldLink HeldSuffix TypedNode TypedSuffixNode TypedEntry TypedExpr TypedLink TypedSuffix (λ e. e.0) (λ e. e.0) (λ e. e.0) (λ e. e.0) (λ e. e.0) (λ e. e.0) y

    -- the step of the induction at one
    link_case : (x : TypedLink-F TypedNode TypedSuffixNode TypedEntry TypedExpr TypedLink TypedSuffix) (y : TypedLink-F HeldNode HeldStep HeldEntry HeldExpr HeldLink HeldSuffix) → link_trees y ≡ x → ForLink (roll-TypedLink x)
    unfolding meaning_of reach_of
    link_case x y is = subst (λ (z : TypedLink-F TypedNode TypedSuffixNode TypedEntry TypedExpr TypedLink TypedSuffix). ForLink (roll-TypedLink z)) is
        (subst LinkPays (sym (fold-roll-TypedLink NodeMeant Reach Pairing Meant Linking Reach (node_meant types call) (step_meant types) (entry_meant types call) (expr_meant types call) (link_meant types call) (suffix_meant types call) (link_trees y))) (y.operand.1.told))

    -- the trees in a step with its shape
    abbrev suffix_trees : TypedSuffix-F HeldNode HeldStep HeldEntry HeldExpr HeldLink HeldSuffix → TypedSuffix-F TypedNode TypedSuffixNode TypedEntry TypedExpr TypedLink TypedSuffix
    suffix_trees y = map-TypedSuffix HeldNode HeldStep HeldEntry HeldExpr HeldLink HeldSuffix TypedNode TypedSuffixNode TypedEntry TypedExpr TypedLink TypedSuffix (λ e. e.0) (λ e. e.0) (λ e. e.0) (λ e. e.0) (λ e. e.0) (λ e. e.0) y

    -- the step of the induction at one
    suffix_case : (x : TypedSuffix-F TypedNode TypedSuffixNode TypedEntry TypedExpr TypedLink TypedSuffix) (y : TypedSuffix-F HeldNode HeldStep HeldEntry HeldExpr HeldLink HeldSuffix) → suffix_trees y ≡ x → ForSuffix (roll-TypedSuffix x)
    unfolding meaning_of reach_of
    suffix_case x y is = subst (λ (z : TypedSuffix-F TypedNode TypedSuffixNode TypedEntry TypedExpr TypedLink TypedSuffix). ForSuffix (roll-TypedSuffix z)) is
        (subst StepPays (sym (fold-roll-TypedSuffix NodeMeant Reach Pairing Meant Linking Reach (node_meant types call) (step_meant types) (entry_meant types call) (expr_meant types call) (link_meant types call) (suffix_meant types call) (suffix_trees y))) y.node.1)

    -- each expression pays
    pub expr_pays : (e : TypedExpr) → ExprPays (meaning_of types call e)
    expr_pays = ind-TypedExpr ForNode ForStep ForEntry ForExpr ForLink ForSuffix node_case step_case entry_case expr_case link_case suffix_case

    -- and each step
    pub step_pays : (u : TypedSuffix) → StepPays (reach_of types call u)
    step_pays = ind-TypedSuffix ForNode ForStep ForEntry ForExpr ForLink ForSuffix node_case step_case entry_case expr_case link_case suffix_case

    -- the values of these expressions, one by one
    all_pay : (es : List TypedExpr) → AllPay (map (value_of types call) es)
    all_pay [] = tt
    all_pay (e ∷ es) = ((expr_pays e).told, all_pay es)

    -- the values of expressions
    pub values_paid : (es : List TypedExpr) → Pays weigh (all_values types call es)
    values_paid es = pays_all _ (all_pay es)
