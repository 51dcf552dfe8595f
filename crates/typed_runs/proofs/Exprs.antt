-- Expressions that are as they should be keep the shapes of variables: one induction over typed trees.
use Rattle.std.proofs.Common.{◌≡◌, ◌&&◌, ◌∷◌}
use Rattle.typed_runs.proofs.Common.{ℕ, true, List, [], map, Option, Some, sym, ap, subst, slice_get, AllZip, Shape, Value, Program, Action, TypedExpr, TypedSuffix, Names, Checked, Linked, Paired, Stepping, if_known, gives, may_stand, shape_of, checked, stepping, Calls, Meant, Reach, Pairing, Linking, read, AllFit, MayFit, Keeps}
use Rattle.typed_program.specs.declared.statement.Variable.TheVariants as variable
use Rattle.typed_program.specs.declared.expression.TypedExpr.{TypedExpr-F, map-TypedExpr, roll-TypedExpr, fold-roll-TypedExpr, fold_out-TypedExpr}
use Rattle.typed_program.specs.declared.expression.TypedNode.{TypedNode, TypedNode-F, map-TypedNode, roll-TypedNode, fold-TypedNode, fold-roll-TypedNode}
use Rattle.typed_program.specs.declared.expression.TypedNode.TheOpen as node
use Rattle.typed_program.specs.declared.expression.TypedLink.{TypedLink, TypedLink-F, map-TypedLink, roll-TypedLink, fold-TypedLink, fold-roll-TypedLink}
use Rattle.typed_program.specs.declared.expression.TypedEntry.{TypedEntry, TypedEntry-F, map-TypedEntry, roll-TypedEntry, fold-TypedEntry, fold-roll-TypedEntry}
use Rattle.typed_program.specs.declared.expression.TypedSuffix.{TypedSuffix-F, map-TypedSuffix, roll-TypedSuffix, fold-roll-TypedSuffix}
use Rattle.typed_program.specs.declared.expression.TypedSuffixNode.{TypedSuffixNode, TypedSuffixNode-F, map-TypedSuffixNode, roll-TypedSuffixNode, fold-TypedSuffixNode, fold-roll-TypedSuffixNode}
use Rattle.typed_program.specs.declared.expression.TypedNode.TheFolds.{ind-TypedExpr, ind-TypedSuffix}
use Rattle.typed_program.specs.Expressions.{Node, Step, node_so, step_so, entry_so, expr_so, link_so, suffix_so}
use Rattle.body_meaning.specs.Expressions.{NodeMeant, node_meant, step_meant, entry_meant, expr_meant, link_meant, suffix_meant, meaning_of, reach_of}
use Rattle.typed_runs.proofs.Seen.{Seen, named}
use Rattle.typed_runs.proofs.Stepping.{KeepsExpr, KeepsStep}
use Rattle.typed_runs.proofs.Sound.{Sound, left, right, known_some}
use Rattle.typed_runs.proofs.StepForms.{SoundStep, field_form, item_form, key_form, method_form}
use Rattle.typed_runs.proofs.Forms.{SoundLink, SoundEntry, integer_form, boolean_form, text_form, read_form, or_form, and_form, xor_form, not_form, minus_form, compare_form, links_form, postfix_form, call_form, event_form, sequence_form, dictionary_form, default_form, context_form, current_form}

-- what is claimed of each holds of all, one by one
all_held : {A C B : Type 0} (P : C → B → Type 0) (test : A → C) (made : A → B) (xs : List ((x : A) × P (test x) (made x))) → AllZip P (map test (map (λ e. e.0) xs)) (map made (map (λ e. e.0) xs))
all_held P test made [] = tt
all_held P test made (x ∷ xs) = (x.1, all_held P test made xs)

module _ (program : Program) (monitor : ℕ) (room globals locals : List Shape) (actions : List Action) (call : Calls) (seen : Seen program monitor room globals locals actions call) where
  -- what may be named
  abbrev names : Names
  names = named program monitor globals locals actions

  -- what a node means
  abbrev node_of : TypedNode → NodeMeant
  node_of = fold-TypedNode NodeMeant Reach Pairing Meant Linking Reach (node_meant program.types call) (step_meant program.types) (entry_meant program.types call) (expr_meant program.types call) (link_meant program.types call) (suffix_meant program.types call)

  -- what a step behind a value means
  abbrev step_of : TypedSuffixNode → Reach
  step_of = fold-TypedSuffixNode NodeMeant Reach Pairing Meant Linking Reach (node_meant program.types call) (step_meant program.types) (entry_meant program.types call) (expr_meant program.types call) (link_meant program.types call) (suffix_meant program.types call)

  -- what an operator with its operand means
  abbrev linking_of : TypedLink → Linking
  linking_of = fold-TypedLink NodeMeant Reach Pairing Meant Linking Reach (node_meant program.types call) (step_meant program.types) (entry_meant program.types call) (expr_meant program.types call) (link_meant program.types call) (suffix_meant program.types call)

  -- what an entry means
  abbrev pairing_of : TypedEntry → Pairing
  pairing_of = fold-TypedEntry NodeMeant Reach Pairing Meant Linking Reach (node_meant program.types call) (step_meant program.types) (entry_meant program.types call) (expr_meant program.types call) (link_meant program.types call) (suffix_meant program.types call)

  -- whether a node is as it should be
  abbrev node_test : TypedNode → Node
  node_test = fold-TypedNode Node Step Paired Checked Linked Stepping (node_so names) (step_so names.types) entry_so (expr_so names) link_so suffix_so

  -- whether a step is
  abbrev step_test : TypedSuffixNode → Step
  step_test = fold-TypedSuffixNode Node Step Paired Checked Linked Stepping (node_so names) (step_so names.types) entry_so (expr_so names) link_so suffix_so

  -- an operator with its operand, as it is asked
  abbrev linked : TypedLink → Linked
  linked = fold-TypedLink Node Step Paired Checked Linked Stepping (node_so names) (step_so names.types) entry_so (expr_so names) link_so suffix_so

  -- an entry, as it is asked
  abbrev paired : TypedEntry → Paired
  paired = fold-TypedEntry Node Step Paired Checked Linked Stepping (node_so names) (step_so names.types) entry_so (expr_so names) link_so suffix_so

  -- what is claimed of each kind of tree
  abbrev NodeKeeps : Node → NodeMeant → Type 0
  NodeKeeps test n = (s : Option Shape) → may_stand program.types s ≡ true → test s ≡ true → KeepsExpr program monitor room (n s) s

  -- the same of a step
  abbrev StepKeeps : Step → Reach → Type 0
  StepKeeps test r = (after : Option Shape) (s : Shape) → test after s ≡ true → KeepsStep program monitor room r s after

  -- of an expression
  abbrev ExprKeeps : Checked → Meant → Type 0
  ExprKeeps c m = Sound program monitor room c m

  -- of an operator with its operand
  abbrev LinkKeeps : Linked → Linking → Type 0
  LinkKeeps l k = SoundLink program monitor room l k

  -- of an entry
  abbrev EntryKeeps : Paired → Pairing → Type 0
  EntryKeeps p q = SoundEntry program monitor room p q

  -- of a step with its shape
  abbrev SuffixKeeps : Stepping → Reach → Type 0
  SuffixKeeps u r = SoundStep program monitor room u r

  -- what is claimed of a node
  abbrev ForNode : TypedNode → Type 0
  ForNode n = NodeKeeps (node_test n) (node_of n)

  -- of a step
  abbrev ForStep : TypedSuffixNode → Type 0
  ForStep n = StepKeeps (step_test n) (step_of n)

  -- of an entry
  abbrev ForEntry : TypedEntry → Type 0
  ForEntry e = EntryKeeps (paired e) (pairing_of e)

  -- of an expression
  abbrev ForExpr : TypedExpr → Type 0
  ForExpr e = ExprKeeps (checked names e) (meaning_of program.types call e)

  -- of an operator with its operand
  abbrev ForLink : TypedLink → Type 0
  ForLink l = LinkKeeps (linked l) (linking_of l)

  -- of a step with its shape
  abbrev ForSuffix : TypedSuffix → Type 0
  ForSuffix u = SuffixKeeps (stepping names u) (reach_of program.types call u)

  -- a node with what is claimed of it
  abbrev HeldNode : Type 0
  HeldNode = (t : TypedNode) × ForNode t

  -- a step
  abbrev HeldStep : Type 0
  HeldStep = (t : TypedSuffixNode) × ForStep t

  -- an entry
  abbrev HeldEntry : Type 0
  HeldEntry = (t : TypedEntry) × ForEntry t

  -- an expression
  abbrev HeldExpr : Type 0
  HeldExpr = (t : TypedExpr) × ForExpr t

  -- an operator with its operand
  abbrev HeldLink : Type 0
  HeldLink = (t : TypedLink) × ForLink t

  -- a step with its shape
  abbrev HeldSuffix : Type 0
  HeldSuffix = (t : TypedSuffix) × ForSuffix t

  -- expressions of which it is claimed
  exprs_sound : (es : List HeldExpr) → AllZip ExprKeeps (map (checked names) (map (λ e. e.0) es)) (map (meaning_of program.types call) (map (λ e. e.0) es))
  exprs_sound es = all_held ExprKeeps (checked names) (meaning_of program.types call) es

  -- operators of which it is claimed
  links_sound : (ls : List HeldLink) → AllZip LinkKeeps (map linked (map (λ e. e.0) ls)) (map linking_of (map (λ e. e.0) ls))
  links_sound ls = all_held LinkKeeps linked linking_of ls

  -- a call of an action that may be named
  called : (n : ℕ) (action : Action) → slice_get actions n ≡ Some action → action.monitor ≡ monitor → (vs : List Value) → AllFit program.types vs action.params → Keeps program monitor room (λ v. MayFit program.types v action.result) (call n vs)
  called n action is own vs fit = subst (λ (m : ℕ). Keeps program m room (λ v. MayFit program.types v action.result) (call n vs)) own (seen.calls_keep n action (seen.actions_there n action is) room vs fit)

  -- a global that is read
  global_read : (n : ℕ) (s : Option Shape) → if_known (λ t. gives t s) (slice_get globals n) ≡ true → KeepsExpr program monitor room (read (variable.Global n)) s
  global_read n s h = let known = known_some (λ t. gives t s) (slice_get globals n) h in read_form program monitor room (variable.Global n) known.0 s (seen.globals_there n known.0 known.1) known.2

  -- a local that is read
  local_read : (n : ℕ) (s : Option Shape) → if_known (λ t. gives t s) (slice_get locals n) ≡ true → KeepsExpr program monitor room (read (variable.Local n)) s
  local_read n s h = let known = known_some (λ t. gives t s) (slice_get locals n) h in read_form program monitor room (variable.Local n) known.0 s (seen.locals_there n known.0 known.1) known.2

  -- ---- nodes

  -- the trees in a node
  abbrev node_trees : TypedNode-F HeldNode HeldStep HeldEntry HeldExpr HeldLink HeldSuffix → TypedNode-F TypedNode TypedSuffixNode TypedEntry TypedExpr TypedLink TypedSuffix
  node_trees y = map-TypedNode HeldNode HeldStep HeldEntry HeldExpr HeldLink HeldSuffix TypedNode TypedSuffixNode TypedEntry TypedExpr TypedLink TypedSuffix (λ e. e.0) (λ e. e.0) (λ e. e.0) (λ e. e.0) (λ e. e.0) (λ e. e.0) y

  -- what they mean
  abbrev node_parts : TypedNode-F TypedNode TypedSuffixNode TypedEntry TypedExpr TypedLink TypedSuffix → TypedNode-F NodeMeant Reach Pairing Meant Linking Reach
  node_parts x = map-TypedNode TypedNode TypedSuffixNode TypedEntry TypedExpr TypedLink TypedSuffix NodeMeant Reach Pairing Meant Linking Reach node_of step_of pairing_of (meaning_of program.types call) linking_of (reach_of program.types call) x

  -- what is asked of them
  abbrev node_tested : TypedNode-F TypedNode TypedSuffixNode TypedEntry TypedExpr TypedLink TypedSuffix → TypedNode-F Node Step Paired Checked Linked Stepping
  node_tested x = map-TypedNode TypedNode TypedSuffixNode TypedEntry TypedExpr TypedLink TypedSuffix Node Step Paired Checked Linked Stepping node_test step_test paired (checked names) linked (stepping names) x

  -- a node whose parts are as claimed
  node_at : (y : TypedNode-F HeldNode HeldStep HeldEntry HeldExpr HeldLink HeldSuffix) (s : Option Shape) → may_stand program.types s ≡ true → node_so names (node_tested (node_trees y)) s ≡ true → KeepsExpr program monitor room (node_meant program.types call (node_parts (node_trees y)) s) s
  node_at (node.Integer n) s may h = integer_form program monitor room n s h
  node_at (node.Text t) s may h = text_form program monitor room t s h
  node_at (node.Boolean b) s may h = boolean_form program monitor room b s h
  node_at (node.Global n) s may h = global_read n s h
  node_at (node.Local n) s may h = local_read n s h
  node_at (node.Or first rest) s may h = or_form program monitor room (checked names first.0) (meaning_of program.types call first.0) (map (checked names) (map (λ e. e.0) rest)) (map (meaning_of program.types call) (map (λ e. e.0) rest)) first.1 (exprs_sound rest) s h
  node_at (node.Xor first rest) s may h = xor_form program monitor room (checked names first.0) (meaning_of program.types call first.0) (map (checked names) (map (λ e. e.0) rest)) (map (meaning_of program.types call) (map (λ e. e.0) rest)) first.1 (exprs_sound rest) s h
  node_at (node.And first rest) s may h = and_form program monitor room (checked names first.0) (meaning_of program.types call first.0) (map (checked names) (map (λ e. e.0) rest)) (map (meaning_of program.types call) (map (λ e. e.0) rest)) first.1 (exprs_sound rest) s h
  node_at (node.Not e) s may h = not_form program monitor room (checked names e.0) (meaning_of program.types call e.0) e.1 s h
  node_at (node.Compare one comparison other) s may h = compare_form program monitor room comparison (checked names one.0) (checked names other.0) (meaning_of program.types call one.0) (meaning_of program.types call other.0) one.1 other.1 s h
  node_at (node.Sum first links) s may h = links_form program monitor room (checked names first.0) (meaning_of program.types call first.0) (map linked (map (λ e. e.0) links)) (map linking_of (map (λ e. e.0) links)) first.1 (links_sound links) s h
  node_at (node.Product first links) s may h = links_form program monitor room (checked names first.0) (meaning_of program.types call first.0) (map linked (map (λ e. e.0) links)) (map linking_of (map (λ e. e.0) links)) first.1 (links_sound links) s h
  node_at (node.Minus e) s may h = minus_form program monitor room (checked names e.0) (meaning_of program.types call e.0) e.1 s h
  node_at (node.Postfix first steps) s may h = postfix_form program monitor room (checked names first.0) (meaning_of program.types call first.0) (map (stepping names) (map (λ e. e.0) steps)) (map (reach_of program.types call) (map (λ e. e.0) steps)) first.1 (all_held SuffixKeeps (stepping names) (reach_of program.types call) steps) s h
  node_at (node.Action n es) s may h = call_form program monitor room call n (map (checked names) (map (λ e. e.0) es)) (map (meaning_of program.types call) (map (λ e. e.0) es)) (exprs_sound es) s (slice_get actions n) (called n) h
  node_at (node.Event n es) s may h = event_form program monitor room n (map (checked names) (map (λ e. e.0) es)) (map (meaning_of program.types call) (map (λ e. e.0) es)) (exprs_sound es) s h
  node_at (node.Sequence es) s may h = sequence_form program monitor room (map (checked names) (map (λ e. e.0) es)) (map (meaning_of program.types call) (map (λ e. e.0) es)) (exprs_sound es) s h
  node_at (node.Dictionary ps) s may h = dictionary_form program monitor room (map paired (map (λ e. e.0) ps)) (map pairing_of (map (λ e. e.0) ps)) (all_held EntryKeeps paired pairing_of ps) s h
  node_at node.Default s may h = default_form program monitor room seen.begins s may h
  node_at (node.Context es) s may h = context_form program monitor room (map (checked names) (map (λ e. e.0) es)) (map (meaning_of program.types call) (map (λ e. e.0) es)) (exprs_sound es) s h
  node_at node.ContextCurrent s may h = current_form program monitor room s h
  node_at (node.Tenths n) s may h = integer_form program monitor room n s h

  -- the step of the induction at a node
  node_case : (x : TypedNode-F TypedNode TypedSuffixNode TypedEntry TypedExpr TypedLink TypedSuffix) (y : TypedNode-F HeldNode HeldStep HeldEntry HeldExpr HeldLink HeldSuffix) → node_trees y ≡ x → ForNode (roll-TypedNode x)
  unfolding meaning_of reach_of
  node_case x y is = subst (λ (z : TypedNode-F TypedNode TypedSuffixNode TypedEntry TypedExpr TypedLink TypedSuffix). ForNode (roll-TypedNode z)) is
      (subst (λ (m : NodeMeant). NodeKeeps (node_test (roll-TypedNode (node_trees y))) m) (sym (fold-roll-TypedNode NodeMeant Reach Pairing Meant Linking Reach (node_meant program.types call) (step_meant program.types) (entry_meant program.types call) (expr_meant program.types call) (link_meant program.types call) (suffix_meant program.types call) (node_trees y)))
      (subst (λ (c : Node). NodeKeeps c (node_meant program.types call (node_parts (node_trees y)))) (sym (fold-roll-TypedNode Node Step Paired Checked Linked Stepping (node_so names) (step_so names.types) entry_so (expr_so names) link_so suffix_so (node_trees y))) (node_at y)))

  -- ---- steps

  -- the trees in a step
  abbrev step_trees : TypedSuffixNode-F HeldNode HeldStep HeldEntry HeldExpr HeldLink HeldSuffix → TypedSuffixNode-F TypedNode TypedSuffixNode TypedEntry TypedExpr TypedLink TypedSuffix
  step_trees y = map-TypedSuffixNode HeldNode HeldStep HeldEntry HeldExpr HeldLink HeldSuffix TypedNode TypedSuffixNode TypedEntry TypedExpr TypedLink TypedSuffix (λ e. e.0) (λ e. e.0) (λ e. e.0) (λ e. e.0) (λ e. e.0) (λ e. e.0) y

  -- what they mean
  abbrev step_parts : TypedSuffixNode-F TypedNode TypedSuffixNode TypedEntry TypedExpr TypedLink TypedSuffix → TypedSuffixNode-F NodeMeant Reach Pairing Meant Linking Reach
  step_parts x = map-TypedSuffixNode TypedNode TypedSuffixNode TypedEntry TypedExpr TypedLink TypedSuffix NodeMeant Reach Pairing Meant Linking Reach node_of step_of pairing_of (meaning_of program.types call) linking_of (reach_of program.types call) x

  -- what is asked of them
  abbrev step_tested : TypedSuffixNode-F TypedNode TypedSuffixNode TypedEntry TypedExpr TypedLink TypedSuffix → TypedSuffixNode-F Node Step Paired Checked Linked Stepping
  step_tested x = map-TypedSuffixNode TypedNode TypedSuffixNode TypedEntry TypedExpr TypedLink TypedSuffix Node Step Paired Checked Linked Stepping node_test step_test paired (checked names) linked (stepping names) x

  -- a step whose parts are as claimed
  step_at : (y : TypedSuffixNode-F HeldNode HeldStep HeldEntry HeldExpr HeldLink HeldSuffix) (after : Option Shape) (s : Shape) → step_so names.types (step_tested (step_trees y)) after s ≡ true → KeepsStep program monitor room (step_meant program.types (step_parts (step_trees y))) s after
  step_at (node.Field n) after s h = field_form program monitor room n after s h
  step_at (node.Item e) after s h = item_form program monitor room (checked names e.0) (meaning_of program.types call e.0) after s e.1 h
  step_at (node.Key e) after s h = key_form program monitor room (checked names e.0) (meaning_of program.types call e.0) after s e.1 h
  step_at (node.Method m es) after s h = method_form program monitor room m (map (checked names) (map (λ e. e.0) es)) (map (meaning_of program.types call) (map (λ e. e.0) es)) after s (exprs_sound es) h

  -- the step of the induction at one
  step_case : (x : TypedSuffixNode-F TypedNode TypedSuffixNode TypedEntry TypedExpr TypedLink TypedSuffix) (y : TypedSuffixNode-F HeldNode HeldStep HeldEntry HeldExpr HeldLink HeldSuffix) → step_trees y ≡ x → ForStep (roll-TypedSuffixNode x)
  unfolding meaning_of reach_of
  step_case x y is = subst (λ (z : TypedSuffixNode-F TypedNode TypedSuffixNode TypedEntry TypedExpr TypedLink TypedSuffix). ForStep (roll-TypedSuffixNode z)) is
      (subst (λ (m : Reach). StepKeeps (step_test (roll-TypedSuffixNode (step_trees y))) m) (sym (fold-roll-TypedSuffixNode NodeMeant Reach Pairing Meant Linking Reach (node_meant program.types call) (step_meant program.types) (entry_meant program.types call) (expr_meant program.types call) (link_meant program.types call) (suffix_meant program.types call) (step_trees y)))
      (subst (λ (c : Step). StepKeeps c (step_meant program.types (step_parts (step_trees y)))) (sym (fold-roll-TypedSuffixNode Node Step Paired Checked Linked Stepping (node_so names) (step_so names.types) entry_so (expr_so names) link_so suffix_so (step_trees y))) (step_at y)))

  -- ---- what holds nodes

  -- the trees in an entry
  abbrev entry_trees : TypedEntry-F HeldNode HeldStep HeldEntry HeldExpr HeldLink HeldSuffix → TypedEntry-F TypedNode TypedSuffixNode TypedEntry TypedExpr TypedLink TypedSuffix
  entry_trees y = map-TypedEntry HeldNode HeldStep HeldEntry HeldExpr HeldLink HeldSuffix TypedNode TypedSuffixNode TypedEntry TypedExpr TypedLink TypedSuffix (λ e. e.0) (λ e. e.0) (λ e. e.0) (λ e. e.0) (λ e. e.0) (λ e. e.0) y

  -- an entry whose parts are as claimed
  entry_at : (y : TypedEntry-F HeldNode HeldStep HeldEntry HeldExpr HeldLink HeldSuffix) → EntryKeeps (record { key = checked names y.key.0; value = checked names y.value.0 }) (record { key = (meaning_of program.types call y.key.0).value; value = (meaning_of program.types call y.value.0).value })
  entry_at y = record { key_sound = λ h. (y.key.1 h).told; value_sound = λ h. (y.value.1 h).told }

  -- the step of the induction at one
  entry_case : (x : TypedEntry-F TypedNode TypedSuffixNode TypedEntry TypedExpr TypedLink TypedSuffix) (y : TypedEntry-F HeldNode HeldStep HeldEntry HeldExpr HeldLink HeldSuffix) → entry_trees y ≡ x → ForEntry (roll-TypedEntry x)
  unfolding meaning_of reach_of
  entry_case x y is = subst (λ (z : TypedEntry-F TypedNode TypedSuffixNode TypedEntry TypedExpr TypedLink TypedSuffix). ForEntry (roll-TypedEntry z)) is
      (subst (λ (m : Pairing). EntryKeeps (paired (roll-TypedEntry (entry_trees y))) m) (sym (fold-roll-TypedEntry NodeMeant Reach Pairing Meant Linking Reach (node_meant program.types call) (step_meant program.types) (entry_meant program.types call) (expr_meant program.types call) (link_meant program.types call) (suffix_meant program.types call) (entry_trees y)))
      (subst (λ (c : Paired). EntryKeeps c (record { key = (meaning_of program.types call y.key.0).value; value = (meaning_of program.types call y.value.0).value })) (sym (fold-roll-TypedEntry Node Step Paired Checked Linked Stepping (node_so names) (step_so names.types) entry_so (expr_so names) link_so suffix_so (entry_trees y))) (entry_at y)))

  -- the trees in an expression
  abbrev expr_trees : TypedExpr-F HeldNode HeldStep HeldEntry HeldExpr HeldLink HeldSuffix → TypedExpr-F TypedNode TypedSuffixNode TypedEntry TypedExpr TypedLink TypedSuffix
  expr_trees y = map-TypedExpr HeldNode HeldStep HeldEntry HeldExpr HeldLink HeldSuffix TypedNode TypedSuffixNode TypedEntry TypedExpr TypedLink TypedSuffix (λ e. e.0) (λ e. e.0) (λ e. e.0) (λ e. e.0) (λ e. e.0) (λ e. e.0) y

  -- an expression whose node is as claimed
  expr_at : (y : TypedExpr-F HeldNode HeldStep HeldEntry HeldExpr HeldLink HeldSuffix) → ExprKeeps (record { shape = y.shape; holds = may_stand program.types y.shape && node_test y.node.0 y.shape }) (node_of y.node.0 y.shape)
  expr_at y h = y.node.1 y.shape (left (may_stand program.types y.shape) (node_test y.node.0 y.shape) h) (right (may_stand program.types y.shape) (node_test y.node.0 y.shape) h)

  -- the step of the induction at one
  expr_case : (x : TypedExpr-F TypedNode TypedSuffixNode TypedEntry TypedExpr TypedLink TypedSuffix) (y : TypedExpr-F HeldNode HeldStep HeldEntry HeldExpr HeldLink HeldSuffix) → expr_trees y ≡ x → ForExpr (roll-TypedExpr x)
  unfolding meaning_of reach_of
  expr_case x y is = subst (λ (z : TypedExpr-F TypedNode TypedSuffixNode TypedEntry TypedExpr TypedLink TypedSuffix). ForExpr (roll-TypedExpr z)) is
      (subst (λ (m : Meant). ExprKeeps (checked names (roll-TypedExpr (expr_trees y))) m) (sym (fold-roll-TypedExpr NodeMeant Reach Pairing Meant Linking Reach (node_meant program.types call) (step_meant program.types) (entry_meant program.types call) (expr_meant program.types call) (link_meant program.types call) (suffix_meant program.types call) (expr_trees y)))
      (subst (λ (c : Checked). ExprKeeps c (node_of y.node.0 y.shape)) (sym (fold-roll-TypedExpr Node Step Paired Checked Linked Stepping (node_so names) (step_so names.types) entry_so (expr_so names) link_so suffix_so (expr_trees y))) (expr_at y)))

  -- the trees in an operator with its operand
  abbrev link_trees : TypedLink-F HeldNode HeldStep HeldEntry HeldExpr HeldLink HeldSuffix → TypedLink-F TypedNode TypedSuffixNode TypedEntry TypedExpr TypedLink TypedSuffix
  link_trees y = map-TypedLink HeldNode HeldStep HeldEntry HeldExpr HeldLink HeldSuffix TypedNode TypedSuffixNode TypedEntry TypedExpr TypedLink TypedSuffix (λ e. e.0) (λ e. e.0) (λ e. e.0) (λ e. e.0) (λ e. e.0) (λ e. e.0) y

  -- one whose operand is as claimed
  link_at : (y : TypedLink-F HeldNode HeldStep HeldEntry HeldExpr HeldLink HeldSuffix) → LinkKeeps (record { operator = y.operator; operand = checked names y.operand.0 }) (record { operator = y.operator; operand = (meaning_of program.types call y.operand.0).value })
  link_at y h = (y.operand.1 h).told

  -- the step of the induction at one
  link_case : (x : TypedLink-F TypedNode TypedSuffixNode TypedEntry TypedExpr TypedLink TypedSuffix) (y : TypedLink-F HeldNode HeldStep HeldEntry HeldExpr HeldLink HeldSuffix) → link_trees y ≡ x → ForLink (roll-TypedLink x)
  unfolding meaning_of reach_of
  link_case x y is = subst (λ (z : TypedLink-F TypedNode TypedSuffixNode TypedEntry TypedExpr TypedLink TypedSuffix). ForLink (roll-TypedLink z)) is
      (subst (λ (m : Linking). LinkKeeps (linked (roll-TypedLink (link_trees y))) m) (sym (fold-roll-TypedLink NodeMeant Reach Pairing Meant Linking Reach (node_meant program.types call) (step_meant program.types) (entry_meant program.types call) (expr_meant program.types call) (link_meant program.types call) (suffix_meant program.types call) (link_trees y)))
      (subst (λ (c : Linked). LinkKeeps c (record { operator = y.operator; operand = (meaning_of program.types call y.operand.0).value })) (sym (fold-roll-TypedLink Node Step Paired Checked Linked Stepping (node_so names) (step_so names.types) entry_so (expr_so names) link_so suffix_so (link_trees y))) (link_at y)))

  -- the trees in a step with its shape
  abbrev suffix_trees : TypedSuffix-F HeldNode HeldStep HeldEntry HeldExpr HeldLink HeldSuffix → TypedSuffix-F TypedNode TypedSuffixNode TypedEntry TypedExpr TypedLink TypedSuffix
  suffix_trees y = map-TypedSuffix HeldNode HeldStep HeldEntry HeldExpr HeldLink HeldSuffix TypedNode TypedSuffixNode TypedEntry TypedExpr TypedLink TypedSuffix (λ e. e.0) (λ e. e.0) (λ e. e.0) (λ e. e.0) (λ e. e.0) (λ e. e.0) y

  -- one whose step is as claimed
  suffix_at : (y : TypedSuffix-F HeldNode HeldStep HeldEntry HeldExpr HeldLink HeldSuffix) → SuffixKeeps (record { shape = y.shape; leads = step_test y.node.0 y.shape }) (step_of y.node.0)
  suffix_at y s h = y.node.1 y.shape s h

  -- the step of the induction at one
  suffix_case : (x : TypedSuffix-F TypedNode TypedSuffixNode TypedEntry TypedExpr TypedLink TypedSuffix) (y : TypedSuffix-F HeldNode HeldStep HeldEntry HeldExpr HeldLink HeldSuffix) → suffix_trees y ≡ x → ForSuffix (roll-TypedSuffix x)
  unfolding meaning_of reach_of
  suffix_case x y is = subst (λ (z : TypedSuffix-F TypedNode TypedSuffixNode TypedEntry TypedExpr TypedLink TypedSuffix). ForSuffix (roll-TypedSuffix z)) is
      (subst (λ (m : Reach). SuffixKeeps (stepping names (roll-TypedSuffix (suffix_trees y))) m) (sym (fold-roll-TypedSuffix NodeMeant Reach Pairing Meant Linking Reach (node_meant program.types call) (step_meant program.types) (entry_meant program.types call) (expr_meant program.types call) (link_meant program.types call) (suffix_meant program.types call) (suffix_trees y)))
      (subst (λ (c : Stepping). SuffixKeeps c (step_of y.node.0)) (sym (fold-roll-TypedSuffix Node Step Paired Checked Linked Stepping (node_so names) (step_so names.types) entry_so (expr_so names) link_so suffix_so (suffix_trees y))) (suffix_at y)))

  -- an expression that is as it should be
  pub expr_sound : (e : TypedExpr) → Sound program monitor room (checked names e) (meaning_of program.types call e)
  expr_sound = ind-TypedExpr ForNode ForStep ForEntry ForExpr ForLink ForSuffix node_case step_case entry_case expr_case link_case suffix_case

  -- a step that is as it should be
  pub step_sound : (u : TypedSuffix) → SoundStep program monitor room (stepping names u) (reach_of program.types call u)
  step_sound = ind-TypedSuffix ForNode ForStep ForEntry ForExpr ForLink ForSuffix node_case step_case entry_case expr_case link_case suffix_case

  -- the shape of an expression is the one that stands at it
  pub checked_shape : (e : TypedExpr) → (checked names e).shape ≡ shape_of e
  checked_shape e = ap (λ (c : Checked). c.shape) (fold_out-TypedExpr Node Step Paired Checked Linked Stepping (node_so names) (step_so names.types) entry_so (expr_so names) link_so suffix_so e)
