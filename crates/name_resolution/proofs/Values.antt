-- Arguments, calls, and literals of sequences and dictionaries; variables.
use Rattle.std.proofs.Common.{◌≡◌, ℕ, ◌+◌, min, Bool, false, List, [], ◌∷◌, ◌++◌, map, slice_get, Option, Some, None, refl, subst, sym, ap, ◌∙◌}
use Rattle.std.specs.List.{AllByRecursion}
use Rattle.std.specs.Option.{option_map}
use Rattle.span_text.specs.declared.spot.Spot.{Spot}
use Rattle.epl_values.specs.declared.shape.Shape.{Shape}
use Rattle.epl_values.specs.declared.shape.Shape.TheVariants as shape
use Rattle.epl_tree.specs.declared.expression.Entry.{Entry, out-Entry}
use Rattle.epl_tree.specs.declared.expression.Expr.{Expr}
use Rattle.epl_tree.specs.declared.expression.ExprNode.TheOpen as tree
use Rattle.typed_program.specs.declared.expression.TypedEntry.{TypedEntry, TypedEntry-F, roll-TypedEntry, out-TypedEntry, out-roll-TypedEntry}
use Rattle.typed_program.specs.declared.expression.TypedExpr.{TypedExpr, TypedExpr-F, roll-TypedExpr, out-roll-TypedExpr}
use Rattle.typed_program.specs.declared.expression.TypedNode.{TypedNode, out-TypedNode}
use Rattle.typed_program.specs.declared.expression.TypedNode.TheOpen as typed
use Rattle.typed_program.specs.declared.expression.TypedNode.TheVariants as made
use Rattle.typed_program.specs.declared.expression.TypedLink.{TypedLink}
use Rattle.typed_program.specs.declared.expression.TypedSuffix.{TypedSuffix}
use Rattle.typed_program.specs.declared.expression.TypedSuffixNode.{TypedSuffixNode}
use Rattle.type_table.specs.declared.scope.Scope.{Scope}
use Rattle.type_table.specs.declared.scope.Seen.{Seen}
use Rattle.type_table.specs.declared.scope.SeenKind.{SeenKind}
use Rattle.type_table.specs.declared.scope.SeenKind.TheVariants as kind
use Rattle.type_table.specs.declared.table.ActionHead.{ActionHead}
use Rattle.type_table.specs.declared.table.Table.{Table}
use Rattle.type_table.specs.Table.{event_of}
use Rattle.expr_rules.specs.declared.calls.Arguments.{Arguments}
use Rattle.expr_rules.specs.declared.literals.Elements.{Elements}
use Rattle.expr_rules.specs.declared.literals.EntryList.{EntryList}
use Rattle.expr_rules.specs.declared.placed.Gives.{Gives}
use Rattle.expr_rules.specs.declared.placed.Gives.TheVariants as gives
use Rattle.expr_rules.specs.declared.placed.Judged.{Judged}
use Rattle.expr_rules.specs.Asked.{Demand, asked_by, plain}
use Rattle.expr_rules.specs.Calls.{next_wish, argument_of, argument_found, arguments_found, action_named, fields_at, event_plan, action_plan, missing_plan, plan_of_action, plan_of, callee_code, call_stands, plan_found, call_found, context_code, context_stands, context_start, context_found}
use Rattle.expr_rules.specs.Literals.{Pair, fixed, empty_code, empty_stands, element_wish, value_wish, element_of, element_found, no_elements, sequence_given, sequence_items, sequence_of, sequence_found, entry_of, key_wish, value_found, entry_found, no_entries, dictionary_given, dictionary_items, dictionary_of, dictionary_found}
use Rattle.expr_rules.specs.Names.{outer_code, variable, root_of, name_found}
use Rattle.expr_rules.specs.Operators.{Part}
use Rattle.expr_rules.specs.Places.{known, placed, judged, shape_given}
use Rattle.expr_rules.specs.Then.{through}
use Rattle.typed_program.specs.Shapes.{is_sequence, is_dictionary}
use Rattle.epl_values.specs.declared.shape.EventShape.{EventShape}
use Rattle.name_resolution.specs.Names.{Named, Around, held, meaning_of, type_named}
use Rattle.name_resolution.specs.Expressions.{Form, TypedForm, form_of, variable_form, ExprIs, FormIs, NodeIs, ExprsAre, EntriesAre}
use Rattle.name_resolution.specs.Expressions as rule
use Rattle.name_resolution.proofs.Sure.{Sure, sure_sound, sure_then, sure_as}
use Rattle.name_resolution.proofs.Through.{Along, One, More, all_as, through_more}
use Rattle.name_resolution.proofs.Agreeing.{variable_by, meant_by, ActionIs, ActionsAgree}
use Rattle.name_resolution.proofs.Judging.{Judges, Reads, Is, plain_at, stands_is, judges, placed_shape}
use Rattle.name_resolution.proofs.Operands.{exprs_are}

module _ (around : Around) (names : List Named) where
  abbrev R : Form → Part → Type 0
  R f part = Reads around names f part

  abbrev J : Form → Bool → Judged → Type 0
  J f signed j = Judges around names f signed j

  abbrev pub AreRead : (Expr → Part) → List Expr → Type 0
  AreRead part es = AllByRecursion (λ e. R (form_of e) (part e)) es

  abbrev ExprOf : Expr → TypedExpr → Type 0
  ExprOf e x = ExprIs around names e x

  -- ---- arguments

  abbrev nothing : {C : Type 0} → C → Unit {0}
  nothing c = tt

  abbrev OneArgument : Expr → Arguments → Arguments → Type 0
  OneArgument = One (λ (a : Arguments). a.items) (λ (a : Arguments). nothing a) ExprOf

  argument_is : (e : Expr) (part : Part) (a : Arguments) → R (form_of e) part → Sure (OneArgument e a) (argument_found a part)
  argument_is e part a r =
      let d = asked_by (next_wish a) a.paths in
      sure_then (Is around names e) (OneArgument e a) (part d) (argument_of a) (plain_at around names e part d refl r)
      (λ j is. sure_sound (OneArgument e a) (record { wants = a.wants; paths = a.paths; items = a.items ++ j.typed ∷ [] }) (record { item = j.typed; behind = refl; kept = refl; good = is }))

  pub arguments_are : (es : List Expr) (part : Expr → Part) (start : Arguments) → start.items ≡ [] → AreRead part es → Sure (λ a. ExprsAre around names es a.items) (arguments_found start (map part es))
  arguments_are es part start empty all =
      sure_as (More (λ (a : Arguments). a.items) (λ (a : Arguments). nothing a) ExprOf es start) (λ a. ExprsAre around names es a.items) (arguments_found start (map part es))
      (λ a m. subst (λ (xs : List TypedExpr). ExprsAre around names es xs) (sym (m.behind ∙ ap (λ (l : List TypedExpr). l ++ m.found) empty)) (exprs_are around names es m.found m.good))
      (through_more part (λ (a : Arguments). a.items) (λ (a : Arguments). nothing a) ExprOf argument_found es (all_as (λ t. R (form_of t) (part t)) (λ t. (a : Arguments) → Sure (OneArgument t a) (argument_found a (part t))) es (λ t s a. argument_is t (part t) a s) all) start)

  -- ---- calls

  event_call : (name : List ℕ) (n : ℕ) (es : List Expr) (part : Expr → Part) (spot : Spot) (table : Table) → event_of table name ≡ Some n → table.types ≡ around.types → AreRead part es → R (tree.Call name es) (plan_found (event_plan (min 65535 n) (fields_at (slice_get table.types n))) (map part es) spot)
  unfolding call_stands
  event_call name n es part spot table is types all =
      let plan = event_plan (min 65535 n) (fields_at (slice_get table.types n)) in
      record {
        at = λ d. sure_then (λ a. ExprsAre around names es a.items) (J (tree.Call name es) d.signed) (arguments_found plan.start (map part es)) (call_stands spot d plan.callee) (arguments_are es part plan.start refl all)
            (λ a h. stands_is around names (tree.Call name es) d.signed spot d (callee_code plan.callee a) None plan.callee.given (made.Event (min 65535 n) a.items) (typed.Event (min 65535 n) a.items) (λ none. made.outs-Event (min 65535 n) a.items) (λ none. rule.event (subst (λ (ts : List EventShape). type_named ts name ≡ Some n) types is) h));
      }

  action_call : (name : List ℕ) (head : ActionHead) (es : List Expr) (part : Expr → Part) (spot : Spot) → ActionIs around.actions around.first name head → AreRead part es → R (tree.Call name es) (plan_found (action_plan head) (map part es) spot)
  unfolding call_stands
  action_call name head es part spot known all =
      let plan = action_plan head in
      let number = held (around.first + known.place) in
      record {
        at = λ d. sure_then (λ a. ExprsAre around names es a.items) (J (tree.Call name es) d.signed) (arguments_found plan.start (map part es)) (call_stands spot d plan.callee) (arguments_are es part plan.start refl all)
            (λ a h. stands_is around names (tree.Call name es) d.signed spot d (callee_code plan.callee a) None plan.callee.given (made.Action head.number a.items) (typed.Action number a.items) (λ none. made.outs-Action head.number a.items ∙ ap (λ (n : ℕ). typed.Action n a.items) known.number) (λ none. rule.action known.there h));
      }

  missing_call : (name : List ℕ) (es : List Expr) (part : Expr → Part) (spot : Spot) → AreRead part es → R (tree.Call name es) (plan_found missing_plan (map part es) spot)
  unfolding call_stands
  missing_call name es part spot all = record {
    at = λ d. sure_then (λ a. ExprsAre around names es a.items) (J (tree.Call name es) d.signed) (arguments_found missing_plan.start (map part es)) (call_stands spot d missing_plan.callee) (arguments_are es part missing_plan.start refl all)
        (λ a h. stands_is around names (tree.Call name es) d.signed spot d (Some 6) None missing_plan.callee.given (made.Action 0 a.items) (typed.Action 0 a.items) (λ none. made.outs-Action 0 a.items) (λ none. absurd (cc)));
  }

  action_plan_is : (name : List ℕ) (table : Table) (scope : Scope) (o : Option ActionHead) (es : List Expr) (part : Expr → Part) (spot : Spot) → action_named table scope name ≡ o → ActionsAgree table scope around.actions around.first → AreRead part es → R (tree.Call name es) (plan_found (plan_of_action o) (map part es) spot)
  action_plan_is name table scope None es part spot is known all = missing_call name es part spot all
  action_plan_is name table scope (Some head) es part spot is known all = action_call name head es part spot (known.known name head is) all

  plan_is : (name : List ℕ) (table : Table) (scope : Scope) (o : Option ℕ) (es : List Expr) (part : Expr → Part) (spot : Spot) → event_of table name ≡ o → table.types ≡ around.types → ActionsAgree table scope around.actions around.first → AreRead part es → R (tree.Call name es) (plan_found (plan_of table o (action_named table scope name)) (map part es) spot)
  plan_is name table scope (Some n) es part spot is types known all = event_call name n es part spot table is types all
  plan_is name table scope None es part spot is types known all = action_plan_is name table scope (action_named table scope name) es part spot refl known all

  pub call_is : (name : List ℕ) (table : Table) (scope : Scope) (es : List Expr) (part : Expr → Part) (spot : Spot) → table.types ≡ around.types → ActionsAgree table scope around.actions around.first → AreRead part es → R (tree.Call name es) (call_found table scope name (map part es) spot)
  call_is name table scope es part spot types known all = plan_is name table scope (event_of table name) es part spot refl types known all

  pub context_is : (es : List Expr) (part : Expr → Part) (spot : Spot) → AreRead part es → R (tree.Context es) (context_found (map part es) spot)
  unfolding context_stands
  context_is es part spot all = record {
    at = λ d. sure_then (λ a. ExprsAre around names es a.items) (J (tree.Context es) d.signed) (arguments_found context_start (map part es)) (context_stands spot d) (arguments_are es part context_start refl all)
        (λ a h. stands_is around names (tree.Context es) d.signed spot d (context_code a.items) None (gives.Value shape.Context) (made.Context a.items) (typed.Context a.items) (λ none. made.outs-Context a.items) (λ none. rule.context h));
  }

  -- ---- a literal without items, of a type that its place fixes

  empty_is : (f : Form) (signed : Bool) (o : Option Shape) (n : TypedNode) (t : TypedForm) (spot : Spot) (d : Demand) → out-TypedNode n ≡ t → NodeIs around names f t → Sure (J f signed) (empty_stands o n spot d)
  empty_is f signed (Some s) n t spot d is h = stands_is around names f signed spot d None None (gives.Value s) n t (λ none. is) (λ none. h)
  empty_is f signed None n t spot d is h = stands_is around names f signed spot d (empty_code d.wish) None gives.Unknown n t (λ none. is) (λ none. h)

  -- ---- sequences

  abbrev OneElement : Expr → Elements → Elements → Type 0
  OneElement = One (λ (c : Elements). c.items) (λ (c : Elements). nothing c) ExprOf

  element_is : (e : Expr) (part : Part) (c : Elements) → R (form_of e) part → Sure (OneElement e c) (element_found c part)
  element_is e part c r =
      sure_then (Is around names e) (OneElement e c) (part (plain (element_wish c))) (element_of c) (plain_at around names e part (plain (element_wish c)) refl r)
      (λ j is. sure_sound (OneElement e c) _ (record { item = j.typed; behind = refl; kept = refl; good = is }))

  items_are : (es : List Expr) (signed : Bool) (xs : List TypedExpr) (s : Option Shape) (spot : Spot) (d : Demand) → ExprsAre around names es xs → Sure (J (tree.Sequence es) signed) (sequence_items xs s spot d)
  items_are es signed [] s spot d h = empty_is (tree.Sequence es) signed (fixed is_sequence d.wish) (made.Sequence []) (typed.Sequence []) spot d (made.outs-Sequence []) (rule.sequence h)
  items_are es signed (x ∷ xs) s spot d h = stands_is around names (tree.Sequence es) signed spot d None None (sequence_given s) (made.Sequence (x ∷ xs)) (typed.Sequence (x ∷ xs)) (λ none. made.outs-Sequence (x ∷ xs)) (λ none. rule.sequence h)

  pub sequence_is : (es : List Expr) (part : Expr → Part) (spot : Spot) → AreRead part es → R (tree.Sequence es) (sequence_found (map part es) spot)
  unfolding sequence_of
  sequence_is es part spot all = record {
    at = λ d. sure_then (More (λ (c : Elements). c.items) (λ (c : Elements). nothing c) ExprOf es no_elements) (J (tree.Sequence es) d.signed) (through element_found no_elements (map part es)) (sequence_of spot d)
        (through_more part (λ (c : Elements). c.items) (λ (c : Elements). nothing c) ExprOf element_found es (all_as (λ t. R (form_of t) (part t)) (λ t. (c : Elements) → Sure (OneElement t c) (element_found c (part t))) es (λ t s c. element_is t (part t) c s) all) no_elements)
        (λ c m. items_are es d.signed c.items c.shape spot d (subst (λ (xs : List TypedExpr). ExprsAre around names es xs) (sym m.behind) (exprs_are around names es m.found m.good)));
  }

  -- ---- dictionaries

  abbrev EntryOf : Entry → TypedEntry → Type 0
  EntryOf t y = ExprIs around names (out-Entry t).key (out-TypedEntry y).key × ExprIs around names (out-Entry t).value (out-TypedEntry y).value

  pub record PairReads (t : Entry) (pair : Pair) : Type 0 where
    pub key : R (form_of (out-Entry t).key) pair.key
    pub value : R (form_of (out-Entry t).value) pair.value

  entries_are : (ts : List Entry) (ys : List TypedEntry) → Along EntryOf ts ys → EntriesAre around names ts ys
  entries_are [] [] h = rule.no_entries
  entries_are [] (y ∷ ys) h = absurd h
  entries_are (t ∷ ts) [] h = absurd h
  entries_are (t ∷ ts) (y ∷ ys) h = rule.entry h.0.0 h.0.1 (entries_are ts ys h.1)

  abbrev OneEntry : Entry → EntryList → EntryList → Type 0
  OneEntry = One (λ (c : EntryList). c.entries) (λ (c : EntryList). nothing c) EntryOf

  entry_made : (t : Entry) (key value : TypedExpr) → ExprIs around names (out-Entry t).key key → ExprIs around names (out-Entry t).value value → EntryOf t (roll-TypedEntry record { key = key; value = value })
  entry_made t key value h k =
      let out = sym (out-roll-TypedEntry (record { key = key; value = value })) in (
        subst (λ (y : TypedEntry-F TypedNode TypedSuffixNode TypedEntry TypedExpr TypedLink TypedSuffix). ExprIs around names (out-Entry t).key y.key) out h,
        subst (λ (y : TypedEntry-F TypedNode TypedSuffixNode TypedEntry TypedExpr TypedLink TypedSuffix). ExprIs around names (out-Entry t).value y.value) out k,
      )

  entry_is : (t : Entry) (pair : Pair) (c : EntryList) → PairReads t pair → Sure (OneEntry t c) (entry_found c pair)
  unfolding value_found entry_of
  entry_is t pair c r =
      sure_then (Is around names (out-Entry t).key) (OneEntry t c) (pair.key (plain (key_wish c.key))) (value_found c pair.value) (plain_at around names (out-Entry t).key pair.key (plain (key_wish c.key)) refl r.key)
      (λ i is. sure_then (Is around names (out-Entry t).value) (OneEntry t c) (pair.value (plain (value_wish c))) (entry_of c i) (plain_at around names (out-Entry t).value pair.value (plain (value_wish c)) refl r.value)
      (λ j js. sure_sound (OneEntry t c) _ (record { item = roll-TypedEntry record { key = i.typed; value = j.typed }; behind = refl; kept = refl; good = entry_made t i.typed j.typed is js })))

  pairs_are : (ts : List Entry) (signed : Bool) (ys : List TypedEntry) (given : Gives) (spot : Spot) (d : Demand) → EntriesAre around names ts ys → Sure (J (tree.Dictionary ts) signed) (dictionary_items ys given spot d)
  pairs_are ts signed [] given spot d h = empty_is (tree.Dictionary ts) signed (fixed is_dictionary d.wish) (made.Dictionary []) (typed.Dictionary []) spot d (made.outs-Dictionary []) (rule.dictionary h)
  pairs_are ts signed (y ∷ ys) given spot d h = stands_is around names (tree.Dictionary ts) signed spot d None None given (made.Dictionary (y ∷ ys)) (typed.Dictionary (y ∷ ys)) (λ none. made.outs-Dictionary (y ∷ ys)) (λ none. rule.dictionary h)

  pub dictionary_is : (ts : List Entry) (part : Entry → Pair) (spot : Spot) → AllByRecursion (λ t. PairReads t (part t)) ts → R (tree.Dictionary ts) (dictionary_found (map part ts) spot)
  unfolding dictionary_of
  dictionary_is ts part spot all = record {
    at = λ d. sure_then (More (λ (c : EntryList). c.entries) (λ (c : EntryList). nothing c) EntryOf ts no_entries) (J (tree.Dictionary ts) d.signed) (through entry_found no_entries (map part ts)) (dictionary_of spot d)
        (through_more part (λ (c : EntryList). c.entries) (λ (c : EntryList). nothing c) EntryOf entry_found ts (all_as (λ t. PairReads t (part t)) (λ t. (c : EntryList) → Sure (OneEntry t c) (entry_found c (part t))) ts (λ t s c. entry_is t (part t) c s) all) no_entries)
        (λ c m. pairs_are ts d.signed c.entries (dictionary_given c.key c.value) spot d (subst (λ (ys : List TypedEntry). EntriesAre around names ts ys) (sym m.behind) (entries_are ts m.found m.good)));
  }

  -- ---- variables

  pub variable_is : (k : SeenKind) (n : ℕ) → out-TypedNode (variable k n) ≡ variable_form (variable_by k n)
  variable_is kind.Global n = made.outs-Global n
  variable_is k n = made.outs-Local n

  pub known_given : (s : Option Shape) → shape_given (known s) ≡ s
  known_given None = refl
  known_given (Some s) = refl

  name_made : (name : List ℕ) (s : Seen) (o : Option Shape) → meaning_of names name ≡ Some (meant_by s) → o ≡ shape_given (known s.shape) → FormIs around names (tree.Name name) (roll-TypedExpr record { shape = o; node = variable s.kind s.number })
  name_made name s o h is =
      let out = out-roll-TypedExpr (record { shape = o; node = variable s.kind s.number }) in
      rule.name h (ap (λ (e : TypedExpr-F TypedNode TypedSuffixNode TypedEntry TypedExpr TypedLink TypedSuffix). e.shape) out ∙ is ∙ known_given s.shape) (ap (λ (e : TypedExpr-F TypedNode TypedSuffixNode TypedEntry TypedExpr TypedLink TypedSuffix). out-TypedNode e.node) out ∙ variable_is s.kind s.number)

  pub name_is : (name : List ℕ) (o : Option Seen) (spot : Spot) → meaning_of names name ≡ option_map meant_by o → R (tree.Name name) (λ d. name_found spot d o)
  name_is name (Some s) spot h = record {
    at = λ d. sure_then (λ o. o ≡ shape_given (known s.shape)) (J (tree.Name name) d.signed) (placed spot d (outer_code s.kind s.shape) (Some (root_of s)) (known s.shape)) (judged (Some (root_of s)) (variable s.kind s.number)) (placed_shape spot d (outer_code s.kind s.shape) (Some (root_of s)) (known s.shape))
        (λ o is. sure_sound (J (tree.Name name) d.signed) (record { typed = roll-TypedExpr record { shape = o; node = variable s.kind s.number }; root = Some (root_of s); signed = false }) (judges around names (tree.Name name) d.signed (roll-TypedExpr record { shape = o; node = variable s.kind s.number }) (Some (root_of s)) (name_made name s o h is)));
  }
  name_is name None spot h = record { at = λ d. stands_is around names (tree.Name name) d.signed spot d (Some 6) None gives.Unknown (made.Boolean false) (typed.Boolean false) (λ none. made.outs-Boolean false) (λ none. absurd (cc)) }
