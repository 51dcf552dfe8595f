-- What is named in arguments, elements and entries is mentioned in the typed tree, and so is a name that stands alone.
use Rattle.std.proofs.Common.{◌≡◌, ◌∷◌, ◌++◌, ◌⊎◌}
use Rattle.program_laws.proofs.Common.{ℕ, Bool, true, false, List, [], map, Option, Some, None, refl, sym, ap, subst, ◌∙◌, true≢false, inl, inr, bytes_eq, eq-eqb, bytes_eq-Decides, Spot, Shape, TypedEntry, roll-TypedEntry, TypedExpr, Mention, mentions, all_mention, Scope, Seen, SeenKind, ParamHead, Table, event_of, Arguments, Elements, EntryList, Gives, Judged, Demand, asked_by, inside, next_wish, argument_of, argument_found, arguments_found, no_arguments, param_wants, action_named, plan_of, callee_node, callee_code, plan_found, call_found, context_code, context_start, context_found, call_paths, items_of, typed_arguments, Pair, element_found, no_elements, sequence_items, sequence_given, sequence_found, known_first, entry_found, key_wish, no_entries, dictionary_given, dictionary_items, dictionary_found, element_wish, value_wish, seen, outer_code, variable, root_of, name_found, Part, known, astray_code, shape_of_expr, codes_of, any_of}
use Rattle.epl_values.specs.declared.shape.Shape.TheVariants as shape
use Rattle.typed_program.specs.declared.expression.TypedNode.TheVariants as made
use Rattle.typed_program.specs.declared.expression.TypedNode.TheOpen as typed
use Rattle.typed_program.specs.Mentions.{either}
use Rattle.typed_program.specs.Mentions.{any_of as any_mention}
use Rattle.type_table.specs.declared.scope.SeenKind.TheVariants as kind
use Rattle.expr_rules.specs.declared.calls.CalleeKind.{CalleeKind}
use Rattle.expr_rules.specs.declared.calls.CalleeKind.TheVariants as callee
use Rattle.expr_rules.specs.declared.calls.CallPlan.{CallPlan}
use Rattle.expr_rules.specs.declared.placed.Gives.TheVariants as gives
use Rattle.expr_rules.specs.Asked.{plain}
use Rattle.expr_rules.specs.Calls.{call_stands, context_stands}
use Rattle.expr_rules.specs.Literals.{element_of, sequence_of, entry_of, value_found, dictionary_of}
use Rattle.expr_rules.specs.Places.{is_global, group_of}
use Rattle.expr_rules.specs.Then.{and_then, through}
use Rattle.stmt_check.specs.Captures.{Names as Naming, either as either_name}
use Rattle.program_laws.proofs.Exprs.Sure.{Sure, sure_then, sure_sound, sure_node, sure_any}
use Rattle.program_laws.proofs.Lawful.Mentioning.{node_said, entry_said, said, entry_made, row_grows, row_hits}
use Rattle.program_laws.proofs.Lawful.Names.{outer_clear, outer_none}
use Rattle.program_laws.proofs.Lawful.Saying.{Hit, hit_as, hit_grows, hit_first, hit_second, Keeps, Hits, Mentions, PartSays, stands_says, first_says}
use Rattle.program_laws.proofs.Lawful.Saying.{row_hits as row_says}
use Rattle.program_laws.proofs.Exprs.Inductions.{Each}

module _ (name : List ℕ) (s : Seen) where
  -- ---- a name

  variable_said : (k : SeenKind) (n : ℕ) → is_global k ≡ false → node_said (variable k n) n ≡ true
  variable_said kind.Global n inner = absurd (true≢false inner)
  variable_said k n inner = ap (λ (m : Mention). m n) (said (typed.Local n) (made.Local n) (made.rolls-Local n)) ∙ eq-eqb n n refl

  seen_says : (spot : Spot) (demand : Demand) → is_global s.kind ≡ false → Sure (Mentions name s) (name_found spot demand (Some s))
  seen_says spot demand inner = record {
    where_clear = λ h.
        (stands_says name s spot demand (outer_code s.kind s.shape) (Some (root_of s)) (known s.shape) (variable s.kind s.number)
        (record { mentioned = variable_said s.kind s.number inner; free = outer_clear s.kind s.shape ((outer_none spot demand s).where_clear h) })).where_clear h;
  }

  -- a name, where it is the one that is asked for
  pub name_says : (scope : Scope) → seen scope name ≡ Some s → is_global s.kind ≡ false → (text : List ℕ) (spot : Spot) → PartSays name s (bytes_eq text) (λ demand. name_found spot demand (seen scope text))
  name_says scope at inner text spot = record {
    at_demand = λ is demand.
        let found : seen scope text ≡ Some s = ap (seen scope) ((bytes_eq-Decides text name).0 is) ∙ at in
        subst (λ (o : Option Seen). Sure (Mentions name s) (name_found spot demand o)) (sym found) (seen_says spot demand inner);
  }

  -- what names nothing
  pub none_says : (part : Part) → PartSays name s (λ n. false) part
  none_says part = record { at_demand = λ is demand. absurd (true≢false (sym is)) }

  -- what stands in brackets
  pub group_says : (part : Part) (n : Naming) (spot : Spot) → PartSays name s n part → PartSays name s n (λ demand. and_then (part (inside demand)) (group_of spot demand))
  unfolding group_of
  group_says part n spot p = record {
    at_demand = λ is demand.
        sure_then (Mentions name s) (Mentions name s) (part (inside demand)) (group_of spot demand) (p.at_demand is (inside demand))
        (λ j m. sure_node (Mentions name s) spot (codes_of (astray_code demand.astray)) j (λ none. m));
  }

  -- ---- arguments

  abbrev ArgumentsSay : Arguments → Type 0
  ArgumentsSay a = Hit s (all_mention a.items)

  abbrev items_with : List TypedExpr → Judged → List TypedExpr
  items_with items j = items ++ j.typed ∷ []

  items_grow : (items : List TypedExpr) (j : Judged) → Hit s (all_mention items) → Hit s (all_mention (items_with items j))
  items_grow items j h = hit_grows s (all_mention items) (all_mention (items_with items j)) (row_grows mentions items j.typed s.number) h

  items_hit : (items : List TypedExpr) (j : Judged) → Mentions name s j → Hit s (all_mention (items_with items j))
  items_hit items j m = hit_grows s (mentions j.typed) (all_mention (items_with items j)) (row_hits mentions items j.typed s.number) m

  argument_keeps : Keeps name (PartSays name s) (λ a. Unit {0}) ArgumentsSay argument_found
  argument_keeps a n part p i =
      let asked = asked_by (next_wish a) a.paths in
      sure_then (λ (j : Judged). Unit {0}) (λ b. Unit {0} × (ArgumentsSay a → ArgumentsSay b)) (part asked) (argument_of a) (sure_any (part asked))
      (λ j u. sure_sound (λ b. Unit {0} × (ArgumentsSay a → ArgumentsSay b)) (record { wants = a.wants; paths = a.paths; items = items_with a.items j }) (tt, items_grow a.items j))

  argument_hits : Hits name (PartSays name s) (λ a. Unit {0}) ArgumentsSay argument_found
  argument_hits a n part p i is =
      let asked = asked_by (next_wish a) a.paths in
      sure_then (Mentions name s) (λ b. Unit {0} × ArgumentsSay b) (part asked) (argument_of a) (p.at_demand is asked)
      (λ j m. sure_sound (λ b. Unit {0} × ArgumentsSay b) (record { wants = a.wants; paths = a.paths; items = items_with a.items j }) (tt, items_hit a.items j m))

  -- arguments
  pub arguments_say : (start : Arguments) (parts : List Part) (ns : List Naming) → Each (PartSays name s) ns parts → any_of ns name ≡ true → Sure (λ a. Unit {0} × ArgumentsSay a) (arguments_found start parts)
  arguments_say start parts ns each is = row_says name (PartSays name s) (λ a. Unit {0}) ArgumentsSay argument_found argument_keeps argument_hits start ns parts each tt is

  -- ---- calls

  callee_said : (k : CalleeKind) (items : List TypedExpr) → all_mention items ≡ node_said (callee_node k items)
  callee_said (callee.Event n) items = sym (said (typed.Event n items) (made.Event n items) (made.rolls-Event n items))
  callee_said (callee.Action n) items = sym (said (typed.Action n items) (made.Action n items) (made.rolls-Action n items))

  plan_says : (plan : CallPlan) (parts : List Part) (ns : List Naming) (spot : Spot) → Each (PartSays name s) ns parts → PartSays name s (any_of ns) (plan_found plan parts spot)
  unfolding call_stands
  plan_says plan parts ns spot each = record {
    at_demand = λ is demand.
        sure_then (λ a. Unit {0} × ArgumentsSay a) (Mentions name s) (arguments_found plan.start parts) (call_stands spot demand plan.callee) (arguments_say plan.start parts ns each is)
        (λ a k. stands_says name s spot demand (callee_code plan.callee a) None plan.callee.given (callee_node plan.callee.kind a.items) (hit_as s (all_mention a.items) (node_said (callee_node plan.callee.kind a.items)) (callee_said plan.callee.kind a.items) k.1));
  }

  -- a call of a name
  pub call_says : (table : Table) (scope : Scope) (text : List ℕ) (parts : List Part) (ns : List Naming) (spot : Spot) → Each (PartSays name s) ns parts → PartSays name s (any_of ns) (call_found table scope text parts spot)
  call_says table scope text parts ns spot each = plan_says (plan_of table (event_of table text) (action_named table scope text)) parts ns spot each

  -- a context
  pub context_says : (parts : List Part) (ns : List Naming) (spot : Spot) → Each (PartSays name s) ns parts → PartSays name s (any_of ns) (context_found parts spot)
  unfolding context_stands
  context_says parts ns spot each = record {
    at_demand = λ is demand.
        sure_then (λ a. Unit {0} × ArgumentsSay a) (Mentions name s) (arguments_found context_start parts) (context_stands spot demand) (arguments_say context_start parts ns each is)
        (λ a k. stands_says name s spot demand (context_code a.items) None (gives.Value shape.Context) (made.Context a.items) (hit_as s (all_mention a.items) (node_said (made.Context a.items)) (sym (said (typed.Context a.items) (made.Context a.items) (made.rolls-Context a.items))) k.1));
  }

  -- arguments elsewhere
  pub typed_say : (is_call : Bool) (params : List ParamHead) (parts : List Part) (ns : List Naming) → Each (PartSays name s) ns parts → any_of ns name ≡ true → Sure (λ items. Hit s (all_mention items)) (typed_arguments is_call params parts)
  typed_say is_call params parts ns each is =
      sure_then (λ a. Unit {0} × ArgumentsSay a) (λ items. Hit s (all_mention items)) (arguments_found (no_arguments (call_paths is_call) (param_wants params)) parts) items_of
      (arguments_say (no_arguments (call_paths is_call) (param_wants params)) parts ns each is)
      (λ a k. sure_sound (λ items. Hit s (all_mention items)) a.items k.1)

  -- ---- sequences

  abbrev ElementsSay : Elements → Type 0
  ElementsSay elements = Hit s (all_mention elements.items)

  abbrev elements_with : Elements → Judged → Elements
  elements_with elements j = record { shape = known_first elements.shape (shape_of_expr j.typed); items = items_with elements.items j }

  element_keeps : Keeps name (PartSays name s) (λ e. Unit {0}) ElementsSay element_found
  element_keeps elements n part p i =
      sure_then (λ (j : Judged). Unit {0}) (λ e. Unit {0} × (ElementsSay elements → ElementsSay e)) (part (plain (element_wish elements))) (element_of elements) (sure_any (part (plain (element_wish elements))))
      (λ j u. sure_sound (λ e. Unit {0} × (ElementsSay elements → ElementsSay e)) (elements_with elements j) (tt, items_grow elements.items j))

  element_hits : Hits name (PartSays name s) (λ e. Unit {0}) ElementsSay element_found
  element_hits elements n part p i is =
      sure_then (Mentions name s) (λ e. Unit {0} × ElementsSay e) (part (plain (element_wish elements))) (element_of elements) (p.at_demand is (plain (element_wish elements)))
      (λ j m. sure_sound (λ e. Unit {0} × ElementsSay e) (elements_with elements j) (tt, items_hit elements.items j m))

  sequence_at : (spot : Spot) (demand : Demand) (items : List TypedExpr) (o : Option Shape) → Hit s (all_mention items) → Sure (Mentions name s) (sequence_items items o spot demand)
  sequence_at spot demand [] o h = absurd (true≢false (sym h.mentioned))
  sequence_at spot demand (x ∷ items) o h = stands_says name s spot demand None None (sequence_given o) (made.Sequence (x ∷ items)) (hit_as s (all_mention (x ∷ items)) (node_said (made.Sequence (x ∷ items))) (sym (said (typed.Sequence (x ∷ items)) (made.Sequence (x ∷ items)) (made.rolls-Sequence (x ∷ items)))) h)

  -- a sequence
  pub sequence_says : (parts : List Part) (ns : List Naming) (spot : Spot) → Each (PartSays name s) ns parts → PartSays name s (any_of ns) (sequence_found parts spot)
  unfolding sequence_of
  sequence_says parts ns spot each = record {
    at_demand = λ is demand.
        sure_then (λ e. Unit {0} × ElementsSay e) (Mentions name s) (through element_found no_elements parts) (sequence_of spot demand)
        (row_says name (PartSays name s) (λ e. Unit {0}) ElementsSay element_found element_keeps element_hits no_elements ns parts each tt is)
        (λ e k. sequence_at spot demand e.items e.shape k.1);
  }

  -- ---- dictionaries

  abbrev entries_said : List TypedEntry → Mention
  entries_said entries = any_mention (map entry_said entries)

  abbrev EntriesSay : EntryList → Type 0
  EntriesSay entries = Hit s (entries_said entries.entries)

  abbrev entry : Judged → Judged → TypedEntry
  entry key value = roll-TypedEntry record { key = key.typed; value = value.typed }

  abbrev entries_with : EntryList → Judged → Judged → EntryList
  entries_with entries key value = record { key = known_first entries.key (shape_of_expr key.typed); value = known_first entries.value (shape_of_expr value.typed); entries = entries.entries ++ entry key value ∷ [] }

  -- an entry that mentions the name, where it names it
  pub record PairSays (n : Naming) (pair : Pair) : Type 0 where
    pub at_entries : n name ≡ true → (entries : EntryList) → Sure (λ e. Unit {0} × EntriesSay e) (entry_found entries pair)

  entry_as : (P : EntryList → Type 0) (entries : EntryList) (pair : Pair) → ((key value : Judged) → P (entries_with entries key value)) → Sure P (entry_found entries pair)
  unfolding value_found entry_of
  entry_as P entries pair h =
      sure_then (λ (j : Judged). Unit {0}) P (pair.key (plain (key_wish entries.key))) (value_found entries pair.value) (sure_any (pair.key (plain (key_wish entries.key))))
      (λ key u. sure_then (λ (j : Judged). Unit {0}) P (pair.value (plain (value_wish entries))) (entry_of entries key) (sure_any (pair.value (plain (value_wish entries))))
      (λ value v. sure_sound P (entries_with entries key value) (h key value)))

  entry_keeps : Keeps name PairSays (λ e. Unit {0}) EntriesSay entry_found
  entry_keeps entries n pair p i = entry_as (λ e. Unit {0} × (EntriesSay entries → EntriesSay e)) entries pair
      (λ key value. (tt, λ h. hit_grows s (entries_said entries.entries) (entries_said (entries.entries ++ entry key value ∷ [])) (row_grows entry_said entries.entries (entry key value) s.number) h))

  entry_hits : Hits name PairSays (λ e. Unit {0}) EntriesSay entry_found
  entry_hits entries n pair p i is = p.at_entries is entries

  entry_hit : (entries : EntryList) (key value : Judged) → Hit s (either (mentions key.typed) (mentions value.typed)) → EntriesSay (entries_with entries key value)
  entry_hit entries key value h =
      hit_grows s (entry_said (entry key value)) (entries_said (entries.entries ++ entry key value ∷ [])) (row_hits entry_said entries.entries (entry key value) s.number)
      (hit_as s (either (mentions key.typed) (mentions value.typed)) (entry_said (entry key value)) (sym (entry_made key.typed value.typed)) h)

  value_says : (entries : EntryList) (part : Part) (m : Naming) → PartSays name s m part → (key : Judged) → (Mentions name s key) ⊎ (m name ≡ true) → Sure (λ e. Unit {0} × EntriesSay e) (value_found entries part key)
  unfolding value_found entry_of
  value_says entries part m p key (inl h) =
      sure_then (λ (j : Judged). Unit {0}) (λ e. Unit {0} × EntriesSay e) (part (plain (value_wish entries))) (entry_of entries key) (sure_any (part (plain (value_wish entries))))
      (λ value u. sure_sound (λ e. Unit {0} × EntriesSay e) (entries_with entries key value) (tt, entry_hit entries key value (hit_first s (mentions key.typed) (mentions value.typed) h)))
  value_says entries part m p key (inr h) =
      sure_then (Mentions name s) (λ e. Unit {0} × EntriesSay e) (part (plain (value_wish entries))) (entry_of entries key) (p.at_demand h (plain (value_wish entries)))
      (λ value k. sure_sound (λ e. Unit {0} × EntriesSay e) (entries_with entries key value) (tt, entry_hit entries key value (hit_second s (mentions key.typed) (mentions value.typed) k)))

  -- a key and its value
  pub pair_says : (key value : Part) (n m : Naming) → PartSays name s n key → PartSays name s m value → PairSays (either_name n m) (record { key = key; value = value })
  pair_says key value n m p q = record { at_entries = λ is entries. first_says name s (λ e. Unit {0} × EntriesSay e) n m key (plain (key_wish entries.key)) (value_found entries value) p (value_says entries value m q) is }

  dictionary_at : (spot : Spot) (demand : Demand) (entries : List TypedEntry) (g : Gives) → Hit s (entries_said entries) → Sure (Mentions name s) (dictionary_items entries g spot demand)
  dictionary_at spot demand [] g h = absurd (true≢false (sym h.mentioned))
  dictionary_at spot demand (x ∷ entries) g h = stands_says name s spot demand None None g (made.Dictionary (x ∷ entries)) (hit_as s (entries_said (x ∷ entries)) (node_said (made.Dictionary (x ∷ entries))) (sym (said (typed.Dictionary (x ∷ entries)) (made.Dictionary (x ∷ entries)) (made.rolls-Dictionary (x ∷ entries)))) h)

  -- a dictionary
  pub dictionary_says : (pairs : List Pair) (ns : List Naming) (spot : Spot) → Each PairSays ns pairs → PartSays name s (any_of ns) (dictionary_found pairs spot)
  unfolding dictionary_of
  dictionary_says pairs ns spot each = record {
    at_demand = λ is demand.
        sure_then (λ e. Unit {0} × EntriesSay e) (Mentions name s) (through entry_found no_entries pairs) (dictionary_of spot demand)
        (row_says name PairSays (λ e. Unit {0}) EntriesSay entry_found entry_keeps entry_hits no_entries ns pairs each tt is)
        (λ e k. dictionary_at spot demand e.entries (dictionary_given e.key e.value) k.1);
  }
