-- What is named in the steps behind a value, and in a place, is mentioned in the typed tree.
use Rattle.std.proofs.Common.{◌≡◌, ◌+◌, ◌-◌, ◌||◌, ◌∷◌, ◌++◌, ◌⊎◌}
use Rattle.program_laws.proofs.Common.{ℕ, Bool, true, false, List, [], map, length, Option, Some, None, refl, sym, ap, subst, ◌∙◌, true≢false, inl, inr, bytes_eq, or_cases, Spot, Shape, Shape-F, out-Shape, TypedExpr, out-TypedExpr, roll-TypedExpr, out-roll-TypedExpr, TypedNode, TypedSuffix, roll-TypedSuffix, TypedSuffixNode, Variable, Mention, mentions, all_mention, place_mentions, Scope, Seen, SeenKind, Table, Arguments, MethodCall, Reach, Judged, Root, Walk, Demand, arguments_found, is_change, called_of, method_reach, seen, variable, name_found, Part, known, shape_given, Step, method_kind, demand_before, walk_start, walked, reached, field_found, element_reach_layer, near, index_found, called_found, method_found, step_found, walk_found, postfix_found, variable_layer, variable_of, target_at, target_of, Target, any_of}
use Rattle.epl_values.specs.declared.shape.Shape.TheOpen as layer
use Rattle.typed_program.specs.declared.expression.TypedNode.TheVariants as made
use Rattle.typed_program.specs.declared.expression.TypedNode.TheOpen as typed
use Rattle.typed_program.specs.declared.expression.TypedSuffixNode.TheVariants as suffix
use Rattle.typed_program.specs.Mentions.{either, variable_mentions}
use Rattle.typed_program.specs.Mentions.{any_of as any_mention}
use Rattle.type_table.specs.declared.scope.SeenKind.TheVariants as kind
use Rattle.expr_rules.specs.declared.steps.StepKind.TheVariants as step
use Rattle.expr_rules.specs.Asked.{plain, assigned}
use Rattle.expr_rules.specs.Methods.{method_named}
use Rattle.expr_rules.specs.Places.{is_global, placed}
use Rattle.expr_rules.specs.Postfix.{leads, field_of, index_wish, element_reach, element_step, method_stands, postfix_of, walked_from, postfix_rest}
use Rattle.expr_rules.specs.Then.{and_then}
use Rattle.expr_check.specs.Checks.{target}
use Rattle.stmt_check.specs.Captures.{Names as Naming, either as either_name}
use Rattle.program_laws.proofs.Exprs.Sure.{Sure, sure_then, sure_sound, sure_any}
use Rattle.program_laws.proofs.Lawful.Mentioning.{node_said, step_said, suffix_said, said, stepped, said_made, suffix_made, row_grows, row_hits}
use Rattle.program_laws.proofs.Lawful.Names.{absent_never}
use Rattle.program_laws.proofs.Lawful.Saying.{Hit, hit_as, hit_grows, hit_first, hit_second, Keeps, Hits, row_says, Mentions, PartSays, first_says}
use Rattle.program_laws.proofs.Lawful.SayingCalls.{arguments_say, name_says}
use Rattle.program_laws.proofs.Exprs.Inductions.{Each}

module _ (name : List ℕ) (s : Seen) where
  abbrev tail : Walk → Mention
  tail walk = any_mention (map suffix_said walk.suffixes)

  abbrev TailSays : Walk → Type 0
  TailSays walk = Hit s (tail walk)

  -- the walk behind one step more
  abbrev pushed : Walk → Option Root → TypedSuffixNode → Option Shape → Walk
  pushed walk root n o = record { first = walk.first; suffixes = walk.suffixes ++ roll-TypedSuffix record { shape = o; node = n } ∷ []; shape = o; root = root }

  -- what is mentioned before a step stays so, and what the step names is mentioned behind it
  abbrev pub KeptTail : Walk → Walk → Type 0
  KeptTail walk next = (next.first ≡ walk.first) × (TailSays walk → TailSays next)

  abbrev pub SaidTail : Walk → Walk → Type 0
  SaidTail walk next = (next.first ≡ walk.first) × TailSays next

  pub record StepSays (n : Naming) (u : Step) : Type 0 where
    pub keeps : (spot : Spot) (demand : Demand) (walk : Walk) → Sure (KeptTail walk) (u.found spot demand walk)
    pub says : n name ≡ true → (spot : Spot) (demand : Demand) (walk : Walk) → Sure (SaidTail walk) (u.found spot demand walk)

  kept_tail : (walk : Walk) (root : Option Root) (n : TypedSuffixNode) (o : Option Shape) → KeptTail walk (pushed walk root n o)
  kept_tail walk root n o = (refl, λ h. hit_grows s (tail walk) (tail (pushed walk root n o)) (row_grows suffix_said walk.suffixes (roll-TypedSuffix record { shape = o; node = n }) s.number) h)

  said_tail : (walk : Walk) (root : Option Root) (n : TypedSuffixNode) (o : Option Shape) → Hit s (step_said n) → SaidTail walk (pushed walk root n o)
  said_tail walk root n o h =
      let u = roll-TypedSuffix record { shape = o; node = n } in
      (refl, hit_grows s (suffix_said u) (tail (pushed walk root n o)) (row_hits suffix_said walk.suffixes u s.number) (hit_as s (step_said n) (suffix_said u) (sym (suffix_made o n)) h))

  reached_as : (P : Walk → Type 0) (spot : Spot) (demand : Demand) (root : Option Root) (walk : Walk) (reach : Reach) → ((o : Option Shape) → P (pushed walk root reach.node o)) → Sure P (reached spot demand root walk reach)
  reached_as P spot demand root walk reach h =
      sure_then (λ (o : Option Shape). Unit {0}) P (placed spot demand reach.own root reach.given) (walked walk root reach.node) (sure_any (placed spot demand reach.own root reach.given))
      (λ o u. sure_sound P (pushed walk root reach.node o) (h o))

  -- ---- fields

  -- a field
  pub field_says : (table : Table) (field : List ℕ) → StepSays (λ n. false) (record { kind = step.Inner; found = field_found table field })
  field_says table field = record {
    keeps = λ spot demand walk. reached_as (KeptTail walk) spot demand walk.root walk (field_of table walk.shape field) (λ o. kept_tail walk walk.root (field_of table walk.shape field).node o);
    says = λ is. absurd (true≢false (sym is));
  }

  -- ---- elements

  item_said : (e : TypedExpr) → mentions e ≡ step_said (suffix.Item e)
  item_said e = sym (stepped (typed.Item e) (suffix.Item e) (suffix.rolls-Item e))

  key_said : (e : TypedExpr) → mentions e ≡ step_said (suffix.Key e)
  key_said e = sym (stepped (typed.Key e) (suffix.Key e) (suffix.rolls-Key e))

  layer_said : (d : Shape-F Shape) (e : TypedExpr) → mentions e ≡ step_said (element_reach_layer d e).node
  layer_said (layer.Sequence item) e = item_said e
  layer_said (layer.Dictionary key value) e = key_said e
  layer_said d e = item_said e

  element_said : (o : Option Shape) (e : TypedExpr) → mentions e ≡ step_said (element_reach o e).node
  unfolding element_reach
  element_said None e = item_said e
  element_said (Some shape) e = layer_said (out-Shape shape) e

  element_as : (P : Walk → Type 0) (own spot : Spot) (demand : Demand) (walk : Walk) (j : Judged) → ((root : Option Root) (o : Option Shape) → P (pushed walk root (element_reach walk.shape j.typed).node o)) → Sure P (element_step own spot demand walk j)
  unfolding element_step
  element_as P own spot demand walk j h =
      sure_then (λ (r : Option Root). Unit {0}) P (near own demand.changed walk.root) (λ (r : Option Root). reached spot demand r walk (element_reach walk.shape j.typed)) (sure_any (near own demand.changed walk.root))
      (λ root u. reached_as P spot demand root walk (element_reach walk.shape j.typed) (h root))

  -- an element
  pub index_says : (part : Part) (n : Naming) (own : Spot) → PartSays name s n part → StepSays n (record { kind = step.Inner; found = index_found part own })
  index_says part n own p = record {
    keeps = λ spot demand walk. sure_then (λ (j : Judged). Unit {0}) (KeptTail walk) (part (plain (index_wish walk.shape))) (element_step own spot demand walk) (sure_any (part (plain (index_wish walk.shape))))
        (λ j u. element_as (KeptTail walk) own spot demand walk j (λ root o. kept_tail walk root (element_reach walk.shape j.typed).node o));
    says = λ is spot demand walk. sure_then (Mentions name s) (SaidTail walk) (part (plain (index_wish walk.shape))) (element_step own spot demand walk) (p.at_demand is (plain (index_wish walk.shape)))
        (λ j m. element_as (SaidTail walk) own spot demand walk j (λ root o. said_tail walk root (element_reach walk.shape j.typed).node o (hit_as s (mentions j.typed) (step_said (element_reach walk.shape j.typed).node) (element_said walk.shape j.typed) m)));
  }

  -- ---- methods

  called_keeps : (call : MethodCall) (parts : List Part) (spot : Spot) (demand : Demand) (walk : Walk) → Sure (KeptTail walk) (called_found call parts spot demand walk)
  unfolding method_stands
  called_keeps call parts spot demand walk =
      sure_then (λ (a : Arguments). Unit {0}) (KeptTail walk) (arguments_found call.start parts) (method_stands spot demand walk call.called) (sure_any (arguments_found call.start parts))
      (λ a u. reached_as (KeptTail walk) spot demand None walk (method_reach call.called walk.root a) (λ o. kept_tail walk None (suffix.Method call.called.method a.items) o))

  called_says : (call : MethodCall) (parts : List Part) (ns : List Naming) (spot : Spot) (demand : Demand) (walk : Walk) → Each (PartSays name s) ns parts → any_of ns name ≡ true → Sure (SaidTail walk) (called_found call parts spot demand walk)
  unfolding method_stands
  called_says call parts ns spot demand walk each is =
      sure_then (λ (a : Arguments). Unit {0} × Hit s (all_mention a.items)) (SaidTail walk) (arguments_found call.start parts) (method_stands spot demand walk call.called) (arguments_say name s call.start parts ns each is)
      (λ a k. reached_as (SaidTail walk) spot demand None walk (method_reach call.called walk.root a) (λ o. said_tail walk None (suffix.Method call.called.method a.items) o
      (hit_as s (all_mention a.items) (step_said (suffix.Method call.called.method a.items)) (sym (stepped (typed.Method call.called.method a.items) (suffix.Method call.called.method a.items) (suffix.rolls-Method call.called.method a.items))) k.1)))

  -- a method
  pub method_says : (method : List ℕ) (parts : List Part) (ns : List Naming) → Each (PartSays name s) ns parts → StepSays (any_of ns) (record { kind = method_kind (is_change (method_named method)); found = method_found method parts })
  method_says method parts ns each = record {
    keeps = λ spot demand walk. called_keeps (called_of walk.shape (method_named method)) parts spot demand walk;
    says = λ is spot demand walk. called_says (called_of walk.shape (method_named method)) parts ns spot demand walk each is;
  }

  -- ---- walks

  abbrev Starts : TypedExpr → Walk → Type 0
  Starts first walk = walk.first ≡ first

  abbrev WalkSays : TypedExpr → Walk → Type 0
  WalkSays first walk = Hit s (either (mentions first) (tail walk))

  on_grows : (first : TypedExpr) (walk next : Walk) → (TailSays walk → TailSays next) → (mentions first s.number ≡ true) ⊎ (tail walk s.number ≡ true) → WalkSays first walk → WalkSays first next
  on_grows first walk next grow (inl h) w = hit_first s (mentions first) (tail next) (record { mentioned = h; free = w.free })
  on_grows first walk next grow (inr h) w = hit_second s (mentions first) (tail next) (grow (record { mentioned = h; free = w.free }))

  step_keeps : (spot : Spot) (changed : Bool) (demand : Demand) (count : ℕ) (first : TypedExpr) → Keeps name StepSays (Starts first) (WalkSays first) (step_found spot changed demand count)
  step_keeps spot changed demand count first walk n u p i = record {
    where_clear = λ none.
        let asked = demand_before changed demand (count - (length walk.suffixes + 1)) in
        let kept = (p.keeps spot asked walk).where_clear none in
        (kept.0 ∙ i, λ h. on_grows first walk (u.found spot asked walk).part kept.1 (or_cases (mentions first s.number) (tail walk s.number) h.mentioned) h);
  }

  step_hits : (spot : Spot) (changed : Bool) (demand : Demand) (count : ℕ) (first : TypedExpr) → Hits name StepSays (Starts first) (WalkSays first) (step_found spot changed demand count)
  step_hits spot changed demand count first walk n u p i is = record {
    where_clear = λ none.
        let asked = demand_before changed demand (count - (length walk.suffixes + 1)) in
        let kept = (p.says is spot asked walk).where_clear none in
        (kept.0 ∙ i, hit_second s (mentions first) (tail (u.found spot asked walk).part) kept.1);
  }

  start_says : (ns : List Naming) (j : Judged) → (Mentions name s j) ⊎ (any_of ns name ≡ true) → (WalkSays j.typed (walk_start j)) ⊎ (any_of ns name ≡ true)
  start_says ns j (inl h) = inl (hit_first s (mentions j.typed) (any_mention []) h)
  start_says ns j (inr h) = inr h

  walk_says : (spot : Spot) (changed : Bool) (demand : Demand) (steps : List Step) (ns : List Naming) (j : Judged) → Each StepSays ns steps → (Mentions name s j) ⊎ (any_of ns name ≡ true) → Sure (λ w. Starts j.typed w × WalkSays j.typed w) (walked_from spot changed demand steps j)
  unfolding walked_from
  walk_says spot changed demand steps ns j each h =
      row_says name StepSays (Starts j.typed) (WalkSays j.typed) (step_found spot changed demand (length steps)) (step_keeps spot changed demand (length steps) j.typed) (step_hits spot changed demand (length steps) j.typed) (walk_start j) ns steps each refl (start_says ns j h)

  postfix_said : (first : TypedExpr) (us : List TypedSuffix) (o : Option Shape) → either (mentions first) (any_mention (map suffix_said us)) ≡ mentions (roll-TypedExpr record { shape = o; node = made.Postfix first us })
  postfix_said first us o = sym (said_made o (made.Postfix first us) ∙ said (typed.Postfix first us) (made.Postfix first us) (made.rolls-Postfix first us))

  rest_says : (changed : Bool) (steps : List Step) (ns : List Naming) (spot : Spot) (demand : Demand) → Each StepSays ns steps → (j : Judged) → (Mentions name s j) ⊎ (any_of ns name ≡ true) → Sure (Mentions name s) (postfix_rest changed steps spot demand j)
  unfolding postfix_rest postfix_of
  rest_says changed steps ns spot demand each j h =
      sure_then (λ w. Starts j.typed w × WalkSays j.typed w) (Mentions name s) (walked_from spot changed demand steps j) postfix_of (walk_says spot changed demand steps ns j each h)
      (λ walk k. sure_sound (Mentions name s) (record { typed = roll-TypedExpr record { shape = walk.shape; node = made.Postfix walk.first walk.suffixes }; root = walk.root; signed = false })
      (hit_as s (either (mentions walk.first) (tail walk)) (mentions (roll-TypedExpr record { shape = walk.shape; node = made.Postfix walk.first walk.suffixes })) (postfix_said walk.first walk.suffixes walk.shape)
      (subst (λ (e : TypedExpr). Hit s (either (mentions e) (tail walk))) (sym k.0) k.1)))

  -- a value with steps behind it
  pub postfix_says : (part : Part) (steps : List Step) (n : Naming) (ns : List Naming) (spot : Spot) → PartSays name s n part → Each StepSays ns steps → PartSays name s (either_name n (any_of ns)) (λ demand. postfix_found (leads demand.changed (map (λ u. u.kind) steps)) part steps spot demand)
  postfix_says part steps n ns spot p each = record {
    at_demand = λ is demand.
        let changed = leads demand.changed (map (λ u. u.kind) steps) in
        first_says name s (Mentions name s) n (any_of ns) part (demand_before changed demand (length steps)) (postfix_rest changed steps spot demand) p (rest_says changed steps ns spot demand each) is;
  }

  -- ---- places

  -- an expression that is a variable
  abbrev IsNamed : TypedExpr → Type 0
  IsNamed e = mentions e ≡ variable_mentions (variable_of (out-TypedExpr e).node)

  node_named : (k : SeenKind) (n : ℕ) → node_said (variable k n) ≡ variable_mentions (variable_of (variable k n))
  node_named kind.Global n = said (typed.Global n) (made.Global n) (made.rolls-Global n) ∙ sym (ap (λ d. variable_mentions (variable_layer d)) (made.outs-Global n))
  node_named k n = said (typed.Local n) (made.Local n) (made.rolls-Local n) ∙ sym (ap (λ d. variable_mentions (variable_layer d)) (made.outs-Local n))

  made_named : (o : Option Shape) (k : SeenKind) (n : ℕ) → IsNamed (roll-TypedExpr record { shape = o; node = variable k n })
  made_named o k n = said_made o (variable k n) ∙ node_named k n ∙ sym (ap (λ (d : TypedNode). variable_mentions (variable_of d)) (ap (λ d. d.node) (out-roll-TypedExpr (record { shape = o; node = variable k n }))))

  name_named : (spot : Spot) (demand : Demand) (o : Option Seen) → Sure (λ (j : Judged). IsNamed j.typed) (name_found spot demand o)
  unfolding and_then placed
  name_named spot demand None = record { where_clear = λ h. absurd ((absent_never spot demand).where_clear h) }
  name_named spot demand (Some found) = record { where_clear = λ h. made_named (shape_given (known found.shape)) found.kind found.number }

  target_said : (v : Variable) (us : List TypedSuffix) (o : Option Shape) → Hit s (either (variable_mentions v) (any_mention (map suffix_said us))) → Hit s (place_mentions (target_at v us o).place)
  target_said v us (Some shape) h = h
  target_said v us None h = h

  walk_target : (first : TypedExpr) (walk : Walk) → IsNamed first → Starts first walk → WalkSays first walk → Hit s (place_mentions (target_of walk).place)
  walk_target first walk is starts h =
      target_said (variable_of (out-TypedExpr walk.first).node) walk.suffixes walk.shape
      (subst (λ (e : TypedExpr). Hit s (either (variable_mentions (variable_of (out-TypedExpr e).node)) (tail walk))) (sym starts)
      (subst (λ (m : Mention). Hit s (either m (tail walk))) is h))

  abbrev PlaceSays : Walk → Type 0
  PlaceSays walk = Hit s (place_mentions (target_of walk).place)

  walked_place : (spot : Spot) (changed : Bool) (steps : List Step) (ns : List Naming) (j : Judged) → Each StepSays ns steps → IsNamed j.typed → (Mentions name s j) ⊎ (any_of ns name ≡ true) → Sure PlaceSays (walked_from spot changed assigned steps j)
  walked_place spot changed steps ns j each is h = record {
    where_clear = λ none.
        let k = (walk_says spot changed assigned steps ns j each h).where_clear none in
        walk_target j.typed (walked_from spot changed assigned steps j).part is k.0 k.1;
  }

  place_walk_says : (scope : Scope) → seen scope name ≡ Some s → is_global s.kind ≡ false → (text : List ℕ) (changed : Bool) (steps : List Step) (ns : List Naming) (spot at : Spot) → Each StepSays ns steps → (bytes_eq text name ≡ true) ⊎ (any_of ns name ≡ true) → Sure PlaceSays (walk_found changed (λ demand. name_found at demand (seen scope text)) steps spot assigned)
  place_walk_says scope is_seen inner text changed steps ns spot at each (inl h) =
      let before = demand_before changed assigned (length steps) in
      let named = name_named at before (seen scope text) in
      let says = (name_says name s scope is_seen inner text at).at_demand h before in
      sure_then (λ (j : Judged). IsNamed j.typed × Mentions name s j) PlaceSays (name_found at before (seen scope text)) (walked_from spot changed assigned steps)
      (record { where_clear = λ none. (named.where_clear none, says.where_clear none) })
      (λ j k. walked_place spot changed steps ns j each k.0 (inl k.1))
  place_walk_says scope is_seen inner text changed steps ns spot at each (inr h) =
      let before = demand_before changed assigned (length steps) in
      sure_then (λ (j : Judged). IsNamed j.typed) PlaceSays (name_found at before (seen scope text)) (walked_from spot changed assigned steps) (name_named at before (seen scope text))
      (λ j is. walked_place spot changed steps ns j each is (inr h))

  -- a place mentions what it names
  pub place_says : (scope : Scope) → seen scope name ≡ Some s → is_global s.kind ≡ false → (text : List ℕ) (steps : List Step) (ns : List Naming) (spot at : Spot) → Each StepSays ns steps → (bytes_eq text name || any_of ns name) ≡ true → Sure (λ (t : Target). Hit s (place_mentions t.place)) (and_then (walk_found (leads true (map (λ u. u.kind) steps)) (λ demand. name_found at demand (seen scope text)) steps spot assigned) target)
  place_says scope is_seen inner text steps ns spot at each is =
      let changed = leads true (map (λ u. u.kind) steps) in
      sure_then PlaceSays (λ (t : Target). Hit s (place_mentions t.place)) (walk_found changed (λ demand. name_found at demand (seen scope text)) steps spot assigned) target
      (place_walk_says scope is_seen inner text changed steps ns spot at each (or_cases (bytes_eq text name) (any_of ns name) is))
      (λ walk h. sure_sound (λ (t : Target). Hit s (place_mentions t.place)) (target_of walk) h)
