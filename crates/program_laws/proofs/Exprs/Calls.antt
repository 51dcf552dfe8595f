-- Calls answer, where their arguments do and what they name is known.
use Rattle.std.proofs.Common.{◌≡◌, ◌<◌, ◌≤◌, ◌==◌, ◌&&◌, ◌||◌, ◌∷◌, if◌then◌else◌, ◌⊎◌}
use Rattle.program_laws.proofs.Common.{ℕ, Bool, true, false, List, [], map, length, take, min, Option, Some, None, slice_get, refl, sym, ap, subst, ◌∙◌, inl, inr, arith, list_all, AllByRecursion, bytes_eq, and_from, eqb-true, eq-eqb, lt-ltb, or_cases, or_left, or_right, length-map, list_all-map, position-Some, Spot, Shape, Field, EventShape, TypedExpr, TypedNode, Action, same, stands, Names, checked, are_of, if_known, agrees, Scope, Table, ActionHead, event_of, Gives, Arguments, Demand, fields_at, param_wants, count_code, action_named, event_plan, action_plan, missing_plan, plan_of, callee_node, callee_code, plan_found, call_found, context_code, context_start, context_found, arguments_found, Part, lower, KnowsTable, KnowsAction, KnowsType, gives_result, result_stands}
use Rattle.epl_values.specs.declared.shape.Shape.TheVariants as shape
use Rattle.typed_program.specs.declared.expression.TypedNode.TheVariants as made
use Rattle.typed_program.specs.declared.expression.TypedNode.TheOpen as typed
use Rattle.typed_program.specs.Expressions.{makes, calls, names_context}
use Rattle.expr_rules.specs.declared.asked.Paths.TheVariants as paths
use Rattle.expr_rules.specs.declared.placed.Gives.TheVariants as gives
use Rattle.expr_rules.specs.declared.calls.Callee.{Callee}
use Rattle.expr_rules.specs.Calls.{field_wants, call_stands, context_stands}
use Rattle.program_laws.proofs.Exprs.Sure.{Sure, sure_then}
use Rattle.program_laws.proofs.Exprs.Alike.{same_self}
use Rattle.program_laws.proofs.Exprs.Standing.{event_stands, context_stands as context_there, text_stands as text_there, boolean_stands as boolean_there}
use Rattle.program_laws.proofs.Exprs.Holding.{node_checked, rolled}
use Rattle.program_laws.proofs.Exprs.Answering.{Answering, Answers, IsGiven, stands_sure}
use Rattle.program_laws.proofs.Exprs.Arguments.{asked_shapes, Taken, taken_start, taken_counted, arguments_sure}
use Rattle.program_laws.proofs.Shapes.Lists.{all_at, slice_some, none_unless}

pub lower_none : (a b : Option ℕ) → lower a b ≡ None → a ≡ None
lower_none None b h = refl
lower_none (Some a) None h = absurd (cc)
lower_none (Some a) (Some b) h = absurd (cc)

counted_none : (counted : Bool) (a b : Option ℕ) → counted ≡ true → (if counted then lower a b else b) ≡ None → a ≡ None
counted_none true a b is h = lower_none a b h
counted_none false a b is h = absurd (cc)

fields_asked : (fields : List Field) → field_wants fields ≡ asked_shapes (map (λ f. f.shape) fields)
fields_asked [] = refl
fields_asked (f ∷ fields) = ap (λ (l : List (Option Shape)). Some f.shape ∷ l) (fields_asked fields)

pub agrees_self : (o : Option Shape) → agrees o o ≡ true
agrees_self None = refl
agrees_self (Some s) = same_self s

-- the number of an event type, in a table and in a program
pub event_numbered : (table : Table) (names : Names) (scope : Scope) → KnowsTable table names scope → (n : ℕ) (name : List ℕ) → event_of table name ≡ Some n → n < length names.types
event_numbered table names scope k n name h =
    let at = position-Some (bytes_eq name) (map (λ t. t.name) table.types) n [] h in
    let same_length : length (map (λ t. t.name) table.types) ≡ length names.types = length-map table.types (λ t. t.name) ∙ ap length k.types in
    let below = at.0 in omega arith

module _ (names : Names) where
  -- ---- calls of what is known

  call_sure : (spot : Spot) (demand : Demand) (shapes : List Shape) (c : Callee) (a : Arguments) → c.counted ≡ true → (are_of shapes (map (checked names) a.items) ≡ true → IsGiven names (callee_node c.kind a.items) c.given) → Taken names shapes a → Sure (Answering names demand.wish) (call_stands spot demand c a)
  unfolding call_stands
  call_sure spot demand shapes c a counted given t = stands_sure names spot demand (callee_code c a) None c.given (callee_node c.kind a.items) (λ none. given (taken_counted names shapes a t (counted_none c.counted (count_code a) c.own counted none)))

  event_holds : (n : ℕ) (event : EventShape) (items : List TypedExpr) → slice_get names.types n ≡ Some event → are_of (map (λ f. f.shape) event.fields) (map (checked names) items) ≡ true → node_checked names (made.Event n items) (Some (shape.Event n)) ≡ true
  event_holds n event items at h = rolled names (typed.Event n items) (made.Event n items) (Some (shape.Event n)) (made.rolls-Event n items) (and_from (same (shape.Event n) (shape.Event n)) (if_known (makes (map (checked names) items)) (slice_get names.types n)) (same_self (shape.Event n)) (ap (λ (o : Option EventShape). if_known (makes (map (checked names) items)) o) at ∙ h))

  event_answers : (n : ℕ) (event : EventShape) (parts : List Part) (spot : Spot) → n < length names.types → slice_get names.types n ≡ Some event → KnowsType names.types event → AllByRecursion (Answers names) parts → Answers names (plan_found (event_plan n event.fields) parts spot)
  event_answers n event parts spot below at k all =
      let shapes = map (λ f. f.shape) event.fields in
      record {
        at_demand = λ demand wish.
            sure_then (Taken names shapes) (Answering names demand.wish) (arguments_found (event_plan n event.fields).start parts) (call_stands spot demand (event_plan n event.fields).callee)
            (arguments_sure names shapes (list_all-map (stands names.types) (λ f. f.shape) event.fields ∙ k.fields) (event_plan n event.fields).start parts all (taken_start names shapes paths.Refused (field_wants event.fields) (fields_asked event.fields)))
            (λ a t. call_sure spot demand shapes (event_plan n event.fields).callee a refl (λ h. record { there = event_stands names.types n (lt-ltb n (length names.types) below); node_holds = event_holds n event a.items at h }) t);
      }

  action_holds : (number : ℕ) (action : Action) (items : List TypedExpr) → slice_get names.actions number ≡ Some action → action.monitor ≡ names.monitor → are_of action.params (map (checked names) items) ≡ true → node_checked names (made.Action number items) action.result ≡ true
  action_holds number action items at own h = rolled names (typed.Action number items) (made.Action number items) action.result (made.rolls-Action number items)
      (ap (λ (o : Option Action). if_known (calls names.monitor (map (checked names) items) action.result) o) at
      ∙ and_from _ _ (and_from (action.monitor == names.monitor) (are_of action.params (map (checked names) items)) (eq-eqb action.monitor names.monitor own) h) (agrees_self action.result))

  given_result : (n : TypedNode) (o : Option Shape) → result_stands names.types o ≡ true → node_checked names n o ≡ true → IsGiven names n (gives_result o)
  given_result n None there h = record { there = refl; node_holds = h }
  given_result n (Some s) there h = record { there = there; node_holds = h }

  action_answers : (head : ActionHead) (parts : List Part) (spot : Spot) → KnowsAction names head → AllByRecursion (Answers names) parts → Answers names (plan_found (action_plan head) parts spot)
  action_answers head parts spot k all =
      record {
        at_demand = λ demand wish.
            sure_then (Taken names k.action.params) (Answering names demand.wish) (arguments_found (action_plan head).start parts) (call_stands spot demand (action_plan head).callee)
            (arguments_sure names k.action.params k.params_stand (action_plan head).start parts all (taken_start names k.action.params paths.NotOfGlobals (param_wants head.params) k.params))
            (λ a t. call_sure spot demand k.action.params (action_plan head).callee a refl
            (λ h. subst (λ (g : Gives). IsGiven names (made.Action head.number a.items) g) (sym k.result) (given_result (made.Action head.number a.items) k.action.result k.result_stands (action_holds head.number k.action a.items k.at k.own h))) t);
      }

  missing_sure : (spot : Spot) (demand : Demand) (a : Arguments) → Sure (Answering names demand.wish) (call_stands spot demand missing_plan.callee a)
  unfolding call_stands
  missing_sure spot demand a = stands_sure names spot demand (Some 6) None gives.Unknown (made.Action 0 a.items) (λ none. absurd (cc))

  missing_answers : (parts : List Part) (spot : Spot) → AllByRecursion (Answers names) parts → Answers names (plan_found missing_plan parts spot)
  missing_answers parts spot all = record {
    at_demand = λ demand wish.
        sure_then (Taken names []) (Answering names demand.wish) (arguments_found missing_plan.start parts) (call_stands spot demand missing_plan.callee)
        (arguments_sure names [] refl missing_plan.start parts all (taken_start names [] paths.NotOfGlobals [] refl))
        (λ a t. missing_sure spot demand a);
  }

  -- ---- contexts

  abbrev context_shapes : List Shape
  context_shapes = shape.Text ∷ shape.Boolean ∷ []

  context_shapes_stand : list_all (stands names.types) context_shapes ≡ true
  context_shapes_stand = and_from (stands names.types shape.Text) (stands names.types shape.Boolean && true) (text_there names.types) (and_from (stands names.types shape.Boolean) true (boolean_there names.types) refl)

  counted_context : (a : Arguments) → Taken names context_shapes a → (length a.items == 1) ≡ true ⊎ (length a.items == 2) ≡ true → names_context (map (checked names) a.items) ≡ true
  counted_context a t (inl h) =
      let one = eqb-true (length a.items) 1 h in
      or_left (are_of (shape.Text ∷ []) (map (checked names) a.items)) (are_of context_shapes (map (checked names) a.items)) (ap (λ (n : ℕ). are_of (take n context_shapes) (map (checked names) a.items)) (sym one) ∙ t.taken (subst (λ (n : ℕ). n ≤ 2) (sym one) (omega arith)))
  counted_context a t (inr h) =
      let two = eqb-true (length a.items) 2 h in
      or_right (are_of (shape.Text ∷ []) (map (checked names) a.items)) (are_of context_shapes (map (checked names) a.items)) (ap (λ (n : ℕ). are_of (take n context_shapes) (map (checked names) a.items)) (sym two) ∙ t.taken (subst (λ (n : ℕ). n ≤ 2) (sym two) (omega arith)))

  context_holds : (items : List TypedExpr) → names_context (map (checked names) items) ≡ true → node_checked names (made.Context items) (Some shape.Context) ≡ true
  context_holds items h = rolled names (typed.Context items) (made.Context items) (Some shape.Context) (made.rolls-Context items) (and_from (same shape.Context shape.Context) (names_context (map (checked names) items)) (same_self shape.Context) h)

  context_sure : (spot : Spot) (demand : Demand) (a : Arguments) → Taken names context_shapes a → Sure (Answering names demand.wish) (context_stands spot demand a)
  unfolding context_stands
  context_sure spot demand a t = stands_sure names spot demand (context_code a.items) None (gives.Value shape.Context) (made.Context a.items) (λ none. record { there = context_there names.types; node_holds = context_holds a.items (counted_context a t (or_cases (length a.items == 1) (length a.items == 2) (none_unless (length a.items == 1 || length a.items == 2) 8 none))) })

  pub context_answers : (parts : List Part) (spot : Spot) → AllByRecursion (Answers names) parts → Answers names (context_found parts spot)
  context_answers parts spot all = record {
    at_demand = λ demand wish.
        sure_then (Taken names context_shapes) (Answering names demand.wish) (arguments_found context_start parts) (context_stands spot demand)
        (arguments_sure names context_shapes context_shapes_stand context_start parts all (taken_start names context_shapes paths.Refused (asked_shapes context_shapes) refl))
        (context_sure spot demand);
  }

-- ---- calls of a name

module _ (table : Table) (names : Names) (scope : Scope) (k : KnowsTable table names scope) where
  call_at : (name : List ℕ) (parts : List Part) (spot : Spot) (number : Option ℕ) (head : Option ActionHead) → event_of table name ≡ number → action_named table scope name ≡ head → AllByRecursion (Answers names) parts → Answers names (plan_found (plan_of table number head) parts spot)
  call_at name parts spot (Some n) head is at all =
      let below = event_numbered table names scope k n name is in
      let event = slice_some names.types n below in
      let small : min 65535 n ≡ n = (let few = k.few in omega arith) in
      subst (λ (m : ℕ). Answers names (plan_found (event_plan m (fields_at (slice_get table.types n))) parts spot)) (sym small)
      (subst (λ (o : Option EventShape). Answers names (plan_found (event_plan n (fields_at o)) parts spot)) (sym (ap (λ (types : List EventShape). slice_get types n) k.types ∙ event.1))
      (event_answers names n event.0 parts spot below event.1 (all_at (KnowsType names.types) names.types n event.0 k.kinds event.1) all))
  call_at name parts spot None (Some head) is at all = action_answers names head parts spot (k.actions name head at) all
  call_at name parts spot None None is at all = missing_answers names parts spot all

  pub call_answers : (name : List ℕ) (parts : List Part) (spot : Spot) → AllByRecursion (Answers names) parts → Answers names (call_found table scope name parts spot)
  call_answers name parts spot all = call_at name parts spot (event_of table name) (action_named table scope name) refl refl all
