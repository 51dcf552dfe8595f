-- Calls keep the rules, where their arguments do: no path of a global is an argument, and neither `onload` nor `ondie` is called.
use Rattle.std.proofs.Common.{◌≡◌, ◌&&◌, ◌∷◌, ◌++◌, if◌then◌else◌, ◌==◌}
use Rattle.program_laws.proofs.Common.{ℕ, Bool, true, false, not, List, [], map, min, Option, Some, None, slice_get, refl, sym, ap, subst, ◌∙◌, list_all, list_any, position, AllByRecursion, bytes_eq, and_from, list_all-map, position-Some, get_or_from_slice_get, bytes_eq-Decides, Spot, Shape, Field, TypedExpr, Sight, argument, value, path_of, Scope, Table, ActionHead, MonitorHead, ParamHead, event_of, Paths, Arguments, Demand, asked_by, next_wish, argument_of, argument_found, arguments_found, no_arguments, fields_at, param_wants, is_callback, action_named, count_code, event_plan, action_plan, missing_plan, plan_of, callee_code, plan_found, call_found, context_code, context_start, context_found, items_of, typed_arguments, item_at, Part, lower, KeepsSpecial, permitted}
use Rattle.epl_values.specs.declared.shape.Shape.TheVariants as shape
use Rattle.typed_program.specs.declared.expression.TypedNode.TheVariants as made
use Rattle.typed_program.specs.declared.expression.TypedNode.TheOpen as typed
use Rattle.typed_program.specs.Paths.{plain}
use Rattle.type_table.specs.Table.{action_of}
use Rattle.expr_rules.specs.declared.asked.Paths.TheVariants as paths
use Rattle.expr_rules.specs.declared.placed.Gives.TheVariants as gives
use Rattle.expr_rules.specs.Calls.{callback_code, action_in, call_stands, context_stands}
use Rattle.program_laws.proofs.Exprs.Sure.{Sure, sure_then, sure_sound, sure_through}
use Rattle.program_laws.proofs.Exprs.Chains.{all_push}
use Rattle.program_laws.proofs.Lawful.Paths.{node_pathed, pathed}
use Rattle.program_laws.proofs.Lawful.Standing.{Standing, permits, value_kept}
use Rattle.program_laws.proofs.Lawful.Operands.{PartKept}
use Rattle.program_laws.proofs.Shapes.Lists.{none_if}

-- ---- codes

-- where the lower of two codes is none, the second is
pub lower_second : (a b : Option ℕ) → lower a b ≡ None → b ≡ None
lower_second None b h = h
lower_second (Some a) None h = absurd (cc)
lower_second (Some a) (Some b) h = absurd (cc)

-- what is found at a place has passed the test
item_passes : {A : Type 0} (p : A → Bool) (xs : List A) (o : Option ℕ) (x : A) → position p xs ≡ o → item_at xs o ≡ Some x → p x ≡ true
item_passes p xs None x is h = absurd (cc)
item_passes p xs (Some n) x is h =
    let at = position-Some p xs n x is in
    ap p (sym (get_or_from_slice_get xs n x x h)) ∙ at.1

pub named_in : (o : Option MonitorHead) (name : List ℕ) (head : ActionHead) → action_in o name ≡ Some head → head.name ≡ name
named_in None name head h = absurd (cc)
named_in (Some monitor) name head h =
    (bytes_eq-Decides head.name name).0 (item_passes (λ (a : ActionHead). bytes_eq a.name name) monitor.actions (action_of monitor name) head refl h)

if_some : {A : Type 0} (b : Bool) (o : Option A) (x : A) → (if b then o else None) ≡ Some x → o ≡ Some x
if_some true o x h = h
if_some false o x h = absurd (cc)

-- the visible action of a name has that name
pub action_name : (table : Table) (scope : Scope) (name : List ℕ) (head : ActionHead) → action_named table scope name ≡ Some head → head.name ≡ name
action_name table scope name head h = named_in (slice_get table.monitors scope.monitor) name head (if_some scope.actions (action_in (slice_get table.monitors scope.monitor) name) head h)

module _ (sight : Sight) where
  -- ---- arguments

  -- the arguments so far: each keeps what is permitted
  pub record ArgumentsKept (ps : Paths) (a : Arguments) : Type 0 where
    pub paths_same : a.paths ≡ ps
    pub items_kept : list_all (permitted ps) (map (path_of sight) a.items) ≡ true

  argument_kept : (ps : Paths) (a : Arguments) (part : Part) → ArgumentsKept ps a → PartKept sight part → Sure (ArgumentsKept ps) (argument_found a part)
  argument_kept ps a part k p =
      let asked = asked_by (next_wish a) a.paths in
      sure_then (Standing sight asked) (ArgumentsKept ps) (part asked) (argument_of a) (p.at_demand asked)
      (λ j s. sure_sound (ArgumentsKept ps) (record { wants = a.wants; paths = a.paths; items = a.items ++ j.typed ∷ [] })
      (record {
        paths_same = k.paths_same;
        items_kept = all_push (permitted ps) (path_of sight) a.items j.typed k.items_kept
            (subst (λ (q : Paths). permitted q (path_of sight j.typed) ≡ true) k.paths_same (permits asked j.root (path_of sight j.typed) s.keeps));
      }))

  -- arguments keep what is permitted to them
  pub arguments_kept : (ps : Paths) (wants : List (Option Shape)) (parts : List Part) → AllByRecursion (PartKept sight) parts → Sure (ArgumentsKept ps) (arguments_found (no_arguments ps wants) parts)
  arguments_kept ps wants parts all = sure_through (PartKept sight) (ArgumentsKept ps) argument_found (λ a part i p. argument_kept ps a part i p) (no_arguments ps wants) parts all (record { paths_same = refl; items_kept = refl })

  abbrev pub all_plainly : List TypedExpr → Bool
  all_plainly items = list_all plain (map (path_of sight) items)

  -- ---- events, actions and contexts

  event_kept : (n : ℕ) (fields : List Field) (parts : List Part) (spot : Spot) → AllByRecursion (PartKept sight) parts → PartKept sight (plan_found (event_plan n fields) parts spot)
  unfolding call_stands
  event_kept n fields parts spot all = record {
    at_demand = λ demand.
        sure_then (ArgumentsKept paths.Refused) (Standing sight demand) (arguments_found (event_plan n fields).start parts) (call_stands spot demand (event_plan n fields).callee)
        (arguments_kept paths.Refused (event_plan n fields).start.wants parts all)
        (λ a k. value_kept sight spot demand (callee_code (event_plan n fields).callee a) (gives.Value (shape.Event n)) (made.Event n a.items) (all_plainly a.items)
        (λ s. pathed sight (typed.Event n a.items) (made.Event n a.items) s (made.rolls-Event n a.items)) (λ none. k.items_kept));
  }

  abbrev calls_well : ℕ → List TypedExpr → Bool
  calls_well n items = not (list_any (λ m. m == n) sight.special) && list_all argument (map (path_of sight) items)

  action_path : (n : ℕ) (items : List TypedExpr) (s : Option Shape) → node_pathed sight (made.Action n items) s ≡ value s (calls_well n items)
  action_path n items s = pathed sight (typed.Action n items) (made.Action n items) s (made.rolls-Action n items)

  action_kept : (head : ActionHead) (parts : List Part) (spot : Spot) → (is_callback head.name ≡ false → list_any (λ m. m == head.number) sight.special ≡ false) → AllByRecursion (PartKept sight) parts → PartKept sight (plan_found (action_plan head) parts spot)
  unfolding call_stands
  action_kept head parts spot apart all = record {
    at_demand = λ demand.
        sure_then (ArgumentsKept paths.NotOfGlobals) (Standing sight demand) (arguments_found (action_plan head).start parts) (call_stands spot demand (action_plan head).callee)
        (arguments_kept paths.NotOfGlobals (param_wants head.params) parts all)
        (λ a k. value_kept sight spot demand (callee_code (action_plan head).callee a) (action_plan head).callee.given (made.Action head.number a.items) (calls_well head.number a.items) (action_path head.number a.items)
        (λ none. and_from (not (list_any (λ m. m == head.number) sight.special)) (list_all argument (map (path_of sight) a.items))
        (ap not (apart (none_if (is_callback head.name) 20 (lower_second (count_code a) (callback_code head.name) none)))) k.items_kept));
  }

  missing_kept : (parts : List Part) (spot : Spot) → AllByRecursion (PartKept sight) parts → PartKept sight (plan_found missing_plan parts spot)
  unfolding call_stands
  missing_kept parts spot all = record {
    at_demand = λ demand.
        sure_then (ArgumentsKept paths.NotOfGlobals) (Standing sight demand) (arguments_found missing_plan.start parts) (call_stands spot demand missing_plan.callee)
        (arguments_kept paths.NotOfGlobals [] parts all)
        (λ a k. value_kept sight spot demand (Some 6) gives.Unknown (made.Action 0 a.items) (calls_well 0 a.items) (action_path 0 a.items) (λ none. absurd (cc)));
  }

  context_at : (spot : Spot) (demand : Demand) (a : Arguments) → ArgumentsKept paths.Refused a → Sure (Standing sight demand) (context_stands spot demand a)
  unfolding context_stands
  context_at spot demand a k = value_kept sight spot demand (context_code a.items) (gives.Value shape.Context) (made.Context a.items) (all_plainly a.items) (λ s. pathed sight (typed.Context a.items) (made.Context a.items) s (made.rolls-Context a.items)) (λ none. k.items_kept)

  -- a context
  pub context_kept : (parts : List Part) (spot : Spot) → AllByRecursion (PartKept sight) parts → PartKept sight (context_found parts spot)
  context_kept parts spot all = record {
    at_demand = λ demand.
        sure_then (ArgumentsKept paths.Refused) (Standing sight demand) (arguments_found context_start parts) (context_stands spot demand)
        (arguments_kept paths.Refused context_start.wants parts all)
        (context_at spot demand);
  }

  -- ---- calls of a name

  call_at : (table : Table) (scope : Scope) → KeepsSpecial table scope sight.special → (name : List ℕ) (parts : List Part) (spot : Spot) (number : Option ℕ) (head : Option ActionHead) → action_named table scope name ≡ head → AllByRecursion (PartKept sight) parts → PartKept sight (plan_found (plan_of table number head) parts spot)
  call_at table scope k name parts spot (Some n) head at all = event_kept (min 65535 n) (fields_at (slice_get table.types n)) parts spot all
  call_at table scope k name parts spot None (Some head) at all = action_kept head parts spot (λ is. k.apart name head at (ap is_callback (sym (action_name table scope name head at)) ∙ is)) all
  call_at table scope k name parts spot None None at all = missing_kept parts spot all

  -- a call of a name
  pub call_kept : (table : Table) (scope : Scope) → KeepsSpecial table scope sight.special → (name : List ℕ) (parts : List Part) (spot : Spot) → AllByRecursion (PartKept sight) parts → PartKept sight (call_found table scope name parts spot)
  call_kept table scope k name parts spot all = call_at table scope k name parts spot (event_of table name) (action_named table scope name) refl all

  -- ---- arguments elsewhere

  -- arguments that are no paths of reference type
  pub typed_kept : (params : List ParamHead) (parts : List Part) → AllByRecursion (PartKept sight) parts → Sure (λ items. list_all (λ e. plain (path_of sight e)) items ≡ true) (typed_arguments false params parts)
  typed_kept params parts all =
      sure_then (ArgumentsKept paths.Refused) (λ items. list_all (λ e. plain (path_of sight e)) items ≡ true) (arguments_found (no_arguments paths.Refused (param_wants params)) parts) items_of
      (arguments_kept paths.Refused (param_wants params) parts all)
      (λ a k. sure_sound (λ items. list_all (λ e. plain (path_of sight e)) items ≡ true) a.items (sym (list_all-map plain (path_of sight) a.items) ∙ k.items_kept))
