-- A path from a bound name answers where the bound names are all that is known, and it reaches the shape that stands at it.
use Rattle.std.proofs.Common.{◌≡◌, ◌∷◌}
use Rattle.program_laws.proofs.Common.{ℕ, zero, suc, true, false, not, List, [], map, length, Option, Some, is_some, slice_get, refl, sym, ap, subst, ◌∙◌, true≢false, arith, AllByRecursion, list_all, drop-append_seam, and_parts, lt-ltb, not-true, Spot, Shape, Expr, out-Expr, Suffix, roll-TypedExpr, out-roll-TypedExpr, out-TypedNode, Local, Names, Scope, Seen, SeenKind, Table, seen_of, Demand, seen, name_found, variable, Part, shape_given, known, Step, Knows, KnowsTable, KnowsName, by_number, is_own, is_among, bound_of, local_of, local_shape, place_layer, Layer, layer_of, is_root_layer, is_path_of, is_path_layer}
use Rattle.epl_values.specs.declared.shape.Shape.TheVariants as shape
use Rattle.epl_tree.specs.declared.expression.ExprNode.TheOpen as node
use Rattle.typed_program.specs.declared.expression.TypedNode.TheVariants as made
use Rattle.type_table.specs.declared.scope.SeenKind.TheVariants as kind
use Rattle.expr_rules.specs.Places.{placed}
use Rattle.expr_rules.specs.Postfix.{leads}
use Rattle.expr_rules.specs.Then.{and_then}
use Rattle.expr_check.specs.Expressions.{part_of, step_of}
use Rattle.listener_check.specs.Operands.{place_of}
use Rattle.listener_check.specs.Values.{is_field, is_left, is_root, is_path}
use Rattle.program_laws.proofs.Exprs.Sure.{Sure}
use Rattle.program_laws.proofs.Exprs.Standing.{event_stands}
use Rattle.program_laws.proofs.Exprs.Answering.{Answers}
use Rattle.program_laws.proofs.Exprs.Knowing.{knows_table, knows_named}
use Rattle.program_laws.proofs.Exprs.Names.{name_answers}
use Rattle.program_laws.proofs.Exprs.Steps.{StepAnswers}
use Rattle.program_laws.proofs.Exprs.Suffixes.{field_sure}
use Rattle.program_laws.proofs.Exprs.Walks.{postfix_answers}
use Rattle.program_laws.proofs.Shapes.Lists.{all_by_place}
use Rattle.program_laws.proofs.Terms.Bounds.{BoundAt, numbered_at, own_found, seen_behind}
use Rattle.program_laws.proofs.Terms.Paths.{part_at, is_field_step, IsFieldStep, Rooted, Reaching, postfix_reaching}
use Rattle.program_laws.proofs.Terms.States.{Settled}

abbrev pub shape_bound : Seen → Shape
shape_bound x = local_shape x.shape

pub shapes_twice : (xs : List Seen) → map (λ (l : Local). l.shape) (map local_of xs) ≡ map shape_bound xs
shapes_twice [] = refl
shapes_twice (x ∷ xs) = ap (λ (l : List Shape). shape_bound x ∷ l) (shapes_twice xs)

shape_at : (xs : List Seen) (n : ℕ) (x : Seen) → slice_get xs n ≡ Some x → slice_get (map shape_bound xs) n ≡ Some (shape_bound x)
shape_at [] n x h = absurd (cc)
shape_at (y ∷ xs) zero x h = let e : y ≡ x = cc in ap (λ z. Some (shape_bound z)) e
shape_at (y ∷ xs) (suc n) x h = shape_at xs n x h

module _ (table : Table) (names : Names) (scope inner : Scope) (k : KnowsTable table names scope) (z : Settled names scope inner) where
  abbrev pub bounds : List Shape
  bounds = map (λ (l : Local). l.shape) (bound_of scope inner)

  bounds_are : bounds ≡ map shape_bound z.bound
  bounds_are =
      ap (λ (i : Scope). map (λ (l : Local). l.shape) (bound_of scope i)) z.is
      ∙ ap (λ (xs : List Seen). map (λ (l : Local). l.shape) (map local_of xs)) (drop-append_seam scope.names z.bound)
      ∙ shapes_twice z.bound

  pub bounds_at : (n : ℕ) (x : Seen) → slice_get z.bound n ≡ Some x → (a : BoundAt names n x) → slice_get bounds n ≡ Some (shape.Event a.event)
  bounds_at n x h a = ap (λ (l : List Shape). slice_get l n) bounds_are ∙ shape_at z.bound n x h ∙ ap (λ (o : Option Shape). Some (local_shape o)) a.shaped

  -- where the bound names are all that is known
  abbrev pub bound_names : Names
  bound_names = record { types = names.types; globals = []; locals = bounds; monitor = 0; actions = [] }

  abbrev bound_scope : Scope
  bound_scope = record { monitor = 0; actions = false; names = z.bound }

  placed_at : (i : ℕ) (x : Seen) → slice_get z.bound i ≡ Some x → BoundAt names i x
  placed_at i x h = subst (λ (m : ℕ). BoundAt names m x) (omega arith) (numbered_at names 0 z.bound i x z.numbered h)

  knows_name : (i : ℕ) (x : Seen) → slice_get z.bound i ≡ Some x → KnowsName bound_names x
  knows_name i x h =
      let a = placed_at i x h in
      record {
        shape = shape.Event a.event;
        known = a.shaped;
        stands = event_stands names.types a.event (lt-ltb a.event (length names.types) a.there);
        at = ap (λ (q : SeenKind). by_number bound_names q x.number) a.is_bound ∙ ap (λ (n : ℕ). slice_get bounds n) a.numbered ∙ bounds_at i x h a;
      }

  knows_bound : Knows table bound_names bound_scope
  knows_bound = record { types = k.types; few = k.few; kinds = k.kinds; seen = all_by_place z.bound knows_name; actions = λ name head h. absurd (cc) }

  -- ---- the bound name

  own_seen : (name : List ℕ) → is_own scope inner name ≡ true → seen inner name ≡ seen bound_scope name
  own_seen name h = ap (λ (i : Scope). seen i name) z.is ∙ seen_behind scope z.bound name (not-true (is_some (seen_of scope name)) (and_parts (not (is_some (seen_of scope name))) (is_some (seen_of inner name)) h).0)

  name_place : (s : Option Shape) (q : SeenKind) (n : ℕ) → q ≡ kind.Bound → place_of (roll-TypedExpr record { shape = s; node = variable q n }) ≡ n
  unfolding place_of
  name_place s q n is =
      ap (λ d. place_layer (out-TypedNode d.node)) (out-roll-TypedExpr (record { shape = s; node = variable q n }))
      ∙ ap (λ (p : SeenKind). place_layer (out-TypedNode (variable p n))) is
      ∙ ap place_layer (made.outs-Local n)

  name_rooted : (spot : Spot) (demand : Demand) (i : ℕ) (x : Seen) → slice_get z.bound i ≡ Some x → Rooted table names scope k bounds i (name_found spot demand (Some x)).part
  unfolding and_then placed
  name_rooted spot demand i x h =
      let a = placed_at i x h in
      record {
        numbered = name_place (shape_given (known x.shape)) x.kind x.number a.is_bound ∙ a.numbered;
        shaped = bounds_at i x h a ∙ sym (ap (λ d. d.shape) (out-roll-TypedExpr (record { shape = shape_given (known x.shape); node = variable x.kind x.number })) ∙ ap (λ (o : Option Shape). shape_given (known o)) a.shaped);
      }

  abbrev named_part : Spot → Option Seen → Part
  named_part spot q demand = name_found spot demand q

  -- a root: it answers, and it stands at its place
  record RootPart (first : Expr) : Type 0 where
    answers : Answers bound_names (part_of table inner first)
    place : ℕ
    rooted : (d : Demand) → Sure (Rooted table names scope k bounds place) (part_of table inner first d)

  name_root : (left : List (List ℕ)) (first : Expr) (name : List ℕ) → layer_of first ≡ node.Name name → is_left scope inner left name ≡ true → RootPart first
  name_root left first name is h =
      let spot = (out-Expr first).spot in
      let own = (and_parts (is_own scope inner name) (is_among left name) h).0 in
      let o = own_found scope z.bound name (ap (λ (i : Scope). is_own scope i name) (sym z.is) ∙ own) in
      let found : seen inner name ≡ Some o.item = ap (λ (i : Scope). seen i name) z.is ∙ o.seen_so in
      let eq = part_at table inner first (node.Name name) is in
      let own_known : (s : Seen) → seen bound_scope name ≡ Some s → KnowsName bound_names s = λ s at. (let all = knows_named knows_bound (λ n. true) in all.known_at name s refl at) in
      record {
        answers = subst (λ (p : Part). Answers bound_names p) (sym (eq ∙ ap (named_part spot) (own_seen name own))) (name_answers bound_names bound_scope name own_known spot);
        place = o.place;
        rooted = λ d. subst (λ (p : Part). Sure (Rooted table names scope k bounds o.place) (p d)) (sym (eq ∙ ap (named_part spot) found)) (record { where_clear = λ none. name_rooted spot d o.place o.item o.at });
      }

  layer_root : (left : List (List ℕ)) (first : Expr) (d : Layer) → layer_of first ≡ d → is_root_layer scope inner left d ≡ true → RootPart first
  layer_root left first (node.Name name) is h = name_root left first name is h
  layer_root left first d is h = absurd (true≢false (sym h))

  root_part : (left : List (List ℕ)) (first : Expr) → is_root scope inner left first ≡ true → RootPart first
  unfolding is_root
  root_part left first h = layer_root left first (layer_of first) refl h

  -- ---- the path

  field_answers : (s : Suffix) → is_field s ≡ true → StepAnswers bound_names (step_of table inner s)
  field_answers s h =
      let f = is_field_step table inner s h in
      subst (λ (t : Step). StepAnswers bound_names t) (sym f.1) (record { at_walk = λ spot demand first walk stands r. field_sure bound_names table bound_scope (knows_table knows_bound) f.0 spot demand first walk r })

  fields_answer : (us : List Suffix) → list_all is_field us ≡ true → AllByRecursion (StepAnswers bound_names) (map (step_of table inner) us)
  fields_answer [] h = tt
  fields_answer (s ∷ us) h = let p = and_parts (is_field s) (list_all is_field us) h in (field_answers s p.0, fields_answer us p.1)

  fields_are : (us : List Suffix) → list_all is_field us ≡ true → AllByRecursion (IsFieldStep table names scope k) (map (step_of table inner) us)
  fields_are [] h = tt
  fields_are (s ∷ us) h = let p = and_parts (is_field s) (list_all is_field us) h in (is_field_step table inner s p.0, fields_are us p.1)

  -- a path: it answers, and what it reaches is its shape
  pub record PathPart (e : Expr) : Type 0 where
    pub answers : Answers bound_names (part_of table inner e)
    pub reaches : (d : Demand) → Sure (Reaching table names scope k bounds) (part_of table inner e d)

  pub postfix_part : (left : List (List ℕ)) (e first : Expr) (us : List Suffix) → layer_of e ≡ node.Postfix first us → is_path_of scope inner left first us ≡ true → PathPart e
  postfix_part left e first us is h =
      let p = and_parts (is_root scope inner left first) (list_all is_field us) h in
      let root = root_part left first p.0 in
      let spot = (out-Expr e).spot in
      let steps = map (step_of table inner) us in
      let eq = part_at table inner e (node.Postfix first us) is in
      record {
        answers = subst (λ (q : Part). Answers bound_names q) (sym eq) (postfix_answers bound_names (λ demand. leads demand.changed (map (λ s. s.kind) steps)) (part_of table inner first) steps spot root.answers (fields_answer us p.1));
        reaches = λ d. subst (λ (q : Part). Sure (Reaching table names scope k bounds) (q d)) (sym eq) (postfix_reaching table names scope k bounds root.place (leads d.changed (map (λ s. s.kind) steps)) (part_of table inner first) steps spot d (fields_are us p.1) root.rooted);
      }

  layer_path : (left : List (List ℕ)) (e : Expr) (d : Layer) → layer_of e ≡ d → is_path_layer scope inner left d ≡ true → PathPart e
  layer_path left e (node.Postfix first us) is h = postfix_part left e first us is h
  layer_path left e d is h = absurd (true≢false (sym h))

  pub path_part : (left : List (List ℕ)) (e : Expr) → is_path scope inner left e ≡ true → PathPart e
  unfolding is_path
  path_part left e h = layer_path left e (layer_of e) refl h
