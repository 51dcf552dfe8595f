-- A place that is assigned keeps the rules: its variable is visible, its steps go on from there, and its end may be changed.
use Rattle.std.proofs.Common.{◌≡◌, ◌&&◌}
use Rattle.program_laws.proofs.Common.{ℕ, true, false, List, map, length, Option, Some, None, is_some, slice_get, refl, sym, ap, subst, ◌∙◌, AllByRecursion, and_from, Spot, Shape, TypedExpr, out-TypedExpr, roll-TypedExpr, TypedNode, TypedSuffix, Site, Variable, Names, Sight, Visible, Path, is_reference_of, visible_at, goes, end_of, may_change, path_of, Seen, SeenKind, Judged, Walk, Demand, outer_code, variable, name_found, Part, known, Step, demand_before, walk_found, variable_layer, variable_of, target_at, target_of, Target, KnowsName, by_number, is_barred}
use Rattle.typed_program.specs.declared.expression.TypedNode.TheVariants as made
use Rattle.typed_program.specs.declared.statement.Variable.TheVariants as variables
use Rattle.typed_program.specs.Courses.{place_root}
use Rattle.typed_program.specs.Paths.{Root as Begins, root_of as begins_of}
use Rattle.type_table.specs.declared.scope.SeenKind.TheVariants as kind
use Rattle.expr_rules.specs.Asked.{assigned}
use Rattle.expr_rules.specs.Places.{is_global, placed}
use Rattle.expr_rules.specs.Postfix.{leads, walked_from}
use Rattle.expr_rules.specs.Then.{and_then}
use Rattle.expr_check.specs.Checks.{target}
use Rattle.program_laws.proofs.Exprs.Sure.{Sure, sure_then, sure_sound}
use Rattle.program_laws.proofs.Lawful.Names.{IfLocal, global_path, local_path, known_shape, outer_clear, outer_none, absent_never, name_kept}
use Rattle.program_laws.proofs.Lawful.Paths.{node_pathed, path_made, node_of_made}
use Rattle.program_laws.proofs.Lawful.Rules.{PlaceLawful}
use Rattle.program_laws.proofs.Lawful.Standing.{Standing}
use Rattle.program_laws.proofs.Lawful.Steps.{StepKept, gone, changed_well}
use Rattle.program_laws.proofs.Lawful.Walks.{Done, walked_kept}

module _ (names : Names) (sight : Sight) where
  -- where a place with this variable begins
  abbrev begins_at : List Site → ℕ → Variable → Option Begins
  begins_at sites low v = place_root names sites sight.special low sight.visible v

  -- an expression that is a variable: its place begins where its path does
  pub record IsRooted (e : TypedExpr) : Type 0 where
    pub root_same : (sites : List Site) (low : ℕ) → place_root names sites sight.special low sight.visible (variable_of (out-TypedExpr e).node) ≡ (path_of sight e).root
    pub root_there : is_some (path_of sight e).root ≡ true

  -- a node that is a variable
  record NodeRooted (n : TypedNode) (s : Option Shape) : Type 0 where
    root_same : (sites : List Site) (low : ℕ) → begins_at sites low (variable_of n) ≡ (node_pathed sight n s).root
    root_there : is_some (node_pathed sight n s).root ≡ true

  global_rooted : (n : ℕ) (s : Option Shape) → NodeRooted (made.Global n) s
  global_rooted n s =
      let is = ap (λ (p : Path). p.root) (global_path sight n s) in
      record {
        root_same = λ sites low. ap (λ d. begins_at sites low (variable_layer d)) (made.outs-Global n) ∙ sym is;
        root_there = ap (λ (o : Option Begins). is_some o) is;
      }

  local_begins : (sites : List Site) (low : ℕ) (n : ℕ) (v : Visible) → visible_at sight.visible n ≡ Some v → begins_at sites low (variables.Local n) ≡ Some (begins_of (is_reference_of (slice_get names.locals n)) v)
  local_begins sites low n v at = ap (λ (o : Option Visible). elim o as (λ x. Option Begins) [ None ↦ None | Some w ↦ Some (begins_of (is_reference_of (slice_get names.locals n)) w) ]) at

  local_rooted : (n : ℕ) (s : Option Shape) (v : Visible) → slice_get names.locals n ≡ s → visible_at sight.visible n ≡ Some v → NodeRooted (made.Local n) s
  local_rooted n s v known at =
      let is = ap (λ (p : Path). p.root) (local_path sight n s v at) in
      record {
        root_same = λ sites low.
            ap (λ d. begins_at sites low (variable_layer d)) (made.outs-Local n)
            ∙ local_begins sites low n v at
            ∙ ap (λ (o : Option Shape). Some (begins_of (is_reference_of o) v)) known
            ∙ sym is;
        root_there = ap (λ (o : Option Begins). is_some o) is;
      }

  variable_rooted : (s : Seen) (k : SeenKind) → s.kind ≡ k → KnowsName names s → is_barred s ≡ false → IfLocal sight s → NodeRooted (variable k s.number) s.shape
  variable_rooted s kind.Global is known barred sees = global_rooted s.number s.shape
  variable_rooted s k is known barred sees =
      let seen = sees (ap is_global is) barred in
      local_rooted s.number s.shape seen.at (sym (ap (λ (m : SeenKind). by_number names m s.number) is) ∙ known.at ∙ sym known.known) seen.is_at

  made_rooted : (n : TypedNode) (s : Option Shape) → NodeRooted n s → IsRooted (roll-TypedExpr record { shape = s; node = n })
  made_rooted n s r =
      let root : (path_of sight (roll-TypedExpr record { shape = s; node = n })).root ≡ (node_pathed sight n s).root = ap (λ (p : Path). p.root) (path_made sight s n) in
      record {
        root_same = λ sites low. ap (λ (m : TypedNode). begins_at sites low (variable_of m)) (node_of_made sight s n) ∙ r.root_same sites low ∙ sym root;
        root_there = ap (λ (o : Option Begins). is_some o) root ∙ r.root_there;
      }

  -- what a place begins with, where no fault is found there
  record Begun (demand : Demand) (j : Judged) : Type 0 where
    standing : Standing sight demand j
    rooted : IsRooted j.typed

  name_rooted : (spot : Spot) (demand : Demand) (s : Seen) → KnowsName names s → IfLocal sight s → outer_code s.kind s.shape ≡ None → IsRooted (name_found spot demand (Some s)).part.typed
  unfolding and_then placed
  name_rooted spot demand s known sees none =
      subst (λ (o : Option Shape). IsRooted (roll-TypedExpr record { shape = o; node = variable s.kind s.number })) (sym (known_shape s.shape))
      (made_rooted (variable s.kind s.number) s.shape (variable_rooted s s.kind refl known (outer_clear s.kind s.shape none) sees))

  begun_sure : (spot : Spot) (demand : Demand) (o : Option Seen) → ((s : Seen) → o ≡ Some s → KnowsName names s) → ((s : Seen) → o ≡ Some s → IfLocal sight s) → Sure (Begun demand) (name_found spot demand o)
  begun_sure spot demand None known sees = record { where_clear = λ h. absurd ((absent_never spot demand).where_clear h) }
  begun_sure spot demand (Some s) known sees = record {
    where_clear = λ h. record {
      standing = (name_kept sight spot demand (Some s) sees).where_clear h;
      rooted = name_rooted spot demand s (known s refl) (sees s refl) ((outer_none spot demand s).where_clear h);
    };
  }

  -- ---- what is assigned

  target_lawful : (v : Variable) (steps : List TypedSuffix) (o : Option Shape) → ((sites : List Site) (low : ℕ) → (is_some (begins_at sites low v) && goes (begins_at sites low v) (gone sight steps) && may_change (end_of (begins_at sites low v) (gone sight steps))) ≡ true) → PlaceLawful names sight (target_at v steps o).place
  target_lawful v steps (Some s) h = record { assigned = h }
  target_lawful v steps None h = record { assigned = h }

  walk_assigned : (first : TypedExpr) (walk : Walk) → IsRooted first → Done sight assigned first walk → PlaceLawful names sight (target_of walk).place
  walk_assigned first walk r d =
      let from = (path_of sight first).root in
      let steps = gone sight walk.suffixes in
      target_lawful (variable_of (out-TypedExpr walk.first).node) walk.suffixes walk.shape (λ sites low.
      let is : begins_at sites low (variable_of (out-TypedExpr walk.first).node) ≡ from = ap (λ (e : TypedExpr). begins_at sites low (variable_of (out-TypedExpr e).node)) d.begins ∙ r.root_same sites low in
      ap (λ (o : Option Begins). is_some o && goes o steps && may_change (end_of o steps)) is
      ∙ and_from (is_some from && goes from steps) (may_change (end_of from steps))
      (and_from (is_some from) (goes from steps) r.root_there d.comes.walked_well.goes_well)
      (changed_well walk.root (end_of from steps) d.comes.walked_well.same d.comes.freed (λ some. d.comes.near refl)))

  -- a walk from a variable to what is assigned
  record Arrives (walk : Walk) : Type 0 where
    start : TypedExpr
    rooted : IsRooted start
    done : Done sight assigned start walk

  place_kept : (part : Part) (steps : List Step) (spot : Spot) → ((demand : Demand) → Sure (Begun demand) (part demand)) → AllByRecursion (StepKept sight) steps → Sure (λ (t : Target). PlaceLawful names sight t.place) (and_then (walk_found (leads true (map (λ s. s.kind) steps)) part steps spot assigned) target)
  place_kept part steps spot begins all =
      let changed = leads true (map (λ s. s.kind) steps) in
      let before = demand_before changed assigned (length steps) in
      sure_then Arrives (λ (t : Target). PlaceLawful names sight t.place) (walk_found changed part steps spot assigned) target
      (sure_then (Begun before) Arrives (part before) (walked_from spot changed assigned steps) (begins before)
      (λ j b. record { where_clear = λ h. record { start = j.typed; rooted = b.rooted; done = (walked_kept sight spot changed assigned steps j refl all b.standing).where_clear h } }))
      (λ walk a. sure_sound (λ (t : Target). PlaceLawful names sight t.place) (target_of walk) (walk_assigned a.start walk a.rooted a.done))

  -- a place by the name that it begins with
  pub named_place_kept : (o : Option Seen) (steps : List Step) (spot at : Spot) → ((s : Seen) → o ≡ Some s → KnowsName names s) → ((s : Seen) → o ≡ Some s → IfLocal sight s) → AllByRecursion (StepKept sight) steps → Sure (λ (t : Target). PlaceLawful names sight t.place) (and_then (walk_found (leads true (map (λ s. s.kind) steps)) (λ demand. name_found at demand o) steps spot assigned) target)
  named_place_kept o steps spot at known sees all = place_kept (λ demand. name_found at demand o) steps spot (λ demand. begun_sure at demand o known sees) all
