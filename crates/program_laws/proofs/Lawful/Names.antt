-- A visible name keeps the rules; one in which no fault is found may be named, and is seen.
use Rattle.std.proofs.Common.{◌≡◌, ◌&&◌}
use Rattle.program_laws.proofs.Common.{ℕ, Bool, true, false, Option, Some, None, refl, sym, ap, subst, ◌∙◌, Spot, Shape, TypedNode, Sight, Visible, Path, Kind, is_reference_of, local, visible_at, Seen, SeenKind, Root, Demand, outer_code, variable, root_of, name_found, known, judged, shape_given, is_known_reference, SameRoot, SeesName, kind_seen, is_outer, is_barred}
use Rattle.typed_program.specs.declared.expression.TypedNode.TheVariants as made
use Rattle.typed_program.specs.declared.expression.TypedNode.TheOpen as typed
use Rattle.typed_program.specs.Paths.{Root as Begins, stays, root_of as begins_of, global_root}
use Rattle.type_table.specs.declared.scope.SeenKind.TheVariants as kind
use Rattle.expr_rules.specs.declared.placed.Gives.TheVariants as gives
use Rattle.expr_rules.specs.Places.{is_global, kind_is_fixed, placed}
use Rattle.program_laws.proofs.Exprs.Sure.{Sure, sure_then}
use Rattle.program_laws.proofs.Lawful.Paths.{node_pathed, pathed}
use Rattle.program_laws.proofs.Lawful.Standing.{Own, Standing, placed_kept, stands_kept, is_near}
use Rattle.program_laws.proofs.Shapes.Lists.{none_if}

-- a name that may be named isn't barred
pub outer_clear : (k : SeenKind) (o : Option Shape) → outer_code k o ≡ None → (is_outer k && is_known_reference o) ≡ false
outer_clear kind.OuterLocal o h = none_if (is_known_reference o) 14 h
outer_clear kind.OuterFixed o h = none_if (is_known_reference o) 14 h
outer_clear k o h = refl

stays_same : (k : SeenKind) (r : Bool) → (is_outer k && r) ≡ false → stays (kind_seen k) r ≡ kind_is_fixed k r
stays_same kind.Global r h = refl
stays_same kind.Param r h = refl
stays_same kind.Local r h = refl
stays_same kind.Loop r h = refl
stays_same kind.OuterLocal r h = refl
stays_same kind.OuterFixed r h = sym h
stays_same kind.Bound r h = refl

reference_same : (o : Option Shape) → is_reference_of o ≡ is_known_reference o
reference_same None = refl
reference_same (Some s) = refl

-- what is given of a name has its shape
pub known_shape : (o : Option Shape) → shape_given (known o) ≡ o
known_shape None = refl
known_shape (Some s) = refl

-- a name in which no fault is found is seen, and may be named
pub outer_none : (spot : Spot) (demand : Demand) (s : Seen) → Sure (λ j. outer_code s.kind s.shape ≡ None) (name_found spot demand (Some s))
outer_none spot demand s =
    sure_then (λ o. outer_code s.kind s.shape ≡ None) (λ j. outer_code s.kind s.shape ≡ None) (placed spot demand (outer_code s.kind s.shape) (Some (root_of s)) (known s.shape)) (judged (Some (root_of s)) (variable s.kind s.number))
    (placed_kept (λ o. outer_code s.kind s.shape ≡ None) spot demand (outer_code s.kind s.shape) (Some (root_of s)) (known s.shape) (λ none p. none))
    (λ o none. record { where_clear = λ h. none })

-- where no name is seen, a fault is found
pub absent_never : (spot : Spot) (demand : Demand) → Sure (λ j. ⊥) (name_found spot demand None)
absent_never spot demand =
    sure_then (λ o. ⊥) (λ j. ⊥) (placed spot demand (Some 6) None gives.Unknown) (judged None (made.Boolean false))
    (placed_kept (λ o. ⊥) spot demand (Some 6) None gives.Unknown (λ none p. absurd (cc)))
    (λ o never. absurd never)

module _ (sight : Sight) where
  -- the path of a global, and of a visible local
  pub global_path : (n : ℕ) (s : Option Shape) → node_pathed sight (made.Global n) s ≡ record { shape = s; root = Some global_root; lawful = true }
  global_path n s = pathed sight (typed.Global n) (made.Global n) s (made.rolls-Global n)

  -- the path of a visible local
  pub local_path : (n : ℕ) (s : Option Shape) (v : Visible) → visible_at sight.visible n ≡ Some v → node_pathed sight (made.Local n) s ≡ record { shape = s; root = Some (begins_of (is_reference_of s) v); lawful = true }
  local_path n s v at = pathed sight (typed.Local n) (made.Local n) s (made.rolls-Local n) ∙ ap (λ (o : Option Visible). local o s) at

  -- a name that is seen, globals aside
  abbrev pub IfLocal : Seen → Type 0
  IfLocal s = is_global s.kind ≡ false → is_barred s ≡ false → SeesName sight.visible s

  rooted : (demand : Demand) (root : Root) (n : TypedNode) (s : Option Shape) (begins : Begins) → node_pathed sight n s ≡ record { shape = s; root = Some begins; lawful = true } → SameRoot (Some root) (Some begins) → is_near (Some begins) ≡ true → Own sight demand (Some root) n s
  rooted demand root n s begins is same near = record {
    lawful = ap (λ (p : Path). p.lawful) is;
    same = subst (λ (p : Path). SameRoot (Some root) p.root) (sym is) same;
    near = λ changed. ap (λ (p : Path). is_near p.root) is ∙ near;
  }

  local_own : (demand : Demand) (s : Seen) → is_barred s ≡ false → is_global s.kind ≡ false → SeesName sight.visible s → Own sight demand (Some (root_of s)) (made.Local s.number) s.shape
  local_own demand s barred inner sees =
      rooted demand (root_of s) (made.Local s.number) s.shape (begins_of (is_reference_of s.shape) sees.at) (local_path s.number s.shape sees.at sees.is_at)
      (ap (λ (k : Kind). stays k (is_reference_of s.shape)) sees.kind ∙ ap (λ (r : Bool). stays (kind_seen s.kind) r) (reference_same s.shape) ∙ stays_same s.kind (is_known_reference s.shape) barred, sym inner, refl)
      refl

  global_own : (demand : Demand) (s : Seen) → s.kind ≡ kind.Global → Own sight demand (Some (root_of s)) (made.Global s.number) s.shape
  global_own demand s is =
      rooted demand (root_of s) (made.Global s.number) s.shape global_root (global_path s.number s.shape)
      (sym (ap (λ (k : SeenKind). kind_is_fixed k (is_known_reference s.shape)) is), sym (ap is_global is), refl)
      refl

  variable_own : (demand : Demand) (s : Seen) (k : SeenKind) → s.kind ≡ k → is_barred s ≡ false → IfLocal s → Own sight demand (Some (root_of s)) (variable k s.number) s.shape
  variable_own demand s kind.Global is barred sees = global_own demand s is
  variable_own demand s k is barred sees = let inner : is_global s.kind ≡ false = ap is_global is in local_own demand s barred inner (sees inner barred)

  name_own : (demand : Demand) (s : Seen) → IfLocal s → outer_code s.kind s.shape ≡ None → Own sight demand (Some (root_of s)) (variable s.kind s.number) (shape_given (known s.shape))
  name_own demand s sees none =
      subst (λ (o : Option Shape). Own sight demand (Some (root_of s)) (variable s.kind s.number) o) (sym (known_shape s.shape))
      (variable_own demand s s.kind refl (outer_clear s.kind s.shape none) sees)

  -- a name that is seen keeps the rules
  pub name_kept : (spot : Spot) (demand : Demand) (o : Option Seen) → ((s : Seen) → o ≡ Some s → IfLocal s) → Sure (Standing sight demand) (name_found spot demand o)
  name_kept spot demand None sees = stands_kept sight spot demand (Some 6) None gives.Unknown (made.Boolean false) (λ none. absurd (cc))
  name_kept spot demand (Some s) sees = stands_kept sight spot demand (outer_code s.kind s.shape) (Some (root_of s)) (known s.shape) (variable s.kind s.number) (name_own demand s (sees s refl))
