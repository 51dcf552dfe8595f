-- What expressions, places, arguments and event expressions answer where no fault is found in them.
use Rattle.std.proofs.Common.{◌≡◌, ◌≤◌, ◌∷◌, ◌&&◌}
use Rattle.program_laws.proofs.Common.{ℕ, suc, length, map, List, [], Some, Bool, true, false, list_all, EventShape, Shape, EventExpr, Expr, Place, TypedExpr, TypedTerm, Names, if_known, holds, have, shape_of, walks, stepping, stands, variable_shape, fits_term, Scope, Seen, ParamHead, Table, Demand, typed_arguments, param_wants, Target, place_found, expr_found, answers, wish_stands, term_found, bound_in, known_shape, expr_names, place_names, event_names, exprs_name}
use Rattle.typed_program.specs.Shapes.{is_event}
use Rattle.typed_program.specs.Terms.{Around, is_tenths}
use Rattle.type_table.specs.declared.scope.SeenKind.TheVariants as kind
use Rattle.expr_check.specs.Expressions.{part_of as expr_part}
use Rattle.program_laws.proofs.Shapes.Frames.{KnowsNamed}

-- what is assigned has a shape, and its steps lead there
pub record PlaceAnswers (names : Names) (target : Target) : Type 0 where
  pub known : target.known ≡ true
  pub stands : stands names.types target.place.shape ≡ true
  pub leads : walks (variable_shape names target.place.variable) (map (stepping names) target.place.steps) (Some target.place.shape) ≡ true

-- a bound name with this number
pub record IsBound (types : List EventShape) (n : ℕ) (b : Seen) : Type 0 where
  pub kind : b.kind ≡ kind.Bound
  pub number : b.number ≡ n
  pub known : b.shape ≡ Some (known_shape b.shape)
  pub stands : stands types (known_shape b.shape) ≡ true
  pub event : is_event (known_shape b.shape) ≡ true

-- bound names whose numbers begin with this one
abbrev pub AreBound : List EventShape → ℕ → List Seen → Type 0
AreBound types n [] = Unit {0}
AreBound types n (b ∷ bs) = IsBound types n b × AreBound types (suc n) bs

abbrev pub around_term : Names → TypedTerm → Around
around_term names typed = record { types = names.types; operands = map shape_of typed.operands; tenths = map is_tenths typed.operands; bound = map (λ b. b.shape) typed.bound }

abbrev pub gives_value : Names → TypedExpr → Bool
gives_value names e = holds names e && if_known (λ s. true) (shape_of e)

pub record TermAnswers (names : Names) (binds : List Seen) (typed : TypedTerm) : Type 0 where
  pub fits : fits_term (around_term names typed) typed.term ≡ true
  pub operands : list_all (gives_value names) typed.operands ≡ true
  pub few : length binds ≤ 64
  pub same : map (λ b. b.shape) typed.bound ≡ map (λ b. known_shape b.shape) binds
  pub bound : AreBound names.types 0 binds

-- what is proved elsewhere of expressions and event expressions whose names are known
pub record Rules : Type 0 where
  pub expressions : (table : Table) (names : Names) (scope : Scope) (e : Expr) (demand : Demand) → KnowsNamed (expr_names e) table names scope → wish_stands names.types demand.wish ≡ true → (expr_found table scope e demand).faults ≡ [] → answers names demand.wish (expr_found table scope e demand).part ≡ true
  pub places : (table : Table) (names : Names) (scope : Scope) (place : Place) → KnowsNamed (place_names place) table names scope → (place_found table scope place).faults ≡ [] → PlaceAnswers names (place_found table scope place).part
  pub arguments : (table : Table) (names : Names) (scope : Scope) (params : List ParamHead) (shapes : List Shape) (args : List Expr) → KnowsNamed (exprs_name args) table names scope → param_wants params ≡ map (λ s. Some s) shapes → list_all (stands names.types) shapes ≡ true → length args ≡ length params → (typed_arguments false params (map (expr_part table scope) args)).faults ≡ [] → have names shapes (typed_arguments false params (map (expr_part table scope) args)).part ≡ true
  pub terms : (table : Table) (names : Names) (scope : Scope) (event : EventExpr) → KnowsNamed (event_names event) table names scope → (term_found table scope event).faults ≡ [] → TermAnswers names (bound_in table scope event) (term_found table scope event).part
