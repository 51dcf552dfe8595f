-- Statements without parts that are statements: where no fault is found, what is made of each holds.
use Rattle.std.proofs.Common.{◌≡◌, if◌then◌else◌}
use Rattle.program_laws.proofs.Common.{ℕ, List, [], Some, None, Bool, true, false, not, Option, refl, ap, sym, subst, ◌∙◌, slice_get, is_some, IfSome, or_right, and_parts, Spot, Shape, EventShape, Expr, Name, Place, TypeExpr, TypedExpr, Stmt, if_known, holds, same, Body, stmt_holds, is_local, type_found, Exactly, Statement, Event, Channel, like, Target, place_found, answers, wish_stands, result_stands, State, Around, when, local_read, expr_names, optional_names, place_names, either, exactly, asked, wanted, for_place, reads, print_read, log_read, route_read, send_read, call_read, declare_read, declare_as_read, assign_read, return_read, jump_read, return_codes, target_shape, maybe_read}
use Rattle.epl_values.specs.declared.shape.Shape.TheVariants as shape
use Rattle.epl_tree.specs.declared.statement.Level.{Level}
use Rattle.typed_program.specs.declared.statement.Stmt.TheVariants as made
use Rattle.typed_program.specs.declared.statement.Stmt.TheOpen as layer
use Rattle.typed_program.specs.Expressions.{has}
use Rattle.typed_program.specs.Statements.{returns}
use Rattle.expr_rules.specs.Asked.{fixing}
use Rattle.stmt_check.specs.Bodies.{name_read}
use Rattle.stmt_check.specs.Captures.{Names as Named}
use Rattle.stmt_check.specs.Steps.{◌>>=◌, pure, given, looks, tells}
use Rattle.type_table.specs.declared.scope.SeenKind.TheVariants as kind
use Rattle.program_laws.proofs.Exprs.Accepted.{has_exact}
use Rattle.program_laws.proofs.Exprs.Alike.{same_self}
use Rattle.program_laws.proofs.Exprs.Standing.{text_stands}
use Rattle.program_laws.proofs.Shapes.Frames.{Frame, Claim, names_of, body_of, claim_bind, claim_pure, claim_given, claim_tells}
use Rattle.program_laws.proofs.Shapes.Lists.{both_true}
use Rattle.program_laws.proofs.Shapes.Locals.{Sound, OfLocals, local_claim, name_claim}
use Rattle.program_laws.proofs.Shapes.Made.{holds_as, event_passes, channel_passes}
use Rattle.program_laws.proofs.Shapes.Reading.{Fitting, Within, reads_claim, place_claim, maybe_claim}
use Rattle.program_laws.proofs.Shapes.Rules.{Rules, PlaceAnswers}
use Rattle.program_laws.proofs.Shapes.Types.{type_stands}

pub within_first : (a b : Named) {named : Named} → Within (either a b) named → Within a named
within_first a b w name is = w name (rw is refl)

pub within_second : (a b : Named) {named : Named} → Within (either a b) named → Within b named
within_second a b w name is = w name (or_right (a name) (b name) is)

-- ---- a local of a known shape

pub of_local : OfLocals kind.Local
of_local = record { at = λ names n. refl; own = λ r. refl }

pub of_loop : OfLocals kind.Loop
of_loop = record { at = λ names n. refl; own = λ r. refl }

-- a number at which a shape stands
pub is_at : (b : Body) (s : Shape) (n : ℕ) → slice_get b.names.locals n ≡ Some s → is_local b s n ≡ true
is_at b s n h = ap (if_known (same s)) h ∙ same_self s

-- what holds of a statement in each finished body
abbrev pub Good : Frame → List Shape → Stmt → Type 0
Good f all x = stmt_holds (body_of f all) x ≡ true

abbrev pub Free : List Shape → Type 0
Free all = Unit {0}

module _ (rules : Rules) (f : Frame) (around : Around) (fitting : Fitting f around) where
  pub print_claim : {k : ℕ} (text : Expr) → Within (expr_names text) f.named → (s : State) → Claim f k k Free (Good f) s (print_read around.table text s)
  print_claim text within s = claim_bind f (reads around.table (exactly shape.Text) text) (λ x. pure (made.Print x)) s
      (reads_claim rules f around fitting (exactly shape.Text) text within s (λ all h. text_stands f.program.types))
      (claim_pure f _ _ (λ all h. holds_as (body_of f all) (layer.Print _) _ (made.rolls-Print _) (has_exact (names_of f all) shape.Text _ h.1)))

  pub log_claim : {k : ℕ} (text : Expr) (level : Level) → Within (expr_names text) f.named → (s : State) → Claim f k k Free (Good f) s (log_read around.table text level s)
  log_claim text level within s = claim_bind f (reads around.table (exactly shape.Text) text) (λ x. pure (made.Log x level)) s
      (reads_claim rules f around fitting (exactly shape.Text) text within s (λ all h. text_stands f.program.types))
      (claim_pure f _ _ (λ all h. holds_as (body_of f all) (layer.Log _ level) _ (made.rolls-Log _ level) (has_exact (names_of f all) shape.Text _ h.1)))

  pub route_claim : {k : ℕ} (value : Expr) → Within (expr_names value) f.named → (s : State) → Claim f k k Free (Good f) s (route_read around.table value s)
  route_claim value within s = claim_bind f (reads around.table (asked Event true) value) (λ x. pure (made.Route x)) s
      (reads_claim rules f around fitting (asked Event true) value within s (λ all h. refl))
      (claim_pure f _ _ (λ all h. holds_as (body_of f all) (layer.Route _) _ (made.rolls-Route _) (event_passes (body_of f all) _ h.1)))

  pub send_claim : {k : ℕ} (value to : Expr) → Within (either (expr_names value) (expr_names to)) f.named → (s : State) → Claim f k k Free (Good f) s (send_read around.table value to s)
  send_claim value to within s = claim_bind f (reads around.table (asked Event true) value) (λ x. reads around.table (asked Channel false) to >>= λ y. pure (made.Send x y)) s
      (reads_claim rules f around fitting (asked Event true) value (within_first (expr_names value) (expr_names to) within) s (λ all h. refl))
      (claim_bind f (reads around.table (asked Channel false) to) (λ y. pure (made.Send _ y)) _
      (reads_claim rules f around fitting (asked Channel false) to (within_second (expr_names value) (expr_names to) within) _ (λ all h. refl))
      (claim_pure f _ _ (λ all h. holds_as (body_of f all) (layer.Send _ _) _ (made.rolls-Send _ _) (both_true (event_passes (body_of f all) _ h.0.1) (channel_passes (body_of f all) _ h.1)))))

  pub call_claim : {k : ℕ} (e : Expr) → Within (expr_names e) f.named → (s : State) → Claim f k k Free (Good f) s (call_read around.table e s)
  call_claim e within s = claim_bind f (reads around.table (asked Statement false) e) (λ x. pure (made.Call x)) s
      (reads_claim rules f around fitting (asked Statement false) e within s (λ all h. refl))
      (claim_pure f _ _ (λ all h. holds_as (body_of f all) (layer.Call _) _ (made.rolls-Call _) (and_parts (holds (names_of f all) _) true h.1).0))

  pub die_claim : {k : ℕ} (s : State) → Claim f k k Free (Good f) s (pure made.Die s)
  die_claim s = claim_pure f _ _ (λ all h. holds_as (body_of f all) layer.Die _ made.rolls-Die refl)

  pub break_claim : {k : ℕ} (spot : Spot) (s : State) → Claim f k k Free (Good f) s (jump_read around spot made.Break s)
  break_claim spot s = claim_bind f (tells spot (λ s. when (not around.looped) 15)) (λ x. pure made.Break) s (claim_tells f spot _ s)
      (claim_pure f _ _ (λ all h. holds_as (body_of f all) layer.Break _ made.rolls-Break refl))

  pub continue_claim : {k : ℕ} (spot : Spot) (s : State) → Claim f k k Free (Good f) s (jump_read around spot made.Continue s)
  continue_claim spot s = claim_bind f (tells spot (λ s. when (not around.looped) 15)) (λ x. pure made.Continue) s (claim_tells f spot _ s)
      (claim_pure f _ _ (λ all h. holds_as (body_of f all) layer.Continue _ made.rolls-Continue refl))

  -- ---- locals

  -- a type as it is written
  pub type_claim : {k : ℕ} {H : List Shape → Type 0} (type : TypeExpr) (s : State) → Claim f k k H (λ all x. Sound f.program.types (Some x)) s (given (type_found around.table type) s)
  type_claim type s = claim_given f (type_found around.table type) s (λ all h none. record { known = refl; stands = type_stands around.table f.program.types fitting.world.types type none })

  pub declare_claim : {k : ℕ} (type : TypeExpr) (name : Name) (s : State) → Claim f k k Free (Good f) s (declare_read around.table type name s)
  declare_claim {k} type name s = claim_bind f (given (type_found around.table type)) (λ shape. name_read name >>= λ _. local_read kind.Local name.text (Some shape) >>= λ number. pure (made.Declare number shape)) s
      (type_claim type s)
      (claim_bind f (name_read name) (λ _. local_read kind.Local name.text (Some _) >>= λ number. pure (made.Declare number _)) _
      (name_claim f name _)
      (claim_bind f (local_read kind.Local name.text (Some _)) (λ number. pure (made.Declare number _)) _
      (local_claim f kind.Local of_local name.text (Some _) _ (λ all h. h.0.1))
      (claim_pure f _ _ (λ all h. holds_as (body_of f all) (layer.Declare _ _) _ (made.rolls-Declare _ _) (is_at (body_of f all) _ _ h.1)))))

  as_at : (all : List Shape) (n : ℕ) (s : Shape) (e : TypedExpr) → slice_get all n ≡ Some s → answers (names_of f all) (Exactly s) e ≡ true → if_known (λ t. has (names_of f all) t e) (slice_get all n) ≡ true
  as_at all n s e at h = ap (if_known (λ t. has (names_of f all) t e)) at ∙ has_exact (names_of f all) s e h

  pub declare_as_claim : {k : ℕ} (type : TypeExpr) (name : Name) (value : Expr) → Within (expr_names value) f.named → (s : State) → Claim f k k Free (Good f) s (declare_as_read around.table type name value s)
  declare_as_claim {k} type name value within s = claim_bind f (given (type_found around.table type)) (λ shape. name_read name >>= λ _. reads around.table (exactly shape) value >>= λ value. local_read kind.Local name.text (Some shape) >>= λ number. pure (made.DeclareAs number value)) s
      (type_claim type s)
      (claim_bind f (name_read name) (λ _. reads around.table (exactly _) value >>= λ value. local_read kind.Local name.text (Some _) >>= λ number. pure (made.DeclareAs number value)) _
      (name_claim f name _)
      (claim_bind f (reads around.table (exactly _) value) (λ value. local_read kind.Local name.text (Some _) >>= λ number. pure (made.DeclareAs number value)) _
      (reads_claim rules f around fitting (exactly _) value within _ (λ all h. h.0.1.stands))
      (claim_bind f (local_read kind.Local name.text (Some _)) (λ number. pure (made.DeclareAs number _)) _
      (local_claim f kind.Local of_local name.text (Some _) _ (λ all h. h.0.0.1))
      (claim_pure f _ _ (λ all h. holds_as (body_of f all) (layer.DeclareAs _ _) _ (made.rolls-DeclareAs _ _) (as_at all _ _ _ h.1 h.0.1))))))

  -- ---- what is assigned

  pub target_known : (to : Target) → to.known ≡ true → target_shape to ≡ Some to.place.shape
  target_known to h = ap (λ (b : Bool). if b then Some to.place.shape else None) h

  target_stands : (all : List Shape) (to : Target) → PlaceAnswers (names_of f all) to → wish_stands f.program.types (fixing (target_shape to)) ≡ true
  target_stands all to h = ap (λ (s : Option Shape). wish_stands f.program.types (fixing s)) (target_known to h.known) ∙ h.stands

  target_has : (all : List Shape) (to : Target) (e : TypedExpr) → PlaceAnswers (names_of f all) to → answers (names_of f all) (fixing (target_shape to)) e ≡ true → has (names_of f all) to.place.shape e ≡ true
  target_has all to e h k = has_exact (names_of f all) to.place.shape e (ap (λ (s : Option Shape). answers (names_of f all) (fixing s) e) (sym (target_known to h.known)) ∙ k)

  pub assign_claim : {k : ℕ} (place : Place) (value : Expr) → Within (either (place_names place) (expr_names value)) f.named → (s : State) → Claim f k k Free (Good f) s (assign_read around.table place value s)
  assign_claim place value within s =
      let to : Target = (looks {S = State} {A = Target} (λ s. place_found around.table s.scope place) s).part.part in
      claim_bind f (looks (λ s. place_found around.table s.scope place)) (λ to. reads around.table (for_place (target_shape to)) value >>= λ value. pure (made.Assign to.place value)) s
      (place_claim rules f around fitting place (within_first (place_names place) (expr_names value) within) s)
      (claim_bind f (reads around.table (for_place (target_shape to)) value) (λ value. pure (made.Assign to.place value)) _
      (reads_claim rules f around fitting (for_place (target_shape to)) value (within_second (place_names place) (expr_names value) within) _ (λ all h. target_stands all to h.1))
      (claim_pure f _ _ (λ all h. holds_as (body_of f all) (layer.Assign to.place _) _ (made.rolls-Assign to.place _) (both_true h.0.1.leads (target_has all to _ h.0.1 h.1)))))

  -- ---- results

  result_wish : (types : List EventShape) (r : Option Shape) → result_stands types r ≡ true → wish_stands types (like r) ≡ true
  result_wish types None h = refl
  result_wish types (Some s) h = h

  returned : (all : List Shape) (r : Option Shape) (e : Option Expr) (value : Option TypedExpr) → return_codes r e ≡ [] → IfSome value (λ x. answers (names_of f all) (like r) x ≡ true) → is_some value ≡ is_some e → returns (record { names = names_of f all; sites = f.program.sites; result = r }) value ≡ true
  returned all None None None codes h same = refl
  returned all None None (Some x) codes h same = cc
  returned all None (Some e) value codes h same = cc
  returned all (Some s) None value codes h same = cc
  returned all (Some s) (Some e) None codes h same = cc
  returned all (Some s) (Some e) (Some x) codes h same = has_exact (names_of f all) s x h

  returned_here : (all : List Shape) (e : Option Expr) (value : Option TypedExpr) → return_codes around.result e ≡ [] → IfSome value (λ x. answers (names_of f all) (like around.result) x ≡ true) → is_some value ≡ is_some e → returns (body_of f all) value ≡ true
  returned_here all e value codes h same = subst (λ (r : Option Shape). returns (record { names = names_of f all; sites = f.program.sites; result = r }) value ≡ true) fitting.result (returned all around.result e value codes h same)

  pub return_claim : {k : ℕ} (spot : Spot) (e : Option Expr) → Within (optional_names e) f.named → (s : State) → Claim f k k Free (Good f) s (return_read around spot e s)
  return_claim spot e within s = claim_bind f (tells spot (λ s. return_codes around.result e)) (λ _. maybe_read around.table (wanted around.result) e >>= λ value. pure (made.Return value)) s
      (claim_tells f spot (λ s. return_codes around.result e) s)
      (claim_bind f (maybe_read around.table (wanted around.result) e) (λ value. pure (made.Return value)) _
      (maybe_claim rules f around fitting (wanted around.result) e within _ (λ all h. result_wish f.program.types around.result (subst (λ (r : Option Shape). result_stands f.program.types r ≡ true) (sym fitting.result) fitting.stands)))
      (claim_pure f _ _ (λ all h. holds_as (body_of f all) (layer.Return _) _ (made.rolls-Return _) (returned_here all e _ h.0.1 h.1.0 h.1.1))))
