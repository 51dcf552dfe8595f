-- Statements with parts, where each part is as it should be.
use Rattle.std.proofs.Common.{◌≡◌, ◌+◌, ◌<◌, ◌∷◌, ◌&&◌, ◌||◌}
use Rattle.program_laws.proofs.Common.{ℕ, suc, length, map, List, [], Some, None, Bool, true, false, not, nat_le, Option, refl, ap, sym, ◌∙◌, slice_get, arith, option_map, IfSome, AllByRecursion, or_parts, not-false, and_parts, leb-false, Spot, Shape, Shape-F, out-Shape, EventShape, EventExpr, Expr, Name, Place, TypeExpr, TypedExpr, TypedTerm, Stmt, Names, Checked, Paired, Stepping, node_so, step_so, entry_so, expr_so, link_so, suffix_so, holds, if_known, may_stand, shape_of, stands, same, is_sequence_layer, Body, stmt_holds, passes, is_local, type_found, Sequence, Target, place_found, answers, wished, term_found, State, Around, in_loop, local_read, scoped, known_shape, when, bound_in, expr_names, place_names, event_names, either, any_of, if_any, OnPart, exactly, asked, reads, row_read, block_read, other_read, if_read, while_read, for_read, turn_read, on_read, declare_on_read, assign_on_read, listen_read, callback_read, on_codes, takes_listener, target_shape}
use Rattle.epl_values.specs.declared.shape.Shape.TheVariants as shape
use Rattle.epl_values.specs.declared.shape.Shape.TheOpen as shape_layer
use Rattle.epl_values.specs.declared.shape.Shape.TheViews.{roll-Shape, roll-out-Shape}
use Rattle.typed_program.specs.declared.expression.TypedNode.TheFolds.{fold_out-TypedExpr}
use Rattle.typed_program.specs.declared.statement.Stmt.TheVariants as made
use Rattle.typed_program.specs.declared.statement.Stmt.TheOpen as layer
use Rattle.typed_program.specs.Expressions.{Node, Step, Linked, has}
use Rattle.typed_program.specs.Shapes.{item_of, item_layer, is_sequence}
use Rattle.typed_program.specs.Statements.{item_is, loops, site_so}
use Rattle.type_table.specs.declared.scope.SeenKind.TheVariants as kind
use Rattle.stmt_check.specs.Bodies.{name_read}
use Rattle.stmt_check.specs.Statements.{Part, is_listener, element_of, element_layer}
use Rattle.stmt_check.specs.Steps.{◌>>=◌, pure, given, looks, tells}
use Rattle.program_laws.proofs.Exprs.Accepted.{has_exact}
use Rattle.program_laws.proofs.Exprs.Alike.{same_self}
use Rattle.program_laws.proofs.Exprs.Standing.{boolean_stands}
use Rattle.program_laws.proofs.Shapes.Callbacks.{Opened, callback_claim}
use Rattle.program_laws.proofs.Shapes.Forms.{Good, Free, within_first, within_second, of_local, of_loop, is_at, type_claim, target_known}
use Rattle.program_laws.proofs.Shapes.Frames.{Frame, Claim, names_of, body_of, claim_bind, claim_pure, claim_as, claim_looks, claim_tells}
use Rattle.program_laws.proofs.Shapes.Lists.{both_true, no_both, no_when}
use Rattle.program_laws.proofs.Shapes.Locals.{Sound, local_claim, name_claim, scoped_claim, each_claim, optional_claim}
use Rattle.program_laws.proofs.Shapes.Made.{holds_as, rows_hold, listener_is}
use Rattle.program_laws.proofs.Shapes.Parts.{PartSo, OnSo, Listens}
use Rattle.program_laws.proofs.Shapes.Reading.{Fitting, Within, known_at, reads_claim, place_claim}
use Rattle.program_laws.proofs.Shapes.Rules.{Rules, PlaceAnswers, TermAnswers}
use Rattle.program_laws.proofs.Shapes.Types.{stands_sequence}

-- ---- what a loop goes over

-- the shape of an expression that holds is there
pub holds_stand : (names : Names) (e : TypedExpr) → holds names e ≡ true → may_stand names.types (shape_of e) ≡ true
holds_stand names e h = (and_parts (may_stand names.types (shape_of e)) _ (sym (ap (λ (c : Checked). c.holds) (fold_out-TypedExpr Node Step Paired Checked Linked Stepping (node_so names) (step_so names.types) entry_so (expr_so names) link_so suffix_so e)) ∙ h)).0

-- the elements of a sequence
record Elements (types : List EventShape) (s : Option Shape) : Type 0 where
  item : Shape
  element : element_of s ≡ Some item
  stands : stands types item ≡ true
  is : if_known (λ t. if_known (same item) (item_of t)) s ≡ true

elements_layer : (types : List EventShape) (t : Shape) (d : Shape-F Shape) → out-Shape t ≡ d → is_sequence_layer d ≡ true → stands types t ≡ true → Elements types (Some t)
unfolding element_of item_of
elements_layer types t (shape_layer.Sequence item) is h stand =
    let whole : t ≡ shape.Sequence item = sym (roll-out-Shape t) ∙ ap roll-Shape is ∙ shape.rolls-Sequence item in
    record {
      item = item;
      element = ap element_layer is;
      stands = sym (stands_sequence types item) ∙ ap (stands types) (sym whole) ∙ stand;
      is = ap (λ (d : Shape-F Shape). if_known (same item) (item_layer d)) is ∙ same_self item;
    }
elements_layer types t shape_layer.Integer is h stand = cc
elements_layer types t shape_layer.Boolean is h stand = cc
elements_layer types t shape_layer.Text is h stand = cc
elements_layer types t (shape_layer.Dictionary key value) is h stand = cc
elements_layer types t (shape_layer.Event n) is h stand = cc
elements_layer types t shape_layer.Context is h stand = cc
elements_layer types t shape_layer.Listener is h stand = cc

elements_of : (types : List EventShape) (s : Option Shape) → wished Sequence s ≡ true → may_stand types s ≡ true → Elements types s
unfolding is_sequence
elements_of types None h stand = cc
elements_of types (Some t) h stand = elements_layer types t (out-Shape t) refl (and_parts (is_sequence t) true h).0 stand

-- ---- an `if` that is made

if_made : (b : Body) (test : TypedExpr) (part : Stmt) (other : Option Stmt) → has b.names shape.Boolean test ≡ true → stmt_holds b part ≡ true → IfSome other (λ x. stmt_holds b x ≡ true) → stmt_holds b (made.If test part other) ≡ true
if_made b test part None h k o = holds_as b (layer.If test part None) _ (made.rolls-If test part None) (both_true (both_true h k) refl)
if_made b test part (Some x) h k o = holds_as b (layer.If test part (Some x)) _ (made.rolls-If test part (Some x)) (both_true (both_true h k) o)

-- ---- codes of a listener

items_of : (names : Names) (items : TypedExpr) → answers names Sequence items ≡ true → Elements names.types (shape_of items)
items_of names items h =
    let p = and_parts (holds names items) (wished Sequence (shape_of items)) h in
    elements_of names.types (shape_of items) p.1 (holds_stand names items p.0)

-- the variable of a loop has the shape of the elements
pub items_sound : (names : Names) (items : TypedExpr) → answers names Sequence items ≡ true → Sound names.types (element_of (shape_of items))
items_sound names items h =
    let e = items_of names items h in
    record { known = e.element ∙ ap (λ (s : Option Shape). Some (known_shape s)) (sym e.element); stands = ap (λ (s : Option Shape). stands names.types (known_shape s)) e.element ∙ e.stands }

few_numbers : (a b : ℕ) → (nat_le 65535 a || nat_le 65000 b) ≡ false → (a < 65535) × (b < 65000)
few_numbers a b h = let p = or_parts (nat_le 65535 a) (nat_le 65000 b) h in (leb-false 65535 a p.0, leb-false 65000 b p.1)

pub in_loop_fits : (f : Frame) (around : Around) → Fitting f around → Fitting f (in_loop around)
in_loop_fits f around fitting = record { world = fitting.world; callbacks = fitting.callbacks; result = fitting.result; stands = fitting.stands }

module _ (f : Frame) (around : Around) (fitting : Fitting f around) where
  part_claim : {k : ℕ} {H : List Shape → Type 0} (p : Part) → PartSo p → Within p.names f.named → (s : State) → Claim f k k H (Good f) s (p.reads around s)
  part_claim {k} p so within s = claim_as f (λ all h. tt) (λ all h q. q) (so f around fitting within k s)

  rows_so : (k : ℕ) (H : List Shape → Type 0) (parts : List Part) → AllByRecursion PartSo parts → Within (any_of (map (λ p. p.names) parts)) f.named → AllByRecursion (λ m. (s : State) → Claim f k k H (Good f) s (m s)) (map (λ p. p.reads around) parts)
  rows_so k H [] so within = tt
  rows_so k H (p ∷ parts) so within = ((λ s. part_claim p so.0 (within_first p.names (any_of (map (λ p. p.names) parts)) within) s), rows_so k H parts so.1 (within_second p.names (any_of (map (λ p. p.names) parts)) within))

  row_claim : {k : ℕ} {H : List Shape → Type 0} (parts : List Part) → AllByRecursion PartSo parts → Within (any_of (map (λ p. p.names) parts)) f.named → (s : State) → Claim f k k H (λ all xs. AllByRecursion (Good f all) xs) s (row_read around parts s)
  row_claim {k} {H} parts so within s = each_claim f k H (Good f) (map (λ p. p.reads around) parts) (rows_so k H parts so within) s

  other_so : (k : ℕ) (H : List Shape → Type 0) (other : Option Part) → IfSome other PartSo → Within (if_any (option_map (λ p. p.names) other)) f.named → IfSome (option_map (λ p. scoped (p.reads around)) other) (λ m. (s : State) → Claim f k k H (Good f) s (m s))
  other_so k H None so within = tt
  other_so k H (Some p) so within = λ s. scoped_claim f (p.reads around) s (part_claim p so within s)

  other_claim : {k : ℕ} {H : List Shape → Type 0} (other : Option Part) → IfSome other PartSo → Within (if_any (option_map (λ p. p.names) other)) f.named → (s : State) → Claim f k k H (λ all o. IfSome o (Good f all)) s (other_read around other s)
  other_claim {k} {H} other so within s = claim_as f (λ all h. h) (λ all h q. q.0) (optional_claim f k H (Good f) (option_map (λ p. scoped (p.reads around)) other) (other_so k H other so within) s)

  listener_claim : {k : ℕ} {H : List Shape → Type 0} (on : OnPart) (takes : Bool) → OnSo on → Within on.names f.named → (s : State) → Claim f k k H (Listens f takes) s (on.reads around takes s)
  listener_claim {k} on takes so within s = claim_as f (λ all h. tt) (λ all h q. q) (so f around fitting within takes k s)

  pub block_claim : {k : ℕ} (parts : List Part) → AllByRecursion PartSo parts → Within (any_of (map (λ p. p.names) parts)) f.named → (s : State) → Claim f k k Free (Good f) s (block_read around parts s)
  block_claim parts so within s = claim_bind f (scoped (row_read around parts)) (λ parts. pure (made.Block parts)) s
      (scoped_claim f (row_read around parts) s (row_claim parts so within s))
      (claim_pure f _ _ (λ all h. holds_as (body_of f all) (layer.Block _) _ (made.rolls-Block _) (rows_hold (body_of f all) _ h.1)))

  pub on_claim : {k : ℕ} (on : OnPart) → OnSo on → Within on.names f.named → (s : State) → Claim f k k Free (Good f) s (on_read around on s)
  on_claim on so within s = claim_bind f (on.reads around true) (λ site. pure (made.On site)) s
      (listener_claim on true so within s)
      (claim_pure f _ _ (λ all h. holds_as (body_of f all) (layer.On _) _ (made.rolls-On _) h.1.0))

  listener_at : (all : List Shape) (s : Shape) (n site : ℕ) → slice_get all n ≡ Some s → Listens f (takes_listener (Some s)) all site → (is_local (body_of f all) shape.Listener n && site_so (body_of f all) site) ≡ true
  listener_at all s n site at on = both_true (is_at (body_of f all) shape.Listener n (at ∙ ap Some (listener_is s on.1))) on.0

  pub declare_on_claim : {k : ℕ} (type : TypeExpr) (name : Name) (on : OnPart) (rules : Rules) → OnSo on → Within on.names f.named → (s : State) → Claim f k k Free (Good f) s (declare_on_read around type name on s)
  declare_on_claim type name on rules so within s = claim_bind f (given (type_found around.table type)) (λ shape. name_read name >>= λ _. on.reads around (takes_listener (Some shape)) >>= λ site. local_read kind.Local name.text (Some shape) >>= λ number. pure (made.DeclareOn number site)) s
      (type_claim rules f around fitting type s)
      (claim_bind f (name_read name) (λ _. on.reads around (takes_listener (Some _)) >>= λ site. local_read kind.Local name.text (Some _) >>= λ number. pure (made.DeclareOn number site)) _
      (name_claim f name _)
      (claim_bind f (on.reads around (takes_listener (Some _))) (λ site. local_read kind.Local name.text (Some _) >>= λ number. pure (made.DeclareOn number site)) _
      (listener_claim on (takes_listener (Some _)) so within _)
      (claim_bind f (local_read kind.Local name.text (Some _)) (λ number. pure (made.DeclareOn number _)) _
      (local_claim f kind.Local of_local name.text (Some _) _ (λ all h. h.0.0.1))
      (claim_pure f _ _ (λ all h. holds_as (body_of f all) (layer.DeclareOn _ _) _ (made.rolls-DeclareOn _ _) (listener_at all _ _ _ h.1 h.0.1))))))

-- a listener whose codes and event expression have no fault
pub opened : (f : Frame) (around : Around) → Fitting f around → (all : List Shape) (takes : Bool) (event : EventExpr) (term : TypedTerm) (s : State) → on_codes around takes s ≡ [] → TermAnswers (names_of f all) (bound_in around.table s.scope event) term → Opened f around event term s all
opened f around fitting all takes event term s codes answers =
    let split = no_both (when (not takes) 9) (when (nat_le 65535 (around.bodies + around.callbacks + length s.sites) || nat_le 65000 (length s.scope.names)) 4) codes in
    let few = few_numbers (around.bodies + around.callbacks + length s.sites) (length s.scope.names) (no_when _ 4 split.1) in
    let c = fitting.callbacks in
    let a = few.0 in
    let b = few.1 in
    record { number = omega (arith, a, c); names = omega (arith, b); answers = answers }

module _ (rules : Rules) (f : Frame) (around : Around) (fitting : Fitting f around) where
  assigned_on : (all : List Shape) (to : Target) (site : ℕ) → PlaceAnswers (names_of f all) to → Listens f (takes_listener (target_shape to)) all site → (same to.place.shape shape.Listener ≡ true) × (site_so (body_of f all) site ≡ true)
  assigned_on all to site h on =
      let listener : is_listener to.place.shape ≡ true = ap takes_listener (sym (target_known rules f around fitting to h.known)) ∙ on.1 in
      (ap (λ (s : Shape). same s shape.Listener) (listener_is to.place.shape listener) ∙ same_self shape.Listener, on.0)

  pub assign_on_claim : {k : ℕ} (place : Place) (on : OnPart) → OnSo on → Within (either (place_names place) on.names) f.named → (s : State) → Claim f k k Free (Good f) s (assign_on_read around place on s)
  assign_on_claim place on so within s =
      let to : Target = (looks {S = State} {A = Target} (λ s. place_found around.table s.scope place) s).part.part in
      claim_bind f (looks (λ s. place_found around.table s.scope place)) (λ to. on.reads around (takes_listener (target_shape to)) >>= λ site. pure (made.AssignOn to.place site)) s
      (place_claim rules f around fitting place (within_first (place_names place) on.names within) s)
      (claim_bind f (on.reads around (takes_listener (target_shape to))) (λ site. pure (made.AssignOn to.place site)) _
      (listener_claim f around fitting on (takes_listener (target_shape to)) so (within_second (place_names place) on.names within) _)
      (claim_pure f _ _ (λ all h. holds_as (body_of f all) (layer.AssignOn to.place _) _ (made.rolls-AssignOn to.place _)
      (let p = assigned_on all to _ h.0.1 h.1 in both_true (both_true h.0.1.leads p.0) p.1))))

  pub if_claim : {k : ℕ} (test : Expr) (part : Part) (other : Option Part) → PartSo part → IfSome other PartSo → Within (either (expr_names test) (either part.names (if_any (option_map (λ p. p.names) other)))) f.named → (s : State) → Claim f k k Free (Good f) s (if_read around test part other s)
  if_claim test part other so others within s =
      let rest = within_second (expr_names test) (either part.names (if_any (option_map (λ p. p.names) other))) within in
      claim_bind f (reads around.table (exactly shape.Boolean) test) (λ test. scoped (part.reads around) >>= λ part. other_read around other >>= λ other. pure (made.If test part other)) s
      (reads_claim rules f around fitting (exactly shape.Boolean) test (within_first (expr_names test) (either part.names (if_any (option_map (λ p. p.names) other))) within) s (λ all h. boolean_stands f.program.types))
      (claim_bind f (scoped (part.reads around)) (λ part. other_read around other >>= λ other. pure (made.If _ part other)) _
      (scoped_claim f (part.reads around) _ (part_claim f around fitting part so (within_first part.names (if_any (option_map (λ p. p.names) other)) rest) _))
      (claim_bind f (other_read around other) (λ other. pure (made.If _ _ other)) _
      (other_claim f around fitting other others (within_second part.names (if_any (option_map (λ p. p.names) other)) rest) _)
      (claim_pure f _ _ (λ all h. if_made (body_of f all) _ _ _ (has_exact (names_of f all) shape.Boolean _ h.0.0.1) h.0.1 h.1))))

  pub while_claim : {k : ℕ} (test : Expr) (parts : List Part) → AllByRecursion PartSo parts → Within (either (expr_names test) (any_of (map (λ p. p.names) parts))) f.named → (s : State) → Claim f k k Free (Good f) s (while_read around test parts s)
  while_claim test parts so within s = claim_bind f (reads around.table (exactly shape.Boolean) test) (λ test. scoped (row_read (in_loop around) parts) >>= λ parts. pure (made.While test parts)) s
      (reads_claim rules f around fitting (exactly shape.Boolean) test (within_first (expr_names test) (any_of (map (λ p. p.names) parts)) within) s (λ all h. boolean_stands f.program.types))
      (claim_bind f (scoped (row_read (in_loop around) parts)) (λ parts. pure (made.While _ parts)) _
      (scoped_claim f (row_read (in_loop around) parts) _ (row_claim f (in_loop around) (in_loop_fits f around fitting) parts so (within_second (expr_names test) (any_of (map (λ p. p.names) parts)) within) _))
      (claim_pure f _ _ (λ all h. holds_as (body_of f all) (layer.While _ _) _ (made.rolls-While _ _) (both_true (has_exact (names_of f all) shape.Boolean _ h.0.1) (rows_hold (body_of f all) _ h.1)))))

  -- ---- loops over a sequence

  loops_so : (all : List Shape) (n : ℕ) (items : TypedExpr) → answers (names_of f all) Sequence items ≡ true → slice_get all n ≡ Some (known_shape (element_of (shape_of items))) → loops (body_of f all) n items ≡ true
  loops_so all n items h at =
      let p = and_parts (holds (names_of f all) items) (wished Sequence (shape_of items)) h in
      let e = items_of (names_of f all) items h in
      ap (if_known (λ s. passes (body_of f all) (item_is (body_of f all) s) items)) (at ∙ ap (λ (s : Option Shape). Some (known_shape s)) e.element)
      ∙ both_true p.0 e.is

  turn_claim : {k : ℕ} {H : List Shape → Type 0} (name : Name) (items : TypedExpr) (parts : List Part) → AllByRecursion PartSo parts → Within (any_of (map (λ p. p.names) parts)) f.named → (s : State) → ((all : List Shape) → H all → answers (names_of f all) Sequence items ≡ true) → Claim f (suc k) k H (Good f) s (turn_read around name items parts s)
  turn_claim name items parts so within s g = claim_bind f (local_read kind.Loop name.text (element_of (shape_of items))) (λ number. row_read (in_loop around) parts >>= λ parts. pure (made.For number items parts)) s
      (local_claim f kind.Loop of_loop name.text (element_of (shape_of items)) s (λ all h. items_sound (names_of f all) items (g all h)))
      (claim_bind f (row_read (in_loop around) parts) (λ parts. pure (made.For _ items parts)) _
      (row_claim f (in_loop around) (in_loop_fits f around fitting) parts so within _)
      (claim_pure f _ _ (λ all h. holds_as (body_of f all) (layer.For _ items _) _ (made.rolls-For _ items _) (both_true (loops_so all _ items (g all h.0.0) h.0.1) (rows_hold (body_of f all) _ h.1)))))

  pub for_claim : {k : ℕ} (name : Name) (items : Expr) (parts : List Part) → AllByRecursion PartSo parts → Within (either (expr_names items) (any_of (map (λ p. p.names) parts))) f.named → (s : State) → Claim f k k Free (Good f) s (for_read around name items parts s)
  for_claim name items parts so within s = claim_bind f (name_read name) (λ _. reads around.table (asked Sequence true) items >>= λ items. scoped (turn_read around name items parts)) s
      (name_claim f name s)
      (claim_bind f (reads around.table (asked Sequence true) items) (λ items. scoped (turn_read around name items parts)) _
      (reads_claim rules f around fitting (asked Sequence true) items (within_first (expr_names items) (any_of (map (λ p. p.names) parts)) within) _ (λ all h. refl))
      (scoped_claim f (turn_read around name _ parts) _ (turn_claim name _ parts so (within_second (expr_names items) (any_of (map (λ p. p.names) parts)) within) _ (λ all h. h.1))))

  -- ---- listeners

  pub listen_claim : {k : ℕ} (takes : Bool) (spot : Spot) (event : EventExpr) (callback : Part) → PartSo callback → Within (either (event_names event) callback.names) f.named → (s : State) → Claim f k k Free (Listens f takes) s (listen_read around takes spot event callback s)
  unfolding tells looks
  listen_claim {k} takes spot event callback so within s = claim_bind f (tells spot (on_codes around takes)) (λ _. looks (λ s. term_found around.table s.scope event) >>= λ term. callback_read around event callback term) s
      (claim_tells f spot (on_codes around takes) s)
      (claim_bind f (looks (λ s. term_found around.table s.scope event)) (λ term. callback_read around event callback term) s
      (claim_looks f {Q = λ all x. TermAnswers (names_of f all) (bound_in around.table s.scope event) x} (λ s. term_found around.table s.scope event) s (λ all h none before.
      rules.terms around.table (names_of f all) s.scope event (known_at f around fitting k all s before (event_names event) (within_first (event_names event) callback.names within)) none))
      (claim_as f (λ all h. h) (λ all h q. (q, not-false takes (no_when (not takes) 9 (no_both (when (not takes) 9) _ h.0.1).0)))
      (callback_claim rules f around fitting event callback so (within_second (event_names event) callback.names within) _ s (λ all h. opened f around fitting all takes event _ s h.0.1 h.1))))
