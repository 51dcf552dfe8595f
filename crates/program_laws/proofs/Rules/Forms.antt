-- Statements without parts that are statements: where no fault is found, each keeps the rules.
use Rattle.std.proofs.Common.{◌≡◌}
use Rattle.program_laws.proofs.Common.{ℕ, List, [], true, false, not, Option, refl, not-false, Spot, Shape, Expr, Place, Visible, Event, Channel, Statement, like, Target, place_found, State, Around, when, none, expr_names, optional_names, place_names, either, exactly, asked, wanted, for_place, reads, print_read, log_read, route_read, send_read, call_read, assign_read, return_read, jump_read, return_codes, target_shape, maybe_read}
use Rattle.epl_values.specs.declared.shape.Shape.TheVariants as shape
use Rattle.epl_tree.specs.declared.statement.Level.{Level}
use Rattle.typed_program.specs.declared.statement.Stmt.TheVariants as made
use Rattle.typed_program.specs.declared.statement.Stmt.TheOpen as layer
use Rattle.typed_program.specs.Mentions.{none as no_mention}
use Rattle.stmt_check.specs.Steps.{◌>>=◌, pure, looks, tells}
use Rattle.program_laws.proofs.Lawful.Rules.{LawRules}
use Rattle.program_laws.proofs.Rules.Claims.{Claims, law_bind, law_pure, law_tells}
use Rattle.program_laws.proofs.Rules.Readings.{Keeps, kept_as, reads_law, place_law, maybe_law, mentioned_none, mentioned_either, mentioned_still}
use Rattle.program_laws.proofs.Rules.Sights.{Law, Sees, Still, still_same, still_on, still_sees, still_behind}
use Rattle.program_laws.proofs.Shapes.Forms.{within_first, within_second}
use Rattle.program_laws.proofs.Shapes.Frames.{Frame}
use Rattle.program_laws.proofs.Shapes.Lists.{both_true, no_when}
use Rattle.program_laws.proofs.Shapes.Reading.{Fitting, Within}

module _ (rules : LawRules) (f : Frame) (around : Around) (fitting : Fitting f around) (law : Law f around.table) where
  -- what is known where a statement begins
  abbrev Seeing : (List Shape → List Visible) → State → List Shape → Type 0
  Seeing v s all = Sees f law.low (v all) s

  -- the text keeps the rules
  pub print_law : {k : ℕ} (text : Expr) → Within (expr_names text) f.named → (v : List Shape → List Visible) (s : State) → Claims f k k (Seeing v s) (Keeps f around law (expr_names text) v s) s (print_read around.table text s)
  print_law text within v s = law_bind f (reads around.table (exactly shape.Text) text) (λ x. pure (made.Print x)) s
      (reads_law rules f around fitting law (exactly shape.Text) text within v s (λ all h. h))
      (law_pure f _ _ (λ all h. kept_as f around law (expr_names text) v s _ all (layer.Print _) _ (made.rolls-Print _) (record { lawful = h.1.fine; behind = still_behind h.0 h.1.still; mentioned = h.1.mentioned })))

  -- the text keeps the rules
  pub log_law : {k : ℕ} (text : Expr) (level : Level) → Within (expr_names text) f.named → (v : List Shape → List Visible) (s : State) → Claims f k k (Seeing v s) (Keeps f around law (expr_names text) v s) s (log_read around.table text level s)
  log_law text level within v s = law_bind f (reads around.table (exactly shape.Text) text) (λ x. pure (made.Log x level)) s
      (reads_law rules f around fitting law (exactly shape.Text) text within v s (λ all h. h))
      (law_pure f _ _ (λ all h. kept_as f around law (expr_names text) v s _ all (layer.Log _ level) _ (made.rolls-Log _ level) (record { lawful = h.1.fine; behind = still_behind h.0 h.1.still; mentioned = h.1.mentioned })))

  -- the event keeps the rules
  pub route_law : {k : ℕ} (value : Expr) → Within (expr_names value) f.named → (v : List Shape → List Visible) (s : State) → Claims f k k (Seeing v s) (Keeps f around law (expr_names value) v s) s (route_read around.table value s)
  route_law value within v s = law_bind f (reads around.table (asked Event true) value) (λ x. pure (made.Route x)) s
      (reads_law rules f around fitting law (asked Event true) value within v s (λ all h. h))
      (law_pure f _ _ (λ all h. kept_as f around law (expr_names value) v s _ all (layer.Route _) _ (made.rolls-Route _) (record { lawful = h.1.fine; behind = still_behind h.0 h.1.still; mentioned = h.1.mentioned })))

  -- the call keeps the rules
  pub call_law : {k : ℕ} (e : Expr) → Within (expr_names e) f.named → (v : List Shape → List Visible) (s : State) → Claims f k k (Seeing v s) (Keeps f around law (expr_names e) v s) s (call_read around.table e s)
  call_law e within v s = law_bind f (reads around.table (asked Statement false) e) (λ x. pure (made.Call x)) s
      (reads_law rules f around fitting law (asked Statement false) e within v s (λ all h. h))
      (law_pure f _ _ (λ all h. kept_as f around law (expr_names e) v s _ all (layer.Call _) _ (made.rolls-Call _) (record { lawful = h.1.fine; behind = still_behind h.0 h.1.still; mentioned = h.1.mentioned })))

  -- the event and the channel keep the rules
  pub send_law : {k : ℕ} (value to : Expr) → Within (either (expr_names value) (expr_names to)) f.named → (v : List Shape → List Visible) (s : State) → Claims f k k (Seeing v s) (Keeps f around law (either (expr_names value) (expr_names to)) v s) s (send_read around.table value to s)
  send_law value to within v s = law_bind f (reads around.table (asked Event true) value) (λ x. reads around.table (asked Channel false) to >>= λ y. pure (made.Send x y)) s
      (reads_law rules f around fitting law (asked Event true) value (within_first (expr_names value) (expr_names to) within) v s (λ all h. h))
      (law_bind f (reads around.table (asked Channel false) to) (λ y. pure (made.Send _ y)) _
      (reads_law rules f around fitting law (asked Channel false) to (within_second (expr_names value) (expr_names to) within) v _ (λ all h. still_sees h.0 h.1.still))
      (law_pure f _ _ (λ all h. kept_as f around law (either (expr_names value) (expr_names to)) v s _ all (layer.Send _ _) _ (made.rolls-Send _ _) (record {
        lawful = both_true h.0.1.fine h.1.fine;
        behind = still_behind h.0.0 (still_on h.0.1.still h.1.still);
        mentioned = mentioned_either s.scope (expr_names value) (expr_names to) _ _ h.0.1.mentioned (mentioned_still s _ (expr_names to) _ h.0.1.still h.1.mentioned);
      }))))

  -- `die` asks nothing
  pub die_law : {k : ℕ} (v : List Shape → List Visible) (s : State) → Claims f k k (Seeing v s) (Keeps f around law none v s) s (pure made.Die s)
  die_law v s = law_pure f _ _ (λ all h. kept_as f around law none v s s all layer.Die _ made.rolls-Die (record { lawful = refl; behind = still_behind h (still_same s); mentioned = mentioned_none s.scope no_mention }))

  in_loop : when (not around.looped) 15 ≡ [] → around.looped ≡ true
  in_loop h = not-false around.looped (no_when _ 15 h)

  -- `break` stands in a loop
  pub break_law : {k : ℕ} (spot : Spot) (v : List Shape → List Visible) (s : State) → Claims f k k (Seeing v s) (Keeps f around law none v s) s (jump_read around spot made.Break s)
  break_law spot v s = law_bind f (tells spot (λ s. when (not around.looped) 15)) (λ x. pure made.Break) s (law_tells f {Q = λ all x t. (around.looped ≡ true) × Still s t} spot _ s (λ all h codes. (in_loop codes, still_same s)))
      (law_pure f _ _ (λ all h. kept_as f around law none v s _ all layer.Break _ made.rolls-Break (record { lawful = h.1.0; behind = still_behind h.0 h.1.1; mentioned = mentioned_none s.scope no_mention })))

  -- `continue` stands in a loop
  pub continue_law : {k : ℕ} (spot : Spot) (v : List Shape → List Visible) (s : State) → Claims f k k (Seeing v s) (Keeps f around law none v s) s (jump_read around spot made.Continue s)
  continue_law spot v s = law_bind f (tells spot (λ s. when (not around.looped) 15)) (λ x. pure made.Continue) s (law_tells f {Q = λ all x t. (around.looped ≡ true) × Still s t} spot _ s (λ all h codes. (in_loop codes, still_same s)))
      (law_pure f _ _ (λ all h. kept_as f around law none v s _ all layer.Continue _ made.rolls-Continue (record { lawful = h.1.0; behind = still_behind h.0 h.1.1; mentioned = mentioned_none s.scope no_mention })))

  -- what is returned keeps the rules
  pub return_law : {k : ℕ} (spot : Spot) (e : Option Expr) → Within (optional_names e) f.named → (v : List Shape → List Visible) (s : State) → Claims f k k (Seeing v s) (Keeps f around law (optional_names e) v s) s (return_read around spot e s)
  return_law spot e within v s = law_bind f (tells spot (λ s. return_codes around.result e)) (λ _. maybe_read around.table (wanted around.result) e >>= λ value. pure (made.Return value)) s
      (law_tells f {Q = λ all x t. Still s t} spot (λ s. return_codes around.result e) s (λ all h codes. still_same s))
      (law_bind f (maybe_read around.table (wanted around.result) e) (λ value. pure (made.Return value)) _
      (maybe_law rules f around fitting law (like around.result) e within v _ (λ all h. still_sees h.0 h.1))
      (law_pure f _ _ (λ all h. kept_as f around law (optional_names e) v s _ all (layer.Return _) _ (made.rolls-Return _) (record {
        lawful = h.1.fine;
        behind = still_behind h.0.0 (still_on h.0.1 h.1.still);
        mentioned = mentioned_still s _ (optional_names e) _ h.0.1 h.1.mentioned;
      }))))

  -- what is assigned may be changed, and the value keeps the rules
  pub assign_law : {k : ℕ} (place : Place) (value : Expr) → Within (either (place_names place) (expr_names value)) f.named → (v : List Shape → List Visible) (s : State) → Claims f k k (Seeing v s) (Keeps f around law (either (place_names place) (expr_names value)) v s) s (assign_read around.table place value s)
  assign_law place value within v s =
      let to : Target = (looks {S = State} {A = Target} (λ s. place_found around.table s.scope place) s).part.part in
      law_bind f (looks (λ s. place_found around.table s.scope place)) (λ to. reads around.table (for_place (target_shape to)) value >>= λ value. pure (made.Assign to.place value)) s
      (place_law rules f around fitting law place (within_first (place_names place) (expr_names value) within) v s (λ all h. h))
      (law_bind f (reads around.table (for_place (target_shape to)) value) (λ value. pure (made.Assign to.place value)) _
      (reads_law rules f around fitting law (for_place (target_shape to)) value (within_second (place_names place) (expr_names value) within) v _ (λ all h. still_sees h.0 h.1.still))
      (law_pure f _ _ (λ all h. kept_as f around law (either (place_names place) (expr_names value)) v s _ all (layer.Assign to.place _) _ (made.rolls-Assign to.place _) (record {
        lawful = both_true h.0.1.fine h.1.fine;
        behind = still_behind h.0.0 (still_on h.0.1.still h.1.still);
        mentioned = mentioned_either s.scope (place_names place) (expr_names value) _ _ h.0.1.mentioned (mentioned_still s _ (expr_names value) _ h.0.1.still h.1.mentioned);
      }))))
