-- Statements with listeners, where each listener keeps the rules.
use Rattle.std.proofs.Common.{◌≡◌}
use Rattle.program_laws.proofs.Common.{ℕ, List, [], Some, Bool, true, Spot, Shape, EventExpr, Name, Place, TypeExpr, TypedTerm, all_mention, Visible, type_found, Target, place_found, term_found, Mentioned, State, Around, bound_in, local_read, place_names, event_names, either, OnPart, on_codes, on_read, declare_on_read, assign_on_read, listen_read, callback_read, takes_listener, target_shape}
use Rattle.typed_program.specs.declared.statement.Stmt.TheVariants as made
use Rattle.typed_program.specs.declared.statement.Stmt.TheOpen as layer
use Rattle.type_table.specs.declared.scope.SeenKind.TheVariants as kind
use Rattle.stmt_check.specs.Bodies.{name_read}
use Rattle.stmt_check.specs.Statements.{Part}
use Rattle.stmt_check.specs.Steps.{◌>>=◌, pure, given, looks, tells}
use Rattle.program_laws.proofs.Lawful.Rules.{LawRules, TermLawful}
use Rattle.program_laws.proofs.Rules.Callbacks.{callback_law}
use Rattle.program_laws.proofs.Rules.Claims.{Claims, law_bind, law_pure, law_as, law_tells, law_looks}
use Rattle.program_laws.proofs.Rules.Locals.{type_law, name_law, local_law, unseen_at}
use Rattle.program_laws.proofs.Rules.Parts.{PartKeeps, OnKeeps, Hears}
use Rattle.program_laws.proofs.Rules.Readings.{Keeps, kept_as, place_law, mentioned_either, mentioned_still}
use Rattle.program_laws.proofs.Rules.Sights.{Law, Sees, sight_in, still_on, still_sees, still_behind, behind_on, sees_named, known_table, known_named, keeps_special}
use Rattle.program_laws.proofs.Shapes.Compounds.{opened}
use Rattle.program_laws.proofs.Shapes.Forms.{within_first, within_second, of_local}
use Rattle.program_laws.proofs.Shapes.Frames.{Frame, names_of}
use Rattle.program_laws.proofs.Shapes.Lists.{both_true}
use Rattle.program_laws.proofs.Shapes.Parts.{PartSo}
use Rattle.program_laws.proofs.Shapes.Reading.{Fitting, Within, known_at}
use Rattle.program_laws.proofs.Shapes.Rules.{Rules, TermAnswers}

-- an event expression that was read
record TermRead (f : Frame) (around : Around) (event : EventExpr) (v : List Visible) (s : State) (all : List Shape) (term : TypedTerm) : Type 0 where
  answers : TermAnswers (names_of f all) (bound_in around.table s.scope event) term
  lawful : TermLawful (names_of f all) (sight_in f v) term
  mentioned : Mentioned s.scope (event_names event) (all_mention term.operands)

module _ (rules : LawRules) (shapes : Rules) (f : Frame) (around : Around) (fitting : Fitting f around) (law : Law f around.table) where
  -- a listener keeps the rules where its callback does
  pub listen_law : {k : ℕ} (takes : Bool) (spot : Spot) (event : EventExpr) (callback : Part) → PartSo callback → PartKeeps callback → Within (either (event_names event) callback.names) f.named → (v : List Shape → List Visible) (s : State) → Claims f k k (λ all. Sees f law.low (v all) s) (Hears f around law (either (event_names event) callback.names) v s) s (listen_read around takes spot event callback s)
  unfolding tells looks
  listen_law {k} takes spot event callback so keeps within v s = law_bind f (tells spot (on_codes around takes)) (λ _. looks (λ s. term_found around.table s.scope event) >>= λ term. callback_read around event callback term) s
      (law_tells f {Q = λ all x t. on_codes around takes s ≡ []} spot (on_codes around takes) s (λ all h codes. codes))
      (law_bind f (looks (λ s. term_found around.table s.scope event)) (λ term. callback_read around event callback term) s
      (law_looks f {Q = λ all x t. TermRead f around event (v all) s all x} (λ s. term_found around.table s.scope event) s (λ all h none before.
      let within_event = within_first (event_names event) callback.names within in
      record {
        answers = shapes.terms around.table (names_of f all) s.scope event (known_at f around fitting k all s before (event_names event) within_event) none;
        lawful = rules.terms around.table (names_of f all) (sight_in f (v all)) s.scope event (known_table f around fitting k all s before) (known_named f around fitting k all s before (event_names event) within_event) (sees_named (event_names event) within_event h.0) (keeps_special f around.table law k all s before) none;
        mentioned = rules.terms_mention around.table s.scope event none;
      }))
      (callback_law shapes f around fitting law event callback so keeps (within_second (event_names event) callback.names within) _ v s
      (λ all h. opened f around fitting all takes event _ s h.0.1 h.1.answers)
      (λ all h. h.0.0)
      (λ all h. h.1.lawful)
      (λ all h. h.1.mentioned)))

  listener_law : {k : ℕ} (H : List Shape → Type 0) (on : OnPart) (takes : Bool) → OnKeeps on → Within on.names f.named → (v : List Shape → List Visible) (s : State) → ((all : List Shape) → H all → Sees f law.low (v all) s) → Claims f k k H (Hears f around law on.names v s) s (on.reads around takes s)
  listener_law {k} H on takes keeps within v s g = law_as f g (λ all h q. q) (keeps f around fitting within law takes k v s)

  -- a listener of its own
  pub on_law : {k : ℕ} (on : OnPart) → OnKeeps on → Within on.names f.named → (v : List Shape → List Visible) (s : State) → Claims f k k (λ all. Sees f law.low (v all) s) (Keeps f around law on.names v s) s (on_read around on s)
  on_law on keeps within v s = law_bind f (on.reads around true) (λ site. pure (made.On site)) s
      (listener_law _ on true keeps within v s (λ all h. h))
      (law_pure f _ _ (λ all h. kept_as f around law on.names v s _ all (layer.On _) _ (made.rolls-On _) (record { lawful = h.1.fine; behind = still_behind h.0 h.1.still; mentioned = h.1.mentioned })))

  -- a listener and its name
  pub declare_on_law : {k : ℕ} (type : TypeExpr) (name : Name) (on : OnPart) → OnKeeps on → Within on.names f.named → (v : List Shape → List Visible) (s : State) → Claims f k k (λ all. Sees f law.low (v all) s) (Keeps f around law on.names v s) s (declare_on_read around type name on s)
  declare_on_law type name on keeps within v s = law_bind f (given (type_found around.table type)) (λ shape. name_read name >>= λ _. on.reads around (takes_listener (Some shape)) >>= λ site. local_read kind.Local name.text (Some shape) >>= λ number. pure (made.DeclareOn number site)) s
      (type_law rules f around fitting law type s)
      (law_bind f (name_read name) (λ _. on.reads around (takes_listener (Some _)) >>= λ site. local_read kind.Local name.text (Some _) >>= λ number. pure (made.DeclareOn number site)) _
      (name_law f name _)
      (law_bind f (on.reads around (takes_listener (Some _))) (λ site. local_read kind.Local name.text (Some _) >>= λ number. pure (made.DeclareOn number site)) _
      (listener_law _ on (takes_listener (Some _)) keeps within v _ (λ all h. still_sees h.0.0 (still_on h.0.1.1 h.1.still)))
      (law_bind f (local_read kind.Local name.text (Some _)) (λ number. pure (made.DeclareOn number _)) _
      (local_law f kind.Local of_local name.text (Some _) law.low v _ (λ all h. h.0.0.1.0) (λ all h. still_sees h.0.0.0 (still_on (still_on h.0.0.1.1 h.0.1.still) h.1.still)) (λ all h. unseen_at _ _ name.text (still_on h.0.1.still h.1.still) h.0.1.free))
      (law_pure f _ _ (λ all h. kept_as f around law on.names v s _ all (layer.DeclareOn _ _) _ (made.rolls-DeclareOn _ _) (record {
        lawful = h.0.1.fine;
        behind = behind_on (still_behind h.0.0.0.0 (still_on (still_on h.0.0.0.1.1 h.0.0.1.still) h.0.1.still)) h.1;
        mentioned = mentioned_still s _ on.names _ (still_on h.0.0.0.1.1 h.0.0.1.still) h.0.1.mentioned;
      }))))))

  -- a listener that is assigned
  pub assign_on_law : {k : ℕ} (place : Place) (on : OnPart) → OnKeeps on → Within (either (place_names place) on.names) f.named → (v : List Shape → List Visible) (s : State) → Claims f k k (λ all. Sees f law.low (v all) s) (Keeps f around law (either (place_names place) on.names) v s) s (assign_on_read around place on s)
  assign_on_law place on keeps within v s =
      let to : Target = (looks {S = State} {A = Target} (λ s. place_found around.table s.scope place) s).part.part in
      law_bind f (looks (λ s. place_found around.table s.scope place)) (λ to. on.reads around (takes_listener (target_shape to)) >>= λ site. pure (made.AssignOn to.place site)) s
      (place_law rules f around fitting law place (within_first (place_names place) on.names within) v s (λ all h. h))
      (law_bind f (on.reads around (takes_listener (target_shape to))) (λ site. pure (made.AssignOn to.place site)) _
      (listener_law _ on (takes_listener (target_shape to)) keeps (within_second (place_names place) on.names within) v _ (λ all h. still_sees h.0 h.1.still))
      (law_pure f _ _ (λ all h. kept_as f around law (either (place_names place) on.names) v s _ all (layer.AssignOn to.place _) _ (made.rolls-AssignOn to.place _) (record {
        lawful = both_true h.0.1.fine h.1.fine;
        behind = still_behind h.0.0 (still_on h.0.1.still h.1.still);
        mentioned = mentioned_either s.scope (place_names place) on.names _ _ h.0.1.mentioned (mentioned_still s _ on.names _ h.0.1.still h.1.mentioned);
      }))))
