-- `for`: its variable is visible in the turns alone, and is one that holds what isn't changed.
use Rattle.std.proofs.Common.{◌≡◌}
use Rattle.program_laws.proofs.Common.{ℕ, suc, map, List, Bool, true, false, refl, sym, subst, AllByRecursion, list_any, Shape, Expr, Name, TypedExpr, Reading, shape_of, Mention, mentions, Held, Visible, path_of, Sequence, Mentioned, State, Around, in_loop, local_read, scoped, left, expr_names, either, any_of, asked, reads, row_read, for_read, turn_read}
use Rattle.typed_program.specs.declared.statement.Stmt.TheVariants as made
use Rattle.typed_program.specs.declared.statement.Stmt.TheOpen as layer
use Rattle.typed_program.specs.Courses.{with_local as with_visible}
use Rattle.type_table.specs.declared.scope.SeenKind.TheVariants as kind
use Rattle.stmt_check.specs.Bodies.{name_read}
use Rattle.stmt_check.specs.Captures.{Names as Named}
use Rattle.stmt_check.specs.Statements.{Part, element_of}
use Rattle.stmt_check.specs.Steps.{◌>>=◌, pure, looks}
use Rattle.program_laws.proofs.Lawful.Rules.{LawRules}
use Rattle.program_laws.proofs.Rules.Claims.{Claims, claims_of, law_bind, law_pure, law_scoped, law_both}
use Rattle.program_laws.proofs.Rules.Compounds.{rows_law, mentioned_behind}
use Rattle.program_laws.proofs.Rules.Locals.{name_law, local_law, unseen_at}
use Rattle.program_laws.proofs.Rules.Lookups.{is_called}
use Rattle.program_laws.proofs.Rules.Parts.{PartKeeps}
use Rattle.program_laws.proofs.Rules.Readings.{Keeps, made_as, reads_law, mentioned_either, mentioned_still}
use Rattle.program_laws.proofs.Rules.Sights.{Law, Sees, Still, Behind, Kept, reading, mentions_in, sight_in, still_on, still_sees, still_behind, behind_on, left_behind}
use Rattle.program_laws.proofs.Shapes.Compounds.{in_loop_fits, items_sound}
use Rattle.program_laws.proofs.Shapes.Forms.{within_first, within_second, of_loop}
use Rattle.program_laws.proofs.Shapes.Frames.{Frame, names_of}
use Rattle.program_laws.proofs.Shapes.Lists.{both_true}
use Rattle.program_laws.proofs.Shapes.Locals.{Sound}
use Rattle.program_laws.proofs.Shapes.Reading.{Fitting, Within, reads_claim}
use Rattle.program_laws.proofs.Shapes.Rules.{Rules}

-- ---- the turns

-- what holds of a loop before its variable is gone
record Turned (f : Frame) (low : ℕ) (looped : Bool) (named : Named) (v : List Visible) (s u t : State) (r : Reading) (m : Mention) : Type 0 where
  lawful : (r v looped).lawful ≡ true
  same : (r v looped).visible ≡ v
  inside : List Visible
  behind : Behind f low u t inside
  mentioned : Mentioned s.scope named m

module _ (rules : LawRules) (shapes : Rules) (f : Frame) (around : Around) (fitting : Fitting f around) (law : Law f around.table) where
  abbrev Row : List Part → Named
  Row parts = any_of (map (λ p. p.names) parts)

  turn_law : {k : ℕ} (H : List Shape → Type 0) (name : Name) (text : Expr) (items : TypedExpr) (parts : List Part) → AllByRecursion PartKeeps parts → Within (Row parts) f.named → (v : List Shape → List Visible) (s u : State)
      → ((all : List Shape) → H all → Sound f.program.types (element_of (shape_of items)))
      → ((all : List Shape) → H all → Sees f law.low (v all) u)
      → ((all : List Shape) → H all → list_any (is_called name.text) u.scope.names ≡ false)
      → ((all : List Shape) → H all → (path_of (sight_in f (v all)) items).lawful ≡ true)
      → ((all : List Shape) → H all → Mentioned s.scope (expr_names text) (mentions items))
      → ((all : List Shape) → H all → Still s u)
      → Claims f (suc k) k H (λ all x t. Turned f law.low around.looped (either (expr_names text) (Row parts)) (v all) s u t (reading f law.low all x) (mentions_in f x)) u (turn_read around name items parts u)
  turn_law H name text items parts keeps within v s u sound sees free fine told still = law_bind f (local_read kind.Loop name.text (element_of (shape_of items))) (λ number. row_read (in_loop around) parts >>= λ parts. pure (made.For number items parts)) u
      (local_law f kind.Loop of_loop name.text (element_of (shape_of items)) law.low v u sound sees free)
      (law_bind f (row_read (in_loop around) parts) (λ parts. pure (made.For _ items parts)) _
      (rows_law f (in_loop around) (in_loop_fits f around fitting) law _ parts keeps within (λ all. with_visible _ Held (v all)) _ (λ all h. h.1.sees))
      (law_pure f _ _ (λ all h. made_as f law.low all (Turned f law.low around.looped (either (expr_names text) (Row parts)) (v all) s u _) (layer.For _ items _) _ (made.rolls-For _ items _) (record {
        lawful = both_true (fine all h.0.0) h.1.lawful;
        same = refl;
        inside = _;
        behind = behind_on h.0.1 h.1.behind;
        mentioned = mentioned_either s.scope (expr_names text) (Row parts) _ _ (told all h.0.0) (mentioned_still s u (Row parts) _ (still all h.0.0) (mentioned_behind u _ (Row parts) _ h.0.1 h.1.mentioned));
      }))))

  turned_kept : (named : Named) (v : List Visible) (s u t : State) (r : Reading) (m : Mention) → Sees f law.low v s → Still s u → Turned f law.low around.looped named v s u t r m → Kept f law.low around.looped named v s (left u t) r m
  turned_kept named v s u t r m sees still turned = record {
    lawful = turned.lawful;
    behind = subst (λ (w : List Visible). Behind f law.low s (left u t) w) (sym turned.same) (behind_on (still_behind sees still) (left_behind (still_sees sees still) turned.behind));
    mentioned = turned.mentioned;
  }

  -- the variable is visible in the turns, and behind the loop it isn't
  pub for_law : {k : ℕ} (name : Name) (items : Expr) (parts : List Part) → AllByRecursion PartKeeps parts → Within (either (expr_names items) (Row parts)) f.named → (v : List Shape → List Visible) (s : State) → Claims f k k (λ all. Sees f law.low (v all) s) (Keeps f around law (either (expr_names items) (Row parts)) v s) s (for_read around name items parts s)
  unfolding looks
  for_law name items parts keeps within v s = law_bind f (name_read name) (λ _. reads around.table (asked Sequence true) items >>= λ items. scoped (turn_read around name items parts)) s
      (name_law f name s)
      (law_bind f (reads around.table (asked Sequence true) items) (λ items. scoped (turn_read around name items parts)) _
      (law_both f (claims_of refl (reads_claim shapes f around fitting (asked Sequence true) items (within_first (expr_names items) (Row parts) within) _ (λ all h. refl)))
      (reads_law rules f around fitting law (asked Sequence true) items (within_first (expr_names items) (Row parts) within) v _ (λ all h. still_sees h.0 h.1.still)))
      (law_scoped f (turn_read around name _ parts) _
      (turn_law _ name items _ parts keeps (within_second (expr_names items) (Row parts) within) v s _
      (λ all h. items_sound (names_of f all) _ h.1.0)
      (λ all h. still_sees h.0.0 (still_on h.0.1.still h.1.1.still))
      (λ all h. unseen_at _ _ name.text (still_on h.0.1.still h.1.1.still) h.0.1.free)
      (λ all h. h.1.1.fine)
      (λ all h. mentioned_still s _ (expr_names items) _ h.0.1.still h.1.1.mentioned)
      (λ all h. still_on h.0.1.still h.1.1.still))
      (λ all x t h q. turned_kept (either (expr_names items) (Row parts)) (v all) s _ t (reading f law.low all x) (mentions_in f x) h.0.0 (still_on h.0.1.still h.1.1.still) q)))
