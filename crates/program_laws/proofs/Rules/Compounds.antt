-- Rows, blocks, `if` and `while`, where each part keeps the rules.
use Rattle.std.proofs.Common.{◌≡◌, ◌∷◌}
use Rattle.program_laws.proofs.Common.{ℕ, map, List, [], Some, None, Bool, true, Option, refl, option_map, IfSome, AllByRecursion, Shape, Expr, TypedExpr, Stmt, Reading, Mention, mentions, Visible, path_of, Mentioned, State, Around, in_loop, scoped, left, expr_names, either, any_of, if_any, exactly, reads, row_read, block_read, other_read, if_read, while_read}
use Rattle.epl_values.specs.declared.shape.Shape.TheVariants as shape
use Rattle.typed_program.specs.declared.statement.Stmt.TheVariants as made
use Rattle.typed_program.specs.declared.statement.Stmt.TheOpen as layer
use Rattle.typed_program.specs.Courses.{row_of, if_there}
use Rattle.typed_program.specs.Mentions.{either as either_mention, any_of as any_mention, if_any as if_mention}
use Rattle.typed_program.specs.Paths.{plain}
use Rattle.stmt_check.specs.Captures.{Names as Named}
use Rattle.stmt_check.specs.Statements.{Part}
use Rattle.stmt_check.specs.Steps.{◌>>=◌, pure, before_all, each}
use Rattle.program_laws.proofs.Lawful.Rules.{LawRules}
use Rattle.program_laws.proofs.Rules.Claims.{Claims, law_bind, law_pure, law_as, law_put, law_scoped, law_none, law_some}
use Rattle.program_laws.proofs.Rules.Parts.{PartKeeps}
use Rattle.program_laws.proofs.Rules.Readings.{Keeps, kept_as, reads_law, mentioned_either, mentioned_still}
use Rattle.program_laws.proofs.Rules.Sights.{Law, Sees, Behind, Kept, reading, mentions_in, sight_in, still_same, still_sees, still_behind, behind_on, left_behind, mentioned_before}
use Rattle.program_laws.proofs.Shapes.Compounds.{in_loop_fits}
use Rattle.program_laws.proofs.Shapes.Forms.{within_first, within_second}
use Rattle.program_laws.proofs.Shapes.Frames.{Frame}
use Rattle.program_laws.proofs.Shapes.Lists.{both_true}
use Rattle.program_laws.proofs.Shapes.Reading.{Fitting, Within}

-- what one behind another mentions
pub mentioned_behind : {f : Frame} {low : ℕ} {w : List Visible} (s t : State) (named : Named) (m : Mention) → Behind f low s t w → Mentioned t.scope named m → Mentioned s.scope named m
mentioned_behind s t named m h k = mentioned_before s t h.more named m h.names k

-- ---- rows

-- what holds of a row
abbrev pub KeepsRow : (f : Frame) (around : Around) → Law f around.table → Named → (List Shape → List Visible) → State → List Shape → List Stmt → State → Type 0
KeepsRow f around law named v s all xs t = Kept f law.low around.looped named (v all) s t (row_of (map (reading f law.low all) xs)) (any_mention (map (mentions_in f) xs))

row_more : (f : Frame) (low : ℕ) (looped : Bool) (one others : Named) (v : List Visible) (s t u : State) (r : Reading) (m : Mention) (rs : List Reading) (ms : List Mention) → Kept f low looped one v s t r m → Kept f low looped others (r v looped).visible t u (row_of rs) (any_mention ms) → Kept f low looped (either one others) v s u (row_of (r ∷ rs)) (any_mention (m ∷ ms))
row_more f low looped one others v s t u r m rs ms h k = record {
  lawful = both_true h.lawful k.lawful;
  behind = behind_on h.behind k.behind;
  mentioned = mentioned_either s.scope one others m (any_mention ms) h.mentioned (mentioned_behind s t others (any_mention ms) h.behind k.mentioned);
}

module _ (f : Frame) (around : Around) (fitting : Fitting f around) (law : Law f around.table) where
  abbrev named_in : List Part → Named
  named_in parts = any_of (map (λ p. p.names) parts)

  -- statements in order, each with what those before it leave visible
  pub rows_law : {k : ℕ} (H : List Shape → Type 0) (parts : List Part) → AllByRecursion PartKeeps parts → Within (named_in parts) f.named → (v : List Shape → List Visible) (s : State) → ((all : List Shape) → H all → Sees f law.low (v all) s) → Claims f k k H (KeepsRow f around law (named_in parts) v s) s (row_read around parts s)
  unfolding each
  rows_law H [] keeps within v s g = law_pure f [] s (λ all h. record { lawful = refl; behind = still_behind (g all h) (still_same s); mentioned = record { mentioned = λ name x is at other. cc } })
  rows_law {k} H (p ∷ parts) keeps within v s g =
      law_bind f {Q = λ all x t. Keeps f around law p.names v s all x t} (p.reads around) (λ x. before_all x (each (map (λ p. p.reads around) parts))) s
      (law_as f g (λ all h q. q) (keeps.0 f around fitting (within_first p.names (named_in parts) within) law k v s))
      (law_put f (p.reads around s).part.part (each (map (λ p. p.reads around) parts)) (p.reads around s).part.state
      (law_as f (λ all h. h) (λ all h q. row_more f law.low around.looped p.names (named_in parts) (v all) s (p.reads around s).part.state _ (reading f law.low all (p.reads around s).part.part) (mentions_in f (p.reads around s).part.part) (map (reading f law.low all) (row_read around parts (p.reads around s).part.state).part.part) (map (mentions_in f) (row_read around parts (p.reads around s).part.state).part.part) h.1 q)
      (rows_law {k = k} (λ all. H all × Keeps f around law p.names v s all (p.reads around s).part.part (p.reads around s).part.state) parts keeps.1 (within_second p.names (named_in parts) within) (λ all. (reading f law.low all (p.reads around s).part.part (v all) around.looped).visible) (p.reads around s).part.state (λ all h. h.1.behind.sees))))

-- ---- blocks

-- what is left of a part behind a block
pub record Closed (f : Frame) (low : ℕ) (looped : Bool) (named : Named) (v : List Visible) (s t : State) (r : Reading) (m : Mention) : Type 0 where
  pub lawful : (r v looped).lawful ≡ true
  pub behind : Behind f low s t v
  pub mentioned : Mentioned s.scope named m

-- behind a block what was visible is
pub closed_of : {f : Frame} {low : ℕ} {looped : Bool} {named : Named} {v : List Visible} {s t : State} {r : Reading} {m : Mention} → Sees f low v s → Kept f low looped named v s t r m → Closed f low looped named v s (left s t) r m
closed_of h k = record { lawful = k.lawful; behind = left_behind h k.behind; mentioned = k.mentioned }

module _ (rules : LawRules) (f : Frame) (around : Around) (fitting : Fitting f around) (law : Law f around.table) where
  abbrev Row : List Part → Named
  Row parts = any_of (map (λ p. p.names) parts)

  -- a row as a block
  pub closed_row : {k : ℕ} (H : List Shape → Type 0) (parts : List Part) → AllByRecursion PartKeeps parts → Within (Row parts) f.named → (v : List Shape → List Visible) (s : State) → ((all : List Shape) → H all → Sees f law.low (v all) s) → Claims f k k H (λ all xs t. Closed f law.low around.looped (Row parts) (v all) s t (row_of (map (reading f law.low all) xs)) (any_mention (map (mentions_in f) xs))) s (scoped (row_read around parts) s)
  closed_row H parts keeps within v s g = law_scoped f (row_read around parts) s (rows_law f around fitting law H parts keeps within v s g) (λ all x t h q. closed_of (g all h) q)

  closed_turns : {k : ℕ} (H : List Shape → Type 0) (parts : List Part) → AllByRecursion PartKeeps parts → Within (Row parts) f.named → (v : List Shape → List Visible) (s : State) → ((all : List Shape) → H all → Sees f law.low (v all) s) → Claims f k k H (λ all xs t. Closed f law.low true (Row parts) (v all) s t (row_of (map (reading f law.low all) xs)) (any_mention (map (mentions_in f) xs))) s (scoped (row_read (in_loop around) parts) s)
  closed_turns H parts keeps within v s g = law_scoped f (row_read (in_loop around) parts) s (rows_law f (in_loop around) (in_loop_fits f around fitting) law H parts keeps within v s g) (λ all x t h q. closed_of (g all h) q)

  closed_part : {k : ℕ} (H : List Shape → Type 0) (p : Part) → PartKeeps p → Within p.names f.named → (v : List Shape → List Visible) (s : State) → ((all : List Shape) → H all → Sees f law.low (v all) s) → Claims f k k H (λ all x t. Closed f law.low around.looped p.names (v all) s t (reading f law.low all x) (mentions_in f x)) s (scoped (p.reads around) s)
  closed_part {k} H p keeps within v s g = law_scoped f (p.reads around) s (law_as f g (λ all h q. q) (keeps f around fitting within law k v s)) (λ all x t h q. closed_of (g all h) q)

  -- a row in braces
  pub block_law : {k : ℕ} (parts : List Part) → AllByRecursion PartKeeps parts → Within (Row parts) f.named → (v : List Shape → List Visible) (s : State) → Claims f k k (λ all. Sees f law.low (v all) s) (Keeps f around law (Row parts) v s) s (block_read around parts s)
  block_law parts keeps within v s = law_bind f (scoped (row_read around parts)) (λ parts. pure (made.Block parts)) s
      (closed_row _ parts keeps within v s (λ all h. h))
      (law_pure f _ _ (λ all h. kept_as f around law (Row parts) v s _ all (layer.Block _) _ (made.rolls-Block _) (record { lawful = h.1.lawful; behind = h.1.behind; mentioned = h.1.mentioned })))

  -- ---- `if`

  record OtherKept (other : Option Part) (v : List Visible) (s : State) (all : List Shape) (o : Option Stmt) (t : State) : Type 0 where
    lawful : if_there (option_map (reading f law.low all) o) v around.looped ≡ true
    behind : Behind f law.low s t v
    mentioned : Mentioned s.scope (if_any (option_map (λ p. p.names) other)) (if_mention (option_map (mentions_in f) o))

  other_law : {k : ℕ} (H : List Shape → Type 0) (other : Option Part) → IfSome other PartKeeps → Within (if_any (option_map (λ p. p.names) other)) f.named → (v : List Shape → List Visible) (s : State) → ((all : List Shape) → H all → Sees f law.low (v all) s) → Claims f k k H (λ all o t. OtherKept other (v all) s all o t) s (other_read around other s)
  other_law H None keeps within v s g = law_none f s (λ all h. record { lawful = refl; behind = still_behind (g all h) (still_same s); mentioned = record { mentioned = λ name x is at other. cc } })
  other_law H (Some p) keeps within v s g = law_some f (scoped (p.reads around)) s (law_as f (λ all h. h) (λ all h q. record { lawful = q.lawful; behind = q.behind; mentioned = q.mentioned }) (closed_part H p keeps within v s g))

  if_kept : (named : Named) (v : List Shape → List Visible) (s t : State) (all : List Shape) (test : TypedExpr) (part : Stmt) (o : Option Stmt)
      → plain (path_of (sight_in f (v all)) test) ≡ true → (reading f law.low all part (v all) around.looped).lawful ≡ true → if_there (option_map (reading f law.low all) o) (v all) around.looped ≡ true
      → Behind f law.low s t (v all) → Mentioned s.scope named (either_mention (mentions test) (either_mention (mentions_in f part) (if_mention (option_map (mentions_in f) o))))
      → Keeps f around law named v s all (made.If test part o) t
  if_kept named v s t all test part None one two three behind told = kept_as f around law named v s t all (layer.If test part None) _ (made.rolls-If test part None) (record { lawful = both_true (both_true one two) three; behind = behind; mentioned = told })
  if_kept named v s t all test part (Some x) one two three behind told = kept_as f around law named v s t all (layer.If test part (Some x)) _ (made.rolls-If test part (Some x)) (record { lawful = both_true (both_true one two) three; behind = behind; mentioned = told })

  -- both parts see what is visible before
  pub if_law : {k : ℕ} (test : Expr) (part : Part) (other : Option Part) → PartKeeps part → IfSome other PartKeeps → Within (either (expr_names test) (either part.names (if_any (option_map (λ p. p.names) other)))) f.named → (v : List Shape → List Visible) (s : State) → Claims f k k (λ all. Sees f law.low (v all) s) (Keeps f around law (either (expr_names test) (either part.names (if_any (option_map (λ p. p.names) other)))) v s) s (if_read around test part other s)
  if_law test part other keeps others within v s =
      let third : Named = if_any (option_map (λ p. p.names) other) in
      let rest = within_second (expr_names test) (either part.names third) within in
      law_bind f (reads around.table (exactly shape.Boolean) test) (λ test. scoped (part.reads around) >>= λ part. other_read around other >>= λ other. pure (made.If test part other)) s
      (reads_law rules f around fitting law (exactly shape.Boolean) test (within_first (expr_names test) (either part.names third) within) v s (λ all h. h))
      (law_bind f (scoped (part.reads around)) (λ part. other_read around other >>= λ other. pure (made.If _ part other)) _
      (closed_part _ part keeps (within_first part.names third rest) v _ (λ all h. still_sees h.0 h.1.still))
      (law_bind f (other_read around other) (λ other. pure (made.If _ _ other)) _
      (other_law _ other others (within_second part.names third rest) v _ (λ all h. h.1.behind.sees))
      (law_pure f _ _ (λ all h. if_kept (either (expr_names test) (either part.names third)) v s _ all _ _ _ h.0.0.1.fine h.0.1.lawful h.1.lawful
      (behind_on (behind_on (still_behind h.0.0.0 h.0.0.1.still) h.0.1.behind) h.1.behind)
      (mentioned_either s.scope (expr_names test) (either part.names third) _ _ h.0.0.1.mentioned
      (mentioned_either s.scope part.names third _ _ (mentioned_still s _ part.names _ h.0.0.1.still h.0.1.mentioned)
      (mentioned_still s _ third _ h.0.0.1.still (mentioned_behind _ _ third _ h.0.1.behind h.1.mentioned))))))))

  -- ---- `while`

  -- its rows are those of a loop
  pub while_law : {k : ℕ} (test : Expr) (parts : List Part) → AllByRecursion PartKeeps parts → Within (either (expr_names test) (Row parts)) f.named → (v : List Shape → List Visible) (s : State) → Claims f k k (λ all. Sees f law.low (v all) s) (Keeps f around law (either (expr_names test) (Row parts)) v s) s (while_read around test parts s)
  while_law test parts keeps within v s = law_bind f (reads around.table (exactly shape.Boolean) test) (λ test. scoped (row_read (in_loop around) parts) >>= λ parts. pure (made.While test parts)) s
      (reads_law rules f around fitting law (exactly shape.Boolean) test (within_first (expr_names test) (Row parts) within) v s (λ all h. h))
      (law_bind f (scoped (row_read (in_loop around) parts)) (λ parts. pure (made.While _ parts)) _
      (closed_turns _ parts keeps (within_second (expr_names test) (Row parts) within) v _ (λ all h. still_sees h.0 h.1.still))
      (law_pure f _ _ (λ all h. kept_as f around law (either (expr_names test) (Row parts)) v s _ all (layer.While _ _) _ (made.rolls-While _ _) (record {
        lawful = both_true h.0.1.fine h.1.lawful;
        behind = behind_on (still_behind h.0.0 h.0.1.still) h.1.behind;
        mentioned = mentioned_either s.scope (expr_names test) (Row parts) _ _ h.0.1.mentioned (mentioned_still s _ (Row parts) _ h.0.1.still h.1.mentioned);
      }))))
