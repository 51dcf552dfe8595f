-- Expressions, places and arguments where a body is read: they keep the rules there, and mention what they name.
use Rattle.std.proofs.Common.{◌≡◌, ◌||◌}
use Rattle.program_laws.proofs.Common.{ℕ, map, List, [], Some, None, Bool, true, false, Option, refl, ap, sym, subst, ◌∙◌, list_all, or_left, or_right, append-nil, Shape, Expr, Place, Stmt, Reading, assigns, Mention, mentions, all_mention, place_mentions, Visible, path_of, special_in, Scope, Seen, ParamHead, Demand, Wish, typed_arguments, seen, place_found, expr_found, permitted, Mentioned, is_barred, State, Around, none, either, expr_names, place_names, exprs_name, optional_names, asked, reads, args_read, maybe_read}
use Rattle.typed_program.specs.declared.statement.Stmt.TheOpen.{Stmt-F}
use Rattle.typed_program.specs.declared.statement.Stmt.TheViews.{roll-Stmt}
use Rattle.typed_program.specs.declared.statement.Stmt.TheFolds.{fold-roll-Stmt, map-Stmt}
use Rattle.typed_program.specs.Courses.{stmt_reading, returns}
use Rattle.typed_program.specs.Mentions.{maybe_mentions, stmt_step, either as either_mention}
use Rattle.typed_program.specs.Paths.{plain}
use Rattle.expr_rules.specs.Places.{is_global}
use Rattle.expr_check.specs.Expressions.{part_of as expr_part}
use Rattle.stmt_check.specs.Captures.{Names as Named}
use Rattle.stmt_check.specs.Steps.{looks}
use Rattle.program_laws.proofs.Lawful.Rules.{LawRules}
use Rattle.program_laws.proofs.Rules.Claims.{Claims, law_looks, law_none, law_some, law_as}
use Rattle.program_laws.proofs.Rules.Sights.{Law, Sees, Still, Kept, reading, mentions_in, sight_in, still_same, sees_named, known_table, known_named, keeps_special, mentioned_before}
use Rattle.program_laws.proofs.Shapes.Frames.{Frame, names_of}
use Rattle.program_laws.proofs.Shapes.Reading.{Fitting, Within}

-- ---- what is mentioned

-- where nothing is named
pub mentioned_none : (scope : Scope) (m : Mention) → Mentioned scope none m
mentioned_none scope m = record { mentioned = λ name x is at other. cc }

-- what two parts name, one of them mentions
pub mentioned_either : (scope : Scope) (a b : Named) (m n : Mention) → Mentioned scope a m → Mentioned scope b n → Mentioned scope (either a b) (either_mention m n)
mentioned_either scope a b m n h k = record { mentioned = λ name x is at other. by name x (a name) refl is at other }
  where
    by : (name : List ℕ) (x : Seen) (c : Bool) → a name ≡ c → (c || b name) ≡ true → seen scope name ≡ Some x → is_global x.kind ≡ false → ((m x.number || n x.number) ≡ true) × (is_barred x ≡ false)
    by name x true here is at other = let p = h.mentioned name x here at other in (or_left (m x.number) (n x.number) p.0, p.1)
    by name x false here is at other = let p = k.mentioned name x is at other in (or_right (m x.number) (n x.number) p.0, p.1)

-- what is mentioned at another place where the same is visible
pub mentioned_still : (s t : State) (named : Named) (m : Mention) → Still s t → Mentioned t.scope named m → Mentioned s.scope named m
mentioned_still s t named m still h = mentioned_before s t [] named m (still.names ∙ sym (append-nil s.scope.names)) h

-- ---- what is read without a change

-- it passes its test, and mentions what its text names
pub record Read (s t : State) (named : Named) (passes : Bool) (m : Mention) : Type 0 where
  pub fine : passes ≡ true
  pub mentioned : Mentioned s.scope named m
  pub still : Still s t

module _ (rules : LawRules) (f : Frame) (around : Around) (fitting : Fitting f around) (law : Law f around.table) where
  -- an expression
  pub reads_law : {k : ℕ} {H : List Shape → Type 0} (demand : Demand) (e : Expr) → Within (expr_names e) f.named → (v : List Shape → List Visible) (s : State) → ((all : List Shape) → H all → Sees f law.low (v all) s)
      → Claims f k k H (λ all x t. Read s t (expr_names e) (permitted demand.paths (path_of (sight_in f (v all)) x)) (mentions x)) s (reads around.table demand e s)
  reads_law {k} demand e within v s g = law_looks f (λ s. expr_found around.table s.scope e demand) s (λ all h none before. record {
    fine = rules.expressions around.table (sight_in f (v all)) s.scope e demand (sees_named (expr_names e) within (g all h)) (keeps_special f around.table law k all s before) none;
    mentioned = rules.expressions_mention around.table s.scope e demand none;
    still = still_same s;
  })

  -- a place that is assigned
  pub place_law : {k : ℕ} {H : List Shape → Type 0} (place : Place) → Within (place_names place) f.named → (v : List Shape → List Visible) (s : State) → ((all : List Shape) → H all → Sees f law.low (v all) s)
      → Claims f k k H (λ all x t. Read s t (place_names place) (assigns (names_of f all) f.program.sites (special_in f.program f.monitor) law.low (v all) x.place) (place_mentions x.place)) s (looks (λ s. place_found around.table s.scope place) s)
  place_law {k} place within v s g = law_looks f (λ s. place_found around.table s.scope place) s (λ all h none before. record {
    fine = (rules.places around.table (names_of f all) (sight_in f (v all)) s.scope place (known_table f around fitting k all s before) (known_named f around fitting k all s before (place_names place) within) (sees_named (place_names place) within (g all h)) (keeps_special f around.table law k all s before) none).assigned f.program.sites law.low;
    mentioned = rules.places_mention around.table s.scope place none;
    still = still_same s;
  })

  -- the arguments of an action
  pub args_law : {k : ℕ} {H : List Shape → Type 0} (params : List ParamHead) (args : List Expr) → Within (exprs_name args) f.named → (v : List Shape → List Visible) (s : State) → ((all : List Shape) → H all → Sees f law.low (v all) s)
      → Claims f k k H (λ all x t. Read s t (exprs_name args) (list_all (λ e. plain (path_of (sight_in f (v all)) e)) x) (all_mention x)) s (args_read around.table params args s)
  args_law {k} params args within v s g = law_looks f (λ s. typed_arguments false params (map (expr_part around.table s.scope) args)) s (λ all h none before. record {
    fine = rules.arguments around.table (sight_in f (v all)) s.scope params args (sees_named (exprs_name args) within (g all h)) (keeps_special f around.table law k all s before) none;
    mentioned = rules.arguments_mention around.table s.scope params args none;
    still = still_same s;
  })

  -- an expression that may be there
  pub maybe_law : {k : ℕ} {H : List Shape → Type 0} (wish : Wish) (e : Option Expr) → Within (optional_names e) f.named → (v : List Shape → List Visible) (s : State) → ((all : List Shape) → H all → Sees f law.low (v all) s)
      → Claims f k k H (λ all x t. Read s t (optional_names e) (returns (names_of f all) f.program.sites (special_in f.program f.monitor) law.low (v all) x) (maybe_mentions x)) s (maybe_read around.table (asked wish false) e s)
  maybe_law wish None within v s g = law_none f s (λ all h. record { fine = refl; mentioned = record { mentioned = λ name x is at other. cc }; still = still_same s })
  maybe_law wish (Some e) within v s g = law_some f (reads around.table (asked wish false) e) s (law_as f (λ all h. h) (λ all h q. record { fine = q.fine; mentioned = q.mentioned; still = q.still }) (reads_law (asked wish false) e within v s g))

-- ---- statements that are made

-- what is asked of a statement
abbrev pub Keeps : (f : Frame) (around : Around) → Law f around.table → Named → (List Shape → List Visible) → State → List Shape → Stmt → State → Type 0
Keeps f around law named v s all x t = Kept f law.low around.looped named (v all) s t (reading f law.low all x) (mentions_in f x)

-- what holds of a statement's layer holds of the statement
pub made_as : (f : Frame) (low : ℕ) (all : List Shape) (P : Reading → Mention → Type 0) (d : Stmt-F Stmt) (x : Stmt) → roll-Stmt d ≡ x
    → P (stmt_reading (names_of f all) f.program.sites (special_in f.program f.monitor) low (map-Stmt Stmt Reading (reading f low all) d)) (stmt_step f.program.sites (map-Stmt Stmt Mention (mentions_in f) d))
    → P (reading f low all x) (mentions_in f x)
made_as f low all P d x is h =
    let r : stmt_reading (names_of f all) f.program.sites (special_in f.program f.monitor) low (map-Stmt Stmt Reading (reading f low all) d) ≡ reading f low all x
    = sym (fold-roll-Stmt Reading (stmt_reading (names_of f all) f.program.sites (special_in f.program f.monitor) low) d) ∙ ap (reading f low all) is in
    let m : stmt_step f.program.sites (map-Stmt Stmt Mention (mentions_in f) d) ≡ mentions_in f x
    = sym (fold-roll-Stmt Mention (stmt_step f.program.sites) d) ∙ ap (mentions_in f) is in
    subst (P (reading f low all x)) m (subst (λ (c : Reading). P c (stmt_step f.program.sites (map-Stmt Stmt Mention (mentions_in f) d))) r h)

-- a statement of this layer is kept where its layer is
pub kept_as : (f : Frame) (around : Around) (law : Law f around.table) (named : Named) (v : List Shape → List Visible) (s t : State) (all : List Shape) (d : Stmt-F Stmt) (x : Stmt) → roll-Stmt d ≡ x
    → Kept f law.low around.looped named (v all) s t (stmt_reading (names_of f all) f.program.sites (special_in f.program f.monitor) law.low (map-Stmt Stmt Reading (reading f law.low all) d)) (stmt_step f.program.sites (map-Stmt Stmt Mention (mentions_in f) d))
    → Keeps f around law named v s all x t
kept_as f around law named v s t all d x is h = made_as f law.low all (Kept f law.low around.looped named (v all) s t) d x is h
