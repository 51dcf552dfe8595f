-- Statements that are as they should be keep the shapes of variables: one induction over statements.
use Rattle.std.proofs.Common.{◌≡◌, ◌&&◌, ◌∷◌}
use Rattle.typed_runs.proofs.Common.{ℕ, zero, suc, Bool, true, List, [], map, Option, Some, None, sym, subst, ◌∙◌, slice_get, AllByRecursion, list_all, Shape, Program, TypedExpr, Stmt, Stmt-F, map-Stmt, roll-Stmt, fold-roll-Stmt, ind-Stmt, same, stands, if_known, Body, passes, place_so, site_so, loops, goes_to, row_holds, default_of, Flow, Next, Broke, Continued, Died, M, truth_of, Calls, value_of, row, set, stmt_meant, body_of, Fit, same_is, globals_in, Keeps}
use Rattle.epl_values.specs.declared.shape.Shape.TheVariants as shape
use Rattle.typed_program.specs.declared.statement.Stmt.TheOpen as stmt
use Rattle.typed_program.specs.Shapes.{is_event, is_channel}
use Rattle.typed_program.specs.Expressions.{has}
use Rattle.typed_program.specs.Statements.{is_local, begins, all_hold, stmt_so, stmt_holds}
use Rattle.body_meaning.specs.Runs.{◌>>=◌}
use Rattle.body_meaning.specs.Statements.{begun, listener_of, level_number, stmt_of}
use Rattle.typed_runs.proofs.Keeping.{keeps_as, keeps_pure, keeps_halt, keeps_charge, keeps_bind, keeps_seq, keeps_choose}
use Rattle.typed_runs.proofs.Effecting.{keeps_print, keeps_log, keeps_route, keeps_send, keeps_subscribe, keeps_unsubscribe}
use Rattle.typed_runs.proofs.Looping.{keeps_row, keeps_while, keeps_done, keeps_set}
use Rattle.typed_runs.proofs.Sound.{known_is, known_some, left, right}
use Rattle.typed_runs.proofs.Seen.{Seen}
use Rattle.typed_runs.proofs.StmtForms.{FlowFits, names_here, body_here, has_keeps, has_any, run_keeps, passes_keeps, event_keeps, listener_keeps, assign_keeps, for_keeps, returns_keeps, spawn_keeps}

-- what holds of each shape
pub all_at : {A : Type 0} (test : A → Bool) (xs : List A) (n : ℕ) (x : A) → list_all test xs ≡ true → slice_get xs n ≡ Some x → test x ≡ true
all_at test [] n x h is = cc
all_at test (y ∷ xs) zero x h is = let same : y ≡ x = cc in subst (λ z. test z ≡ true) same (left (test y) (list_all test xs) h)
all_at test (y ∷ xs) (suc n) x h is = all_at test xs n x (right (test y) (list_all test xs) h) is

module _ (program : Program) (monitor : ℕ) (room : List Shape) (call : Calls) (result : Option Shape) (seen : Seen program monitor room (globals_in program monitor) room program.actions call) (stand : list_all (stands program.types) room ≡ true) where
  -- the body
  abbrev here : Body
  here = body_here program monitor room call result seen

  -- a run of a statement that keeps the shapes of variables
  abbrev Flows : M Flow → Type 0
  Flows m = Keeps program monitor room (FlowFits program result) m

  -- what a statement means
  abbrev meant : Stmt → M Flow
  meant = stmt_of program.types program.sites call

  -- where a statement is as it should be, it keeps the shapes of variables
  abbrev StmtKeeps : Bool → M Flow → Type 0
  StmtKeeps so m = so ≡ true → Flows m

  -- what is claimed of a statement
  abbrev ForStmt : Stmt → Type 0
  ForStmt s = StmtKeeps (stmt_holds here s) (meant s)

  -- a statement with what is claimed of it
  abbrev Held : Type 0
  Held = (s : Stmt) × ForStmt s

  -- statements of which it is claimed
  parts_keep : (parts : List Held) → all_hold (map (stmt_holds here) (map (λ e. e.0) parts)) ≡ true → AllByRecursion (Keeps program monitor room (FlowFits program result)) (map meant (map (λ e. e.0) parts))
  parts_keep [] h = tt
  parts_keep (s ∷ parts) h = (
    s.1 (left (stmt_holds here s.0) (all_hold (map (stmt_holds here) (map (λ e. e.0) parts))) h),
    parts_keep parts (right (stmt_holds here s.0) (all_hold (map (stmt_holds here) (map (λ e. e.0) parts))) h),
  )

  -- a row of them
  row_keeps : (parts : List Held) → all_hold (map (stmt_holds here) (map (λ e. e.0) parts)) ≡ true → Flows (row (map meant (map (λ e. e.0) parts)))
  row_keeps parts h = keeps_row tt _ (parts_keep parts h)

  -- a statement behind its charge
  begun_keeps : (m : M Flow) → Flows m → Flows (begun program.types program.sites call m)
  begun_keeps m k = keeps_seq (keeps_charge 1) k

  -- a local of this shape
  local_is : (s : Shape) (n : ℕ) → is_local here s n ≡ true → slice_get room n ≡ Some s
  local_is s n h = known_is s (slice_get room n) h

  -- its shape names what is there
  local_stands : (n : ℕ) (s : Shape) → slice_get room n ≡ Some s → stands program.types s ≡ true
  local_stands n s is = all_at (stands program.types) room n s stand is

  -- a local that begins with a value
  declare_keeps : (n : ℕ) (e : TypedExpr) → (s : Shape) × (slice_get room n ≡ Some s) × (has (names_here program monitor room call result seen) s e ≡ true) → Flows (value_of program.types call e >>= set n)
  declare_keeps n e known = keeps_bind _ (has_keeps program monitor room call result seen known.0 e known.2) (λ v f. keeps_set tt n known.0 v known.1 f)

  -- ---- statements

  -- the statements in a statement
  abbrev trees : Stmt-F Held → Stmt-F Stmt
  trees y = map-Stmt Held Stmt (λ e. e.0) y

  -- whether they are as they should be
  abbrev so_parts : Stmt-F Stmt → Stmt-F Bool
  so_parts x = map-Stmt Stmt Bool (stmt_holds here) x

  -- what they mean
  abbrev meant_parts : Stmt-F Stmt → Stmt-F (M Flow)
  meant_parts x = map-Stmt Stmt (M Flow) meant x

  -- a statement whose parts are as claimed
  stmt_at : (y : Stmt-F Held) → StmtKeeps (stmt_so here (so_parts (trees y))) (stmt_meant program.types program.sites call (meant_parts (trees y)))
  stmt_at (stmt.Block parts) h = row_keeps parts h
  stmt_at (stmt.On site) h = begun_keeps _ (keeps_done tt _ (keeps_as (λ v f. tt) (listener_keeps program monitor room call result seen site h)))
  stmt_at (stmt.Declare n s) h = begun_keeps _ (keeps_set tt n s (default_of program.types s) (local_is s n h) (seen.begins s (local_stands n s (local_is s n h))))
  stmt_at (stmt.DeclareAs n e) h = begun_keeps _ (declare_keeps n e (known_some (λ s. has (names_here program monitor room call result seen) s e) (slice_get room n) h))
  stmt_at (stmt.DeclareOn n site) h = begun_keeps _ (keeps_bind _ (listener_keeps program monitor room call result seen site (right (is_local here shape.Listener n) (site_so here site) h)) (λ v f. keeps_set tt n shape.Listener v (local_is shape.Listener n (left (is_local here shape.Listener n) (site_so here site) h)) f))
  stmt_at (stmt.Assign place e) h = begun_keeps _ (assign_keeps program monitor room call result seen tt place _ (left (place_so here place) (has (names_here program monitor room call result seen) place.shape e) h) (has_keeps program monitor room call result seen place.shape e (right (place_so here place) (has (names_here program monitor room call result seen) place.shape e) h)))
  stmt_at (stmt.AssignOn place site) h =
      let front = left (place_so here place && same place.shape shape.Listener) (site_so here site) h in
      let is = same_is place.shape shape.Listener (right (place_so here place) (same place.shape shape.Listener) front) in
      begun_keeps _ (assign_keeps program monitor room call result seen tt place _ (left (place_so here place) (same place.shape shape.Listener) front) (subst (λ (s : Shape). Keeps program monitor room (λ v. Fit program.types v s) (listener_of program.types program.sites call site)) (sym is) (listener_keeps program monitor room call result seen site (right (place_so here place && same place.shape shape.Listener) (site_so here site) h))))
  stmt_at (stmt.If test part None) h =
      let front = left (has (names_here program monitor room call result seen) shape.Boolean test && stmt_holds here part.0) true h in
      begun_keeps _ (keeps_bind _ (has_any program monitor room call result seen shape.Boolean test (left (has (names_here program monitor room call result seen) shape.Boolean test) (stmt_holds here part.0) front)) (λ v any. keeps_choose (truth_of v) (part.1 (right (has (names_here program monitor room call result seen) shape.Boolean test) (stmt_holds here part.0) front)) (keeps_pure Next tt)))
  stmt_at (stmt.If test part (Some other)) h =
      let front = left (has (names_here program monitor room call result seen) shape.Boolean test && stmt_holds here part.0) (stmt_holds here other.0) h in
      begun_keeps _ (keeps_bind _ (has_any program monitor room call result seen shape.Boolean test (left (has (names_here program monitor room call result seen) shape.Boolean test) (stmt_holds here part.0) front)) (λ v any. keeps_choose (truth_of v) (part.1 (right (has (names_here program monitor room call result seen) shape.Boolean test) (stmt_holds here part.0) front)) (other.1 (right (has (names_here program monitor room call result seen) shape.Boolean test && stmt_holds here part.0) (stmt_holds here other.0) h))))
  stmt_at (stmt.While test parts) h = begun_keeps _ (keeps_while tt _ _ (has_any program monitor room call result seen shape.Boolean test (left (has (names_here program monitor room call result seen) shape.Boolean test) (all_hold (map (stmt_holds here) (map (λ e. e.0) parts))) h)) (row_keeps parts (right (has (names_here program monitor room call result seen) shape.Boolean test) (all_hold (map (stmt_holds here) (map (λ e. e.0) parts))) h)))
  stmt_at (stmt.For n items parts) h = begun_keeps _ (for_keeps program monitor room call result seen tt n items _ (left (loops here n items) (all_hold (map (stmt_holds here) (map (λ e. e.0) parts))) h) (row_keeps parts (right (loops here n items) (all_hold (map (stmt_holds here) (map (λ e. e.0) parts))) h)))
  stmt_at stmt.Break h = begun_keeps _ (keeps_pure Broke tt)
  stmt_at stmt.Continue h = begun_keeps _ (keeps_pure Continued tt)
  stmt_at (stmt.Return e) h = begun_keeps _ (returns_keeps program monitor room call result seen e h)
  stmt_at stmt.Die h = begun_keeps _ (keeps_halt Died)
  stmt_at (stmt.Print text) h = begun_keeps _ (keeps_done tt _ (keeps_bind _ (has_any program monitor room call result seen shape.Text text h) (λ v any. keeps_print v)))
  stmt_at (stmt.Log text level) h = begun_keeps _ (keeps_done tt _ (keeps_bind _ (has_any program monitor room call result seen shape.Text text h) (λ v any. keeps_log (level_number level) v)))
  stmt_at (stmt.Route e) h = begun_keeps _ (keeps_done tt _ (keeps_bind _ (event_keeps program monitor room call result seen e h) (λ v is. keeps_route v is)))
  stmt_at (stmt.Send e to) h = begun_keeps _ (keeps_done tt _ (keeps_bind _ (event_keeps program monitor room call result seen e (left (passes here is_event e) (passes here is_channel to) h)) (λ event is. keeps_bind _ (passes_keeps program monitor room call result seen is_channel to (right (passes here is_event e) (passes here is_channel to) h)) (λ v any. keeps_send event v is))))
  stmt_at (stmt.Spawn n es to) h = begun_keeps _ (keeps_done tt _ (spawn_keeps program monitor room call result seen n es (left (if_known (begins here es) (slice_get program.actions n)) (goes_to here to) h) to (right (if_known (begins here es) (slice_get program.actions n)) (goes_to here to) h)))
  stmt_at (stmt.Subscribe channel) h = begun_keeps _ (keeps_done tt _ (keeps_bind _ (has_any program monitor room call result seen shape.Text channel h) (λ v any. keeps_subscribe v)))
  stmt_at (stmt.Unsubscribe channel) h = begun_keeps _ (keeps_done tt _ (keeps_bind _ (has_any program monitor room call result seen shape.Text channel h) (λ v any. keeps_unsubscribe v)))
  stmt_at (stmt.Call e) h = begun_keeps _ (keeps_done tt _ (run_keeps program monitor room call result seen e h))

  -- the step of the induction
  stmt_case : (x : Stmt-F Stmt) (y : Stmt-F Held) → trees y ≡ x → ForStmt (roll-Stmt x)
  unfolding stmt_of
  stmt_case x y is = subst (λ (z : Stmt-F Stmt). ForStmt (roll-Stmt z)) is
      (subst (λ (m : M Flow). StmtKeeps (stmt_holds here (roll-Stmt (trees y))) m) (sym (fold-roll-Stmt (M Flow) (stmt_meant program.types program.sites call) (trees y)))
      (λ h. stmt_at y (sym (fold-roll-Stmt Bool (stmt_so here) (trees y)) ∙ h)))

  -- a statement that is as it should be
  pub stmt_keeps : (s : Stmt) → stmt_holds here s ≡ true → Flows (meant s)
  stmt_keeps = ind-Stmt ForStmt stmt_case

  -- statements that are as they should be
  stmts_keep : (body : List Stmt) → row_holds here body ≡ true → AllByRecursion (Keeps program monitor room (FlowFits program result)) (map meant body)
  stmts_keep [] h = tt
  stmts_keep (s ∷ body) h = (stmt_keeps s (left (stmt_holds here s) (row_holds here body) h), stmts_keep body (right (stmt_holds here s) (row_holds here body) h))

  -- a body whose statements are
  pub body_keeps : (body : List Stmt) → row_holds here body ≡ true → Flows (body_of program.types program.sites call body)
  body_keeps body h = keeps_row tt _ (stmts_keep body h)
