-- Statements pay for what their effects weigh, with their own charges.
use Rattle.std.proofs.Common.{◌≡◌, ◌∷◌}
use Rattle.context_meaning.proofs.Common.{ℕ, zero, suc, List, [], map, Option, Some, None, sym, subst, Err, AllByRecursion, EventShape, Value, cost_of, Site, TypedExpr, TypedSuffix, Stmt, Flow, Move, M, Calls, Reach, value_of, body_of, Effect}
use Rattle.std.specs.Prelude.{slice_get}
use Rattle.typed_program.specs.declared.statement.TypedPlace.{TypedPlace}
use Rattle.typed_program.specs.declared.statement.Stmt.{Stmt-F, map-Stmt, roll-Stmt, fold-roll-Stmt, ind-Stmt}
use Rattle.typed_program.specs.declared.statement.Stmt.TheOpen as stmt
use Rattle.action_host.specs.declared.host.Fault.TheVariants as fault
use Rattle.body_meaning.specs.declared.run.Flow.TheVariants.{Next, Broke, Continued, Returned}
use Rattle.body_meaning.specs.declared.run.Halt.TheVariants.{Died, Spent}
use Rattle.body_meaning.specs.Values.{items_of, truth_of}
use Rattle.body_meaning.specs.Paths.{set_local, store}
use Rattle.body_meaning.specs.Expressions.{reach_of}
use Rattle.body_meaning.specs.Statements.{again, assign, begun, done, each, elements_of, for_of, is_next, level_number, listen_at, listener_of, move_of, moves_in, place_moves, returned, row, set, spawned, stmt_meant, stmt_of, turns, while_of}
use Rattle.context_meaning.proofs.Paying.{Pays, pays_pure, pays_halt, pays_look, pays_charge, pays_change, pays_bind, pays_seq, pays_choose, pays_all, pays_given, pays_first, Owes, owes_bind, owes_seq}
use Rattle.context_meaning.proofs.Weighing.{Weighs}
use Rattle.context_meaning.proofs.PayingCalls.{owes_globals, owes_log, owes_print, owes_route, owes_send, owes_spawn_here, owes_spawn_to, owes_subscribe, owes_unsubscribe, pays_listen}
use Rattle.context_meaning.proofs.PayingExprs.{AllPay, CallsPay, MovePays, StepPays, expr_pays, step_pays, values_paid}

module _ (weigh : Effect → ℕ) where
  -- ---- rows and loops

  -- statements in a row
  pays_row : (ms : List (M Flow)) → AllPay weigh ms → Pays weigh (row ms)
  pays_row [] h = pays_pure Next
  pays_row (m ∷ ms) h = pays_bind _ h.0 (λ flow. pays_choose (is_next flow) (pays_row ms h.1) (pays_pure flow))

  -- a turn behind a flow
  pays_again : (m : M Flow) (flow : Flow) → Pays weigh m → Pays weigh (again m flow)
  pays_again m Next k = k
  pays_again m Continued k = k
  pays_again m Broke k = pays_pure Next
  pays_again m (Returned v) k = pays_pure (Returned v)

  -- turns of a loop
  pays_turns : (n : ℕ) (test : M Value) (body : M Flow) → Pays weigh test → Pays weigh body → Pays weigh (turns n test body)
  unfolding turns
  pays_turns zero test body t b = pays_halt Spent
  pays_turns (suc n) test body t b = pays_bind _ (pays_seq (pays_charge 1) t) (λ v. pays_choose (truth_of v) (pays_bind _ b (λ flow. pays_again (turns n test body) flow (pays_turns n test body t b))) (pays_pure Next))

  -- a loop that tests
  pays_while : (test : M Value) (body : M Flow) → Pays weigh test → Pays weigh body → Pays weigh (while_of test body)
  unfolding while_of
  pays_while test body t b = record { from = λ s. (pays_turns (suc s.scene.fuel) test body t b).from s }

  -- a loop over values
  pays_each : (n : ℕ) (vs : List Value) (body : M Flow) → Pays weigh body → Pays weigh (each n vs body)
  pays_each n [] body b = pays_pure Next
  pays_each n (v ∷ vs) body b = pays_bind _ (pays_seq (pays_seq (pays_charge 1) (pays_change (set_local n v))) b) (λ flow. pays_again (each n vs body) flow (pays_each n vs body b))

  -- the elements of a sequence
  pays_elements : (m : M Value) → Pays weigh m → Pays weigh (elements_of m)
  unfolding elements_of
  pays_elements m k = pays_bind _ k (λ v. pays_seq (pays_charge (cost_of v)) (pays_pure (items_of v)))

  -- a loop over the elements of a sequence
  pays_for : (n : ℕ) (m : M Value) (body : M Flow) → Pays weigh m → Pays weigh body → Pays weigh (for_of n m body)
  unfolding for_of
  pays_for n m body k b = pays_bind _ (pays_elements m k) (λ vs. pays_each n vs body b)

  -- ---- single statements

  -- a run whose value is dropped
  pays_done : (m : M Value) → Pays weigh m → Pays weigh (done m)
  pays_done m k = pays_seq k (pays_pure Next)

  -- a local with another value
  pays_set : (n : ℕ) (v : Value) → Pays weigh (set n v)
  pays_set n v = pays_seq (pays_change (set_local n v)) (pays_pure Next)

  -- a place with another value
  pays_assign : (place : TypedPlace) (moves : List (M Move)) (m : M Value) → AllPay weigh moves → Pays weigh m → Pays weigh (assign place moves m)
  unfolding assign
  pays_assign place moves m h k = pays_bind _ (pays_all moves h) (λ to. pays_bind _ k (λ v. pays_seq (pays_change (store place.variable to v)) (pays_pure Next)))

  -- one step more at the front
  first_pays : (m : Option (M Move)) (ms : List (M Move)) → MovePays weigh m → AllPay weigh ms → AllPay weigh (move_of m ∷ ms)
  first_pays None ms h k = (pays_given (Err fault.IndexOutOfRange), k)
  first_pays (Some m) ms h k = (h, k)

  -- the steps of a place
  moves_pay : (rs : List Reach) → AllByRecursion (StepPays weigh) rs → AllPay weigh (moves_in rs)
  moves_pay [] h = tt
  moves_pay (r ∷ rs) h = first_pays r.move (moves_in rs) h.0.moves (moves_pay rs h.1)

  module _ (weighs : Weighs weigh) (types : List EventShape) (sites : List Site) (call : Calls) (calls_pay : CallsPay weigh call) where
    -- the value of an expression
    value_pays : (e : TypedExpr) → Pays weigh (value_of types call e)
    value_pays e = (expr_pays weigh weighs types call calls_pay e).told

    -- a listener of a site that may be there
    listen_pays : (n : ℕ) (o : Option Site) → Pays weigh (listen_at types sites call n o)
    listen_pays n None = pays_pure _
    listen_pays n (Some site) = pays_bind _ (values_paid weigh weighs types call calls_pay site.operands) (λ operands. pays_bind _ (pays_look _) (λ captured. pays_listen weigh weighs n site.term operands captured))

    -- a listener of a site by its number
    listener_pays : (n : ℕ) → Pays weigh (listener_of types sites call n)
    unfolding listener_of
    listener_pays n = listen_pays n (slice_get sites n)

    -- steps behind a value
    steps_pay : (us : List TypedSuffix) → AllByRecursion (StepPays weigh) (map (reach_of types call) us)
    steps_pay [] = tt
    steps_pay (u ∷ us) = (step_pays weigh weighs types call calls_pay u, steps_pay us)

    -- the steps of a place that is assigned
    place_pays : (place : TypedPlace) → AllPay weigh (place_moves types sites call place)
    place_pays place = moves_pay (map (reach_of types call) place.steps) (steps_pay place.steps)

    -- what is returned
    returned_pays : (e : Option TypedExpr) → Pays weigh (returned types sites call e)
    returned_pays None = pays_pure _
    returned_pays (Some e) = pays_bind _ (value_pays e) (λ v. pays_pure _)

    -- an instance that is spawned
    spawned_owes : (n : ℕ) (es : List TypedExpr) (to : Option TypedExpr) → Owes weigh (spawned types sites call n es to)
    spawned_owes n es None = owes_bind _ (values_paid weigh weighs types call calls_pay es) (λ arguments. owes_globals _ (owes_spawn_here weigh weighs n arguments))
    spawned_owes n es (Some to) = owes_bind _ (values_paid weigh weighs types call calls_pay es) (λ arguments. owes_bind _ (value_pays to) (λ v. owes_spawn_to weigh weighs n arguments v))

    -- what a statement means
    abbrev meant : Stmt → M Flow
    meant = stmt_of types sites call

    -- what is claimed of a statement
    abbrev ForStmt : Stmt → Type 0
    ForStmt s = Pays weigh (meant s)

    -- a statement with what is claimed of it
    abbrev Held : Type 0
    Held = (s : Stmt) × ForStmt s

    -- statements of which it is claimed
    parts_pay : (parts : List Held) → AllPay weigh (map meant (map (λ e. e.0) parts))
    parts_pay [] = tt
    parts_pay (s ∷ parts) = (s.1, parts_pay parts)

    -- a row of them
    row_pays : (parts : List Held) → Pays weigh (row (map meant (map (λ e. e.0) parts)))
    row_pays parts = pays_row _ (parts_pay parts)

    -- a statement behind its charge
    begun_pays : (m : M Flow) → Pays weigh m → Pays weigh (begun types sites call m)
    begun_pays m k = pays_seq (pays_charge 1) k

    -- an effect in a statement of its own
    effect_pays : (m : M Value) → Owes weigh m → Pays weigh (begun types sites call (done m))
    effect_pays m k = pays_first (owes_seq k (pays_pure Next))

    -- the statements in a statement
    abbrev trees : Stmt-F Held → Stmt-F Stmt
    trees y = map-Stmt Held Stmt (λ e. e.0) y

    -- what they mean
    abbrev meant_parts : Stmt-F Stmt → Stmt-F (M Flow)
    meant_parts x = map-Stmt Stmt (M Flow) meant x

    -- a statement whose parts pay
    stmt_at : (y : Stmt-F Held) → Pays weigh (stmt_meant types sites call (meant_parts (trees y)))
    stmt_at (stmt.Block parts) = row_pays parts
    stmt_at (stmt.On site) = begun_pays _ (pays_done _ (listener_pays site))
    stmt_at (stmt.Declare n s) = begun_pays _ (pays_set n _)
    stmt_at (stmt.DeclareAs n e) = begun_pays _ (pays_bind _ (value_pays e) (λ v. pays_set n v))
    stmt_at (stmt.DeclareOn n site) = begun_pays _ (pays_bind _ (listener_pays site) (λ v. pays_set n v))
    stmt_at (stmt.Assign place e) = begun_pays _ (pays_assign place _ _ (place_pays place) (value_pays e))
    stmt_at (stmt.AssignOn place site) = begun_pays _ (pays_assign place _ _ (place_pays place) (listener_pays site))
    stmt_at (stmt.If test part None) = begun_pays _ (pays_bind _ (value_pays test) (λ v. pays_choose (truth_of v) part.1 (pays_pure Next)))
    stmt_at (stmt.If test part (Some other)) = begun_pays _ (pays_bind _ (value_pays test) (λ v. pays_choose (truth_of v) part.1 other.1))
    stmt_at (stmt.While test parts) = begun_pays _ (pays_while _ _ (value_pays test) (row_pays parts))
    stmt_at (stmt.For n items parts) = begun_pays _ (pays_for n _ _ (value_pays items) (row_pays parts))
    stmt_at stmt.Break = begun_pays _ (pays_pure Broke)
    stmt_at stmt.Continue = begun_pays _ (pays_pure Continued)
    stmt_at (stmt.Return e) = begun_pays _ (returned_pays e)
    stmt_at stmt.Die = begun_pays _ (pays_halt Died)
    stmt_at (stmt.Print text) = effect_pays _ (owes_bind _ (value_pays text) (λ v. owes_print weigh weighs v))
    stmt_at (stmt.Log text level) = effect_pays _ (owes_bind _ (value_pays text) (λ v. owes_log weigh weighs (level_number level) v))
    stmt_at (stmt.Route e) = effect_pays _ (owes_bind _ (value_pays e) (λ v. owes_route weigh weighs v))
    stmt_at (stmt.Send e to) = effect_pays _ (owes_bind _ (value_pays e) (λ event. owes_bind _ (value_pays to) (λ v. owes_send weigh weighs event v)))
    stmt_at (stmt.Spawn n es to) = effect_pays _ (spawned_owes n es to)
    stmt_at (stmt.Subscribe channel) = effect_pays _ (owes_bind _ (value_pays channel) (λ v. owes_subscribe weigh weighs v))
    stmt_at (stmt.Unsubscribe channel) = effect_pays _ (owes_bind _ (value_pays channel) (λ v. owes_unsubscribe weigh weighs v))
    stmt_at (stmt.Call e) = begun_pays _ (pays_done _ (expr_pays weigh weighs types call calls_pay e).runs)

    -- the step of the induction
    stmt_case : (x : Stmt-F Stmt) (y : Stmt-F Held) → trees y ≡ x → ForStmt (roll-Stmt x)
    unfolding stmt_of
    stmt_case x y is = subst (λ (z : Stmt-F Stmt). ForStmt (roll-Stmt z)) is (subst (λ (m : M Flow). Pays weigh m) (sym (fold-roll-Stmt (M Flow) (stmt_meant types sites call) (trees y))) (stmt_at y))

    -- each statement pays
    pub stmt_pays : (s : Stmt) → Pays weigh (meant s)
    stmt_pays = ind-Stmt ForStmt stmt_case

    -- the statements of a body
    stmts_pay : (body : List Stmt) → AllPay weigh (map meant body)
    stmts_pay [] = tt
    stmts_pay (s ∷ body) = (stmt_pays s, stmts_pay body)

    -- and each body
    pub body_pays : (body : List Stmt) → Pays weigh (body_of types sites call body)
    body_pays body = pays_row _ (stmts_pay body)
