-- What statements mean. A statement is charged as it begins, but a block.
use Rattle.std.specs.Prelude.{◌∷◌, ◌++◌}
use Rattle.body_meaning.specs.Common.{ℕ, zero, suc, Bool, true, false, List, [], map, Option, Some, None, slice_get, Result, Ok, Err, Shape, EventShape, Value, TypedExpr, TypedSuffix, Site, Stmt, cost_of, default_of}
use Rattle.epl_values.specs.declared.value.Value.TheVariants as value
use Rattle.epl_tree.specs.declared.statement.Level.{Level}
use Rattle.epl_tree.specs.declared.statement.Level.TheVariants as level
use Rattle.typed_program.specs.declared.program.Local.{Local}
use Rattle.typed_program.specs.declared.statement.Stmt.{Stmt-F, fold-Stmt}
use Rattle.typed_program.specs.declared.statement.Stmt.TheOpen as stmt
use Rattle.typed_program.specs.declared.statement.TypedPlace.{TypedPlace}
use Rattle.typed_program.specs.declared.statement.Variable.TheVariants as variable
use Rattle.action_host.specs.declared.host.Fault.TheVariants as fault
use Rattle.body_meaning.specs.declared.run.Flow.{Flow}
use Rattle.body_meaning.specs.declared.run.Flow.TheVariants.{Next, Broke, Continued, Returned}
use Rattle.body_meaning.specs.declared.run.Halt.TheVariants.{Died, Spent}
use Rattle.body_meaning.specs.declared.run.Frame.{Frame}
use Rattle.body_meaning.specs.declared.run.Move.{Move}
use Rattle.body_meaning.specs.Runs.{M, ◌>>=◌, ◌>>◌, pure, halt, given, charge, look, change, choose, all}
use Rattle.body_meaning.specs.Values.{truth_of, items_of}
use Rattle.body_meaning.specs.Paths.{store, set_local, variable_in}
use Rattle.body_meaning.specs.Effects.{print, log, route, send, spawn_here, spawn_to, globals_then, subscribe, unsubscribe, listen}
use Rattle.body_meaning.specs.Expressions.{Calls, Reach, meaning_of, reach_of, value_of, all_values}

-- ---- one after another

abbrev pub is_next : Flow → Bool
is_next Next = true
is_next Broke = false
is_next Continued = false
is_next (Returned v) = false

-- while they go on
abbrev pub follow : M Flow → Flow → M Flow
follow m flow = choose (is_next flow) m (pure flow)

abbrev pub row : List (M Flow) → M Flow
row [] = pure Next
row (m ∷ ms) = m >>= follow (row ms)

-- ---- loops

-- how a loop ends after a turn, if it does
abbrev pub turn_end : Flow → Option Flow
turn_end Next = None
turn_end Continued = None
turn_end Broke = Some Next
turn_end (Returned v) = Some (Returned v)

abbrev pub unless : {A : Type 0} → Option A → M A → M A
unless None m = m
unless (Some x) m = pure x

abbrev pub again : M Flow → Flow → M Flow
again m flow = unless (turn_end flow) m

-- each turn is charged, so there are at most as many as there is fuel
unfoldable pub turns : ℕ → M Value → M Flow → M Flow
turns zero test body = halt Spent
turns (suc n) test body = charge 1 >> test >>= (λ v. choose (truth_of v) (body >>= again (turns n test body)) (pure Next))

unfoldable pub while_of : M Value → M Flow → M Flow
while_of test body = λ s. turns (suc s.scene.fuel) test body s

-- each element of a sequence, behind its charge, in a variable
abbrev pub each : ℕ → List Value → M Flow → M Flow
each n [] body = pure Next
each n (v ∷ vs) body = charge 1 >> change (set_local n v) >> body >>= again (each n vs body)

-- the elements of a sequence, which is charged
unfoldable pub elements_of : M Value → M (List Value)
elements_of m = m >>= (λ v. charge (cost_of v) >> pure (items_of v))

unfoldable pub for_of : ℕ → M Value → M Flow → M Flow
for_of n m body = elements_of m >>= (λ vs. each n vs body)

-- ---- single statements

abbrev pub done : M Value → M Flow
done m = m >> pure Next

abbrev pub set : ℕ → Value → M Flow
set n v = change (set_local n v) >> pure Next

-- a place, and then what is stored there
unfoldable pub assign : TypedPlace → List (M Move) → M Value → M Flow
assign place moves m = all moves >>= (λ to. m >>= (λ v. change (store place.variable to v) >> pure Next))

-- a step that isn't one of a path leads nowhere
abbrev pub move_of : Option (M Move) → M Move
move_of None = given (Err fault.IndexOutOfRange)
move_of (Some m) = m

-- the steps of a place that is assigned
abbrev pub moves_in : List Reach → List (M Move)
moves_in [] = []
moves_in (r ∷ rs) = move_of r.move ∷ moves_in rs

abbrev pub level_number : Level → ℕ
level_number level.Crit = 0
level_number level.Fatal = 1
level_number level.Error = 2
level_number level.Warn = 3
level_number level.Info = 4
level_number level.Debug = 5
level_number level.Trace = 6

-- the values of the names that a callback takes along
abbrev pub captured_in : List Local → Frame → List Value
captured_in captured frame = map (λ c. variable_in (variable.Local c.number) frame) captured

module _ (types : List EventShape) (sites : List Site) (call : Calls) where
  -- a listener of a site: its operands, and what its callback takes along
  abbrev pub listen_at : ℕ → Option Site → M Value
  listen_at n None = pure value.NoContext
  listen_at n (Some site) = all_values types call site.operands >>= (λ operands. look (captured_in site.captured) >>= listen n site.term operands)

  unfoldable pub listener_of : ℕ → M Value
  listener_of n = listen_at n (slice_get sites n)

  abbrev pub place_moves : TypedPlace → List (M Move)
  place_moves place = moves_in (map (reach_of types call) place.steps)

  abbrev pub returned : Option TypedExpr → M Flow
  returned None = pure (Returned None)
  returned (Some e) = value_of types call e >>= (λ v. pure (Returned (Some v)))

  abbrev pub spawned : ℕ → List TypedExpr → Option TypedExpr → M Value
  spawned n es None = all_values types call es >>= (λ arguments. globals_then (spawn_here n arguments))
  spawned n es (Some to) = all_values types call es >>= (λ arguments. value_of types call to >>= spawn_to n arguments)

  abbrev pub otherwise : Option (M Flow) → M Flow
  otherwise None = pure Next
  otherwise (Some m) = m

  -- a statement behind its charge
  abbrev pub begun : M Flow → M Flow
  begun m = charge 1 >> m

  abbrev pub stmt_meant : Stmt-F (M Flow) → M Flow
  stmt_meant (stmt.Block parts) = row parts
  stmt_meant (stmt.On site) = begun (done (listener_of site))
  stmt_meant (stmt.Declare n s) = begun (set n (default_of types s))
  stmt_meant (stmt.DeclareAs n e) = begun (value_of types call e >>= set n)
  stmt_meant (stmt.DeclareOn n site) = begun (listener_of site >>= set n)
  stmt_meant (stmt.Assign place e) = begun (assign place (place_moves place) (value_of types call e))
  stmt_meant (stmt.AssignOn place site) = begun (assign place (place_moves place) (listener_of site))
  stmt_meant (stmt.If test part other) = begun (value_of types call test >>= (λ v. choose (truth_of v) part (otherwise other)))
  stmt_meant (stmt.While test parts) = begun (while_of (value_of types call test) (row parts))
  stmt_meant (stmt.For n items parts) = begun (for_of n (value_of types call items) (row parts))
  stmt_meant stmt.Break = begun (pure Broke)
  stmt_meant stmt.Continue = begun (pure Continued)
  stmt_meant (stmt.Return e) = begun (returned e)
  stmt_meant stmt.Die = begun (halt Died)
  stmt_meant (stmt.Print text) = begun (done (value_of types call text >>= print))
  stmt_meant (stmt.Log text l) = begun (done (value_of types call text >>= log (level_number l)))
  stmt_meant (stmt.Route e) = begun (done (value_of types call e >>= route))
  stmt_meant (stmt.Send e to) = begun (done (value_of types call e >>= (λ event. value_of types call to >>= send event)))
  stmt_meant (stmt.Spawn n es to) = begun (done (spawned n es to))
  stmt_meant (stmt.Subscribe channel) = begun (done (value_of types call channel >>= subscribe))
  stmt_meant (stmt.Unsubscribe channel) = begun (done (value_of types call channel >>= unsubscribe))
  stmt_meant (stmt.Call e) = begun (done (meaning_of types call e).run)

  unfoldable pub stmt_of : Stmt → M Flow
  stmt_of = fold-Stmt (M Flow) stmt_meant

  abbrev pub body_of : List Stmt → M Flow
  body_of body = row (map stmt_of body)
