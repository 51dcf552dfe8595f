-- Statements in a row, loops, and what is assigned, put together from parts that keep the shapes of variables.
use Rattle.std.proofs.Common.{◌≡◌, ◌∷◌}
use Rattle.typed_runs.proofs.Common.{ℕ, zero, suc, List, [], Some, slice_get, AllByRecursion, Shape, Value, Program, TypedPlace, cost_of, Flow, Next, Broke, Continued, Returned, Spent, Move, M, truth_of, store, set_local, is_next, row, again, set, Fit, Keeps}
use Rattle.body_meaning.specs.Values.{items_of}
use Rattle.body_meaning.specs.Statements.{turns, while_of, each, elements_of, for_of, done, assign}
use Rattle.typed_runs.proofs.Keeping.{Any, keeps_pure, keeps_halt, keeps_charge, keeps_bind, keeps_seq, keeps_choose, leaves_change}
use Rattle.typed_runs.proofs.Variables.{shape_at, store_fits, set_local_fits}
use Rattle.typed_runs.proofs.Stepping.{Steps, keeps_moves}

-- the elements of a sequence, behind their charge
module _ {program : Program} {monitor : ℕ} {room : List Shape} where
  -- the elements of a value
  keeps_elements : (s : Shape) (m : M Value) → Keeps program monitor room (λ v. AllByRecursion (λ w. Fit program.types w s) (items_of v)) m → Keeps program monitor room (λ vs. AllByRecursion (λ w. Fit program.types w s) vs) (elements_of m)
  unfolding elements_of
  keeps_elements s m k = keeps_bind _ k (λ v h. keeps_seq (keeps_charge (cost_of v)) (keeps_pure (items_of v) h))

module _ {program : Program} {monitor : ℕ} {room : List Shape} {Q : Flow → Type 0} (next : Q Next) where
  -- statements in a row
  pub keeps_row : (ms : List (M Flow)) → AllByRecursion (Keeps program monitor room Q) ms → Keeps program monitor room Q (row ms)
  keeps_row [] h = keeps_pure Next next
  keeps_row (m ∷ ms) h = keeps_bind _ h.0 (λ flow q. keeps_choose (is_next flow) (keeps_row ms h.1) (keeps_pure flow q))

  -- a turn behind a flow
  keeps_again : (m : M Flow) (flow : Flow) → Q flow → Keeps program monitor room Q m → Keeps program monitor room Q (again m flow)
  keeps_again m Next q k = k
  keeps_again m Continued q k = k
  keeps_again m Broke q k = keeps_pure Next next
  keeps_again m (Returned v) q k = keeps_pure (Returned v) q

  -- turns of a loop
  keeps_turns : (n : ℕ) (test : M Value) (body : M Flow) → Keeps program monitor room Any test → Keeps program monitor room Q body → Keeps program monitor room Q (turns n test body)
  unfolding turns
  keeps_turns zero test body t b = keeps_halt Spent
  keeps_turns (suc n) test body t b = keeps_bind _ (keeps_seq (keeps_charge 1) t) (λ v any. keeps_choose (truth_of v) (keeps_bind _ b (λ flow q. keeps_again (turns n test body) flow q (keeps_turns n test body t b))) (keeps_pure Next next))

  -- a loop that tests
  pub keeps_while : (test : M Value) (body : M Flow) → Keeps program monitor room Any test → Keeps program monitor room Q body → Keeps program monitor room Q (while_of test body)
  unfolding while_of
  keeps_while test body t b = record { from = λ s f. (keeps_turns (suc s.scene.fuel) test body t b).from s f }

  -- a loop over values
  keeps_each : (n : ℕ) (s : Shape) (vs : List Value) (body : M Flow) → slice_get room n ≡ Some s → AllByRecursion (λ v. Fit program.types v s) vs → Keeps program monitor room Q body → Keeps program monitor room Q (each n vs body)
  keeps_each n s [] body is h b = keeps_pure Next next
  keeps_each n s (v ∷ vs) body is h b = keeps_bind _ (keeps_seq (keeps_seq (keeps_charge 1) (leaves_change (set_local n v) (λ old new f e. set_local_fits program monitor room n s v old new is h.0 f e))) b) (λ flow q. keeps_again (each n vs body) flow q (keeps_each n s vs body is h.1 b))

  -- a loop over the elements of a sequence
  pub keeps_for : (n : ℕ) (s : Shape) (m : M Value) (body : M Flow) → slice_get room n ≡ Some s → Keeps program monitor room (λ v. AllByRecursion (λ w. Fit program.types w s) (items_of v)) m → Keeps program monitor room Q body → Keeps program monitor room Q (for_of n m body)
  unfolding for_of
  keeps_for n s m body is k b = keeps_bind _ (keeps_elements s m k) (λ vs h. keeps_each n s vs body is h b)

  -- a run whose value is dropped
  pub keeps_done : (m : M Value) → Keeps program monitor room Any m → Keeps program monitor room Q (done m)
  keeps_done m k = keeps_seq k (keeps_pure Next next)

  -- a local with another value
  pub keeps_set : (n : ℕ) (s : Shape) (v : Value) → slice_get room n ≡ Some s → Fit program.types v s → Keeps program monitor room Q (set n v)
  keeps_set n s v is h = keeps_seq (leaves_change (set_local n v) (λ old new f e. set_local_fits program monitor room n s v old new is h f e)) (keeps_pure Next next)

  -- a place with another value
  pub keeps_assign : (place : TypedPlace) (moves : List (M Move)) (m : M Value) (s t : Shape) → shape_at program monitor room place.variable ≡ Some s → Steps program monitor room s moves t → Keeps program monitor room (λ v. Fit program.types v t) m → Keeps program monitor room Q (assign place moves m)
  unfolding assign
  keeps_assign place moves m s t is leads k = keeps_bind _ (keeps_moves program monitor room s t moves leads) (λ to l. keeps_bind _ k (λ v h. keeps_seq (leaves_change (store place.variable to v) (λ old new f e. store_fits program monitor room place.variable s t to v old new is l h f e)) (keeps_pure Next next)))
