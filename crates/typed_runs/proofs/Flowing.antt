-- How statements end, put together: what is said of their flow, whatever state they begin in.
use Rattle.std.proofs.Common.{◌≡◌, ◌∷◌}
use Rattle.typed_runs.proofs.Common.{ℕ, zero, suc, Bool, true, false, List, [], Shape, Value, Program, TypedPlace, Move, Ending, Reading, Visible, Flow, Next, Broke, Continued, Returned, Halt, Spent, State, Did, Outcome, Went, Ended, M, then_do, choose, truth_of, is_next, again, OutcomeFits, Keeps}
use Rattle.body_meaning.specs.Runs.{behind, ◌>>=◌, ◌>>◌, pure, halt}
use Rattle.body_meaning.specs.Statements.{follow, turns, while_of, each, for_of, assign}
use Rattle.typed_runs.proofs.Keeping.{Any}

-- what is said of the value of a run that went on
abbrev pub WentSo : {A : Type 0} → (A → Type 0) → Outcome A → Type 0
WentSo Q (Went did x s) = Q x
WentSo Q (Ended did why s) = Unit {0}

-- a run gives such values, from whatever state
pub record Gives {A : Type 0} (Q : A → Type 0) (m : M A) : Type 0 where
  pub at : (s : State) → WentSo Q (m s)

-- ---- single runs

-- a value that is only told
pub gives_pure : {A : Type 0} {Q : A → Type 0} (x : A) → Q x → Gives Q (pure x)
unfolding pure
gives_pure x q = record { at = λ s. q }

-- an end
pub gives_halt : {A : Type 0} {Q : A → Type 0} (why : Halt) → Gives Q (halt why)
unfolding halt
gives_halt why = record { at = λ s. tt }

-- the same behind what was done before
behind_so : {A : Type 0} (Q : A → Type 0) (before : Did) (o : Outcome A) → WentSo Q o → WentSo Q (behind before o)
behind_so Q before (Went did x s) h = h
behind_so Q before (Ended did why s) h = h

-- one run that gave such a value, and then another
then_so : {A B : Type 0} (Q : A → Type 0) (R : B → Type 0) (o : Outcome A) (go : A → M B) → WentSo Q o → ((x : A) → Q x → Gives R (go x)) → WentSo R (then_do o go)
then_so Q R (Went did x s) go q h = behind_so R did (go x s) ((h x q).at s)
then_so Q R (Ended did why s) go q h = tt

-- one run that gave any value, and then another
any_so : {A B : Type 0} (R : B → Type 0) (o : Outcome A) (go : A → M B) → ((x : A) → Gives R (go x)) → WentSo R (then_do o go)
any_so R (Went did x s) go h = behind_so R did (go x s) ((h x).at s)
any_so R (Ended did why s) go h = tt

-- one run, and then the one that its value chooses
pub gives_bind : {A B : Type 0} {Q : A → Type 0} {R : B → Type 0} {m : M A} (go : A → M B) → Gives Q m → ((x : A) → Q x → Gives R (go x)) → Gives R (m >>= go)
unfolding ◌>>=◌
gives_bind {Q = Q} {R} {m} go a h = record { at = λ s. then_so Q R (m s) go (a.at s) h }

-- the same, whatever the first one gives
pub gives_after : {A B : Type 0} {R : B → Type 0} (m : M A) (go : A → M B) → ((x : A) → Gives R (go x)) → Gives R (m >>= go)
unfolding ◌>>=◌
gives_after {R = R} m go h = record { at = λ s. any_so R (m s) go h }

-- one run, and then another
pub gives_seq : {A B : Type 0} {R : B → Type 0} (m : M A) {n : M B} → Gives R n → Gives R (m >> n)
unfolding ◌>>◌
gives_seq {R = R} m {n} h = record { at = λ s. any_so R (m s) (λ _. n) (λ _. h) }

-- either of two
pub gives_choose : {A : Type 0} {Q : A → Type 0} (b : Bool) {m n : M A} → Gives Q m → Gives Q n → Gives Q (choose b m n)
gives_choose true a b = a
gives_choose false a b = b

-- less is said of an outcome
as_so : {A : Type 0} (Q R : A → Type 0) (o : Outcome A) → ((x : A) → Q x → R x) → WentSo Q o → WentSo R o
as_so Q R (Went did x s) k h = k x h
as_so Q R (Ended did why s) k h = tt

-- nothing is said of an outcome
nothing_so : {A : Type 0} (o : Outcome A) → WentSo Any o
nothing_so (Went did x s) = tt
nothing_so (Ended did why s) = tt

-- nothing is said
pub gives_any : {A : Type 0} (m : M A) → Gives Any m
gives_any m = record { at = λ s. nothing_so (m s) }

-- less is said
pub gives_as : {A : Type 0} {Q R : A → Type 0} {m : M A} → ((x : A) → Q x → R x) → Gives Q m → Gives R m
gives_as {Q = Q} {R} {m} k a = record { at = λ s. as_so Q R (m s) k (a.at s) }

-- both are said of an outcome
both_so : {A : Type 0} (Q R : A → Type 0) (o : Outcome A) → WentSo Q o → WentSo R o → WentSo (λ x. Q x × R x) o
both_so Q R (Went did x s) a b = (a, b)
both_so Q R (Ended did why s) a b = tt

-- both are said
pub gives_both : {A : Type 0} {Q R : A → Type 0} {m : M A} → Gives Q m → Gives R m → Gives (λ x. Q x × R x) m
gives_both {Q = Q} {R} {m} a b = record { at = λ s. both_so Q R (m s) (a.at s) (b.at s) }

-- both are said of an outcome that keeps the shapes of variables
kept_so : {A : Type 0} (program : Program) (monitor : ℕ) (room : List Shape) (Q R : A → Type 0) (o : Outcome A) → OutcomeFits program monitor room Q o → WentSo R o → OutcomeFits program monitor room (λ x. Q x × R x) o
kept_so program monitor room Q R (Went did x s) a b = (a.0, a.1, (a.2, b))
kept_so program monitor room Q R (Ended did why s) a b = a

-- a run that keeps the shapes of variables, and gives such values
pub keeps_gives : {A : Type 0} {program : Program} {monitor : ℕ} {room : List Shape} {Q R : A → Type 0} {m : M A} → Keeps program monitor room Q m → Gives R m → Keeps program monitor room (λ x. Q x × R x) m
keeps_gives {program = program} {monitor} {room} {Q} {R} {m} a b = record { from = λ s f. kept_so program monitor room Q R (m s) (a.from s f) (b.at s) }

-- ---- flows

-- `break` and `continue` stand in loops
abbrev pub Stays : Bool → Flow → Type 0
Stays looped Broke = looped ≡ true
Stays looped Continued = looped ≡ true
Stays looped flow = Unit {0}

-- it isn't gone on behind
abbrev pub IsEnd : Flow → Type 0
IsEnd Next = ⊥
IsEnd flow = Unit {0}

-- the body returns
abbrev pub IsReturn : Flow → Type 0
IsReturn (Returned v) = Unit {0}
IsReturn flow = ⊥

-- outside of loops, what isn't gone on behind returns
pub returns_so : (flow : Flow) → Stays false flow → IsEnd flow → IsReturn flow
returns_so Next a b = b
returns_so Broke a b = cc
returns_so Continued a b = cc
returns_so (Returned v) a b = tt

-- statements behind a flow
pub follow_so : {Q : Flow → Type 0} (m : M Flow) (flow : Flow) → Gives Q m → Q flow → Gives Q (follow m flow)
follow_so m flow h q = gives_choose (is_next flow) h (gives_pure flow q)

-- an end behind any flow
pub follow_ends : (m : M Flow) (flow : Flow) → Gives IsEnd m → Gives IsEnd (follow m flow)
follow_ends m Next h = h
follow_ends m Broke h = gives_pure Broke tt
follow_ends m Continued h = gives_pure Continued tt
follow_ends m (Returned v) h = gives_pure (Returned v) tt

-- a flow that isn't gone on behind
pub stop_ends : (m : M Flow) (flow : Flow) → IsEnd flow → Gives IsEnd (follow m flow)
stop_ends m Next q = absurd q
stop_ends m Broke q = gives_pure Broke tt
stop_ends m Continued q = gives_pure Continued tt
stop_ends m (Returned v) q = gives_pure (Returned v) tt

-- a turn behind a flow
again_stays : (looped : Bool) (m : M Flow) (flow : Flow) → Gives (Stays looped) m → Gives (Stays looped) (again m flow)
again_stays looped m Next h = h
again_stays looped m Continued h = h
again_stays looped m Broke h = gives_pure Next tt
again_stays looped m (Returned v) h = gives_pure (Returned v) tt

-- turns of a loop
turns_stay : (looped : Bool) (n : ℕ) (test : M Value) (body : M Flow) → Gives (Stays looped) (turns n test body)
unfolding turns
turns_stay looped zero test body = gives_halt Spent
turns_stay looped (suc n) test body = gives_after _ _ (λ v. gives_choose (truth_of v) (gives_after body _ (λ flow. again_stays looped (turns n test body) flow (turns_stay looped n test body))) (gives_pure Next tt))

-- out of a loop nothing breaks
pub while_stays : (looped : Bool) (test : M Value) (body : M Flow) → Gives (Stays looped) (while_of test body)
unfolding while_of
while_stays looped test body = record { at = λ s. (turns_stay looped (suc s.scene.fuel) test body).at s }

-- a loop over elements
each_stays : (looped : Bool) (n : ℕ) (vs : List Value) (body : M Flow) → Gives (Stays looped) (each n vs body)
each_stays looped n [] body = gives_pure Next tt
each_stays looped n (v ∷ vs) body = gives_after _ _ (λ flow. again_stays looped (each n vs body) flow (each_stays looped n vs body))

-- a loop over a sequence
pub for_stays : (looped : Bool) (n : ℕ) (m : M Value) (body : M Flow) → Gives (Stays looped) (for_of n m body)
unfolding for_of
for_stays looped n m body = gives_after _ _ (λ vs. each_stays looped n vs body)

-- an assignment goes on
pub assign_stays : (looped : Bool) (place : TypedPlace) (moves : List (M Move)) (m : M Value) → Gives (Stays looped) (assign place moves m)
unfolding assign
assign_stays looped place moves m = gives_after _ _ (λ to. gives_after _ _ (λ v. gives_seq _ (gives_pure Next tt)))

-- ---- rows

-- a statement as it is read, as it ends, and as it runs
pub record Flows (reading : Reading) (ending : Ending) (m : M Flow) : Type 0 where
  pub stays : (visible : List Visible) (looped : Bool) → (reading visible looped).lawful ≡ true → Gives (Stays looped) m
  pub ends_last : ending.last ≡ true → Gives IsEnd m
  pub ends_part : ending.part ≡ true → Gives IsEnd m
