-- A part of a body in which no fault is found leaves room: its sites, with the bodies before them, are 65,535 at most.
use Rattle.std.proofs.Common.{◌≡◌, ◌+◌, ◌<◌, ◌≤◌, ◌∷◌, ◌||◌}
use Rattle.program_laws.proofs.Common.{ℕ, length, List, [], Some, None, Bool, true, false, not, nat_le, Option, refl, ap, arith, take, drop, insert, IfSome, AllByRecursion, length-append, take-append-drop, leb-false, Spot, EventExpr, Shape, Name, TypedTerm, Stmt, Seen, SeenKind, Found, term_found, State, Around, in_callback, local_read, scoped, when, captured_in, bound_in, callback_start, site_of, on_codes, callback_read, listen_read, After, Reads}
use Rattle.stmt_check.specs.Bodies.{name_read}
use Rattle.stmt_check.specs.Statements.{Part}
use Rattle.stmt_check.specs.Steps.{◌>>=◌, pure, given, looks, reads_by, tells, changes, within, before_all, each, optional}
use Rattle.program_laws.proofs.Shapes.Lists.{no_both, no_told, no_when}

-- behind so many bodies, a part without a fault leaves room where there was room
pub record Keeps (n : ℕ) {A : Type 0} (m : Reads State A) : Type 0 where
  pub keeps : (s : State) → (m s).faults ≡ [] → n + length s.sites ≤ 65535 → n + length (m s).part.state.sites ≤ 65535

-- the same where there is room for one more
pub record Adds (n : ℕ) {A : Type 0} (m : Reads State A) : Type 0 where
  pub adds : (s : State) → (m s).faults ≡ [] → n + length s.sites < 65535 → n + length (m s).part.state.sites ≤ 65535

module _ (n : ℕ) where
  -- a part, and what is read behind it
  pub keeps_bind : {A B : Type 0} {m : Reads State A} {f : A → Reads State B} → Keeps n m → ((x : A) → Keeps n (f x)) → Keeps n (m >>= f)
  unfolding ◌>>=◌
  keeps_bind {m = m} {f = f} one two = record {
    keeps = λ s none few.
        let split = no_both (m s).faults (f (m s).part.part (m s).part.state).faults none in
        (two (m s).part.part).keeps (m s).part.state split.1 (one.keeps s split.0 few);
  }

  -- parts that leave the sites as they are: what is made
  pub keeps_pure : {A : Type 0} (x : A) → Keeps n (pure x)
  unfolding pure
  keeps_pure x = record { keeps = λ s none few. few }

  -- what depends on nothing before it
  pub keeps_given : {A : Type 0} (found : Found A) → Keeps n (given found)
  unfolding given
  keeps_given found = record { keeps = λ s none few. few }

  -- a look at what was left
  pub keeps_looks : {A : Type 0} (f : State → Found A) → Keeps n (looks f)
  unfolding looks
  keeps_looks f = record { keeps = λ s none few. few }

  -- codes
  pub keeps_tells : (spot : Spot) (codes : State → List ℕ) → Keeps n (tells spot codes)
  unfolding tells
  keeps_tells spot codes = record { keeps = λ s none few. few }

  -- a part that is chosen by the state
  pub keeps_by : {A : Type 0} {f : State → Reads State A} → ((t : State) → Keeps n (f t)) → Keeps n (reads_by f)
  unfolding reads_by
  keeps_by h = record { keeps = λ s none few. (h s).keeps s none few }

  -- the name of a local
  pub keeps_name : (name : Name) → Keeps n (name_read name)
  unfolding ◌>>=◌ tells changes
  keeps_name name = record { keeps = λ s none few. few }

  -- a local more
  pub keeps_local : (kind : SeenKind) (name : List ℕ) (shape : Option Shape) → Keeps n (local_read kind name shape)
  unfolding changes
  keeps_local kind name shape = record { keeps = λ s none few. few }

  -- a part whose names are left behind it
  pub keeps_scoped : {A : Type 0} {m : Reads State A} → Keeps n m → Keeps n (scoped m)
  unfolding within
  keeps_scoped h = record { keeps = λ s none few. h.keeps s none few }

  keeps_put : {A : Type 0} {m : Reads State (List A)} (x : A) → Keeps n m → Keeps n (before_all x m)
  unfolding before_all
  keeps_put x h = record { keeps = λ s none few. h.keeps s none few }

  -- parts in a row
  pub keeps_each : {A : Type 0} (ms : List (Reads State A)) → AllByRecursion (λ m. Keeps n m) ms → Keeps n (each ms)
  unfolding each
  keeps_each [] all = keeps_pure []
  keeps_each (m ∷ ms) all = keeps_bind all.0 (λ x. keeps_put x (keeps_each ms all.1))

  -- a part that may be there
  pub keeps_optional : {A : Type 0} (m : Option (Reads State A)) → IfSome m (λ m. Keeps n m) → Keeps n (optional m)
  unfolding optional
  keeps_optional None h = keeps_pure None
  keeps_optional (Some m) h = keeps_bind h (λ x. keeps_pure (Some x))

  -- codes that say that there is room for one more
  pub keeps_told : {A : Type 0} {m : Reads State A} (spot : Spot) (codes : State → List ℕ) → ((s : State) → codes s ≡ [] → n + length s.sites < 65535) → Adds n m → Keeps n (tells spot codes >>= λ _. m)
  unfolding ◌>>=◌ tells
  keeps_told {m = m} spot codes room h = record {
    keeps = λ s none few.
        let split = no_both _ (m s).faults none in
        h.adds s split.1 (room s (no_told spot (codes s) split.0));
  }

  -- a look, and what is added behind it
  pub adds_looks : {A B : Type 0} (look : State → Found A) {f : A → Reads State B} → ((x : A) → Adds n (f x)) → Adds n (looks look >>= f)
  unfolding ◌>>=◌ looks
  adds_looks look {f = f} h = record {
    adds = λ s none few.
        let split = no_both (look s).faults (f (look s).part s).faults none in
        (h (look s).part).adds s split.1 few;
  }

-- ---- listeners

-- a statement leaves room in each body
abbrev pub PartKeeps : Part → Type 0
PartKeeps p = (around : Around) → Keeps (around.bodies + around.callbacks) (p.reads around)

more_here : {A : Type 0} (xs : List A) (i : ℕ) (x : A) → length (insert xs i x) ≡ length xs + 1
more_here xs i x =
    let a = length-append (take i xs) (x ∷ drop i xs) in
    let b = length-append (take i xs) (drop i xs) in
    let c = ap length (take-append-drop i xs) in
    omega (arith, a, b, c)

first_false : (p q : Bool) → (p || q) ≡ false → p ≡ false
first_false true q h = cc
first_false false q h = refl

-- where a listener stands, there is room for its body
on_room : (around : Around) (takes : Bool) (s : State) → on_codes around takes s ≡ [] → around.bodies + around.callbacks + length s.sites < 65535
on_room around takes s codes =
    let split = no_both (when (not takes) 9) (when (nat_le 65535 (around.bodies + around.callbacks + length s.sites) || nat_le 65000 (length s.scope.names)) 4) codes in
    leb-false 65535 (around.bodies + around.callbacks + length s.sites) (first_false _ _ (no_when _ 4 split.1))

-- the sites of a callback, and its own
callback_adds : (around : Around) (event : EventExpr) (callback : Part) (term : TypedTerm) → PartKeeps callback → Adds (around.bodies + around.callbacks) (callback_read around event callback term)
unfolding reads_by within
callback_adds around event callback term h = record {
  adds = λ s none few.
      let captured : List Seen = captured_in callback.names s.scope.names in
      let start : State = callback_start captured (bound_in around.table s.scope event) s in
      let after : After State Stmt = (callback.reads (in_callback around) start).part in
      let inner = (h (in_callback around)).keeps start none (omega arith) in
      let long = more_here after.state.sites (length s.sites) (site_of term captured s after) in
      omega (arith, inner, long);
}

-- a listener leaves room where its callback does
pub listen_keeps : (around : Around) (takes : Bool) (spot : Spot) (event : EventExpr) (callback : Part) → PartKeeps callback → Keeps (around.bodies + around.callbacks) (listen_read around takes spot event callback)
listen_keeps around takes spot event callback h =
    keeps_told (around.bodies + around.callbacks) spot (on_codes around takes) (λ s codes. on_room around takes s codes)
    (adds_looks (around.bodies + around.callbacks) (λ s. term_found around.table s.scope event) (λ term. callback_adds around event callback term h))
