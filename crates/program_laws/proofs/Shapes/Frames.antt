-- A body while it is read: what its state says, what the finished program must have for it, and what then holds of a part.
use Rattle.std.proofs.Common.{◌≡◌, ◌+◌, ◌<◌, ◌≤◌}
use Rattle.program_laws.proofs.Common.{ℕ, length, List, [], Some, true, Option, refl, sym, subst, arith, slice_get, AllByRecursion, list_all, inl, inr, cases_lt, Spot, Shape, Program, Site, Names, names_in, site_so, is_there, stands, Body, Scope, ActionHead, Table, Found, KnowsName, KnowsAction, KnowsType, action_named, State, captured_in, After, Reads}
use Rattle.std.specs.Prelude.{◌⊎◌}
use Rattle.stmt_check.specs.Bodies.{action_named as head_named}
use Rattle.stmt_check.specs.Captures.{Names as Named}
use Rattle.stmt_check.specs.Steps.{done, ◌>>=◌, pure, given, looks, reads_by, tells}
use Rattle.program_laws.proofs.Shapes.Lists.{Extends, extends_same, extends_on, no_both, no_told}
use Rattle.program_laws.proofs.Shapes.Rising.{Rising}

-- ---- what is known

-- a text whose named names are known: table, scope and numbers speak of the same things there
pub record KnowsNamed (named : Named) (table : Table) (names : Names) (scope : Scope) : Type 0 where
  pub types : table.types ≡ names.types
  pub few : length names.types ≤ 65535
  pub kinds : AllByRecursion (KnowsType names.types) names.types
  pub seen : AllByRecursion (λ s. named s.name ≡ true → KnowsName names s) scope.names
  pub actions : (name : List ℕ) (head : ActionHead) → action_named table scope name ≡ Some head → KnowsAction names head

-- the finished program as the table tells it for a monitor
pub record World (program : Program) (table : Table) (monitor : ℕ) : Type 0 where
  pub there : is_there program monitor ≡ true
  pub types : table.types ≡ program.types
  pub few : length program.types ≤ 1000
  pub kinds : AllByRecursion (KnowsType program.types) program.types
  pub actions : (locals : List Shape) (name : List ℕ) (head : ActionHead) → head_named table monitor name ≡ Some head → KnowsAction (names_in program monitor locals) head

-- a body that is read: in how many callbacks it stands, how many parameters it has, what its result is, and which names are
-- named in it
pub record Frame : Type 0 where
  pub program : Program
  pub monitor : ℕ
  pub callbacks : ℕ
  pub base : ℕ
  pub result : Option Shape
  pub named : Named

-- the finished body with these parameters and locals
abbrev pub names_of : Frame → List Shape → Names
names_of f locals = names_in f.program f.monitor locals

abbrev pub body_of : Frame → List Shape → Body
body_of f locals = record { names = names_of f locals; sites = f.program.sites; result = f.result }

-- ---- states

-- what a state says in a body with these parameters and locals, where so many locals are counted but not made yet
pub record Before (f : Frame) (slack : ℕ) (all : List Shape) (s : State) : Type 0 where
  pub monitor : s.scope.monitor ≡ f.monitor
  pub visible : s.scope.actions ≡ true
  pub seen : AllByRecursion (λ x. f.named x.name ≡ true → KnowsName (names_of f all) x) s.scope.names
  pub rises : Rising 0 (captured_in f.named s.scope.names) s.next
  pub next : s.next ≡ f.base + length s.locals
  pub small : f.base ≤ 65064
  pub room : length s.locals + slack ≤ s.whole
  pub whole : s.whole ≤ 256
  pub stand : list_all (stands f.program.types) s.locals ≡ true

-- the finished lists have what was made between two states: each local behind the parameters, each site at its number
pub record Fits (f : Frame) (all : List Shape) (s t : State) : Type 0 where
  pub locals : (i : ℕ) (x : Shape) → slice_get t.locals i ≡ Some x → slice_get all (f.base + i) ≡ Some x
  pub sites : (i : ℕ) (x : Site) → length s.sites ≤ i → slice_get t.sites i ≡ Some x → slice_get f.program.sites (f.callbacks + i) ≡ Some x

-- the sites of the program with these numbers are as they should be
abbrev pub SitesHold : Program → ℕ → ℕ → Type 0
SitesHold program from to = (i : ℕ) (x : Site) → from ≤ i → i < to → slice_get program.sites i ≡ Some x → site_so program x ≡ true

-- what holds behind a part
pub record Held (f : Frame) (slack : ℕ) (all : List Shape) (Q : Type 0) (s t : State) : Type 0 where
  pub part : Q
  pub before : Before f slack all t
  pub grows : s.whole ≤ t.whole
  pub sites : SitesHold f.program (f.callbacks + length s.sites) (f.callbacks + length t.sites)

-- a part that is read: locals and sites are only added, and where it has no fault the part is as it should be in each finished
-- body that fits
pub record Claim (f : Frame) (slack left : ℕ) {A : Type 0} (H : List Shape → Type 0) (Q : List Shape → A → Type 0) (s : State) (found : Found (After State A)) : Type 0 where
  pub locals : Extends s.locals found.part.state.locals
  pub sites : Extends s.sites found.part.state.sites
  pub holds : (all : List Shape) → H all → found.faults ≡ [] → Fits f all s found.part.state → Before f slack all s → Held f left all (Q all found.part.part) s found.part.state

-- ---- one part behind another

sites_near : (program : Program) (a b c i : ℕ) (x : Site) → SitesHold program a b → SitesHold program b c → a ≤ i → i < c → slice_get program.sites i ≡ Some x → ((i < b) ⊎ (b ≤ i)) → site_so program x ≡ true
sites_near program a b c i x h k from to e (inl lt) = h i x from lt e
sites_near program a b c i x h k from to e (inr le) = k i x le to e

pub sites_both : (program : Program) (a b c : ℕ) → SitesHold program a b → SitesHold program b c → SitesHold program a c
sites_both program a b c h k i x from to e = sites_near program a b c i x h k from to e (cases_lt i b)

pub sites_none : (program : Program) (a : ℕ) → SitesHold program a a
sites_none program a i x from to e = absurd (omega arith)

module _ (f : Frame) where
  -- the lists have what a first part makes
  pub fits_first : {locals : List Shape} {s t u : State} → Extends t.locals u.locals → Extends t.sites u.sites → Fits f locals s u → Fits f locals s t
  fits_first h k fits = record { locals = λ i x e. fits.locals i x (h.at i x e); sites = λ i x from e. fits.sites i x from (k.at i x e) }

  -- and what a second one makes
  pub fits_second : {locals : List Shape} {s t u : State} → length s.sites ≤ length t.sites → Fits f locals s u → Fits f locals t u
  fits_second {s = s} {t = t} le fits = record { locals = fits.locals; sites = λ i x from e. fits.sites i x (omega arith) e }

  -- a part, and what is read behind it
  pub claim_bind : {a b c : ℕ} {A B : Type 0} {H : List Shape → Type 0} {Q : List Shape → A → Type 0} {R : List Shape → B → Type 0} (m : Reads State A) (n : A → Reads State B) (s : State)
      → Claim f a b H Q s (m s)
      → Claim f b c (λ locals. H locals × Q locals (m s).part.part) R (m s).part.state (n (m s).part.part (m s).part.state)
      → Claim f a c H R s ((m >>= n) s)
  unfolding ◌>>=◌
  claim_bind {H = H} {Q = Q} {R = R} m n s first second = record {
    locals = extends_on first.locals second.locals;
    sites = extends_on first.sites second.sites;
    holds = λ locals h none fits before.
        let split = no_both (m s).faults (n (m s).part.part (m s).part.state).faults none in
        let one = first.holds locals h split.0 (fits_first second.locals second.sites fits) before in
        let two = second.holds locals (h, one.part) split.1 (fits_second first.sites.long fits) one.before in
        record { part = two.part; before = two.before; grows = (let p = one.grows in let q = two.grows in omega arith); sites = sites_both f.program _ (f.callbacks + length (m s).part.state.sites) _ one.sites two.sites };
  }

  -- a part that changes nothing
  pub claim_still : {k : ℕ} {A : Type 0} {H : List Shape → Type 0} {Q : List Shape → A → Type 0} (s : State) (found : Found (After State A)) → found.part.state ≡ s
      → ((locals : List Shape) → H locals → found.faults ≡ [] → Before f k locals s → Q locals found.part.part)
      → Claim f k k H Q s found
  claim_still {k = k} {H = H} {Q = Q} s found same g = record {
    locals = subst (λ (t : State). Extends s.locals t.locals) (sym same) (extends_same s.locals);
    sites = subst (λ (t : State). Extends s.sites t.sites) (sym same) (extends_same s.sites);
    holds = λ locals h none fits before. subst (λ (t : State). Held f k locals (Q locals found.part.part) s t) (sym same) (record { part = g locals h none before; before = before; grows = omega arith; sites = sites_none f.program _ });
  }

  -- what is known before is known here; the part is seen in another way
  pub claim_as : {a b : ℕ} {A : Type 0} {H K : List Shape → Type 0} {Q R : List Shape → A → Type 0} {s : State} {found : Found (After State A)}
      → ((locals : List Shape) → K locals → H locals)
      → ((locals : List Shape) → K locals → Q locals found.part.part → R locals found.part.part)
      → Claim f a b H Q s found → Claim f a b K R s found
  claim_as g q claim = record {
    locals = claim.locals;
    sites = claim.sites;
    holds = λ locals h none fits before.
        let held = claim.holds locals (g locals h) none fits before in
        record { part = q locals h held.part; before = held.before; grows = held.grows; sites = held.sites };
  }

  -- what the state says is known here too
  pub claim_known : {a b : ℕ} {A : Type 0} {H : List Shape → Type 0} (K : List Shape → Type 0) {Q : List Shape → A → Type 0} {s : State} {found : Found (After State A)}
      → ((all : List Shape) → Before f a all s → K all)
      → Claim f a b (λ all. H all × K all) Q s found → Claim f a b H Q s found
  claim_known K g claim = record {
    locals = claim.locals;
    sites = claim.sites;
    holds = λ all h none fits before.
        let held = claim.holds all (h, g all before) none fits before in
        record { part = held.part; before = held.before; grows = held.grows; sites = held.sites };
  }

  -- a part that is chosen by the state
  pub claim_by : {a b : ℕ} {A : Type 0} {H : List Shape → Type 0} {Q : List Shape → A → Type 0} (choose : State → Reads State A) (s : State) → Claim f a b H Q s (choose s s) → Claim f a b H Q s (reads_by choose s)
  unfolding reads_by
  claim_by choose s claim = claim

  pub claim_pure : {k : ℕ} {A : Type 0} {H : List Shape → Type 0} {Q : List Shape → A → Type 0} (x : A) (s : State) → ((locals : List Shape) → H locals → Q locals x) → Claim f k k H Q s (pure x s)
  unfolding pure
  claim_pure x s g = claim_still s (done x s) refl (λ locals h none before. g locals h)

  pub claim_given : {k : ℕ} {A : Type 0} {H : List Shape → Type 0} {Q : List Shape → A → Type 0} (found : Found A) (s : State) → ((locals : List Shape) → H locals → found.faults ≡ [] → Q locals found.part) → Claim f k k H Q s (given found s)
  unfolding given
  claim_given found s g = claim_still s (given found s) refl (λ locals h none before. g locals h none)

  pub claim_looks : {k : ℕ} {A : Type 0} {H : List Shape → Type 0} {Q : List Shape → A → Type 0} (look : State → Found A) (s : State) → ((locals : List Shape) → H locals → (look s).faults ≡ [] → Before f k locals s → Q locals (look s).part) → Claim f k k H Q s (looks look s)
  unfolding looks
  claim_looks look s g = claim_still s (looks look s) refl g

  pub claim_tells : {k : ℕ} {H : List Shape → Type 0} (spot : Spot) (codes : State → List ℕ) (s : State) → Claim f k k H (λ locals x. codes s ≡ []) s (tells spot codes s)
  unfolding tells
  claim_tells spot codes s = claim_still s (tells spot codes s) refl (λ locals h none before. no_told spot (codes s) none)
