-- Claims of parts whose conclusions also speak of the state behind the part, and how they are put together.
use Rattle.std.proofs.Common.{◌≡◌, ◌+◌, ◌≤◌, ◌∷◌}
use Rattle.program_laws.proofs.Common.{ℕ, length, List, [], Option, Some, None, sym, subst, Spot, Shape, Found, State, scoped, left, After, Reads}
use Rattle.stmt_check.specs.Steps.{◌>>=◌, pure, given, looks, reads_by, tells, within, before_all, optional}
use Rattle.program_laws.proofs.Shapes.Frames.{Frame, Before, Fits, Claim, claim_bind, claim_pure, claim_given, claim_looks, claim_tells, claim_by, claim_as, claim_known, fits_first, fits_second}
use Rattle.program_laws.proofs.Shapes.Lists.{no_both}
use Rattle.program_laws.proofs.Rules.Sites.{SitesKeep, keep_both, keep_none}
use Rattle.program_laws.proofs.Shapes.Locals.{scoped_claim}

-- a claim of a part, and of the state that it leaves; the sites that it makes keep the rules by themselves
pub record Claims (f : Frame) (slack left : ℕ) {A : Type 0} (H : List Shape → Type 0) (Q : List Shape → A → State → Type 0) (s : State) (found : Found (After State A)) : Type 0 where
  pub claim : Claim f slack left H (λ all x. Q all x found.part.state) s found
  pub sites : (all : List Shape) → H all → found.faults ≡ [] → Fits f all s found.part.state → Before f slack all s → SitesKeep f.program (f.callbacks + length s.sites) (f.callbacks + length found.part.state.sites)

-- a claim that says nothing of the state, of a part that makes no sites
pub claims_of : {f : Frame} {a b : ℕ} {A : Type 0} {H : List Shape → Type 0} {Q : List Shape → A → Type 0} {s : State} {found : Found (After State A)} → length found.part.state.sites ≡ length s.sites → Claim f a b H Q s found → Claims f a b H (λ all x t. Q all x) s found
claims_of {f = f} {s = s} same claim = record { claim = claim; sites = λ all h none fits before. subst (λ (n : ℕ). SitesKeep f.program (f.callbacks + length s.sites) (f.callbacks + n)) (sym same) (keep_none f.program _) }

module _ (f : Frame) where
  -- a part, and what is read behind it
  pub law_bind : {a b c : ℕ} {A B : Type 0} {H : List Shape → Type 0} {Q : List Shape → A → State → Type 0} {R : List Shape → B → State → Type 0} (m : Reads State A) (n : A → Reads State B) (s : State)
      → Claims f a b H Q s (m s)
      → Claims f b c (λ all. H all × Q all (m s).part.part (m s).part.state) R (m s).part.state (n (m s).part.part (m s).part.state)
      → Claims f a c H R s ((m >>= n) s)
  unfolding ◌>>=◌
  law_bind m n s first second = record {
    claim = claim_bind f m n s first.claim second.claim;
    sites = λ all h none fits before.
        let split = no_both (m s).faults (n (m s).part.part (m s).part.state).faults none in
        let front = fits_first f second.claim.locals second.claim.sites fits in
        let one = first.claim.holds all h split.0 front before in
        keep_both f.program _ (f.callbacks + length (m s).part.state.sites) _
        (first.sites all h split.0 front before)
        (second.sites all (h, one.part) split.1 (fits_second f first.claim.sites.long fits) one.before);
  }

  -- a part that is seen in another way, where what is known before is known
  pub law_as : {a b : ℕ} {A : Type 0} {H K : List Shape → Type 0} {Q R : List Shape → A → State → Type 0} {s : State} {found : Found (After State A)}
      → ((all : List Shape) → K all → H all)
      → ((all : List Shape) → K all → Q all found.part.part found.part.state → R all found.part.part found.part.state)
      → Claims f a b H Q s found → Claims f a b K R s found
  law_as g q claims = record { claim = claim_as f g q claims.claim; sites = λ all h none fits before. claims.sites all (g all h) none fits before }

  -- also by what the state says there, and how many sites there are behind it
  pub law_more : {a b : ℕ} {A : Type 0} {H K : List Shape → Type 0} {Q R : List Shape → A → State → Type 0} {s : State} {found : Found (After State A)}
      → ((all : List Shape) → K all → H all)
      → ((all : List Shape) → K all → found.faults ≡ [] → Before f a all s → length s.sites ≤ length found.part.state.sites → Q all found.part.part found.part.state → R all found.part.part found.part.state)
      → Claims f a b H Q s found → Claims f a b K R s found
  law_more g q claims = record {
    claim = record {
      locals = claims.claim.locals;
      sites = claims.claim.sites;
      holds = λ all h none fits before.
          let held = claims.claim.holds all (g all h) none fits before in
          record { part = q all h none before claims.claim.sites.long held.part; before = held.before; grows = held.grows; sites = held.sites };
    };
    sites = λ all h none fits before. claims.sites all (g all h) none fits before;
  }

  -- by what the finished lists have of it
  pub law_fits : {a b : ℕ} {A : Type 0} {H : List Shape → Type 0} {Q : List Shape → A → Type 0} {R : List Shape → A → State → Type 0} {s : State} {found : Found (After State A)}
      → ((all : List Shape) → H all → found.faults ≡ [] → Fits f all s found.part.state → Before f a all s → length s.sites ≤ length found.part.state.sites → R all found.part.part found.part.state × SitesKeep f.program (f.callbacks + length s.sites) (f.callbacks + length found.part.state.sites))
      → Claim f a b H Q s found → Claims f a b H R s found
  law_fits q claim = record {
    claim = record {
      locals = claim.locals;
      sites = claim.sites;
      holds = λ all h none fits before.
          let held = claim.holds all h none fits before in
          record { part = (q all h none fits before claim.sites.long).0; before = held.before; grows = held.grows; sites = held.sites };
    };
    sites = λ all h none fits before. (q all h none fits before claim.sites.long).1;
  }

  -- two claims of one part
  pub law_both : {a b : ℕ} {A : Type 0} {H : List Shape → Type 0} {Q R : List Shape → A → State → Type 0} {s : State} {found : Found (After State A)}
      → Claims f a b H Q s found → Claims f a b H R s found → Claims f a b H (λ all x t. Q all x t × R all x t) s found
  law_both one other = record {
    claim = record {
      locals = one.claim.locals;
      sites = one.claim.sites;
      holds = λ all h none fits before.
          let first = one.claim.holds all h none fits before in
          let second = other.claim.holds all h none fits before in
          record { part = (first.part, second.part); before = first.before; grows = first.grows; sites = first.sites };
    };
    sites = other.sites;
  }

  -- what the state says is known too
  pub law_known : {a b : ℕ} {A : Type 0} {H K : List Shape → Type 0} {Q : List Shape → A → State → Type 0} {s : State} {found : Found (After State A)}
      → ((all : List Shape) → Before f a all s → K all)
      → Claims f a b (λ all. H all × K all) Q s found → Claims f a b H Q s found
  law_known {K = K} g claims = record { claim = claim_known f K g claims.claim; sites = λ all h none fits before. claims.sites all (h, g all before) none fits before }

  -- a part that is given as it is
  pub law_pure : {k : ℕ} {A : Type 0} {H : List Shape → Type 0} {Q : List Shape → A → State → Type 0} (x : A) (s : State) → ((all : List Shape) → H all → Q all x s) → Claims f k k H Q s (pure x s)
  unfolding pure
  law_pure x s g = record { claim = claim_pure f x s g; sites = λ all h none fits before. keep_none f.program _ }

  -- a part that depends on nothing before it
  pub law_given : {k : ℕ} {A : Type 0} {H : List Shape → Type 0} {Q : List Shape → A → State → Type 0} (found : Found A) (s : State) → ((all : List Shape) → H all → found.faults ≡ [] → Q all found.part s) → Claims f k k H Q s (given found s)
  unfolding given
  law_given found s g = record { claim = claim_given f found s g; sites = λ all h none fits before. keep_none f.program _ }

  -- a part that looks at the state
  pub law_looks : {k : ℕ} {A : Type 0} {H : List Shape → Type 0} {Q : List Shape → A → State → Type 0} (look : State → Found A) (s : State) → ((all : List Shape) → H all → (look s).faults ≡ [] → Before f k all s → Q all (look s).part s) → Claims f k k H Q s (looks look s)
  unfolding looks
  law_looks look s g = record { claim = claim_looks f look s g; sites = λ all h none fits before. keep_none f.program _ }

  -- own codes, of which there are none
  pub law_tells : {k : ℕ} {H : List Shape → Type 0} {Q : List Shape → Unit {0} → State → Type 0} (spot : Spot) (codes : State → List ℕ) (s : State) → ((all : List Shape) → H all → codes s ≡ [] → Q all tt s) → Claims f k k H Q s (tells spot codes s)
  unfolding tells
  law_tells spot codes s g = record { claim = claim_as f (λ all h. h) (λ all h q. g all h q) (claim_tells f spot codes s); sites = λ all h none fits before. keep_none f.program _ }

  -- a part that is chosen by the state
  pub law_by : {a b : ℕ} {A : Type 0} {H : List Shape → Type 0} {Q : List Shape → A → State → Type 0} (choose : State → Reads State A) (s : State) → Claims f a b H Q s (choose s s) → Claims f a b H Q s (reads_by choose s)
  unfolding reads_by
  law_by choose s claims = record { claim = claim_by f choose s claims.claim; sites = claims.sites }

  -- what a part declares is visible in it alone
  pub law_scoped : {a b : ℕ} {A : Type 0} {H : List Shape → Type 0} {Q R : List Shape → A → State → Type 0} (m : Reads State A) (s : State) → Claims f a b H Q s (m s)
      → ((all : List Shape) (x : A) (t : State) → H all → Q all x t → R all x (left s t))
      → Claims f a b H R s (scoped m s)
  unfolding within
  law_scoped m s claims g = record {
    claim = claim_as f (λ all h. h) (λ all h q. g all _ _ h q) (scoped_claim f m s claims.claim);
    sites = λ all h none fits before. claims.sites all h none (record { locals = fits.locals; sites = fits.sites }) before;
  }

  -- an item in front of others
  pub law_put : {k : ℕ} {A : Type 0} {H : List Shape → Type 0} {Q : List Shape → List A → State → Type 0} (x : A) (m : Reads State (List A)) (s : State) → Claims f k k H (λ all xs t. Q all (x ∷ xs) t) s (m s) → Claims f k k H Q s (before_all x m s)
  unfolding before_all
  law_put x m s claims = record {
    claim = record {
      locals = claims.claim.locals;
      sites = claims.claim.sites;
      holds = λ all h none fits before.
          let held = claims.claim.holds all h none (record { locals = fits.locals; sites = fits.sites }) before in
          record { part = held.part; before = held.before; grows = held.grows; sites = held.sites };
    };
    sites = λ all h none fits before. claims.sites all h none (record { locals = fits.locals; sites = fits.sites }) before;
  }

  -- a part that is not there
  pub law_none : {k : ℕ} {A : Type 0} {H : List Shape → Type 0} {Q : List Shape → Option A → State → Type 0} (s : State) → ((all : List Shape) → H all → Q all None s) → Claims f k k H Q s (optional None s)
  unfolding optional
  law_none s g = law_pure None s g

  -- a part that is there
  pub law_some : {a b : ℕ} {A : Type 0} {H : List Shape → Type 0} {Q : List Shape → Option A → State → Type 0} (m : Reads State A) (s : State) → Claims f a b H (λ all x t. Q all (Some x) t) s (m s) → Claims f a b H Q s (optional (Some m) s)
  unfolding optional
  law_some m s claims = law_bind m (λ x. pure (Some x)) s claims (law_pure (Some (m s).part.part) (m s).part.state (λ all h. h.1))
