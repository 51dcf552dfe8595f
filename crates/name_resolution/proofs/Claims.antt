-- What holds of a part of a body that is read: names, sites and locals are only added, and where it has no fault it is what its tree
-- asks, between what is visible before it and behind it.
use Rattle.std.proofs.Common.{◌≡◌, ℕ, suc, ◌+◌, ◌≤◌, Bool, true, false, cond, List, [], ◌∷◌, ◌++◌, map, length, Option, Some, None, refl, sym, ap, subst, ◌∙◌, slice_get, nat_lt, not, position, arith, append_assoc}
use Rattle.std.specs.List.{position_or_len}
use Rattle.std.specs.Option.{option_map}
use Rattle.std.specs.Str.{bytes_eq}
use Rattle.std.proofs.lemmas.Bool.{lt-ltb}
use Rattle.std.proofs.lemmas.Bool.Decides.{nat_tests}
use Rattle.std.proofs.lemmas.List.{append-nil}
use Rattle.span_text.specs.declared.spot.Spot.{Spot}
use Rattle.typed_program.specs.declared.program.Site.{Site}
use Rattle.type_table.specs.declared.scope.Scope.{Scope}
use Rattle.type_table.specs.declared.scope.Seen.{Seen}
use Rattle.type_table.specs.Found.{Found}
use Rattle.expr_rules.specs.Names.{seen, item_at}
use Rattle.stmt_check.specs.declared.state.State.{State}
use Rattle.stmt_check.specs.Captures.{Names}
use Rattle.stmt_check.specs.Steps.{After, Reads, done, ◌>>=◌, pure, given, looks, reads_by, tells}
use Rattle.name_resolution.specs.Names.{Named, Meant, meaning_of}
use Rattle.name_resolution.specs.Statements.{Here}
use Rattle.name_resolution.proofs.Sure.{Sure, no_both, no_told}
use Rattle.name_resolution.proofs.Agreeing.{Agrees, meant_by}
pub use Rattle.name_resolution.proofs.Bodies.{Matches, Ready, Fits}

-- ---- the first of a name

abbrev pub is_called : List ℕ → Seen → Bool
is_called name s = bytes_eq s.name name

abbrev pub first_by : {A : Type 0} → (A → Bool) → List A → Option A
first_by q [] = None
first_by q (x ∷ xs) = cond (q x) (Some x) (first_by q xs)

item_behind : {A : Type 0} (x : A) (xs : List A) (b : Bool) (k : ℕ) → item_at (x ∷ xs) (cond b (Some (1 + k)) None) ≡ item_at xs (cond b (Some k) None)
item_behind x xs true k = let e : 1 + k ≡ suc k = omega arith in ap (slice_get (x ∷ xs)) e
item_behind x xs false k = refl

pub zero_lt : (n : ℕ) → nat_lt 0 (suc n) ≡ true
zero_lt n = lt-ltb 0 (suc n) (omega arith)

lt_by : (k n : ℕ) (b : Bool) → nat_lt k n ≡ b → nat_lt (1 + k) (suc n) ≡ b
lt_by k n true is = grind (arith, nat_tests)
lt_by k n false is = grind (arith, nat_tests)

pub lt_more : (k n : ℕ) → nat_lt (1 + k) (suc n) ≡ nat_lt k n
lt_more k n = lt_by k n (nat_lt k n) refl

item_here : {A : Type 0} (x : A) (xs : List A) (b : Bool) (k n : ℕ) → item_at (x ∷ xs) (cond (nat_lt (cond (not b) (1 + k) 0) (suc n)) (Some (cond (not b) (1 + k) 0)) None) ≡ cond b (Some x) (item_at xs (cond (nat_lt k n) (Some k) None))
item_here x xs true k n = ap (λ (c : Bool). item_at (x ∷ xs) (cond c (Some 0) None)) (zero_lt n)
item_here x xs false k n = ap (λ (c : Bool). item_at (x ∷ xs) (cond c (Some (1 + k)) None)) (lt_more k n) ∙ item_behind x xs (nat_lt k n) k

pub item_first : {A : Type 0} (q : A → Bool) (xs : List A) → item_at xs (position q xs) ≡ first_by q xs
item_first q [] = refl
item_first q (x ∷ xs) = item_here x xs (q x) (position_or_len q xs) (length xs) ∙ ap (cond (q x) (Some x)) (item_first q xs)

pub seen_first : (scope : Scope) (name : List ℕ) → seen scope name ≡ first_by (is_called name) scope.names
seen_first scope name = item_first (λ s. bytes_eq s.name name) scope.names

-- ---- names that stand for what is seen

abbrev pub by_seen : Seen → Named
by_seen s = record { name = s.name; meant = meant_by s }

abbrev pub or_else : {A : Type 0} → Option A → Option A → Option A
or_else (Some x) o = Some x
or_else None o = o

mapped : (b : Bool) (x : Seen) (m : Option Meant) (o : Option Seen) → m ≡ option_map meant_by o → cond b (Some (meant_by x)) m ≡ option_map meant_by (cond b (Some x) o)
mapped true x m o h = refl
mapped false x m o h = h

pub meaning_mapped : (xs : List Seen) (name : List ℕ) → meaning_of (map by_seen xs) name ≡ option_map meant_by (first_by (is_called name) xs)
meaning_mapped [] name = refl
meaning_mapped (x ∷ xs) name = mapped (bytes_eq x.name name) x (meaning_of (map by_seen xs) name) (first_by (is_called name) xs) (meaning_mapped xs name)

behind_by : {A : Type 0} (b : Bool) (x : A) (m o r : Option A) → r ≡ or_else m o → cond b (Some x) r ≡ or_else (cond b (Some x) m) o
behind_by true x m o r h = refl
behind_by false x m o r h = h

pub meaning_behind : (xs ys : List Named) (name : List ℕ) → meaning_of (xs ++ ys) name ≡ or_else (meaning_of xs name) (meaning_of ys name)
meaning_behind [] ys name = refl
meaning_behind (x ∷ xs) ys name = behind_by (bytes_eq x.name name) x.meant (meaning_of xs name) (meaning_of ys name) (meaning_of (xs ++ ys) name) (meaning_behind xs ys name)

pub first_behind : {A : Type 0} (q : A → Bool) (xs ys : List A) → first_by q (xs ++ ys) ≡ or_else (first_by q xs) (first_by q ys)
first_behind q [] ys = refl
first_behind q (x ∷ xs) ys = behind_by (q x) x (first_by q xs) (first_by q ys) (first_by q (xs ++ ys)) (first_behind q xs ys)

map_else : (a b : Option Seen) → or_else (option_map meant_by a) (option_map meant_by b) ≡ option_map meant_by (or_else a b)
map_else (Some x) b = refl
map_else None b = refl

-- names agree where more names are visible to both
pub agrees_more : (names : List Named) (scope wider : Scope) (more : List Seen) (others : List Named) (named : Names) → wider.names ≡ scope.names ++ more → ((name : List ℕ) → meaning_of others name ≡ option_map meant_by (first_by (is_called name) more)) → Agrees names scope named → Agrees (names ++ others) wider named
agrees_more names scope wider more others named are same k = record {
  same = λ name is.
      meaning_behind names others name
      ∙ ap (λ (o : Option Meant). or_else o (meaning_of others name)) (k.same name is ∙ ap (λ (o : Option Seen). option_map meant_by o) (seen_first scope name))
      ∙ ap (λ (o : Option Meant). or_else (option_map meant_by (first_by (is_called name) scope.names)) o) (same name)
      ∙ map_else (first_by (is_called name) scope.names) (first_by (is_called name) more)
      ∙ ap (λ (o : Option Seen). option_map meant_by o) (sym (first_behind (is_called name) scope.names more) ∙ ap (λ (l : List Seen). first_by (is_called name) l) (sym are) ∙ sym (seen_first wider name));
}

-- and where the same names are visible
pub agrees_at : (names : List Named) (scope other : Scope) (named : Names) → other.names ≡ scope.names → Agrees names scope named → Agrees names other named
agrees_at names scope other named are k = record { same = λ name is. k.same name is ∙ ap (λ (o : Option Seen). option_map meant_by o) (seen_first scope name ∙ ap (λ (l : List Seen). first_by (is_called name) l) (sym are) ∙ sym (seen_first other name)) }

-- ---- longer lists

pub record Grown {A : Type 0} (old new : List A) : Type 0 where
  pub more : List A
  pub are : new ≡ old ++ more

pub grown_same : {A : Type 0} (xs : List A) → Grown xs xs
grown_same xs = record { more = []; are = sym (append-nil xs) }

pub grown_on : {A : Type 0} (a b c : List A) → Grown a b → Grown b c → Grown a c
grown_on {A = A} a b c g h = record { more = g.more ++ h.more; are = h.are ∙ ap (λ (l : List A). l ++ h.more) g.are ∙ append_assoc a g.more h.more }

pub record Extends {A : Type 0} (old new : List A) : Type 0 where
  pub long : length old ≤ length new
  pub at : (i : ℕ) (x : A) → slice_get old i ≡ Some x → slice_get new i ≡ Some x

pub extends_same : {A : Type 0} (xs : List A) → Extends xs xs
extends_same xs = record { long = omega arith; at = λ i x h. h }

pub extends_on : {A : Type 0} {a b c : List A} → Extends a b → Extends b c → Extends a c
extends_on {a = a} {b = b} {c = c} h k = record { long = let p = h.long in let q = k.long in omega arith; at = λ i x e. k.at i x (h.at i x e) }

-- ---- claims

module _ (finished : List Site) (monitor : ℕ) where
  pub record Holds {A : Type 0} (named : Names) (P : A → Here → Here → Type 0) (h : Here) (x : A) (t : State) : Type 0 where
    pub after : Here
    pub good : P x h after
    pub matches : Matches named after t

  pub record Claim (named : Names) (callbacks : ℕ) {A : Type 0} (P : A → Here → Here → Type 0) (s : State) (found : Found (After State A)) : Type 0 where
    pub grows : Grown s.scope.names found.part.state.scope.names
    pub own : found.part.state.scope.monitor ≡ s.scope.monitor
    pub actions : found.part.state.scope.actions ≡ s.scope.actions
    pub sites : Extends s.sites found.part.state.sites
    pub holds : (h : Here) → found.faults ≡ [] → Fits finished monitor callbacks s found.part.state → Ready finished monitor s → Matches named h s → Holds named P h found.part.part found.part.state

  fits_first : {callbacks : ℕ} {s t u : State} → Extends t.sites u.sites → Fits finished monitor callbacks s u → Fits finished monitor callbacks s t
  fits_first k fits = record { at = λ i x from e. fits.at i x from (k.at i x e) }

  fits_second : {callbacks : ℕ} {s t u : State} → length s.sites ≤ length t.sites → Fits finished monitor callbacks s u → Fits finished monitor callbacks t u
  fits_second {s = s} {t = t} le fits = record { at = λ i x from e. fits.at i x (omega arith) e }

  module _ (named : Names) (callbacks : ℕ) where
    -- a part, and what is read behind it
    pub claim_bind : {A B : Type 0} (P : A → Here → Here → Type 0) (Q R : B → Here → Here → Type 0) (m : Reads State A) (n : A → Reads State B) (s : State)
        → Claim named callbacks P s (m s) → Claim named callbacks Q (m s).part.state (n (m s).part.part (m s).part.state)
        → ((a b c : Here) (y : B) → P (m s).part.part a b → Q y b c → R y a c) → Claim named callbacks R s ((m >>= n) s)
    unfolding ◌>>=◌
    claim_bind P Q R m n s one two put = record {
      grows = grown_on s.scope.names (m s).part.state.scope.names (n (m s).part.part (m s).part.state).part.state.scope.names one.grows two.grows;
      own = two.own ∙ one.own;
      actions = two.actions ∙ one.actions;
      sites = extends_on one.sites two.sites;
      holds = λ h none fits ready matches.
          let split = no_both (m s).faults (n (m s).part.part (m s).part.state).faults none in
          let first = one.holds h split.0 (fits_first two.sites fits) ready matches in
          let second = two.holds first.after split.1 (fits_second one.sites.long fits) (record { own = one.own ∙ ready.own; actions = one.actions ∙ ready.actions }) first.matches in
          record { after = second.after; good = put h first.after second.after _ first.good second.good; matches = second.matches };
    }

    -- a part that changes nothing
    pub claim_still : {A : Type 0} (P : A → Here → Here → Type 0) (s : State) (found : Found (After State A)) → found.part.state ≡ s → ((h : Here) → found.faults ≡ [] → Ready finished monitor s → Matches named h s → P found.part.part h h) → Claim named callbacks P s found
    claim_still P s found same g = record {
      grows = subst (λ (t : State). Grown s.scope.names t.scope.names) (sym same) (grown_same s.scope.names);
      own = ap (λ (t : State). t.scope.monitor) same;
      actions = ap (λ (t : State). t.scope.actions) same;
      sites = subst (λ (t : State). Extends s.sites t.sites) (sym same) (extends_same s.sites);
      holds = λ h none fits ready matches. record { after = h; good = g h none ready matches; matches = subst (λ (t : State). Matches named h t) (sym same) matches };
    }

    pub claim_as : {A : Type 0} (P Q : A → Here → Here → Type 0) (s : State) (found : Found (After State A)) → ((h k : Here) → P found.part.part h k → Q found.part.part h k) → Claim named callbacks P s found → Claim named callbacks Q s found
    claim_as P Q s found f claim = record {
      grows = claim.grows;
      own = claim.own;
      actions = claim.actions;
      sites = claim.sites;
      holds = λ h none fits ready matches. let held = claim.holds h none fits ready matches in record { after = held.after; good = f h held.after held.good; matches = held.matches };
    }

    pub claim_by : {A : Type 0} (P : A → Here → Here → Type 0) (choose : State → Reads State A) (s : State) → Claim named callbacks P s (choose s s) → Claim named callbacks P s (reads_by choose s)
    unfolding reads_by
    claim_by P choose s claim = claim

    -- what is known at a state, and what is made there
    pub claim_pure : {A : Type 0} (P : A → Here → Here → Type 0) (x : A) (s : State) → ((h : Here) → Matches named h s → P x h h) → Claim named callbacks P s (pure x s)
    unfolding pure
    claim_pure P x s g = claim_still P s (done x s) refl (λ h none ready matches. g h matches)

    abbrev pub Still : {A : Type 0} → (A → Here → Type 0) → A → Here → Here → Type 0
    Still P x h k = (h ≡ k) × P x h

    pub claim_looks : {A : Type 0} (P : A → Here → Type 0) (look : State → Found A) (s : State) → ((h : Here) → (look s).faults ≡ [] → Ready finished monitor s → Matches named h s → P (look s).part h) → Claim named callbacks (Still P) s (looks look s)
    unfolding looks
    claim_looks P look s g = claim_still (Still P) s (looks look s) refl (λ h none ready matches. (refl, g h none ready matches))

    pub claim_given : {A : Type 0} (P : A → Type 0) (found : Found A) (s : State) → Sure P found → Claim named callbacks (Still (λ x h. P x)) s (given found s)
    unfolding given
    claim_given P found s g = claim_still (Still (λ x h. P x)) s (given found s) refl (λ h none ready matches. (refl, g.where_clear none))

    pub claim_tells : (spot : Spot) (code : State → List ℕ) (s : State) → Claim named callbacks (Still (λ x h. (code s ≡ []) × (s.scope.monitor ≡ monitor))) s (tells spot code s)
    unfolding tells
    claim_tells spot code s = claim_still (Still (λ x h. (code s ≡ []) × (s.scope.monitor ≡ monitor))) s (tells spot code s) refl (λ h none ready matches. (refl, (no_told spot (code s) none, ready.own)))

    -- behind a part that changes nothing
    pub claim_behind : {A B : Type 0} (P : A → Here → Type 0) (Q R : B → Here → Here → Type 0) (m : Reads State A) (n : A → Reads State B) (s : State)
        → Claim named callbacks (Still P) s (m s) → Claim named callbacks Q (m s).part.state (n (m s).part.part (m s).part.state)
        → ((a c : Here) (y : B) → P (m s).part.part a → Q y a c → R y a c) → Claim named callbacks R s ((m >>= n) s)
    claim_behind P Q R m n s one two put = claim_bind (Still P) Q R m n s one two (λ a b c y p q. put a c y p.1 (subst (λ (k : Here). Q y k c) (sym p.0) q))
