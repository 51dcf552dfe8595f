-- Names that are declared, the locals that they stand for, and what is visible behind a block.
use Rattle.program_laws.proofs.Common.{ℕ, suc, length, List, [], Some, None, true, not, Option, refl, sym, ap, subst, ◌∙◌, arith, slice_get, nat_le, is_some, AllByRecursion, filter-append, leb-false, Shape, EventShape, Name, Names, stands, Seen, SeenKind, told, seen_of, KnowsName, by_number, bound_refers, Bool, State, when, short, known_shape, local_codes, local_read, seen_local, with_local, scoped, captured_in, left, Reads}
use Rattle.std.proofs.Common.{◌≡◌, ◌+◌, ◌<◌, ◌≤◌, ◌∷◌, ◌++◌, ◌&&◌, length-append}
use Rattle.std.specs.Prelude.{IfSome}
use Rattle.stmt_check.specs.Bodies.{counted, name_read, is_global}
use Rattle.stmt_check.specs.Steps.{◌>>=◌, pure, tells, changes, within, before_all, each, optional}
use Rattle.program_laws.proofs.Shapes.Frames.{Frame, Before, Fits, Claim, names_of, sites_none, claim_bind, claim_pure}
use Rattle.program_laws.proofs.Shapes.Lists.{extends_same, extends_front, no_both, no_told, no_when, get_behind, all_append, all_take, list_all_both}
use Rattle.program_laws.proofs.Shapes.Rising.{Rising, rising_both, rising_filter, rising_take}

-- a name that is declared is counted, where the action has fewer than 256 locals
counted_before : (f : Frame) (k : ℕ) (locals : List Shape) (s : State) → s.whole < 256 → Before f k locals s → Before f (suc k) locals (counted s)
counted_before f k locals s few b = record {
  monitor = b.monitor;
  visible = b.visible;
  seen = b.seen;
  rises = b.rises;
  next = b.next;
  small = b.small;
  room = let r = b.room in omega arith;
  whole = omega arith;
  stand = b.stand;
}

name_faults : (name : Name) (s : State) → (name_read name s).faults ≡ [] → s.whole < 256
unfolding ◌>>=◌ tells changes
name_faults name s none =
    let codes = no_told name.spot (local_codes s name.text) (no_both (told name.spot (local_codes s name.text)) [] none).0 in
    let few = no_both (when (is_some (seen_of s.scope name.text)) 1) (when (nat_le 256 s.whole) 4) codes in
    leb-false 256 s.whole (no_when (nat_le 256 s.whole) 4 few.1)

name_state : (name : Name) (s : State) → (name_read name s).part.state ≡ counted s
unfolding ◌>>=◌ tells changes
name_state name s = refl

pub name_claim : (f : Frame) {k : ℕ} {H : List Shape → Type 0} (name : Name) (s : State) → Claim f k (suc k) H (λ locals x. Unit {0}) s (name_read name s)
unfolding ◌>>=◌ tells changes
name_claim f {k} name s = record {
  locals = extends_same s.locals;
  sites = extends_same s.sites;
  holds = λ locals h none fits before. record { part = tt; before = counted_before f k locals s (name_faults name s none) before; grows = (let w = before.whole in omega arith); sites = sites_none f.program _ };
}

-- ---- a local more

-- a shape that is known and names what is there
pub record Sound (types : List EventShape) (shape : Option Shape) : Type 0 where
  pub known : shape ≡ Some (known_shape shape)
  pub stands : stands types (known_shape shape) ≡ true

-- a kind of name that stands for a local, and is no co-assignment
pub record OfLocals (kind : SeenKind) : Type 0 where
  pub at : (names : Names) (n : ℕ) → by_number names kind n ≡ slice_get names.locals n
  pub own : (reference : Bool) → bound_refers kind reference ≡ true

short_more : (n : ℕ) → n ≤ 65400 → short (n + 1) ≡ n + 1
short_more n h = omega arith

module _ (f : Frame) (kind : SeenKind) (of : OfLocals kind) (name : List ℕ) (shape : Option Shape) where
  local_at : (locals : List Shape) (s : State) → Fits f locals s (with_local kind name shape s) → s.next ≡ f.base + length s.locals → slice_get locals s.next ≡ Some (known_shape shape)
  local_at locals s fits next =
      let here : slice_get (s.locals ++ known_shape shape ∷ []) (length s.locals) ≡ Some (known_shape shape) =
      (let e : length s.locals ≡ length s.locals + 0 = omega arith in ap (slice_get (s.locals ++ known_shape shape ∷ [])) e ∙ get_behind s.locals (known_shape shape ∷ []) 0) in
      ap (slice_get locals) next ∙ fits.locals (length s.locals) (known_shape shape) here

  local_known : (locals : List Shape) (s : State) → Sound f.program.types shape → slice_get locals s.next ≡ Some (known_shape shape) → KnowsName (names_of f locals) (seen_local kind name shape s)
  local_known locals s sound at = record { shape = known_shape shape; known = sound.known; stands = sound.stands; at = of.at (names_of f locals) s.next ∙ at }

  local_before : (k : ℕ) (locals : List Shape) (s : State) → Sound f.program.types shape → slice_get locals s.next ≡ Some (known_shape shape) → Before f (suc k) locals s → Before f k locals (with_local kind name shape s)
  local_before k locals s sound at b =
      let next = b.next in let small = b.small in let room = b.room in let whole = b.whole in
      let more : short (s.next + 1) ≡ s.next + 1 = short_more s.next (omega arith) in
      let long : length (s.locals ++ known_shape shape ∷ []) ≡ length s.locals + 1 = length-append s.locals (known_shape shape ∷ []) in
      let seen : Seen = seen_local kind name shape s in
      let one : Rising s.next (seen ∷ []) (short (s.next + 1)) = (omega arith, omega (arith, more)) in
      record {
        monitor = b.monitor;
        visible = b.visible;
        seen = all_append (λ x. f.named x.name ≡ true → KnowsName (names_of f locals) x) s.scope.names (seen ∷ []) b.seen ((λ named. local_known locals s sound at), tt);
        rises = subst (λ names. Rising 0 names (short (s.next + 1))) (sym (filter-append (λ x. not (is_global x.kind) && f.named x.name) s.scope.names (seen ∷ [])))
            (rising_both 0 (captured_in f.named s.scope.names) s.next (captured_in f.named (seen ∷ [])) (short (s.next + 1)) b.rises
            (rising_filter (λ x. not (is_global x.kind) && f.named x.name) (seen ∷ []) s.next (short (s.next + 1)) one));
        next = omega (arith, more, long, next);
        small = b.small;
        room = omega (arith, long, room);
        whole = b.whole;
        stand = list_all_both (stands f.program.types) s.locals (known_shape shape ∷ []) b.stand (rw sound.stands refl);
      }

  pub local_claim : {k : ℕ} {H : List Shape → Type 0} (s : State) → ((locals : List Shape) → H locals → Sound f.program.types shape) → Claim f (suc k) k H (λ locals n. slice_get locals n ≡ Some (known_shape shape)) s (local_read kind name shape s)
  unfolding changes
  local_claim {k} s g = record {
    locals = extends_front s.locals (known_shape shape ∷ []);
    sites = extends_same s.sites;
    holds = λ locals h none fits before.
        let at = local_at locals s fits before.next in
        record { part = at; before = local_before k locals s (g locals h) at before; grows = omega arith; sites = sites_none f.program _ };
  }

-- ---- blocks

left_before : (f : Frame) (k : ℕ) (locals : List Shape) (s t : State) → Before f k locals t → Before f k locals (left s t)
left_before f k locals s t b = record {
  monitor = b.monitor;
  visible = b.visible;
  seen = all_take (λ x. f.named x.name ≡ true → KnowsName (names_of f locals) x) (length s.scope.names) t.scope.names b.seen;
  rises = rising_take (λ x. not (is_global x.kind) && f.named x.name) (length s.scope.names) t.scope.names 0 t.next b.rises;
  next = b.next;
  small = b.small;
  room = b.room;
  whole = b.whole;
  stand = b.stand;
}

pub scoped_claim : (f : Frame) {a b : ℕ} {A : Type 0} {H : List Shape → Type 0} {Q : List Shape → A → Type 0} (m : Reads State A) (s : State) → Claim f a b H Q s (m s) → Claim f a b H Q s (scoped m s)
unfolding within
scoped_claim f {a} {b} m s claim = record {
  locals = claim.locals;
  sites = claim.sites;
  holds = λ locals h none fits before.
      let held = claim.holds locals h none (record { locals = fits.locals; sites = fits.sites }) before in
      record { part = held.part; before = left_before f b locals s (m s).part.state held.before; grows = held.grows; sites = held.sites };
}

-- ---- parts in a row, and parts that may be there

put_claim : (f : Frame) {k : ℕ} {A : Type 0} {H : List Shape → Type 0} {Q : List Shape → A → Type 0} (x : A) (m : Reads State (List A)) (s : State) → Claim f k k H (λ locals xs. AllByRecursion (Q locals) xs) s (m s) → Claim f k k (λ locals. H locals × Q locals x) (λ locals xs. AllByRecursion (Q locals) xs) s (before_all x m s)
unfolding before_all
put_claim f x m s claim = record {
  locals = claim.locals;
  sites = claim.sites;
  holds = λ locals h none fits before.
      let held = claim.holds locals h.0 none (record { locals = fits.locals; sites = fits.sites }) before in
      record { part = (h.1, held.part); before = held.before; grows = held.grows; sites = held.sites };
}

pub each_claim : (f : Frame) (k : ℕ) {A : Type 0} (H : List Shape → Type 0) (Q : List Shape → A → Type 0) (ms : List (Reads State A)) → AllByRecursion (λ m. (s : State) → Claim f k k H Q s (m s)) ms → (s : State) → Claim f k k H (λ locals xs. AllByRecursion (Q locals) xs) s (each ms s)
unfolding each
each_claim f k H Q [] all s = claim_pure f [] s (λ locals h. tt)
each_claim f k H Q (m ∷ ms) all s = claim_bind f m (λ x. before_all x (each ms)) s (all.0 s) (put_claim f (m s).part.part (each ms) (m s).part.state (each_claim f k H Q ms all.1 (m s).part.state))

pub optional_claim : (f : Frame) (k : ℕ) {A : Type 0} (H : List Shape → Type 0) (Q : List Shape → A → Type 0) (m : Option (Reads State A)) → IfSome m (λ n. (s : State) → Claim f k k H Q s (n s)) → (s : State) → Claim f k k H (λ locals o. IfSome o (Q locals) × (is_some o ≡ is_some m)) s (optional m s)
unfolding optional
optional_claim f k H Q None all s = claim_pure f None s (λ locals h. (tt, refl))
optional_claim f k H Q (Some m) all s = claim_bind f m (λ x. pure (Some x)) s (all s) (claim_pure f (Some (m s).part.part) (m s).part.state (λ locals h. (h.1, refl)))
