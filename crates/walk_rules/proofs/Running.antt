-- What single steps mean, and that a call does them.
use Rattle.walk_rules.proofs.Common.{ℕ, Bool, true, false, List, [], Result, Ok, Err, refl, sym, ap, subst, ◌∙◌, ⊎_elim, arith, Contains, Fault, Scene, Told, Frame, Halt, Failed, State, nothing, Went, Ended, M, Stop, Halted, Memory, state_of, outcome_of, did_of, Ran, Passes, Does, Walks}
use Rattle.std.proofs.Common.{◌≡◌, ◌∷◌, ◌++◌, ◌-◌, ◌+◌, ◌^◌, min}
use Rattle.std.proofs.lemmas.Bool.{cases_lt, leb-true, lt-leb}
use Rattle.std.proofs.Math.Nat.{min-eq_left, min-eq_right}
use Rattle.std.specs.Prelude.{nat_le, IsErrAnd}
use Rattle.action_host.specs.Told.{Charges, charged}
use Rattle.body_meaning.specs.declared.run.Halt.TheVariants.{Spent}
use Rattle.body_meaning.specs.Runs.{pure, halt, given, looked, look, by_scene, change, changed, charge, charge_if}
use Rattle.walk_rules.proofs.Frames.{contains_first}

pub append_nil : {A : Type 0} (xs : List A) → xs ≡ xs ++ []
append_nil [] = refl
append_nil (x ∷ xs) = ap (λ ys. x ∷ ys) (append_nil xs)

-- ---- runs that change nothing

still : {A : Type 0} (m : M A) (told : Told) (frame : Frame) (r : Result A Halt) → ((s : State) → m s ≡ outcome_of r nothing s) → Ran m told frame told frame r
still m told frame r h = record { draws = []; did = nothing; drawn = append_nil told.drawn; taken = append_nil told.taken; gives = λ rest. h (state_of told rest frame); falls = omega arith; stands = refl }

pub walks_pure : {A : Type 0} (x : A) (told : Told) (frame : Frame) → Walks (pure x) told frame told frame (Ok x)
unfolding pure
walks_pure x told frame = record { does = still _ told frame (Ok x) (λ s. refl) }

pub walks_halt : {A : Type 0} (why : Halt) (told : Told) (frame : Frame) → Walks (halt {A = A} why) told frame told frame (Err (Halted why))
unfolding halt
walks_halt why told frame = record { does = still _ told frame (Err why) (λ s. refl) }

pub walks_given : {A : Type 0} {r : Result A Fault} {x : A} (told : Told) (frame : Frame) → Ok x ≡ r → Walks (given r) told frame told frame (Ok x)
unfolding given
walks_given {x = x} told frame h = record { does = still _ told frame (Ok x) (λ s. ap (λ r. looked r s) (sym h)) }

pub walks_given_err : {A : Type 0} {r : Result A Fault} {fault : Fault} (told : Told) (frame : Frame) → Err fault ≡ r → Walks (given r) told frame told frame (Err (Halted (Failed fault)))
unfolding given
walks_given_err {fault = fault} told frame h = record { does = still _ told frame (Err (Failed fault)) (λ s. ap (λ r. looked r s) (sym h)) }

pub walks_look : {A : Type 0} (f : Frame → A) {x : A} (told : Told) {frame : Frame} → x ≡ f frame → Walks (look f) told frame told frame (Ok x)
unfolding look
walks_look f {x} told {frame} h = record { does = record { draws = []; did = nothing; drawn = append_nil told.drawn; taken = append_nil told.taken; gives = λ rest. ap (λ y. Went nothing y (state_of told rest frame)) (sym h); falls = omega arith; stands = refl } }

-- ---- memory

-- a call that stops for want of memory before it changes a variable
pub walks_memory : {A : Type 0} (m : M A) (old new : Told) (frame : Frame) → Walks m old frame new frame (Err Memory)
walks_memory m old new frame = record { does = record { draws = []; passed = λ rest. contains_first frame _ } }

-- the error that a `?` hands on
pub walks_err : {A : Type 0} {m : M A} {stop : Stop} {t t1 : Told} {f f1 : Frame} (result : Result A Stop) → IsErrAnd result (λ e. e ≡ stop) → Walks m t f t1 f1 (Err stop) → Walks m t f t1 f1 result
walks_err (Ok x) h w = absurd h
walks_err {m = m} {t = t} {t1 = t1} {f = f} {f1 = f1} (Err e) h w = subst (λ e. Walks m t f t1 f1 (Err e)) (sym h) w

-- ---- variables

pub walks_change : (f : Frame → Result Frame Fault) (told : Told) {frame frame' : Frame} → Ok frame' ≡ f frame → Walks (change f) told frame told frame' (Ok tt)
unfolding change
walks_change f told {frame} {frame'} h = record {
  does = record {
    draws = [];
    did = record { effects = []; frames = frame' ∷ [] };
    drawn = append_nil told.drawn;
    taken = append_nil told.taken;
    gives = λ rest. ap (λ r. changed r (state_of told rest frame)) (sym h);
    falls = omega arith;
    stands = refl;
  };
}

pub walks_change_err : (f : Frame → Result Frame Fault) {fault : Fault} (told : Told) {frame : Frame} → Err fault ≡ f frame → Walks (change f) told frame told frame (Err (Halted (Failed fault)))
unfolding change
walks_change_err f {fault} told {frame} h = record {
  does = record {
    draws = [];
    did = nothing;
    drawn = append_nil told.drawn;
    taken = append_nil told.taken;
    gives = λ rest. ap (λ r. changed r (state_of told rest frame)) (sym h);
    falls = omega arith;
    stands = refl;
  };
}

-- ---- fuel

pub walks_charge : {old new : Told} {amount : ℕ} (frame : Frame) → Charges old amount new true → Walks (charge amount) old frame new frame (Ok tt)
unfolding charge
walks_charge {old} {new} {amount} frame h = record {
  does = record {
    draws = [];
    did = nothing;
    drawn = ap (λ t. t.drawn) h.new_is ∙ append_nil old.drawn;
    taken = ap (λ t. t.taken) h.new_is ∙ append_nil old.taken;
    gives = λ rest. ap (λ b. charge_if b amount (state_of old rest frame)) (sym h.answer) ∙ ap (λ t. Went nothing tt (state_of t rest frame)) (sym h.new_is);
    falls = let e = ap (λ t. t.scene.fuel) h.new_is in omega (arith, e);
    stands = refl;
  };
}

pub walks_spent : {old new : Told} {amount : ℕ} (frame : Frame) → Charges old amount new false → Walks (charge amount) old frame new frame (Err (Halted Spent))
unfolding charge
walks_spent {old} {new} {amount} frame h = record {
  does = record {
    draws = [];
    did = nothing;
    drawn = ap (λ t. t.drawn) h.new_is ∙ append_nil old.drawn;
    taken = ap (λ t. t.taken) h.new_is ∙ append_nil old.taken;
    gives = λ rest. ap (λ b. charge_if b amount (state_of old rest frame)) (sym h.answer) ∙ ap (λ t. Ended nothing Spent (state_of t rest frame)) (sym h.new_is);
    falls = let e = ap (λ t. t.scene.fuel) h.new_is in omega (arith, e);
    stands = refl;
  };
}

-- a charge that is granted takes that much fuel
pub spends : {old new : Told} {amount : ℕ} → Charges old amount new true → new.scene.fuel + amount ≡ old.scene.fuel
spends {old} {new} {amount} h =
    let e = ap (λ t. t.scene.fuel) h.new_is in
    let le = leb-true amount old.scene.fuel (sym h.answer) in
    omega (arith, e, le)

-- a charge past every fuel is made as the greatest number
pub capped : {old new : Told} (cost : ℕ) {granted : Bool} → Charges old (min (2 ^ 64 - 1) cost) new granted → Charges old cost new granted
capped {old} {new} cost {granted} h = ⊎_elim
    (λ over.
    let m : min (2 ^ 64 - 1) cost ≡ 2 ^ 64 - 1 = min-eq_left (omega (arith, over)) in
    let a : nat_le (min (2 ^ 64 - 1) cost) old.scene.fuel ≡ false = lt-leb _ _ (omega (arith, h.small, m)) in
    let b : nat_le cost old.scene.fuel ≡ false = lt-leb _ _ (omega (arith, h.small, over)) in
    record {
      small = h.small;
      answer = h.answer ∙ a ∙ sym b;
      new_is = h.new_is ∙ ap (λ b. charged b (min (2 ^ 64 - 1) cost) old) (h.answer ∙ a) ∙ ap (λ b. charged b cost old) (sym (h.answer ∙ a));
    })
    (λ within. subst (λ n. Charges old n new granted) (min-eq_right within) h)
    (cases_lt (2 ^ 64 - 1) cost)

-- the same of an amount that is known to be the cost, cut off
pub capped_as : {old new : Told} (cost amount : ℕ) {granted : Bool} → amount ≡ min (2 ^ 64 - 1) cost → Charges old amount new granted → Charges old cost new granted
capped_as {old} {new} cost amount {granted} is h = capped cost (subst (λ n. Charges old n new granted) is h)

-- ---- the same run

same_ran : {A : Type 0} {m n : M A} {t t1 : Told} {f f1 : Frame} {r : Result A Halt} → ((draws : List ℕ) → n (state_of t draws f) ≡ m (state_of t draws f)) → Ran m t f t1 f1 r → Ran n t f t1 f1 r
same_ran is a = record { draws = a.draws; did = a.did; drawn = a.drawn; taken = a.taken; gives = λ rest. is (a.draws ++ rest) ∙ a.gives rest; falls = a.falls; stands = a.stands }

same_passes : {A : Type 0} {m n : M A} {t : Told} {f f1 : Frame} → ((draws : List ℕ) → n (state_of t draws f) ≡ m (state_of t draws f)) → Passes m t f f1 → Passes n t f f1
same_passes {f = f} {f1 = f1} is a = record { draws = a.draws; passed = λ rest. subst (λ o. Contains (f ∷ (did_of o).frames) f1) (sym (is (a.draws ++ rest))) (a.passed rest) }

same_does : {A : Type 0} (m n : M A) (t t1 : Told) (f f1 : Frame) (r : Result A Stop) → ((draws : List ℕ) → n (state_of t draws f) ≡ m (state_of t draws f)) → Does m t f t1 f1 r → Does n t f t1 f1 r
same_does m n t t1 f f1 (Ok x) is a = same_ran is a
same_does m n t t1 f f1 (Err (Halted why)) is a = same_ran is a
same_does m n t t1 f f1 (Err Memory) is a = same_passes is a

-- two runs that are the same from here
pub walks_same : {A : Type 0} (m n : M A) {t t1 : Told} {f f1 : Frame} {r : Result A Stop} → ((draws : List ℕ) → n (state_of t draws f) ≡ m (state_of t draws f)) → Walks m t f t1 f1 r → Walks n t f t1 f1 r
walks_same m n {t} {t1} {f} {f1} {r} is w = record { does = same_does m n t t1 f f1 r is w.does }

-- the same run under another name
pub walks_as : {A : Type 0} {m n : M A} {t t1 : Told} {f f1 : Frame} {r : Result A Stop} → n ≡ m → Walks m t f t1 f1 r → Walks n t f t1 f1 r
walks_as {t = t} {t1} {f} {f1} {r} is w = subst (λ k. Walks k t f t1 f1 r) (sym is) w

-- what the scene chooses
pub walks_by_scene : {A : Type 0} (g : Scene → M A) {t t1 : Told} {f f1 : Frame} {r : Result A Stop} → Walks (g t.scene) t f t1 f1 r → Walks (by_scene g) t f t1 f1 r
unfolding by_scene
walks_by_scene g {t} w = walks_same (g t.scene) _ (λ draws. refl) w
