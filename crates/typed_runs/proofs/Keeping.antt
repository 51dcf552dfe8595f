-- Runs that keep the shapes of variables, put together.
use Rattle.std.proofs.Common.{◌≡◌, ◌∷◌, ◌++◌}
use Rattle.typed_runs.proofs.Common.{ℕ, Bool, true, false, List, [], Result, Ok, Err, refl, sym, subst, AllZip, append_assoc, append-nil, Shape, Value, Program, Fault, Scene, Frame, Halt, State, Did, Outcome, Went, Ended, M, then_do, choose, all_behind, all, GlobalsFit, FrameFits, OutcomeFits, Keeps}
use Rattle.std.specs.Prelude.{nat_le}
use Rattle.std.proofs.lemmas.List.Elements.{All-append, All-nil, All-cons}
use Rattle.epl_values.specs.declared.value.Value.TheVariants as value
use Rattle.action_host.specs.declared.host.Effect.{Effect}
use Rattle.action_host.specs.declared.host.Answer.{Answer}
use Rattle.action_host.specs.declared.host.Answer.TheVariants as answer
use Rattle.action_host.specs.Replies.{reply}
use Rattle.body_meaning.specs.Runs.{nothing, one, and_then, behind, ◌>>=◌, ◌>>◌, pure, halt, charge, charge_if, perform, settle, given, looked, look, by_scene, change, changed, two}
use Rattle.typed_runs.specs.Kept.{DidFit, EffectFits, Leaves}

-- what is said of the value that an effect is answered
abbrev pub AnswerFits : (Value → Type 0) → Answer → Type 0
AnswerFits Q answer.Nothing = Q value.NoContext
AnswerFits Q (answer.Gives v) = Q v
AnswerFits Q (answer.Fails fault) = Unit {0}

-- nothing is said
abbrev pub Any : {A : Type 0} → A → Type 0
Any x = Unit {0}

-- ---- what was done, and how runs end

module _ (program : Program) (monitor : ℕ) where
  -- nothing was done
  nothing_fits : DidFit program monitor nothing
  nothing_fits = record { frames = All-nil _; effects = All-nil _ }

  -- an effect that carries what it is to carry
  one_fits : (e : Effect) → EffectFits program monitor e → DidFit program monitor (one e)
  one_fits e h = record { frames = All-nil _; effects = All-cons (EffectFits program monitor) e [] h (All-nil _) }

  -- a change that leaves globals of their shapes
  frame_fits : (f : Frame) → GlobalsFit program monitor f.globals → DidFit program monitor (record { effects = []; frames = f ∷ [] })
  frame_fits f h = record { frames = All-cons (λ (g : Frame). GlobalsFit program monitor g.globals) f [] h (All-nil _); effects = All-nil _ }

  -- what was done before, and then this
  both_fit : (before did : Did) → DidFit program monitor before → DidFit program monitor did → DidFit program monitor (and_then before did)
  both_fit before did a b = record { frames = All-append (λ (g : Frame). GlobalsFit program monitor g.globals) before.frames did.frames a.frames b.frames; effects = All-append (EffectFits program monitor) before.effects did.effects a.effects b.effects }

  -- a run behind what was done before
  behind_fits : {A : Type 0} (room : List Shape) (Q : A → Type 0) (before : Did) (o : Outcome A) → DidFit program monitor before → OutcomeFits program monitor room Q o → OutcomeFits program monitor room Q (behind before o)
  behind_fits room Q before (Went did x s) a h = (both_fit before did a h.0, h.1, h.2)
  behind_fits room Q before (Ended did why s) a h = (both_fit before did a h.0, h.1)

  -- one run, and then another
  then_fits : {A B : Type 0} (old new : List Shape) (Q : A → Type 0) (R : B → Type 0) (o : Outcome A) (go : A → M B) → OutcomeFits program monitor old Q o → ((x : A) → Q x → Leaves program monitor old new R (go x)) → OutcomeFits program monitor new R (then_do o go)
  then_fits old new Q R (Went did x s) go h k = behind_fits new R did (go x s) h.0 ((k x h.2).from s h.1)
  then_fits old new Q R (Ended did why s) go h k = h

  -- a value that is computed, or a fault
  looked_fits : (room : List Shape) {A : Type 0} (Q : A → Type 0) (r : Result A Fault) → ((x : A) → r ≡ Ok x → Q x) → (s : State) → FrameFits program monitor room s.frame → OutcomeFits program monitor room Q (looked r s)
  looked_fits room Q (Ok x) h s f = (nothing_fits, f, h x refl)
  looked_fits room Q (Err fault) h s f = (nothing_fits, f.globals)

  -- a charge
  charge_fits : (room : List Shape) (b : Bool) (amount : ℕ) (s : State) → FrameFits program monitor room s.frame → OutcomeFits program monitor room Any (charge_if b amount s)
  charge_fits room true amount s f = (nothing_fits, f, tt)
  charge_fits room false amount s f = (nothing_fits, f.globals)

  -- an effect that is answered
  settle_fits : (room : List Shape) (Q : Value → Type 0) (a : Answer) (e : Effect) (s : State) → EffectFits program monitor e → AnswerFits Q a → FrameFits program monitor room s.frame → OutcomeFits program monitor room Q (settle a e s)
  settle_fits room Q answer.Nothing e s h q f = (one_fits e h, f, q)
  settle_fits room Q (answer.Gives v) e s h q f = (one_fits e h, f, q)
  settle_fits room Q (answer.Fails fault) e s h q f = (nothing_fits, f.globals)

  -- other variables, or a fault
  changed_fits : (new : List Shape) (r : Result Frame Fault) → ((b : Frame) → r ≡ Ok b → FrameFits program monitor new b) → (s : State) → GlobalsFit program monitor s.frame.globals → OutcomeFits program monitor new Any (changed r s)
  changed_fits new (Ok frame) h s f = (frame_fits frame (h frame refl).globals, h frame refl, tt)
  changed_fits new (Err fault) h s f = (nothing_fits, f)

  -- less is said of the value
  as_fits : {A : Type 0} (room : List Shape) (Q R : A → Type 0) (o : Outcome A) → ((x : A) → Q x → R x) → OutcomeFits program monitor room Q o → OutcomeFits program monitor room R o
  as_fits room Q R (Went did x s) k h = (h.0, h.1, k x h.2)
  as_fits room Q R (Ended did why s) k h = h

module _ {program : Program} {monitor : ℕ} where
  -- ---- single steps

  -- a value that is only told
  pub keeps_pure : {room : List Shape} {A : Type 0} {Q : A → Type 0} (x : A) → Q x → Keeps program monitor room Q (pure x)
  unfolding pure
  keeps_pure x h = record { from = λ s f. (nothing_fits program monitor, f, h) }

  -- an end
  pub keeps_halt : {room : List Shape} {A : Type 0} {Q : A → Type 0} (why : Halt) → Keeps program monitor room Q (halt why)
  unfolding halt
  keeps_halt why = record { from = λ s f. (nothing_fits program monitor, f.globals) }

  -- what is computed from values
  pub keeps_given : {room : List Shape} {A : Type 0} {Q : A → Type 0} (r : Result A Fault) → ((x : A) → r ≡ Ok x → Q x) → Keeps program monitor room Q (given r)
  unfolding given
  keeps_given {Q = Q} r h = record { from = looked_fits _ _ _ Q r h }

  -- what is read from the variables
  pub keeps_look : {room : List Shape} {A : Type 0} {Q : A → Type 0} (g : Frame → A) → ((frame : Frame) → FrameFits program monitor room frame → Q (g frame)) → Keeps program monitor room Q (look g)
  unfolding look
  keeps_look g h = record { from = λ s f. (nothing_fits program monitor, f, h s.frame f) }

  -- fuel
  pub keeps_charge : {room : List Shape} (amount : ℕ) → Keeps program monitor room Any (charge amount)
  unfolding charge
  keeps_charge amount = record { from = λ s f. charge_fits _ _ _ (nat_le amount s.scene.fuel) amount s f }

  -- an effect
  pub keeps_perform : {room : List Shape} {Q : Value → Type 0} (e : Effect) → EffectFits program monitor e → ((scene : Scene) (draws : List ℕ) → AnswerFits Q (reply e scene draws).answer) → Keeps program monitor room Q (perform e)
  unfolding perform
  keeps_perform {Q = Q} e h q = record { from = λ s f. settle_fits _ _ _ Q (reply e s.scene s.draws).answer e _ h (q s.scene s.draws) f }

  -- what the scene chooses
  pub keeps_by_scene : {room : List Shape} {A : Type 0} {Q : A → Type 0} (g : Scene → M A) → ((scene : Scene) → Keeps program monitor room Q (g scene)) → Keeps program monitor room Q (by_scene g)
  unfolding by_scene
  keeps_by_scene g h = record { from = λ s f. (h s.scene).from s f }

  -- other variables
  pub leaves_change : {old new : List Shape} (g : Frame → Result Frame Fault) → ((a b : Frame) → FrameFits program monitor old a → g a ≡ Ok b → FrameFits program monitor new b) → Leaves program monitor old new Any (change g)
  unfolding change
  leaves_change g h = record { from = λ s f. changed_fits _ _ _ (g s.frame) (λ b is. h s.frame b f is) s f.globals }

  -- ---- one after another

  -- one run, and then the one that its value chooses
  pub keeps_bind : {old mid new : List Shape} {A B : Type 0} {Q : A → Type 0} {R : B → Type 0} {m : M A} (go : A → M B) → Leaves program monitor old mid Q m → ((x : A) → Q x → Leaves program monitor mid new R (go x)) → Leaves program monitor old new R (m >>= go)
  unfolding ◌>>=◌
  keeps_bind {mid = mid} {new} {Q = Q} {R} {m} go a h = record { from = λ s f. then_fits _ _ mid new Q R (m s) go (a.from s f) h }

  -- one run, and then another
  pub keeps_seq : {old mid new : List Shape} {A B : Type 0} {Q : A → Type 0} {R : B → Type 0} {m : M A} {n : M B} → Leaves program monitor old mid Q m → Leaves program monitor mid new R n → Leaves program monitor old new R (m >> n)
  unfolding ◌>>◌
  keeps_seq {mid = mid} {new} {Q = Q} {R} {m} {n} a b = record { from = λ s f. then_fits _ _ mid new Q R (m s) (λ _. n) (a.from s f) (λ _ q. b) }

  -- less is said of the value
  pub keeps_as : {old new : List Shape} {A : Type 0} {Q R : A → Type 0} {m : M A} → ((x : A) → Q x → R x) → Leaves program monitor old new Q m → Leaves program monitor old new R m
  keeps_as {Q = Q} {R} {m} k a = record { from = λ s f. as_fits _ _ _ Q R (m s) k (a.from s f) }

  -- either of two
  pub keeps_choose : {old new : List Shape} {A : Type 0} {Q : A → Type 0} (b : Bool) {m n : M A} → Leaves program monitor old new Q m → Leaves program monitor old new Q n → Leaves program monitor old new Q (choose b m n)
  keeps_choose true p q = p
  keeps_choose false p q = q

  -- both
  pub keeps_two : {room : List Shape} {A B : Type 0} {Q : A → Type 0} {R : B → Type 0} {m : M A} {n : M B} → Keeps program monitor room Q m → Keeps program monitor room R n → Keeps program monitor room (λ p. Q p.0 × R p.1) (two m n)
  unfolding two
  keeps_two a b = keeps_bind _ a (λ x p. keeps_bind _ b (λ y q. keeps_pure (x, y) (p, q)))

  -- ---- in a row

  module _ {room : List Shape} where
    -- all behind the values so far
    all_behind_keeps : {S A : Type 0} (P : S → A → Type 0) (Q : List A → Type 0) (xs : List A) (ss : List S) (ms : List (M A)) → AllZip (λ s m. Keeps program monitor room (P s) m) ss ms → ((ys : List A) → AllZip P ss ys → Q (xs ++ ys)) → Keeps program monitor room Q (all_behind xs ms)
    all_behind_keeps P Q xs [] [] h k = keeps_pure xs (subst Q (append-nil xs) (k [] tt))
    all_behind_keeps P Q xs [] (m ∷ ms) h k = absurd h
    all_behind_keeps P Q xs (s ∷ ss) [] h k = absurd h
    all_behind_keeps P Q xs (s ∷ ss) (m ∷ ms) h k = keeps_bind _ h.0 (λ x p. all_behind_keeps P Q (xs ++ x ∷ []) ss ms h.1 (λ ys q. subst Q (sym (append_assoc xs (x ∷ []) ys)) (k (x ∷ ys) (p, q))))

    -- all, from left to right, each as it is said
    pub keeps_all : {S A : Type 0} (P : S → A → Type 0) (ss : List S) (ms : List (M A)) → AllZip (λ s m. Keeps program monitor room (P s) m) ss ms → Keeps program monitor room (λ ys. AllZip P ss ys) (all ms)
    keeps_all P ss ms h = all_behind_keeps P (λ ys. AllZip P ss ys) [] ss ms h (λ ys q. q)
