-- One call behind another, choices and effects.
use Rattle.std.proofs.Common.{◌≡◌, ◌+◌, ◌∷◌, ◌++◌}
use Rattle.walk_rules.proofs.Common.{ℕ, Bool, true, false, List, [], Result, Ok, Err, refl, sym, ap, subst, ◌∙◌, arith, append_assoc, Contains, Value, Fault, Effect, Scene, Told, Frame, Halt, Failed, State, Did, M, then_do, choose, Stop, Halted, Memory, state_of, outcome_of, did_of, standing, Ran, Passes, Does, Walks}
use Rattle.epl_values.specs.declared.value.Value.TheVariants as value
use Rattle.action_host.specs.declared.host.Answer.{Answer}
use Rattle.action_host.specs.declared.host.Answer.TheVariants as answer
use Rattle.action_host.specs.Told.{Takes, listed}
use Rattle.action_host.proofs.Replying.{reply_is_lawful}
use Rattle.body_meaning.specs.Runs.{and_then, behind, ◌>>=◌, ◌>>◌, pure, two, perform, settle, replied}
use Rattle.walk_rules.proofs.Frames.{standing_append, contains_behind, contains_then, did_behind}
use Rattle.walk_rules.proofs.Running.{walks_pure}

-- ---- one after another

pub behind_outcome : {A : Type 0} (before did : Did) (r : Result A Halt) (s : State) → behind before (outcome_of r did s) ≡ outcome_of r (and_then before did) s
behind_outcome before did (Ok x) s = refl
behind_outcome before did (Err why) s = refl

then_ran : {A B : Type 0} {m : M A} {n : M B} (go : A → M B) (x : A) {t t1 t2 : Told} {f f1 f2 : Frame} {r : Result B Halt} → ((s : State) → n s ≡ then_do (m s) go) → Ran m t f t1 f1 (Ok x) → Ran (go x) t1 f1 t2 f2 r → Ran n t f t2 f2 r
then_ran {m} {n} go x {t} {t1} {t2} {f} {f1} {f2} {r} is a b = record {
  draws = a.draws ++ b.draws;
  did = and_then a.did b.did;
  drawn = b.drawn ∙ ap (λ l. l ++ b.draws) a.drawn ∙ append_assoc t.drawn a.draws b.draws;
  taken = b.taken ∙ ap (λ l. l ++ b.did.effects) a.taken ∙ append_assoc t.taken a.did.effects b.did.effects;
  gives = λ rest. ap (λ l. n (state_of t l f)) (append_assoc a.draws b.draws rest) ∙ is (state_of t (a.draws ++ (b.draws ++ rest)) f) ∙ ap (λ o. then_do o go) (a.gives (b.draws ++ rest)) ∙ ap (behind a.did) (b.gives rest) ∙ behind_outcome a.did b.did r (state_of t2 rest f2);
  falls = omega (arith, a.falls, b.falls);
  stands = b.stands ∙ ap (λ g. standing g b.did.frames) a.stands ∙ sym (standing_append f a.did.frames b.did.frames);
}

then_passes : {A B : Type 0} {m : M A} {n : M B} (go : A → M B) (x : A) {t t1 : Told} {f f1 f2 : Frame} → ((s : State) → n s ≡ then_do (m s) go) → Ran m t f t1 f1 (Ok x) → Passes (go x) t1 f1 f2 → Passes n t f f2
then_passes {m = m} {n} go x {t} {t1} {f} {f1} {f2} is a b = record {
  draws = a.draws ++ b.draws;
  passed = λ rest.
      let o = go x (state_of t1 (b.draws ++ rest) f1) in
      let runs : n (state_of t ((a.draws ++ b.draws) ++ rest) f) ≡ behind a.did o = ap (λ l. n (state_of t l f)) (append_assoc a.draws b.draws rest) ∙ is (state_of t (a.draws ++ (b.draws ++ rest)) f) ∙ ap (λ o. then_do o go) (a.gives (b.draws ++ rest)) in
      let did : did_of (n (state_of t ((a.draws ++ b.draws) ++ rest) f)) ≡ and_then a.did (did_of o) = ap did_of runs ∙ did_behind a.did o in
      let here : Contains (standing f a.did.frames ∷ (did_of o).frames) f2 = subst (λ g. Contains (g ∷ (did_of o).frames) f2) a.stands (b.passed rest) in
      subst (λ (d : Did). Contains (f ∷ d.frames) f2) (sym did) (contains_behind f a.did.frames (did_of o).frames f2 here);
}

then_ended : {A B : Type 0} {m : M A} {n : M B} (go : A → M B) {t t1 : Told} {f f1 : Frame} {why : Halt} → ((s : State) → n s ≡ then_do (m s) go) → Ran m t f t1 f1 (Err why) → Ran n t f t1 f1 (Err why)
then_ended go {t} {t1} {f} {f1} {why} is a = record {
  draws = a.draws;
  did = a.did;
  drawn = a.drawn;
  taken = a.taken;
  gives = λ rest. is (state_of t (a.draws ++ rest) f) ∙ ap (λ o. then_do o go) (a.gives rest);
  falls = a.falls;
  stands = a.stands;
}

then_stopped : {A B : Type 0} {m : M A} {n : M B} (go : A → M B) {t : Told} {f f1 : Frame} → ((s : State) → n s ≡ then_do (m s) go) → Passes m t f f1 → Passes n t f f1
then_stopped {m = m} go {t} {f} {f1} is a = record {
  draws = a.draws;
  passed = λ rest. let s = state_of t (a.draws ++ rest) f in subst (λ o. Contains (f ∷ (did_of o).frames) f1) (sym (is s)) (contains_then (m s) go f f1 (a.passed rest));
}

then_does : {A B : Type 0} {m : M A} {n : M B} (go : A → M B) (x : A) {t t1 : Told} {f f1 : Frame} (t2 : Told) (f2 : Frame) (r : Result B Stop) → ((s : State) → n s ≡ then_do (m s) go) → Ran m t f t1 f1 (Ok x) → Does (go x) t1 f1 t2 f2 r → Does n t f t2 f2 r
then_does go x t2 f2 (Ok y) is a b = then_ran go x is a b
then_does go x t2 f2 (Err (Halted why)) is a b = then_ran go x is a b
then_does go x t2 f2 (Err Memory) is a b = then_passes go x is a b

ended_does : {A B : Type 0} (m : M A) (n : M B) (go : A → M B) (t t1 : Told) (f f1 : Frame) (stop : Stop) → ((s : State) → n s ≡ then_do (m s) go) → Does m t f t1 f1 (Err stop) → Does n t f t1 f1 (Err stop)
ended_does m n go t t1 f f1 (Halted why) is a = then_ended go is a
ended_does m n go t t1 f f1 Memory is a = then_stopped go is a

pub walks_bind : {A B : Type 0} {m : M A} (go : A → M B) {x : A} {t t1 t2 : Told} {f f1 f2 : Frame} {r : Result B Stop} → Walks m t f t1 f1 (Ok x) → Walks (go x) t1 f1 t2 f2 r → Walks (m >>= go) t f t2 f2 r
unfolding ◌>>=◌
walks_bind go {x} {t2 = t2} {f2 = f2} {r = r} a b = record { does = then_does go x t2 f2 r (λ s. refl) a.does b.does }

-- a call that stops in its first part stops so in the whole
pub walks_bind_err : {A B : Type 0} {m : M A} (go : A → M B) {stop : Stop} {t t1 : Told} {f f1 : Frame} → Walks m t f t1 f1 (Err stop) → Walks (m >>= go) t f t1 f1 (Err stop)
unfolding ◌>>=◌
walks_bind_err {m = m} go {stop} {t} {t1} {f} {f1} a = record { does = ended_does m _ go t t1 f f1 stop (λ s. refl) a.does }

pub walks_seq : {A B : Type 0} {m : M A} {n : M B} {x : A} {t t1 t2 : Told} {f f1 f2 : Frame} {r : Result B Stop} → Walks m t f t1 f1 (Ok x) → Walks n t1 f1 t2 f2 r → Walks (m >> n) t f t2 f2 r
unfolding ◌>>◌
walks_seq {n = n} {x = x} {t2 = t2} {f2 = f2} {r = r} a b = record { does = then_does (λ _. n) x t2 f2 r (λ s. refl) a.does b.does }

pub walks_seq_err : {A B : Type 0} {m : M A} (n : M B) {stop : Stop} {t t1 : Told} {f f1 : Frame} → Walks m t f t1 f1 (Err stop) → Walks (m >> n) t f t1 f1 (Err stop)
unfolding ◌>>◌
walks_seq_err {m = m} n {stop} {t} {t1} {f} {f1} a = record { does = ended_does m _ (λ _. n) t t1 f f1 stop (λ s. refl) a.does }

-- the last part is only told: a value behind a run
pub walks_then_pure : {A B : Type 0} {m : M A} (g : A → B) {x : A} {t t1 : Told} {f f1 : Frame} → Walks m t f t1 f1 (Ok x) → Walks (m >>= (λ y. pure (g y))) t f t1 f1 (Ok (g x))
walks_then_pure g {x} {t1 = t1} {f1 = f1} a = walks_bind _ a (walks_pure (g x) t1 f1)

-- ---- choices

pub walks_true : {A : Type 0} {b : Bool} {m : M A} (n : M A) {t t1 : Told} {f f1 : Frame} {r : Result A Stop} → true ≡ b → Walks m t f t1 f1 r → Walks (choose b m n) t f t1 f1 r
walks_true {m = m} n {t} {t1} {f} {f1} {r} is w = subst (λ b. Walks (choose b m n) t f t1 f1 r) is w

pub walks_false : {A : Type 0} {b : Bool} (m : M A) {n : M A} {t t1 : Told} {f f1 : Frame} {r : Result A Stop} → false ≡ b → Walks n t f t1 f1 r → Walks (choose b m n) t f t1 f1 r
walks_false m {n} {t} {t1} {f} {f1} {r} is w = subst (λ b. Walks (choose b m n) t f t1 f1 r) is w

-- ---- both

pub walks_two : {A B : Type 0} {m : M A} {n : M B} {x : A} {y : B} {t t1 t2 : Told} {f f1 f2 : Frame} → Walks m t f t1 f1 (Ok x) → Walks n t1 f1 t2 f2 (Ok y) → Walks (two m n) t f t2 f2 (Ok (x, y))
unfolding two
walks_two a b = walks_bind _ a (walks_bind _ b (walks_pure _ _ _))

pub walks_left_err : {A B : Type 0} {m : M A} (n : M B) {stop : Stop} {t t1 : Told} {f f1 : Frame} → Walks m t f t1 f1 (Err stop) → Walks (two m n) t f t1 f1 (Err stop)
unfolding two
walks_left_err n a = walks_bind_err _ a

pub walks_right_err : {A B : Type 0} {m : M A} {n : M B} {x : A} {stop : Stop} {t t1 t2 : Told} {f f1 f2 : Frame} → Walks m t f t1 f1 (Ok x) → Walks n t1 f1 t2 f2 (Err stop) → Walks (two m n) t f t2 f2 (Err stop)
unfolding two
walks_right_err a b = walks_bind _ a (walks_bind_err _ b)

-- ---- effects

-- what a run gives that was answered so
abbrev pub settled : Answer → Result Value Halt
settled answer.Nothing = Ok value.NoContext
settled (answer.Gives v) = Ok v
settled (answer.Fails fault) = Err (Failed fault)

settled_is : (a : Answer) (e : Effect) (s : State) → settle a e s ≡ outcome_of (settled a) (record { effects = listed a e; frames = [] }) s
settled_is answer.Nothing e s = refl
settled_is (answer.Gives v) e s = refl
settled_is (answer.Fails fault) e s = refl

performed : {old new : Told} {e : Effect} {a : Answer} (frame : Frame) → Takes old e new a → Ran (perform e) old frame new frame (settled a)
unfolding perform
performed {old} {new} {e} {a} frame h = record {
  draws = h.new_draws;
  did = record { effects = listed a e; frames = [] };
  drawn = h.drawn;
  taken = h.taken;
  gives = λ rest. ap (λ r. replied r e frame) (h.gives rest) ∙ settled_is a e (state_of new rest frame);
  falls = let fuel = sym (ap (λ r. r.scene.fuel) (h.gives [])) ∙ (reply_is_lawful e old.scene (h.new_draws ++ [])).fuel in omega (arith, fuel);
  stands = refl;
}

pub walks_nothing : {old new : Told} {e : Effect} (frame : Frame) → Takes old e new answer.Nothing → Walks (perform e) old frame new frame (Ok value.NoContext)
walks_nothing frame h = record { does = performed frame h }

pub walks_gives : {old new : Told} {e : Effect} {v : Value} (frame : Frame) → Takes old e new (answer.Gives v) → Walks (perform e) old frame new frame (Ok v)
walks_gives frame h = record { does = performed frame h }

pub walks_fails : {old new : Told} {e : Effect} {why : Fault} (frame : Frame) → Takes old e new (answer.Fails why) → Walks (perform e) old frame new frame (Err (Halted (Failed why)))
walks_fails frame h = record { does = performed frame h }
