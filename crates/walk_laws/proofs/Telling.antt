-- Runs that are told of the globals alone where they stop, one step at a time.
use Rattle.std.proofs.Common.{◌≡◌, List, [], ◌++◌, Result, Ok, Err, refl, sym, ap, subst, ◌∙◌}
use Rattle.std.specs.Prelude.{IsErrAnd, OnOk}
use Rattle.epl_values.specs.declared.value.Value.{Value}
use Rattle.typed_program.specs.declared.program.Program.{Program}
use Rattle.action_host.specs.declared.host.Fault.{Fault}
use Rattle.action_host.specs.Told.{Told}
use Rattle.body_meaning.specs.declared.run.Flow.{Flow}
use Rattle.body_meaning.specs.declared.run.Frame.{Frame}
use Rattle.body_meaning.specs.declared.run.Halt.{Halt}
use Rattle.body_meaning.specs.declared.run.Halt.TheVariants.{Failed}
use Rattle.body_meaning.specs.Runs.{Did, Went, M, ◌>>=◌, ◌>>◌, behind, pure, halt, given, look, two}
use Rattle.body_meaning.specs.Acts.{in_locals, returned}
use Rattle.walk_rules.specs.declared.stop.Stop.{Stop}
use Rattle.walk_rules.specs.declared.stop.Stop.TheVariants.{Halted, Memory}
use Rattle.walk_rules.specs.Ran.{state_of, Ran, Walks, Leads}
use Rattle.walk_rules.proofs.Running.{append_nil, walks_pure, walks_halt, walks_given, walks_given_err, walks_look, walks_memory, walks_as}
use Rattle.walk_rules.proofs.Binding.{walks_bind, walks_bind_err, walks_seq, walks_seq_err}
use Rattle.walk_rules.proofs.Leading.{leads_walks, leads_stop, leads_bind, leads_seq}
use Rattle.walk_rules.proofs.Calling.{over_locals, walks_in_locals, walks_in_locals_err}
use Rattle.path_bases.specs.Tells.{Tells}
use Rattle.walk_laws.proofs.Grouping.{bind_mapped, two_then}

-- ---- what is told and what is walked

always : {A : Type 0} (r : Result A Stop) (f : Frame) → OnOk r (f.locals ≡ f.locals)
always (Ok x) f = refl
always (Err stop) f = tt

-- a run that is told of all variables is told of the globals
pub tells_walks : {A : Type 0} {m : M A} {r : Result A Stop} {t t1 : Told} {f f1 : Frame} → Walks m t f t1 f1 r → Tells m t f t1 f1 r
tells_walks {r = r} {f1 = f1} w = record { at = f1; globals = refl; locals = always r f1; walks = w }

same_frame : (g h : Frame) → g.globals ≡ h.globals → g.locals ≡ h.locals → g ≡ h
same_frame g h globals locals = ap (λ x. record g { globals = x }) globals ∙ ap (λ x. record h { locals = x }) locals

-- a run that ended with a value is told of all variables
pub walks_tells : {A : Type 0} {m : M A} {x : A} {t t1 : Told} {f f1 : Frame} → Tells m t f t1 f1 (Ok x) → Walks m t f t1 f1 (Ok x)
walks_tells {m = m} {x} {t} {t1} {f} {f1} a = subst (λ g. Walks m t f t1 g (Ok x)) (same_frame a.at f1 a.globals a.locals) a.walks

-- where a run stopped, the locals are anything
pub tells_stopped : {A : Type 0} {m : M A} {stop : Stop} {t t1 : Told} {f f1 f2 : Frame} → f1.globals ≡ f2.globals → Tells m t f t1 f1 (Err stop) → Tells m t f t1 f2 (Err stop)
tells_stopped same a = record { at = a.at; globals = a.globals ∙ same; locals = tt; walks = a.walks }

-- where a part that stops stops the whole, it does so when told of the globals alone
pub tells_through : {A B : Type 0} {m : M A} {n : M B} {stop : Stop} {t t1 t2 : Told} {f f1 f2 : Frame} → ((g : Frame) → Walks n t1 f1 t2 g (Err stop) → Walks m t f t2 g (Err stop)) → Tells n t1 f1 t2 f2 (Err stop) → Tells m t f t2 f2 (Err stop)
tells_through h a = record { at = a.at; globals = a.globals; locals = tt; walks = h a.at a.walks }

-- the same run under another name
pub tells_as : {A : Type 0} {m n : M A} {t t1 : Told} {f f1 : Frame} {r : Result A Stop} → n ≡ m → Tells m t f t1 f1 r → Tells n t f t1 f1 r
tells_as is a = record { at = a.at; globals = a.globals; locals = a.locals; walks = walks_as is a.walks }

-- the error that a `?` hands on
pub tells_err : {A : Type 0} {m : M A} {stop : Stop} {t t1 : Told} {f f1 : Frame} (result : Result A Stop) → IsErrAnd result (λ e. e ≡ stop) → Tells m t f t1 f1 (Err stop) → Tells m t f t1 f1 result
tells_err (Ok x) h a = absurd h
tells_err {m = m} {t = t} {t1 = t1} {f = f} {f1 = f1} (Err e) h a = subst (λ e. Tells m t f t1 f1 (Err e)) (sym h) a

-- ---- one after another

-- one run, and then the one that its value chooses
pub tells_bind : {A B : Type 0} {m : M A} (go : A → M B) {x : A} {t t1 t2 : Told} {f f1 f2 : Frame} {r : Result B Stop} → Tells m t f t1 f1 (Ok x) → Tells (go x) t1 f1 t2 f2 r → Tells (m >>= go) t f t2 f2 r
tells_bind go a b = record { at = b.at; globals = b.globals; locals = b.locals; walks = walks_bind go (walks_tells a) b.walks }

-- a run that stops in its first part stops so in the whole
pub tells_bind_err : {A B : Type 0} {m : M A} (go : A → M B) {stop : Stop} {t t1 : Told} {f f1 : Frame} → Tells m t f t1 f1 (Err stop) → Tells (m >>= go) t f t1 f1 (Err stop)
tells_bind_err go a = record { at = a.at; globals = a.globals; locals = tt; walks = walks_bind_err go a.walks }

-- one run, and then another
pub tells_seq : {A B : Type 0} {m : M A} {n : M B} {x : A} {t t1 t2 : Told} {f f1 f2 : Frame} {r : Result B Stop} → Tells m t f t1 f1 (Ok x) → Tells n t1 f1 t2 f2 r → Tells (m >> n) t f t2 f2 r
tells_seq a b = record { at = b.at; globals = b.globals; locals = b.locals; walks = walks_seq (walks_tells a) b.walks }

-- the same where the first one stops
pub tells_seq_err : {A B : Type 0} {m : M A} (n : M B) {stop : Stop} {t t1 : Told} {f f1 : Frame} → Tells m t f t1 f1 (Err stop) → Tells (m >> n) t f t1 f1 (Err stop)
tells_seq_err n a = record { at = a.at; globals = a.globals; locals = tt; walks = walks_seq_err n a.walks }

-- the last part is only told: a value behind a run
pub tells_then_pure : {A B : Type 0} {m : M A} (g : A → B) {x : A} {t t1 : Told} {f f1 : Frame} → Tells m t f t1 f1 (Ok x) → Tells (m >>= (λ y. pure (g y))) t f t1 f1 (Ok (g x))
tells_then_pure g {x} a = tells_bind _ a (tells_walks (walks_pure (g x) _ _))

-- ---- single steps

-- a value that is only told
pub tells_pure : {A : Type 0} (x : A) (told : Told) (frame : Frame) → Tells (pure x) told frame told frame (Ok x)
tells_pure x told frame = tells_walks (walks_pure x told frame)

-- a call that gives a value that is known
pub tells_is : {A : Type 0} {x : A} {r : Result A Stop} (told : Told) (frame : Frame) → r ≡ Ok x → Tells (pure x) told frame told frame r
tells_is {x = x} told frame is = subst (λ r. Tells (pure x) told frame told frame r) (sym is) (tells_pure x told frame)

-- a run that ends at once
pub tells_halt : {A : Type 0} (why : Halt) (told : Told) (frame : Frame) → Tells (halt {A = A} why) told frame told frame (Err (Halted why))
tells_halt why told frame = tells_walks (walks_halt why told frame)

-- what is computed from values
pub tells_given : {A : Type 0} {r : Result A Fault} {x : A} (told : Told) (frame : Frame) → Ok x ≡ r → Tells (given r) told frame told frame (Ok x)
tells_given told frame h = tells_walks (walks_given told frame h)

-- a fault of what is computed from values
pub tells_given_err : {A : Type 0} {r : Result A Fault} {fault : Fault} (told : Told) (frame : Frame) → Err fault ≡ r → Tells (given r) told frame told frame (Err (Halted (Failed fault)))
tells_given_err told frame h = tells_walks (walks_given_err told frame h)

-- what is read from the variables
pub tells_look : {A : Type 0} (g : Frame → A) {x : A} (told : Told) {frame : Frame} → x ≡ g frame → Tells (look g) told frame told frame (Ok x)
tells_look g told h = tells_walks (walks_look g told h)

-- a call that stops for want of memory before it changes a global
pub tells_memory : {A : Type 0} (m : M A) (old new : Told) {f f1 : Frame} → f.globals ≡ f1.globals → Tells m old f new f1 (Err Memory)
tells_memory m old new {f} same = record { at = f; globals = same; locals = tt; walks = walks_memory m old new f }

-- ---- a part of the way

-- what is still to be run, and then all
pub leads_tells : {A : Type 0} {m n : M A} {t t1 t2 : Told} {f f1 f2 : Frame} {r : Result A Stop} → Leads m t f n t1 f1 → Tells n t1 f1 t2 f2 r → Tells m t f t2 f2 r
leads_tells a b = record { at = b.at; globals = b.globals; locals = b.locals; walks = leads_walks a b.walks }

-- where a part stops, the whole stops
pub leads_stop_tells : {A B : Type 0} {m : M B} {n : M A} (go : A → M B) {stop : Stop} {t t1 t2 : Told} {f f1 f2 : Frame} → Leads m t f (n >>= go) t1 f1 → Tells n t1 f1 t2 f2 (Err stop) → Tells m t f t2 f2 (Err stop)
leads_stop_tells go a b = record { at = b.at; globals = b.globals; locals = tt; walks = leads_stop go a b.walks }

-- a part that ended with a value, and what its value chooses
pub leads_bind_tells : {A B : Type 0} {m : M B} {n : M A} (go : A → M B) {x : A} {t t1 t2 : Told} {f f1 f2 : Frame} → Leads m t f (n >>= go) t1 f1 → Tells n t1 f1 t2 f2 (Ok x) → Leads m t f (go x) t2 f2
leads_bind_tells go a b = leads_bind go a (walks_tells b)

-- a part that ended with a value, and what is behind it
pub leads_seq_tells : {A B : Type 0} {m : M B} {n : M A} (k : M B) {x : A} {t t1 t2 : Told} {f f1 f2 : Frame} → Leads m t f (n >> k) t1 f1 → Tells n t1 f1 t2 f2 (Ok x) → Leads m t f k t2 f2
leads_seq_tells k a b = leads_seq k a (walks_tells b)

back_nothing : {A : Type 0} (m : M A) (x : A) {t t1 : Told} {f f1 : Frame} → Ran m t f t1 f1 (Ok x) → Leads m t f (pure x) t1 f1
unfolding pure
back_nothing m x {t} {t1} {f} {f1} a = record {
  draws = a.draws;
  did = a.did;
  drawn = a.drawn;
  taken = a.taken;
  gives = λ rest. a.gives rest ∙ ap (λ (did : Did). Went did x (state_of t1 rest f1)) (ap (λ l. record a.did { effects = l }) (append_nil a.did.effects) ∙ ap (λ l. record { effects = a.did.effects ++ []; frames = l }) (append_nil a.did.frames));
  falls = a.falls;
  stands = a.stands;
}

-- a run that ended with a value leads to that value
pub walks_leads : {A : Type 0} {m : M A} {x : A} {t t1 : Told} {f f1 : Frame} → Walks m t f t1 f1 (Ok x) → Leads m t f (pure x) t1 f1
walks_leads {m = m} {x} a = back_nothing m x a.does

-- a run that ended with a value, and a call that does no more than to give it
pub tells_kept : {A : Type 0} {m : M A} {x : A} {t t1 t2 : Told} {f f1 f2 : Frame} {r : Result A Stop} → Tells m t f t1 f1 (Ok x) → Tells (pure x) t1 f1 t2 f2 r → Tells m t f t2 f2 r
tells_kept a b = leads_tells (walks_leads (walks_tells a)) b

-- ---- what is computed of a value

-- a run told by what is computed of its value, and what comes behind it
pub tells_mapped : {A B C : Type 0} (m : M A) (to : A → B) (go : B → M C) {y : B} {r : Result C Stop} {t t1 t2 : Told} {f f1 f2 : Frame} → Tells (m >>= (λ x. pure (to x))) t f t1 f1 (Ok y) → Tells (go y) t1 f1 t2 f2 r → Tells (m >>= (λ x. go (to x))) t f t2 f2 r
tells_mapped m to go a b = tells_as (sym (bind_mapped m to go)) (tells_bind go a b)

-- the same where that run stops
pub tells_mapped_err : {A B C : Type 0} (m : M A) (to : A → B) (go : B → M C) {stop : Stop} {t t1 : Told} {f f1 : Frame} → Tells (m >>= (λ x. pure (to x))) t f t1 f1 (Err stop) → Tells (m >>= (λ x. go (to x))) t f t1 f1 (Err stop)
tells_mapped_err m to go a = tells_as (sym (bind_mapped m to go)) (tells_bind_err go a)

-- both, the left first, and what is computed of them
pub tells_two : {A B C : Type 0} {m : M A} (n : M B) (go : A → B → M C) {x : A} {r : Result C Stop} {t t1 t2 : Told} {f f1 f2 : Frame} → Tells m t f t1 f1 (Ok x) → Tells (n >>= go x) t1 f1 t2 f2 r → Tells (two m n >>= (λ p. go p.0 p.1)) t f t2 f2 r
tells_two {m = m} n go a b = tells_as (two_then m n go) (tells_bind (λ x. n >>= go x) a b)

-- where the left one stops
pub tells_left_err : {A B C : Type 0} {m : M A} (n : M B) (go : A → B → M C) {stop : Stop} {t t1 : Told} {f f1 : Frame} → Tells m t f t1 f1 (Err stop) → Tells (two m n >>= (λ p. go p.0 p.1)) t f t1 f1 (Err stop)
tells_left_err {m = m} n go a = tells_as (two_then m n go) (tells_bind_err (λ x. n >>= go x) a)

-- ---- locals of their own

module _ (program : Program) (locals : List Value) {m : M Flow} {t t1 : Told} {f g : Frame} where
  -- the outer locals stand again behind the statements
  pub tells_in_locals : {flow : Flow} → Tells m t (over_locals locals f) t1 g (Ok flow) → Tells (in_locals program locals m) t f t1 (over_locals f.locals g) (Ok (returned flow))
  tells_in_locals ran = tells_walks (walks_in_locals program locals (walks_tells ran))

  -- where the statements stop
  pub tells_in_locals_err : {stop : Stop} → Tells m t (over_locals locals f) t1 g (Err stop) → Tells (in_locals program locals m) t f t1 (over_locals f.locals g) (Err stop)
  tells_in_locals_err ran = record { at = ran.at; globals = ran.globals; locals = tt; walks = walks_in_locals_err program locals ran.walks }
