-- Paths: a base that was found, and what comes behind it, one step at a time.
use Rattle.std.proofs.Common.{◌≡◌, Result, Ok, Err, refl, sym, subst}
use Rattle.std.specs.Prelude.{IsErrAnd}
use Rattle.epl_values.specs.declared.value.Value.{Value}
use Rattle.action_host.specs.Told.{Told}
use Rattle.body_meaning.specs.declared.run.Frame.{Frame}
use Rattle.body_meaning.specs.Runs.{M, ◌>>=◌, ◌>>◌, pure}
use Rattle.walk_rules.specs.declared.stop.Stop.{Stop}
use Rattle.walk_rules.specs.declared.stop.Stop.TheVariants.{Memory}
use Rattle.walk_rules.specs.Ran.{Walks, Leads}
use Rattle.path_bases.specs.declared.base.Base.{Base}
use Rattle.path_bases.specs.declared.base.Base.TheVariants as base
use Rattle.path_bases.specs.Tells.{Tells}
use Rattle.path_bases.specs.Bases.{Stands, Founds, Finds}
use Rattle.walk_laws.proofs.Grouping.{bind_mapped}
use Rattle.walk_laws.proofs.Telling.{tells_walks, tells_as, tells_memory, tells_bind, tells_bind_err, tells_seq, tells_kept, tells_mapped_err, leads_tells}

-- ---- what is found

-- a value of its own is its own base
pub finds_own : {m : M Value} {v : Value} {t t1 : Told} {f f1 : Frame} → Tells m t f t1 f1 (Ok v) → Finds m t f t1 f1 (Ok (base.Own v))
finds_own {v = v} a = record { value = v; stands = refl; tells = a }

-- a base that stands for the value that a run ended with
pub finds_base : {m : M Value} {b : Base} {v : Value} {t t1 : Told} {f f1 : Frame} → Stands f1.globals b v → Tells m t f t1 f1 (Ok v) → Finds m t f t1 f1 (Ok b)
finds_base {v = v} stands a = record { value = v; stands = stands; tells = a }

-- a run that stops finds nothing
pub finds_halted : {m : M Value} {stop : Stop} {t t1 : Told} {f f1 : Frame} → Tells m t f t1 f1 (Err stop) → Finds m t f t1 f1 (Err stop)
finds_halted a = a

-- the error that a `?` hands on
pub finds_err : {m : M Value} {stop : Stop} {t t1 : Told} {f f1 : Frame} (result : Result Base Stop) → IsErrAnd result (λ e. e ≡ stop) → Tells m t f t1 f1 (Err stop) → Finds m t f t1 f1 result
finds_err (Ok b) h a = absurd h
finds_err {m = m} {t = t} {t1 = t1} {f = f} {f1 = f1} (Err e) h a = subst (λ e. Tells m t f t1 f1 (Err e)) (sym h) a

-- a call that stops for want of memory before it changes a global
pub finds_memory : (m : M Value) (old new : Told) {f f1 : Frame} → f.globals ≡ f1.globals → Finds m old f new f1 (Err Memory)
finds_memory m old new same = tells_memory m old new same

-- the same run under another name
pub finds_as : {m n : M Value} (t t1 : Told) (f f1 : Frame) (r : Result Base Stop) → n ≡ m → Finds m t f t1 f1 r → Finds n t f t1 f1 r
finds_as t t1 f f1 (Ok b) is a = record { value = a.value; stands = a.stands; tells = tells_as is a.tells }
finds_as t t1 f f1 (Err stop) is a = tells_as is a

-- ---- one after another

-- a run, and what is found behind it
pub finds_then : {A : Type 0} {m : M A} (go : A → M Value) {x : A} {t t1 : Told} {f f1 : Frame} (t2 : Told) (f2 : Frame) (r : Result Base Stop) → Tells m t f t1 f1 (Ok x) → Finds (go x) t1 f1 t2 f2 r → Finds (m >>= go) t f t2 f2 r
finds_then go t2 f2 (Ok b) a next = record { value = next.value; stands = next.stands; tells = tells_bind go a next.tells }
finds_then go t2 f2 (Err stop) a next = tells_bind go a next

-- a part of a path, and what is found behind it
pub finds_bind : {m : M Value} (go : Value → M Value) {b : Base} {t t1 : Told} {f f1 : Frame} (t2 : Told) (f2 : Frame) (r : Result Base Stop) (a : Founds m t f t1 f1 b) → Finds (go a.value) t1 f1 t2 f2 r → Finds (m >>= go) t f t2 f2 r
finds_bind go t2 f2 r a next = finds_then go t2 f2 r a.tells next

-- where a part of a path stops, the whole stops
pub finds_stop : {A : Type 0} {m : M A} (go : A → M Value) {stop : Stop} {t t1 : Told} {f f1 : Frame} → Tells m t f t1 f1 (Err stop) → Finds (m >>= go) t f t1 f1 (Err stop)
finds_stop go a = tells_bind_err go a

-- a run whose value isn't looked at, and what is found behind it
pub finds_seq : {A : Type 0} {m : M A} (n : M Value) {x : A} {t t1 : Told} {f f1 : Frame} (t2 : Told) (f2 : Frame) (r : Result Base Stop) → Tells m t f t1 f1 (Ok x) → Finds n t1 f1 t2 f2 r → Finds (m >> n) t f t2 f2 r
finds_seq n t2 f2 (Ok b) a next = record { value = next.value; stands = next.stands; tells = tells_seq a next.tells }
finds_seq n t2 f2 (Err stop) a next = tells_seq a next

-- a run told by what is computed of its value, and what is found behind it
pub finds_mapped : {A B : Type 0} (m : M A) (to : A → B) (go : B → M Value) {y : B} {t t1 : Told} {f f1 : Frame} (t2 : Told) (f2 : Frame) (r : Result Base Stop) → Tells (m >>= (λ x. pure (to x))) t f t1 f1 (Ok y) → Finds (go y) t1 f1 t2 f2 r → Finds (m >>= (λ x. go (to x))) t f t2 f2 r
finds_mapped m to go {t = t} {f = f} t2 f2 r a next = finds_as t t2 f f2 r (sym (bind_mapped m to go)) (finds_then go t2 f2 r a next)

-- where that run stops
pub finds_mapped_stop : {A B : Type 0} (m : M A) (to : A → B) (go : B → M Value) {stop : Stop} {t t1 : Told} {f f1 : Frame} → Tells (m >>= (λ x. pure (to x))) t f t1 f1 (Err stop) → Finds (m >>= (λ x. go (to x))) t f t1 f1 (Err stop)
finds_mapped_stop m to go a = tells_mapped_err m to go a

-- the value of a base, and what is done with it
pub founds_bind : {B : Type 0} {m : M Value} (go : Value → M B) {b : Base} {r : Result B Stop} {t t1 t2 : Told} {f f1 f2 : Frame} (a : Founds m t f t1 f1 b) → Tells (go a.value) t1 f1 t2 f2 r → Tells (m >>= go) t f t2 f2 r
founds_bind go a next = tells_bind go a.tells next

-- the value that a base is known to stand for
pub founds_is : {m : M Value} {b : Base} (w : Value) {t t1 : Told} {f f1 : Frame} → Founds m t f t1 f1 b → ((v : Value) → Stands f1.globals b v → v ≡ w) → Tells m t f t1 f1 (Ok w)
founds_is {m} w {t} {t1} {f} {f1} a is = subst (λ v. Tells m t f t1 f1 (Ok v)) (is a.value a.stands) a.tells

-- a base is settled: a value of its own is made of it
pub founds_settle : {m : M Value} {b : Base} {r : Result Value Stop} {t t1 : Told} {f f1 : Frame} → Founds m t f t1 f1 b → ((v : Value) → Stands f1.globals b v → (told : Told) (frame : Frame) → Walks (pure v) told frame told frame r) → Tells m t f t1 f1 r
founds_settle {t1 = t1} {f1 = f1} a settled = tells_kept a.tells (tells_walks (settled a.value a.stands t1 f1))

-- ---- a part of the way

-- what is still to be found, and then all
pub leads_finds : {m n : M Value} {t t1 : Told} {f f1 : Frame} (t2 : Told) (f2 : Frame) (r : Result Base Stop) → Leads m t f n t1 f1 → Finds n t1 f1 t2 f2 r → Finds m t f t2 f2 r
leads_finds t2 f2 (Ok b) a next = record { value = next.value; stands = next.stands; tells = leads_tells a next.tells }
leads_finds t2 f2 (Err stop) a next = leads_tells a next
