-- A run that is a part of the way, and loops over items.
use Rattle.walk_rules.proofs.Common.{ℕ, suc, true, false, List, [], length, map, drop, get_or, Option, Some, Result, Ok, Err, refl, sym, ap, subst, ◌∙◌, arith, append_assoc, drop_all, Contains, slice_get, Effect, Told, Flow, Next, Frame, Halt, State, Did, nothing, Outcome, Went, Ended, M, then_do, choose, row, unless, Stop, Halted, Memory, state_of, did_of, standing, Ran, Passes, Does, Walks, Leads}
use Rattle.std.proofs.Common.{◌≡◌, ◌+◌, ◌≤◌, ◌<◌, ◌∷◌, ◌++◌, add-one}
use Rattle.std.proofs.Math.Seq.{drop-cons}
use Rattle.std.proofs.lemmas.Option.{slice_get-get_or}
use Rattle.body_meaning.specs.Runs.{and_then, behind, ◌>>=◌, ◌>>◌, pure, all_behind}
use Rattle.body_meaning.specs.Statements.{follow, is_next}
use Rattle.walk_rules.proofs.Frames.{standing_append, contains_behind, did_behind}
use Rattle.walk_rules.proofs.Running.{append_nil, walks_pure}
use Rattle.walk_rules.proofs.Binding.{behind_outcome, walks_bind_err, walks_false}

-- ---- what was done before

pub behind_nothing : {A : Type 0} (o : Outcome A) → o ≡ behind nothing o
behind_nothing (Went did x s) = refl
behind_nothing (Ended did why s) = refl

doing : List Effect → List Frame → Did
doing effects frames = record { effects = effects; frames = frames }

and_then_assoc : (a b c : Did) → and_then a (and_then b c) ≡ and_then (and_then a b) c
unfolding doing
and_then_assoc a b c = ap (λ l. doing l (a.frames ++ (b.frames ++ c.frames))) (sym (append_assoc a.effects b.effects c.effects)) ∙ ap (λ l. doing ((a.effects ++ b.effects) ++ c.effects) l) (sym (append_assoc a.frames b.frames c.frames))

pub behind_behind : {A : Type 0} (a b : Did) (o : Outcome A) → behind a (behind b o) ≡ behind (and_then a b) o
behind_behind a b (Went did x s) = ap (λ d. Went d x s) (and_then_assoc a b did)
behind_behind a b (Ended did why s) = ap (λ d. Ended d why s) (and_then_assoc a b did)

then_behind : {A B : Type 0} (before : Did) (o : Outcome A) (go : A → M B) → then_do (behind before o) go ≡ behind before (then_do o go)
then_behind before (Went did x s) go = sym (behind_behind before did (go x s))
then_behind before (Ended did why s) go = refl

-- ---- leading on

pub leads_start : {A : Type 0} (m : M A) (told : Told) (frame : Frame) → Leads m told frame m told frame
leads_start m told frame = record { draws = []; did = nothing; drawn = append_nil told.drawn; taken = append_nil told.taken; gives = λ rest. behind_nothing (m (state_of told rest frame)); falls = omega arith; stands = refl }

leads_then : {A B : Type 0} {m : M B} {n : M A} {k : M B} (go : A → M B) (x : A) {t t1 t2 : Told} {f f1 f2 : Frame} → ((s : State) → k s ≡ then_do (n s) go) → Leads m t f k t1 f1 → Ran n t1 f1 t2 f2 (Ok x) → Leads m t f (go x) t2 f2
leads_then {m = m} {n} {k} go x {t} {t1} {t2} {f} {f1} {f2} is a b = record {
  draws = a.draws ++ b.draws;
  did = and_then a.did b.did;
  drawn = b.drawn ∙ ap (λ l. l ++ b.draws) a.drawn ∙ append_assoc t.drawn a.draws b.draws;
  taken = b.taken ∙ ap (λ l. l ++ b.did.effects) a.taken ∙ append_assoc t.taken a.did.effects b.did.effects;
  gives = λ rest. ap (λ l. m (state_of t l f)) (append_assoc a.draws b.draws rest) ∙ a.gives (b.draws ++ rest) ∙ ap (behind a.did) (is (state_of t1 (b.draws ++ rest) f1) ∙ ap (λ o. then_do o go) (b.gives rest)) ∙ behind_behind a.did b.did (go x (state_of t2 rest f2));
  falls = omega (arith, a.falls, b.falls);
  stands = b.stands ∙ ap (λ g. standing g b.did.frames) a.stands ∙ sym (standing_append f a.did.frames b.did.frames);
}

pub leads_bind : {A B : Type 0} {m : M B} {n : M A} (go : A → M B) {x : A} {t t1 t2 : Told} {f f1 f2 : Frame} → Leads m t f (n >>= go) t1 f1 → Walks n t1 f1 t2 f2 (Ok x) → Leads m t f (go x) t2 f2
unfolding ◌>>=◌
leads_bind go {x} a b = leads_then go x (λ s. refl) a b.does

pub leads_seq : {A B : Type 0} {m : M B} {n : M A} (k : M B) {x : A} {t t1 t2 : Told} {f f1 f2 : Frame} → Leads m t f (n >> k) t1 f1 → Walks n t1 f1 t2 f2 (Ok x) → Leads m t f k t2 f2
unfolding ◌>>◌
leads_seq k {x} a b = leads_then (λ _. k) x (λ s. refl) a b.does

leads_ran : {A : Type 0} {m n : M A} {t t1 t2 : Told} {f f1 f2 : Frame} {r : Result A Halt} → Leads m t f n t1 f1 → Ran n t1 f1 t2 f2 r → Ran m t f t2 f2 r
leads_ran {m = m} {n} {t} {t1} {t2} {f} {f1} {f2} {r} a b = record {
  draws = a.draws ++ b.draws;
  did = and_then a.did b.did;
  drawn = b.drawn ∙ ap (λ l. l ++ b.draws) a.drawn ∙ append_assoc t.drawn a.draws b.draws;
  taken = b.taken ∙ ap (λ l. l ++ b.did.effects) a.taken ∙ append_assoc t.taken a.did.effects b.did.effects;
  gives = λ rest. ap (λ l. m (state_of t l f)) (append_assoc a.draws b.draws rest) ∙ a.gives (b.draws ++ rest) ∙ ap (behind a.did) (b.gives rest) ∙ behind_outcome a.did b.did r (state_of t2 rest f2);
  falls = omega (arith, a.falls, b.falls);
  stands = b.stands ∙ ap (λ g. standing g b.did.frames) a.stands ∙ sym (standing_append f a.did.frames b.did.frames);
}

leads_passes : {A : Type 0} {m n : M A} {t t1 : Told} {f f1 f2 : Frame} → Leads m t f n t1 f1 → Passes n t1 f1 f2 → Passes m t f f2
leads_passes {m = m} {n} {t} {t1} {f} {f1} {f2} a b = record {
  draws = a.draws ++ b.draws;
  passed = λ rest.
      let o = n (state_of t1 (b.draws ++ rest) f1) in
      let runs : m (state_of t ((a.draws ++ b.draws) ++ rest) f) ≡ behind a.did o = ap (λ l. m (state_of t l f)) (append_assoc a.draws b.draws rest) ∙ a.gives (b.draws ++ rest) in
      let did : did_of (m (state_of t ((a.draws ++ b.draws) ++ rest) f)) ≡ and_then a.did (did_of o) = ap did_of runs ∙ did_behind a.did o in
      let here : Contains (standing f a.did.frames ∷ (did_of o).frames) f2 = subst (λ g. Contains (g ∷ (did_of o).frames) f2) a.stands (b.passed rest) in
      subst (λ (d : Did). Contains (f ∷ d.frames) f2) (sym did) (contains_behind f a.did.frames (did_of o).frames f2 here);
}

leads_does : {A : Type 0} (m n : M A) (t t1 t2 : Told) (f f1 f2 : Frame) (r : Result A Stop) → Leads m t f n t1 f1 → Does n t1 f1 t2 f2 r → Does m t f t2 f2 r
leads_does m n t t1 t2 f f1 f2 (Ok x) a b = leads_ran a b
leads_does m n t t1 t2 f f1 f2 (Err (Halted why)) a b = leads_ran a b
leads_does m n t t1 t2 f f1 f2 (Err Memory) a b = leads_passes a b

-- what is still to be run, and then all
pub leads_walks : {A : Type 0} {m n : M A} {t t1 t2 : Told} {f f1 f2 : Frame} {r : Result A Stop} → Leads m t f n t1 f1 → Walks n t1 f1 t2 f2 r → Walks m t f t2 f2 r
leads_walks a b = record { does = leads_does _ _ _ _ _ _ _ _ _ a b.does }

pub leads_same : {A : Type 0} {m n k : M A} {t t1 : Told} {f f1 : Frame} → n ≡ k → Leads m t f n t1 f1 → Leads m t f k t1 f1
leads_same {m = m} {t = t} {t1} {f} {f1} is a = subst (λ n. Leads m t f n t1 f1) is a

-- where a part stops, the whole stops
pub leads_stop : {A B : Type 0} {m : M B} {n : M A} (go : A → M B) {stop : Stop} {t t1 t2 : Told} {f f1 f2 : Frame} → Leads m t f (n >>= go) t1 f1 → Walks n t1 f1 t2 f2 (Err stop) → Walks m t f t2 f2 (Err stop)
leads_stop go a b = leads_walks a (walks_bind_err go b)

-- ---- items

pub next_item : {X : Type 0} (items : List X) (i : ℕ) (x : X) → i < length items → x ≡ get_or items i x → drop i items ≡ x ∷ drop (i + 1) items
next_item items i x within is = drop-cons items i x within ∙ ap (λ y. y ∷ drop (suc i) items) (sym is) ∙ ap (λ n. x ∷ drop n items) (sym (add-one i))

pub next_mapped : {X Y : Type 0} (F : X → Y) (items : List X) (i : ℕ) (x : X) → i < length items → x ≡ get_or items i x → map F (drop i items) ≡ F x ∷ map F (drop (i + 1) items)
next_mapped F items i x within is = ap (λ l. map F l) (next_item items i x within is)

pub none_mapped : {X Y : Type 0} (F : X → Y) (items : List X) (i : ℕ) → length items ≤ i → map F (drop i items) ≡ []
none_mapped F items i past = ap (λ l. map F l) (drop_all i items past)

pub got : {X : Type 0} (xs : List X) (i : ℕ) (x : X) → i < length xs → slice_get xs i ≡ Some x → x ≡ get_or xs i x
got xs i x within is = let e = slice_get-get_or xs i x within in cc

-- ---- all

module _ {X A : Type 0} (F : X → M A) (values : List A) (items : List X) (i : ℕ) (x : X) (within : i < length items) (is : x ≡ get_or items i x) where
  all_next : all_behind values (map F (drop i items)) ≡ (F x >>= (λ y. all_behind (values ++ y ∷ []) (map F (drop (i + 1) items))))
  all_next = ap (λ ms. all_behind values ms) (next_mapped F items i x within is)

  -- one more value
  pub all_step : {m : M (List A)} {y : A} {t t1 t2 : Told} {f f1 f2 : Frame} → Leads m t f (all_behind values (map F (drop i items))) t1 f1 → Walks (F x) t1 f1 t2 f2 (Ok y) → Leads m t f (all_behind (values ++ y ∷ []) (map F (drop (i + 1) items))) t2 f2
  all_step a b = leads_bind (λ y. all_behind (values ++ y ∷ []) (map F (drop (i + 1) items))) (leads_same all_next a) b

  pub all_stop : {m : M (List A)} {stop : Stop} {t t1 t2 : Told} {f f1 f2 : Frame} → Leads m t f (all_behind values (map F (drop i items))) t1 f1 → Walks (F x) t1 f1 t2 f2 (Err stop) → Walks m t f t2 f2 (Err stop)
  all_stop a b = leads_stop _ (leads_same all_next a) b

pub all_end : {X A : Type 0} (F : X → M A) (values : List A) (items : List X) (i : ℕ) {m : M (List A)} {t t1 : Told} {f f1 : Frame} → length items ≤ i → Leads m t f (all_behind values (map F (drop i items))) t1 f1 → Walks m t f t1 f1 (Ok values)
all_end F values items i past a = leads_walks (leads_same (ap (λ ms. all_behind values ms) (none_mapped F items i past)) a) (walks_pure values _ _)

-- ---- statements one after another

module _ {X : Type 0} (F : X → M Flow) (items : List X) (i : ℕ) (x : X) (within : i < length items) (is : x ≡ get_or items i x) where
  row_next : row (map F (drop i items)) ≡ (F x >>= follow (row (map F (drop (i + 1) items))))
  row_next = ap row (next_mapped F items i x within is)

  row_then : {m : M Flow} {flow : Flow} {t t1 t2 : Told} {f f1 f2 : Frame} → Leads m t f (row (map F (drop i items))) t1 f1 → Walks (F x) t1 f1 t2 f2 (Ok flow) → Leads m t f (follow (row (map F (drop (i + 1) items))) flow) t2 f2
  row_then a b = leads_bind (follow (row (map F (drop (i + 1) items)))) (leads_same row_next a) b

  pub row_step : {m : M Flow} {flow : Flow} {t t1 t2 : Told} {f f1 f2 : Frame} → Leads m t f (row (map F (drop i items))) t1 f1 → Walks (F x) t1 f1 t2 f2 (Ok flow) → true ≡ is_next flow → Leads m t f (row (map F (drop (i + 1) items))) t2 f2
  row_step {flow = flow} a b next = leads_same (ap (λ b. choose b (row (map F (drop (i + 1) items))) (pure flow)) (sym next)) (row_then a b)

  pub row_out : {m : M Flow} {flow : Flow} {t t1 t2 : Told} {f f1 f2 : Frame} → Leads m t f (row (map F (drop i items))) t1 f1 → Walks (F x) t1 f1 t2 f2 (Ok flow) → false ≡ is_next flow → Walks m t f t2 f2 (Ok flow)
  row_out a b out = leads_walks (row_then a b) (walks_false _ out (walks_pure _ _ _))

  pub row_stop : {m : M Flow} {stop : Stop} {t t1 t2 : Told} {f f1 f2 : Frame} → Leads m t f (row (map F (drop i items))) t1 f1 → Walks (F x) t1 f1 t2 f2 (Err stop) → Walks m t f t2 f2 (Err stop)
  row_stop a b = leads_stop _ (leads_same row_next a) b

pub row_end : {X : Type 0} (F : X → M Flow) (items : List X) (i : ℕ) {m : M Flow} {t t1 : Told} {f f1 : Frame} → length items ≤ i → Leads m t f (row (map F (drop i items))) t1 f1 → Walks m t f t1 f1 (Ok Next)
row_end F items i past a = leads_walks (leads_same (ap row (none_mapped F items i past)) a) (walks_pure Next _ _)

pub walks_some : {A : Type 0} {o : Option A} {x : A} (rest : M A) {t : Told} {f : Frame} → Some x ≡ o → Walks (unless o rest) t f t f (Ok x)
walks_some {x = x} rest {t} {f} is = subst (λ o. Walks (unless o rest) t f t f (Ok x)) is (walks_pure x t f)
