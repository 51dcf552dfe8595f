-- Sends to the main context.
use Rattle.std.proofs.Common.{◌≡◌, ◌+◌, ◌<◌, ◌≤◌, ◌∷◌, ◌++◌, ℕ, ℤ, zero, suc, true, false, List, [], refl, sym, ◌∙◌, ap, subst, arith, length, map, nat_lt, slice_set, append-nil, append_assoc}
use Rattle.std.proofs.lemmas.Bool.{false≢true, ne_eqb, eq-eqb, lt-ltb}
use Rattle.std.proofs.lemmas.List.{map-append}
use Rattle.std.proofs.lemmas.List.Elements.{filter-append}
use Rattle.std.specs.List.{AllByRecursion}
use Rattle.actor_theory.specs.declared.entry.Entry.{Entry}
use Rattle.actor_theory.specs.Language.{Sent, mail, stamped}
use Rattle.actor_theory.specs.Joined.{slots_only}
use Rattle.actor_theory.specs.Machine.{arrived, delivered, empty_queues, queue_at}
use Rattle.record_book.specs.declared.cargo.Cargo.{Cargo}
use Rattle.record_book.specs.declared.cargo.Cargo.TheVariants as cargo
use Rattle.epl_values.specs.declared.value.Value.{Value}
use Rattle.actor_theory.proofs.Given.{mail-append}
use Rattle.actor_theory.proofs.Queues.{length-arrived}
use Rattle.source_actor.specs.Steps.{event_entry, is_named, time_entry}
use Rattle.naive_meaning.specs.Actors.{event_sends, loads_below, times_below}

-- all go to the main context
abbrev pub ToMain : {C : Type 0} → List (Sent C) → Type 0
ToMain sent = AllByRecursion (λ x. x.target ≡ 0) sent

pub mail-main : {C : Type 0} (s n : ℕ) (sent : List (Sent C)) → ToMain sent → mail s n 0 sent ≡ map (stamped s n) sent
mail-main s n [] h = refl
mail-main {C} s n (x ∷ xs) h = rw (eq-eqb x.target 0 h.0) (ap (λ (es : List (Entry C)). stamped s n x ∷ es) (mail-main s n xs h.1))

pub mail-other : {C : Type 0} (s n k : ℕ) (sent : List (Sent C)) → ToMain sent → mail s n (suc k) sent ≡ []
mail-other s n k [] h = refl
mail-other s n k (x ∷ xs) h = let zero_is = h.0 in let other : x.target ≡ suc k → ⊥ = λ i. omega arith in rw (ne_eqb x.target (suc k) other) (mail-other s n k xs h.1)

pub arrived-other : {C : Type 0} (s n k : ℕ) (sent : List (Sent C)) (qs : List (List (Entry C))) → ToMain sent → arrived s n sent (suc k) qs ≡ qs
arrived-other s n k sent [] h = refl
arrived-other {C} s n k sent (q ∷ qs) h = rw (mail-other s n k sent h, arrived-other s n (suc k) sent qs h) (ap (λ (r : List (Entry C)). r ∷ qs) (append-nil q))

pub main-slots : {C : Type 0} (contexts : ℕ) (sent : List (Sent C)) → 0 < contexts → ToMain sent → slots_only contexts sent ≡ sent
main-slots contexts [] lt h = refl
main-slots {C} contexts (x ∷ xs) lt h =
    let zero_is = h.0 in
    let low : x.target < contexts = omega arith in
    rw (lt-ltb x.target contexts low) (ap (λ (es : List (Sent C)). x ∷ es) (main-slots contexts xs lt h.1))

-- what goes to the main context arrives at the first queue
pub delivered-main : {C : Type 0} (contexts s n : ℕ) (sent : List (Sent C)) (q : List (Entry C)) (qs : List (List (Entry C))) → 0 < contexts → ToMain sent
    → delivered s n (slots_only contexts sent) (q ∷ qs) ≡ (q ++ map (stamped s n) sent) ∷ qs
delivered-main {C} contexts s n sent q qs lt h =
    ap (λ (xs : List (Sent C)). delivered s n xs (q ∷ qs)) (main-slots contexts sent lt h) ∙ ap (λ (es : List (Entry C)). (q ++ es) ∷ arrived s n sent 1 qs) (mail-main s n sent h)
    ∙ ap (λ (rs : List (List (Entry C))). (q ++ map (stamped s n) sent) ∷ rs) (arrived-other s n 0 sent qs h)

-- what is delivered where nothing is sent
arrived-none : {C : Type 0} (s n k : ℕ) (qs : List (List (Entry C))) → arrived s n [] k qs ≡ qs
arrived-none s n k [] = refl
arrived-none {C} s n k (q ∷ qs) = rw (arrived-none s n (suc k) qs) (ap (λ (r : List (Entry C)). r ∷ qs) (append-nil q))

-- an event with a channel goes nowhere
pub event-kept : (contexts n : ℕ) (channel : List ℕ) (event : Value) (qs qs' : List (List (Entry Cargo))) → is_named channel ≡ true → qs' ≡ qs → qs' ≡ delivered contexts n (slots_only contexts (event_sends channel event)) qs
event-kept contexts n [] event qs qs' named same = absurd (false≢true named)
event-kept contexts n (b ∷ bs) event qs qs' named same = same ∙ sym (arrived-none contexts n 0 qs)

-- an event without one goes to the main context
pub event-sent : (contexts n : ℕ) (channel : List ℕ) (event : Value) (e : Entry Cargo) (qs qs' : List (List (Entry Cargo))) → is_named channel ≡ false → 0 < contexts → length qs ≡ contexts + 1
    → e ≡ event_entry contexts n event → qs' ≡ slice_set qs 0 (queue_at qs 0 ++ e ∷ []) → qs' ≡ delivered contexts n (slots_only contexts (event_sends channel event)) qs
event-sent contexts n (b ∷ bs) event e qs qs' none lt count is put = absurd (false≢true (sym none))
event-sent contexts n [] event e [] qs' none lt count is put = absurd (omega arith)
event-sent contexts n [] event e (q ∷ qs) qs' none lt count is put =
    put ∙ ap (λ (f : Entry Cargo). (q ++ f ∷ []) ∷ qs) is ∙ sym (delivered-main contexts contexts n (event_sends [] event) q qs lt (refl, tt))

-- a send to one actor doesn't reach the others
mail-apart : {C : Type 0} (s n k : ℕ) (x : Sent C) → (x.target ≡ k → ⊥) → mail s n k (x ∷ []) ≡ []
mail-apart s n k x other = rw (ne_eqb x.target k other) refl

mail-own : {C : Type 0} (s n : ℕ) (x : Sent C) → mail s n x.target (x ∷ []) ≡ stamped s n x ∷ []
mail-own s n x = rw (eq-eqb x.target x.target refl) refl

mail-past : {C : Type 0} (s n k : ℕ) (sent : List (Sent C)) (x : Sent C) → (x.target ≡ k → ⊥) → mail s n k (sent ++ x ∷ []) ≡ mail s n k sent
mail-past {C} s n k sent x other =
    mail-append s n k sent (x ∷ []) ∙ ap (λ (es : List (Entry C)). mail s n k sent ++ es) (mail-apart s n k x other) ∙ append-nil (mail s n k sent)

mail-last : {C : Type 0} (s n : ℕ) (sent : List (Sent C)) (x : Sent C) → mail s n x.target (sent ++ x ∷ []) ≡ mail s n x.target sent ++ stamped s n x ∷ []
mail-last {C} s n sent x = mail-append s n x.target sent (x ∷ []) ∙ ap (λ (es : List (Entry C)). mail s n x.target sent ++ es) (mail-own s n x)

arrived-past : {C : Type 0} (s n k : ℕ) (sent : List (Sent C)) (x : Sent C) (qs : List (List (Entry C))) → x.target < k → arrived s n (sent ++ x ∷ []) k qs ≡ arrived s n sent k qs
arrived-past s n k sent x [] lt = refl
arrived-past {C} s n k sent x (q ∷ qs) lt =
    ap (λ (es : List (Entry C)). (q ++ es) ∷ arrived s n (sent ++ x ∷ []) (suc k) qs) (mail-past s n k sent x (λ e. omega arith))
    ∙ ap (λ (rs : List (List (Entry C))). (q ++ mail s n k sent) ∷ rs) (arrived-past s n (suc k) sent x qs (omega arith))

-- one send more goes behind the others to its actor
arrived-more : {C : Type 0} (s n k j : ℕ) (sent : List (Sent C)) (x : Sent C) (qs : List (List (Entry C))) → x.target ≡ k + j → j < length qs
    → arrived s n (sent ++ x ∷ []) k qs ≡ slice_set (arrived s n sent k qs) j (queue_at (arrived s n sent k qs) j ++ stamped s n x ∷ [])
arrived-more s n k j sent x [] at lt = absurd (omega arith)
arrived-more {C} s n k zero sent x (q ∷ qs) at lt =
    let here : x.target ≡ k = omega arith in
    ap (λ (rs : List (List (Entry C))). (q ++ mail s n k (sent ++ x ∷ [])) ∷ rs) (arrived-past s n (suc k) sent x qs (omega arith))
    ∙ ap (λ (es : List (Entry C)). es ∷ arrived s n sent (suc k) qs) (ap (λ (es : List (Entry C)). q ++ es) (subst (λ i. mail s n i (sent ++ x ∷ []) ≡ mail s n i sent ++ stamped s n x ∷ []) here (mail-last s n sent x))
    ∙ sym (append_assoc q (mail s n k sent) (stamped s n x ∷ [])))
arrived-more {C} s n k (suc j) sent x (q ∷ qs) at lt =
    ap (λ (es : List (Entry C)). (q ++ es) ∷ arrived s n (sent ++ x ∷ []) (suc k) qs) (mail-past s n k sent x (λ e. omega arith))
    ∙ ap (λ (rs : List (List (Entry C))). (q ++ mail s n k sent) ∷ rs) (arrived-more s n (suc k) j sent x qs (omega arith) (omega arith))

-- the outboxes once the time has gone to the first slots, so many
abbrev pub TimedBelow : ℕ → ℕ → ℤ → ℕ → List (List (Entry Cargo)) → List (List (Entry Cargo)) → Type 0
TimedBelow contexts number t n qs qs' = qs' ≡ delivered contexts number (times_below n t) qs

pub timed-first : (contexts number : ℕ) (t : ℤ) (qs : List (List (Entry Cargo))) → TimedBelow contexts number t 0 qs qs
timed-first contexts number t qs = sym (arrived-none contexts number 0 qs)

pub timed-more : (contexts number : ℕ) (t : ℤ) (n : ℕ) (qs qs' qs'' : List (List (Entry Cargo))) (e : Entry Cargo) → n < length qs → TimedBelow contexts number t n qs qs' → e ≡ time_entry contexts number t
    → qs'' ≡ slice_set qs' n (queue_at qs' n ++ e ∷ []) → TimedBelow contexts number t (n + 1) qs qs''
timed-more contexts number t n qs qs' qs'' e lt h is put =
    let more : suc n ≡ n + 1 = omega arith in
    let at : n ≡ 0 + n = omega arith in
    let x : Sent Cargo = record { target = n; cargo = cargo.Time t } in
    put ∙ ap (λ (rs : List (List (Entry Cargo))). slice_set rs n (queue_at rs n ++ e ∷ [])) h
    ∙ ap (λ (f : Entry Cargo). slice_set (delivered contexts number (times_below n t) qs) n (queue_at (delivered contexts number (times_below n t) qs) n ++ f ∷ [])) is
    ∙ sym (arrived-more contexts number 0 n (times_below n t) x qs at lt) ∙ ap (λ k. delivered contexts number (times_below k t) qs) more

pub timed-length : (contexts number : ℕ) (t : ℤ) (n : ℕ) (qs qs' : List (List (Entry Cargo))) → TimedBelow contexts number t n qs qs' → length qs' ≡ length qs
timed-length contexts number t n qs qs' h = ap length h ∙ length-arrived contexts number (times_below n t) 0 qs

-- they go to slots alone
slots-append : {C : Type 0} (contexts : ℕ) (xs ys : List (Sent C)) → slots_only contexts (xs ++ ys) ≡ slots_only contexts xs ++ slots_only contexts ys
slots-append contexts xs ys = filter-append (λ x. nat_lt x.target contexts) xs ys

slot-one : {C : Type 0} (contexts : ℕ) (x : Sent C) → x.target < contexts → slots_only contexts (x ∷ []) ≡ x ∷ []
slot-one contexts x low = rw (lt-ltb x.target contexts low) refl

times-slots : (contexts n : ℕ) (t : ℤ) → n ≤ contexts → slots_only contexts (times_below n t) ≡ times_below n t
times-slots contexts zero t le = refl
times-slots contexts (suc n) t le =
    let x : Sent Cargo = record { target = n; cargo = cargo.Time t } in
    slots-append contexts (times_below n t) (x ∷ []) ∙ ap (λ (xs : List (Sent Cargo)). xs ++ slots_only contexts (x ∷ [])) (times-slots contexts n t (omega arith))
    ∙ ap (λ (xs : List (Sent Cargo)). times_below n t ++ xs) (slot-one contexts x (let low : n < contexts = omega arith in low))

pub timed-all : (contexts number : ℕ) (t : ℤ) (n : ℕ) (qs qs' : List (List (Entry Cargo))) → n ≡ contexts → TimedBelow contexts number t n qs qs' → qs' ≡ delivered contexts number (slots_only contexts (times_below contexts t)) qs
timed-all contexts number t n qs qs' all h =
    h ∙ ap (λ k. delivered contexts number (times_below k t) qs) all ∙ ap (λ (xs : List (Sent Cargo)). delivered contexts number xs qs) (sym (times-slots contexts contexts t (omega arith)))

all-append : {X : Type 0} (P : X → Type 0) (xs ys : List X) → AllByRecursion P xs → AllByRecursion P ys → AllByRecursion P (xs ++ ys)
all-append P [] ys h i = i
all-append P (x ∷ xs) ys h i = (h.0, all-append P xs ys h.1 i)

-- the loads go to the main context
pub loads-main : (n : ℕ) → ToMain (loads_below n)
loads-main zero = tt
loads-main (suc n) = let P : Sent Cargo → Type 0 = λ x. x.target ≡ 0 in all-append P (loads_below n) ((record { target = 0; cargo = cargo.Load n }) ∷ []) (loads-main n) (refl, tt)

-- the outboxes with so many loads
abbrev pub LoadedBelow : ℕ → ℕ → List (List (Entry Cargo)) → Type 0
LoadedBelow contexts n qs = qs ≡ map (stamped contexts 0) (loads_below n) ∷ empty_queues contexts

pub loaded-first : (contexts actors : ℕ) (qs : List (List (Entry Cargo))) → actors ≡ contexts + 1 → qs ≡ empty_queues actors → LoadedBelow contexts 0 qs
loaded-first contexts actors qs count is = let more : contexts + 1 ≡ suc contexts = omega arith in is ∙ ap (empty_queues {C = Cargo}) (count ∙ more)

pub loaded-more : (contexts n : ℕ) (qs qs' : List (List (Entry Cargo))) (e : Entry Cargo) → e ≡ stamped contexts 0 (record { target = 0; cargo = cargo.Load n }) → LoadedBelow contexts n qs → qs' ≡ slice_set qs 0 (queue_at qs 0 ++ e ∷ []) → LoadedBelow contexts (n + 1) qs'
loaded-more contexts n qs qs' e e_is h put =
    let more : n + 1 ≡ suc n = omega arith in
    let x : Sent Cargo = record { target = 0; cargo = cargo.Load n } in
    put ∙ ap (λ rs. slice_set rs 0 (queue_at rs 0 ++ e ∷ [])) h ∙ ap (λ f. (map (stamped contexts 0) (loads_below n) ++ f ∷ []) ∷ empty_queues contexts) e_is
    ∙ ap (λ (r : List (Entry Cargo)). r ∷ empty_queues contexts) (sym (map-append (stamped contexts 0) (loads_below n) (x ∷ []))) ∙ ap (λ k. map (stamped contexts 0) (loads_below k) ∷ empty_queues contexts) (sym more)

pub loaded-all : (contexts actors n m : ℕ) (qs : List (List (Entry Cargo))) → 0 < contexts → actors ≡ contexts + 1 → n ≡ m → LoadedBelow contexts n qs → qs ≡ delivered contexts 0 (slots_only contexts (loads_below m)) (empty_queues actors)
loaded-all contexts actors n m qs lt count at h =
    let more : contexts + 1 ≡ suc contexts = omega arith in
    h ∙ ap (λ k. map (stamped contexts 0) (loads_below k) ∷ empty_queues contexts) at ∙ sym (delivered-main contexts contexts 0 (loads_below m) [] (empty_queues contexts) lt (loads-main m))
    ∙ ap (λ k. delivered contexts 0 (slots_only contexts (loads_below m)) (empty_queues k)) (sym (count ∙ more))
