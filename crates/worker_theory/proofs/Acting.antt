-- One actor's work as that of an actor of the joined language.
use Rattle.std.proofs.Common.{◌≡◌, ℕ, zero, suc, ◌<◌, ◌≤◌, List, [], ◌∷◌, ◌++◌, Bool, true, false, ◌==◌, cond, refl, sym, ◌∙◌, ap, subst, append_assoc, append-nil, arith, ◌⊎◌, inl, inr, map, length, slice_get, Some, None}
use Rattle.std.specs.List.{AllByRecursion}
use Rattle.std.proofs.lemmas.Bool.{eqb-false, eq-eqb, ne_eqb, cases_lt, cases_eq}
use Rattle.actor_theory.specs.declared.entry.Entry.{Entry}
use Rattle.actor_theory.specs.Language.{Language, Moment, naive, number_after, replies, by}
use Rattle.actor_theory.specs.World.{World, own}
use Rattle.actor_theory.specs.Faithful.{IsUnspentAlong}
use Rattle.actor_theory.specs.Holds.{Works}
use Rattle.actor_theory.specs.Joined.{Slots, Reader, joined, lifted, reader_next, step_entry}
use Rattle.actor_theory.specs.Kept.{entry_of}
use Rattle.actor_theory.specs.Machine.{Cell, ReaderCell, Stand, cell_log, queue_at, own_items, world_of}
use Rattle.actor_theory.proofs.Joining.{slot_moment, reader_moment}
use Rattle.actor_theory.proofs.Cells.{slot-log, reader-log, slot-moment, reader-moment}
use Rattle.actor_theory.proofs.Leaving.{by-lifted, lifted-append}
use Rattle.actor_theory.proofs.Lists.{by-append}
use Rattle.actor_theory.proofs.Given.{by-own, by-own_other, both-nil}
use Rattle.actor_theory.proofs.Queues.{queue-past}
use Rattle.worker_theory.specs.Working.{Sender, Source, SlotWorked, SourceWorked, Act, cell_replies, acts_replies, acts_items, acts_entries, act_entry, cell_of, box_of, outbox_of}
use Rattle.worker_theory.proofs.Along.{these-log, these-unspent, these-replies, these-replies_none, acts-log, acts-replies, acts-replies_none}

-- what one actor does, among others
pub record ActorWorked {S C : Type 0} (L : Language S C) (w w' : World C) (outbox outbox' : ℕ → ℕ → List (Entry C)) (posted : ℕ → ℕ → List (Entry C)) (d : ℕ) : Type 0 where
  pub taken : List (Entry C)
  pub log : w'.log d ≡ w.log d ++ taken
  pub unspent : IsUnspentAlong L (naive L d (w.log d)) taken
  pub posts : (k : ℕ) → outbox d k ++ replies L d k (naive L d (w.log d)) taken ≡ posted d k ++ outbox' d k
  pub mail : (s : ℕ) → by s (taken ++ w'.queue d) ≡ by s (w.queue d) ++ posted s d
  pub nobody : L.contexts < d → taken ≡ []

-- what each actor does is what all of them do
pub actors-work : {S C : Type 0} (L : Language S C) (w w' : World C) (outbox outbox' : ℕ → ℕ → List (Entry C)) (posted : ℕ → ℕ → List (Entry C)) → (h : (d : ℕ) → ActorWorked L w w' outbox outbox' posted d)
    → Works L w w' outbox outbox' (λ d. (h d).taken) posted
actors-work L w w' outbox outbox' posted h = record {
  logs = λ d. (h d).log;
  posts = λ s d. (h s).posts d;
  mail = λ s d. (h d).mail s;
  unspent = λ d. (h d).unspent;
  others = λ d lt. (h d).nobody lt;
}

-- what is made of the one at a place
pub get-map : {X Y : Type 0} (f : X → Y) (xs : List X) (k : ℕ) (x : X) → slice_get xs k ≡ Some x → slice_get (map f xs) k ≡ Some (f x)
get-map f [] k x e = absurd (cc)
get-map f (y ∷ ys) zero x e = let same : y ≡ x = cc in ap (λ z. Some (f z)) same
get-map f (y ∷ ys) (suc k) x e = get-map f ys k x e

-- there is one at each place below the length
pub get-below : {X : Type 0} (xs : List X) (k : ℕ) → k < length xs → (x : X) × (slice_get xs k ≡ Some x)
get-below [] k lt = absurd (omega arith)
get-below (x ∷ xs) zero lt = (x, refl)
get-below (x ∷ xs) (suc k) lt = get-below xs k (omega arith)

-- and none past it
pub get-past : {X : Type 0} (xs : List X) (k : ℕ) → length xs ≤ k → slice_get xs k ≡ None
get-past [] k le = refl
get-past (x ∷ xs) zero le = absurd (omega arith)
get-past (x ∷ xs) (suc k) le = get-past xs k (omega arith)

-- as many are made as there are
pub length-of-map : {X Y : Type 0} (f : X → Y) (xs : List X) → length (map f xs) ≡ length xs
length-of-map f [] = refl
length-of-map f (x ∷ xs) = ap suc (length-of-map f xs)

-- only a slot below contexts is no reader
below-other : (d contexts : ℕ) → d < contexts → d ≡ contexts → ⊥
below-other d contexts lt i = omega arith

-- a slot's work
pub slot-works : {S R C I : Type 0} (contexts : ℕ) (A : Slots S C) (B : Reader R C I) (senders senders' : List (Sender S C)) (source source' : Source R C I) (queued queued' : List (List (Entry C))) (left got rest : List (Entry C))
    (posted : ℕ → ℕ → List (Entry C)) (d : ℕ) (x y : Sender S C) → Stand contexts A B (map cell_of senders) source.cell queued → d < contexts → slice_get senders d ≡ Some x → slice_get senders' d ≡ Some y → length x.boxes ≡ suc contexts
    → SlotWorked A d x (queue_at queued d) y left got (posted d) → queue_at queued' d ≡ left ++ rest → ((s : ℕ) → by s (got ++ rest) ≡ posted s d) → ((k : ℕ) → contexts < k → posted d k ≡ [])
    → ActorWorked (joined contexts A B) (world_of contexts (map cell_of senders) source.cell queued) (world_of contexts (map cell_of senders') source'.cell queued') (outbox_of contexts senders source) (outbox_of contexts senders' source')
    (λ s k. map lifted (posted s k)) d
slot-works {S} {R} {C} {I} contexts A B senders senders' source source' queued queued' left got rest posted d x y stand lt at at' count h queue came nowhere = record {
  taken = map lifted h.handled;
  log = slot-log contexts (map cell_of senders') source'.cell queued' d y.cell other (get-map cell_of senders' d y at') ∙ ap (map lifted) (ap (λ (c : Cell S C). map entry_of c.log) h.cell_is ∙ these-log A x.cell h.handled)
      ∙ lifted-append (map entry_of x.cell.log) h.handled ∙ ap (λ (l : List (Entry (C ⊎ I))). l ++ map lifted h.handled) (sym (slot-log contexts (map cell_of senders) source.cell queued d x.cell other (get-map cell_of senders d x at)));
  unspent = let P : Moment (S ⊎ R) → Type 0 = λ m. IsUnspentAlong L m (map lifted h.handled) in subst P (sym moment) (these-unspent contexts A B x.cell h.handled h.unspent);
  posts = λ k. posts k (cases_lt contexts k);
  mail = mail;
  nobody = λ past. absurd (omega (arith, lt));
}
  where
    L : Language (S ⊎ R) (C ⊎ I)
    L = joined contexts A B

    w : World (C ⊎ I)
    w = world_of contexts (map cell_of senders) source.cell queued

    other : d ≡ contexts → ⊥
    other = below-other d contexts lt

    moment : naive L d (w.log d) ≡ slot_moment x.cell.state x.cell.number
    moment = slot-moment contexts A B (map cell_of senders) source.cell queued d x.cell stand (get-map cell_of senders d x at)

    box : (all : List (Sender S C)) (from : Source R C I) (z : Sender S C) (k : ℕ) → slice_get all d ≡ Some z → outbox_of contexts all from d k ≡ map lifted (queue_at z.boxes k)
    box all from z k e = rw (ne_eqb d contexts other) (ap (λ o. map lifted (box_of o k)) e)

    posts : (k : ℕ) → ((contexts < k) ⊎ (k ≤ contexts)) → outbox_of contexts senders source d k ++ replies L d k (naive L d (w.log d)) (map lifted h.handled) ≡ map lifted (posted d k) ++ outbox_of contexts senders' source' d k
    posts k (inr le) =
        ap (λ (es : List (Entry (C ⊎ I))). es ++ replies L d k (naive L d (w.log d)) (map lifted h.handled)) (box senders source x k at)
        ∙ ap (λ (m : Moment (S ⊎ R)). map lifted (queue_at x.boxes k) ++ replies L d k m (map lifted h.handled)) moment
        ∙ ap (λ (es : List (Entry (C ⊎ I))). map lifted (queue_at x.boxes k) ++ es) (these-replies contexts A B d k x.cell h.handled le)
        ∙ sym (lifted-append (queue_at x.boxes k) (cell_replies A d k x.cell h.handled)) ∙ ap (map lifted) (h.sent k (omega (arith, le, count))) ∙ lifted-append (posted d k) (queue_at y.boxes k)
        ∙ ap (λ (es : List (Entry (C ⊎ I))). map lifted (posted d k) ++ es) (sym (box senders' source' y k at'))
    posts k (inl past) =
        let count' = h.boxes in
        ap (λ (es : List (Entry (C ⊎ I))). es ++ replies L d k (naive L d (w.log d)) (map lifted h.handled)) (box senders source x k at ∙ ap (map lifted) (queue-past x.boxes k (omega (arith, past, count))))
        ∙ ap (λ (m : Moment (S ⊎ R)). replies L d k m (map lifted h.handled)) moment ∙ these-replies_none contexts A B d k x.cell h.handled past
        ∙ sym (ap (λ (es : List (Entry C)). map lifted es ++ outbox_of contexts senders' source' d k) (nowhere k past) ∙ box senders' source' y k at' ∙ ap (map lifted) (queue-past y.boxes k (omega (arith, past, count, count'))))

    no-items : (items : List I) → ◌≡◌ {A = List (Entry (C ⊎ I))} (own_items contexts items d) []
    no-items items = rw (ne_eqb d contexts other) refl

    sorted : (s : ℕ) → by s (h.handled ++ (left ++ rest)) ≡ by s (queue_at queued d) ++ posted s d
    sorted s =
        ap (by s) (sym (append_assoc h.handled left rest) ∙ ap (λ es. es ++ rest) (sym h.taken) ∙ append_assoc (queue_at queued d) got rest) ∙ by-append s (queue_at queued d) (got ++ rest)
        ∙ ap (λ es. by s (queue_at queued d) ++ es) (came s)

    mail : (s : ℕ) → by s (map lifted h.handled ++ (own_items contexts source'.cell.rest d ++ map lifted (queue_at queued' d))) ≡ by s (own_items contexts source.cell.rest d ++ map lifted (queue_at queued d)) ++ map lifted (posted s d)
    mail s =
        ap (λ (es : List (Entry (C ⊎ I))). by s (map lifted h.handled ++ (es ++ map lifted (queue_at queued' d)))) (no-items source'.cell.rest)
        ∙ ap (λ (es : List (Entry C)). by s (map lifted h.handled ++ map lifted es)) queue ∙ ap (by s) (sym (lifted-append h.handled (left ++ rest))) ∙ by-lifted s (h.handled ++ (left ++ rest)) ∙ ap (map lifted) (sorted s)
        ∙ lifted-append (by s (queue_at queued d)) (posted s d) ∙ ap (λ (es : List (Entry (C ⊎ I))). es ++ map lifted (posted s d)) (sym (by-lifted s (queue_at queued d)))
        ∙ ap (λ (es : List (Entry (C ⊎ I))). by s (es ++ map lifted (queue_at queued d)) ++ map lifted (posted s d)) (sym (no-items source.cell.rest))

-- the reader is never spent
reader-unspent : {S R C I : Type 0} (contexts : ℕ) (A : Slots S C) (B : Reader R C I) (r : R) (number : ℕ) (log : List (Entry (C ⊎ I))) → IsUnspentAlong (joined contexts A B) (reader_moment r number) log
reader-unspent contexts A B r number [] = tt
reader-unspent contexts A B r number (e ∷ es) = (refl, reader-unspent contexts A B (reader_next B r e e.cargo) (number_after number e) es)

-- no entry from s stands first, or behind
pub none-first : {C : Type 0} (s : ℕ) (e : Entry C) (es : List (Entry C)) → by s (e ∷ es) ≡ [] → (e.sender ≡ s → ⊥) × (by s es ≡ [])
none-first s e es h = go (e.sender == s) refl h
  where
    go : (b : Bool) → (e.sender == s) ≡ b → cond b (e ∷ by s es) (by s es) ≡ [] → (e.sender ≡ s → ⊥) × (by s es ≡ [])
    go true i none = absurd (cc)
    go false i none = (eqb-false e.sender s i, none)

-- of the acts, the entries of another sender
acts-by_other : {C I : Type 0} (contexts s : ℕ) (bs : List (Act C I)) → (contexts ≡ s → ⊥) → ◌≡◌ {A = List (Entry (C ⊎ I))} (by s (map (act_entry contexts) bs)) (map lifted (by s (acts_entries bs)))
acts-by_other contexts s [] other = refl
acts-by_other {C} {I} contexts s (inl i ∷ bs) other = rw (ne_eqb contexts s other) (acts-by_other contexts s bs other)
acts-by_other {C} {I} contexts s (inr e ∷ bs) other = go (acts-by_other contexts s bs other) (e.sender == s)
  where
    go : ◌≡◌ {A = List (Entry (C ⊎ I))} (by s (map (act_entry contexts) bs)) (map lifted (by s (acts_entries bs))) → (b : Bool)
        → ◌≡◌ {A = List (Entry (C ⊎ I))} (cond b (lifted e ∷ by s (map (act_entry contexts) bs)) (by s (map (act_entry contexts) bs))) (map lifted (cond b (e ∷ by s (acts_entries bs)) (by s (acts_entries bs))))
    go ih true = ap (λ (es : List (Entry (C ⊎ I))). lifted e ∷ es) ih
    go ih false = ih

-- of the acts, the reader's own are its items, where none of the entries is its own
acts-by_own : {C I : Type 0} (contexts : ℕ) (bs : List (Act C I)) → by contexts (acts_entries bs) ≡ [] → ◌≡◌ {A = List (Entry (C ⊎ I))} (by contexts (map (act_entry contexts) bs)) (map (own contexts) (map inr (acts_items bs)))
acts-by_own contexts [] none = refl
acts-by_own {C} {I} contexts (inl i ∷ bs) none = rw (eq-eqb contexts contexts refl) (ap (λ (es : List (Entry (C ⊎ I))). own contexts (inr i) ∷ es) (acts-by_own contexts bs none))
acts-by_own {C} {I} contexts (inr e ∷ bs) none =
    let parts = none-first contexts e (acts_entries bs) none in
    rw (ne_eqb e.sender contexts parts.0) (acts-by_own contexts bs parts.1)

-- where no entry is from s, s has none
all-by : {C : Type 0} (s : ℕ) (es : List (Entry C)) → AllByRecursion (λ e. e.sender ≡ s → ⊥) es → by s es ≡ []
all-by s [] a = refl
all-by s (e ∷ es) a = rw (ne_eqb e.sender s a.0) (all-by s es a.1)

-- where s has no entry, none is from s
pub by-all : {C : Type 0} (s : ℕ) (es : List (Entry C)) → by s es ≡ [] → AllByRecursion (λ e. e.sender ≡ s → ⊥) es
by-all s [] none = tt
by-all s (e ∷ es) none = let parts = none-first s e es none in (parts.0, by-all s es parts.1)

-- items one after another are entries one after another
own-append : {C I : Type 0} (contexts : ℕ) (xs ys : List I) → ◌≡◌ {A = List (Entry (C ⊎ I))} (map (own contexts) (map inr (xs ++ ys))) (map (own contexts) (map inr xs) ++ map (own contexts) (map inr ys))
own-append contexts [] ys = refl
own-append {C} {I} contexts (x ∷ xs) ys = ap (λ (es : List (Entry (C ⊎ I))). own contexts (inr x) ∷ es) (own-append contexts xs ys)

-- what the reader has and gets is nothing of its own, and so is what it leaves
pub source-none : {R C I : Type 0} (B : Reader R C I) (contexts : ℕ) (from : Source R C I) (hand : List (Entry C)) (now : Source R C I) (left got rest : List (Entry C)) (posted : ℕ → List (Entry C))
    → AllByRecursion (λ e. e.sender ≡ contexts → ⊥) hand → by contexts (got ++ rest) ≡ []
    → (h : SourceWorked B contexts from hand now left got posted) → (by contexts (acts_entries h.acts) ≡ []) × (by contexts (left ++ rest) ≡ [])
source-none B contexts from hand now left got rest posted others none h =
    let all : by contexts (acts_entries h.acts ++ (left ++ rest)) ≡ [] =
    ap (by contexts) (sym (append_assoc (acts_entries h.acts) left rest) ∙ ap (λ es. es ++ rest) (sym h.taken) ∙ append_assoc hand got rest) ∙ by-append contexts hand (got ++ rest)
    ∙ ap (λ es. es ++ by contexts (got ++ rest)) (all-by contexts hand others) ∙ none in
    both-nil (by contexts (acts_entries h.acts)) (by contexts (left ++ rest)) (sym (by-append contexts (acts_entries h.acts) (left ++ rest)) ∙ all)

-- the reader's work
pub source-works : {S R C I : Type 0} (contexts : ℕ) (A : Slots S C) (B : Reader R C I) (senders senders' : List (Sender S C)) (source source' : Source R C I) (queued queued' : List (List (Entry C))) (left got rest : List (Entry C))
    (posted : ℕ → ℕ → List (Entry C)) → Stand contexts A B (map cell_of senders) source.cell queued → length source.boxes ≡ contexts
    → SourceWorked B contexts source (queue_at queued contexts) source' left got (posted contexts) → queue_at queued' contexts ≡ left ++ rest → ((s : ℕ) → by s (got ++ rest) ≡ posted s contexts)
    → ((k : ℕ) → contexts < k → posted contexts k ≡ []) → posted contexts contexts ≡ []
    → ActorWorked (joined contexts A B) (world_of contexts (map cell_of senders) source.cell queued) (world_of contexts (map cell_of senders') source'.cell queued') (outbox_of contexts senders source) (outbox_of contexts senders' source')
    (λ s k. map lifted (posted s k)) contexts
source-works {S} {R} {C} {I} contexts A B senders senders' source source' queued queued' left got rest posted stand count h queue came nowhere own_none = record {
  taken = map (act_entry contexts) h.acts;
  log = reader-log contexts (map cell_of senders') source'.cell queued' ∙ ap (λ (r : ReaderCell R C I). map (step_entry contexts) r.steps) h.cell_is ∙ acts-log B contexts source.cell h.acts
      ∙ ap (λ (l : List (Entry (C ⊎ I))). l ++ map (act_entry contexts) h.acts) (sym (reader-log contexts (map cell_of senders) source.cell queued));
  unspent = let P : Moment (S ⊎ R) → Type 0 = λ m. IsUnspentAlong L m (map (act_entry contexts) h.acts) in subst P (sym moment) (reader-unspent contexts A B source.cell.state source.cell.number (map (act_entry contexts) h.acts));
  posts = λ k. posts k (cases_lt k contexts);
  mail = λ s. mail s (cases_eq s contexts);
  nobody = λ past. absurd (omega arith);
}
  where
    L : Language (S ⊎ R) (C ⊎ I)
    L = joined contexts A B

    w : World (C ⊎ I)
    w = world_of contexts (map cell_of senders) source.cell queued

    moment : naive L contexts (w.log contexts) ≡ reader_moment source.cell.state source.cell.number
    moment = reader-moment contexts A B (map cell_of senders) source.cell queued stand

    box : (all : List (Sender S C)) (from : Source R C I) (k : ℕ) → outbox_of contexts all from contexts k ≡ map lifted (queue_at from.boxes k)
    box all from k = rw (eq-eqb contexts contexts refl) refl

    posts : (k : ℕ) → ((k < contexts) ⊎ (contexts ≤ k))
        → outbox_of contexts senders source contexts k ++ replies L contexts k (naive L contexts (w.log contexts)) (map (act_entry contexts) h.acts) ≡ map lifted (posted contexts k) ++ outbox_of contexts senders' source' contexts k
    posts k (inl lt) =
        ap (λ (es : List (Entry (C ⊎ I))). es ++ replies L contexts k (naive L contexts (w.log contexts)) (map (act_entry contexts) h.acts)) (box senders source k)
        ∙ ap (λ (m : Moment (S ⊎ R)). map lifted (queue_at source.boxes k) ++ replies L contexts k m (map (act_entry contexts) h.acts)) moment
        ∙ ap (λ (es : List (Entry (C ⊎ I))). map lifted (queue_at source.boxes k) ++ es) (acts-replies contexts A B k source.cell h.acts lt)
        ∙ sym (lifted-append (queue_at source.boxes k) (acts_replies B contexts k source.cell h.acts)) ∙ ap (map lifted) (h.sent k (omega (arith, lt, count))) ∙ lifted-append (posted contexts k) (queue_at source'.boxes k)
        ∙ ap (λ (es : List (Entry (C ⊎ I))). map lifted (posted contexts k) ++ es) (sym (box senders' source' k))
    posts k (inr past) =
        let count' = h.boxes in
        ap (λ (es : List (Entry (C ⊎ I))). es ++ replies L contexts k (naive L contexts (w.log contexts)) (map (act_entry contexts) h.acts)) (box senders source k ∙ ap (map lifted) (queue-past source.boxes k (omega (arith, past, count))))
        ∙ ap (λ (m : Moment (S ⊎ R)). replies L contexts k m (map (act_entry contexts) h.acts)) moment ∙ acts-replies_none contexts A B k source.cell h.acts past
        ∙ sym (ap (λ (es : List (Entry C)). map lifted es ++ outbox_of contexts senders' source' contexts k) nothing ∙ box senders' source' k ∙ ap (map lifted) (queue-past source'.boxes k (omega (arith, past, count, count'))))
      where
        nothing : posted contexts k ≡ []
        nothing = go (cases_lt contexts k)
          where
            go : ((contexts < k) ⊎ (k ≤ contexts)) → posted contexts k ≡ []
            go (inl lt) = nowhere k lt
            go (inr le) = let same : k ≡ contexts = omega (arith, past, le) in ap (posted contexts) same ∙ own_none

    items-own : (items : List I) → ◌≡◌ {A = List (Entry (C ⊎ I))} (own_items contexts items contexts) (map (own contexts) (map inr items))
    items-own items = rw (eq-eqb contexts contexts refl) refl

    sorted : (s : ℕ) → by s (acts_entries h.acts ++ (left ++ rest)) ≡ by s (queue_at queued contexts) ++ posted s contexts
    sorted s =
        ap (by s) (sym (append_assoc (acts_entries h.acts) left rest) ∙ ap (λ es. es ++ rest) (sym h.taken) ∙ append_assoc (queue_at queued contexts) got rest) ∙ by-append s (queue_at queued contexts) (got ++ rest)
        ∙ ap (λ es. by s (queue_at queued contexts) ++ es) (came s)

    none : (by contexts (acts_entries h.acts) ≡ []) × (by contexts (left ++ rest) ≡ [])
    none = source-none B contexts source (queue_at queued contexts) source' left got rest (posted contexts) stand.from_others (came contexts ∙ own_none) h

    -- both sides, by their parts
    parts : (s : ℕ) (xs ys zs : List (Entry (C ⊎ I))) → by s (xs ++ (ys ++ zs)) ≡ by s xs ++ (by s ys ++ by s zs)
    parts s xs ys zs = by-append s xs (ys ++ zs) ∙ ap (λ es. by s xs ++ es) (by-append s ys zs)

    mail : (s : ℕ) → ((s ≡ contexts) ⊎ (s ≡ contexts → ⊥))
        → by s (map (act_entry contexts) h.acts ++ (own_items contexts source'.cell.rest contexts ++ map lifted (queue_at queued' contexts))) ≡ by s (own_items contexts source.cell.rest contexts ++ map lifted (queue_at queued contexts)) ++ map lifted (posted s contexts)
    mail s (inr not_own) =
        let other : contexts ≡ s → ⊥ = λ i. not_own (sym i) in
        ap (λ (es : List (Entry (C ⊎ I))). by s (map (act_entry contexts) h.acts ++ (es ++ map lifted (queue_at queued' contexts)))) (items-own source'.cell.rest)
        ∙ parts s (map (act_entry contexts) h.acts) (map (own contexts) (map inr source'.cell.rest)) (map lifted (queue_at queued' contexts))
        ∙ ap (λ (es : List (Entry (C ⊎ I))). by s (map (act_entry contexts) h.acts) ++ (es ++ by s (map lifted (queue_at queued' contexts)))) (by-own_other s contexts (map inr source'.cell.rest) other)
        ∙ ap (λ (es : List (Entry (C ⊎ I))). es ++ by s (map lifted (queue_at queued' contexts))) (acts-by_other contexts s h.acts other)
        ∙ ap (λ (es : List (Entry (C ⊎ I))). map lifted (by s (acts_entries h.acts)) ++ es) (by-lifted s (queue_at queued' contexts) ∙ ap (λ es. map lifted (by s es)) queue)
        ∙ sym (lifted-append (by s (acts_entries h.acts)) (by s (left ++ rest))) ∙ ap (map lifted) (sym (by-append s (acts_entries h.acts) (left ++ rest)) ∙ sorted s)
        ∙ lifted-append (by s (queue_at queued contexts)) (posted s contexts)
        ∙ ap (λ (es : List (Entry (C ⊎ I))). es ++ map lifted (posted s contexts)) (sym (
        ap (λ (es : List (Entry (C ⊎ I))). by s (es ++ map lifted (queue_at queued contexts))) (items-own source.cell.rest) ∙ by-append s (map (own contexts) (map inr source.cell.rest)) (map lifted (queue_at queued contexts))
        ∙ ap (λ (es : List (Entry (C ⊎ I))). es ++ by s (map lifted (queue_at queued contexts))) (by-own_other s contexts (map inr source.cell.rest) other) ∙ by-lifted s (queue_at queued contexts)))
    mail s (inl same) = rw same mine
      where
        mine : by contexts (map (act_entry contexts) h.acts ++ (own_items contexts source'.cell.rest contexts ++ map lifted (queue_at queued' contexts)))
            ≡ by contexts (own_items contexts source.cell.rest contexts ++ map lifted (queue_at queued contexts)) ++ map lifted (posted contexts contexts)
        mine =
            ap (λ (es : List (Entry (C ⊎ I))). by contexts (map (act_entry contexts) h.acts ++ (es ++ map lifted (queue_at queued' contexts)))) (items-own source'.cell.rest)
            ∙ parts contexts (map (act_entry contexts) h.acts) (map (own contexts) (map inr source'.cell.rest)) (map lifted (queue_at queued' contexts))
            ∙ ap (λ (es : List (Entry (C ⊎ I))). by contexts (map (act_entry contexts) h.acts) ++ (by contexts (map (own contexts) (map inr source'.cell.rest)) ++ es)) (by-lifted contexts (queue_at queued' contexts) ∙ ap (λ es. map lifted (by contexts es)) queue ∙ ap (map lifted) none.1)
            ∙ ap (λ (es : List (Entry (C ⊎ I))). by contexts (map (act_entry contexts) h.acts) ++ es) (append-nil (by contexts (map (own contexts) (map inr source'.cell.rest))) ∙ by-own contexts (map inr source'.cell.rest))
            ∙ ap (λ (es : List (Entry (C ⊎ I))). es ++ map (own contexts) (map inr source'.cell.rest)) (acts-by_own contexts h.acts none.0)
            ∙ sym (own-append contexts (acts_items h.acts) source'.cell.rest) ∙ ap (λ (is : List I). map (own contexts) (map inr is)) (sym h.items)
            ∙ sym (
            ap (λ (es : List (Entry C)). by contexts (own_items contexts source.cell.rest contexts ++ map lifted (queue_at queued contexts)) ++ map lifted es) own_none
            ∙ append-nil (by contexts (own_items contexts source.cell.rest contexts ++ map lifted (queue_at queued contexts)))
            ∙ ap (λ (es : List (Entry (C ⊎ I))). by contexts (es ++ map lifted (queue_at queued contexts))) (items-own source.cell.rest) ∙ by-append contexts (map (own contexts) (map inr source.cell.rest)) (map lifted (queue_at queued contexts))
            ∙ ap (λ (es : List (Entry (C ⊎ I))). by contexts (map (own contexts) (map inr source.cell.rest)) ++ es) (by-lifted contexts (queue_at queued contexts) ∙ ap (map lifted) (all-by contexts (queue_at queued contexts) stand.from_others))
            ∙ append-nil (by contexts (map (own contexts) (map inr source.cell.rest))) ∙ by-own contexts (map inr source.cell.rest))

-- a number that is no actor's does nothing
pub nobody-works : {S R C I : Type 0} (contexts : ℕ) (A : Slots S C) (B : Reader R C I) (senders senders' : List (Sender S C)) (source source' : Source R C I) (queued queued' : List (List (Entry C))) (posted : ℕ → ℕ → List (Entry C)) (d : ℕ)
    → contexts < d → length senders ≡ contexts → length senders' ≡ contexts → length queued ≡ suc contexts → length queued' ≡ suc contexts → ((k : ℕ) → posted d k ≡ []) → ((s : ℕ) → posted s d ≡ [])
    → ActorWorked (joined contexts A B) (world_of contexts (map cell_of senders) source.cell queued) (world_of contexts (map cell_of senders') source'.cell queued') (outbox_of contexts senders source) (outbox_of contexts senders' source')
    (λ s k. map lifted (posted s k)) d
nobody-works {S} {R} {C} {I} contexts A B senders senders' source source' queued queued' posted d lt count count' queues queues' none nowhere = record {
  taken = [];
  log = log senders' source'.cell queued' count' ∙ sym (append-nil (w.log d) ∙ log senders source.cell queued count);
  unspent = tt;
  posts = λ k. append-nil (outbox_of contexts senders source d k) ∙ box senders source k count ∙ sym (ap (λ (es : List (Entry C)). map lifted es ++ outbox_of contexts senders' source' d k) (none k) ∙ box senders' source' k count');
  mail = λ s. ap (by s) (queue source'.cell.rest queued' queues') ∙ sym (ap (λ (es : List (Entry C)). by s (w.queue d) ++ map lifted es) (nowhere s) ∙ append-nil (by s (w.queue d)) ∙ ap (by s) (queue source.cell.rest queued queues));
  nobody = λ past. refl;
}
  where
    w : World (C ⊎ I)
    w = world_of contexts (map cell_of senders) source.cell queued

    other : d ≡ contexts → ⊥
    other i = omega (arith, lt)

    log : (all : List (Sender S C)) (r : ReaderCell R C I) (q : List (List (Entry C))) → length all ≡ contexts → (world_of contexts (map cell_of all) r q).log d ≡ []
    log all r q n = let m = length-of-map cell_of all in rw (ne_eqb d contexts other) (ap cell_log (get-past (map cell_of all) d (omega (arith, lt, n))))

    box : (all : List (Sender S C)) (from : Source R C I) (k : ℕ) → length all ≡ contexts → ◌≡◌ {A = List (Entry (C ⊎ I))} (outbox_of contexts all from d k) []
    box all from k n = rw (ne_eqb d contexts other) (ap (λ o. map lifted (box_of o k)) (get-past all d (omega (arith, lt, n))))

    queue : (items : List I) (q : List (List (Entry C))) → length q ≡ suc contexts → ◌≡◌ {A = List (Entry (C ⊎ I))} (own_items contexts items d ++ map lifted (queue_at q d)) []
    queue items q n = rw (ne_eqb d contexts other) (ap (map lifted) (queue-past q d (omega (arith, lt, n))))
