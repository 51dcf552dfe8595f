-- Cells and readers along what they handle, alone and in the joined language.
use Rattle.std.proofs.Common.{◌≡◌, ℕ, ◌+◌, ◌<◌, ◌≤◌, List, [], ◌∷◌, ◌++◌, refl, sym, ◌∙◌, ap, append_assoc, append-nil, max, arith, ◌⊎◌, inl, inr, map}
use Rattle.std.proofs.lemmas.List.{map-append}
use Rattle.actor_theory.specs.declared.entry.Entry.{Entry}
use Rattle.actor_theory.specs.declared.entry.Handled.{Handled}
use Rattle.actor_theory.specs.declared.entry.ReaderStep.{ReaderStep}
use Rattle.actor_theory.specs.declared.entry.ReaderStep.TheVariants.{Item, Entry as Taken}
use Rattle.actor_theory.specs.Language.{Language, Moment, number_after, mail, replies}
use Rattle.actor_theory.specs.World.{own}
use Rattle.actor_theory.specs.Faithful.{IsUnspentAlong}
use Rattle.actor_theory.specs.Joined.{Slots, Reader, joined, lifted, to_slots, step_entry}
use Rattle.actor_theory.specs.Kept.{entry_of}
use Rattle.actor_theory.specs.Machine.{Cell, ReaderCell, IsCellOf, IsReaderOf, cell_after}
use Rattle.actor_theory.proofs.Joining.{slot_moment, reader_moment, mail-to_actors, mail-to_actors_none, mail-to_slots, mail-to_slots_none}
use Rattle.actor_theory.proofs.Cells.{cell-after, reader-entry, reader-item}
use Rattle.actor_theory.proofs.Leaving.{lifted-append}
use Rattle.worker_theory.specs.Working.{after_these, cell_replies, IsUnspentCell, Act, act_after, after_acts, act_reply, acts_replies, acts_items, acts_entries, act_entry, rest_of}

-- a cell goes on from where it stands
pub these-append : {S C : Type 0} (A : Slots S C) (c : Cell S C) (xs ys : List (Entry C)) → after_these A c (xs ++ ys) ≡ after_these A (after_these A c xs) ys
these-append A c [] ys = refl
these-append A c (x ∷ xs) ys = these-append A (cell_after A c x) xs ys

-- and so do its sends
pub replies-append : {S C : Type 0} (A : Slots S C) (slot k : ℕ) (c : Cell S C) (xs ys : List (Entry C)) → cell_replies A slot k c (xs ++ ys) ≡ cell_replies A slot k c xs ++ cell_replies A slot k (after_these A c xs) ys
replies-append A slot k c [] ys = refl
replies-append A slot k c (x ∷ xs) ys =
    let one = mail slot (number_after c.number x) k (A.sent c.state (number_after c.number x) x) in
    ap (λ es. one ++ es) (replies-append A slot k (cell_after A c x) xs ys) ∙ sym (append_assoc one (cell_replies A slot k (cell_after A c x) xs) (cell_replies A slot k (after_these A (cell_after A c x) xs) ys))

-- and so it stays unspent
pub unspent-append : {S C : Type 0} (A : Slots S C) (c : Cell S C) (xs ys : List (Entry C)) → IsUnspentCell A c xs → IsUnspentCell A (after_these A c xs) ys → IsUnspentCell A c (xs ++ ys)
unspent-append A c [] ys a b = b
unspent-append A c (x ∷ xs) ys a b = (a.0, unspent-append A (cell_after A c x) xs ys a.1 b)

-- a cell's log is what it had and then these
pub these-log : {S C : Type 0} (A : Slots S C) (c : Cell S C) (es : List (Entry C)) → map entry_of (after_these A c es).log ≡ map entry_of c.log ++ es
these-log A c [] = sym (append-nil (map entry_of c.log))
these-log {S} {C} A c (e ∷ es) =
    let one : Handled C = record { entry = e; number = number_after c.number e } in
    these-log A (cell_after A c e) es ∙ ap (λ l. l ++ es) (map-append entry_of c.log (one ∷ [])) ∙ append_assoc (map entry_of c.log) (e ∷ []) es

-- and it stands at its log
pub these-cell : {S C : Type 0} (A : Slots S C) (slot : ℕ) (c : Cell S C) (es : List (Entry C)) → IsCellOf A slot c → IsCellOf A slot (after_these A c es)
these-cell A slot c [] h = h
these-cell A slot c (e ∷ es) h = these-cell A slot (cell_after A c e) es (cell-after A slot c e h)

-- in the joined language it isn't spent either
pub these-unspent : {S R C I : Type 0} (contexts : ℕ) (A : Slots S C) (B : Reader R C I) (c : Cell S C) (es : List (Entry C)) → IsUnspentCell A c es → IsUnspentAlong (joined contexts A B) (slot_moment c.state c.number) (map lifted es)
these-unspent contexts A B c [] h = tt
these-unspent contexts A B c (e ∷ es) h = (h.0, these-unspent contexts A B (cell_after A c e) es h.1)

-- what it sends to an actor
pub these-replies : {S R C I : Type 0} (contexts : ℕ) (A : Slots S C) (B : Reader R C I) (slot k : ℕ) (c : Cell S C) (es : List (Entry C)) → k ≤ contexts
    → ◌≡◌ {A = List (Entry (C ⊎ I))} (replies (joined contexts A B) slot k (slot_moment c.state c.number) (map lifted es)) (map lifted (cell_replies A slot k c es))
these-replies contexts A B slot k c [] le = refl
these-replies {S} {R} {C} {I} contexts A B slot k c (e ∷ es) le =
    let n : ℕ = number_after c.number e in
    let one = mail slot n k (A.sent c.state n e) in
    let more : List (Entry (C ⊎ I)) = replies (joined contexts A B) slot k (slot_moment (cell_after A c e).state n) (map lifted es) in
    ap (λ (r : List (Entry (C ⊎ I))). r ++ more) (mail-to_actors contexts slot n k (A.sent c.state n e) le)
    ∙ ap (λ (r : List (Entry (C ⊎ I))). map lifted one ++ r) (these-replies contexts A B slot k (cell_after A c e) es le)
    ∙ sym (lifted-append one (cell_replies A slot k (cell_after A c e) es))

-- it sends nothing to another number
pub these-replies_none : {S R C I : Type 0} (contexts : ℕ) (A : Slots S C) (B : Reader R C I) (slot k : ℕ) (c : Cell S C) (es : List (Entry C)) → contexts < k
    → ◌≡◌ {A = List (Entry (C ⊎ I))} (replies (joined contexts A B) slot k (slot_moment c.state c.number) (map lifted es)) []
these-replies_none contexts A B slot k c [] lt = refl
these-replies_none {S} {R} {C} {I} contexts A B slot k c (e ∷ es) lt =
    let n : ℕ = number_after c.number e in
    let more : List (Entry (C ⊎ I)) = replies (joined contexts A B) slot k (slot_moment (cell_after A c e).state n) (map lifted es) in
    ap (λ (r : List (Entry (C ⊎ I))). r ++ more) (mail-to_actors_none contexts slot n k (A.sent c.state n e) lt) ∙ these-replies_none contexts A B slot k (cell_after A c e) es lt

-- a reader goes on from where it stands
pub acts-append : {R C I : Type 0} (B : Reader R C I) (r : ReaderCell R C I) (xs ys : List (Act C I)) → after_acts B r (xs ++ ys) ≡ after_acts B (after_acts B r xs) ys
acts-append B r [] ys = refl
acts-append B r (x ∷ xs) ys = acts-append B (act_after B r x) xs ys

-- and so do its sends
pub acts_replies-append : {R C I : Type 0} (B : Reader R C I) (contexts k : ℕ) (r : ReaderCell R C I) (xs ys : List (Act C I)) → acts_replies B contexts k r (xs ++ ys) ≡ acts_replies B contexts k r xs ++ acts_replies B contexts k (after_acts B r xs) ys
acts_replies-append B contexts k r [] ys = refl
acts_replies-append B contexts k r (x ∷ xs) ys =
    let one = act_reply B contexts k r x in
    ap (λ es. one ++ es) (acts_replies-append B contexts k (act_after B r x) xs ys) ∙ sym (append_assoc one (acts_replies B contexts k (act_after B r x) xs) (acts_replies B contexts k (after_acts B (act_after B r x) xs) ys))

-- and its items
pub acts_items-append : {C I : Type 0} (xs ys : List (Act C I)) → acts_items (xs ++ ys) ≡ acts_items xs ++ acts_items ys
acts_items-append [] ys = refl
acts_items-append (inl i ∷ xs) ys = ap (λ l. i ∷ l) (acts_items-append xs ys)
acts_items-append (inr e ∷ xs) ys = acts_items-append xs ys

-- and its entries
pub acts_entries-append : {C I : Type 0} (xs ys : List (Act C I)) → acts_entries (xs ++ ys) ≡ acts_entries xs ++ acts_entries ys
acts_entries-append [] ys = refl
acts_entries-append (inl i ∷ xs) ys = acts_entries-append xs ys
acts_entries-append (inr e ∷ xs) ys = ap (λ l. e ∷ l) (acts_entries-append xs ys)

-- its steps are what it had and then these acts
pub acts-log : {R C I : Type 0} (B : Reader R C I) (contexts : ℕ) (r : ReaderCell R C I) (bs : List (Act C I))
    → ◌≡◌ {A = List (Entry (C ⊎ I))} (map (step_entry contexts) (after_acts B r bs).steps) (map (step_entry contexts) r.steps ++ map (act_entry contexts) bs)
acts-log B contexts r [] = sym (append-nil (map (step_entry contexts) r.steps))
acts-log {R} {C} {I} B contexts r (inl i ∷ bs) =
    let one : ReaderStep I C = Item i (1 + r.number) in
    acts-log B contexts (act_after B r (inl i)) bs ∙ ap (λ (l : List (Entry (C ⊎ I))). l ++ map (act_entry contexts) bs) (map-append (step_entry contexts) r.steps (one ∷ []))
    ∙ append_assoc (map (step_entry contexts) r.steps) (own contexts (inr i) ∷ []) (map (act_entry contexts) bs)
acts-log {R} {C} {I} B contexts r (inr e ∷ bs) =
    let one : ReaderStep I C = Taken e (number_after r.number e) in
    acts-log B contexts (act_after B r (inr e)) bs ∙ ap (λ (l : List (Entry (C ⊎ I))). l ++ map (act_entry contexts) bs) (map-append (step_entry contexts) r.steps (one ∷ []))
    ∙ append_assoc (map (step_entry contexts) r.steps) (lifted e ∷ []) (map (act_entry contexts) bs)

-- and it stands at its steps
pub acts-reader : {R C I : Type 0} (B : Reader R C I) (contexts : ℕ) (r : ReaderCell R C I) (bs : List (Act C I)) → IsReaderOf contexts B r → IsReaderOf contexts B (after_acts B r bs)
acts-reader B contexts r [] h = h
acts-reader B contexts r (inl i ∷ bs) h = acts-reader B contexts (act_after B r (inl i)) bs (reader-item contexts B r i (rest_of r.rest) h)
acts-reader B contexts r (inr e ∷ bs) h = acts-reader B contexts (act_after B r (inr e)) bs (reader-entry contexts B r e h)

-- the reader behind an item. An item's entry has the stamp 0, so its number is the next one
abbrev after_item : {S R C I : Type 0} → ℕ → Slots S C → Reader R C I → ReaderCell R C I → I → ℕ → Moment (S ⊎ R)
after_item contexts A B r i n = reader_moment (B.item r.state i) n

-- what the reader sends to a slot
pub acts-replies : {S R C I : Type 0} (contexts : ℕ) (A : Slots S C) (B : Reader R C I) (k : ℕ) (r : ReaderCell R C I) (bs : List (Act C I)) → k < contexts
    → ◌≡◌ {A = List (Entry (C ⊎ I))} (replies (joined contexts A B) contexts k (reader_moment r.state r.number) (map (act_entry contexts) bs)) (map lifted (acts_replies B contexts k r bs))
acts-replies contexts A B k r [] lt = refl
acts-replies {S} {R} {C} {I} contexts A B k r (inl i ∷ bs) lt =
    let L : Language (S ⊎ R) (C ⊎ I) = joined contexts A B in
    let number : 1 + max r.number 0 ≡ 1 + r.number = omega arith in
    let one = mail contexts (1 + r.number) k (B.item_sent r.state i) in
    ap (λ n. mail contexts n k (to_slots contexts (B.item_sent r.state i)) ++ replies L contexts k (after_item contexts A B r i n) (map (act_entry contexts) bs)) number
    ∙ ap (λ (x : List (Entry (C ⊎ I))). x ++ replies L contexts k (after_item contexts A B r i (1 + r.number)) (map (act_entry contexts) bs)) (mail-to_slots contexts contexts (1 + r.number) k (B.item_sent r.state i) lt)
    ∙ ap (λ (x : List (Entry (C ⊎ I))). map lifted one ++ x) (acts-replies contexts A B k (act_after B r (inl i)) bs lt)
    ∙ sym (lifted-append one (acts_replies B contexts k (act_after B r (inl i)) bs))
acts-replies contexts A B k r (inr e ∷ bs) lt = acts-replies contexts A B k (act_after B r (inr e)) bs lt

-- it sends nothing to another number
pub acts-replies_none : {S R C I : Type 0} (contexts : ℕ) (A : Slots S C) (B : Reader R C I) (k : ℕ) (r : ReaderCell R C I) (bs : List (Act C I)) → contexts ≤ k
    → ◌≡◌ {A = List (Entry (C ⊎ I))} (replies (joined contexts A B) contexts k (reader_moment r.state r.number) (map (act_entry contexts) bs)) []
acts-replies_none contexts A B k r [] le = refl
acts-replies_none {S} {R} {C} {I} contexts A B k r (inl i ∷ bs) le =
    let L : Language (S ⊎ R) (C ⊎ I) = joined contexts A B in
    let number : 1 + max r.number 0 ≡ 1 + r.number = omega arith in
    ap (λ n. mail contexts n k (to_slots contexts (B.item_sent r.state i)) ++ replies L contexts k (after_item contexts A B r i n) (map (act_entry contexts) bs)) number
    ∙ ap (λ (x : List (Entry (C ⊎ I))). x ++ replies L contexts k (after_item contexts A B r i (1 + r.number)) (map (act_entry contexts) bs)) (mail-to_slots_none contexts contexts (1 + r.number) k (B.item_sent r.state i) le)
    ∙ acts-replies_none contexts A B k (act_after B r (inl i)) bs le
acts-replies_none contexts A B k r (inr e ∷ bs) le = acts-replies_none contexts A B k (act_after B r (inr e)) bs le
