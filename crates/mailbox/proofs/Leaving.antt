-- What is left once each pass is in: taking it all leaves nothing queued.
use Rattle.std.proofs.Common.{◌≡◌, ◌≢◌, ℕ, ◌≤◌, Bool, true, false, cond, List, [], ◌∷◌, ◌++◌, length, map, append-nil, sym, refl, ap, ap₂, ◌∙◌, subst, ⊎_elim, eqb, eq-eqb, ne_eqb, lt_of_not-le, arith}
use Rattle.std.proofs.lemmas.List.Elements.{filter-append}
use Rattle.std.proofs.lemmas.Bool.Decides.{eqb_tells}
use Rattle.std.proofs.lemmas.List.{length-append, get_or_past}
use native.Mathlib.Decide.{dec_le}
use Rattle.crossbeam_queue.specs.Fifo.{Learns}
use Rattle.mailbox.specs.Passes.{AllDelivered, posted_by}
use Rattle.mailbox.specs.declared.passes.SendPass.{SendPass}
use Rattle.mailbox.specs.declared.rule.View.{View}
use Rattle.mailbox.proofs.PassLists.{posted_each}
use Rattle.mailbox.specs.Rule.{of, Kept, Settled, more}

module _ {E : Type 0} where
  module _ (sender_of : E → ℕ) where
    -- the taker to which each pass was handed in knows of each number what was posted
    pub settles : (pass : ℕ) (v : View E) → v.takes ≡ true → length v.handed ≡ v.opened → Learns (Kept sender_of) pass v (Settled sender_of v)
    settles pass v may whole items views h at p =
        let mine = h.takers pass v at in
        ap (λ l. of sender_of p (l ++ items)) (mine.takes may) ∙ h.delivers p
        ∙ elim (dec_le (length v.handed) p) [
          | yes far ↦ (mine.later may p (omega arith)).1 ∙ sym (get_or_past v.handed p [] far)
          | no near ↦ sym (mine.handed may p (lt_of_not-le near)).1
        ]

    -- a sender's entries, where the first one is its own
    of_cons_own : (p : ℕ) (x : E) (xs : List E) → sender_of x ≡ p → of sender_of p (x ∷ xs) ≡ x ∷ of sender_of p xs
    of_cons_own p x xs e = ap (λ b. cond b (x ∷ of sender_of p xs) (of sender_of p xs)) (eq-eqb (sender_of x) p e)

    -- and where it is another's
    of_cons_other : (p : ℕ) (x : E) (xs : List E) → (sender_of x ≡ p → ⊥) → of sender_of p (x ∷ xs) ≡ of sender_of p xs
    of_cons_other p x xs n = ap (λ b. cond b (x ∷ of sender_of p xs) (of sender_of p xs)) (ne_eqb (sender_of x) p n)

    -- the first entry of a sender, with what stands before and behind it
    first_of : (x : E) (rest ys : List E) → of sender_of (sender_of x) ys ≡ x ∷ rest → (a : List E) × ((b : List E) × ((ys ≡ a ++ x ∷ b) × (of sender_of (sender_of x) a ≡ [])))
    first_of x rest [] e = absurd (cc e)
    first_of x rest (y ∷ ys) e =
        ⊎_elim
        (λ (t : (eqb (sender_of y) (sender_of x) ≡ true) × (sender_of y ≡ sender_of x)).
        let same : y ≡ x = let q = sym (of_cons_own (sender_of x) y ys t.1) ∙ e in cc q in ([], (ys, (ap (λ z. z ∷ ys) same, refl))))
        (λ (t : (eqb (sender_of y) (sender_of x) ≡ false) × (sender_of y ≢ sender_of x)).
        let r = first_of x rest ys (sym (of_cons_other (sender_of x) y ys t.1) ∙ e) in
        (y ∷ r.0, (r.1.0, (ap (λ l. y ∷ l) r.1.1.0, of_cons_other (sender_of x) y r.0 t.1 ∙ r.1.1.1))))
        (eqb_tells (sender_of y) (sender_of x))

    -- lists with the same entries of each sender are equally long
    pub same_length : (xs ys : List E) → ((p : ℕ) → of sender_of p xs ≡ of sender_of p ys) → length xs ≡ length ys
    same_length [] [] h = refl
    same_length [] (y ∷ ys) h = let q = h (sender_of y) ∙ of_cons_own (sender_of y) y ys refl in absurd (cc q)
    same_length (x ∷ xs) ys h =
        let r = first_of x (of sender_of (sender_of x) xs) ys (sym (h (sender_of x)) ∙ of_cons_own (sender_of x) x xs refl) in
        let a = r.0 in
        let b = r.1.0 in
        let is = r.1.1.0 in
        let rest : (p : ℕ) → of sender_of p xs ≡ of sender_of p (a ++ b) = λ p.
        let test : E → Bool = λ z. eqb (sender_of z) p in
        let split = h p ∙ ap (of sender_of p) is ∙ filter-append test a (x ∷ b) in
        let parts = filter-append test a b in
        ⊎_elim
        (λ (t : (eqb (sender_of x) p ≡ true) × (sender_of x ≡ p)).
        let none_before : of sender_of p a ≡ [] = subst (λ k. of sender_of k a ≡ []) t.1 r.1.1.1 in
        let head = sym (of_cons_own p x xs t.1) ∙ split ∙ ap₂ (λ l m. l ++ m) none_before (of_cons_own p x b t.1) in
        let tails : of sender_of p xs ≡ of sender_of p b = cc head in
        tails ∙ sym (parts ∙ ap (λ l. l ++ of sender_of p b) none_before))
        (λ (t : (eqb (sender_of x) p ≡ false) × (sender_of x ≢ p)).
        sym (of_cons_other p x xs t.1) ∙ split ∙ ap (λ m. of sender_of p a ++ m) (of_cons_other p x b t.1) ∙ sym parts)
        (eqb_tells (sender_of x) p) in
        let shorter = same_length xs (a ++ b) rest in
        let long : length ys ≡ length (a ++ x ∷ b) = ap length is in
        omega (arith, length-append a b, length-append a (x ∷ b))

    -- each pass is still in when more was taken
    pub whole_more : (u v w : View E) (xs : List E) → v ≡ u → w ≡ more v xs → length u.handed ≡ u.opened → length w.handed ≡ w.opened
    whole_more u v w xs same is h = subst (λ (z : View E). length z.handed ≡ z.opened) (sym (is ∙ ap (λ (z : View E). more z xs) same)) h

    -- nothing is queued any more
    pub empties : (u v w : View E) (xs items : List E) → v ≡ u → w ≡ more v xs → length items ≡ 0 → Settled sender_of w items → Settled sender_of (more u xs) []
    empties u v w xs [] same is z h = subst (λ (k : View E). Settled sender_of k []) (is ∙ ap (λ (k : View E). more k xs) same) h
    empties u v w xs (x ∷ items) same is z h = absurd (omega arith)

    -- as many were taken as there were at most
    pub all_taken : (u v w : View E) (xs before after : List E) → v ≡ u → w ≡ more v xs → Settled sender_of u before → Settled sender_of w after → length before ≤ length xs → Settled sender_of (more u xs) []
    all_taken u v w xs before after same is first last few =
        let last' : Settled sender_of (more u xs) after = subst (λ (k : View E). Settled sender_of k after) (is ∙ ap (λ (k : View E). more k xs) same) last in
        let long = same_length (u.entries ++ before) ((u.entries ++ xs) ++ after) (λ p. first p ∙ sym (last' p)) in
        let none_left : length after ≡ 0 = omega (arith, length-append u.entries before, length-append (u.entries ++ xs) after, length-append u.entries xs) in
        empties u v w xs after same is none_left last

    -- where all passes were handed in and nothing is queued any more, all that was posted was taken or is in the rest
    pub delivered : (before now : View E) (passes : List (SendPass E)) (rest : List E) → now ≡ record before { handed = map posted_by passes } → Settled sender_of (more now rest) [] → AllDelivered sender_of before.entries passes rest
    delivered before now passes rest is h k =
        let settled : Settled sender_of (more (record before { handed = map posted_by passes }) rest) [] = subst (λ (v : View E). Settled sender_of (more v rest) []) is h in
        ap (of sender_of k) (sym (append-nil (before.entries ++ rest))) ∙ settled k ∙ posted_each passes k
