-- Each step of a pass keeps the rule of the mailbox.
use Rattle.std.proofs.Common.{◌≡◌, ◌≢◌, ℕ, zero, suc, ◌<◌, ◌≤◌, true, false, cond, true≢false, List, [], ◌∷◌, ◌++◌, length, set, sym, refl, ap, ◌∙◌, subst, ◌⊎◌, inl, inr, ⊎_elim, append_assoc, append-nil, le_refl, eqb, eq-eqb, ne_eqb, eqb-true, lt_of_not-le, arith, get_or}
use Rattle.std.proofs.lemmas.List.Elements.{filter-append}
use Rattle.std.proofs.lemmas.Bool.Decides.{eqb_tells}
use Rattle.std.proofs.Math.ListN.{get_or-append}
use Rattle.std.proofs.Math.Seq.{get_or-append_seam}
use Rattle.std.proofs.lemmas.List.{length-append}
use mathlib.Core.Option.{Option, some, none, some-injective, some-ne-none}
use lib.ListN.{get_elem?}
use Rattle.crossbeam_queue.specs.Fifo.{Pushes, Pops, Forks, Merges, Learns}
use Rattle.crossbeam_queue.proofs.Lists.{at_set, set_else}
use Rattle.mailbox.specs.declared.rule.View.{View}
use Rattle.mailbox.specs.Rule.{with_entry, opening, opened_one, newcomer, handed_one, spent, FitsSender, FitsTaker, of, Kept, Allowed}

-- the last place of a longer list
at_end : {A : Type 0} (l : List A) (a b : A) (j : ℕ) → get_elem? (l ++ a ∷ []) j ≡ some b → (get_elem? l j ≡ some b) ⊎ ((j ≡ length l) × (a ≡ b))
at_end [] a b zero e = inr (refl, some-injective a b e)
at_end [] a b (suc j) e = absurd (some-ne-none b (sym e))
at_end (x ∷ xs) a b zero e = inl e
at_end (x ∷ xs) a b (suc j) e = ⊎_elim (λ t. inl t) (λ (t : (j ≡ length xs) × (a ≡ b)). inr (ap suc t.0, t.1)) (at_end xs a b j e)

-- the one pass of a list
only_one : {A : Type 0} (a b : A) (j : ℕ) → get_elem? (a ∷ []) j ≡ some b → a ≡ b
only_one a b zero e = some-injective a b e
only_one a b (suc j) e = absurd (some-ne-none b (sym e))

-- no pass is what it is not
false_true : false ≡ true → ⊥
false_true e = true≢false (sym e)

module _ {E : Type 0} where
  -- a fact of each pass and its number
  abbrev All : (ℕ → View E → Type 0) → List (View E) → Type 0
  All F views = (pass : ℕ) (v : View E) → get_elem? views pass ≡ some v → F pass v

  -- what holds of the changed pass and of the others holds of all
  all_set : (F : ℕ → View E → Type 0) (views : List (View E)) (pass : ℕ) (w : View E) → F pass w → ((j : ℕ) (u : View E) → j ≢ pass → get_elem? views j ≡ some u → F j u) → All F (set views pass w)
  all_set F views pass w mine others j u e =
      ⊎_elim (λ (x : (j ≡ pass) × (w ≡ u)). subst (λ (y : ℕ × View E). F y.0 y.1) (λ i. (sym x.0 i, x.1 i)) mine)
      (λ (x : (j ≢ pass) × (get_elem? views j ≡ some u)). others j u x.0 x.1) (at_set views pass j w u e)

  -- a pass that does not take fits as a taker
  no_taker : (taker : ℕ) (seat : ℕ → Option ℕ) (posted : ℕ → List E) (taken : List E) (pass : ℕ) (v : View E) → (v.takes ≡ true → ⊥) → FitsTaker taker seat posted taken pass v
  no_taker taker seat posted taken pass v never = record {
    only = λ t. absurd (never t);
    takes = λ t. absurd (never t);
    later = λ t. absurd (never t);
    handed = λ t. absurd (never t);
    few = λ t. absurd (never t);
  }

  -- a pass that does not send fits as a sender
  no_sender : (seat : ℕ → Option ℕ) (posted : ℕ → List E) (pass : ℕ) (v : View E) → (v.sends ≡ true → ⊥) → FitsSender seat posted pass v
  no_sender seat posted pass v never = record {
    seated = λ t. absurd (never t);
    posts = λ t. absurd (never t);
    alone = λ t. absurd (never t);
  }

  module _ (sender_of : E → ℕ) where
    -- one entry, as its sender sees it
    of_own : (p : ℕ) (x : E) → sender_of x ≡ p → of sender_of p (x ∷ []) ≡ x ∷ []
    of_own p x e = ap (λ b. cond b (x ∷ []) []) (eq-eqb (sender_of x) p e)

    -- and as another sees it
    of_other : (p : ℕ) (x : E) → (sender_of x ≡ p → ⊥) → of sender_of p (x ∷ []) ≡ []
    of_other p x n = ap (λ b. cond b (x ∷ []) []) (ne_eqb (sender_of x) p n)

    -- the one pass there is at first fits as the taker
    first_taker : (pass : ℕ) (v : View E) → get_elem? (opening ∷ []) pass ≡ some v → FitsTaker 0 (λ _. none) (λ _. []) [] pass v
    first_taker zero v e = subst (FitsTaker 0 (λ _. none) (λ _. []) [] 0) (some-injective opening v e) (record {
      only = λ t. refl;
      takes = λ t. refl;
      later = λ t p far. (refl, refl);
      handed = λ t p near. absurd (omega arith);
      few = λ t. le_refl 0;
    })
    first_taker (suc pass) v e = absurd (some-ne-none v (sym e))

    -- the rule holds at first
    pub begins : Kept sender_of [] (opening ∷ [])
    begins = record {
      taker = 0;
      seat = λ _. none;
      posted = λ _. [];
      taken = [];
      delivers = λ p. refl;
      senders = λ pass v e. no_sender _ _ pass v (λ s. false_true (ap (λ (u : View E). u.sends) (only_one opening v pass e) ∙ s));
      takers = λ pass v e. first_taker pass v e;
    }

    -- a sender posts an entry of its own
    pub posts : (n pass : ℕ) (v : View E) (x : E) → v.sends ≡ true → sender_of x ≡ v.number → Pushes (Kept sender_of) n pass v x (λ w. w ≡ with_entry v x)
    posts n pass v x sends from items views room h at =
        let w : View E = with_entry v x in
        let mine = h.senders pass v at in
        let posted : ℕ → List E = λ p. h.posted p ++ of sender_of p (x ∷ []) in
        let seated : (p : ℕ) → sender_of x ≡ p → h.seat p ≡ some pass = λ p e. ap h.seat (sym e ∙ from) ∙ mine.seated sends in
        let same : (p : ℕ) → (h.seat p ≡ some pass → ⊥) → posted p ≡ h.posted p = λ p n. ap (λ l. h.posted p ++ l) (of_other p x (λ e. n (seated p e))) ∙ append-nil (h.posted p) in (
          w,
          record {
            taker = h.taker;
            seat = h.seat;
            posted = posted;
            taken = h.taken;
            delivers = λ p. ap (of sender_of p) (sym (append_assoc h.taken items (x ∷ []))) ∙ filter-append (λ y. eqb (sender_of y) p) (h.taken ++ items) (x ∷ []) ∙ ap (λ l. l ++ of sender_of p (x ∷ [])) (h.delivers p);
            senders = all_set (FitsSender h.seat posted) views pass w (record {
              seated = mine.seated;
              posts = λ s. ap (λ l. l ++ x ∷ []) (mine.posts s) ∙ ap (λ l. h.posted v.number ++ l) (sym (of_own v.number x from));
              alone = mine.alone;
            }) (λ j u other e. let theirs = h.senders j u e in record {
              seated = theirs.seated;
              posts = λ s. theirs.posts s ∙ sym (same u.number (λ q. other (some-injective j pass (sym (theirs.seated s) ∙ q))));
              alone = theirs.alone;
            });
            takers = all_set (FitsTaker h.taker h.seat posted h.taken) views pass w (no_taker _ _ _ _ pass w (mine.alone sends))
                (λ j u other e. let theirs = h.takers j u e in
                let free : (p : ℕ) → h.seat p ≡ none → h.seat p ≡ some pass → ⊥ = λ p f q. some-ne-none pass (sym q ∙ f) in record {
                  only = theirs.only;
                  takes = theirs.takes;
                  later = λ t p far. let was = theirs.later t p far in (was.0, same p (free p was.0) ∙ was.1);
                  handed = λ t p near. let was = theirs.handed t p near in (was.0, was.1 ∙ sym (same p (free p was.0)));
                  few = theirs.few;
                });
          },
          refl,
        )

    -- the taker takes the oldest entry
    pub takes : (pass : ℕ) (v : View E) → v.takes ≡ true → Pops (Kept sender_of) pass v (λ x w. w ≡ with_entry v x)
    takes pass v may x items views h at =
        let w : View E = with_entry v x in
        let mine = h.takers pass v at in (
          w,
          record {
            taker = h.taker;
            seat = h.seat;
            posted = h.posted;
            taken = h.taken ++ x ∷ [];
            delivers = λ p. ap (of sender_of p) (append_assoc h.taken (x ∷ []) items) ∙ h.delivers p;
            senders = all_set (FitsSender h.seat h.posted) views pass w (no_sender _ _ pass w (λ s. (h.senders pass v at).alone s may)) (λ j u other e. h.senders j u e);
            takers = all_set (FitsTaker h.taker h.seat h.posted (h.taken ++ x ∷ [])) views pass w (record {
              only = mine.only;
              takes = λ t. ap (λ l. l ++ x ∷ []) (mine.takes t);
              later = mine.later;
              handed = mine.handed;
              few = mine.few;
            }) (λ j u other e. no_taker _ _ _ _ j u (λ t. other ((h.takers j u e).only t ∙ sym (mine.only may))));
          },
          refl,
        )

    -- what a pass may learn at a moment
    looks : (pass : ℕ) (v : View E) → Learns (Kept sender_of) pass v (Allowed sender_of v)
    looks pass v items views h at = record { views = views; pass = pass; kept = h; is = at }

    -- what a call that posts owes
    pub posting : (n pass : ℕ) (v : View E) (x : E) → v.sends ≡ true → sender_of x ≡ v.number → Pushes (Kept sender_of) n pass v x (λ w. w ≡ with_entry v x) × Learns (Kept sender_of) pass v (Allowed sender_of v)
    posting n pass v x sends from = (posts n pass v x sends from, looks pass v)

    -- what a call that takes owes
    pub taking : (pass : ℕ) (v : View E) → v.takes ≡ true → Pops (Kept sender_of) pass v (λ x w. w ≡ with_entry v x) × Learns (Kept sender_of) pass v (Allowed sender_of v)
    taking pass v may = (takes pass v may, looks pass v)

    -- a number that is free is no other pass's
    apart : (seat : ℕ → Option ℕ) (p q pass : ℕ) → seat p ≡ none → seat q ≡ some pass → q ≡ p → ⊥
    apart seat p q pass free taken e = some-ne-none pass (sym taken ∙ ap seat e ∙ free)

    -- the seats with one changed
    changed : (ℕ → Option ℕ) → ℕ → Option ℕ → ℕ → Option ℕ
    changed seat n o p = cond (eqb p n) o (seat p)

    -- at that place
    changed_here : (seat : ℕ → Option ℕ) (n p : ℕ) (o : Option ℕ) → p ≡ n → changed seat n o p ≡ o
    unfolding changed
    changed_here seat n p o e = ap (λ b. cond b o (seat p)) (eq-eqb p n e)

    -- and at others
    changed_else : (seat : ℕ → Option ℕ) (n p : ℕ) (o : Option ℕ) → (p ≡ n → ⊥) → changed seat n o p ≡ seat p
    unfolding changed
    changed_else seat n p o e = ap (λ b. cond b o (seat p)) (ne_eqb p n e)

    -- the taker opens the pass of the next number
    pub opens : (pass : ℕ) (v : View E) → v.takes ≡ true → Forks (Kept sender_of) pass v (opened_one v) (newcomer v)
    opens pass v may items views h at =
        let left : View E = opened_one v in
        let right : View E = newcomer v in
        let mine = h.takers pass v at in
        let vs : List (View E) = set views pass left in
        let free = (mine.later may v.opened (le_refl v.opened)).0 in
        let seat : ℕ → Option ℕ = changed h.seat v.opened (some (length vs)) in
        let old_senders : All (FitsSender seat h.posted) vs = all_set (FitsSender seat h.posted) views pass left (no_sender _ _ pass left (λ s. (h.senders pass v at).alone s may))
        (λ j u other e. let theirs = h.senders j u e in record {
          seated = λ s. changed_else h.seat v.opened u.number _ (apart h.seat v.opened u.number j free (theirs.seated s)) ∙ theirs.seated s;
          posts = theirs.posts;
          alone = theirs.alone;
        }) in
        let old_takers : All (FitsTaker h.taker seat h.posted h.taken) vs = all_set (FitsTaker h.taker seat h.posted h.taken) views pass left (record {
          only = mine.only;
          takes = mine.takes;
          later = λ t p far. let was = mine.later t p (omega arith) in (changed_else h.seat v.opened p _ (λ e. absurd (omega arith)) ∙ was.0, was.1);
          handed = λ t p near. let was = mine.handed t p near in let few = mine.few t in (changed_else h.seat v.opened p _ (λ e. absurd (omega arith)) ∙ was.0, was.1);
          few = λ t. let few = mine.few t in omega arith;
        }) (λ j u other e. no_taker _ _ _ _ j u (λ t. other ((h.takers j u e).only t ∙ sym (mine.only may)))) in
        record {
          taker = h.taker;
          seat = seat;
          posted = h.posted;
          taken = h.taken;
          delivers = h.delivers;
          senders = λ j u e. ⊎_elim (λ x. old_senders j u x) (λ (x : (j ≡ length vs) × (right ≡ u)). subst (λ (y : ℕ × View E). FitsSender seat h.posted y.0 y.1) (λ i. (sym x.0 i, x.1 i)) (record {
            seated = λ s. changed_here h.seat v.opened v.opened _ refl;
            posts = λ s. sym (mine.later may v.opened (le_refl v.opened)).1;
            alone = λ s t. false_true t;
          })) (at_end vs right u j e);
          takers = λ j u e. ⊎_elim (λ x. old_takers j u x) (λ (x : (j ≡ length vs) × (right ≡ u)). subst (λ (y : ℕ × View E). FitsTaker h.taker seat h.posted h.taken y.0 y.1) (λ i. (sym x.0 i, x.1 i)) (no_taker _ _ _ _ (length vs) right false_true)) (at_end vs right u j e);
        }

    -- the pass of the next number is handed in to the taker
    pub hands : (pass : ℕ) (v : View E) (other : ℕ) (w : View E) → v.takes ≡ true → w.sends ≡ true → w.number ≡ length v.handed → Merges (Kept sender_of) pass v other w (handed_one v w) spent
    hands pass v other w may sends next items views h at two at' =
        let both : View E = handed_one v w in
        let mine = h.takers pass v at in
        let vs : List (View E) = set views pass both in
        let was : get_elem? views other ≡ some w = sym (set_else views pass other both two) ∙ at' in
        let theirs = h.senders other w was in
        let few = mine.few may in
        let seated = theirs.seated sends in
        let below : v.opened ≤ w.number → ⊥ = λ far. apart h.seat w.number w.number other (mine.later may w.number far).0 seated refl in
        let inside : w.number < v.opened = lt_of_not-le below in
        let seat : ℕ → Option ℕ = changed h.seat w.number none in
        let freed : (p : ℕ) → h.seat p ≡ none → seat p ≡ none = λ p f. ⊎_elim (λ x. changed_here h.seat w.number p none (eqb-true p w.number x.0)) (λ x. changed_else h.seat w.number p none x.1 ∙ f) (eqb_tells p w.number) in
        let NowSender : ℕ → View E → Type 0 = λ j u. j ≢ other → FitsSender seat h.posted j u in
        let senders : All NowSender vs = all_set NowSender views pass both (λ _. no_sender _ _ pass both (λ s. (h.senders pass v at).alone s may))
        (λ j u _ e away. let his = h.senders j u e in record {
          seated = λ s. changed_else h.seat w.number u.number none (λ q. away (some-injective j other (sym (his.seated s) ∙ ap h.seat q ∙ seated))) ∙ his.seated s;
          posts = his.posts;
          alone = his.alone;
        }) in
        let takers : All (FitsTaker h.taker seat h.posted h.taken) vs = all_set (FitsTaker h.taker seat h.posted h.taken) views pass both (record {
          only = mine.only;
          takes = mine.takes;
          later = λ t p far. let old = mine.later t p far in (freed p old.0, old.1);
          handed = λ t p near.
              let many = length-append v.handed (w.entries ∷ []) in
              ⊎_elim
              (λ (x : (eqb p w.number ≡ true) × (p ≡ w.number)). (
                changed_here h.seat w.number p none x.1,
                ap (λ k. get_or (v.handed ++ w.entries ∷ []) k []) (x.1 ∙ next) ∙ get_or-append_seam v.handed w.entries [] [] ∙ theirs.posts sends ∙ ap h.posted (sym x.1),
              ))
              (λ (x : (eqb p w.number ≡ false) × (p ≢ w.number)).
              let n = x.1 in
              let short : p < length v.handed = lt_of_not-le (λ far. n (omega arith)) in
              let old = mine.handed t p short in (
                changed_else h.seat w.number p none n ∙ old.0,
                get_or-append v.handed (w.entries ∷ []) [] p short ∙ old.1,
              ))
              (eqb_tells p w.number);
          few = λ t. let n = length-append v.handed (w.entries ∷ []) in omega arith;
        }) (λ j u away e. no_taker _ _ _ _ j u (λ t. away ((h.takers j u e).only t ∙ sym (mine.only may)))) in
        record {
          taker = h.taker;
          seat = seat;
          posted = h.posted;
          taken = h.taken;
          delivers = h.delivers;
          senders = all_set (FitsSender seat h.posted) vs other spent (no_sender _ _ other spent false_true) (λ j u away e. senders j u e away);
          takers = all_set (FitsTaker h.taker seat h.posted h.taken) vs other spent (no_taker _ _ _ _ other spent false_true) (λ j u away e. takers j u e);
        }
