-- Without items nobody sends one.
use Rattle.std.proofs.Common.{◌≡◌, ◌<◌, ◌∷◌, ◌++◌, ◌==◌, ◌⊎◌}
use Rattle.std.specs.List.{AllByRecursion}
use Rattle.naive_meaning.proofs.Common.{ℕ, nat_le, List, [], Bool, true, false, cond, refl, sym, ◌∙◌, ap, arith, inl, inr, map, filter, eqb-false, Entry, Sent, by, is_for, mail, number_after, replies, stamped, lifted, lifted_sent}
use Rattle.actor_theory.specs.Language.{Moment, before, first, loaded, next, reply, sends as all_sends}
use Rattle.actor_theory.specs.Joined.{Slots, Reader, joined, carrying, actor_sent, slots_only}
use Rattle.actor_theory.proofs.Joining.{mail-to_actors_none, mail-to_slots_none}
use Rattle.naive_meaning.proofs.Carried.{cargoes, with_cargo}

-- it carries a cargo
abbrev pub IsCargo : {C I : Type 0} → C ⊎ I → Type 0
IsCargo (inl c) = Unit {0}
IsCargo (inr i) = ⊥

-- each of these carries a cargo
abbrev pub AllCargo : {C I : Type 0} → List (Entry (C ⊎ I)) → Type 0
AllCargo {C} {I} es = AllByRecursion (λ (e : Entry (C ⊎ I)). IsCargo e.cargo) es

-- two lists of cargoes
pub all-append : {C I : Type 0} (xs ys : List (Entry (C ⊎ I))) → AllCargo xs → AllCargo ys → AllCargo (xs ++ ys)
all-append [] ys a b = b
all-append (x ∷ xs) ys a b = (a.0, all-append xs ys a.1 b)

-- the second of two lists
pub all-back : {C I : Type 0} (xs ys : List (Entry (C ⊎ I))) → AllCargo (xs ++ ys) → AllCargo ys
all-back [] ys a = a
all-back (x ∷ xs) ys a = all-back xs ys a.1

-- the first of two lists
pub all-front : {C I : Type 0} (xs ys : List (Entry (C ⊎ I))) → AllCargo (xs ++ ys) → AllCargo xs
all-front [] ys a = tt
all-front (x ∷ xs) ys a = (a.0, all-front xs ys a.1)

-- where all carry one, nothing is lost
pub all-lifted : {C I : Type 0} (xs : List (Entry (C ⊎ I))) → AllCargo xs → map lifted (cargoes xs) ≡ xs
all-lifted [] a = refl
all-lifted {C} {I} (x ∷ xs) a = go (all-lifted xs a.1) x.cargo refl a.0
  where
    with_that : C ⊎ I → Entry (C ⊎ I)
    with_that k = record { sender = x.sender; stamp = x.stamp; cargo = k }

    go : map lifted (cargoes xs) ≡ xs → (k : C ⊎ I) → x.cargo ≡ k → IsCargo k → map lifted (with_cargo x k (cargoes xs)) ≡ x ∷ xs
    go ih (inl c) i h = ap (λ es. lifted (carrying x c) ∷ es) ih ∙ ap (λ k. with_that k ∷ xs) (sym i)
    go ih (inr j) i h = absurd h

-- where each sender's do, all do
pub all-by : {C I : Type 0} (es : List (Entry (C ⊎ I))) → ((s : ℕ) → AllCargo (by s es)) → AllCargo es
all-by [] h = tt
all-by {C} {I} (e ∷ es) h = (here (e.sender == e.sender) refl (h e.sender), all-by es (λ s. rest s (e.sender == s) (h s)))
  where
    here : (b : Bool) → (e.sender == e.sender) ≡ b → AllCargo (cond b (e ∷ by e.sender es) (by e.sender es)) → IsCargo e.cargo
    here true i a = a.0
    here false i a = absurd (eqb-false e.sender e.sender i refl)

    rest : (s : ℕ) (b : Bool) → AllCargo (cond b (e ∷ by s es) (by s es)) → AllCargo (by s es)
    rest s true a = a.1
    rest s false a = a

-- what is sent of cargoes
pub all-mail : {C : Type 0} (I : Type 0) (s n d : ℕ) (xs : List (Sent C)) → AllCargo {C = C} {I = I} (mail s n d (map lifted_sent xs))
all-mail I s n d [] = tt
all-mail {C} I s n d (x ∷ xs) = go (all-mail I s n d xs) (x.target == d)
  where
    go : AllCargo {C = C} {I = I} (mail s n d (map lifted_sent xs)) → (b : Bool) → AllCargo {C = C} {I = I} (map (stamped s n) (cond b (lifted_sent x ∷ filter (is_for d) (map lifted_sent xs)) (filter (is_for d) (map lifted_sent xs))))
    go ih true = (tt, ih)
    go ih false = ih

module _ {S R C I : Type 0} (contexts : ℕ) (A : Slots S C) (B : Reader R C I) where
  -- a handling sends cargoes, and to actors alone
  one-all : (s d n : ℕ) (state : S ⊎ R) (e : Entry (C ⊎ I)) (k : C ⊎ I) → e.cargo ≡ k → AllCargo {C = C} {I = I} (mail s n d (actor_sent contexts A B state n e))
  one-all s d n (inl c) e (inl x) i = rw i (all-mail I s n d (filter (λ y. nat_le y.target contexts) (A.sent c n (carrying e x))))
  one-all s d n (inl c) e (inr x) i = rw i tt
  one-all s d n (inr r) e (inl x) i = rw i tt
  one-all s d n (inr r) e (inr x) i = rw i (all-mail I s n d (slots_only contexts (B.item_sent r x)))

  -- it sends nothing past the actors
  one-past : (s d n : ℕ) (state : S ⊎ R) (e : Entry (C ⊎ I)) (k : C ⊎ I) → e.cargo ≡ k → contexts < d → mail s n d (actor_sent contexts A B state n e) ≡ []
  one-past s d n (inl c) e (inl x) i lt = rw i (mail-to_actors_none contexts s n d (A.sent c n (carrying e x)) lt)
  one-past s d n (inl c) e (inr x) i lt = rw i refl
  one-past s d n (inr r) e (inl x) i lt = rw i refl
  one-past s d n (inr r) e (inr x) i lt = rw i (mail-to_slots_none contexts s n d (B.item_sent r x) (omega arith))

  -- so handlings send cargoes
  pub replies-all : (s d : ℕ) (m : Moment (S ⊎ R)) (log : List (Entry (C ⊎ I))) → AllCargo (replies (joined contexts A B) s d m log)
  replies-all s d m [] = tt
  replies-all s d m (e ∷ es) = all-append (reply (joined contexts A B) s d m e) (replies (joined contexts A B) s d (next (joined contexts A B) m e) es) (one-all s d (number_after m.number e) m.state e e.cargo refl) (replies-all s d (next (joined contexts A B) m e) es)

  -- and nothing past the actors
  pub replies-past : (s d : ℕ) (m : Moment (S ⊎ R)) (log : List (Entry (C ⊎ I))) → contexts < d → replies (joined contexts A B) s d m log ≡ []
  replies-past s d m [] lt = refl
  replies-past s d m (e ∷ es) lt =
      ap (λ xs. xs ++ replies (joined contexts A B) s d (next (joined contexts A B) m e) es) (one-past s d (number_after m.number e) m.state e e.cargo refl lt) ∙ replies-past s d (next (joined contexts A B) m e) es lt

  -- without items all that is sent are cargoes
  pub sends-all : (s d : ℕ) (log : List (Entry (C ⊎ I))) → AllCargo (all_sends (joined contexts A B) [] s d log)
  sends-all s d log = all-append (mail s 0 d (before (joined contexts A B) [] s)) (replies (joined contexts A B) s d (first (joined contexts A B) s) log) (go (s == contexts)) (replies-all s d (first (joined contexts A B) s) log)
    where
      go : (b : Bool) → AllCargo (mail s 0 d (cond b (loaded (joined contexts A B) []) []))
      go true = all-mail I s 0 d (slots_only contexts B.loads)
      go false = tt
